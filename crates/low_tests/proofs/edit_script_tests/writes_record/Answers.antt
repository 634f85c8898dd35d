use Rattle.std.proofs.Common.{sym, ap, ◌∙◌}
use Rattle.std.specs.Option.{option_map}
use Rattle.edit_script.specs.View.{change_view}
use Rattle.low_tests.proofs.edit_script_tests.writes_record.Goals as goal

pub write_change-requires : goal.write_change-requires
write_change-requires c = c.requires.lined (change_view c.in-Some.change.now) (sym c.at.ensures ∙ ap (λ r. option_map (λ x. change_view x.now) r) c.in-Some.is)
