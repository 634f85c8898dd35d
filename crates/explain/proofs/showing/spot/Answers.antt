use Rattle.std.proofs.Common.{sym, ap, ◌∙◌}
use Rattle.std.specs.Option.{option_copied}
use Rattle.alias_ref.specs.Written.{is_written}
use Rattle.explain.proofs.HopsHold.{true_false}
use Rattle.explain.proofs.PlacesWritten.{none_there}
use Rattle.explain.proofs.showing.spot.Goals as goal

pub unreachable-requires : goal.unreachable-requires
unreachable-requires c =
    true_false (sym c.requires.written ∙ ap is_written (none_there c.args.flat.now c.args.place.now (sym c.get.ensures ∙ ap option_copied c.in_default.is)))
