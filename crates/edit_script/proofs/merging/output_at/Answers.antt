use Rattle.std.proofs.Common.{Some, option_map, ap, sym, ◌∙◌}
use Rattle.std.specs.Option.{option_copied}
use Rattle.std.specs.String.{string_bytes}
use Rattle.tk_io.proofs.MapViews.{item_shown}
use Rattle.edit_script.proofs.merging.output_at.Goals as goal

pub returns-in-Some : goal.returns-in-Some
returns-in-Some c =
    let found = ap option_copied (sym c.in-Some.is) ∙ c.entry_at.ensures in
    ap (λ s. Some (s, c.as_slice.result.now)) c.as_str.ensures.value
    ∙ (ap (λ s. Some (string_bytes c.in-Some.field-0.now.0, s)) c.as_slice.ensures
    ∙ (ap (λ r. option_map (λ e. (string_bytes e.0, e.1)) r) found ∙ item_shown string_bytes (λ v. v) c.args.entries.now c.args.i))

pub returns-in-None : goal.returns-in-None
returns-in-None c =
    ap (λ r. option_map (λ e. (string_bytes e.0, e.1)) r) (ap option_copied (sym c.in-None.is) ∙ c.entry_at.ensures)
    ∙ item_shown string_bytes (λ v. v) c.args.entries.now c.args.i
