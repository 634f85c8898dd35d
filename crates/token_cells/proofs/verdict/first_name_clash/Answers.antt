use Rattle.std.proofs.Common.{◌++◌, ap, ap₂, sym, ◌∙◌}
use Rattle.std.specs.List.{zip}
use Rattle.refusals.specs.Refusal.{report_text}
use Rattle.transforms.specs.declared.platform.Platform.TheVariants.{Css, Android, Swift}
use Rattle.token_cells.specs.Breaks.{clashes_on, verdict_text}
use Rattle.token_cells.specs.inner.Kept.{rows_view, texts_of}
use Rattle.token_cells.proofs.NamedAlike.{nothing_told, alike_untold}
use Rattle.token_cells.proofs.verdict.first_name_clash.Goals as goal

pub returns-then-are_named_alike : goal.returns-then-are_named_alike
returns-then-are_named_alike c =
    let told = report_text c.args.files.now in
    let tokens = c.args.tokens.now in
    let cells = rows_view (texts_of c.args.pages.now) c.args.rows.now in
    let css = nothing_told told (clashes_on Css (zip tokens cells)) (sym c.in_default.is ∙ c.in_ok-text.ensures) in
    let android = nothing_told told (clashes_on Android (zip tokens cells)) (sym c.in_default-2.is ∙ c.in_ok-text-2.ensures) in
    let swift = alike_untold Android Swift tokens cells (c.are_named_alike.ensures (texts_of c.args.pages.now) c.if-are_named_alike.true) android in
    ap (verdict_text c.args.files.now) (sym (ap₂ (λ x y. x ++ y) css (ap₂ (λ x y. x ++ y) android swift)))
