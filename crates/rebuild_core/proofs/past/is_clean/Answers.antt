use Rattle.std.proofs.Common.{ap, ap₂, sym, ◌∙◌}
use Rattle.std.specs.FinMap as finite
use Rattle.std.specs.List.{zip}
use Rattle.std.specs.Option.{is_none}
use Rattle.token_cells.specs.Breaks.{token_reports, verdict, verdict_text}
use Rattle.rebuild_core.specs.inner.Clean.{is_clean}
use Rattle.rebuild_core.proofs.CleanOutcomes.{is_none_by, none_printed}
use Rattle.rebuild_core.proofs.past.is_clean.Goals as goal

pub returns-in_ok-broken-in-Tokens : goal.returns-in_ok-broken-in-Tokens
returns-in_ok-broken-in-Tokens c =
    let files = c.args.files.now in
    let tree = c.in-Tokens.tree in
    let told = c.in_ok-broken-in-Tokens.ensures ∙ ap₂ (λ f cs. verdict_text files (token_reports f (zip (finite.entries f) cs))) c.tokens.ensures c.cells.ensures in
    is_none_by c.in_ok-broken-in-Tokens.broken c.is_none.result c.is_none.ensures
    ∙ (ap is_none told ∙ (none_printed files (verdict (token_reports tree.tokens (zip (finite.entries tree.tokens) tree.cells))) ∙ ap is_clean (sym c.in-Tokens.is)))
