use Rattle.std.proofs.Common.{Bor, List, ℕ, ◌++◌, map, sym, ap, ◌∙◌}
use Rattle.std.proofs.lemmas.Result.{on_ok_weaker}
use Rattle.token_cells.specs.inner.Kept.{texts_of}
use Rattle.token_cells.proofs.pages.Pages.push_names.Goals as goal

pub returns : goal.returns
returns c =
    let before = map (λ (name : Bor (List ℕ)). name.now) c.args.names.now.items in
    on_ok_weaker c.push_run.result (λ pushed. pushed ∙ ap (λ names. before ++ names) (sym (c.run_on.ensures (texts_of c.args.self.now)))) c.push_run.ensures
