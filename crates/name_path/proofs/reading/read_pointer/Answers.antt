use Rattle.std.proofs.Common.{◌≡◌, ℕ, List, sym, subst, true, false}
use Rattle.name_path.specs.Names.{IsTokenPath}
use Rattle.name_path.specs.inner.Pieces.{IsValueCut}
use Rattle.name_path.proofs.Spellings.{no_place}
use Rattle.name_path.proofs.reading.read_pointer.Goals as goal

pub returns-then-not-is_token_path-clause-bad : goal.returns-then-not-is_token_path-clause-bad
returns-then-not-is_token_path-clause-bad c = λ _ place s.
    no_place c.args.text.now c.in_ok-steps.steps c.cut.result.0.now c.cut.result.1.now c.in_ok-steps.ensures.steps
    (subst (λ (xs : List (List ℕ)). IsValueCut xs c.cut.result.0.now c.cut.result.1.now) c.as_slice.ensures c.cut.ensures)
    (λ t. (let k : false ≡ true = c.if-not-is_token_path.ensures.1 (subst IsTokenPath (sym c.in_ok-token.ensures) t) in cc)) place s
