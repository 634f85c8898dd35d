use Rattle.std.proofs.Common.{◌≡◌, ℕ, List, subst, IfSome, true, false}
use Rattle.name_path.specs.Names.{IsTokenPath}
use Rattle.name_path.specs.Reference.{curly_text}
use Rattle.name_path.specs.inner.Pieces.{ArePlain}
use Rattle.name_path.proofs.Spellings.{token_plain}
use Rattle.name_path.proofs.reading.read_curly.Goals as goal

pub returns-then-not-is_token_path-clause-bad : goal.returns-then-not-is_token_path-clause-bad
returns-then-not-is_token_path-clause-bad c = λ _ path s.
    let one = subst (λ o. IfSome o (λ p. (other : List (List ℕ)) → ArePlain other → c.args.text.now ≡ curly_text other → other ≡ p)) c.in-Some.is c.in_ok-path.ensures.one in
    let same : path ≡ c.in-Some.path = one path (token_plain path s.0) s.1 in
    (let k : false ≡ true = c.if-not-is_token_path.ensures.1 (subst IsTokenPath same s.0) in cc)
