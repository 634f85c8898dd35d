use Rattle.std.proofs.Common.{◌≡◌, Some, option_map, sym, ap, ◌∙◌}
use Rattle.std.specs.Borrow.{Bor}
use Rattle.alias_ref.specs.declared.memory.Known.{Known}
use Rattle.alias_ref.specs.inner.Remembering.{known_at}
use Rattle.alias_ref.proofs.RememberedTokens.{entry_there, same_resolved}
use Rattle.alias_ref.proofs.evaluator.at_hand.Goals as goal

pub returns-in-Some : goal.returns-in-Some
returns-in-Some c = λ flat there right.
    let known = c.in-Some.known.now in
    let is : known_at c.args.memory.now.known.items c.args.i ≡ Some known = sym c.at.ensures ∙ ap (option_map (λ (k : Bor Known). k.now)) c.in-Some.is in
    same_resolved flat c.args.token.now.0 known.resolved c.in_ok-resolved.resolved c.in_ok-resolved.ensures (right c.args.i c.args.token.now known there is).resolved

pub returns : goal.returns
returns c = λ flat there right. c.resolve_literal.ensures.resolved flat c.args.token.now.0 (entry_there flat c.args.i c.args.token.now there)
