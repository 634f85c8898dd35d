use Rattle.std.proofs.Common.{◌≡◌, Some, None, option_map, sym, ap, ◌∙◌}
use Rattle.std.proofs.lemmas.Result.{err_from_is_err_and}
use Rattle.std.specs.Borrow.{Bor}
use Rattle.alias_ref.specs.declared.memory.Known.{Known}
use Rattle.alias_ref.specs.inner.Remembering.{known_at}
use Rattle.alias_ref.proofs.AnswersAreOne.{fault_broken, fault_ring}
use Rattle.alias_ref.proofs.RememberedTokens.{entry_there, new_serves, same_resolved}
use Rattle.alias_ref.proofs.evaluator.answer.Goals as goal

pub returns-in-Some-clause-resolved : goal.returns-in-Some-clause-resolved
returns-in-Some-clause-resolved c =
    let known = c.in-Some.known.now in
    let is : known_at c.args.memory.now.known.items c.args.i ≡ Some known = sym c.at.ensures ∙ ap (option_map (λ (k : Bor Known). k.now)) c.in-Some.is in
    same_resolved c.args.flat.now c.args.token.now.0 known.resolved c.in_ok-resolved.resolved c.in_ok-resolved.ensures (c.requires.right c.args.i c.args.token.now known c.requires.token is).resolved

pub resolve-requires : goal.resolve-requires
resolve-requires c =
    let m = c.args.memory.now.known.items in
    let none : known_at m c.args.i ≡ None = sym c.at.ensures ∙ ap (option_map (λ (k : Bor Known). k.now)) c.in_default.is in
    record {
      token = entry_there c.args.flat.now c.args.i c.args.token.now c.requires.token;
      home = new_serves c.args.flat.now m c.args.i c.args.token.now c.requires.right c.requires.token none;
    }

pub follow_aliases-requires : goal.follow_aliases-requires
follow_aliases-requires c = record { token = (c.args.token.now.0, (c.args.token.now.1, c.requires.token)); aliases = c.requires.aliases }

pub returns-in_err-follow_aliases-clause-broken : goal.returns-in_err-follow_aliases-clause-broken
returns-in_err-follow_aliases-clause-broken c =
    let token = c.args.token.now in
    let told = c.in_err-follow_aliases.ensures.told token.0 (token.1, c.requires.token) in
    let p = err_from_is_err_and c.from_residual-in_err-follow_aliases.result c.from_residual-in_err-follow_aliases.ensures.1 in
    rw (p.1, p.2) (fault_broken c.args.flat.now token.0 c.in_err-follow_aliases.field-0.0 told)

pub returns-in_err-follow_aliases-clause-ring : goal.returns-in_err-follow_aliases-clause-ring
returns-in_err-follow_aliases-clause-ring c =
    let token = c.args.token.now in
    let told = c.in_err-follow_aliases.ensures.told token.0 (token.1, c.requires.token) in
    let p = err_from_is_err_and c.from_residual-in_err-follow_aliases.result c.from_residual-in_err-follow_aliases.ensures.1 in
    rw (p.1, p.2) (fault_ring c.args.flat.now token.0 c.in_err-follow_aliases.field-0.0 told)
