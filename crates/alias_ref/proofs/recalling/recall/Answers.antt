use Rattle.std.proofs.Common.{rules, ◌≡◌, true, [], Some, option_map, sym, ap, ◌∙◌, subst}
use Rattle.std.specs.Borrow.{Bor}
use Rattle.std.specs.FinMap as map
use Rattle.alias_ref.specs.declared.memory.Known.{Known}
use Rattle.alias_ref.specs.inner.Remembering.{known_at, PathStandsAt, CountsVisits}
use Rattle.json_span.specs.PlainView.{plain_view}
use Rattle.alias_ref.proofs.RememberedTokens.{none_of, recalled}
use Rattle.alias_ref.proofs.recalling.recall.Goals as goal

pub returns-clause-some : goal.returns-clause-some
returns-clause-some c = λ token h.
    let m = c.args.memory.now.known.items in
    let known = c.in-Some-at.known in
    let named = c.args.named.now in
    let i = c.in-Some.i in
    let stands : PathStandsAt (map.entries c.args.flat.now) named.token i = subst (λ ts. PathStandsAt ts named.token i) c.as_slice.ensures.entries c.in-Some.ensures in
    let is : known_at m i ≡ Some known.now = sym c.at.ensures ∙ ap (option_map (λ (k : Bor Known). k.now)) c.in-Some-at.is in
    let own : c.args.own ≡ true = search rules in
    let empty : c.is_empty.result ≡ true = search rules in
    let none : named.trail ≡ [] = none_of named.trail (sym c.is_empty.ensures ∙ empty) in
    let counts : CountsVisits c.args.trace.now c.visit_known.new.self known.now.visits = search rules in
    recalled c.args.flat.now m c.args.own named token c.args.trace.now c.visit_known.new.self i known.now _ stands is own none counts (c.in_ok-plain.ensures ∙ ap plain_view c.deref.ensures) (search rules) h
