use Rattle.std.proofs.Common.{rules, ◌≡◌, ◌∷◌, [], List, sym, subst}
use Rattle.std.specs.FinMap as map
use Rattle.group_inherit.specs.Flattening.{TokenAt}
use Rattle.json_span.specs.Tree.{tree_of}
use Rattle.token_tree.specs.Tree.{Definition}
use Rattle.alias_ref.specs.Written.{Step, refers, written_as}
use Rattle.alias_ref.specs.inner.Contents.{role_of}
use Rattle.alias_ref.specs.inner.Remembering.{AreAt, PathStandsAt}
use Rattle.alias_ref.proofs.AliasChains.{led, alias_led}
use Rattle.alias_ref.proofs.RefsInTurn.{alias_names}
use Rattle.alias_ref.proofs.TracesGrow.{some_case}
use Rattle.alias_ref.proofs.remembering.lead.Goals as goal

pub returns-clause-right : goal.returns-clause-right
returns-clause-right c =
    let flat = c.args.flat.now in
    let token : TokenAt = c.args.token.now in
    let tokens : List TokenAt = c.as_slice-tokens.result.now in
    let named : List Step = c.in-Some.named in
    let j = c.in-Some-place_of.target in
    let is = some_case c.in_ok-named.field-0 c.in-Some.named _ c.in-Some.is c.in_ok-named.ensures in
    let same : c.deref.result.now ≡ token.1.def = search rules in
    let written = subst (λ (d : Definition). written_as (role_of d.by_ref) (tree_of d.value) ≡ refers named []) same is in
    let stands = subst (λ (ts : List TokenAt). PathStandsAt ts named j) c.as_slice-tokens.ensures.entries c.in-Some-place_of.ensures in
    led flat c.args.aliases.now.targets.items c.lead.new.self.targets.items c.args.i j token c.requires.right c.lead.ensures c.requires.token
    (alias_led flat c.args.i j token named c.requires.token stands written)

pub returns-clause-alone : goal.returns-clause-alone
returns-clause-alone c =
    let flat = c.args.flat.now in
    let token : TokenAt = c.args.token.now in
    let named : List Step = c.in-Some.named in
    let j = c.in-Some-place_of.target in
    let is = some_case c.in_ok-named.field-0 c.in-Some.named _ c.in-Some.is c.in_ok-named.ensures in
    let same : c.deref.result.now ≡ token.1.def = search rules in
    let written = subst (λ (d : Definition). written_as (role_of d.by_ref) (tree_of d.value) ≡ refers named []) same is in
    let stands = subst (λ (ts : List TokenAt). PathStandsAt ts named j) c.as_slice-tokens.ensures.entries c.in-Some-place_of.ensures in
    subst (λ ps. AreAt (map.entries flat) ps (j ∷ [])) (sym (alias_names token.1.def named written)) (stands, tt)
