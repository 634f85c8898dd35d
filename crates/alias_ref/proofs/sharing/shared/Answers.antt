use Rattle.std.proofs.Common.{◌≡◌, ◌+◌, ◌≤◌, List, Some, option_map, arith, sym, ap, ◌∙◌, subst}
use Rattle.std.specs.Borrow.{Bor}
use Rattle.std.specs.FinMap as map
use Rattle.std.specs.List.{slice_get}
use Rattle.group_inherit.specs.Flattening.{TokenAt}
use Rattle.alias_ref.specs.Visits.{most_on_branch}
use Rattle.alias_ref.specs.declared.memory.Known.{Known}
use Rattle.alias_ref.specs.declared.resolved.Resolved.{Resolved}
use Rattle.alias_ref.specs.inner.Remembering.{known_at}
use Rattle.alias_ref.specs.inner.Chains.{target_at, IsAlias, IsShared}
use Rattle.alias_ref.proofs.RememberedTokens.{read_at, some_same}
use Rattle.alias_ref.proofs.SharedAliases.{alias_counted, alias_resolved}
use Rattle.alias_ref.proofs.sharing.shared.Goals as goal

pub returns-clause-resolved : goal.returns-clause-resolved
returns-clause-resolved c =
    let flat = c.args.flat.now in
    let m = c.args.memory.now.known.items in
    let i = c.args.i in
    let j = c.in-Some.j in
    let token : TokenAt = c.args.token.now in
    let other : TokenAt = c.in-Some-get.other.now in
    let known : Known = c.in-Some-at.known.now in
    let target : target_at c.args.aliases.now.targets.items i ≡ Some j = sym c.target.ensures ∙ c.in-Some.is in
    let a : IsAlias flat token.0 j = c.requires.aliases i j token c.requires.token target in
    let is : known_at m j ≡ Some known = sym c.at.ensures ∙ ap (option_map (λ (k : Bor Known). k.now)) c.in-Some-at.is in
    let tokens : List TokenAt = c.as_slice-tokens.result.now in
    let at : slice_get (map.entries flat) j ≡ Some other =
    subst (λ (ts : List TokenAt). slice_get ts j ≡ Some other) c.as_slice-tokens.ensures.entries (read_at tokens j other c.in-Some-get.ensures.lookup.3.0 c.in-Some-get.ensures.lookup.3.1) in
    let same : other.0 ≡ a.named = ap (λ (t : TokenAt). t.0) (some_same other (a.named, a.stands.0) (sym at ∙ a.stands.1)) in
    let room : 1 + known.visits ≤ most_on_branch = omega (arith, c.if-known-ge-MOST_ON_BRANCH.false) in
    let r : Resolved = c.in_ok-resolved.resolved in
    let shown : IsShared other.0 token.1 known.resolved r = c.in_ok-resolved.ensures in
    alias_resolved flat m i j token known c.requires.right c.requires.token c.requires.new a is room r (subst (λ n. IsShared n token.1 known.resolved r) same shown)

pub returns-clause-counted : goal.returns-clause-counted
returns-clause-counted c =
    let flat = c.args.flat.now in
    let m = c.args.memory.now.known.items in
    let i = c.args.i in
    let j = c.in-Some.j in
    let token : TokenAt = c.args.token.now in
    let known : Known = c.in-Some-at.known.now in
    let target : target_at c.args.aliases.now.targets.items i ≡ Some j = sym c.target.ensures ∙ c.in-Some.is in
    let a : IsAlias flat token.0 j = c.requires.aliases i j token c.requires.token target in
    let is : known_at m j ≡ Some known = sym c.at.ensures ∙ ap (option_map (λ (k : Bor Known). k.now)) c.in-Some-at.is in
    let room : 1 + known.visits ≤ most_on_branch = omega (arith, c.if-known-ge-MOST_ON_BRANCH.false) in
    alias_counted flat m i j token known c.requires.right c.requires.token c.requires.new a is room
