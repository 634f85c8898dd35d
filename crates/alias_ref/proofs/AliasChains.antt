-- Walks along chains of aliases.
use Rattle.std.proofs.Common.{◌≡◌, ℕ, zero, suc, ◌+◌, ◌<◌, ◌≤◌, Bool, true, false, cond, T, List, [], ◌∷◌, ◌++◌, length, length-append, get_or, take, set, option_map, Option, Some, None, inl, inr, refl, sym, ap, ap₂, ◌∙◌, subst, arith}
use Rattle.std.specs.Prelude.{◌⊎◌, ◌==◌, IfSome, nat_le, option_and_then, unwrap_or}
use Rattle.std.specs.FinMap as flat_map
use Rattle.std.specs.FinMap.Entries.{is_sorted}
use Rattle.std.specs.List.{slice_get}
use Rattle.std.proofs.lemmas.Bool.{eq-eqb}
use Rattle.std.proofs.lemmas.List.{take_more}
use Rattle.tk_io.specs.Order.{names_cmp}
use Rattle.name_path.specs.declared.place.Place.{Place}
use Rattle.json_span.specs.Tree.{tree_of}
use Rattle.group_inherit.specs.Flattening.{TokenAt}
use Rattle.alias_ref.specs.Written.{Step, refers, WrittenPlaces, whole, is_written, is_misspelled, written_as, written_in}
use Rattle.alias_ref.specs.Visits.{Way, visit, ends_at, way_of, settle_by, passed, walked, same_place, since, ref_break, break_if, own_break, first_break, walk_break, most_on_branch}
use Rattle.alias_ref.specs.Laws.{Flat}
use Rattle.alias_ref.specs.declared.fault.RefFault.{RefFault}
use Rattle.alias_ref.specs.declared.fault.RefFault.TheVariants as faults
use Rattle.alias_ref.specs.declared.fault.RefRule.TheVariants as rule
use Rattle.alias_ref.specs.inner.Contents.{role_of}
use Rattle.alias_ref.specs.inner.Seen.{Clean, IsFault}
use Rattle.alias_ref.specs.inner.Remembering.{PathStandsAt}
use Rattle.alias_ref.specs.inner.Chains.{Targets, target_at, HasNone, IsAlias, AreAliases, IsLed, whole_at, branch_of, HasToken, is_marked, IsChain, IsMarkedAt, IsBreakAt, IsNewBehind, LeadsTo, HasStepped}
use Rattle.alias_ref.proofs.FirstBreaks.{clean_nil, unbroken, walked-fault}
use Rattle.alias_ref.proofs.RememberedTokens.{some_same, one_place, entry_there}
use Rattle.alias_ref.proofs.SamePlaces.{same_place-is}
use Rattle.alias_ref.proofs.SpotsStand.{whole_role}
use Rattle.alias_ref.proofs.WalksInTurns.{way_here, walk_fault, target_then_fault}
use Rattle.alias_ref.proofs.WrittenParts.{written_stands, whole_stands}

fails : (b : Bool) → (b ≡ true → ⊥) → b ≡ false
fails true h = absurd (h refl)
fails false h = refl

same_self : (i : ℕ) → (i == i) ≡ true
same_self i = eq-eqb i i refl

-- Aliases.

-- what is said of one more
pub led : (flat : Flat) (old new : Targets) (i j : ℕ) (token : TokenAt) → AreAliases flat old → IsLed old new i j → slice_get (flat_map.entries flat) i ≡ Some token → IsAlias flat token.0 j → AreAliases flat new
led flat old new i j token right more there this k x t stands is =
    elim (more k x is) as (λ _. IsAlias flat t.0 x) [
      | inl (same, its) ↦
          let one : token ≡ t = some_same token t (sym there ∙ subst (λ n. slice_get (flat_map.entries flat) n ≡ Some t) same stands) in
          subst (λ u. IsAlias flat u.0 x) one (subst (IsAlias flat token.0) (sym its) this)
      | inr was ↦ right k x t stands was
    ]

pub blank_aliases : (flat : Flat) (ts : Targets) → HasNone ts → AreAliases flat ts
blank_aliases flat ts h i j token at is = absurd (h i j is)

pub none_more : (ts : Targets) → HasNone ts → HasNone (ts ++ None ∷ [])
none_more [] h zero j e = cc
none_more [] h (suc i) j e = cc
none_more (t ∷ ts) h zero j e = h zero j e
none_more (t ∷ ts) h (suc i) j e = none_more ts (λ k x d. h (suc k) x d) i j e

pub set_led : (ts : Targets) (i j : ℕ) → IsLed ts (set ts i (Some j)) i j
set_led [] i j k x e = inr e
set_led (t ∷ ts) zero j zero x e = inl (refl, sym (some_same j x e))
set_led (t ∷ ts) zero j (suc k) x e = inr e
set_led (t ∷ ts) (suc i) j zero x e = inr e
set_led (t ∷ ts) (suc i) j (suc k) x e = elim (set_led ts i j k x e) [
  | inl (same, is) ↦ inl (ap suc same, is)
  | inr was ↦ inr was
]

pub set_marked : (ms : List ℕ) (i at : ℕ) → i < length ms → IsMarkedAt ms (set ms i at) i at
set_marked ms i at within = record { here = here ms i within; elsewhere = λ j apart. other ms i j apart }
  where
    here : (ms : List ℕ) (i : ℕ) → i < length ms → slice_get (set ms i at) i ≡ Some at
    here [] i h = absurd (omega (arith, h))
    here (m ∷ ms) zero h = refl
    here (m ∷ ms) (suc i) h = here ms i (omega (arith, h))

    other : (ms : List ℕ) (i j : ℕ) → (j ≡ i → ⊥) → slice_get (set ms i at) j ≡ slice_get ms j
    other [] i j apart = refl
    other (m ∷ ms) zero zero apart = absurd (apart refl)
    other (m ∷ ms) zero (suc j) apart = refl
    other (m ∷ ms) (suc i) zero apart = refl
    other (m ∷ ms) (suc i) (suc j) apart = other ms i j (λ e. apart (ap suc e))

-- the whole value of a token is what its definition says
whole_written : (flat : Flat) (i : ℕ) (token : TokenAt) → slice_get (flat_map.entries flat) i ≡ Some token → written_in flat (whole token.0) ≡ Some (written_as (role_of token.1.def.by_ref) (tree_of token.1.def.value))
whole_written flat i token at =
    let there = whole_stands flat token.0 token.1 (entry_there flat i token at) in
    written_stands flat (whole token.0) token.1 token.1.def.value there ∙ ap (λ r. Some (written_as r (tree_of token.1.def.value))) (sym (whole_role token.1.def.by_ref))

pub alias_led : (flat : Flat) (i j : ℕ) (token : TokenAt) (named : List Step) → slice_get (flat_map.entries flat) i ≡ Some token → PathStandsAt (flat_map.entries flat) named j
    → written_as (role_of token.1.def.by_ref) (tree_of token.1.def.value) ≡ refers named [] → IsAlias flat token.0 j
alias_led flat i j token named at stands is = record { named = named; stands = stands; written = whole_written flat i token at ∙ ap Some is }

-- Chains.

pub whole_is : (tokens : List TokenAt) (i : ℕ) (path : List Step) → PathStandsAt tokens path i → whole_at tokens i ≡ whole path
whole_is tokens i path h = ap (λ o. whole (unwrap_or (option_map (λ t. t.0) o) [])) h.1

branch_length : (tokens : List TokenAt) (chain : List ℕ) → length (branch_of tokens chain) ≡ length chain
branch_length tokens [] = refl
branch_length tokens (c ∷ cs) = ap suc (branch_length tokens cs)

pub branch_more : (tokens : List TokenAt) (chain : List ℕ) (i : ℕ) → branch_of tokens (chain ++ i ∷ []) ≡ branch_of tokens chain ++ whole_at tokens i ∷ []
branch_more tokens [] i = refl
branch_more tokens (c ∷ cs) i = ap (λ ps. whole_at tokens c ∷ ps) (branch_more tokens cs i)

get_more : {A : Type 0} (xs : List A) (x y : A) (k : ℕ) → slice_get (xs ++ x ∷ []) k ≡ Some y → (slice_get xs k ≡ Some y) ⊎ ((k ≡ length xs) × (y ≡ x))
get_more [] x y zero e = inr (refl, sym (some_same x y e))
get_more [] x y (suc k) e = absurd (cc)
get_more (z ∷ xs) x y zero e = inl e
get_more (z ∷ xs) x y (suc k) e = elim (get_more xs x y k e) [
  | inl h ↦ inl h
  | inr (a, b) ↦ inr (ap suc a, b)
]

pub branch_next : (tokens : List TokenAt) (chain : List ℕ) (k i : ℕ) (old new : List Place) (place : Place)
    → old ≡ branch_of tokens (take k chain) → k < length chain → i ≡ get_or chain k i → place ≡ whole_at tokens i → new ≡ old ++ place ∷ [] → new ≡ branch_of tokens (take (k + 1) chain)
branch_next tokens chain k i old new place so_far within item is made =
    let more : take (k + 1) chain ≡ take k chain ++ i ∷ [] = take_more chain k i within ∙ ap (λ x. take k chain ++ x ∷ []) (sym item) in
    made ∙ ap₂ (λ b p. b ++ p ∷ []) so_far is ∙ sym (branch_more tokens (take k chain) i) ∙ ap (branch_of tokens) (sym more)

-- a place of the chain is found by its mark
unmarked : (tokens : List TokenAt) (marks chain : List ℕ) (i k : ℕ) → IsChain tokens marks chain → is_marked marks chain i ≡ false → slice_get chain k ≡ Some i → ⊥
unmarked tokens marks chain i k h apart e =
    let found : is_marked marks chain i ≡ (i == i) =
    ap (λ o. unwrap_or (option_map (λ j. j == i) (option_and_then (λ n. slice_get chain n) o)) false) (h.marked k i e)
    ∙ ap (λ o. unwrap_or (option_map (λ j. j == i) o) false) e in
    let both : false ≡ true = sym apart ∙ (found ∙ same_self i) in
    cc

pub chain_none : (tokens : List TokenAt) (marks : List ℕ) → IsChain tokens marks []
chain_none tokens marks = record { marked = λ k i e. absurd (cc); stand = λ k i e. absurd (cc) }

pub chain_more : (tokens : List TokenAt) (old new chain : List ℕ) (i : ℕ) → IsChain tokens old chain → is_marked old chain i ≡ false → HasToken tokens i → IsMarkedAt old new i (length chain) → IsChain tokens new (chain ++ i ∷ [])
chain_more tokens old new chain i h apart there m =
    record {
      marked = λ k j e. elim (get_more chain i j k e) as (λ _. slice_get new j ≡ Some k) [
        | inl was ↦ m.elsewhere j (λ same. unmarked tokens old chain i k h apart (subst (λ n. slice_get chain k ≡ Some n) same was)) ∙ h.marked k j was
        | inr (at, is) ↦ ap (slice_get new) is ∙ (m.here ∙ ap Some (sym at))
      ];
      stand = λ k j e. elim (get_more chain i j k e) as (λ _. HasToken tokens j) [
        | inl was ↦ h.stand k j was
        | inr (at, is) ↦ subst (HasToken tokens) (sym is) there
      ];
    }

since_none : (p : Place) (tokens : List TokenAt) (chain : List ℕ) → ((k j : ℕ) → slice_get chain k ≡ Some j → whole_at tokens j ≡ p → ⊥) → since p (branch_of tokens chain) ≡ None
since_none p tokens [] h = refl
since_none p tokens (c ∷ cs) h =
    ap (λ b. cond b (Some (branch_of tokens (c ∷ cs))) (since p (branch_of tokens cs))) (fails (same_place (whole_at tokens c) p) (λ e. h 0 c refl (same_place-is (whole_at tokens c) p e)))
    ∙ since_none p tokens cs (λ k j e d. h (suc k) j e d)

one_at : (tokens : List TokenAt) (i j : ℕ) → T (is_sorted names_cmp tokens) → HasToken tokens i → HasToken tokens j → whole_at tokens j ≡ whole_at tokens i → j ≡ i
one_at tokens i j rises (t, (f, e)) (u, (g, d)) same =
    let paths : u ≡ t = ap (λ p. p.token) (sym (whole_is tokens j u (g, d)) ∙ (same ∙ whole_is tokens i t (f, e))) in
    one_place tokens j i t g f rises (subst (λ x. slice_get tokens j ≡ Some (x, g)) paths d) e

-- a place without a mark is new
pub new_behind : (tokens : List TokenAt) (marks chain : List ℕ) (i : ℕ) → T (is_sorted names_cmp tokens) → IsChain tokens marks chain → HasToken tokens i → is_marked marks chain i ≡ false → since (whole_at tokens i) (branch_of tokens chain) ≡ None
new_behind tokens marks chain i rises h there apart =
    since_none (whole_at tokens i) tokens chain (λ k j e same.
    let its : j ≡ i = one_at tokens i j rises there (h.stand k j e) same in
    unmarked tokens marks chain i k h apart (subst (λ n. slice_get chain k ≡ Some n) its e))

-- What breaks at the end of a chain.

pub ring_told : (tokens : List TokenAt) (chain : List ℕ) (i : ℕ) (place : Place) (ring : List Place) → place ≡ whole_at tokens i → since place (branch_of tokens chain) ≡ Some ring → IsBreakAt tokens chain i (faults.Broken rule.Cycle place ring)
ring_told tokens chain i place ring is found T =
    subst (λ p. own_break T (length chain) (visit (branch_of tokens chain) p) ≡ Some (record { rule = rule.Cycle; place = place; ring = ring })) is
    (ap (break_if T (length chain) (branch_of tokens chain) place) found)

deep_by : (T : WrittenPlaces) (n : ℕ) (b : List Place) (p : Place) (x y z : Bool) → nat_le most_on_branch (length b) ≡ x → most_on_branch ≤ length b
    → cond x (Some (ref_break rule.Deep p)) (cond y (Some (ref_break rule.Big p)) (cond z (Some (ref_break rule.RefSyntax p)) None)) ≡ Some (ref_break rule.Deep p)
deep_by T n b p true y z e h = refl
deep_by T n b p false y z e h = let r : length b < most_on_branch = grind (arith, e) in absurd (omega (arith, r, h))

pub deep_told : (tokens : List TokenAt) (chain : List ℕ) (i : ℕ) (place : Place) (f : RefFault) → place ≡ whole_at tokens i → since (whole_at tokens i) (branch_of tokens chain) ≡ None → most_on_branch ≤ length chain → IsFault f (Some (ref_break rule.Deep place)) → IsBreakAt tokens chain i f
deep_told tokens chain i place f is new long told T =
    let b = branch_of tokens chain in
    let p = whole_at tokens i in
    let far : most_on_branch ≤ length b = omega (arith, long, branch_length tokens chain) in
    let own : own_break T (length chain) (visit b p) ≡ Some (ref_break rule.Deep p) = ap (break_if T (length chain) b p) new ∙ deep_by T (length chain) b p _ _ _ refl far in
    subst (IsFault f) (ap (λ q. Some (ref_break rule.Deep q)) is ∙ sym own) told

-- The walk of the token goes along the chain.

pub leads_first : (flat : Flat) (token : List Step) (i : ℕ) → PathStandsAt (flat_map.entries flat) token i → LeadsTo flat token [] i
leads_first flat token i at f h = subst (λ p. IsFault f (first_break (written_in flat) 0 (walked (written_in flat) [] p))) (whole_is (flat_map.entries flat) i token at) h

pub leads_told : (flat : Flat) (token : List Step) (chain : List ℕ) (i : ℕ) (f : RefFault) → IsBreakAt (flat_map.entries flat) chain i f → LeadsTo flat token chain i → IsFault f (walk_break (written_in flat) token)
leads_told flat token chain i f told leads =
    leads f (walked-fault (written_in flat) f (length chain) (branch_of (flat_map.entries flat) chain) (whole_at (flat_map.entries flat) i) (told (written_in flat)))

pub leads_more : (flat : Flat) (token : List Step) (chain : List ℕ) (i j : ℕ) → HasToken (flat_map.entries flat) i → ((t : TokenAt) → slice_get (flat_map.entries flat) i ≡ Some t → IsAlias flat t.0 j) → {marks : List ℕ} → IsNewBehind (flat_map.entries flat) marks chain i → LeadsTo flat token chain i
    → LeadsTo flat token (chain ++ i ∷ []) j
leads_more flat token chain i j there next k leads f h =
    let T = written_in flat in
    let es = flat_map.entries flat in
    let b = branch_of es chain in
    let b' = branch_of es (chain ++ i ∷ []) in
    let p = whole_at es i in
    let path = there.0 in
    let a = next (path, there.1.0) there.1.1 in
    let named = a.named in
    let is : T p ≡ Some (refers named []) = ap T (whole_is es i path there.1) ∙ a.written in
    let own : own_break T (length chain) (visit b p) ≡ None = unbroken T (length chain) b p k.is_new (omega (arith, k.room, branch_length es chain)) (omega (arith, k.room)) (ap is_misspelled is) in
    let stands = whole_stands flat named a.stands.0 (entry_there flat j (named, a.stands.0) a.stands.1) in
    let written : is_written (T (whole named)) ≡ true = ap is_written (written_stands flat (whole named) a.stands.0 a.stands.0.def.value stands) in
    let settle = settle_by T (passed T b') in
    let way : way_of T settle p named [] ≡ ends_at (whole named) = way_here T settle p named [] refl written in
    let ends : (way_of T settle p named []).ends ≡ Some (whole named) = ap (λ w. w.ends) way in
    let n = length (chain ++ i ∷ []) in
    let nothing : Clean T n n (way_of T settle p named []).seen = subst (λ (w : Way). Clean T n n w.seen) (sym way) (clean_nil T n) in
    let rest : IsFault f (first_break T n (walked T b' (whole named))) = subst (λ q. IsFault f (first_break T n (walked T b' q))) (whole_is es j named a.stands) h in
    leads f (walk_fault T (length chain) b b' p (refers named []) is own (branch_more es chain i) (length-append chain (i ∷ [])) f
    (target_then_fault T f settle (walked T b') p (whole named) named [] ends nothing rest))

pub none_blank : HasNone []
none_blank i j e = cc

pub led_nothing : (ts : Targets) (i j : ℕ) → IsLed ts ts i j
led_nothing ts i j k x e = inr e

-- one step along a chain
pub stepped : (flat : Flat) (ts : Targets) (was marks chain new : List ℕ) (i j : ℕ) → AreAliases flat ts → IsChain (flat_map.entries flat) was chain → HasToken (flat_map.entries flat) i
    → IsNewBehind (flat_map.entries flat) was chain i → Some j ≡ target_at ts i → IsMarkedAt was marks i (length chain) → new ≡ chain ++ i ∷ [] → HasStepped flat marks chain new i j
stepped flat ts was marks chain new i j right h there k next m made =
    let es = flat_map.entries flat in
    let leads : (t : TokenAt) → slice_get es i ≡ Some t → IsAlias flat t.0 j = λ t at. right i j t at (sym next) in
    let a = leads (there.0, there.1.0) there.1.1 in
    let long : length new ≡ length chain + 1 = ap length made ∙ length-append chain (i ∷ []) in
    record {
      chain = subst (IsChain es marks) (sym made) (chain_more es was marks chain i h k.unmarked there m);
      token = (a.named, a.stands);
      longer = long;
      room = omega (arith, long, k.room);
      leads = λ token l. subst (λ c. LeadsTo flat token c j) (sym made) (leads_more flat token chain i j there leads k l);
    }

pub stepped_if : (flat : Flat) (ts : Targets) (was marks chain new : List ℕ) (i : ℕ) (o : Option ℕ) → AreAliases flat ts → IsChain (flat_map.entries flat) was chain → HasToken (flat_map.entries flat) i
    → IsNewBehind (flat_map.entries flat) was chain i → IfSome o (λ j. Some j ≡ target_at ts i) → IfSome o (λ j. IsMarkedAt was marks i (length chain)) → IfSome o (λ j. new ≡ chain ++ i ∷ [])
    → IfSome o (λ j. HasStepped flat marks chain new i j)
stepped_if flat ts was marks chain new i None right h there k next m made = tt
stepped_if flat ts was marks chain new i (Some j) right h there k next m made = stepped flat ts was marks chain new i j right h there k next m made
