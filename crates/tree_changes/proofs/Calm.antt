-- Tokens that stand unchanged in another tree, what is known of their names, and what no change is reached from.
use Rattle.std.proofs.Common.{◌≡◌, ◌≢◌, ◌⊎◌, inl, inr, ℕ, ◌+◌, ◌<◌, ◌≤◌, Bool, true, false, T, Ordering, Less, Equal, List, [], ◌∷◌, length, get_or, set, replicate, zero, suc, Option, Some, None, option_map, refl, sym, ap, subst, ◌∙◌, arith}
use Rattle.std.proofs.lemmas.Bool.{cases_lt, cases_eq}
use Rattle.std.proofs.lemmas.Cmp.{lists_total}
use Rattle.std.proofs.lemmas.Option.{slice_get_within, slice_get-get_or, get_or_from_slice_get}
use Rattle.std.specs.Cmp.{tied_itself}
use Rattle.std.specs.Cmp.Lexicographic.{nat_list_cmp_total}
use Rattle.std.specs.FinMap as finite
use Rattle.std.specs.FinMap.{nat_cmp-IsAntisymmetric, slice_cmp-IsAntisymmetric}
use Rattle.std.specs.List.{AllZip, slice_get}
use Rattle.ring.specs.Lists.{In}
use Rattle.ring.proofs.ListWords.{in_has_place}
use Rattle.tk_io.specs.Order.{names_cmp}
use Rattle.group_inherit.specs.Flattening.{Flattened, TokenAt}
use Rattle.alias_ref.specs.Laws.{Flat, RefsOfSource}
use Rattle.alias_ref.specs.Refs.{refs_of}
use Rattle.alias_ref.specs.Unchanged.{raw_of, raw_in, DifferDecides}
use Rattle.alias_ref.specs.Written.{Step}
use Rattle.tree_changes.specs.Laws.{RefersToReached}
use Rattle.tree_changes.specs.Named.{AllNameAs, NamesAs}
use Rattle.tree_changes.specs.Reached.{is_changed}
use Rattle.tree_changes.specs.Standing.{StandsAt}
use Rattle.tree_changes.specs.declared.named.Named.{Named}
use Rattle.tree_changes.specs.declared.named.Named.TheVariants.{Unknown, Nothing, One}
use Rattle.tree_changes.specs.declared.settling.Beside.{Beside}
use Rattle.tree_changes.specs.inner.Links.{IsThere, IsCalm, AreNamed, AreTold, IsOneTold}
use Rattle.tree_changes.specs.inner.Settling.{AreBeside, AreMoved, AreSettled}
use Rattle.tree_changes.proofs.Forgotten.{at_places, got_other, places_long}
use Rattle.tree_changes.proofs.LinksReach.{some_is, there_found}
use Rattle.tree_changes.proofs.Linking.{one_named, stands_same}
use Rattle.tree_changes.proofs.MapEntries.{entry_there}
use Rattle.tree_changes.proofs.Standing.{ascends}
use Rattle.tree_changes.proofs.Walks.{reached_by_one}

both_ways : {b : Bool} → b ≡ false → b ≡ true → ⊥
both_ways e f = cc

some_none : {X : Type 0} {x : X} → None ≡ Some x → ⊥
some_none e = cc

less_itself : {o : Ordering} → o ≡ Less → o ≡ Equal → ⊥
less_itself e f = cc

-- A path stands at one place of a flat tree.

apart : (ts : List TokenAt) (i k : ℕ) (a b : TokenAt) → T (finite.Entries.is_sorted names_cmp ts) → slice_get ts i ≡ Some a → slice_get ts k ≡ Some b
    → a.0 ≡ b.0 → i < k → ⊥
apart ts i k a b sorted at there same less =
    let lower = get_or_from_slice_get ts i a a at in
    let upper = get_or_from_slice_get ts k b b there in
    less_itself
    (ap (λ (p : List Step). names_cmp a.0 p) same
    ∙ (ap (λ (t : TokenAt). names_cmp t.0 b.0) (sym lower)
    ∙ (ap (λ (t : TokenAt). names_cmp (get_or ts i a).0 t.0) (sym upper)
    ∙ ascends ts i k a b sorted less (slice_get_within ts k b there))))
    (tied_itself (lists_total nat_list_cmp_total) a.0)

pub one_place : (flat : Flat) (i k : ℕ) (a b : TokenAt) → slice_get (finite.entries flat) i ≡ Some a → slice_get (finite.entries flat) k ≡ Some b
    → a.0 ≡ b.0 → i ≡ k
one_place flat i k a b at there same = elim (cases_lt i k) [
  | inl h ↦ absurd (apart (finite.entries flat) i k a b (finite.entries_sorted flat) at there same h)
  | inr h ↦ elim (cases_lt k i) [
    | inl g ↦ absurd (apart (finite.entries flat) k i b a (finite.entries_sorted flat) there at (sym same) g)
    | inr g ↦ omega (arith, h, g)
  ]
]

-- No change is reached from a token that is not changed and names none, or one from which none is.

module _ (old new : Flat) (i : ℕ) (token : TokenAt) (at : slice_get (finite.entries new) i ≡ Some token) (same : is_changed old new token.0 ≡ false) where
  pub calm_if : ((name : List Step) → In name (refs_of token.1.def) → IsCalm old new name) → IsCalm old new token.0
  calm_if each reached = go ((reached_by_one old new token.0).0 reached)
    where
      go : (is_changed old new token.0 ≡ true) ⊎ RefersToReached old new token.0 → ⊥
      go (inl e) = both_ways same e
      go (inr r) =
          let is : r.token ≡ token.1 = some_is (sym r.there ∙ there_found new token.0 token.1 i at) in
          each r.next (subst (λ (f : Flattened). In r.next (refs_of f.def)) is r.refers) r.reached

  pub calm_alone : refs_of token.1.def ≡ [] → IsCalm old new token.0
  calm_alone none = calm_if (λ name m. absurd (subst (In name) none m))

  pub calm_by_one : (path : List Step) → refs_of token.1.def ≡ path ∷ [] → IsCalm old new path → IsCalm old new token.0
  calm_by_one path one calm = calm_if (λ name m. go name (subst (In name) one m))
    where
      go : (name : List Step) → In name (path ∷ []) → IsCalm old new name
      go name (inl e) = subst (IsCalm old new) (sym e) calm
      go name (inr none) = absurd none

-- What is known of a token by that which stood in its place.

module _ (side : Beside) (are : AreBeside side) where
  abbrev old_tree : Flat
  old_tree = side.old.now

  abbrev new_tree : Flat
  new_tree = side.new.now

  same_names : RefsOfSource → (i at : ℕ) (token : TokenAt) → slice_get (finite.entries new_tree) i ≡ Some token → (s : StandsAt old_tree new_tree token (Some at))
      → refs_of s.0.1.def ≡ refs_of token.1.def
  same_names refs i at token here (there, place, path, same) =
      refs there.1.def token.1.def (are.before there.0 there.1 (there_found old_tree there.0 there.1 at place))
      (are.after token.0 token.1 (there_found new_tree token.0 token.1 i here)) (ap (λ r. r.source) same)

  -- what is told of the place holds of the token too
  pub known_names : RefsOfSource → (i at : ℕ) (token : TokenAt) (known : Named) → slice_get (finite.entries new_tree) i ≡ Some token
      → StandsAt old_tree new_tree token (Some at)
      → ((tokens : List TokenAt) (t : TokenAt) → AllNameAs tokens side.named.now → slice_get tokens at ≡ Some t → NamesAs tokens t known)
      → NamesAs (finite.entries old_tree) token known
  known_names refs i at token Unknown here s told = tt
  known_names refs i at token Nothing here s told =
      sym (same_names refs i at token here s) ∙ told (finite.entries old_tree) s.0 are.named s.1
  known_names refs i at token (One q) here s told =
      let k = told (finite.entries old_tree) s.0 are.named s.1 in
      (k.0, k.1, sym (same_names refs i at token here s) ∙ k.2)

  long : length side.places.now ≡ length (finite.entries new_tree)
  long = places_long side.places.now (finite.entries new_tree) (StandsAt old_tree new_tree) are.places

  -- the token that stands in its place
  pub moved_there : (q j : ℕ) (there : TokenAt) → slice_get (finite.entries old_tree) q ≡ Some there → slice_get side.moved.now q ≡ Some (Some j)
      → IsThere new_tree there.0 j
  moved_there q j there place e =
      let back : slice_get side.places.now j ≡ Some (Some q) = are.moved q (Some j) e in
      let token : TokenAt = get_or (finite.entries new_tree) j there in
      let here : slice_get (finite.entries new_tree) j ≡ Some token =
      slice_get-get_or (finite.entries new_tree) j there (omega (arith, slice_get_within side.places.now j (Some q) back, long)) in
      let (other, other_at, path, same) = at_places (StandsAt old_tree new_tree) (finite.entries new_tree) side.places.now j token (Some q) are.places here back in
      let is : other ≡ there = some_is (sym other_at ∙ place) in (
        token.1,
        subst (λ (p : List Step). slice_get (finite.entries new_tree) j ≡ Some (p, token.1)) (sym path ∙ ap (λ (t : TokenAt). t.0) is) here,
      )

  -- a token that stands nowhere unchanged is changed
  pub left_changed : DifferDecides → (q : ℕ) (there : TokenAt) → slice_get (finite.entries old_tree) q ≡ Some there → slice_get side.moved.now q ≡ Some None
      → is_changed old_tree new_tree there.0 ≡ true
  left_changed decides q there place e = go (is_changed old_tree new_tree there.0) refl
    where
      found : finite.get old_tree there.0 ≡ Some there.1
      found = there_found old_tree there.0 there.1 q place

      stands : is_changed old_tree new_tree there.0 ≡ false → (f : Flattened) → (j : ℕ) → slice_get (finite.entries new_tree) j ≡ Some (there.0, f) → (o : Option ℕ)
          → slice_get side.places.now j ≡ Some o → StandsAt old_tree new_tree (there.0, f) o → ⊥
      stands unchanged f j here None at s = both_ways unchanged s
      stands unchanged f j here (Some p) at (other, other_at, path, same) =
          let is : p ≡ q = one_place old_tree p q other there other_at place path in
          are.moved q None e j (subst (λ (k : ℕ). slice_get side.places.now j ≡ Some (Some k)) is at)

      present : is_changed old_tree new_tree there.0 ≡ false → (f : Flattened) → finite.get new_tree there.0 ≡ Some f → ⊥
      present unchanged f is =
          let (j, within, got) =
          in_has_place (there.0, f) (finite.entries new_tree)
          (entry_there (lists_total nat_list_cmp_total) (slice_cmp-IsAntisymmetric (slice_cmp-IsAntisymmetric nat_cmp-IsAntisymmetric)) new_tree there.0 f is) in
          let here : slice_get (finite.entries new_tree) j ≡ Some (there.0, f) =
          slice_get-get_or (finite.entries new_tree) j (there.0, f) within ∙ ap Some got in
          let o : Option ℕ = get_or side.places.now j None in
          let at : slice_get side.places.now j ≡ Some o = slice_get-get_or side.places.now j None (omega (arith, within, long)) in
          stands unchanged f j here o at (at_places (StandsAt old_tree new_tree) (finite.entries new_tree) side.places.now j (there.0, f) o are.places here at)

      absent : is_changed old_tree new_tree there.0 ≡ false → (o : Option Flattened) → finite.get new_tree there.0 ≡ o → ⊥
      absent unchanged None is =
          some_none (sym (ap (option_map raw_of) (sym found) ∙ ((decides (raw_in old_tree there.0) (raw_in new_tree there.0)).0 unchanged ∙ ap (option_map raw_of) is)))
      absent unchanged (Some f) is = present unchanged f is

      go : (b : Bool) → is_changed old_tree new_tree there.0 ≡ b → is_changed old_tree new_tree there.0 ≡ true
      go true is = is
      go false is = absurd (absent is (finite.get new_tree there.0) refl)

-- Settled tokens, one after another.

all_false : (n i : ℕ) → slice_get (replicate n false) i ≡ Some true → ⊥
all_false zero i e = absurd (some_none e)
all_false (suc n) zero e = cc
all_false (suc n) (suc i) e = all_false n i e

pub none_settled : (old new : Flat) (settled : List Bool) (n : ℕ) → settled ≡ replicate n false → AreSettled old new settled
none_settled old new settled n none i token at is = absurd (all_false n i (subst (λ (bs : List Bool). slice_get bs i ≡ Some true) none is))

pub one_settled : (old new : Flat) (i : ℕ) (settled : List Bool) → AreSettled old new settled
    → ((token : TokenAt) → slice_get (finite.entries new) i ≡ Some token → IsCalm old new token.0) → AreSettled old new (set settled i true)
one_settled old new i settled so_far calm k token at is = elim (cases_eq k i) [
  | inl e ↦ calm token (subst (λ (p : ℕ). slice_get (finite.entries new) p ≡ Some token) e at)
  | inr n ↦ so_far k token at (sym (got_other settled k i true n) ∙ is)
]

-- the token of this place stands unchanged at that one
pub said_place : (side : Beside) (are : AreBeside side) (i at : ℕ) (token : TokenAt) → i < length side.places.now
    → slice_get (finite.entries side.new.now) i ≡ Some token → get_or side.places.now i None ≡ Some at
    → StandsAt side.old.now side.new.now token (Some at)
said_place side are i at token within here is =
    at_places (StandsAt side.old.now side.new.now) (finite.entries side.new.now) side.places.now i token (Some at) are.places here
    (slice_get-get_or side.places.now i None within ∙ ap Some is)

-- a token that stands unchanged at none is changed
pub said_none : (side : Beside) (are : AreBeside side) (i : ℕ) (token : TokenAt) → i < length side.places.now
    → slice_get (finite.entries side.new.now) i ≡ Some token → get_or side.places.now i None ≡ None → is_changed side.old.now side.new.now token.0 ≡ true
said_none side are i token within here is =
    at_places (StandsAt side.old.now side.new.now) (finite.entries side.new.now) side.places.now i token None are.places here
    (slice_get-get_or side.places.now i None within ∙ ap Some is)

pub same_if_stands : DifferDecides → (old new : Flat) (i : ℕ) (token : TokenAt) (at : ℕ) → slice_get (finite.entries new) i ≡ Some token
    → StandsAt old new token (Some at) → is_changed old new token.0 ≡ false
same_if_stands decides old new i token at here s = stands_same decides old new i token (Some at) here s refl

-- what is looked up of a token that is named
pub moved_value : (side : Beside) (are : AreBeside side) (q : ℕ) (there : TokenAt) → slice_get (finite.entries side.old.now) q ≡ Some there → (r : Option ℕ)
    → ((o : Option ℕ) → slice_get side.moved.now q ≡ Some o → r ≡ o) → slice_get side.moved.now q ≡ Some r
moved_value side are q there place r told =
    let o : Option ℕ = get_or side.moved.now q None in
    let at : slice_get side.moved.now q ≡ Some o =
    slice_get-get_or side.moved.now q None (omega (arith, slice_get_within (finite.entries side.old.now) q there place, are.long)) in
    at ∙ ap Some (sym (told o at))

-- Where tokens of the earlier tree stand, by the first places of those of the present one.

abbrev pub IsMovedBelow : ℕ → List (Option ℕ) → ℕ → Option ℕ → Type 0
IsMovedBelow n places at None = (i : ℕ) → i < n → slice_get places i ≡ Some (Some at) → ⊥
IsMovedBelow n places at (Some i) = slice_get places i ≡ Some (Some at)

abbrev pub AreMovedBelow : ℕ → List (Option ℕ) → List (Option ℕ) → Type 0
AreMovedBelow n places moved = (at : ℕ) (o : Option ℕ) → slice_get moved at ≡ Some o → IsMovedBelow n places at o

-- none is looked up before the first
pub none_moved : (places moved : List (Option ℕ)) (n : ℕ) → moved ≡ replicate n None → AreMovedBelow 0 places moved
none_moved places moved n none at None e = λ i less is. absurd (omega (arith, less))
none_moved places moved n none at (Some i) e = absurd (all_none n at (subst (λ (ms : List (Option ℕ)). slice_get ms at ≡ Some (Some i)) none e))
  where
    all_none : (n k : ℕ) → slice_get (replicate n None) k ≡ Some (Some i) → ⊥
    all_none zero k f = some_none f
    all_none (suc n) zero f = some_none (some_is f)
    all_none (suc n) (suc k) f = all_none n k f

pub one_left : (n : ℕ) (places moved : List (Option ℕ)) → get_or places n None ≡ None → AreMovedBelow n places moved → AreMovedBelow (n + 1) places moved
one_left n places moved none so_far at None e = λ i less is. go i less is (cases_lt i n)
  where
    go : (i : ℕ) → i < n + 1 → slice_get places i ≡ Some (Some at) → (i < n) ⊎ (n ≤ i) → ⊥
    go i less is (inl h) = so_far at None e i h is
    go i less is (inr h) =
        some_none (sym none ∙ (ap (λ (k : ℕ). get_or places k None) (omega (arith, h, less)) ∙ get_or_from_slice_get places i (Some at) None is))
one_left n places moved none so_far at (Some i) e = so_far at (Some i) e

pub one_moved : (n there : ℕ) (places moved : List (Option ℕ)) → n < length places → get_or places n None ≡ Some there → AreMovedBelow n places moved
    → AreMovedBelow (n + 1) places (set moved there (Some n))
one_moved n there places moved within found so_far at o e = elim (cases_eq at there) [
  | inl same ↦ here same
  | inr other ↦ elsewhere o other (sym (got_other moved at there (Some n) other) ∙ e)
]
  where
    placed : slice_get places n ≡ Some (Some there)
    placed = slice_get-get_or places n None within ∙ ap Some found

    set_there : (xs : List (Option ℕ)) (k : ℕ) (o : Option ℕ) → slice_get (set xs k (Some n)) k ≡ Some o → o ≡ Some n
    set_there [] k o f = absurd (some_none f)
    set_there (x ∷ xs) zero o f = sym (some_is f)
    set_there (x ∷ xs) (suc k) o f = set_there xs k o f

    here : at ≡ there → IsMovedBelow (n + 1) places at o
    here same =
        let is : o ≡ Some n = set_there moved there o (subst (λ (k : ℕ). slice_get (set moved there (Some n)) k ≡ Some o) same e) in
        subst (IsMovedBelow (n + 1) places at) (sym is) (subst (λ (k : ℕ). slice_get places n ≡ Some (Some k)) (sym same) placed)

    elsewhere : (p : Option ℕ) → at ≢ there → slice_get moved at ≡ Some p → IsMovedBelow (n + 1) places at p
    elsewhere None other f = λ i less is. go i less is (cases_lt i n)
      where
        go : (i : ℕ) → i < n + 1 → slice_get places i ≡ Some (Some at) → (i < n) ⊎ (n ≤ i) → ⊥
        go i less is (inl h) = so_far at None f i h is
        go i less is (inr h) =
            let k : n ≡ i = omega (arith, h, less) in
            other (some_is (some_is (sym is ∙ (ap (slice_get places) (sym k) ∙ placed))))
    elsewhere (Some j) other f = so_far at (Some j) f

pub all_moved : (n : ℕ) (places moved : List (Option ℕ)) → length places ≤ n → AreMovedBelow n places moved → AreMoved places moved
all_moved n places moved long below at None e = λ i is. below at None e i (omega (arith, slice_get_within places i (Some at) is, long)) is
all_moved n places moved long below at (Some i) e = below at (Some i) e

-- a token that names one alone: what is told of it by where that stands
pub one_told : (side : Beside) (are : AreBeside side) → DifferDecides → (token : TokenAt) (q : ℕ) (there : TokenAt)
    → slice_get (finite.entries side.old.now) q ≡ Some there → refs_of token.1.def ≡ there.0 ∷ [] → (o : Option ℕ) → slice_get side.moved.now q ≡ Some o
    → (targets : List ℕ) (told : Option Named) → IsOneTold o targets told → AreTold side.old.now side.new.now token targets told
one_told side are decides token q there place one None at targets told is =
    subst (AreTold side.old.now side.new.now token targets) (sym is) (record {
      name = there.0;
      among = subst (In there.0) (sym one) (inl refl);
      changed = left_changed side are decides q there place at;
    })
one_told side are decides token q there place one (Some j) at targets told (row, n) =
    let next = moved_there side are q j there place at in
    subst (AreTold side.old.now side.new.now token targets) (sym n.1) (
      subst (λ (ns : List (List Step)). AreNamed side.old.now side.new.now ns targets) (sym one)
          (subst (AreNamed side.old.now side.new.now (there.0 ∷ [])) (sym row) (one_named side.old.now side.new.now there.0 j next)),
      n.2 (finite.entries side.new.now) token ((there.0, next.0), next.1, one),
    )

-- what stands at a place of the earlier tree stands within it
pub stands_within : (old new : Flat) (places : List (Option ℕ)) → AllZip (StandsAt old new) (finite.entries new) places → (i at : ℕ)
    → slice_get places i ≡ Some (Some at) → at < length (finite.entries old)
stands_within old new places stand i at is =
    let token : TokenAt = get_or (finite.entries new) i (an_item (finite.entries new) within) in
    let here : slice_get (finite.entries new) i ≡ Some token = slice_get-get_or (finite.entries new) i (an_item (finite.entries new) within) within in
    let (there, place, path, same) = at_places (StandsAt old new) (finite.entries new) places i token (Some at) stand here is in
    slice_get_within (finite.entries old) at there place
  where
    within : i < length (finite.entries new)
    within = omega (arith, slice_get_within places i (Some at) is, places_long places (finite.entries new) (StandsAt old new) stand)

    an_item : (ts : List TokenAt) → i < length ts → TokenAt
    an_item [] h = absurd (omega (arith, h))
    an_item (t ∷ ts) h = t
