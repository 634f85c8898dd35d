-- What is remembered of tokens serves the walks of others.
use Rattle.std.proofs.Common.{◌≡◌, ℕ, zero, suc, ◌+◌, ◌<◌, ◌≤◌, Bool, true, false, ◌&&◌, cond, T, List, [], ◌∷◌, ◌++◌, length, get_or, take, set, map-id, Option, Some, None, Ordering, Less, Equal, Greater, inl, inr, refl, sym, ap, ◌∙◌, subst, arith}
use Rattle.std.specs.Prelude.{◌⊎◌, ◌||◌, ◌==◌, is_some}
use Rattle.std.specs.Ordering.{is_lt}
use Rattle.std.specs.FinMap as flat_map
use Rattle.std.specs.FinMap.{slice_cmp-IsAntisymmetric, nat_cmp-IsAntisymmetric, find}
use Rattle.std.specs.FinMap.Entries.{is_sorted, below_all}
use Rattle.std.specs.List.{slice_get}
use Rattle.std.specs.Cmp.Lexicographic.{nat_list_cmp_total}
use Rattle.std.proofs.lemmas.Cmp.{tied_itself, lists_total}
use Rattle.std.proofs.lemmas.List.{take_more}
use Rattle.std.proofs.lemmas.Option.{slice_get_within, get_or_from_slice_get, slice_get-get_or}
use Rattle.std.proofs.lemmas.Slice.Zip.{all_zipped_more}
use Rattle.tk_io.specs.Order.{names_cmp}
use Rattle.tk_io.proofs.SortedEntries.{found_at}
use Rattle.ring.specs.Lists.{In}
use Rattle.name_path.specs.declared.place.Place.{Place}
use Rattle.group_inherit.specs.Flattening.{Flattened, TokenAt}
use Rattle.json_span.specs.PlainView.{Value, plain_view}
use Rattle.json_span.specs.declared.plain.Plain.{Plain}
use Rattle.alias_ref.specs.Written.{Step, refers, WrittenPlaces, whole, is_written, written_in}
use Rattle.alias_ref.specs.Meaning.{leads, Means, means_leaf, means_parts, means_target}
use Rattle.alias_ref.specs.Kinds.{KindOf, LinksAt, own_in, group_in}
use Rattle.alias_ref.specs.Visits.{walked, most_on_branch, most_visits}
use Rattle.alias_ref.specs.Refs.{refs_of}
use Rattle.alias_ref.specs.Laws.{Flat}
use Rattle.alias_ref.specs.Answer.{IsResolved}
use Rattle.alias_ref.specs.declared.memory.Known.{Known}
use Rattle.alias_ref.specs.declared.resolved.Resolved.{Resolved}
use Rattle.alias_ref.specs.declared.trace.Trace.{Trace}
use Rattle.alias_ref.specs.declared.walking.Found.{Found}
use Rattle.alias_ref.specs.inner.Seen.{Clean}
use Rattle.alias_ref.specs.inner.Spots.{IsSameBranch}
use Rattle.alias_ref.specs.inner.Remembering.{Memories, known_at, IsBlank, PathStandsAt, IsRemembered, IsKnownOf, Remembers, Serves, HasHome, CountsVisits, IsRecalled, AreAt, all_known, IsKept, IsSame}
use Rattle.alias_ref.proofs.RefsAreWritten.{reference_listed, In-either}
use Rattle.alias_ref.proofs.RememberedWalks.{counts_below}
use Rattle.alias_ref.proofs.ClosedTokens.{among_avoid}

-- Places in a flat tree.

first : (a b : Bool) → T (a && b) → T a
first true b p = tt
first false b p = absurd p

second : (a b : Bool) → T (a && b) → T b
second true b p = p
second false b p = absurd p

less : (r : Ordering) → T (is_lt r) → r ≡ Less
less Less p = refl
less Equal p = absurd p
less Greater p = absurd p

-- a path that stands below all is not among them
not_below : (t : List Step) (es : List TokenAt) (i : ℕ) (f : Flattened) → T (below_all names_cmp t es) → slice_get es i ≡ Some (t, f) → ⊥
not_below t [] i f h e = cc
not_below t (x ∷ es) zero f h e =
    let same : x.0 ≡ t = let whole : x ≡ (t, f) = cc in ap (λ (y : TokenAt). y.0) whole in
    let below : names_cmp t t ≡ Less = subst (λ u. names_cmp t u ≡ Less) same (less (names_cmp t x.0) (first (is_lt (names_cmp t x.0)) (below_all names_cmp t es) h)) in
    let tie : names_cmp t t ≡ Equal = tied_itself (lists_total nat_list_cmp_total) t in
    let both : Less ≡ Equal = sym below ∙ tie in
    cc
not_below t (x ∷ es) (suc i) f h e = not_below t es i f (second (is_lt (names_cmp t x.0)) (below_all names_cmp t es) h) e

-- each path stands at one place
pub one_place : (es : List TokenAt) (i j : ℕ) (t : List Step) (f g : Flattened) → T (is_sorted names_cmp es) → slice_get es i ≡ Some (t, f) → slice_get es j ≡ Some (t, g) → i ≡ j
one_place [] i j t f g h e k = cc
one_place (x ∷ es) zero zero t f g h e k = refl
one_place (x ∷ es) zero (suc j) t f g h e k =
    let same : x.0 ≡ t = let whole : x ≡ (t, f) = cc in ap (λ (y : TokenAt). y.0) whole in
    absurd (not_below t es j g (subst (λ u. T (below_all names_cmp u es)) same (first (below_all names_cmp x.0 es) (is_sorted names_cmp es) h)) k)
one_place (x ∷ es) (suc i) zero t f g h e k =
    let same : x.0 ≡ t = let whole : x ≡ (t, g) = cc in ap (λ (y : TokenAt). y.0) whole in
    absurd (not_below t es i f (subst (λ u. T (below_all names_cmp u es)) same (first (below_all names_cmp x.0 es) (is_sorted names_cmp es) h)) e)
one_place (x ∷ es) (suc i) (suc j) t f g h e k = ap suc (one_place es i j t f g (second (below_all names_cmp x.0 es) (is_sorted names_cmp es) h) e k)

-- the token of an entry stands at its path
pub entry_there : (flat : Flat) (i : ℕ) (token : TokenAt) → slice_get (flat_map.entries flat) i ≡ Some token → flat_map.get flat token.0 ≡ Some token.1
entry_there flat i token e =
    let o = lists_total nat_list_cmp_total in
    let es = flat_map.entries flat in
    let within = slice_get_within es i token e in
    let is : token ≡ get_or es i token = sym (get_or_from_slice_get es i token token e) in
    let rises = subst (λ l. T (is_sorted names_cmp l)) (sym (map-id es)) (flat_map.entries_sorted flat) in
    let there = found_at o (λ (e : TokenAt). e.0) (λ (e : TokenAt). e.1) token.0 es i token rises within (ap (λ e. names_cmp e.0 token.0) (sym is) ∙ tied_itself o token.0) in
    flat_map.get-entries flat token.0 ∙ (subst (λ l. find names_cmp token.0 l ≡ Some (get_or es i token).1) (map-id es) there ∙ ap (λ (e : TokenAt). Some e.1) (sym is))

-- paths between which the order makes no difference
pub same_path : (p q : List Step) → names_cmp p q ≡ Equal → p ≡ q
same_path p q = slice_cmp-IsAntisymmetric (slice_cmp-IsAntisymmetric nat_cmp-IsAntisymmetric) p q

-- the item at a place that is read
pub item_at : {A : Type 0} (xs : List A) (i : ℕ) (x : A) → i < length xs → x ≡ get_or xs i x → slice_get xs i ≡ Some x
item_at xs i x within is = slice_get-get_or xs i x within ∙ ap Some (sym is)

pub read_at : {A : Type 0} (xs : List A) (i : ℕ) (x : A) → i < length xs → ((d : A) → x ≡ get_or xs i d) → slice_get xs i ≡ Some x
read_at xs i x within is = slice_get-get_or xs i x within ∙ ap Some (sym (is x))

-- the places of one path more
pub more_at : (tokens : List TokenAt) (paths : List (List Step)) (i : ℕ) (path : List Step) (places new : List ℕ) (place : ℕ)
    → AreAt tokens (take i paths) places → i < length paths → path ≡ get_or paths i path → PathStandsAt tokens path place → new ≡ places ++ place ∷ []
    → AreAt tokens (take (i + 1) paths) new
more_at tokens paths i path places new place so_far within is stands made =
    let more : take (i + 1) paths ≡ take i paths ++ path ∷ [] = take_more paths i path within ∙ ap (λ x. take i paths ++ x ∷ []) (sym is) in
    subst (λ ps. AreAt tokens ps new) (sym more)
    (subst (AreAt tokens (take i paths ++ path ∷ [])) (sym made) (all_zipped_more (PathStandsAt tokens) (take i paths) places path place so_far stands))

-- What is remembered.

pub some_same : {A : Type 0} (x y : A) → Some x ≡ Some y → x ≡ y
some_same x y e = cc

pub blank_none : IsBlank []
blank_none i k e = cc

pub blank_more : (m : Memories) → IsBlank m → IsBlank (m ++ None ∷ [])
blank_more [] h zero k e = cc
blank_more [] h (suc i) k e = cc
blank_more (x ∷ m) h zero k e = h zero k e
blank_more (x ∷ m) h (suc i) k e = blank_more m (λ j l d. h (suc j) l d) i k e

pub blank_remembers : (flat : Flat) (m : Memories) → IsBlank m → Remembers flat m
blank_remembers flat m h i token k at is = absurd (h i k is)

-- nothing is on the branch, and nothing is remembered
pub blank_serves : (flat : Flat) (m : Memories) (token : List Step) → IsBlank m → Serves flat m [] token
blank_serves flat m token h = record { right = blank_remembers flat m h; is_new = λ r. h r.0 r.1 r.3; at_home = λ q i. absurd i }

-- nothing is remembered at the place of the token
pub new_serves : (flat : Flat) (m : Memories) (i : ℕ) (token : TokenAt) → Remembers flat m → slice_get (flat_map.entries flat) i ≡ Some token → known_at m i ≡ None → Serves flat m [] token.0
new_serves flat m i token right at none =
    record {
      right = right;
      is_new = λ r.
          let same : r.0 ≡ i = one_place (flat_map.entries flat) r.0 i token.0 r.2.0 token.1 (flat_map.entries_sorted flat) r.2.1 at in
          let here : known_at m i ≡ Some r.1 = subst (λ j. known_at m j ≡ Some r.1) same r.3 in
          let both : None ≡ Some r.1 = sym none ∙ here in
          cc;
      at_home = λ q i. absurd i;
    }

module _ (flat : Flat) (m : Memories) where
  remembered_named : Remembers flat m → (p : Place) (token steps : List Step) → IsRemembered flat m p.token → written_in flat p ≡ Some (refers token steps) → IsRemembered flat m token
  remembered_named right p token steps r e =
      let listed = reference_listed flat p token steps e in
      let here : flat_map.get flat p.token ≡ Some r.2.0 = entry_there flat r.0 (p.token, r.2.0) r.2.1 in
      let same : listed.0 ≡ r.2.0 = some_same listed.0 r.2.0 (sym listed.1 ∙ here) in
      (right r.0 (p.token, r.2.0) r.1 r.2.1 r.3).closed token (subst (λ f. In token (refs_of f.def)) same listed.2)

  -- a remembered walk is made below the branch
  pub known_clean : (b : List Place) (home : List Step) (n i : ℕ) (f : Flattened) (k : Known) (named : List Step) → Serves flat m b home
      → slice_get (flat_map.entries flat) i ≡ Some (named, f) → known_at m i ≡ Some k → length b + k.visits ≤ most_on_branch → n + k.visits ≤ most_visits
      → Clean (written_in flat) n (n + k.visits) (walked (written_in flat) b (whole named))
  known_clean b home n i f k named s at is room few =
      let x = s.right i (named, f) k at is in
      let here : IsRemembered flat m named = (i, k, (f, at), is) in
      let apart : (q : Place) → In q b → IsRemembered flat m q.token → ⊥ = λ q j r. s.is_new (subst (IsRemembered flat m) (s.at_home q j) r) in
      let a = (among_avoid (written_in flat) (IsRemembered flat m) (remembered_named s.right) b [] (whole named) here apart).0 in
      let c = counts_below (written_in flat) b (whole named) n x.resolved.unbroken a (omega (arith, room, x.counted)) (omega (arith, few, x.counted)) in
      record { unbroken = c.0; counted = ap (λ j. n + j) (sym (c.1 ∙ x.counted)) }

  -- a branch that is the same, or one place longer
  pub same_home : (own : Bool) (old new : Trace) (token : List Step) → HasHome own flat m old token → IsSameBranch old new → HasHome own flat m new token
  same_home true old new token h s = subst (λ b. Serves flat m b token) (sym s.0) h
  same_home false old new token h s = tt

  pub longer : (b : List Place) (p : Place) → Serves flat m b p.token → Serves flat m (b ++ p ∷ []) p.token
  longer b p s = record { right = s.right; is_new = s.is_new; at_home = λ q i. at q (In-either q b (p ∷ []) i) }
    where
      at : (q : Place) → In q b ⊎ In q (p ∷ []) → q.token ≡ p.token
      at q (inl i) = s.at_home q i
      at q (inr (inl e)) = ap (λ x. x.token) e
      at q (inr (inr i)) = absurd i

  pub home_more : (own : Bool) (old new : Trace) (p : Place) → HasHome own flat m old p.token → new.places.items ≡ old.places.items ++ p ∷ [] → HasHome own flat m new p.token
  home_more true old new p h e = subst (λ b. Serves flat m b p.token) (sym e) (longer old.places.items p h)
  home_more false old new p h e = tt

same_number : (j i : ℕ) → (j == i) ≡ true → j ≡ i
same_number j i e = grind (arith, e)

pub none_of : {A : Type 0} (xs : List A) → (length xs == 0) ≡ true → xs ≡ []
none_of [] e = refl
none_of (x ∷ xs) e = absurd (omega (arith, same_number (suc (length xs)) 0 e))

-- what means something is written
meant_written : {T : WrittenPlaces} {p : Place} {v : Value} → Means T p v → is_written (T p) ≡ true
meant_written (means_leaf e) = ap is_written e
meant_written (means_parts e each) = ap is_written e
meant_written (means_target (leads e w goes) means) = ap is_written e

-- what comes to the same is resolved too
pub same_resolved : (flat : Flat) (token : List Step) (r s : Resolved) → IsSame r s → IsResolved flat token r → IsResolved flat token s
same_resolved flat token r s same x = record {
  unbroken = x.unbroken;
  meaning = subst (λ (v : Plain). Means (written_in flat) (whole token) (plain_view v)) (sym same.plain) x.meaning;
  kind = subst (λ k. KindOf (written_in flat) (own_in flat) (group_in flat) token (Some k)) (sym same.kind) x.kind;
  links = subst (LinksAt (written_in flat) (own_in flat) (group_in flat) (whole token)) (sym same.links) x.links;
}

-- what is remembered of a token that is named without steps is taken
pub recalled : (flat : Flat) (m : Memories) (own : Bool) (named : Place) (token : List Step) (old new : Trace) (i : ℕ) (k : Known) (found : Found)
    → PathStandsAt (flat_map.entries flat) named.token i → known_at m i ≡ Some k → own ≡ true → named.trail ≡ [] → CountsVisits old new k.visits
    → plain_view found.plain ≡ plain_view k.resolved.plain.value → found.kind ≡ Some k.resolved.kind → HasHome own flat m old token → IsRecalled flat old new named found
recalled flat m own named token old new i k found stands is its no_steps counts plain kind h =
    let T = written_in flat in
    let s : Serves flat m old.places.items token = subst (λ b. HasHome b flat m old token) its h in
    let x = s.right i (named.token, stands.0) k stands.1 is in
    record {
      no_steps = no_steps;
      there = meant_written x.resolved.meaning;
      clean = subst (λ n. Clean T old.visits n (walked T old.places.items (whole named.token))) (sym counts.counted)
          (known_clean flat m old.places.items token old.visits i stands.0 k named.token s stands.1 is counts.room counts.few);
      means = subst (Means T (whole named.token)) (sym plain) x.resolved.meaning;
      kind = λ at. subst (KindOf T (own_in flat) (group_in flat) named.token) (sym kind) x.resolved.kind;
    }

-- Keeping.

set_only : (m : Memories) (i j : ℕ) (k x : Known) → known_at (set m i (Some k)) j ≡ Some x → ((j ≡ i) × (x ≡ k)) ⊎ (known_at m j ≡ Some x)
set_only [] i j k x e = inr e
set_only (y ∷ m) zero zero k x e = inl (refl, sym (some_same k x e))
set_only (y ∷ m) zero (suc j) k x e = inr e
set_only (y ∷ m) (suc i) zero k x e = inr e
set_only (y ∷ m) (suc i) (suc j) k x e = elim (set_only m i j k x e) [
  | inl (same, is) ↦ inl (ap suc same, is)
  | inr was ↦ inr was
]

set_still : (m : Memories) (i j : ℕ) (k x : Known) → known_at m j ≡ Some x → (y : Known) × (known_at (set m i (Some k)) j ≡ Some y)
set_still [] i j k x e = (x, e)
set_still (y ∷ m) zero zero k x e = (k, refl)
set_still (y ∷ m) zero (suc j) k x e = (x, e)
set_still (y ∷ m) (suc i) zero k x e = (x, e)
set_still (y ∷ m) (suc i) (suc j) k x e = set_still m i j k x e

pub kept_at : (m : Memories) (i : ℕ) (k : Known) → IsKept m (set m i (Some k)) i k
kept_at m i k = record { only = λ j x e. set_only m i j k x e; still = λ j x e. set_still m i j k x e }

pub kept_nothing : (m : Memories) (i : ℕ) (k : Known) → IsKept m m i k
kept_nothing m i k = record { only = λ j x e. inr e; still = λ j x e. (x, e) }

is_some_is : (o : Option Known) → is_some o ≡ true → (k : Known) × (o ≡ Some k)
is_some_is (Some k) e = (k, refl)
is_some_is None e = absurd (cc)

or_is : (a b : Bool) → (a || b) ≡ true → (a ≡ true) ⊎ (b ≡ true)
or_is true b e = inl refl
or_is false b e = inr e

-- each of the paths stands at a place where something is remembered, or at this one
abbrev IsNamed : List TokenAt → Memories → ℕ → List Step → Type 0
IsNamed tokens m i path = (j : ℕ) × PathStandsAt tokens path j × ((j ≡ i) ⊎ ((k : Known) × (known_at m j ≡ Some k)))

named_known : (tokens : List TokenAt) (m : Memories) (i : ℕ) (paths : List (List Step)) (places : List ℕ) → AreAt tokens paths places → all_known m i places ≡ true
    → (path : List Step) → In path paths → IsNamed tokens m i path
named_known tokens m i [] places at e path h = absurd h
named_known tokens m i (p ∷ paths) [] at e path h = absurd at
named_known tokens m i (p ∷ paths) (j ∷ places) (here, at) e path h =
    go ((j == i) || is_some (known_at m j)) refl e h (λ k r. named_known tokens m i paths places at k path r)
  where
    go : (c : Bool) → ((j == i) || is_some (known_at m j)) ≡ c → cond c (all_known m i places) false ≡ true → In path (p ∷ paths)
        → (all_known m i places ≡ true → In path paths → IsNamed tokens m i path) → IsNamed tokens m i path
    go true is k (inl same) more = (
      j,
      subst (λ u. PathStandsAt tokens u j) (sym same) here,
      elim (or_is (j == i) (is_some (known_at m j)) is) as (λ _. (j ≡ i) ⊎ ((k : Known) × (known_at m j ≡ Some k))) [
        | inl a ↦ inl (same_number j i a)
        | inr b ↦ inr (is_some_is (known_at m j) b)
      ],
    )
    go true is k (inr r) more = more k r
    go false is k r more = absurd (cc)

-- the token of a place is remembered, whose named tokens are
pub remembers_more : (flat : Flat) (old new : Memories) (i : ℕ) (token : TokenAt) (k : Known) (named : List ℕ) → Remembers flat old → IsKept old new i k
    → slice_get (flat_map.entries flat) i ≡ Some token → IsResolved flat token.0 k.resolved → length (walked (written_in flat) [] (whole token.0)) ≡ k.visits
    → AreAt (flat_map.entries flat) (refs_of token.1.def) named → all_known old i named ≡ true → Remembers flat new
remembers_more flat old new i token k named right kept there resolved counted at known j t x stands is =
    elim (kept.only j x is) as (λ _. IsKnownOf flat new t x) [
      | inl (same, this) ↦
          let its : token ≡ t = some_same token t (sym there ∙ (subst (λ n. slice_get (flat_map.entries flat) n ≡ Some t) same stands)) in
          subst (λ u. IsKnownOf flat new u x) its (subst (IsKnownOf flat new token) (sym this) (itself same))
      | inr was ↦
          let before = right j t x stands was in
          record { resolved = before.resolved; counted = before.counted; closed = λ n h. still n (before.closed n h) }
    ]
  where
    still : (n : List Step) → IsRemembered flat old n → IsRemembered flat new n
    still n r = let y = kept.still r.0 r.1 r.3 in (r.0, y.0, r.2, y.1)

    found : (n : List Step) → j ≡ i → IsNamed (flat_map.entries flat) old i n → IsRemembered flat new n
    found n same (l, stands', inl here) = (l, x, stands', ap (known_at new) (here ∙ sym same) ∙ is)
    found n same (l, stands', inr (y, was)) = still n (l, y, stands', was)

    itself : j ≡ i → IsKnownOf flat new token k
    itself same =
        record {
          resolved = resolved;
          counted = counted;
          closed = λ n h. found n same (named_known (flat_map.entries flat) old i (refs_of token.1.def) named at known n h);
        }
