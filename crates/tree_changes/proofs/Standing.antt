-- Tokens of a flat tree in path order, looked for in an earlier one.
use Rattle.std.proofs.Common.{◌≡◌, ◌≢◌, ◌⊎◌, inl, inr, ℕ, zero, suc, ◌+◌, ◌<◌, ◌≤◌, Bool, true, false, ◌&&◌, T, Ordering, Less, Equal, Greater, List, [], ◌∷◌, ◌++◌, length, get_or, take, Option, Some, None, option_map, refl, sym, ap, subst, ◌∙◌, arith, map-id}
use Rattle.std.proofs.lemmas.Bool.{cases_lt}
use Rattle.std.proofs.lemmas.Cmp.{lists_total}
use Rattle.std.proofs.lemmas.List.{take_more}
use Rattle.std.proofs.lemmas.Option.{slice_get-get_or}
use Rattle.std.proofs.lemmas.Slice.Zip.{all_zipped_more}
use Rattle.std.specs.Cmp.{IsTotalOrder}
use Rattle.std.specs.Cmp.Lexicographic.{nat_list_cmp_total}
use Rattle.std.specs.FinMap as finite
use Rattle.std.specs.FinMap.{nat_cmp-IsAntisymmetric, slice_cmp-IsAntisymmetric}
use Rattle.std.specs.FinMap.Entries.{find, is_sorted, below_all}
use Rattle.std.specs.List.{AllZip, AllWithin}
use Rattle.std.specs.Ordering.{is_lt, ordering_reverse}
use Rattle.ring.specs.Lists.{In}
use Rattle.ring.proofs.ListWords.{has_place_in}
use Rattle.tk_io.specs.Order.{names_cmp}
use Rattle.tk_io.specs.View.{keyed_view}
use Rattle.tk_io.proofs.SortedEntries.{found_at, missed_at, below_too, above_too}
use Rattle.group_inherit.specs.Flattening.{Flattened, TokenAt}
use Rattle.alias_ref.specs.Laws.{Flat}
use Rattle.alias_ref.specs.Unchanged.{raw_of, raw_in, DifferDecides}
use Rattle.alias_ref.specs.Written.{Step}
use Rattle.tree_changes.specs.Reached.{is_changed}
use Rattle.tree_changes.specs.Standing.{StandsAt}
use Rattle.tree_changes.specs.inner.Places.{ArePassed, IsPassed, IsPlaceOf, IsSameAt}
use Rattle.tree_changes.proofs.MapEntries.{entry_found}

abbrev total : IsTotalOrder names_cmp
total = lists_total nat_list_cmp_total

pub same_path : (p q : List Step) → names_cmp p q ≡ Equal → p ≡ q
same_path p q = slice_cmp-IsAntisymmetric (slice_cmp-IsAntisymmetric nat_cmp-IsAntisymmetric) p q

-- Entries as they are kept.

abbrev key : TokenAt → List Step
key token = token.0

abbrev value : TokenAt → Flattened
value token = token.1

as_entries : (ts : List TokenAt) → keyed_view key value ts ≡ ts
as_entries ts = map-id ts

in_order : (ts : List TokenAt) → T (is_sorted names_cmp ts) → T (is_sorted names_cmp (keyed_view key value ts))
in_order ts = subst (λ (l : List TokenAt). T (is_sorted names_cmp l)) (sym (as_entries ts))

turned : (x y : List Step) (r : Ordering) → names_cmp x y ≡ r → names_cmp y x ≡ ordering_reverse r
turned x y r e = total.antisymm y x ∙ ap ordering_reverse e

pub same_at : (ts : List TokenAt) (i : ℕ) (c d : TokenAt) → i < length ts → get_or ts i c ≡ get_or ts i d
same_at [] i c d h = absurd (omega (arith, h))
same_at (t ∷ ts) zero c d h = refl
same_at (t ∷ ts) (suc i) c d h = same_at ts i c d (omega (arith, h))

-- The turns of a search.

pub key_place : (tokens : List TokenAt) (path : List Step) (i : ℕ) → T (is_sorted names_cmp tokens) → i < length tokens
    → ((d : TokenAt) → names_cmp (get_or tokens i d).0 path ≡ Equal) → IsPlaceOf tokens path (Some i)
key_place tokens path i sorted within ties = (
  within,
  (λ d. same_path (get_or tokens i d).0 path (ties d)),
  (λ d. subst (λ (l : List TokenAt). find names_cmp path l ≡ Some (get_or tokens i d).1) (as_entries tokens)
      (found_at total key value path tokens i d (in_order tokens sorted) within (ties d))),
)

pub found_place : (tokens : List TokenAt) (path : List Step) (i : ℕ) (e : TokenAt) → T (is_sorted names_cmp tokens)
    → i < length tokens → e ≡ get_or tokens i e → names_cmp path e.0 ≡ Equal → IsPlaceOf tokens path (Some i)
found_place tokens path i e sorted within is tie =
    key_place tokens path i sorted within (λ d.
    ap (λ (t : TokenAt). names_cmp t.0 path) (same_at tokens i d e within ∙ sym is) ∙ turned path e.0 Equal tie)

pub missed : (tokens : List TokenAt) (path : List Step) (i : ℕ) → IsPassed tokens path i
    → AllWithin (λ (t : TokenAt). names_cmp t.0 path ≡ Greater) tokens i (length tokens) → IsPlaceOf tokens path None
missed tokens path i passed ahead =
    subst (λ (l : List TokenAt). find names_cmp path l ≡ None) (as_entries tokens)
    (missed_at total key value path tokens i (passed, ahead))

pub ahead_from : (tokens : List TokenAt) (path : List Step) (i : ℕ) (e : TokenAt) → T (is_sorted names_cmp tokens)
    → i < length tokens → names_cmp path (get_or tokens i e).0 ≡ Less
    → AllWithin (λ (t : TokenAt). names_cmp t.0 path ≡ Greater) tokens i (length tokens)
ahead_from tokens path i e sorted within less k d from below =
    above_too total key value path tokens i e (in_order tokens sorted) within (turned path (get_or tokens i e).0 Less less) k d from below

pub no_place : (tokens : List TokenAt) (path : List Step) (i : ℕ) (e : TokenAt) → T (is_sorted names_cmp tokens)
    → IsPassed tokens path i → i < length tokens → e ≡ get_or tokens i e → names_cmp path e.0 ≡ Less
    → IsPlaceOf tokens path None
no_place tokens path i e sorted passed within is less =
    missed tokens path i passed (λ k d from below.
    above_too total key value path tokens i e (in_order tokens sorted) within
    (ap (λ (t : TokenAt). names_cmp t.0 path) (sym is) ∙ turned path e.0 Less less) k d from below)

pub past_all : (tokens : List TokenAt) (path : List Step) (i : ℕ) → IsPassed tokens path i → length tokens ≤ i → IsPlaceOf tokens path None
past_all tokens path i passed long = missed tokens path i passed (λ k d from below. absurd (omega (arith, long, from, below)))

pub passes_next : (tokens : List TokenAt) (path : List Step) (i : ℕ) (e : TokenAt) → T (is_sorted names_cmp tokens)
    → i < length tokens → e ≡ get_or tokens i e → names_cmp path e.0 ≡ Greater → IsPassed tokens path (i + 1)
passes_next tokens path i e sorted within is greater k d from below =
    below_too total key value path tokens i e (in_order tokens sorted) within
    (ap (λ (t : TokenAt). names_cmp t.0 path) (sym is) ∙ turned path e.0 Greater greater) k d (omega (arith, below))

-- what stands before the path stands before each that is behind it
pub passed_before : (tokens : List TokenAt) (path : List Step) (i : ℕ) → IsPassed tokens path i → ArePassed tokens path i
passed_before tokens path i passed next less k d from below = total.trans (get_or tokens k d).0 path next (passed k d from below) less

-- .. and so does a token of the path itself
pub passed_itself : (tokens : List TokenAt) (path : List Step) (i : ℕ) (e : TokenAt) → IsPassed tokens path i → i < length tokens
    → e ≡ get_or tokens i e → names_cmp path e.0 ≡ Equal → ArePassed tokens path (i + 1)
passed_itself tokens path i e passed within is tie next less k d from below = go (cases_lt k i)
  where
    go : (k < i) ⊎ (i ≤ k) → names_cmp (get_or tokens k d).0 next ≡ Less
    go (inl h) = passed_before tokens path i passed next less k d from h
    go (inr h) =
        let here : k ≡ i = omega (arith, below, h) in
        ap (λ (t : TokenAt). names_cmp t.0 next) (ap (λ (n : ℕ). get_or tokens n d) here ∙ (same_at tokens i d e within ∙ sym is))
        ∙ (ap (λ (p : List Step). names_cmp p next) (sym (same_path path e.0 tie)) ∙ less)

-- What is found.

some_is : {X : Type 0} {x y : X} → Some x ≡ Some y → x ≡ y
some_is e = cc

some_none : {X : Type 0} {x : X} → None ≡ Some x → ⊥
some_none e = cc

raw_found : (old : Flat) (tokens : List TokenAt) (path : List Step) (o : Option Flattened) → tokens ≡ finite.entries old
    → find names_cmp path tokens ≡ o → raw_in old path ≡ option_map raw_of o
raw_found old tokens path o are e =
    ap (option_map raw_of) (finite.get-entries old path ∙ (ap (find names_cmp path) (sym are) ∙ e))

pub none_found : (old : Flat) (tokens : List TokenAt) (token : TokenAt) → tokens ≡ finite.entries old
    → IsPlaceOf tokens token.0 None → IsSameAt old token None
none_found old tokens token are none is = some_none (sym (raw_found old tokens token.0 None are none) ∙ is)

pub same_found : (old : Flat) (tokens : List TokenAt) (token e : TokenAt) (i : ℕ) → tokens ≡ finite.entries old
    → IsPlaceOf tokens token.0 (Some i) → raw_of (get_or tokens i e).1 ≡ raw_of token.1 → IsSameAt old token (Some i)
same_found old tokens token e i are place same =
    subst (λ (ts : List TokenAt). (i < length ts) × ((d : TokenAt) → (get_or ts i d).0 ≡ token.0) × ((d : TokenAt) → raw_of (get_or ts i d).1 ≡ raw_of token.1)) are (
      place.0,
      place.1,
      (λ d. ap (λ (x : TokenAt). raw_of x.1) (same_at tokens i d e place.0) ∙ same),
    )

pub other_found : (old : Flat) (tokens : List TokenAt) (token e : TokenAt) (i : ℕ) → tokens ≡ finite.entries old
    → IsPlaceOf tokens token.0 (Some i) → raw_of (get_or tokens i e).1 ≢ raw_of token.1 → IsSameAt old token None
other_found old tokens token e i are place other all =
    other (some_is (sym (raw_found old tokens token.0 (Some (get_or tokens i e).1) are (place.2 e)) ∙ all))

-- One token after another.

first : (a b : Bool) → T (a && b) → T a
first true b p = tt
first false b p = p

second : (a b : Bool) → T (a && b) → T b
second true b p = p
second false b p = absurd p

less : (o : Ordering) → T (is_lt o) → o ≡ Less
less Less p = refl
less Equal p = absurd p
less Greater p = absurd p

above : (x : List Step) (ts : List TokenAt) (k : ℕ) (d : TokenAt) → T (below_all names_cmp x ts) → k < length ts → names_cmp x (get_or ts k d).0 ≡ Less
above x [] k d h within = absurd (omega (arith, within))
above x (t ∷ ts) zero d h within = less (names_cmp x t.0) (first (is_lt (names_cmp x t.0)) (below_all names_cmp x ts) h)
above x (t ∷ ts) (suc k) d h within = above x ts k d (second (is_lt (names_cmp x t.0)) (below_all names_cmp x ts) h) (omega (arith, within))

pub ascends : (ts : List TokenAt) (i k : ℕ) (c d : TokenAt) → T (is_sorted names_cmp ts) → i < k → k < length ts
    → names_cmp (get_or ts i c).0 (get_or ts k d).0 ≡ Less
ascends [] i k c d s h within = absurd (omega (arith, within))
ascends (t ∷ ts) i zero c d s h within = absurd (omega (arith, h))
ascends (t ∷ ts) zero (suc k) c d s h within = above t.0 ts k d (first (below_all names_cmp t.0 ts) (is_sorted names_cmp ts) s) (omega (arith, within))
ascends (t ∷ ts) (suc i) (suc k) c d s h within =
    ascends ts i k c d (second (below_all names_cmp t.0 ts) (is_sorted names_cmp ts) s) (omega (arith, h)) (omega (arith, within))

-- the tokens that are still to come are behind those that were passed
abbrev pub AreBehind : List TokenAt → ℕ → List TokenAt → ℕ → Type 0
AreBehind tokens from olds at = (k : ℕ) (d : TokenAt) → from ≤ k → k < length tokens → IsPassed olds (get_or tokens k d).0 at

pub all_behind : (tokens olds : List TokenAt) → AreBehind tokens 0 olds 0
all_behind tokens olds k d from within j e low high = absurd (omega (arith, high))

pub still_behind : (tokens olds : List TokenAt) (i at : ℕ) (token : TokenAt) → T (is_sorted names_cmp tokens) → i < length tokens
    → token ≡ get_or tokens i token → ArePassed olds token.0 at → AreBehind tokens (i + 1) olds at
still_behind tokens olds i at token sorted within is behind k d from below =
    behind (get_or tokens k d).0 (ap (λ (x : TokenAt). names_cmp x.0 (get_or tokens k d).0) is ∙ ascends tokens i k token d sorted (omega (arith, from)) below)

-- what is found of a token of the new tree
stands : (decides : DifferDecides) (old new : Flat) (token : TokenAt) (o : Option ℕ) → finite.get new token.0 ≡ Some token.1
    → IsSameAt old token o → StandsAt old new token o
stands decides old new token None there other = go (is_changed old new token.0) refl
  where
    go : (b : Bool) → is_changed old new token.0 ≡ b → is_changed old new token.0 ≡ true
    go true e = e
    go false e = absurd (other ((decides (raw_in old token.0) (raw_in new token.0)).0 e ∙ ap (option_map raw_of) there))
stands decides old new token (Some i) there (within, path, same) = (
  get_or (finite.entries old) i token,
  slice_get-get_or (finite.entries old) i token within,
  path token,
  same token,
)

-- a token of the tree stands at its path
pub stands_there : (new : Flat) (tokens : List TokenAt) (i : ℕ) (token : TokenAt) → tokens ≡ finite.entries new → i < length tokens
    → token ≡ get_or tokens i token → finite.get new token.0 ≡ Some token.1
stands_there new tokens i token are within is =
    entry_found total (slice_cmp-IsAntisymmetric (slice_cmp-IsAntisymmetric nat_cmp-IsAntisymmetric)) new token.0 token.1
    (subst (In token) are (has_place_in token tokens (i, within, sym is)))

pub one_more : (decides : DifferDecides) (old new : Flat) (tokens : List TokenAt) (i : ℕ) (token : TokenAt) (places found : List (Option ℕ)) (o : Option ℕ)
    → AllZip (StandsAt old new) (take i tokens) places → i < length tokens → token ≡ get_or tokens i token
    → finite.get new token.0 ≡ Some token.1 → IsSameAt old token o → found ≡ places ++ o ∷ []
    → AllZip (StandsAt old new) (take (i + 1) tokens) found
one_more decides old new tokens i token places found o so_far within is there same made =
    let more : take (i + 1) tokens ≡ take i tokens ++ token ∷ [] = take_more tokens i token within ∙ ap (λ x. take i tokens ++ x ∷ []) (sym is) in
    subst (λ (ts : List TokenAt). AllZip (StandsAt old new) ts found) (sym more)
    (subst (λ (ps : List (Option ℕ)). AllZip (StandsAt old new) (take i tokens ++ token ∷ []) ps) (sym made)
    (all_zipped_more (StandsAt old new) (take i tokens) places token o so_far (stands decides old new token o there same)))
