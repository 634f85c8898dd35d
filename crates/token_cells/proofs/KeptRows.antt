-- Rows of an earlier tree that are kept for tokens of a new one.
use Rattle.std.proofs.Common.{◌≡◌, ℕ, zero, suc, ◌+◌, ◌-◌, ◌<◌, ◌≤◌, arith, Bool, Bor, true, false, List, [], ◌∷◌, ◌++◌, length, get_or, take, drop, cond, Option, Some, None, refl, sym, ap, ap₂, subst, ◌∙◌}
use Rattle.std.proofs.lemmas.List.{append_assoc, length-drop, length-map, length-take, map-append, map_more, map_push, take_more}
use Rattle.std.proofs.lemmas.List.Elements.{All-from_get_or, All-head, All-tail}
use Rattle.std.proofs.lemmas.List.Recursion.{is_count_by}
use Rattle.std.proofs.lemmas.List.Sums.{count_by_more_no, count_by_more_yes, sum_by-take-le}
use Rattle.std.proofs.lemmas.Option.{slice_get-get_or, slice_get_within}
use Rattle.std.proofs.lemmas.Slice.Zip.{all_zipped_more, AllZip-long}
use Rattle.std.specs.FinMap as finite
use Rattle.std.specs.List.{AllZip, count_by, slice_get, slice_range}
use Rattle.std.specs.Option.{is_none}
use Rattle.std.specs.Prelude.{All, IfSome, OnOk, Result, Ok, Err, map, option_map}
use Rattle.group_inherit.specs.Flattening.{TokenAt}
use Rattle.alias_ref.specs.Laws.{Flat}
use Rattle.alias_ref.specs.Unchanged.{AreDefinitions}
use Rattle.transforms.specs.Config.{Settings}
use Rattle.tree_changes.specs.Named.{AllNameAs}
use Rattle.tree_changes.specs.declared.named.Named.{Named}
use Rattle.tree_changes.specs.Standing.{KeepsAt}
use Rattle.token_cells.specs.Cell.{IsCell, AreCells}
use Rattle.token_cells.specs.Laws.{UnreachedIsAlike}
use Rattle.token_cells.specs.TokenCell.{TokenCell}
use Rattle.token_cells.specs.declared.keeping.Kept.{Kept}
use Rattle.token_cells.specs.declared.row.Fragments.{Fragments}
use Rattle.token_cells.specs.declared.row.Row.{Row}
use Rattle.token_cells.specs.inner.Blocks.{AreFrom, ComesToKept, IsFrom, Shows, ShowsAt}
use Rattle.token_cells.specs.inner.Earlier.{IsWithin, IsKeptOf, AreKept}
use Rattle.token_cells.specs.inner.Kept.{PageTexts, kept_view, row_view, rows_view}
use Rattle.token_cells.proofs.Known.{at_place}
use Rattle.token_cells.proofs.Parts.{front_and_part, in_part, one_item}

some_is : {X : Type 0} {x y : X} → Some x ≡ Some y → x ≡ y
some_is e = cc

none_is : {X : Type 0} {x : X} → None ≡ Some x → ⊥
none_is e = cc

-- what stands in the one list beside an item of the other
pub beside : {A B : Type 0} (R : A → B → Type 0) (xs : List A) (ys : List B) (i : ℕ) (x : A) → AllZip R xs ys → slice_get xs i ≡ Some x
    → (y : B) × (slice_get ys i ≡ Some y) × R x y
beside R [] ys i x all e = absurd (none_is e)
beside R (z ∷ xs) [] i x all e = absurd all
beside R (z ∷ xs) (y ∷ ys) zero x all e = (y, refl, subst (λ a. R a y) (some_is e) all.0)
beside R (z ∷ xs) (y ∷ ys) (suc i) x all e = beside R xs ys i x all.1 e

-- .. and above an item of the other
pub above : {A B : Type 0} (R : A → B → Type 0) (xs : List A) (ys : List B) (i : ℕ) (y : B) → AllZip R xs ys → slice_get ys i ≡ Some y
    → (x : A) × (slice_get xs i ≡ Some x) × R x y
above R [] [] i y all e = absurd (none_is e)
above R [] (z ∷ ys) i y all e = absurd all
above R (x ∷ xs) [] i y all e = absurd all
above R (x ∷ xs) (z ∷ ys) zero y all e = (x, refl, subst (λ b. R x b) (some_is e) all.0)
above R (x ∷ xs) (z ∷ ys) (suc i) y all e = above R xs ys i y all.1 e

-- one place more
pub one_kept : (pages : PageTexts) (rows : List Row) (places : List (Option ℕ)) (i : ℕ) (place : Option ℕ) (kepts more : List (Option Kept)) (kept : Option Kept)
    → AllZip (IsKeptOf pages rows) (take i places) kepts → i < length places → place ≡ get_or places i None → IsKeptOf pages rows place kept
    → more ≡ kepts ++ kept ∷ [] → AllZip (IsKeptOf pages rows) (take (i + 1) places) more
one_kept pages rows places i place kepts more kept so_far within is here made =
    let longer : take (i + 1) places ≡ take i places ++ place ∷ [] = take_more places i None within ∙ ap (λ x. take i places ++ x ∷ []) (sym is) in
    subst (λ (ps : List (Option ℕ)). AllZip (IsKeptOf pages rows) ps more) (sym longer)
    (subst (λ (ks : List (Option Kept)). AllZip (IsKeptOf pages rows) (take i places ++ place ∷ []) ks) (sym made)
    (all_zipped_more (IsKeptOf pages rows) (take i places) kepts place kept so_far here))

-- The tokens come to what is kept for them.
pub kept_are : UnreachedIsAlike → (old new : Flat) (settings : Settings) (pages : PageTexts) (rows : List Row) (places : List (Option ℕ)) (kepts : List (Option Kept))
    → AreDefinitions old → AreDefinitions new → AreCells old settings (finite.entries old) (rows_view pages rows)
    → AllZip (KeepsAt old new) (finite.entries new) places → AllZip (IsKeptOf pages rows) places kepts → AreKept new settings kepts
kept_are alike old new settings pages rows places kepts of_old of_new cells keep show = record {
  cells = λ i token kept at is.
      let (place, place_at, keeps) = beside (KeepsAt old new) (finite.entries new) places i token keep at in
      let (k, is_k, row, same) = at_place (IsKeptOf pages rows) places kepts i place (Some kept) show place_at is in
      kept_at token (kept_view kept) k row (subst (KeepsAt old new token) is_k keeps);
  pages = pages;
  from = λ i kept is.
      let (place, place_at, shown) = above (IsKeptOf pages rows) places kepts i (Some kept) show is in
      shown.3;
}
  where
    kept_at : (token : TokenAt) (cell : TokenCell) (k : ℕ) → slice_get (rows_view pages rows) k ≡ Some cell → KeepsAt old new token (Some k) → IsCell new settings token.0 cell
    kept_at token cell k row (unreached, stands) =
        let of_there = at_place (λ t c. IsCell old settings t.0 c) (finite.entries old) (rows_view pages rows) k stands.0 cell cells stands.1 row in
        (alike old new settings token.0 cell (λ p f walk there. of_old p f there) (λ p f walk there. of_new p f there) unreached).0
        (subst (λ p. IsCell old settings p cell) stands.2 of_there)

-- .. also one of them, where something is kept for it
pub kept_if : (flat : Flat) (settings : Settings) (kepts : List (Option Kept)) (i : ℕ) (token : TokenAt) (kept : Option Kept) → AreKept flat settings kepts
    → slice_get (finite.entries flat) i ≡ Some token → ((k : Kept) → kept ≡ Some k → slice_get kepts i ≡ Some (Some k))
    → IfSome kept (λ k. IsCell flat settings token.0 (kept_view k))
kept_if flat settings kepts i token None are at from = tt
kept_if flat settings kepts i token (Some k) are at from = are.cells i token k at (from k refl)

pub none_kept : (flat : Flat) (settings : Settings) (kepts : List (Option Kept)) → kepts ≡ [] → AreKept flat settings kepts
none_kept flat settings kepts none = record {
  cells = λ i token kept at is. absurd (none_is (ap (λ (ks : List (Option Kept)). slice_get ks i) (sym none) ∙ is));
  pages = record { css = []; android = []; swift = []; json = []; names = [] };
  from = λ i kept is. absurd (none_is (ap (λ (ks : List (Option Kept)). slice_get ks i) (sym none) ∙ is));
}

pub none_known : (flat : Flat) (named : List Named) → named ≡ [] → AllNameAs (finite.entries flat) named
none_known flat named none i token is at said = absurd (none_is (ap (λ (ns : List Named). slice_get ns i) (sym none) ∙ said))

-- Places that are kept are those of rows.
pub within_rows : (old new : Flat) (settings : Settings) (pages : PageTexts) (rows : List Row) (places : List (Option ℕ))
    → AreCells old settings (finite.entries old) (rows_view pages rows) → AllZip (KeepsAt old new) (finite.entries new) places → All (IsWithin (length rows)) places
within_rows old new settings pages rows places cells keep =
    All-from_get_or (IsWithin (length rows)) places None (λ i within. at i within (get_or places i None) refl)
  where
    long : length (finite.entries old) ≡ length rows
    long = sym (AllZip-long (λ t c. IsCell old settings t.0 c) (finite.entries old) (rows_view pages rows) cells) ∙ length-map rows (row_view pages)

    kept : (token : TokenAt) (k : ℕ) → KeepsAt old new token (Some k) → k < length rows
    kept token k (unreached, stands) = subst (λ n. k < n) long (slice_get_within (finite.entries old) k stands.0 stands.1)

    at : (i : ℕ) → i < length places → (place : Option ℕ) → get_or places i None ≡ place → IsWithin (length rows) place
    at i within None is = tt
    at i within (Some k) is =
        let here : slice_get places i ≡ Some (Some k) = slice_get-get_or places i None within ∙ ap Some is in
        let (token, there, keeps) = above (KeepsAt old new) (finite.entries new) places i (Some k) keep here in
        kept token k keeps

-- one place more, of which it is said whether there is nothing
pub one_none : (places : List (Option ℕ)) (i : ℕ) (place : Option ℕ) (kepts more : List (Option Kept)) (kept : Option Kept)
    → map is_none kepts ≡ map is_none (take i places) → i < length places → place ≡ get_or places i None → is_none kept ≡ is_none place
    → more ≡ kepts ++ kept ∷ [] → map is_none more ≡ map is_none (take (i + 1) places)
one_none places i place kepts more kept so_far within is same made =
    ap (λ (ks : List (Option Kept)). map is_none ks) made ∙ (map_push is_none kepts kept
    ∙ (ap₂ (λ (bs : List Bool) (b : Bool). bs ++ b ∷ []) so_far (same ∙ ap is_none is) ∙ sym (map_more is_none places i None within)))

-- the tokens of which nothing is kept, and one more
pub count_next : (kepts : List (Option Kept)) (i : ℕ) (kept : Option Kept) → i < length kepts → kept ≡ get_or kepts i kept
    → count_by is_none (take (i + 1) kepts) ≡ count_by is_none (take i kepts) + cond (is_none kept) 1 0
count_next kepts i kept within is = by (is_none kept) refl
  where
    none_more : (n : ℕ) → n + 0 ≡ n
    none_more n = omega arith

    by : (b : Bool) → is_none kept ≡ b → count_by is_none (take (i + 1) kepts) ≡ count_by is_none (take i kepts) + cond b 1 0
    by true e = count_by_more_yes is_none kepts i kept within (ap is_none (sym is) ∙ e)
    by false e = count_by_more_no is_none kepts i kept within (ap is_none (sym is) ∙ e) ∙ sym (none_more (count_by is_none (take i kepts)))

unfoldable trues : List Bool → ℕ
trues [] = 0
trues (b ∷ bs) = cond b (1 + trues bs) (trues bs)

counts_trues : {X : Type 0} (p : X → Bool) (xs : List X) → trues (map p xs) ≡ count_by p xs
unfolding trues
counts_trues p xs = is_count_by (λ ys. trues (map p ys)) p refl (λ y ys. refl) xs

-- as many are told of one list as of the other
pub same_count : {X Y : Type 0} (p : X → Bool) (q : Y → Bool) (xs : List X) (ys : List Y) → map p xs ≡ map q ys → count_by p xs ≡ count_by q ys
same_count p q xs ys e = sym (counts_trues p xs) ∙ (ap trues e ∙ counts_trues q ys)

-- the first of a list have no more of them than all
pub count_front : {X : Type 0} (p : X → Bool) (xs : List X) (i : ℕ) → count_by p (take i xs) ≤ count_by p xs
count_front p xs i = sum_by-take-le (λ x. cond (p x) 1 0) xs i

-- what holds whatever is answered
pub any_ok : {T E P : Type 0} (r : Result T E) → P → OnOk r P
any_ok (Ok x) p = p
any_ok (Err e) p = tt

-- fragments that are kept of the token at a place
pub shows_at : (kepts : List (Option Kept)) (i : ℕ) (kept : Option Kept) (found : Option (Bor Fragments)) → slice_get kepts i ≡ Some kept
    → IfSome found (λ f. (pages : PageTexts) → IsFrom pages kept → Shows pages f.now kept) → IfSome found (λ f. (pages : PageTexts) → AreFrom pages kepts → ShowsAt pages f.now kepts i)
shows_at kepts i kept None there shows = tt
shows_at kepts i kept (Some f) there shows = λ pages from.
    record { kept = kept; there = there; shows = shows pages (λ k is. from i k (there ∙ ap (λ (o : Option Kept). Some o) is)) }

-- .. which are those of a list, where these are kept of the tokens
pub its_fragments : (pages : PageTexts) (fs : List Fragments) (kepts : List (Option Kept)) (i : ℕ) (kept : Option Kept) (found : Option (Bor Fragments)) (own : Bor Fragments)
    → AllZip (Shows pages) fs kepts → slice_get kepts i ≡ Some kept → ((p : PageTexts) (f : Fragments) → Shows p f kept → option_map (λ f. f.now) found ≡ Some f)
    → found ≡ Some own → slice_get fs i ≡ Some own.now
its_fragments pages fs kepts i kept found own shows there shown is =
    let (f, at, here) = above (Shows pages) fs kepts i kept shows there in
    let same : Some own.now ≡ Some f = ap (option_map (λ (o : Bor Fragments). o.now)) (sym is) ∙ shown pages f here in
    at ∙ sym same

-- .. and there are some
pub some_fragments : (pages : PageTexts) (fs : List Fragments) (kepts : List (Option Kept)) (i : ℕ) (kept : Option Kept) (found : Option (Bor Fragments))
    → AllZip (Shows pages) fs kepts → slice_get kepts i ≡ Some kept → ((p : PageTexts) (f : Fragments) → Shows p f kept → option_map (λ f. f.now) found ≡ Some f)
    → found ≡ None → ⊥
some_fragments pages fs kepts i kept found shows there shown is =
    let (f, at, here) = above (Shows pages) fs kepts i kept shows there in
    none_is (ap (option_map (λ (o : Bor Fragments). o.now)) (sym is) ∙ shown pages f here)

-- one more of a list that is taken over
pub one_taken : {X Y : Type 0} → (g : X → Y) (old so_far new : List Y) (xs : List X) (i : ℕ) (x : X) (y : Y) → so_far ≡ old ++ map g (take i xs) → slice_get xs i ≡ Some x
    → new ≡ so_far ++ y ∷ [] → y ≡ g x → new ≡ old ++ map g (take (i + 1) xs)
one_taken g old so_far new xs i x y is at made same =
    let longer : take (i + 1) xs ≡ take i xs ++ x ∷ [] = front_and_part xs i (i + 1) (omega arith) ∙ ap (λ ys. take i xs ++ ys) (one_item xs i x at) in
    made
    ∙ (ap₂ (λ ys z. ys ++ z ∷ []) is same
    ∙ (append_assoc old (map g (take i xs)) (g x ∷ []) ∙ ap (λ ys. old ++ ys) (sym (ap (map g) longer ∙ map_push g (take i xs) x))))

-- what holds of all of a list
pub all_at : {X : Type 0} → (P : X → Type 0) (xs : List X) (i : ℕ) (x : X) → All P xs → slice_get xs i ≡ Some x → P x
all_at P [] i x all e = absurd (none_is e)
all_at P (y ∷ xs) zero x all e = subst P (some_is e) (All-head P y xs all)
all_at P (y ∷ xs) (suc i) x all e = all_at P xs i x (All-tail P y xs all) e

-- what holds of all pairs of two lists as long as each other
zip_of : {A B : Type 0} → (R : A → B → Type 0) (xs : List A) (ys : List B) → length xs ≡ length ys
    → ((i : ℕ) (x : A) (y : B) → slice_get xs i ≡ Some x → slice_get ys i ≡ Some y → R x y) → AllZip R xs ys
zip_of R [] [] long all = tt
zip_of R [] (y ∷ ys) long all = absurd (cc)
zip_of R (x ∷ xs) [] long all = absurd (cc)
zip_of R (x ∷ xs) (y ∷ ys) long all = (all 0 x y refl refl, zip_of R xs ys (cc) (λ i a b p q. all (suc i) a b p q))

-- Tokens from one place to another come to what is kept of them.
pub part_comes : (flat : Flat) (settings : Settings) (tokens : List TokenAt) (kepts : List (Option Kept)) (i end : ℕ) → tokens ≡ finite.entries flat → AreKept flat settings kepts
    → end ≤ length tokens → end ≤ length kepts → AllZip (ComesToKept flat settings) (slice_range tokens i end) (slice_range kepts i end)
part_comes flat settings tokens kepts i end are_tokens are within long =
    zip_of (ComesToKept flat settings) (slice_range tokens i end) (slice_range kepts i end) as_many
    (λ k token kept at there. λ own is.
    are.cells (i + k) token own (subst (λ (ts : List TokenAt). slice_get ts (i + k) ≡ Some token) are_tokens (in_part tokens i end k token at))
    (in_part kepts i end k kept there ∙ ap (λ (o : Option Kept). Some o) is))
  where
    as_many : length (slice_range tokens i end) ≡ length (slice_range kepts i end)
    as_many = omega (arith, length-take (end - i) (drop i tokens), length-take (end - i) (drop i kepts), length-drop i tokens, length-drop i kepts, within, long)

trues_both : (xs ys : List Bool) → trues (xs ++ ys) ≡ trues xs + trues ys
unfolding trues
trues_both [] ys = omega arith
trues_both (true ∷ xs) ys = let rest = trues_both xs ys in omega (arith, rest)
trues_both (false ∷ xs) ys = trues_both xs ys

none_missing : (pages : PageTexts) (fs : List Fragments) (kepts : List (Option Kept)) → AllZip (Shows pages) fs kepts → trues (map is_none kepts) ≡ 0
unfolding trues
none_missing pages [] [] shows = refl
none_missing pages [] (k ∷ kepts) shows = absurd shows
none_missing pages (f ∷ fs) [] shows = absurd shows
none_missing pages (f ∷ fs) (None ∷ kepts) shows = absurd (none_is shows.0.1)
none_missing pages (f ∷ fs) (Some k ∷ kepts) shows = none_missing pages fs kepts shows.1

-- none of the tokens that are shown is one of which nothing is kept
pub count_shown : (pages : PageTexts) (fs : List Fragments) (kepts : List (Option Kept)) (i end : ℕ) → i ≤ end → AllZip (Shows pages) fs (slice_range kepts i end)
    → count_by is_none (take end kepts) ≡ count_by is_none (take i kepts)
count_shown pages fs kepts i end behind shows =
    let part = slice_range kepts i end in
    let all : map is_none (take end kepts) ≡ map is_none (take i kepts) ++ map is_none part =
    ap (λ (ks : List (Option Kept)). map is_none ks) (front_and_part kepts i end behind) ∙ map-append is_none (take i kepts) part in
    let none = none_missing pages fs part shows in
    let sum = ap trues all ∙ trues_both (map is_none (take i kepts)) (map is_none part) in
    let same : trues (map is_none (take end kepts)) ≡ trues (map is_none (take i kepts)) = omega (arith, sum, none) in
    sym (counts_trues is_none (take end kepts)) ∙ (same ∙ counts_trues is_none (take i kepts))
