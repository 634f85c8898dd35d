-- The keys of a map as the paths of a manifest.
use Rattle.std.proofs.Common.{◌≡◌, ◌⊎◌, inl, inr, ℕ, Bool, true, false, T, ◌&&◌, ◌||◌, List, [], ◌∷◌, map as map_list, Ordering, Less, Equal, Greater, refl, sym, ap, subst, ◌∙◌}
use Rattle.std.specs.FinMap as map
use Rattle.std.specs.FinMap.{is_sorted}
use Rattle.std.specs.FinMap.Entries.{below_all}
use Rattle.std.specs.List.{AllByRecursion}
use Rattle.std.specs.Ordering.{is_lt, eq_by_cmp}
use Rattle.std.specs.String.{string_bytes}
use Rattle.std.specs.declared.string.String.{String}
use Rattle.tk_io.specs.Order.{text_cmp}
use Rattle.tk_io.specs.View.{entries_view}
use Rattle.out_store.specs.Manifest.{IsManifest, Rises, is_listed, manifest_text}
use Rattle.out_store.specs.Paths.{IsOutputPath}
use Rattle.out_store.proofs.Lines.{path_some}
use Rattle.out_store.proofs.Places.{key_itself, same_key}

first : (a b : Bool) → T (a && b) → T a
first true b p = tt
first false b p = p

second : (a b : Bool) → T (a && b) → T b
second true b p = p
second false b p = absurd p

less : (o : Ordering) → T (is_lt o) → o ≡ Less
less Less p = refl
less Equal p = absurd p
less Greater p = absurd p

pub or_left : (a b : Bool) → a ≡ true → (a || b) ≡ true
or_left true b e = refl
or_left false b e = cc

pub or_right : (a b : Bool) → b ≡ true → (a || b) ≡ true
or_right true b e = refl
or_right false b e = e

pub or_split : (a b : Bool) → (a || b) ≡ true → (a ≡ true) ⊎ (b ≡ true)
or_split true b e = inl refl
or_split false b e = inr e

-- a path of a list fits where all of them do
pub listed_fits : (P : List ℕ → Type 0) (paths : List (List ℕ)) (q : List ℕ) → AllByRecursion P paths → is_listed paths q ≡ true → P q
listed_fits P [] q h e = absurd (cc)
listed_fits P (p ∷ ps) q h e =
    elim (or_split (eq_by_cmp text_cmp q p) (is_listed ps q) e) [
      | inl same ↦ subst P (sym (same_key q p same)) h.0
      | inr later ↦ listed_fits P ps q h.1 later
    ]

-- .. and all of them do where each that is listed does
pub each_listed : (P : List ℕ → Type 0) (paths : List (List ℕ)) → ((q : List ℕ) → is_listed paths q ≡ true → P q) → AllByRecursion P paths
each_listed P [] h = tt
each_listed P (p ∷ ps) h = (h p (or_left _ (is_listed ps p) (key_itself p p refl)), each_listed P ps (λ q listed. h q (or_right (eq_by_cmp text_cmp q p) _ listed)))

rising : {X : Type 0} (last : List ℕ) (es : List (List ℕ × X)) → T (below_all text_cmp last es) → T (is_sorted text_cmp es) → Rises last (map_list (λ e. e.0) es)
rising last [] below sorted = tt
rising last (e ∷ es) below sorted =
    (less (text_cmp last e.0) (first (is_lt (text_cmp last e.0)) (below_all text_cmp last es) below), rising e.0 es (first (below_all text_cmp e.0 es) (is_sorted text_cmp es) sorted) (second (below_all text_cmp e.0 es) (is_sorted text_cmp es) sorted))

rising_first : {X : Type 0} (es : List (List ℕ × X)) → AllByRecursion IsOutputPath (map_list (λ e. e.0) es) → T (is_sorted text_cmp es) → Rises [] (map_list (λ e. e.0) es)
rising_first [] fits sorted = tt
rising_first (e ∷ es) fits sorted = (path_some e.0 fits.0, rising e.0 es (first (below_all text_cmp e.0 es) (is_sorted text_cmp es) sorted) (second (below_all text_cmp e.0 es) (is_sorted text_cmp es) sorted))

-- a key is one of the keys
pub listed_key : {X : Type 0} (m : map.FinMap text_cmp X) (q : List ℕ) → map.contains_key m q ≡ is_listed (map.keys m) q
listed_key m q = map.contains_key-keys m q

-- the keys make a manifest where each is an output path
pub keys_manifest : {X : Type 0} (m : map.FinMap text_cmp X) → ((q : List ℕ) → map.contains_key m q ≡ true → IsOutputPath q) → IsManifest (manifest_text (map.keys m)) (map.keys m)
keys_manifest m fits =
    let each = each_listed IsOutputPath (map.keys m) (λ q listed. fits q (listed_key m q ∙ listed)) in
    record { lines = refl; each = each; rise = rising_first (map.entries m) each (map.entries_sorted m) }

-- the paths of entries as they are kept
pub keys_of_entries : {Z V : Type 0} (es : List (String Z × V)) → map_list (λ e. string_bytes e.0) es ≡ map_list (λ e. e.0) (entries_view string_bytes (λ v. v) es)
keys_of_entries [] = refl
keys_of_entries (e ∷ es) = ap (λ (z : List (List ℕ)). string_bytes e.0 ∷ z) (keys_of_entries es)
