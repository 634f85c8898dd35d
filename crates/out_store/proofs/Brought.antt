-- Bringing outputs, path after path.
use Rattle.std.proofs.Common.{◌≡◌, ◌≢◌, ◌⊎◌, inl, inr, ◌<◌, ◌≤◌, ◌+◌, ◌++◌, ℕ, true, false, List, [], ◌∷◌, Option, Some, None, take, get_or, length, zero, suc, arith, map as map_list, refl, sym, ap, subst, ◌∙◌}
use Rattle.std.specs.FinMap as map
use Rattle.std.specs.Option.{IfSome}
use Rattle.std.specs.String.{string_bytes}
use Rattle.std.specs.declared.string.String.{String}
use Rattle.tk_io.specs.FilesData.{FilesData}
use Rattle.tk_io.specs.Order.{text_cmp}
use Rattle.tk_io.specs.View.{entries_view}
use Rattle.std.specs.Ordering.{eq_by_cmp}
use Rattle.out_store.specs.Effects.{Elsewhere, IsTakenOrKept, Told}
use Rattle.out_store.specs.Manifest.{is_listed}
use Rattle.out_store.specs.Paths.{out_place}
use Rattle.out_store.specs.inner.Passing.{IsBrought, IsWithin}
use Rattle.out_store.proofs.Keys.{keys_of_entries, listed_key, or_left, or_right, or_split}
use Rattle.out_store.proofs.Lists.{listed_push, take_none, taken_all, taken_more}
use Rattle.out_store.proofs.Places.{key_itself, kept_elsewhere, same_key, same_or_not, same_output, taken_elsewhere, taken_there, written_elsewhere, written_there}
use Rattle.out_store.proofs.Told.{told_as, told_given, told_same, told_then}

-- One place.

module _ (place : List ℕ) where
  abbrev There : Option (List ℕ) → FilesData → FilesData → Type 0
  There wanted m n = map.get n place ≡ wanted

  pub same_elsewhere : (a : Option FilesData) → Told a a (Elsewhere place)
  same_elsewhere a = told_same (Elsewhere place) a a refl (λ m q apart. refl)

  pub read_elsewhere : (a b : Option FilesData) → b ≡ a → Told a b (Elsewhere place)
  read_elsewhere a b e = told_same (Elsewhere place) a b e (λ m q apart. refl)

  -- what was found is what is wanted, or is written over
  abbrev Over : List ℕ → List ℕ → FilesData → FilesData → Type 0
  Over found bytes m n = map.get m place ≡ Some found → map.get n place ≡ Some bytes

  pub found_same : (a : Option FilesData) (found bytes : List ℕ) → found ≡ bytes → Told a a (λ m n. map.get m place ≡ Some found → map.get n place ≡ Some bytes)
  found_same a found bytes e = told_same (Over found bytes) a a refl (λ m h. h ∙ ap Some e)

  pub found_over : (a b : Option FilesData) (found bytes : List ℕ) → Told a b (λ m n. n ≡ map.insert m place bytes) → Told a b (λ m n. map.get m place ≡ Some found → map.get n place ≡ Some bytes)
  found_over a b found bytes h = told_as (Over found bytes) a b h (λ m n e _. written_there m n place bytes e)

  pub found_there : (a b d : Option FilesData) (read : Option (List ℕ)) (found bytes : List ℕ) → b ≡ a → IfSome a (λ m. read ≡ map.get m place) → read ≡ Some found → Told b d (λ m n. map.get m place ≡ Some found → map.get n place ≡ Some bytes) → Told a d (λ m n. map.get n place ≡ Some bytes)
  found_there a b d read found bytes e h is over =
      told_given (There (Some bytes)) a d h (subst (λ (x : Option FilesData). Told x d (Over found bytes)) e over) (λ m n r f. f (sym r ∙ is))

  pub wrote_elsewhere : (a b : Option FilesData) (bytes : List ℕ) → Told a b (λ m n. n ≡ map.insert m place bytes) → Told a b (Elsewhere place)
  wrote_elsewhere a b bytes h = told_as (Elsewhere place) a b h (λ m n e. written_elsewhere m n place bytes e)

  pub wrote_there : (a b : Option FilesData) (bytes : List ℕ) → Told a b (λ m n. n ≡ map.insert m place bytes) → Told a b (λ m n. map.get n place ≡ Some bytes)
  wrote_there a b bytes h = told_as (There (Some bytes)) a b h (λ m n e. written_there m n place bytes e)

  pub took_elsewhere : (a b : Option FilesData) → Told a b (λ m n. n ≡ map.remove m place) → Told a b (Elsewhere place)
  took_elsewhere a b h = told_as (Elsewhere place) a b h (λ m n e. taken_elsewhere m n place e)

  pub took_there : (a b : Option FilesData) → Told a b (λ m n. n ≡ map.remove m place) → Told a b (λ m n. map.get n place ≡ None)
  took_there a b h = told_as (There None) a b h (λ m n e. taken_there m n place e)

  pub kept_there : (a b : Option FilesData) → Told a b (IsTakenOrKept place) → Told a b (Elsewhere place)
  kept_there a b h = told_as (Elsewhere place) a b h (λ m n e. kept_elsewhere m n place e)

  -- after a read
  pub later_elsewhere : (a b d : Option FilesData) → b ≡ a → Told b d (Elsewhere place) → Told a d (Elsewhere place)
  later_elsewhere a b d e h = subst (λ (x : Option FilesData). Told x d (Elsewhere place)) e h

  pub later_there : (a b d : Option FilesData) (wanted : Option (List ℕ)) → b ≡ a → Told b d (λ m n. map.get n place ≡ wanted) → Told a d (λ m n. map.get n place ≡ wanted)
  later_there a b d wanted e h = subst (λ (x : Option FilesData). Told x d (There wanted)) e h

-- Many.

module _ {V : Type 0} (paths : map.FinMap text_cmp V) (outputs : FilesData) where
  -- only outputs at the paths changed, and those that are listed so far are as they are wanted
  abbrev pub SoFar : List (List ℕ) → FilesData → FilesData → Type 0
  SoFar done m n = IsWithin (map.contains_key paths) m n × IsBrought (is_listed done) outputs n

  pub so_far_none : (a : Option FilesData) → Told a a (SoFar (take 0 (map.keys paths)))
  so_far_none a = told_same (SoFar (take 0 (map.keys paths))) a a refl (λ m. (λ place. inr refl, λ path here. none_listed path here))
    where
      none_listed : {P : Type 0} (path : List ℕ) → is_listed (take 0 (map.keys paths)) path ≡ true → P
      none_listed path here = let k : false ≡ true = ap (λ l. is_listed l path) (sym (take_none (map.keys paths))) ∙ here in absurd (cc)

  module _ (done after : List (List ℕ)) (k : List ℕ) (more : after ≡ done ++ k ∷ []) (known : map.contains_key paths k ≡ true) where
    within_more : (m n : FilesData) → IsWithin (map.contains_key paths) m n → (l : FilesData) → Elsewhere (out_place k) n l → IsWithin (map.contains_key paths) m l
    within_more m n within l elsewhere place =
        elim (same_or_not place (out_place k)) [
          | inl e ↦ inl (k, known, e)
          | inr apart ↦ at_other (within place) (elsewhere place apart)
        ]
      where
        at_other : ((path : List ℕ) × (map.contains_key paths path ≡ true) × (place ≡ out_place path)) ⊎ (map.get n place ≡ map.get m place) → map.get l place ≡ map.get n place → ((path : List ℕ) × (map.contains_key paths path ≡ true) × (place ≡ out_place path)) ⊎ (map.get l place ≡ map.get m place)
        at_other (inl w) e = inl w
        at_other (inr same) e = inr (e ∙ same)

    brought_more : (n l : FilesData) → IsBrought (is_listed done) outputs n → Elsewhere (out_place k) n l → map.get l (out_place k) ≡ map.get outputs k → IsBrought (is_listed after) outputs l
    brought_more n l brought elsewhere there path here =
        elim (same_or_not path k) [
          | inl e ↦ ap (λ z. map.get l (out_place z)) e ∙ (there ∙ ap (map.get outputs) (sym e))
          | inr apart ↦ elsewhere (out_place path) (λ e. apart (same_output path k e)) ∙ brought path (earlier path apart here)
        ]
      where
        earlier : (path : List ℕ) → path ≢ k → is_listed after path ≡ true → is_listed done path ≡ true
        earlier path apart here =
            elim (or_split (is_listed done path) (eq_by_cmp text_cmp path k) (sym (listed_push done k path) ∙ (ap (λ l. is_listed l path) (sym more) ∙ here))) [
              | inl e ↦ e
              | inr e ↦ absurd (apart (same_key path k e))
            ]

    abbrev Within : FilesData → FilesData → Type 0
    Within m n = IsWithin (map.contains_key paths) m n

    pub within_on : (a b d : Option FilesData) → Told a b (SoFar done) → Told b d (Elsewhere (out_place k)) → Told a d (IsWithin (map.contains_key paths))
    within_on a b d h e = told_then Within a b d h e (λ m n l so elsewhere. within_more m n so.0 l elsewhere)

    pub so_far_more : (a b d : Option FilesData) → Told a b (SoFar done) → Told b d (Elsewhere (out_place k)) → Told b d (λ m n. map.get n (out_place k) ≡ map.get outputs k) → Told a d (SoFar after)
    so_far_more a b d h e t =
        let both = both_told b d e t in
        told_then (SoFar after) a b d h both (λ m n l so one. (within_more m n so.0 l one.0, brought_more n l so.1 one.0 one.1))
      where
        both_told : (b d : Option FilesData) → Told b d (Elsewhere (out_place k)) → Told b d (λ m n. map.get n (out_place k) ≡ map.get outputs k) → Told b d (λ n l. Elsewhere (out_place k) n l × (map.get l (out_place k) ≡ map.get outputs k))
        both_told None d e t = tt
        both_told (Some n) None e t = e
        both_told (Some n) (Some l) e t = (e, t)

  pub all_within : (done : List (List ℕ)) (a b : Option FilesData) → Told a b (SoFar done) → Told a b (IsWithin (map.contains_key paths))
  all_within done a b h = told_as (IsWithin (map.contains_key paths)) a b h (λ m n so. so.0)

  pub all_brought_told : (done : List (List ℕ)) → done ≡ map.keys paths → (a b : Option FilesData) → Told a b (SoFar done) → Told a b (λ m n. IsBrought (map.contains_key paths) outputs n)
  all_brought_told done e a b h = told_as (λ m n. IsBrought (map.contains_key paths) outputs n) a b h (λ m n so path here. so.1 path (ap (λ l. is_listed l path) e ∙ (sym (listed_key paths path) ∙ here)))

-- the keys of entries as they are kept
module _ {Z V : Type 0} (es : List (String Z × V)) (m : map.FinMap text_cmp V) (shown : entries_view string_bytes (λ v. v) es ≡ map.entries m) where
  shown_keys : map_list (λ e. string_bytes e.0) es ≡ map.keys m
  shown_keys = keys_of_entries es ∙ ap (map_list (λ e. e.0)) shown

  pub keys_taken : (i : ℕ) (x : String Z × V) → i < length es → x ≡ get_or es i x → take (i + 1) (map.keys m) ≡ take i (map.keys m) ++ string_bytes x.0 ∷ []
  keys_taken i x h is = subst (λ (l : List (List ℕ)). take (i + 1) l ≡ take i l ++ string_bytes x.0 ∷ []) shown_keys (taken_more (λ e. string_bytes e.0) es i x h is)

  pub keys_all : (i : ℕ) → length es ≤ i → take i (map.keys m) ≡ map.keys m
  keys_all i h = subst (λ (l : List (List ℕ)). take i l ≡ l) shown_keys (taken_all (λ e. string_bytes e.0) es i h)

  key_at : {K X : Type 0} (ks : List (K × X)) (f : K → List ℕ) (i : ℕ) (x : K × X) → i < length ks → x ≡ get_or ks i x → is_listed (map_list (λ e. f e.0) ks) (f x.0) ≡ true
  key_at [] f i x h is = absurd (omega (arith, h))
  key_at (e ∷ ks) f zero x h is = or_left (eq_by_cmp text_cmp (f x.0) (f e.0)) _ (key_itself (f x.0) (f e.0) (ap (λ z. f z.0) is))
  key_at (e ∷ ks) f (suc i) x h is = or_right (eq_by_cmp text_cmp (f x.0) (f e.0)) _ (key_at ks f i x (omega (arith, h)) is)

  pub key_known : (i : ℕ) (x : String Z × V) → i < length es → x ≡ get_or es i x → map.contains_key m (string_bytes x.0) ≡ true
  key_known i x h is = listed_key m (string_bytes x.0) ∙ (ap (λ l. is_listed l (string_bytes x.0)) (sym shown_keys) ∙ key_at es string_bytes i x h is)

-- a place by another text that is the same
pub elsewhere_place : (p q : List ℕ) → p ≡ q → (a b : Option FilesData) → Told a b (Elsewhere p) → Told a b (Elsewhere q)
elsewhere_place p q e a b h = subst (λ (z : List ℕ). Told a b (Elsewhere z)) e h

pub at_place : (p q : List ℕ) → p ≡ q → (wanted there : Option (List ℕ)) (a b : Option FilesData) → wanted ≡ there → Told a b (λ m n. map.get n p ≡ wanted) → Told a b (λ m n. map.get n q ≡ there)
at_place p q e wanted there a b same h = told_as (λ m n. map.get n q ≡ there) a b h (λ m n is. ap (map.get n) (sym e) ∙ (is ∙ same))
