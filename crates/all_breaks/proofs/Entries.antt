-- The entries of a map from texts to names, as breaks that are told.
use Rattle.std.proofs.Common.{◌≡◌, ℕ, Bool, true, false, cond, List, [], ◌∷◌, map, Option, Some, None, refl, ap, Vec, Global}
use Rattle.std.specs.Str.{bytes_eq}
use Rattle.std.specs.Map.{lookup}
use Rattle.indexmap.specs.IndexMap.{insert_entry}
use Rattle.all_breaks.specs.Told.{ToldBreak, told_break, names_of}
use Rattle.all_breaks.specs.inner.Putting.{with_names}

abbrev K : Type 0
K = Vec ℕ Global

abbrev pub Entries : Type 0
Entries = List (K × List (List ℕ))

abbrev pub told_view : Entries → List ToldBreak
told_view es = map (λ e. told_break e.0.items e.1) es

abbrev pub same_key : K → K → Bool
same_key x y = bytes_eq x.items y.items

pub put_told : (es : Entries) (k : K) (names : List (List ℕ)) → told_view (insert_entry same_key es k names) ≡ with_names (told_view es) k.items names
put_told [] k names = refl
put_told (e ∷ es) k names = at (put_told es k names) (same_key k e.0)
  where
    at : told_view (insert_entry same_key es k names) ≡ with_names (told_view es) k.items names
        → (b : Bool) → told_view (cond b ((e.0, names) ∷ es) (e ∷ insert_entry same_key es k names))
        ≡ cond b (told_break e.0.items names ∷ told_view es) (told_break e.0.items e.1 ∷ with_names (told_view es) k.items names)
    at rest true = refl
    at rest false = ap (λ ts. told_break e.0.items e.1 ∷ ts) rest

-- the names under a text
pub some_names : (es : Entries) (text : List ℕ) (names : List (List ℕ)) → lookup (λ k. bytes_eq text k.items) es ≡ Some names → names_of (told_view es) text ≡ names
some_names [] text names e = cc
some_names (x ∷ es) text names e = at (some_names es text names) (bytes_eq text x.0.items) e
  where
    at : (lookup (λ k. bytes_eq text k.items) es ≡ Some names → names_of (told_view es) text ≡ names)
        → (b : Bool) → cond b (Some x.1) (lookup (λ k. bytes_eq text k.items) es) ≡ Some names → cond b x.1 (names_of (told_view es) text) ≡ names
    at rest true is = cc
    at rest false is = rest is

pub no_names : (es : Entries) (text : List ℕ) → lookup (λ k. bytes_eq text k.items) es ≡ None → names_of (told_view es) text ≡ []
no_names [] text e = refl
no_names (x ∷ es) text e = at (no_names es text) (bytes_eq text x.0.items) e
  where
    at : (lookup (λ k. bytes_eq text k.items) es ≡ None → names_of (told_view es) text ≡ [])
        → (b : Bool) → cond b (Some x.1) (lookup (λ k. bytes_eq text k.items) es) ≡ None → cond b x.1 (names_of (told_view es) text) ≡ []
    at rest true is = cc
    at rest false is = rest is
