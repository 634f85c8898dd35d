-- The first refusal among the outputs from a place on.
use Rattle.std.proofs.Common.{◌≡◌, ◌∙◌, ◌<◌, ◌≤◌, ◌+◌, ℕ, zero, suc, Bool, true, false, cond, List, [], ◌∷◌, length, drop, Option, Some, None, ◌||◌, codes, get_or, map, ap, sym, subst, refl, arith}
use Rattle.std.proofs.lemmas.Option.{none-some, same_Some}
use Rattle.std.specs.Prelude.{find}
use Rattle.std.specs.List.{ends_with, slice_get}
use Rattle.std.specs.Bool.{nat_eq}
use Rattle.std.specs.Str.{bytes_eq}
use Rattle.std.proofs.lemmas.List.{length-map}
use Rattle.tk_io.specs.View.{entries_view}
use Rattle.theme_css.specs.Themes.{is_refusal}

plus_one : (i : ℕ) → suc i ≡ i + 1
plus_one i = omega arith

-- a path that isn't the first is judged by its end
pub by_end : (path : List ℕ) (first last : Bool) → first ≡ bytes_eq path (codes "REFUSED") → first ≡ false → last ≡ ends_with nat_eq path (codes "/REFUSED") → last ≡ is_refusal path
by_end path first last e f g = g ∙ sym (ap (λ b. b || ends_with nat_eq path (codes "/REFUSED")) (sym e ∙ f))

at_shown : {A B : Type 0} (xs : List A) (v : A → B) (i : ℕ) (d : A) → i < length xs → slice_get (map v xs) i ≡ Some (v (get_or xs i d))
at_shown [] v i d h = absurd (omega (arith, h))
at_shown (y ∷ xs) v zero d h = refl
at_shown (y ∷ xs) v (suc i) d h = at_shown xs v i d (omega (arith, h))

abbrev pub Entry : Type 0
Entry = List ℕ × List ℕ

abbrev pub first_in : List Entry → Option Entry
first_in es = find (λ e. is_refusal e.0) es

from_here : (es : List Entry) (i : ℕ) (e : Entry) → slice_get es i ≡ Some e → first_in (drop i es) ≡ cond (is_refusal e.0) (Some e) (first_in (drop (suc i) es))
from_here [] i e h = absurd (none-some e h)
from_here (x ∷ es) zero e h = ap (λ (y : Entry). cond (is_refusal y.0) (Some y) (first_in es)) (same_Some x e h)
from_here (x ∷ es) (suc i) e h = from_here es i e h

pub found : (es : List Entry) (i : ℕ) (e : Entry) (here : Bool) (whole : Option Entry) → slice_get es i ≡ Some e → here ≡ is_refusal e.0 → here ≡ true → first_in (drop i es) ≡ whole → Some e ≡ whole
found es i e here whole h is held before = ap (λ b. cond b (Some e) (first_in (drop (suc i) es))) (sym held ∙ is) ∙ (sym (from_here es i e h) ∙ before)

pub passed : (es : List Entry) (i : ℕ) (e : Entry) (here : Bool) (whole : Option Entry) → slice_get es i ≡ Some e → here ≡ is_refusal e.0 → here ≡ false → first_in (drop i es) ≡ whole → first_in (drop (i + 1) es) ≡ whole
passed es i e here whole h is other before =
    ap (λ n. first_in (drop n es)) (sym (plus_one i)) ∙ (ap (λ b. cond b (Some e) (first_in (drop (suc i) es))) (sym other ∙ is) ∙ (sym (from_here es i e h) ∙ before))

pub none_behind : (es : List Entry) (i : ℕ) → length es ≤ i → None ≡ first_in (drop i es)
none_behind [] zero h = refl
none_behind [] (suc i) h = refl
none_behind (x ∷ es) zero h = absurd (omega (arith, h))
none_behind (x ∷ es) (suc i) h = none_behind es i (omega (arith, h))

-- what stands at a place of the listed outputs
pub shown_at : {K : Type 0} (key : K → List ℕ) (xs : List (K × List ℕ)) (es : List Entry) (i : ℕ) (x : K × List ℕ) → entries_view key (λ v. v) xs ≡ es → i < length xs → x ≡ get_or xs i x → slice_get es i ≡ Some (key x.0, x.1)
shown_at {K = K} key xs es i x e h is =
    subst (λ (z : K × List ℕ). slice_get es i ≡ Some (key z.0, z.1)) (sym is) (subst (λ l. slice_get l i ≡ Some (key (get_or xs i x).0, (get_or xs i x).1)) e (at_shown xs (λ y. (key y.0, y.1)) i x h))

pub all_shown : {K : Type 0} (key : K → List ℕ) (xs : List (K × List ℕ)) (es : List Entry) (i : ℕ) → entries_view key (λ v. v) xs ≡ es → length xs ≤ i → length es ≤ i
all_shown {K = K} key xs es i e h = omega (arith, h, length-map {B = Entry} xs (λ (y : K × List ℕ). (key y.0, y.1)), ap length e)
