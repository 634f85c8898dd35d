-- Whether one of the outputs from a place on is a refusal.
use Rattle.std.proofs.Common.{◌≡◌, ◌∙◌, ◌<◌, ◌≤◌, ◌+◌, ℕ, zero, suc, Bool, true, false, ◌||◌, List, [], ◌∷◌, length, drop, get_or, Some, codes, ap, sym, refl, arith}
use Rattle.std.proofs.lemmas.Option.{none-some, same_Some}
use Rattle.std.specs.Bool.{nat_eq}
use Rattle.std.specs.List.{ends_with, list_any, slice_get}
use Rattle.std.specs.Str.{bytes_eq}
use Rattle.token_cli.specs.Headline.{is_refusal}
use Rattle.tk_io.specs.View.{entries_view}
use Rattle.token_cli.proofs.Places.{all_listed, at_listed, plus_one}

abbrev pub Entry : Type 0
Entry = List ℕ × List ℕ

abbrev pub any_refusal : List Entry → Bool
any_refusal es = list_any (λ output. is_refusal output.0) es

-- a path that isn't the first is judged by its end
pub by_end : (path : List ℕ) (first last : Bool) → first ≡ bytes_eq path (codes "REFUSED") → first ≡ false → last ≡ ends_with nat_eq path (codes "/REFUSED") → last ≡ is_refusal path
by_end path first last e f g = g ∙ sym (ap (λ b. b || ends_with nat_eq path (codes "/REFUSED")) (sym e ∙ f))

from_here : (es : List Entry) (i : ℕ) (e : Entry) → slice_get es i ≡ Some e → any_refusal (drop i es) ≡ (is_refusal e.0 || any_refusal (drop (suc i) es))
from_here [] i e h = absurd (none-some e h)
from_here (x ∷ es) zero e h = ap (λ y. is_refusal y.0 || any_refusal es) (same_Some x e h)
from_here (x ∷ es) (suc i) e h = from_here es i e h

-- a refusal here is one of all
pub found : (es : List Entry) (i : ℕ) (e : Entry) (here whole : Bool) → slice_get es i ≡ Some e → here ≡ is_refusal e.0 → here ≡ true → any_refusal (drop i es) ≡ whole → true ≡ whole
found es i e here whole h is held before = ap (λ b. b || any_refusal (drop (suc i) es)) (sym held ∙ is) ∙ (sym (from_here es i e h) ∙ before)

-- where none is here the others decide
pub passed : (es : List Entry) (i : ℕ) (e : Entry) (here whole : Bool) → slice_get es i ≡ Some e → here ≡ is_refusal e.0 → here ≡ false → any_refusal (drop i es) ≡ whole → any_refusal (drop (i + 1) es) ≡ whole
passed es i e here whole h is other before =
    ap (λ n. any_refusal (drop n es)) (sym (plus_one i)) ∙ (ap (λ b. b || any_refusal (drop (suc i) es)) (sym other ∙ is) ∙ (sym (from_here es i e h) ∙ before))

-- after the end there is none
pub none_behind : (es : List Entry) (i : ℕ) → length es ≤ i → false ≡ any_refusal (drop i es)
none_behind [] zero h = refl
none_behind [] (suc i) h = refl
none_behind (x ∷ es) zero h = absurd (omega (arith, h))
none_behind (x ∷ es) (suc i) h = none_behind es i (omega (arith, h))

-- what stands at a place of the listed outputs
pub shown_at : {K : Type 0} (key : K → List ℕ) (xs : List (K × List ℕ)) (es : List Entry) (i : ℕ) (x : K × List ℕ) → entries_view key (λ v. v) xs ≡ es → i < length xs → x ≡ get_or xs i x → slice_get es i ≡ Some (key x.0, x.1)
shown_at key xs es i x e h is = at_listed xs (λ y. (key y.0, y.1)) es i x e h is

pub all_shown : {K : Type 0} (key : K → List ℕ) (xs : List (K × List ℕ)) (es : List Entry) (i : ℕ) → entries_view key (λ v. v) xs ≡ es → length xs ≤ i → length es ≤ i
all_shown key xs es i e h = all_listed xs (λ y. (key y.0, y.1)) es i e h
