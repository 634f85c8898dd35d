-- What a text says alone, it says before any other.
use Rattle.std.proofs.Common.{◌≡◌, ℕ, ◌==◌, ◌&&◌, Bool, true, false, List, [], ◌∷◌, ◌++◌, sym, ◌∙◌, ap, subst, append_assoc, Option, Some}
use Rattle.std.specs.Prelude.{if◌then◌else◌}
use Rattle.android_out.specs.Element.{Values}
use Rattle.android_out.specs.Reading.{after_comment, Block, ended, blank_byte, comment, element}

closed_by : (b : Bool) (r v t : List ℕ) (x y : Option (List ℕ)) → (if b then Some v else x) ≡ Some r → (x ≡ Some r → y ≡ Some (r ++ t)) → (if b then Some (v ++ t) else y) ≡ Some (r ++ t)
closed_by true r v t x y e again = let same : v ≡ r = cc in ap (λ z. Some (z ++ t)) same
closed_by false r v t x y e again = again e

comment_more : (u t r : List ℕ) → after_comment u ≡ Some r → after_comment (u ++ t) ≡ Some (r ++ t)
comment_more [] t r e = cc
comment_more (c ∷ []) t r e = cc
comment_more (c ∷ d ∷ []) t r e = cc
comment_more (c ∷ d ∷ f ∷ u) t r e =
    closed_by ((c == 45) && ((d == 45) && (f == 62))) r u t (after_comment (d ∷ f ∷ u)) (after_comment (d ∷ f ∷ (u ++ t))) e (comment_more (d ∷ f ∷ u) t r)

pub joined : {s : List ℕ} {vs : Values} → Block s vs → {t : List ℕ} {ws : Values} → Block t ws → Block (s ++ t) (vs ++ ws)
joined (ended s e) {t} {ws} b = let P : List ℕ → Type 0 = λ z. Block (z ++ t) ws in subst P (sym e) b
joined (blank_byte s c rest vs e h x) {t} {ws} b = blank_byte (s ++ t) c (rest ++ t) (vs ++ ws) (ap (λ z. z ++ t) e) h (joined x b)
joined (comment s inside rest vs e f x) {t} {ws} b = comment (s ++ t) (inside ++ t) (rest ++ t) (vs ++ ws) (ap (λ z. z ++ t) e) (comment_more inside t rest f) (joined x b)
joined (element s text name rest content vs e is x) {t} {ws} b =
    element (s ++ t) text name (rest ++ t) content (vs ++ ws) (ap (λ z. z ++ t) e ∙ append_assoc text rest t) is (joined x b)
