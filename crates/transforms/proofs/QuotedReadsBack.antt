-- What is spelled between quotes is read as it is, and what is read of a text is read whatever follows it.
use Rattle.std.proofs.Common.{◌≡◌, ℕ, ◌==◌, ◌||◌, Bool, true, false, List, [], ◌∷◌, ◌++◌, flat_map, refl, ap, subst, Option, Some, None, arith}
use Rattle.std.specs.Prelude.{if◌then◌else◌}
use Rattle.tk_io.specs.Characters.{quote, backslash}
use Rattle.transforms.specs.Quoted.{escaped_character, with_first, string_from, QuotedReadsBack, QuotedReadsOn}

escaped_step : (c : ℕ) (s x t : List ℕ) (b : Bool) → ((c == quote) || (c == backslash)) ≡ b → string_from false (s ++ quote ∷ t) ≡ Some (x, t)
    → string_from false (((if b then backslash ∷ c ∷ [] else c ∷ []) ++ s) ++ quote ∷ t) ≡ Some (c ∷ x, t)
escaped_step c s x t true e again = ap (with_first c) again
escaped_step c s x t false e again =
    let a : (c == 34) ≡ false = grind arith in let b : (c == 92) ≡ false = grind arith in rw (a, b) (ap (with_first c) again)

pub string_again : QuotedReadsBack
string_again [] t = refl
string_again (c ∷ x) t = escaped_step c (flat_map escaped_character x) x t ((c == quote) || (c == backslash)) refl (string_again x t)

-- what is found, and what is found with more after it
abbrev pub Longer : List ℕ → Option (List ℕ × List ℕ) → Option (List ℕ × List ℕ) → Type 0
Longer t None y = Unit {0}
Longer t (Some r) y = y ≡ Some (r.0, r.1 ++ t)

longer_if : (t : List ℕ) (b : Bool) (x y v w : Option (List ℕ × List ℕ)) → Longer t x v → Longer t y w → Longer t (if b then x else y) (if b then v else w)
longer_if t true x y v w h i = h
longer_if t false x y v w h i = i

longer_first : (c : ℕ) (t : List ℕ) (x y : Option (List ℕ × List ℕ)) → Longer t x y → Longer t (with_first c x) (with_first c y)
longer_first c t None y h = tt
longer_first c t (Some r) y h = ap (with_first c) h

pub string_more : (b : Bool) (s t : List ℕ) → Longer t (string_from b s) (string_from b (s ++ t))
string_more b [] t = tt
string_more true (c ∷ s) t = longer_first c t (string_from false s) (string_from false (s ++ t)) (string_more false s t)
string_more false (c ∷ s) t = longer_if t (c == quote) (Some ([], s)) _ (Some ([], s ++ t)) _ refl
    (longer_if t (c == backslash) (string_from true s) _ (string_from true (s ++ t)) _ (string_more true s t)
    (longer_first c t (string_from false s) (string_from false (s ++ t)) (string_more false s t)))

pub reads_on : QuotedReadsOn
reads_on b s t inside behind e = subst (λ x. Longer t x (string_from b (s ++ t))) e (string_more b s t)
