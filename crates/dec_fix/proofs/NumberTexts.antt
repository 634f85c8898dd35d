-- A text is split exactly where it is a JSON number. Proofs of other crates may cite this.
use Rattle.std.proofs.Common.{◌≡◌, ℕ, List, Option, Some, None, true, false, refl, ◌∙◌, ap}
use Rattle.std.specs.Prelude.{is_some}
use Rattle.dec_fix.specs.Spelling.{IsNumberText}
use Rattle.dec_fix.specs.Reading.{Split, split_of, is_number_text}
use Rattle.dec_fix.proofs.Grammar.{split_text, text_split}

found_text : (t : List ℕ) (o : Option Split) → split_of t ≡ o → is_some o ≡ true → IsNumberText t
found_text t None e h = cc
found_text t (Some q) e h = let f = text_split t q e in record { parts = f.parts; is_number = f.is_number; spelled = f.spelled }

pub split_is_text : (t : List ℕ) → is_number_text t ≡ true → IsNumberText t
split_is_text t h = found_text t (split_of t) refl h

pub text_is_split : (t : List ℕ) → IsNumberText t → is_number_text t ≡ true
text_is_split t h = ap is_some (ap split_of h.spelled ∙ split_text h.parts h.is_number)

pub no_text : (t : List ℕ) → is_number_text t ≡ false → ¬ IsNumberText t
no_text t e h = let f = text_is_split t h in cc
