-- The generic families are words.
use Rattle.std.proofs.Common.{◌≡◌, ℕ, ◌||◌, Bool, true, false, List, refl, codes}
use Rattle.std.specs.Str.{bytes_eq}
use Rattle.std.proofs.lemmas.Slice.Eq.{bytes_eq-Decides}
use Rattle.css_out.specs.PlatformValue.{is_generic}
use Rattle.css_out.proofs.SpellablePieces.{is_word}

among : (t b : Bool) (f w : List ℕ) → bytes_eq f w ≡ t → is_word w ≡ true → (b ≡ true → is_word f ≡ true) → (t || b) ≡ true → is_word f ≡ true
among true b f w e good other h = let same : f ≡ w = (bytes_eq-Decides f w).0 e in rw same good
among false b f w e good other h = other h

pub generic_is_word : (f : List ℕ) → is_generic f ≡ true → is_word f ≡ true
generic_is_word f h =
    among (bytes_eq f (codes "serif")) _ f (codes "serif") refl refl
    (among (bytes_eq f (codes "sans-serif")) _ f (codes "sans-serif") refl refl
    (among (bytes_eq f (codes "monospace")) _ f (codes "monospace") refl refl
    (among (bytes_eq f (codes "cursive")) _ f (codes "cursive") refl refl
    (among (bytes_eq f (codes "fantasy")) _ f (codes "fantasy") refl refl
    (among (bytes_eq f (codes "system-ui")) _ f (codes "system-ui") refl refl (λ no. cc)))))) h
