-- Pieces written one after another.
use Rattle.std.proofs.Common.{◌≡◌, ℕ, zero, suc, List, [], ◌∷◌, ◌++◌, map, Option, Some, Result, Ok, Err, OnErr, refl, ap, subst, ◌∙◌, append_assoc, length-append, arith}
use Rattle.std.proofs.lemmas.Option.{none-some, same_Some}
use Rattle.std.specs.Io.KnownBytes.{Appends}
use Rattle.std.specs.List.{slice_get}
use Rattle.std.proofs.KnownBytes.{Appends-trans}
use Rattle.tk_io.specs.Writing.{AppendsFront, AppendsPart}
use Rattle.edit_script.specs.Delta.{ChangeData}
use Rattle.edit_script.specs.View.{Lined, with_line}

pub on_err : {T E P : Type 0} (r : Result T E) → P → OnErr r P
on_err (Ok x) p = tt
on_err (Err e) p = p

pub on_err_then : {T E P Q : Type 0} (r : Result T E) → (P → Q) → OnErr r P → OnErr r Q
on_err_then (Ok x) f p = tt
on_err_then (Err e) f p = f p

-- a part of a piece is a prefix of it
pub front_of_part : (a b : Option (List ℕ)) (piece : List ℕ) → AppendsPart a b piece → AppendsFront a b piece
front_of_part a b piece q = let (front, back, split, some, appended) = q in (front, back, split, appended)

-- a part of the first piece is a part of all
pub part_more : (a b : Option (List ℕ)) (all piece rest : List ℕ) → AppendsPart a b piece → all ≡ piece ++ rest → AppendsPart a b all
part_more a b all piece rest q e =
    let (front, back, split, some, appended) = q in
    (front, back ++ rest, e ∙ (ap (λ l. l ++ rest) split ∙ append_assoc front back rest), omega (arith, some, length-append back rest), appended)

regroup : (a b c d : List ℕ) → a ++ ((b ++ c) ++ d) ≡ (a ++ b) ++ (c ++ d)
regroup a b c d = simp append_assoc

-- what went before, and a part of the next piece
pub part_after : (a b c : Option (List ℕ)) (all done piece rest : List ℕ) → Appends a b done → AppendsPart b c piece → all ≡ done ++ (piece ++ rest) → AppendsPart a c all
part_after a b c all done piece rest p q e =
    let (front, back, split, some, appended) = q in (
      done ++ front,
      back ++ rest,
      e ∙ (ap (λ l. done ++ (l ++ rest)) split ∙ regroup done front back rest),
      omega (arith, some, length-append back rest),
      Appends-trans a b c done front p appended,
    )

-- a change in a list of changes with their lines carries its line
pub line_carried : (cs : List ChangeData) (i : ℕ) (change : Lined) → slice_get (map with_line cs) i ≡ Some change → change ≡ with_line change.0
line_carried [] i change e = absurd (none-some change e)
line_carried (x ∷ cs) zero change e = subst (λ z. z ≡ with_line z.0) (same_Some (with_line x) change e) refl
line_carried (x ∷ cs) (suc i) change e = line_carried cs i change e

-- six words with a number each, and an end
pub six_numbers : (a b c d e f g : List ℕ) (u v w x y z : List ℕ) (k l m n o p : List ℕ) (end : List ℕ)
    → a ≡ u ++ k → b ≡ a ++ v ++ l → c ≡ b ++ w ++ m → d ≡ c ++ x ++ n → e ≡ d ++ y ++ o → f ≡ e ++ z ++ p → g ≡ f ++ end
    → g ≡ u ++ k ++ v ++ l ++ w ++ m ++ x ++ n ++ y ++ o ++ z ++ p ++ end
six_numbers a b c d e f g u v w x y z k l m n o p end first second third fourth fifth sixth last =
    last
    ∙ ap (λ s. s ++ end)
    (sixth
    ∙ ap (λ s. s ++ z ++ p)
    (fifth ∙ ap (λ s. s ++ y ++ o) (fourth ∙ ap (λ s. s ++ x ++ n) (third ∙ ap (λ s. s ++ w ++ m) (second ∙ ap (λ s. s ++ v ++ l) first)))))
