-- The records of changes, one after another.
use Rattle.std.proofs.Common.{◌≡◌, ◌∙◌, ◌+◌, ℕ, zero, suc, List, [], ◌∷◌, ◌++◌, map, take, drop, Some, ap, sym, refl, append_assoc, append-nil}
use Rattle.std.proofs.lemmas.Option.{none-some, same_Some}
use Rattle.std.specs.List.{flat_map, slice_get}
use Rattle.edit_script.specs.Delta.{ChangeData}
use Rattle.edit_script.specs.View.{Lined, with_line}
use Rattle.edit_script.specs.Stream.{record_of}
use Rattle.token_cli.proofs.Places.{plus_one}
use Rattle.token_cli.specs.inner.Step.{records_of}

pub split_at : (cs : List Lined) (i : ℕ) (c : Lined) → slice_get cs i ≡ Some c → records_of cs ≡ records_of (take i cs) ++ (record_of c.0 ++ records_of (drop (suc i) cs))
split_at [] i c e = absurd (none-some c e)
split_at (x ∷ cs) zero c e = ap (λ y. record_of y.0 ++ records_of cs) (same_Some x c e)
split_at (x ∷ cs) (suc i) c e =
    ap (λ l. record_of x.0 ++ l) (split_at cs i c e) ∙ sym (append_assoc (record_of x.0) (records_of (take i cs)) (record_of c.0 ++ records_of (drop (suc i) cs)))

one_after : (cs : List Lined) (i : ℕ) (c : Lined) → slice_get cs i ≡ Some c → records_of (take (suc i) cs) ≡ records_of (take i cs) ++ record_of c.0
one_after [] i c e = absurd (none-some c e)
one_after (x ∷ cs) zero c e = ap (λ y. record_of y.0 ++ []) (same_Some x c e) ∙ append-nil (record_of c.0)
one_after (x ∷ cs) (suc i) c e = ap (λ l. record_of x.0 ++ l) (one_after cs i c e) ∙ sym (append_assoc (record_of x.0) (records_of (take i cs)) (record_of c.0))

pub one_more : (cs : List Lined) (i : ℕ) (c : Lined) → slice_get cs i ≡ Some c → records_of (take (i + 1) cs) ≡ records_of (take i cs) ++ record_of c.0
one_more cs i c e = ap (λ n. records_of (take n cs)) (sym (plus_one i)) ∙ one_after cs i c e

pub with_lines : (cs : List ChangeData) → records_of (map with_line cs) ≡ flat_map record_of cs
with_lines [] = refl
with_lines (c ∷ cs) = ap (λ l. record_of c ++ l) (with_lines cs)
