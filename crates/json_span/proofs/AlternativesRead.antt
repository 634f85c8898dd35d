-- What is read of an alternative is read of a value.
use Rattle.std.proofs.Common.{◌≡◌, ℕ, ◌≤◌, List, length, drop, true, false, refl, Result, Ok, Err}
use Rattle.grammar.specs.Grammar.{Rule, alt, named}
use Rattle.grammar.specs.Predict.{begins, first, nullable, Steers, on_left, on_right, on_name, Stuck, at_left, only_right, at_neither, at_named}
use Rattle.grammar.specs.Ranges.{is_steered}
use Rattle.grammar.proofs.Tables.{steered_from}
use Rattle.json_span.specs.Grammar.{Name, value, number, string, false_word, null_word, true_word}
use Rattle.json_span.specs.Predictive.{rules, table, ahead, list_of, curly, square}
use Rattle.json_span.specs.inner.Scan.{Halts, Scans}
use Rattle.json_span.specs.inner.Alternatives.{rule_of_alternative}
use Rattle.json_span.specs.declared.alternative.Bracket.TheVariants.{Square, Curly}
use Rattle.json_span.specs.declared.alternative.Scalar.TheVariants.{False, Null, True, Number, String}
use Rattle.json_span.specs.declared.alternative.Alternative.{Alternative}
use Rattle.json_span.specs.declared.alternative.Alternative.TheVariants.{Scalar, List as Listed}
use Rattle.json_span.specs.inner.Skipping.{StopsAt}
use Rattle.json_span.specs.declared.stop.Stop.{Stop}
use Rattle.json_span.specs.declared.stop.Stop.TheVariants.{Syntax, NoMemory}
use Rattle.json_span.proofs.Scans as scan

-- a steered reading to its end, or to where it gets stuck
abbrev pub Walks : Rule Name → List ℕ → Result (List ℕ) (List ℕ) → Type 0
Walks r t (Ok u) = Steers rules ahead r t u
Walks r t (Err u) = Stuck rules ahead r t u

abbrev behind_false : Rule Name
behind_false = alt null_word (alt true_word (alt (list_of curly) (alt (list_of square) (alt (named number) (named string)))))

abbrev behind_null : Rule Name
behind_null = alt true_word (alt (list_of curly) (alt (list_of square) (alt (named number) (named string))))

abbrev behind_true : Rule Name
behind_true = alt (list_of curly) (alt (list_of square) (alt (named number) (named string)))

abbrev behind_curly : Rule Name
behind_curly = alt (list_of square) (alt (named number) (named string))

abbrev behind_square : Rule Name
behind_square = alt (named number) (named string)

module _ (t : List ℕ) where
  -- where one rule begins, another doesn't
  miss : (r s : Rule Name) → is_steered table (alt r s) ≡ true → begins (first ahead r) t ≡ true → begins (first ahead s) t ≡ false
  miss r s st e = scan.not_other (first ahead r) (first ahead s) (steered_from table (alt r s) st).2 t e

  walk_left : (r s : Rule Name) (res : Result (List ℕ) (List ℕ)) → is_steered table (alt r s) ≡ true → begins (first ahead r) t ≡ true → Walks r t res → Walks (alt r s) t res
  walk_left r s (Ok u) st e x = on_left (miss r s st e) x
  walk_left r s (Err u) st e x = at_left e x

  walk_right : (r s : Rule Name) (res : Result (List ℕ) (List ℕ)) → nullable r ≡ false → begins (first ahead r) t ≡ false → Walks s t res → Walks (alt r s) t res
  walk_right r s (Ok u) n e x = on_right e x
  walk_right r s (Err u) n e x = only_right e n x

  walk_name : (n : Name) (res : Result (List ℕ) (List ℕ)) → Walks (rules n) t res → Walks (named n) t res
  walk_name n (Ok u) x = on_name x
  walk_name n (Err u) x = at_named x

  past_false : (r : Rule Name) (res : Result (List ℕ) (List ℕ)) → is_steered table (alt r false_word) ≡ true → begins (first ahead r) t ≡ true → Walks behind_false t res → Walks (named value) t res
  past_false r res st e x = walk_name value res (walk_right false_word behind_false res refl (miss r false_word st e) x)

  past_null : (r : Rule Name) (res : Result (List ℕ) (List ℕ)) → is_steered table (alt r null_word) ≡ true → begins (first ahead r) t ≡ true → Walks behind_null t res → Walks behind_false t res
  past_null r res st e x = walk_right null_word behind_null res refl (miss r null_word st e) x

  past_true : (r : Rule Name) (res : Result (List ℕ) (List ℕ)) → is_steered table (alt r true_word) ≡ true → begins (first ahead r) t ≡ true → Walks behind_true t res → Walks behind_null t res
  past_true r res st e x = walk_right true_word behind_true res refl (miss r true_word st e) x

  past_curly : (r : Rule Name) (res : Result (List ℕ) (List ℕ)) → is_steered table (alt r (list_of curly)) ≡ true → begins (first ahead r) t ≡ true → Walks behind_curly t res → Walks behind_true t res
  past_curly r res st e x = walk_right (list_of curly) behind_curly res refl (miss r (list_of curly) st e) x

  past_square : (r : Rule Name) (res : Result (List ℕ) (List ℕ)) → is_steered table (alt r (list_of square)) ≡ true → begins (first ahead r) t ≡ true → Walks behind_square t res → Walks behind_curly t res
  past_square r res st e x = walk_right (list_of square) behind_square res refl (miss r (list_of square) st e) x

  pub value_walk : (k : Alternative) (res : Result (List ℕ) (List ℕ)) → begins (first ahead (rule_of_alternative k)) t ≡ true → Walks (rule_of_alternative k) t res → Walks (named value) t res
  value_walk (Scalar False) res e x = walk_name value res (walk_left false_word behind_false res refl e x)
  value_walk (Scalar Null) res e x = past_false null_word res refl e (walk_left null_word behind_null res refl e x)
  value_walk (Scalar True) res e x = past_false true_word res refl e (past_null true_word res refl e (walk_left true_word behind_true res refl e x))
  value_walk (Listed Curly) res e x = past_false (list_of curly) res refl e (past_null (list_of curly) res refl e (past_true (list_of curly) res refl e
      (walk_left (list_of curly) behind_curly res refl e x)))
  value_walk (Listed Square) res e x = past_false (list_of square) res refl e (past_null (list_of square) res refl e (past_true (list_of square) res refl e
      (past_curly (list_of square) res refl e (walk_left (list_of square) behind_square res refl e x))))
  value_walk (Scalar Number) res e x = past_false (named number) res refl e (past_null (named number) res refl e (past_true (named number) res refl e
      (past_curly (named number) res refl e (past_square (named number) res refl e (walk_left (named number) (named string) res refl e x)))))
  value_walk (Scalar String) res e x = past_false (named string) res refl e (past_null (named string) res refl e (past_true (named string) res refl e
      (past_curly (named string) res refl e (past_square (named string) res refl e (walk_right (named number) (named string) res refl (miss (named string) (named number) refl e) x)))))

module _ (text : List ℕ) (at : ℕ) where
  -- a scan of the kind that begins there is a scan of a value
  pub value_scan : (k : Alternative) (res : Result ℕ ℕ) → scan.Sees text (first ahead (rule_of_alternative k)) at true → Scans (rule_of_alternative k) text at res → Scans (named value) text at res
  value_scan k (Ok e) h x = record { forward = x.forward; within_text = x.within_text; steers = value_walk (drop at text) k (Ok (drop e text)) h x.steers }
  value_scan k (Err e) h x = record { within_text = x.within_text; stuck = value_walk (drop at text) k (Err (drop e text)) h x.stuck }

  -- nothing begins there
  pub no_value : at ≤ length text → scan.Sees text (first ahead (rules value)) at false → Halts (named value) text at at
  no_value h e = record { within_text = h; stuck = at_named (at_neither (scan.miss_left (first ahead false_word) (first ahead behind_false) (drop at text) e) (scan.miss_right (first ahead false_word) (first ahead behind_false) (drop at text) e) refl refl) }

  pub value_stops : (k : Alternative) (e : Stop) → scan.Sees text (first ahead (rule_of_alternative k)) at true → StopsAt (rule_of_alternative k) text at e → StopsAt (named value) text at e
  value_stops k (Syntax stop) h x = value_scan k (Err stop) h x
  value_stops k NoMemory h x = tt
