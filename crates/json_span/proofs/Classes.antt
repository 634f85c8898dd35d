-- Classes of bytes, and rows of them.
use Rattle.std.proofs.Common.{◌≡◌, ℕ, ◌+◌, ◌<◌, ◌≤◌, List, [], ◌∷◌, length, drop, true, false, refl, sym, subst, arith, Result, Ok, Err}
use Rattle.grammar.specs.Grammar.{Rule, empty}
use Rattle.grammar.specs.Predict.{first, Steers, on_empty, Stuck}
use Rattle.grammar.specs.Ranges.{is_steered}
use Rattle.grammar.proofs.Steps.{IsChoice}
use Rattle.json_span.specs.Grammar.{Name}
use Rattle.json_span.specs.Predictive.{rules, table, ahead}
use Rattle.json_span.specs.inner.Scan.{ReadsTo, Halts, Scans, rule_of, row_of, row_from}
use Rattle.json_span.specs.declared.bytes.Class.{Class}
use Rattle.json_span.specs.declared.bytes.Class.TheVariants.{One, Digit, FirstDigit, Sign, Exponent, Hex, NotD, D, BelowHigh, High, Low, Short}
use Rattle.json_span.proofs.Scans as scan

choice : (k : Class) → IsChoice (rule_of k)
choice (One c) = tt
choice Digit = tt
choice FirstDigit = tt
choice Sign = (tt, tt)
choice Exponent = (tt, tt)
choice Hex = (tt, (tt, tt))
choice NotD = (tt, (tt, (tt, (tt, tt))))
choice D = (tt, tt)
choice BelowHigh = tt
choice High = (tt, (tt, tt))
choice Low = (tt, tt)
choice Short = (tt, (tt, (tt, (tt, (tt, (tt, (tt, tt)))))))

steady : (k : Class) → is_steered table (rule_of k) ≡ true
steady (One c) = refl
steady Digit = refl
steady FirstDigit = refl
steady Sign = refl
steady Exponent = refl
steady Hex = refl
steady NotD = refl
steady D = refl
steady BelowHigh = refl
steady High = refl
steady Low = refl
steady Short = refl

-- nothing is read of the rule of no byte
ends_same : {t u : List ℕ} → Steers rules ahead empty t u → t ≡ u
ends_same on_empty = refl

never_stuck : {t u : List ℕ} → Stuck rules ahead empty t u → ⊥
never_stuck k = elim k [ ]

module _ (text : List ℕ) where
  -- a byte of the class stands there
  pub reach_class : (k : Class) (at : ℕ) → at < length text → scan.Sees text (first ahead (rule_of k)) at true → ReadsTo (rule_of k) text at (at + 1)
  reach_class k at lt e = scan.reach_one text (rule_of k) at (choice k) (steady k) lt e

  pub halt_class : (k : Class) (at : ℕ) → at ≤ length text → scan.Sees text (first ahead (rule_of k)) at false → Halts (rule_of k) text at at
  halt_class k at h e = scan.halt_choice text (rule_of k) at (choice k) h e

  -- a byte and the rest of a row
  next_class : (r : Rule Name) (ks : List Class) (a b : ℕ) (res : Result ℕ ℕ) → ReadsTo r text a b → Scans (row_of ks) text b res → Scans (row_from r ks) text a res
  next_class r [] a b (Ok e) x y = record { forward = omega (arith, x.forward, y.forward); within_text = y.within_text; steers = subst (Steers rules ahead r (drop a text)) (ends_same y.steers) x.steers }
  next_class r [] a b (Err e) x y = absurd (never_stuck y.stuck)
  next_class r (k ∷ ks) a b res x y = scan.scan_then text r (row_from (rule_of k) ks) a b res x y

  bad_class : (r : Rule Name) (ks : List Class) (a b : ℕ) → Halts r text a b → Halts (row_from r ks) text a b
  bad_class r [] a b x = x
  bad_class r (k ∷ ks) a b x = scan.halt_first text r (row_from (rule_of k) ks) a b x

  pub row_step : (k : Class) (ks all : List Class) (at : ℕ) (res : Result ℕ ℕ) → all ≡ k ∷ ks → at < length text → scan.Sees text (first ahead (rule_of k)) at true → Scans (row_of ks) text (at + 1) res → Scans (row_of all) text at res
  row_step k ks all at res e lt s x = subst (λ z. Scans (row_of z) text at res) (sym e) (next_class (rule_of k) ks at (at + 1) res (reach_class k at lt s) x)

  pub row_halt : (k : Class) (ks all : List Class) (at : ℕ) → all ≡ k ∷ ks → at ≤ length text → scan.Sees text (first ahead (rule_of k)) at false → Halts (row_of all) text at at
  row_halt k ks all at e h s = subst (λ z. Halts (row_of z) text at at) (sym e) (bad_class (rule_of k) ks at at (halt_class k at h s))

  pub row_end : (at : ℕ) → at ≤ length text → ReadsTo (row_of []) text at at
  row_end at h = record { forward = omega arith; within_text = h; steers = on_empty }
