-- Scans put together.
use Rattle.std.proofs.Common.{◌≡◌, ℕ, ◌+◌, ◌<◌, ◌≤◌, List, [], ◌∷◌, length, drop, get_or, Bool, true, false, ◌||◌, refl, sym, subst, arith, Result, Ok, Err}
use Rattle.std.proofs.lemmas.List.{drop_more}
use Rattle.grammar.specs.Grammar.{Rule, empty, seq, alt, many, named}
use Rattle.grammar.specs.Predict.{begins, first, nullable, Apart, Steers, on_empty, on_both, on_left, on_right, on_end, on_more, on_name, at_first, at_second, at_left, only_right, at_neither, at_named}
use Rattle.grammar.specs.Ranges.{is_steered}
use Rattle.grammar.proofs.Tables.{steered_from}
use Rattle.grammar.proofs.Steps.{chosen, not_chosen, IsChoice}
use Rattle.json_span.specs.Grammar.{Name}
use Rattle.json_span.specs.Predictive.{rules, table, ahead}
use Rattle.json_span.specs.inner.Scan.{ReadsTo, Halts, Scans}

-- nothing begins with a byte of no rule
none_begins : (t : List ℕ) → begins (λ c. false) t ≡ false
none_begins [] = refl
none_begins (c ∷ t) = refl

other_way : (p q : Bool) → (q ≡ true → p ≡ false) → p ≡ true → q ≡ false
other_way p true f e = cc (f refl)
other_way p false f e = refl

-- where one begins, the other doesn't
pub not_other : (p q : ℕ → Bool) → Apart p q → (t : List ℕ) → begins p t ≡ true → begins q t ≡ false
not_other p q f [] e = refl
not_other p q f (c ∷ t) e = other_way (p c) (q c) (f c) e

module _ (text : List ℕ) where
  -- the test says so of what stands there
  abbrev pub Sees : (ℕ → Bool) → ℕ → Bool → Type 0
  Sees p at b = begins p (drop at text) ≡ b

  pub reach_one : (r : Rule Name) (at : ℕ) → IsChoice r → is_steered table r ≡ true → at < length text → Sees (first ahead r) at true → ReadsTo r text at (at + 1)
  reach_one r at ch st h e =
      let cut : drop at text ≡ get_or text at 0 ∷ drop (at + 1) text = drop_more text at 0 h in
      let e2 : first ahead r (get_or text at 0) ≡ true = subst (λ z. begins (first ahead r) z ≡ true) cut e in
      record { forward = omega arith; within_text = omega arith; steers = subst (λ z. Steers rules ahead r z (drop (at + 1) text)) (sym cut) (chosen rules ahead r (get_or text at 0) (drop (at + 1) text) ch (steered_from table r st) e2) }

  pub reach_none : (r : Rule Name) (at : ℕ) → at ≤ length text → Sees (first ahead r) at false → ReadsTo (many r) text at at
  reach_none r at h e = record { forward = omega arith; within_text = h; steers = on_end e }

  pub reach_round : (r : Rule Name) (a b c : ℕ) → ReadsTo r text a b → ReadsTo (many r) text b c → ReadsTo (many r) text a c
  reach_round r a b c x y = record { forward = omega (arith, x.forward, y.forward); within_text = y.within_text; steers = on_more x.steers y.steers }

  pub reach_both : (r s : Rule Name) (a b c : ℕ) → ReadsTo r text a b → ReadsTo s text b c → ReadsTo (seq r s) text a c
  reach_both r s a b c x y = record { forward = omega (arith, x.forward, y.forward); within_text = y.within_text; steers = on_both x.steers y.steers }

  pub reach_left : (r s : Rule Name) (a b : ℕ) → Sees (first ahead s) a false → ReadsTo r text a b → ReadsTo (alt r s) text a b
  reach_left r s a b e x = record { forward = x.forward; within_text = x.within_text; steers = on_left e x.steers }

  pub reach_first : (r s : Rule Name) (a b : ℕ) → is_steered table (alt r s) ≡ true → Sees (first ahead r) a true → ReadsTo r text a b → ReadsTo (alt r s) text a b
  reach_first r s a b st e x = let apart_ : Apart (first ahead r) (first ahead s) = (steered_from table (alt r s) st).2 in reach_left r s a b (not_other (first ahead r) (first ahead s) apart_ (drop a text) e) x

  pub reach_right : (r s : Rule Name) (a b : ℕ) → Sees (first ahead r) a false → ReadsTo s text a b → ReadsTo (alt r s) text a b
  reach_right r s a b e x = record { forward = x.forward; within_text = x.within_text; steers = on_right e x.steers }

  pub reach_empty : (r : Rule Name) (at : ℕ) → at ≤ length text → Sees (first ahead r) at false → ReadsTo (alt r empty) text at at
  reach_empty r at h e = record { forward = omega arith; within_text = h; steers = on_right e on_empty }

  pub reach_some : (r : Rule Name) (a b : ℕ) → ReadsTo r text a b → ReadsTo (alt r empty) text a b
  reach_some r a b x = record { forward = x.forward; within_text = x.within_text; steers = on_left (none_begins (drop a text)) x.steers }

  pub reach_name : (n : Name) (a b : ℕ) → ReadsTo (rules n) text a b → ReadsTo (named n) text a b
  reach_name n a b x = record { forward = x.forward; within_text = x.within_text; steers = on_name x.steers }

  pub halt_first : (r s : Rule Name) (a b : ℕ) → Halts r text a b → Halts (seq r s) text a b
  halt_first r s a b x = record { within_text = x.within_text; stuck = at_first x.stuck }

  pub halt_second : (r s : Rule Name) (a b c : ℕ) → ReadsTo r text a b → Halts s text b c → Halts (seq r s) text a c
  halt_second r s a b c x y = record { within_text = y.within_text; stuck = at_second x.steers y.stuck }

  pub halt_left : (r s : Rule Name) (a b : ℕ) → Sees (first ahead r) a true → Halts r text a b → Halts (alt r s) text a b
  halt_left r s a b e x = record { within_text = x.within_text; stuck = at_left e x.stuck }

  pub halt_neither : (r s : Rule Name) (at : ℕ) → nullable r ≡ false → nullable s ≡ false → at ≤ length text → Sees (first ahead r) at false → Sees (first ahead s) at false → Halts (alt r s) text at at
  halt_neither r s at m n h e f = record { within_text = h; stuck = at_neither e f m n }

  pub halt_name : (n : Name) (a b : ℕ) → Halts (rules n) text a b → Halts (named n) text a b
  halt_name n a b x = record { within_text = x.within_text; stuck = at_named x.stuck }

  pub halt_choice : (r : Rule Name) (at : ℕ) → IsChoice r → at ≤ length text → Sees (first ahead r) at false → Halts r text at at
  halt_choice r at ch h e = record { within_text = h; stuck = not_chosen rules ahead r (drop at text) ch e }

  pub scan_then : (r s : Rule Name) (a b : ℕ) (res : Result ℕ ℕ) → ReadsTo r text a b → Scans s text b res → Scans (seq r s) text a res
  scan_then r s a b (Ok c) x y = reach_both r s a b c x y
  scan_then r s a b (Err c) x y = halt_second r s a b c x y

  pub scan_left : (r s : Rule Name) (a : ℕ) (res : Result ℕ ℕ) → is_steered table (alt r s) ≡ true → Sees (first ahead r) a true → Scans r text a res → Scans (alt r s) text a res
  scan_left r s a (Ok c) st e x = reach_first r s a c st e x
  scan_left r s a (Err c) st e x = halt_left r s a c e x

  pub scan_right : (r s : Rule Name) (a : ℕ) (res : Result ℕ ℕ) → nullable r ≡ false → Sees (first ahead r) a false → Scans s text a res → Scans (alt r s) text a res
  scan_right r s a (Ok c) n e x = reach_right r s a c e x
  scan_right r s a (Err c) n e x = record { within_text = x.within_text; stuck = only_right e n x.stuck }

  pub scan_name : (n : Name) (a : ℕ) (res : Result ℕ ℕ) → Scans (rules n) text a res → Scans (named n) text a res
  scan_name n a (Ok c) x = reach_name n a c x
  scan_name n a (Err c) x = halt_name n a c x

-- a first part that isn't empty begins as the whole
or_none : (a b : Bool) → a ≡ b → (a || false) ≡ b
or_none true b e = e
or_none false b e = e

pub padded : (p : ℕ → Bool) (t : List ℕ) (b : Bool) → begins p t ≡ b → begins (λ c. p c || false) t ≡ b
padded p [] b e = e
padded p (c ∷ t) b e = or_none (p c) b e

or_left : (a b : Bool) → (a || b) ≡ false → a ≡ false
or_left true b e = e
or_left false b e = refl

or_right : (a b : Bool) → (a || b) ≡ false → b ≡ false
or_right true b e = cc
or_right false b e = e

pub miss_left : (p q : ℕ → Bool) (t : List ℕ) → begins (λ c. p c || q c) t ≡ false → begins p t ≡ false
miss_left p q [] h = refl
miss_left p q (c ∷ t) h = or_left (p c) (q c) h

pub miss_right : (p q : ℕ → Bool) (t : List ℕ) → begins (λ c. p c || q c) t ≡ false → begins q t ≡ false
miss_right p q [] h = refl
miss_right p q (c ∷ t) h = or_right (p c) (q c) h
