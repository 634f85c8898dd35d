-- The characters of a string, one after another.
use Rattle.std.proofs.Common.{◌≡◌, ℕ, ◌+◌, ◌<◌, ◌≤◌, List, [], ◌∷◌, length, drop, Bool, true, false, ◌||◌, refl, inl, inr, arith, Result, Ok, Err}
use Rattle.grammar.specs.Grammar.{Rule, many, seq, within}
use Rattle.grammar.specs.Predict.{begins, first, Apart, on_both, on_left, on_end, on_more, at_first, at_second, at_round, at_later, at_right, Steers, Stuck}
use Rattle.grammar.proofs.Tables.{steered_from}
use Rattle.grammar.proofs.Predicts.{reads, starts}
use Rattle.json_span.specs.Grammar.{Name, char, unescaped, escape, one}
use Rattle.json_span.specs.Predictive.{rules, table, ahead}
use Rattle.json_span.specs.inner.Scan.{ReadsTo, Halts, Scans}
use Rattle.json_span.specs.declared.bytes.Class.TheVariants.{One}
use Rattle.json_span.proofs.Scans as scan
use Rattle.json_span.proofs.Classes as row
use Rattle.json_span.proofs.Predictive.{honest_json}

abbrev pub rest : Rule Name
rest = seq (many char) (one 34)

goes_on : {t u v : List ℕ} → Steers rules ahead char t u → Steers rules ahead rest u v → Steers rules ahead rest t v
goes_on h (on_both m z) = on_both (on_more h m) z

gets_stuck : {t u v : List ℕ} → Steers rules ahead char t u → Stuck rules ahead rest u v → Stuck rules ahead rest t v
gets_stuck h (at_first k) = at_first (at_later h k)
gets_stuck h (at_second m k) = at_second (on_more h m) k

both_ways : (b : Bool) → b ≡ true → b ≡ false → ⊥
both_ways b e f = cc

begun : {t u : List ℕ} → Steers rules ahead unescaped t u → begins (first ahead unescaped) t ≡ true
begun {t} x = elim (starts rules ahead honest_json (reads rules ahead honest_json x)) as (λ _. begins (first ahead unescaped) t ≡ true) [ inl f ↦ f | inr (e, z) ↦ absurd (both_ways false z refl) ]

apart_escape : Apart (first ahead unescaped) (first ahead (seq (one 92) escape))
apart_escape = (steered_from table char refl).2

plain : {t u : List ℕ} → Steers rules ahead unescaped t u → Steers rules ahead char t u
plain {t} x = on_left (scan.not_other (first ahead unescaped) (first ahead (seq (one 92) escape)) apart_escape t (begun x)) x

past : {t u v : List ℕ} → Steers rules ahead (many unescaped) t u → Steers rules ahead rest u v → Steers rules ahead rest t v
past (on_end f) y = y
past (on_more x xs) y = goes_on (plain x) (past xs y)

stuck_past : {t u v : List ℕ} → Steers rules ahead (many unescaped) t u → Stuck rules ahead rest u v → Stuck rules ahead rest t v
stuck_past (on_end f) y = y
stuck_past (on_more x xs) y = gets_stuck (plain x) (stuck_past xs y)

-- after a run no more of it begins
ended : {t u : List ℕ} → Steers rules ahead (many unescaped) t u → begins (first ahead unescaped) u ≡ false
ended (on_end f) = f
ended (on_more x xs) = ended xs

or_true : (a b : Bool) → b ≡ true → (a || b) ≡ true
or_true true b e = refl
or_true false b e = e

or_neither : (a b : Bool) → a ≡ false → b ≡ false → (a || b) ≡ false
or_neither true b e f = e
or_neither false b e f = f

begins_either : (p q : ℕ → Bool) (t : List ℕ) → begins q t ≡ true → begins (λ c. p c || q c) t ≡ true
begins_either p q [] f = f
begins_either p q (c ∷ t) f = or_true (p c) (q c) f

begins_neither : (p q : ℕ → Bool) (t : List ℕ) → begins p t ≡ false → begins q t ≡ false → begins (λ c. p c || q c) t ≡ false
begins_neither p q [] e f = refl
begins_neither p q (c ∷ t) e f = or_neither (p c) (q c) e f

module _ (text : List ℕ) where
  -- what the rest of the string answers from here is the answer from there
  abbrev pub Leads : ℕ → ℕ → Type 0
  Leads from at = (r : Result ℕ ℕ) → Scans rest text at r → Scans rest text from r

  pub run_leads : (at end : ℕ) → ReadsTo (many unescaped) text at end → Leads at end
  run_leads at end x (Ok e) y = record { forward = omega (arith, x.forward, y.forward); within_text = y.within_text; steers = past x.steers y.steers }
  run_leads at end x (Err e) y = record { within_text = y.within_text; stuck = stuck_past x.steers y.stuck }

  pub run_ends : (at end : ℕ) → ReadsTo (many unescaped) text at end → scan.Sees text (first ahead unescaped) end false
  run_ends at end x = ended x.steers

  escaped : (at end : ℕ) → scan.Sees text (first ahead unescaped) at false → ReadsTo (seq (one 92) escape) text at end → ReadsTo char text at end
  escaped at end e x = scan.reach_right text unescaped (seq (one 92) escape) at end e x

  backslash : (at : ℕ) → at < length text → scan.Sees text (within 92 92) at true → ReadsTo (one 92) text at (at + 1)
  backslash at lt e = row.reach_class text (One 92) at lt e

  pub escape_leads : (at end : ℕ) → at < length text → scan.Sees text (first ahead unescaped) at false → scan.Sees text (within 92 92) at true → ReadsTo escape text (at + 1) end → Leads at end
  escape_leads at end lt e f x (Ok s) y =
      let h = escaped at end e (scan.reach_both text (one 92) escape at (at + 1) end (backslash at lt f) x) in
      record { forward = omega (arith, h.forward, y.forward); within_text = y.within_text; steers = goes_on h.steers y.steers }
  escape_leads at end lt e f x (Err s) y =
      let h = escaped at end e (scan.reach_both text (one 92) escape at (at + 1) end (backslash at lt f) x) in
      record { within_text = y.within_text; stuck = gets_stuck h.steers y.stuck }

  pub bad_escape : (at stop : ℕ) → at < length text → scan.Sees text (within 92 92) at true → Halts escape text (at + 1) stop → Halts rest text at stop
  bad_escape at stop lt f x =
      let y = scan.halt_second text (one 92) escape at (at + 1) stop (backslash at lt f) x in
      let g : begins (first ahead (seq (one 92) escape)) (drop at text) ≡ true = scan.padded (within 92 92) (drop at text) true f in
      record { within_text = y.within_text; stuck = at_first (at_round (begins_either (first ahead unescaped) (first ahead (seq (one 92) escape)) (drop at text) g) (at_right g y.stuck)) }

  pub closing : (at : ℕ) (r : Result ℕ ℕ) → at ≤ length text → scan.Sees text (first ahead unescaped) at false → scan.Sees text (within 92 92) at false → Scans (one 34) text at r → Scans rest text at r
  closing at r h e f x =
      let g : begins (first ahead (seq (one 92) escape)) (drop at text) ≡ false = scan.padded (within 92 92) (drop at text) false f in
      scan.scan_then text (many char) (one 34) at at r (scan.reach_none text char at h (begins_neither (first ahead unescaped) (first ahead (seq (one 92) escape)) (drop at text) e g)) x
