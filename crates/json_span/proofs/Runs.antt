-- A run of single bytes, as a kernel finds its end.
use Rattle.std.proofs.Common.{◌≡◌, ℕ, suc, ◌+◌, ◌<◌, ◌≤◌, List, [], ◌∷◌, drop, length, get_or, Bool, true, false, not, cond, refl, sym, subst, ap, ◌∙◌, one-add, arith}
use Rattle.std.specs.List.{prefix_len}
use Rattle.std.proofs.lemmas.Bool.Decides.{nat_tests}
use Rattle.std.proofs.lemmas.List.{drop-drop, get_or-drop}
use Rattle.grammar.specs.Grammar.{Rule, many}
use Rattle.grammar.specs.Predict.{first, Steers, on_end, on_more}
use Rattle.grammar.specs.Ranges.{is_steered}
use Rattle.grammar.proofs.Tables.{steered_from}
use Rattle.grammar.proofs.Steps.{chosen, IsChoice}
use Rattle.lane_scan.specs.Bytes.{is_special, is_blank}
use Rattle.json_span.specs.Grammar.{Name, blank, ws, unescaped}
use Rattle.json_span.specs.Predictive.{rules, table, ahead}
use Rattle.json_span.specs.inner.Scan.{ReadsTo}

module _ (r : Rule Name) (ch : IsChoice r) (st : is_steered table r ≡ true) where
  -- the test is the rule's at each byte of the list
  abbrev Same : (ℕ → Bool) → List ℕ → Type 0
  Same p t = (i : ℕ) → i < length t → p (get_or t i 0) ≡ first ahead r (get_or t i 0)

  step : (c : ℕ) (t : List ℕ) (b : Bool) (n : ℕ) → first ahead r c ≡ b → Steers rules ahead (many r) t (drop n t) → Steers rules ahead (many r) (c ∷ t) (drop (cond b (1 + n) 0) (c ∷ t))
  step c t true n e s = rw one-add (on_more (chosen rules ahead r c t ch (steered_from table r st) e) s)
  step c t false n e s = on_end e

  -- the bytes that pass, as many as there are
  run : (p : ℕ → Bool) (t : List ℕ) → Same p t → Steers rules ahead (many r) t (drop (prefix_len p t) t)
  run p [] h = on_end refl
  run p (c ∷ t) h = step c t (p c) (prefix_len p t) (sym (h 0 (omega arith))) (run p t (λ i lt. h (suc i) (omega arith)))

  pub reach_run : (p : ℕ → Bool) (text : List ℕ) (at end : ℕ) → Same p (drop at text) → end ≡ at + prefix_len p (drop at text) → end ≤ length text → ReadsTo (many r) text at end
  reach_run p text at end h e le = record {
    forward = omega (arith, e);
    within_text = le;
    steers = subst (Steers rules ahead (many r) (drop at text)) (drop-drop (prefix_len p (drop at text)) at text ∙ ap (λ z. drop z text) (sym e)) (run p (drop at text) h);
  }

blank_test : (c : ℕ) → is_blank c ≡ first ahead blank c
blank_test c = grind (arith, nat_tests)

pub reach_blanks : (text : List ℕ) (at end : ℕ) → end ≡ at + prefix_len is_blank (drop at text) → end ≤ length text → ReadsTo ws text at end
reach_blanks text at end e le = reach_run blank (tt, (tt, tt)) refl is_blank text at end (λ i lt. blank_test (get_or (drop at text) i 0)) e le

plain_test : (c : ℕ) → c < 256 → not (is_special c) ≡ first ahead unescaped c
plain_test c h = grind (arith, nat_tests)

pub reach_plain : (text : List ℕ) (at end : ℕ) → ((i : ℕ) → get_or text i 0 < 256) → end ≡ at + prefix_len (λ x. not (is_special x)) (drop at text) → end ≤ length text → ReadsTo (many unescaped) text at end
reach_plain text at end bytes e le = reach_run unescaped (tt, (tt, tt)) refl (λ x. not (is_special x)) text at end (λ i lt. plain_test (get_or (drop at text) i 0) (subst (λ z. z < 256) (sym (get_or-drop at text i 0)) (bytes (at + i)))) e le

-- the same over the bytes of a text
pub blanks_in : (text bytes : List ℕ) (at end : ℕ) → bytes ≡ text → end ≡ at + prefix_len is_blank (drop at bytes) → end ≤ length bytes → ReadsTo ws text at end
blanks_in text bytes at end e h le = subst (λ z. ReadsTo ws z at end) e (reach_blanks bytes at end h le)

pub plain_in : (text bytes : List ℕ) (at end : ℕ) → bytes ≡ text → ((i : ℕ) → get_or text i 0 < 256) → end ≡ at + prefix_len (λ x. not (is_special x)) (drop at bytes) → end ≤ length bytes → ReadsTo (many unescaped) text at end
plain_in text bytes at end e small h le = reach_plain text at end small (h ∙ ap (λ z. at + prefix_len (λ x. not (is_special x)) (drop at z)) e) (subst (λ z. end ≤ length z) e le)
