-- Each text has an answer.
use Rattle.std.proofs.Common.{◌≡◌, ℕ, ◌+◌, ◌<◌, List, [], ◌∷◌, length, drop, Bool, true, false, refl, sym, subst, inl, inr, arith, Option, Some, None, length-append}
use Rattle.std.proofs.Math.Seq.{drop-append_seam}
use Rattle.grammar.specs.Predict.{Steers, Stuck}
use Rattle.grammar.specs.Ranges.{are_guarded}
use Rattle.grammar.proofs.Predicts.{reads, moves, halts}
use Rattle.grammar.proofs.Decides.{decides}
use Rattle.json_span.specs.Grammar.{Name, value, number, string}
use Rattle.json_span.specs.Predictive.{rules, ahead, json}
use Rattle.json_span.specs.Tree.{Placed}
use Rattle.json_span.specs.Reading.{Shows}
use Rattle.json_span.specs.Flaw.{Flaw, first_flaw}
use Rattle.json_span.specs.Answer.{Answer, shows, flawed, stops, IsAnswer}
use Rattle.json_span.proofs.Predictive.{honest_json, steered_json}
use Rattle.json_span.proofs.Exists.{shown}
use Rattle.json_span.proofs.Refusal.{refusal}

-- these rules come to no name without a byte
abbrev low : Name → Bool
low value = false
low number = true
low string = true

guarded : (n : Name) → are_guarded rules low n ≡ true
guarded value = refl
guarded number = refl
guarded string = refl

abbrev pub Answered : List ℕ → Type 0
Answered text = (a : Answer) × IsAnswer text a

by_flaw : (text : List ℕ) (n : Placed) → Shows text n → (o : Option Flaw) → first_flaw n ≡ o → Answered text
by_flaw text n s None e = (shows n, (s, e))
by_flaw text n s (Some f) e = (flawed f, (n, s, e))

-- a reading that is done before the end
done_before : (text u : List ℕ) → Steers rules ahead json text u → 0 < length u → Answered text
done_before text u x lt =
    let (f, e, _, _) = moves rules ahead honest_json x in
    let d : drop (length f) text ≡ u = subst (λ z. drop (length f) z ≡ u) (sym e) (drop-append_seam f u) in
    let long : length text ≡ length f + length u = subst (λ z. length z ≡ length f + length u) (sym e) (length-append f u) in
    (stops (length f), refusal text (length f) (omega (arith, long), inr (subst (Steers rules ahead json text) (sym d) x, omega (arith, long, lt))))

at_end : (text u : List ℕ) → Steers rules ahead json text u → Answered text
at_end text [] x = let (n, s) = shown text (reads rules ahead honest_json x) in by_flaw text n s (first_flaw n) refl
at_end text (c ∷ u) x = done_before text (c ∷ u) x (omega arith)

stuck_there : (text u : List ℕ) → Stuck rules ahead json text u → Answered text
stuck_there text u k =
    let (f, e, _, _) = halts rules ahead honest_json k in
    let d : drop (length f) text ≡ u = subst (λ z. drop (length f) z ≡ u) (sym e) (drop-append_seam f u) in
    let long : length text ≡ length f + length u = subst (λ z. length z ≡ length f + length u) (sym e) (length-append f u) in
    (stops (length f), refusal text (length f) (omega (arith, long), inl (subst (Stuck rules ahead json text) (sym d) k)))

pub answered : (text : List ℕ) → Answered text
answered text = elim (decides rules ahead honest_json low guarded json steered_json text) as (λ _. Answered text) [ inl (u, x) ↦ at_end text u x | inr (u, k) ↦ stuck_there text u k ]
