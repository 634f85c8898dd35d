-- The turns of reading with a list of open brackets.
use Rattle.std.proofs.Common.{◌≡◌, ℕ, ◌+◌, ◌<◌, ◌≤◌, List, [], ◌∷◌, ◌++◌, length, drop, Bool, true, false, ◌||◌, refl, sym, ap, ◌∙◌, subst, arith, length-drop, Result, Ok, Err}
use Rattle.grammar.specs.Grammar.{Rule, empty, seq, alt, named, within}
use Rattle.grammar.specs.Predict.{begins, first, nullable, Apart, Steers, on_empty, on_both, on_left, on_right, on_end, on_more, Stuck, at_first, at_second, only_right, at_round, at_later}
use Rattle.grammar.proofs.Tables.{steered_from}
use Rattle.grammar.proofs.Steps.{shorter}
use Rattle.grammar.proofs.Predicts.{reads}
use Rattle.json_span.specs.Grammar.{Name, value, ws, blank, one}
use Rattle.json_span.specs.Predictive.{Bracket, square, curly, rules, table, ahead, symbol, open_of, close_of, before_of, list_item_of, more_of, inside_of, list_of}
use Rattle.json_span.specs.inner.Scan.{ReadsTo, Halts}
use Rattle.json_span.specs.inner.Alternatives.{bracket_of}
use Rattle.json_span.specs.inner.Skipping.{closing_then, closing_of, left_of, ContinuesAs, StopsAt}
use Rattle.json_span.specs.declared.stop.Stop.{Stop}
use Rattle.json_span.specs.declared.stop.Stop.TheVariants.{Syntax, NoMemory}
use Rattle.json_span.specs.declared.alternative.Bracket as declared
use Rattle.json_span.specs.declared.alternative.Bracket.TheVariants.{Square}
use Rattle.json_span.specs.declared.alternative.Alternative.TheVariants.{List as Listed}
use Rattle.json_span.proofs.Scans as scan
use Rattle.json_span.proofs.Predictive.{honest_json}
use Rattle.json_span.proofs.AlternativesRead.{Walks, value_walk}

-- the innermost bracket is the last of the list
pub behind-push : (bs : List declared.Bracket) (b : declared.Bracket) (rest : Rule Name) → closing_then (bs ++ b ∷ []) rest ≡ seq ws (seq (more_of (bracket_of b)) (closing_then bs rest))
behind-push [] b rest = refl
behind-push (a ∷ bs) b rest = behind-push bs b (seq ws (seq (more_of (bracket_of a)) rest))

pub close_apart : (b : Bracket) → Apart (first ahead (one (close_of b))) (first ahead (seq (list_item_of b) (more_of b)))
close_apart square = (steered_from table (inside_of square) refl).2
close_apart curly = (steered_from table (inside_of curly) refl).2

padded_2 : (p : ℕ → Bool) (t : List ℕ) (b : Bool) → begins p t ≡ b → begins (λ c. (p c || false) || false) t ≡ b
padded_2 p t b e = scan.padded (λ c. p c || false) t b (scan.padded p t b e)

misses_comma : (b : Bracket) (t : List ℕ) → begins (within 44 44) t ≡ false → begins (first ahead (seq (symbol 44) (list_item_of b))) t ≡ false
misses_comma b t f = padded_2 (within 44 44) t false f

begins_comma : (b : Bracket) (t : List ℕ) → begins (within 44 44) t ≡ true → begins (first ahead (seq (symbol 44) (list_item_of b))) t ≡ true
begins_comma b t f = padded_2 (within 44 44) t true f

-- an open bracket with a value after it
pub opened : (k : declared.Bracket) (rest : Rule Name) (t1 t2 t3 : List ℕ) (res : Result (List ℕ) (List ℕ)) → begins (first ahead (list_of (bracket_of k))) t1 ≡ true →
    Steers rules ahead (symbol (open_of (bracket_of k))) t1 t2 → begins (first ahead (one (close_of (bracket_of k)))) t2 ≡ false → Steers rules ahead (before_of (bracket_of k)) t2 t3 →
    Walks (seq (named value) (seq ws (seq (more_of (bracket_of k)) rest))) t3 res → Walks (seq (named value) rest) t1 res
opened k rest t1 t2 t3 (Ok u) e x f p (on_both v (on_both w (on_both {u = c} m z))) = on_both (value_walk t1 (Listed k) (Ok c) e (on_both x (on_right f (on_both (on_both p (on_both v w)) m)))) z
opened k rest t1 t2 t3 (Err u) e x f p (at_first a) = at_first (value_walk t1 (Listed k) (Err u) e (at_second x (only_right f refl (at_first (at_second p (at_first a))))))
opened k rest t1 t2 t3 (Err u) e x f p (at_second v (at_first a)) = at_first (value_walk t1 (Listed k) (Err u) e (at_second x (only_right f refl (at_first (at_second p (at_second v a))))))
opened k rest t1 t2 t3 (Err u) e x f p (at_second v (at_second w (at_first a))) = at_first (value_walk t1 (Listed k) (Err u) e (at_second x (only_right f refl (at_second (on_both p (on_both v w)) a))))
opened k rest t1 t2 t3 (Err u) e x f p (at_second v (at_second w (at_second {u = c} m a))) = at_second (value_walk t1 (Listed k) (Ok c) e (on_both x (on_right f (on_both (on_both p (on_both v w)) m)))) a

-- what stands before the first value is no name with a colon
pub bad_name : (k : declared.Bracket) (t1 t2 u : List ℕ) → begins (first ahead (list_of (bracket_of k))) t1 ≡ true →
    Steers rules ahead (symbol (open_of (bracket_of k))) t1 t2 → begins (first ahead (one (close_of (bracket_of k)))) t2 ≡ false → Stuck rules ahead (before_of (bracket_of k)) t2 u → Stuck rules ahead (named value) t1 u
bad_name k t1 t2 u e x f a = value_walk t1 (Listed k) (Err u) e (at_second x (only_right f refl (at_first (at_first a))))

-- a comma and one more value
pub comma : (b : Bracket) (rest : Rule Name) (t1 t2 t3 : List ℕ) (res : Result (List ℕ) (List ℕ)) → begins (within 44 44) t1 ≡ true → Steers rules ahead (symbol 44) t1 t2 → Steers rules ahead (before_of b) t2 t3 →
    Walks (seq (named value) (seq ws (seq (more_of b) rest))) t3 res → Walks (seq (more_of b) rest) t1 res
comma b rest t1 t2 t3 (Ok u) e x p (on_both v (on_both w (on_both (on_both ys y) z))) = on_both (on_both (on_more (on_both x (on_both p (on_both v w))) ys) y) z
comma b rest t1 t2 t3 (Err u) e x p (at_first a) = at_first (at_first (at_round (begins_comma b t1 e) (at_second x (at_second p (at_first a)))))
comma b rest t1 t2 t3 (Err u) e x p (at_second v (at_first a)) = at_first (at_first (at_round (begins_comma b t1 e) (at_second x (at_second p (at_second v a)))))
comma b rest t1 t2 t3 (Err u) e x p (at_second v (at_second w (at_first (at_first a)))) = at_first (at_first (at_later (on_both x (on_both p (on_both v w))) a))
comma b rest t1 t2 t3 (Err u) e x p (at_second v (at_second w (at_first (at_second ys a)))) = at_first (at_second (on_more (on_both x (on_both p (on_both v w))) ys) a)
comma b rest t1 t2 t3 (Err u) e x p (at_second v (at_second w (at_second (on_both ys y) a))) = at_second (on_both (on_more (on_both x (on_both p (on_both v w))) ys) y) a

-- what stands after a comma is no name with a colon
pub bad_name_behind : (b : Bracket) (t1 t2 u : List ℕ) → begins (within 44 44) t1 ≡ true → Steers rules ahead (symbol 44) t1 t2 → Stuck rules ahead (before_of b) t2 u → Stuck rules ahead (more_of b) t1 u
bad_name_behind b t1 t2 u e x a = at_first (at_round (begins_comma b t1 e) (at_second x (at_first a)))

module _ (text : List ℕ) where
  pub leads : (r s : Rule Name) (from at : ℕ) → from ≤ at → ((res : Result (List ℕ) (List ℕ)) → Walks s (drop at text) res → Walks r (drop from text) res) → ContinuesAs text r from s at
  leads r s from at h w (Ok e) x = record { forward = omega (arith, x.forward); within_text = x.within_text; steers = w (Ok (drop e text)) x.steers }
  leads r s from at h w (Err e) x = record { within_text = x.within_text; stuck = w (Err (drop e text)) x.stuck }

  pub past : (r s : Rule Name) (from at : ℕ) → ReadsTo r text from at → ContinuesAs text (seq r s) from s at
  past r s from at x res y = scan.scan_then text r s from at res x y

  pub token_at : (c at end : ℕ) → ReadsTo (one c) text at (at + 1) → ReadsTo ws text (at + 1) end → ReadsTo (symbol c) text at end
  token_at c at end x b = scan.reach_both text (one c) ws at (at + 1) end x b

  module _ (k : declared.Bracket) where
    pub opens : (rest : Rule Name) (at inner next : ℕ) → scan.Sees text (first ahead (list_of (bracket_of k))) at true → ReadsTo (symbol (open_of (bracket_of k))) text at inner →
        scan.Sees text (first ahead (one (close_of (bracket_of k)))) inner false → ReadsTo (before_of (bracket_of k)) text inner next →
        ContinuesAs text (seq (named value) rest) at (seq (named value) (seq ws (seq (more_of (bracket_of k)) rest))) next
    opens rest at inner next e x f p = leads (seq (named value) rest) (seq (named value) (seq ws (seq (more_of (bracket_of k)) rest))) at next (omega (arith, x.forward, p.forward))
        (λ res y. opened k rest (drop at text) (drop inner text) (drop next text) res e x.steers f p.steers y)

    pub bad_opens : (at inner stop : ℕ) → scan.Sees text (first ahead (list_of (bracket_of k))) at true → ReadsTo (symbol (open_of (bracket_of k))) text at inner →
        scan.Sees text (first ahead (one (close_of (bracket_of k)))) inner false → Halts (before_of (bracket_of k)) text inner stop → Halts (named value) text at stop
    bad_opens at inner stop e x f a = record { within_text = a.within_text; stuck = bad_name k (drop at text) (drop inner text) (drop stop text) e x.steers f a.stuck }

    -- a list of no values
    pub empty_list : (at inner end : ℕ) → scan.Sees text (first ahead (list_of (bracket_of k))) at true → ReadsTo (symbol (open_of (bracket_of k))) text at inner →
        scan.Sees text (first ahead (one (close_of (bracket_of k)))) inner true → ReadsTo (one (close_of (bracket_of k))) text inner end → ReadsTo (named value) text at end
    empty_list at inner end e x f y =
        let g : begins (first ahead (seq (list_item_of (bracket_of k)) (more_of (bracket_of k)))) (drop inner text) ≡ false =
        scan.not_other (first ahead (one (close_of (bracket_of k)))) (first ahead (seq (list_item_of (bracket_of k)) (more_of (bracket_of k)))) (close_apart (bracket_of k)) (drop inner text) f in
        record { forward = omega (arith, x.forward, y.forward); within_text = y.within_text; steers = value_walk (drop at text) (Listed k) (Ok (drop end text)) e (on_both x.steers (on_left g y.steers)) }

  module _ (b : Bracket) where
    pub commas : (rest : Rule Name) (at item next : ℕ) → scan.Sees text (within 44 44) at true → ReadsTo (symbol 44) text at item → ReadsTo (before_of b) text item next →
        ContinuesAs text (seq (more_of b) rest) at (seq (named value) (seq ws (seq (more_of b) rest))) next
    commas rest at item next e x p = leads (seq (more_of b) rest) (seq (named value) (seq ws (seq (more_of b) rest))) at next (omega (arith, x.forward, p.forward))
        (λ res y. comma b rest (drop at text) (drop item text) (drop next text) res e x.steers p.steers y)

    pub bad_comma : (at item stop : ℕ) → scan.Sees text (within 44 44) at true → ReadsTo (symbol 44) text at item → Halts (before_of b) text item stop → Halts (more_of b) text at stop
    bad_comma at item stop e x a = record { within_text = a.within_text; stuck = at_first (at_round (begins_comma b (drop at text) e) (at_second x.steers (at_first a.stuck))) }

    pub closes : (at end : ℕ) → scan.Sees text (within 44 44) at false → ReadsTo (one (close_of b)) text at end → ReadsTo (more_of b) text at end
    closes at end e y = record { forward = y.forward; within_text = y.within_text; steers = on_both (on_end (misses_comma b (drop at text) e)) y.steers }

    pub not_closed : (at stop : ℕ) → scan.Sees text (within 44 44) at false → Halts (one (close_of b)) text at stop → Halts (more_of b) text at stop
    not_closed at stop e a = record { within_text = a.within_text; stuck = at_second (on_end (misses_comma b (drop at text) e)) a.stuck }

unpadded : (a : Bool) → ((a || false) || false) ≡ true → a ≡ true
unpadded true e = refl
unpadded false e = e

unpadded_at : (p : ℕ → Bool) (t : List ℕ) → begins (λ c. (p c || false) || false) t ≡ true → begins p t ≡ true
unpadded_at p [] e = e
unpadded_at p (c ∷ t) e = unpadded (p c) e

-- what isn't empty takes a byte
pub reach_past : (text : List ℕ) (r : Rule Name) (at end : ℕ) → nullable r ≡ false → at ≤ length text → ReadsTo r text at end → at < end
reach_past text r at end n h x = omega (arith, shorter honest_json.visible (reads rules ahead honest_json x.steers) n, length-drop at text, length-drop end text, x.within_text)

module _ (text : List ℕ) (bs : List declared.Bracket) (k : declared.Bracket) where
  -- the open bracket and the blanks after it
  pub open_token : (at inner : ℕ) → at < length text → scan.Sees text (first ahead (list_of (bracket_of k))) at true → ReadsTo ws text (at + 1) inner → ReadsTo (symbol (open_of (bracket_of k))) text at inner
  open_token at inner lt e b = token_at text (open_of (bracket_of k)) at inner
      (scan.reach_one text (one (open_of (bracket_of k))) at tt refl lt (unpadded_at (within (open_of (bracket_of k)) (open_of (bracket_of k))) (drop at text) e)) b

  -- one byte of the class that closes the list
  pub close_sees : (r : Rule Name) (at : ℕ) (b : Bool) → r ≡ one (close_of (bracket_of k)) → scan.Sees text (first ahead r) at b → scan.Sees text (first ahead (one (close_of (bracket_of k)))) at b
  close_sees r at b e s = subst (λ z. begins (first ahead z) (drop at text) ≡ b) e s

  pub open_inner : (at inner next : ℕ) → at < length text → scan.Sees text (first ahead (list_of (bracket_of k))) at true → ReadsTo ws text (at + 1) inner →
      scan.Sees text (first ahead (one (close_of (bracket_of k)))) inner false → ReadsTo (before_of (bracket_of k)) text inner next →
      (new : List declared.Bracket) → new ≡ bs ++ k ∷ [] → ContinuesAs text (left_of true bs) at (left_of true new) next
  open_inner at inner next lt e b f p new same =
      subst (λ z. ContinuesAs text (left_of true bs) at (seq (named value) z) next) (sym (behind-push bs k empty) ∙ ap closing_of (sym same)) (opens text k (closing_of bs) at inner next e (open_token at inner lt e b) f p)

  pub open_empty : (at inner : ℕ) → at < length text → scan.Sees text (first ahead (list_of (bracket_of k))) at true → ReadsTo ws text (at + 1) inner →
      inner < length text → scan.Sees text (first ahead (one (close_of (bracket_of k)))) inner true → ContinuesAs text (left_of true bs) at (left_of false bs) (inner + 1)
  open_empty at inner lt e b lt2 f = past text (named value) (closing_of bs) at (inner + 1)
      (empty_list text k at inner (inner + 1) e (open_token at inner lt e b) f (scan.reach_one text (one (close_of (bracket_of k))) inner tt refl lt2 f))

  -- after the blanks after a value of the list
  abbrev Inner : Rule Name
  Inner = seq (more_of (bracket_of k)) (closing_of bs)

  pub behind_blanks : (at at2 : ℕ) (s : Rule Name) (to : ℕ) → ReadsTo ws text at at2 → ContinuesAs text Inner at2 s to → ContinuesAs text (left_of false (bs ++ k ∷ [])) at s to
  behind_blanks at at2 s to b x = subst (λ z. ContinuesAs text z at s to) (sym (behind-push bs k empty)) (λ res y. past text ws Inner at at2 b res (x res y))

  pub stops_behind : (at at2 stop : ℕ) → ReadsTo ws text at at2 → Halts (more_of (bracket_of k)) text at2 stop → Halts (left_of false (bs ++ k ∷ [])) text at stop
  stops_behind at at2 stop b x = subst (λ z. Halts z text at stop) (sym (behind-push bs k empty)) (scan.halt_second text ws Inner at at2 stop b (scan.halt_first text (more_of (bracket_of k)) (closing_of bs) at2 stop x))

  pub go_comma : (at at2 item next : ℕ) → ReadsTo ws text at at2 → at2 < length text → scan.Sees text (within 44 44) at2 true → ReadsTo ws text (at2 + 1) item → ReadsTo (before_of (bracket_of k)) text item next →
      (new : List declared.Bracket) → new ≡ bs ++ k ∷ [] → ContinuesAs text (left_of false (bs ++ k ∷ [])) at (left_of true new) next
  go_comma at at2 item next b lt e b2 p new same = behind_blanks at at2 (left_of true new) next b
      (subst (λ z. ContinuesAs text Inner at2 (seq (named value) z) next) (sym (behind-push bs k empty) ∙ ap closing_of (sym same))
      (commas text (bracket_of k) (closing_of bs) at2 item next e (token_at text 44 at2 item (scan.reach_one text (one 44) at2 tt refl lt e) b2) p))

  pub comma_stops : (at at2 item stop : ℕ) → ReadsTo ws text at at2 → at2 < length text → scan.Sees text (within 44 44) at2 true → ReadsTo ws text (at2 + 1) item → Halts (before_of (bracket_of k)) text item stop → Halts (left_of false (bs ++ k ∷ [])) text at stop
  comma_stops at at2 item stop b lt e b2 a = stops_behind at at2 stop b
      (bad_comma text (bracket_of k) at2 item stop e (token_at text 44 at2 item (scan.reach_one text (one 44) at2 tt refl lt e) b2) a)

  pub go_close : (r : Rule Name) (at at2 end : ℕ) → r ≡ one (close_of (bracket_of k)) → ReadsTo ws text at at2 → scan.Sees text (within 44 44) at2 false → ReadsTo r text at2 end → ContinuesAs text (left_of false (bs ++ k ∷ [])) at (left_of false bs) end
  go_close r at at2 end same b e x = behind_blanks at at2 (closing_of bs) end b (past text (more_of (bracket_of k)) (closing_of bs) at2 end (closes text (bracket_of k) at2 end e (subst (λ z. ReadsTo z text at2 end) same x)))

  pub close_stops : (r : Rule Name) (at at2 stop : ℕ) → r ≡ one (close_of (bracket_of k)) → ReadsTo ws text at at2 → scan.Sees text (within 44 44) at2 false → Halts r text at2 stop → Halts (left_of false (bs ++ k ∷ [])) text at stop
  close_stops r at at2 stop same b e x = stops_behind at at2 stop b (not_closed text (bracket_of k) at2 stop e (subst (λ z. Halts z text at2 stop) same x))

  pub past_close : (r : Rule Name) (at at2 end : ℕ) → r ≡ one (close_of (bracket_of k)) → at2 ≤ length text → ReadsTo ws text at at2 → ReadsTo r text at2 end → at < end
  past_close r at at2 end same h b x = omega (arith, b.forward, reach_past text (one (close_of (bracket_of k))) at2 end refl h (subst (λ z. ReadsTo z text at2 end) same x))

-- nothing more is to read after a value alone
alone : {r : Rule Name} {t u : List ℕ} → Steers rules ahead (seq r empty) t u → Steers rules ahead r t u
alone (on_both x on_empty) = x

stuck_alone : {r : Rule Name} {t u : List ℕ} → Stuck rules ahead (seq r empty) t u → Stuck rules ahead r t u
stuck_alone (at_first k) = k
stuck_alone (at_second x k) = absurd (elim k [ ])

pub reach_alone : (text : List ℕ) (r : Rule Name) (at end : ℕ) → ReadsTo (seq r empty) text at end → ReadsTo r text at end
reach_alone text r at end x = record { forward = x.forward; within_text = x.within_text; steers = alone x.steers }

pub stops_alone : (text : List ℕ) (r : Rule Name) (at : ℕ) (e : Stop) → StopsAt (seq r empty) text at e → StopsAt r text at e
stops_alone text r at (Syntax stop) x = record { within_text = x.within_text; stuck = stuck_alone x.stuck }
stops_alone text r at NoMemory x = tt

-- the same in a list
list_alone : {r s : Rule Name} {t u : List ℕ} → Steers rules ahead (seq r (seq s empty)) t u → Steers rules ahead (seq r s) t u
list_alone (on_both x y) = on_both x (alone y)

stuck_list_alone : {r s : Rule Name} {t u : List ℕ} → Stuck rules ahead (seq r (seq s empty)) t u → Stuck rules ahead (seq r s) t u
stuck_list_alone (at_first k) = at_first k
stuck_list_alone (at_second x k) = at_second x (stuck_alone k)

pub reach_list_alone : (text : List ℕ) (r s : Rule Name) (at end : ℕ) → ReadsTo (seq r (seq s empty)) text at end → ReadsTo (seq r s) text at end
reach_list_alone text r s at end x = record { forward = x.forward; within_text = x.within_text; steers = list_alone x.steers }

pub stops_list_alone : (text : List ℕ) (r s : Rule Name) (at : ℕ) (e : Stop) → StopsAt (seq r (seq s empty)) text at e → StopsAt (seq r s) text at e
stops_list_alone text r s at (Syntax stop) x = record { within_text = x.within_text; stuck = stuck_list_alone x.stuck }
stops_list_alone text r s at NoMemory x = tt

pub lead_stops : (text : List ℕ) (r s : Rule Name) (from at : ℕ) (e : Stop) → ContinuesAs text r from s at → StopsAt s text at e → StopsAt r text from e
lead_stops text r s from at (Syntax stop) l x = l (Err stop) x
lead_stops text r s from at NoMemory l x = tt

pub lead_ends : (text : List ℕ) (r : Rule Name) (from at : ℕ) → at ≤ length text → ContinuesAs text r from empty at → ReadsTo r text from at
lead_ends text r from at h l = l (Ok at) (record { forward = omega arith; within_text = h; steers = on_empty })

pub none_left : {A : Type 0} (xs : List A) → length xs ≡ 0 → xs ≡ []
none_left [] e = refl
none_left (x ∷ xs) e = absurd (omega arith)

pub reach_nothing : (text : List ℕ) (at : ℕ) → at ≤ length text → ReadsTo empty text at at
reach_nothing text at h = record { forward = omega arith; within_text = h; steers = on_empty }

-- a square bracket with another right after it
blank_apart : Apart (first ahead (one 91)) (first ahead blank)
blank_apart = (steered_from table (alt (one 91) blank) refl).2

square_apart : Apart (first ahead (one 91)) (first ahead (one 93))
square_apart = (steered_from table (alt (one 91) (one 93)) refl).2

pub open_next : (text : List ℕ) (bs : List declared.Bracket) (at : ℕ) → at < length text → scan.Sees text (first ahead (one 91)) at true → at + 1 < length text → scan.Sees text (first ahead (one 91)) (at + 1) true →
    (new : List declared.Bracket) → new ≡ bs ++ Square ∷ [] → ContinuesAs text (left_of true bs) at (left_of true new) (at + 1)
open_next text bs at h e lt f new same =
    let within_text : at + 1 ≤ length text = omega arith in
    open_inner text bs Square at (at + 1) (at + 1) h (padded_2 (within 91 91) (drop at text) true e)
    (scan.reach_none text blank (at + 1) within_text (scan.not_other (first ahead (one 91)) (first ahead blank) blank_apart (drop (at + 1) text) f))
    (scan.not_other (first ahead (one 91)) (first ahead (one 93)) square_apart (drop (at + 1) text) f)
    (reach_nothing text (at + 1) within_text) new same
