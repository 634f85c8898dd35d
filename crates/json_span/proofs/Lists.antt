-- The turns of building a list.
use Rattle.std.proofs.Common.{◌≡◌, ℕ, ◌<◌, List, [], ◌∷◌, ◌++◌, length, drop, true, false, refl, sym, ap, ◌∙◌, subst, arith, Result, Ok, Err, Option, Some, None}
use Rattle.grammar.specs.Grammar.{Rule, empty, seq, named, within, Reads}
use Rattle.grammar.specs.Predict.{begins, first, Steers, on_both, on_empty, Stuck, at_first, at_second}
use Rattle.grammar.proofs.Predicts.{reads}
use Rattle.json_span.specs.Grammar.{Name, value, ws, one}
use Rattle.json_span.specs.Predictive.{Bracket, square, rules, ahead, symbol, open_of, close_of, before_of, more_of, list_of}
use Rattle.json_span.specs.Tree.{Placed, Elements, no_elements, an_element, elements_of}
use Rattle.json_span.specs.Reading.{ValueAt, ElementsAt, first_element, last_element, next_element}
use Rattle.json_span.specs.Flaw.{Flaw, or_else, flaw_in, flaw_in_elements}
use Rattle.json_span.specs.inner.Scan.{ReadsTo, Halts, Scans}
use Rattle.json_span.specs.inner.Alternatives.{bracket_of}
use Rattle.json_span.specs.inner.Skipping.{left_of, ContinuesAs, StopsAt}
use Rattle.json_span.specs.inner.Building.{Opens, IsComma, IsClose}
use Rattle.json_span.specs.inner.ListsLeft.{list_left, then_elements, ElementsLeft}
use Rattle.json_span.specs.declared.alternative.Bracket as declared
use Rattle.json_span.specs.declared.stop.Stop.{Stop}
use Rattle.json_span.specs.declared.stop.Stop.TheVariants.{Syntax, NoMemory}
use Rattle.json_span.proofs.Predictive.{honest_json}
use Rattle.json_span.proofs.Scans as scan
use Rattle.json_span.proofs.AlternativesRead.{Walks}
use Rattle.json_span.proofs.Skips as skip

-- an open bracket, and all that is left of its list
opened_all : (k : declared.Bracket) (rest : Rule Name) (t1 t2 : List ℕ) (res : Result (List ℕ) (List ℕ)) → begins (first ahead (list_of (bracket_of k))) t1 ≡ true →
    Steers rules ahead (symbol (open_of (bracket_of k))) t1 t2 → begins (first ahead (one (close_of (bracket_of k)))) t2 ≡ false →
    Walks (seq (before_of (bracket_of k)) (seq (named value) (seq ws (seq (more_of (bracket_of k)) rest)))) t2 res → Walks (seq (named value) rest) t1 res
opened_all k rest t1 t2 (Ok u) e x f (on_both {u = t3} p y) = skip.opened k rest t1 t2 t3 (Ok u) e x f p y
opened_all k rest t1 t2 (Err u) e x f (at_first a) = at_first (skip.bad_name k t1 t2 u e x f a)
opened_all k rest t1 t2 (Err u) e x f (at_second {u = t3} p y) = skip.opened k rest t1 t2 t3 (Err u) e x f p y

-- a comma, and all that is left of its list
comma_all : (b : Bracket) (rest : Rule Name) (t1 t2 : List ℕ) (res : Result (List ℕ) (List ℕ)) → begins (within 44 44) t1 ≡ true → Steers rules ahead (symbol 44) t1 t2 →
    Walks (seq (before_of b) (seq (named value) (seq ws (seq (more_of b) rest)))) t2 res → Walks (seq (more_of b) rest) t1 res
comma_all b rest t1 t2 (Ok u) e x (on_both {u = t3} p y) = skip.comma b rest t1 t2 t3 (Ok u) e x p y
comma_all b rest t1 t2 (Err u) e x (at_first a) = at_first (skip.bad_name_behind b t1 t2 u e x a)
comma_all b rest t1 t2 (Err u) e x (at_second {u = t3} p y) = skip.comma b rest t1 t2 t3 (Err u) e x p y

-- with nothing after it
stuck_grown : {r s : Rule Name} {t u : List ℕ} → Stuck rules ahead (seq r s) t u → Stuck rules ahead (seq r (seq s empty)) t u
stuck_grown (at_first k) = at_first k
stuck_grown (at_second x k) = at_second x (at_first k)

grown : {r s : Rule Name} {t u : List ℕ} → Steers rules ahead (seq r s) t u → Steers rules ahead (seq r (seq s empty)) t u
grown (on_both x y) = on_both x (on_both y on_empty)

module _ (text : List ℕ) where
  grown_reach : (r s : Rule Name) (at end : ℕ) → ReadsTo (seq r s) text at end → ReadsTo (seq r (seq s empty)) text at end
  grown_reach r s at end x = record { forward = x.forward; within_text = x.within_text; steers = grown x.steers }

  grown_halt : (r s : Rule Name) (at stop : ℕ) → Halts (seq r s) text at stop → Halts (seq r (seq s empty)) text at stop
  grown_halt r s at stop x = record { within_text = x.within_text; stuck = stuck_grown x.stuck }

  pub open_leads : (k : declared.Bracket) (at inner : ℕ) → Opens (bracket_of k) text at inner → ContinuesAs text (left_of true []) at (list_left (bracket_of k)) inner
  open_leads k at inner o =
      let x = skip.open_token text [] k at inner o.bound o.opens o.blanks in
      skip.leads text (left_of true []) (list_left (bracket_of k)) at inner x.forward (λ res y. opened_all k empty (drop at text) (drop inner text) res o.opens x.steers o.some y)

  comma_leads : (b : Bracket) (at item : ℕ) → IsComma text at item → (res : Result ℕ ℕ) → Scans (list_left b) text item res → Scans (seq ws (seq (more_of b) empty)) text at res
  comma_leads b at item c res y =
      let x = skip.token_at text 44 c.comma item (scan.reach_one text (one 44) c.comma tt refl c.bound c.sees) c.behind in
      scan.scan_then text ws (seq (more_of b) empty) at c.comma res c.before
      (skip.leads text (seq (more_of b) empty) (list_left b) c.comma item x.forward (λ r z. comma_all b empty (drop c.comma text) (drop item text) r c.sees x.steers z) res y)

  module _ (b : Bracket) (at next : ℕ) (l : ContinuesAs text (left_of true []) at (list_left b) next) where
    -- one value and a comma
    pub item_leads : {value_start end item : ℕ} → ReadsTo (before_of b) text next value_start → ReadsTo (named value) text value_start end → IsComma text end item → ContinuesAs text (left_of true []) at (list_left b) item
    item_leads {value_start} {end} {item} p v c res y = l res (scan.scan_then text (before_of b) (seq (named value) (seq ws (seq (more_of b) empty))) next value_start res p
        (scan.scan_then text (named value) (seq ws (seq (more_of b) empty)) value_start end res v (comma_leads b end item c res y)))

    -- one value and the end of the list
    pub whole_list : {value_start end close : ℕ} → ReadsTo (before_of b) text next value_start → ReadsTo (named value) text value_start end → ReadsTo (seq ws (more_of b)) text end close → ReadsTo (named value) text at close
    whole_list {value_start} {end} {close} p v m = skip.reach_alone text (named value) at close (l (Ok close)
        (scan.reach_both text (before_of b) (seq (named value) (seq ws (seq (more_of b) empty))) next value_start close p
        (scan.reach_both text (named value) (seq ws (seq (more_of b) empty)) value_start end close v (grown_reach ws (more_of b) end close m))))

    halt_list : (stop : ℕ) → Halts (list_left b) text next stop → Halts (named value) text at stop
    halt_list stop x = skip.stops_alone text (named value) at (Syntax stop) (l (Err stop) x)

    pub bad_front : (e : Stop) → StopsAt (before_of b) text next e → StopsAt (named value) text at e
    bad_front (Syntax stop) x = halt_list stop (scan.halt_first text (before_of b) (seq (named value) (seq ws (seq (more_of b) empty))) next stop x)
    bad_front NoMemory x = tt

    pub bad_value : {value_start : ℕ} (e : Stop) → ReadsTo (before_of b) text next value_start → StopsAt (named value) text value_start e → StopsAt (named value) text at e
    bad_value {value_start} (Syntax stop) p x = halt_list stop (scan.halt_second text (before_of b) (seq (named value) (seq ws (seq (more_of b) empty))) next value_start stop p
        (scan.halt_first text (named value) (seq ws (seq (more_of b) empty)) value_start stop x))
    bad_value NoMemory p x = tt

    pub bad_rest : {value_start end : ℕ} (e : Stop) → ReadsTo (before_of b) text next value_start → ReadsTo (named value) text value_start end → StopsAt (seq ws (more_of b)) text end e → StopsAt (named value) text at e
    bad_rest {value_start} {end} (Syntax stop) p v x = halt_list stop (scan.halt_second text (before_of b) (seq (named value) (seq ws (seq (more_of b) empty))) next value_start stop p
        (scan.halt_second text (named value) (seq ws (seq (more_of b) empty)) value_start end stop v (grown_halt ws (more_of b) end stop x)))
    bad_rest NoMemory p v x = tt

-- the bracket that closes is the end of the list
pub close_reach : {text : List ℕ} {b : Bracket} {end close : ℕ} → IsClose b text end close → ReadsTo (seq ws (more_of b)) text end close
close_reach {text} {b} {end} {close} c = scan.reach_both text ws (more_of b) end c.close close c.before (skip.closes text b c.close close c.sees c.closes)

pub past_comma : {text : List ℕ} {end item : ℕ} → IsComma text end item → end < item
past_comma c = omega (arith, c.before.forward, c.behind.forward)

-- arrays
pub then-push : (ps : List Placed) (p : Placed) (ns : Elements) → then_elements (ps ++ p ∷ []) ns ≡ then_elements ps (an_element p ns)
then-push [] p ns = refl
then-push (q ∷ ps) p ns = ap (an_element q) (then-push ps p ns)

pub then-none : (ps : List Placed) → then_elements ps no_elements ≡ elements_of ps
then-none [] = refl
then-none (p ∷ ps) = ap (an_element p) (then-none ps)

pub or_after : (a b : Option Flaw) → a ≡ None → or_else a b ≡ b
or_after None b e = refl
or_after (Some x) b e = cc

pub elements_start : (text : List ℕ) (room inner : ℕ) → ElementsLeft text room inner inner []
elements_start text room inner = record { whole = λ n m w u ns v b more. first_element v b more; flawless = λ ns. refl }

pub read_of : (text : List ℕ) (r : Rule Name) (at end : ℕ) → ReadsTo r text at end → Reads rules r (drop at text) (drop end text)
read_of text r at end x = reads rules ahead honest_json x.steers

module _ {text : List ℕ} {room inner next : ℕ} {ps : List Placed} (left : ElementsLeft text room inner next ps) where
  pub elements_next : {n : Placed} {end item : ℕ} → ValueAt (length text) (drop next text) n (drop end text) → flaw_in room n ≡ None → IsComma text end item → ElementsLeft text room inner item (ps ++ n ∷ [])
  elements_next {n} {end} {item} v none c =
      let x = skip.token_at text 44 c.comma item (scan.reach_one text (one 44) c.comma tt refl c.bound c.sees) c.behind in
      record {
        whole = λ n2 m w u ns v2 b more. subst (λ z. ElementsAt (length text) (drop inner text) z u) (sym (then-push ps n (an_element n2 ns)))
            (left.whole n (drop end text) (drop c.comma text) u (an_element n2 ns) v (read_of text ws end c.comma c.before) (next_element (read_of text (symbol 44) c.comma item x) v2 b more));
        flawless = λ ns. ap (flaw_in_elements room) (then-push ps n ns) ∙ left.flawless (an_element n ns) ∙ or_after (flaw_in room n) (flaw_in_elements room ns) none;
      }

  pub elements_close : {n : Placed} {end close : ℕ} → ValueAt (length text) (drop next text) n (drop end text) → IsClose square text end close → ElementsAt (length text) (drop inner text) (elements_of (ps ++ n ∷ [])) (drop close text)
  elements_close {n} {end} {close} v c = subst (λ z. ElementsAt (length text) (drop inner text) z (drop close text)) (sym (then-push ps n no_elements) ∙ then-none (ps ++ n ∷ []))
      (left.whole n (drop end text) (drop c.close text) (drop close text) no_elements v (read_of text ws end c.close c.before) (last_element (read_of text (one 93) c.close close c.closes)))

  pub elements_flawless : (n : Placed) → flaw_in room n ≡ None → flaw_in_elements room (elements_of (ps ++ n ∷ [])) ≡ None
  elements_flawless n none = ap (flaw_in_elements room) (sym (then-none (ps ++ n ∷ [])) ∙ then-push ps n no_elements) ∙ left.flawless (an_element n no_elements) ∙ or_after (flaw_in room n) None none
