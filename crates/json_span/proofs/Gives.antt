-- What building gives, value by value.
use Rattle.std.proofs.Common.{◌≡◌, ◌≢◌, ℕ, zero, suc, ◌+◌, ◌<◌, ◌≤◌, List, [], ◌∷◌, ◌++◌, length, drop, true, false, refl, sym, ap, subst, ◌∙◌, arith, length-drop, length-append, add-one, Some, None, Option, option_map, set, append_assoc}
use Rattle.std.specs.Option.{unwrap_or}
use Rattle.grammar.specs.Grammar.{Rule, seq, alt, named, Reads}
use Rattle.grammar.specs.Predict.{begins, first, Steers, on_both, nullable}
use Rattle.grammar.specs.Ranges.{is_steered}
use Rattle.grammar.proofs.Predicts.{reads}
use Rattle.grammar.proofs.Steps.{no_longer}
use Rattle.json_span.specs.Grammar.{Name, value, number, string, ws, one, null_word, false_word, true_word}
use Rattle.json_span.specs.Predictive as predictive
use Rattle.json_span.specs.Predictive.{Bracket, square, curly, table, ahead, symbol, open_of, close_of, before_of, more_of, list_of}
use Rattle.json_span.specs.Tree.{Tree, Placed, placed, an_array, an_object, an_element, a_member, Entry, elements_of, members_of}
use Rattle.json_span.specs.Reading.{BeginsAt, ValueAt, MemberAt, with_span, Shape, null_shape, false_shape, true_shape, number_shape, string_shape, array_shape, object_shape, no_element, no_member}
use Rattle.json_span.specs.Flaw.{Flaw, too_deep, or_else, flaw_in, flaw_at, flaw_in_elements}
use Rattle.json_span.specs.inner.Scan.{ReadsTo}
use Rattle.json_span.specs.inner.Alternatives.{bracket_of, rule_of_scalar}
use Rattle.json_span.proofs.Scalars.{scalar_shape}
use Rattle.std.proofs.lemmas.List.{length-set}
use Rattle.json_span.specs.inner.Skipping.{left_of, ContinuesAs, StopsAt}
use Rattle.json_span.specs.Table.{size_inside, sizes, member_sizes, span, spans, spans_inside, spans_of, member_spans}
use Rattle.json_span.specs.declared.table.Span.{Span}
use Rattle.json_span.proofs.Spans.{length-spans_of, length-member_spans, spans-push, member_spans-push, grown, closed, scalar_spans}
use Rattle.json_span.specs.inner.Building.{IsSmall, Opens, IsComma, IsClose, IsNext, IsBuilt, end_of_built, flaw_view, empty_tree}
use Rattle.json_span.specs.inner.ListsLeft.{list_left, then_elements, then_members, ArrayLeft, ObjectLeft}
use Rattle.json_span.specs.inner.Names.{AreNamesOf, names_flaw}
use Rattle.json_span.specs.declared.names.NameSpan.{NameSpan}
use Rattle.json_span.proofs.Naming.{Named, are_push, own_behind}
use Rattle.json_span.specs.declared.alternative.Bracket as declared
use Rattle.json_span.specs.declared.alternative.Bracket.TheVariants.{Square, Curly}
use Rattle.json_span.specs.declared.alternative.Scalar.{Scalar}
use Rattle.json_span.specs.declared.build.Built.{Built}
use Rattle.json_span.specs.declared.build.Built.TheVariants.{Whole, Flawed}
use Rattle.json_span.specs.declared.build.Next.{Next}
use Rattle.json_span.specs.declared.build.Next.TheVariants.{Item, Closed}
use Rattle.json_span.specs.declared.flaw.Flaw as declared_flaw
use Rattle.json_span.specs.declared.flaw.Flaw.TheVariants.{Deep}
use Rattle.json_span.specs.declared.stop.Stop.{Stop}
use Rattle.json_span.proofs.Predictive.{honest_json}
use Rattle.json_span.proofs.Scans as scan
use Rattle.json_span.proofs.Skips as skip
use Rattle.json_span.proofs.Begins.{begun, one_way}
use Rattle.json_span.proofs.Exists.{value_of, more_elements_of, more_members_of}
use Rattle.json_span.proofs.Lists as list
use Rattle.json_span.proofs.Lists.{read_of}
use Rattle.json_span.proofs.MemberLists as members

begins_at : (text : List ℕ) (at : ℕ) → at ≤ length text → BeginsAt (length text) (drop at text) at
begins_at text at h = omega (arith, length-drop at text)

-- a whole value
pub gives_whole : {text : List ℕ} {at room name name_end close : ℕ} {old new : List Span} {v : Tree} → at ≤ length text → ReadsTo (named value) text at close →
    Shape (length text) (drop at text) v (drop close text) → flaw_at room at v ≡ None → new ≡ old ++ spans name name_end (length old) (placed v at close) → length new ≤ close →
    IsBuilt text at room name name_end old new (Whole close)
gives_whole {text} {at} {close = close} {v = v} le x s f made small = record {
  tree = placed v at close;
  reads = x;
  value = with_span s (begins_at text at le) (begins_at text close x.within_text);
  flaw = f;
  kept = (made, small);
}

-- the one span of a value that holds no others
one_span : (name name_end at end : ℕ) (old new : List Span) (v : Tree) → spans_inside (length old + 1) v ≡ [] → size_inside v ≡ 0 → new ≡ old ++ span name name_end at end (length old + 1) ∷ [] → new ≡ old ++ spans name name_end (length old) (placed v at end)
one_span name name_end at end old new v none zero_inside made =
    let next : length old + 1 ≡ length old + 1 + size_inside v = omega (arith, zero_inside) in
    made ∙ λ j. old ++ span name name_end at end (next j) ∷ sym none j

pushed_small : (old new : List Span) (h : Span) (at end : ℕ) → new ≡ old ++ h ∷ [] → length old ≤ at → at < end → length new ≤ end
pushed_small old new h at end made small lt = omega (arith, ap length made ∙ length-append old (h ∷ []))

pub opened_small : (text : List ℕ) (at inner : ℕ) (old new : List Span) (h : Span) → IsSmall text at old → ReadsTo ws text (at + 1) inner → new ≡ old ++ h ∷ [] → IsSmall text inner new
opened_small text at inner old new h small blanks made = record { short = small.short; places = pushed_small old new h at inner made small.places (omega (arith, blanks.forward)) }

-- a comma was read after a value, so there is room for one more
pub small_after : {text : List ℕ} {at item : ℕ} {nodes new : List Span} (end : ℕ) → IsSmall text at nodes → length new ≤ end → IsComma text end item → IsSmall text item new
small_after {text} {item = item} end small le comma = record { short = small.short; places = omega (arith, le, list.past_comma comma) }

pub gives_scalar : (scalar : Scalar) {text : List ℕ} {at room name name_end end : ℕ} {old new : List Span} → at ≤ length text → IsSmall text at old →
    ReadsTo (rule_of_scalar scalar) text at end → ReadsTo (named value) text at end →
    new ≡ old ++ span name name_end at end (length old + 1) ∷ [] → IsBuilt text at room name name_end old new (Whole end)
gives_scalar scalar {text} {at} {room} {name} {name_end} {end} {old} {new} le small x y made =
    let (v, shape, flawless) = scalar_shape scalar text at end x in
    let (none, zero_inside) = scalar_spans v flawless (length old + 1) in
    gives_whole le y shape (flawless room at) (one_span name name_end at end old new v none zero_inside made)
    (pushed_small old new (span name name_end at end (length old + 1)) at end made small.places (skip.reach_past text (named value) at end refl le y))

closed_small : (new last : List Span) (i end close : ℕ) (h : Span) → last ≡ set new i h → length new ≤ end → end ≤ close → length last ≤ close
closed_small new last i end close h is small le = omega (arith, ap length is ∙ length-set new i h)

-- a list begins with its bracket, so its value is a list, and one level too many
no_list : (b : Bracket) (r : Rule Name) (t u : List ℕ) → nullable r ≡ false → is_steered table (alt r (list_of b)) ≡ true → Reads predictive.rules r t u → begins (first ahead (list_of b)) t ≡ true → ⊥
no_list b r t u n st x e = one_way r (list_of b) t st (begun r n x) e

deep_tree : (b : Bracket) (total start : ℕ) (t u : List ℕ) (v : Tree) → Shape total t v u → begins (first ahead (list_of b)) t ≡ true → flaw_at 0 start v ≡ Some (too_deep start (start + 1))
deep_tree square total start t u _ (null_shape x) e = absurd (no_list square null_word t u refl refl x e)
deep_tree curly total start t u _ (null_shape x) e = absurd (no_list curly null_word t u refl refl x e)
deep_tree square total start t u _ (false_shape x) e = absurd (no_list square false_word t u refl refl x e)
deep_tree curly total start t u _ (false_shape x) e = absurd (no_list curly false_word t u refl refl x e)
deep_tree square total start t u _ (true_shape x) e = absurd (no_list square true_word t u refl refl x e)
deep_tree curly total start t u _ (true_shape x) e = absurd (no_list curly true_word t u refl refl x e)
deep_tree square total start t u _ (number_shape x k) e = absurd (no_list square (named number) t u refl refl x e)
deep_tree curly total start t u _ (number_shape x k) e = absurd (no_list curly (named number) t u refl refl x e)
deep_tree square total start t u _ (string_shape x) e = absurd (no_list square (named string) t u refl refl x.reads e)
deep_tree curly total start t u _ (string_shape x) e = absurd (no_list curly (named string) t u refl refl x.reads e)
deep_tree square total start t u _ (array_shape x y) e = refl
deep_tree curly total start t u _ (array_shape x y) e = refl
deep_tree square total start t u _ (object_shape x y) e = refl
deep_tree curly total start t u _ (object_shape x y) e = refl

deep_value : (b : Bracket) (total at : ℕ) (t u : List ℕ) (n : Placed) → ValueAt total t n u → BeginsAt total t at → begins (first ahead (list_of b)) t ≡ true → flaw_in 0 n ≡ Some (too_deep at (at + 1))
deep_value b total at t u _ (with_span {v = v} {start = start} s p q) h e =
    let same : start ≡ at = omega (arith, p, h) in
    deep_tree b total start t u v s e ∙ ap (λ z. Some (too_deep z (z + 1))) same

pub gives_deep : (b : Bracket) {text : List ℕ} {at room name name_end end : ℕ} {old new : List Span} → room ≡ 0 → at ≤ length text → begins (first ahead (list_of b)) (drop at text) ≡ true →
    ReadsTo (named value) text at end → IsBuilt text at room name name_end old new (Flawed (Deep at (at + 1)) end)
gives_deep b {text} {at} {end = end} zero_room le e x =
    let (n, v) = value_of (length text) (read_of text (named value) at end x) (omega (arith, length-drop at text)) in
    record { tree = n; reads = x; value = v; flaw = ap (λ z. flaw_in z n) zero_room ∙ deep_value b (length text) at (drop at text) (drop end text) n v (begins_at text at le) e; kept = tt }

-- a list of no values
empty_shape : (b : Bracket) (total : ℕ) (t m u : List ℕ) → Reads predictive.rules (symbol (open_of b)) t m → Reads predictive.rules (one (close_of b)) m u → Shape total t (empty_tree b) u
empty_shape square total t m u x y = array_shape x (no_element y)
empty_shape curly total t m u x y = object_shape x (no_member y)

empty_flaw : (b : Bracket) (room at : ℕ) → room ≢ 0 → flaw_at room at (empty_tree b) ≡ None
empty_flaw square zero at h = absurd (h refl)
empty_flaw square (suc room) at h = refl
empty_flaw curly zero at h = absurd (h refl)
empty_flaw curly (suc room) at h = refl

empty_spans : (b : Bracket) (i : ℕ) → (spans_inside i (empty_tree b) ≡ []) × (size_inside (empty_tree b) ≡ 0)
empty_spans square i = (refl, refl)
empty_spans curly i = (refl, refl)

pub gives_empty : (k : declared.Bracket) {text : List ℕ} {at inner room name name_end : ℕ} {old new : List Span} → IsSmall text at old → room ≢ 0 → at < length text →
    begins (first ahead (list_of (bracket_of k))) (drop at text) ≡ true → ReadsTo ws text (at + 1) inner → inner < length text →
    begins (first ahead (one (close_of (bracket_of k)))) (drop inner text) ≡ true →
    new ≡ old ++ span name name_end at (inner + 1) (length old + 1) ∷ [] → IsBuilt text at room name name_end old new (Whole (inner + 1))
gives_empty k {text} {at} {inner} {room} {name} {name_end} {old} {new} small some lt e b lt2 f made =
    let x = skip.open_token text [] k at inner lt e b in
    let y = scan.reach_one text (one (close_of (bracket_of k))) inner tt refl lt2 f in
    let (none, zero_inside) = empty_spans (bracket_of k) (length old + 1) in
    gives_whole (omega arith)
    (skip.empty_list text k at inner (inner + 1) e x f y) (empty_shape (bracket_of k) (length text) (drop at text) (drop inner text) (drop (inner + 1) text) (read_of text (symbol (open_of (bracket_of k))) at inner x) (read_of text (one (close_of (bracket_of k))) inner (inner + 1) y))
    (empty_flaw (bracket_of k) room at some) (one_span name name_end at (inner + 1) old new (empty_tree (bracket_of k)) none zero_inside made)
    (pushed_small old new (span name name_end at (inner + 1) (length old + 1)) at (inner + 1) made small.places (omega (arith, b.forward)))

-- a list that is open, under the bracket that the arm of the match has: what closes it does not stand there
pub opens_as : {text : List ℕ} {k j : declared.Bracket} {at inner : ℕ} {r : Rule Name} → k ≡ j → at < length text →
    begins (first ahead (list_of (bracket_of k))) (drop at text) ≡ true → ReadsTo ws text (at + 1) inner →
    r ≡ one (close_of (bracket_of k)) → false ≡ begins (first ahead r) (drop inner text) → Opens (bracket_of j) text at inner
opens_as {text} {k} {at = at} {inner = inner} {r = r} e lt o x closes is =
    let some = skip.close_sees text [] k r inner false closes (sym is) in
    subst (λ z. Opens (bracket_of z) text at inner) e (record { bound = lt; opens = o; blanks = x; some = some })

-- the blanks and the rest of a list
rest_of : (b : Bracket) {t u : List ℕ} → Steers predictive.rules ahead (seq ws (more_of b)) t u → (w : List ℕ) × Reads predictive.rules ws t w × Reads predictive.rules (more_of b) w u
rest_of b (on_both {u = w} x y) = (w, reads predictive.rules ahead honest_json x, reads predictive.rules ahead honest_json y)

-- the value after which a list was read on, as the arm of the match has it
pub built_as : {text : List ℕ} {at room name name_end : ℕ} {old new : List Span} {b c : Built} → b ≡ c →
    IsBuilt text at room name name_end old new b → IsBuilt text at room name name_end old new c
built_as {text} {at} {room} {name} {name_end} {old} {new} e x = subst (IsBuilt text at room name name_end old new) e x

-- the same under a name that was read at this place
pub built_at : {text : List ℕ} {at room start next name_end : ℕ} {old new : List Span} {b c : Built} → start ≡ next → b ≡ c →
    IsBuilt text at room start name_end old new b → IsBuilt text at room next name_end old new c
built_at {text} {at} {room} {start} {next} {name_end} {old} {new} {b} same e x =
    built_as e (subst (λ z. IsBuilt text at room z name_end old new b) same x)

-- what follows it, likewise
pub comma_as : (k : Bracket) {text : List ℕ} {at item : ℕ} {m : Next} → m ≡ Item item → IsNext k text at m → IsComma text at item
comma_as k {text} {at} e x = subst (IsNext k text at) e x

pub close_as : {k : Bracket} {text : List ℕ} {at end : ℕ} {m : Next} → m ≡ Closed end → IsNext k text at m → IsClose k text at end
close_as {k} {text} {at} e x = subst (IsNext k text at) e x

pub nothing_before : {text : List ℕ} {next : ℕ} → next ≤ length text → ReadsTo (before_of square) text next next
nothing_before {text} {next} within_ = skip.reach_nothing text next within_

module _ {text : List ℕ} {at inner : ℕ} (o : Opens square text at inner) where
  array_token : Reads predictive.rules (symbol 91) (drop at text) (drop inner text)
  array_token = read_of text (symbol 91) at inner (skip.open_token text [] Square at inner o.bound o.opens o.blanks)

  module _ {room next name name_end : ℕ} {old nodes new : List Span} (l : ContinuesAs text (left_of true []) at (list_left square) next)
      (before : ArrayLeft text room at inner next name name_end old nodes) (within_ : next ≤ length text) where
    pub array_flawed : {f : declared_flaw.Flaw} {end close : ℕ} → IsBuilt text next room 0 0 nodes new (Flawed f end) →
        ReadsTo (seq ws (more_of square)) text end close → IsBuilt text at (room + 1) name name_end old new (Flawed f close)
    array_flawed {f} {end} {close} g m =
        let (w, x, y) = rest_of square m.steers in
        let (ns, more_) = more_elements_of (length text) y (omega (arith, no_longer x, length-drop end text)) in
        let ps = before.items in
        record {
          tree = placed (an_array (then_elements ps (an_element g.tree ns))) at close;
          reads = list.whole_list text square at next l (nothing_before within_) g.reads m;
          value = with_span (array_shape array_token (before.left.whole g.tree (drop end text) w (drop close text) ns g.value x more_)) (begins_at text at (omega (arith, o.bound))) (begins_at text close m.within_text);
          flaw = ap (λ z. flaw_at z at (an_array (then_elements ps (an_element g.tree ns)))) (add-one room) ∙ before.left.flawless (an_element g.tree ns) ∙ members.or_some (flaw_in room g.tree) (flaw_in_elements room ns) (flaw_view f) g.flaw;
          kept = tt;
        }

    module _ {end : ℕ} (g : IsBuilt text next room 0 0 nodes new (Whole end)) where
      array_grown : new ≡ old ++ span name name_end at 0 0 ∷ spans_of (length old + 1) (elements_of (before.items ++ g.tree ∷ []))
      array_grown =
          let k = length old + 1 in
          let ps = before.items in
          grown (span name name_end at 0 0) 0 0 (sizes (elements_of ps)) old nodes new (spans_of k (elements_of ps)) g.tree before.made (length-spans_of k (elements_of ps)) g.kept.0 ∙ ap (λ z. old ++ span name name_end at 0 0 ∷ z) (sym (spans-push k ps g.tree))

      pub array_whole : {last : List Span} {close : ℕ} → IsClose square text end close →
          last ≡ set new (length old) (span name name_end at close (length new)) → IsBuilt text at (room + 1) name name_end old last (Whole close)
      array_whole {last} {close} c is =
          let ps = before.items in
          let qs = ps ++ g.tree ∷ [] in
          let k = length old + 1 in
          let m = list.close_reach c in
          gives_whole (omega (arith, o.bound))
          (list.whole_list text square at next l (nothing_before within_) g.reads m)
          (array_shape array_token (list.elements_close before.left g.value c))
          (ap (λ z. flaw_at z at (an_array (elements_of qs))) (add-one room) ∙ list.elements_flawless before.left g.tree g.flaw)
          (closed (span name name_end at 0 0) name name_end at close (sizes (elements_of qs)) old new last (spans_of k (elements_of qs)) array_grown (length-spans_of k (elements_of qs)) is)
          (closed_small new last (length old) end close (span name name_end at close (length new)) is g.kept.1 m.forward)

      pub array_next : {item : ℕ} → IsComma text end item →
          (item ≤ length text) × ContinuesAs text (left_of true []) at (list_left square) item × ArrayLeft text room at inner item name name_end old new × (next < item)
      array_next {item} c = (
        c.behind.within_text,
        list.item_leads text square at next l (nothing_before within_) g.reads c,
        record {
          items = before.items ++ g.tree ∷ [];
          left = list.elements_next before.left g.value g.flaw c;
          made = array_grown;
        },
        omega (arith, g.reads.forward, list.past_comma c),
      )

or_own : (first_ : Option declared_flaw.Flaw) (f : declared_flaw.Flaw) → or_else (option_map flaw_view first_) (Some (flaw_view f)) ≡ Some (flaw_view (unwrap_or first_ f))
or_own None f = refl
or_own (Some g) f = refl

pub told_as : {x y : Option declared_flaw.Flaw} {told : Option Flaw} → x ≡ y → option_map flaw_view x ≡ told → option_map flaw_view y ≡ told
told_as {told = told} e is = subst (λ z. option_map flaw_view z ≡ told) e is

-- where a member's value begins
pub name_before : {text : List ℕ} {next own_end value_start : ℕ} → ReadsTo (named string) text next own_end → ReadsTo (seq ws (symbol 58)) text own_end value_start →
    ReadsTo (before_of curly) text next value_start
name_before {text} {next} {own_end} {value_start} q c = scan.reach_both text (named string) (seq ws (symbol 58)) next own_end value_start q c

-- a turn of building an object: the members so far, and the name, the colon and the value that it read
pub record ObjectTurn (text : List ℕ) (room at inner next name name_end : ℕ) (old new : List Span) (outer more : List NameSpan) (b : Built) : Type 0 where
  pub nodes : List Span
  pub names : List NameSpan
  pub opens : Opens curly text at inner
  pub leads : ContinuesAs text (left_of true []) at (list_left curly) next
  pub before : ObjectLeft text room at inner next name name_end old nodes outer names
  pub within_text : next ≤ length text
  pub n : NameSpan
  pub value_start : ℕ
  pub own : Named text next n
  pub reads : ReadsTo (named string) text next n.end
  pub colon : ReadsTo (seq ws (symbol 58)) text n.end value_start
  pub built : IsBuilt text value_start room next n.end nodes new b
  pub pushed : more ≡ names ++ n ∷ []

module _ {text : List ℕ} {room at inner next name name_end : ℕ} {old new : List Span} {outer more : List NameSpan} {b : Built}
    (r : ObjectTurn text room at inner next name name_end old new outer more b) where
  abbrev pub entry_of : Entry
  entry_of = record { name = r.own.name; start = next; end = r.n.end; value = r.built.tree }

  -- the members, with the one that was read
  abbrev pub fields_of : List Entry
  fields_of = r.before.fields ++ entry_of ∷ []

  names_are : AreNamesOf text (r.before.own ++ r.n ∷ []) fields_of
  names_are = are_push text r.before.own r.before.fields r.n entry_of r.before.are (r.own.is r.built.tree)

  -- their names stand after those of the lists around the object
  pub names_read : {base : ℕ} → base ≡ length outer → AreNamesOf text (drop base more) fields_of
  names_read {base} is = subst (λ z. AreNamesOf text z fields_of) (sym (own_behind outer r.before.own r.names more r.n base r.before.behind r.pushed is)) names_are

  pub rest_stops : (e : Stop) → StopsAt (seq ws (more_of curly)) text (end_of_built b) e → StopsAt (named value) text at e
  rest_stops e x = list.bad_rest text curly at next r.leads e (name_before r.reads r.colon) r.built.reads x

  object_token : Reads predictive.rules (symbol 123) (drop at text) (drop inner text)
  object_token = read_of text (symbol 123) at inner (skip.open_token text [] Curly at inner r.opens.bound r.opens.opens r.opens.blanks)

  member_whole : MemberAt (length text) (drop next text) r.own.name next r.n.end r.built.tree (drop (end_of_built b) text)
  member_whole = members.member_of (end_of_built b) r.within_text r.reads.within_text r.own.stands r.colon r.built.value

  -- an object that was read to its end
  object_reads : {close : ℕ} → ReadsTo (seq ws (more_of curly)) text (end_of_built b) close → ReadsTo (named value) text at close
  object_reads x = list.whole_list text curly at next r.leads (name_before r.reads r.colon) r.built.reads x

-- the flaw of the value, or of a name before it, of an object of which no more is kept
pub object_flawed : {text : List ℕ} {room at inner next name name_end end close : ℕ} {old new : List Span} {outer more : List NameSpan} {f : declared_flaw.Flaw} →
    (r : ObjectTurn text room at inner next name name_end old new outer more (Flawed f end)) → (first_ : Option declared_flaw.Flaw) →
    option_map flaw_view first_ ≡ names_flaw [] (fields_of r) → ReadsTo (seq ws (more_of curly)) text end close →
    IsBuilt text at (room + 1) name name_end old new (Flawed (unwrap_or first_ f) close)
object_flawed {text} {room} {at} {inner} {next} {end = end} {close = close} {f = f} r first_ told left =
    let s = r.own.name in
    let (w, y, z) = rest_of curly left.steers in
    let (ms, more_) = more_members_of (length text) z (omega (arith, no_longer y, length-drop end text)) in
    let all = then_members r.before.fields (a_member s next r.n.end r.built.tree ms) in
    record {
      tree = placed (an_object all) at close;
      reads = object_reads r left;
      value = with_span (object_shape (object_token r) (r.before.left.whole s next r.n.end r.built.tree (drop end text) w (drop close text) ms (member_whole r) y more_))
          (begins_at text at (omega (arith, r.opens.bound))) (begins_at text close left.within_text);
      flaw = ap (λ i. flaw_at i at (an_object all)) (add-one room)
          ∙ members.members_flawed r.before.left (entry_of r) ms (flaw_view f) r.built.flaw
          ∙ ap (λ z. or_else z (Some (flaw_view f))) (sym told) ∙ or_own first_ f;
      kept = tt;
    }

-- an object whose values have no flaw
module _ {text : List ℕ} {room at inner next name name_end : ℕ} {old new : List Span} {outer more : List NameSpan} {end : ℕ}
    (r : ObjectTurn text room at inner next name name_end old new outer more (Whole end)) where
  object_there : {close : ℕ} → IsClose curly text end close → Shape (length text) (drop at text) (an_object (members_of (fields_of r))) (drop close text)
  object_there i = object_shape (object_token r) (members.members_close r.before.left (entry_of r) (member_whole r) i)

  object_flaw : {told : Option Flaw} → told ≡ names_flaw [] (fields_of r) → flaw_at (room + 1) at (an_object (members_of (fields_of r))) ≡ told
  object_flaw is =
      ap (λ z. flaw_at z at (an_object (members_of (fields_of r)))) (add-one room)
      ∙ members.members_flaw r.before.left (entry_of r) r.built.flaw ∙ sym is

  object_grown : new ≡ old ++ span name name_end at 0 0 ∷ member_spans (length old + 1) (members_of (fields_of r))
  object_grown =
      let k = length old + 1 in
      let es = r.before.fields in
      let there = member_spans k (members_of es) in
      grown (span name name_end at 0 0) next r.n.end (member_sizes (members_of es)) old r.nodes new there r.built.tree r.before.made (length-member_spans k (members_of es)) r.built.kept.0
      ∙ ap (λ z. old ++ span name name_end at 0 0 ∷ z) (sym (member_spans-push k es (entry_of r)))

  pub object_whole : {last : List Span} {close : ℕ} → IsClose curly text end close → None ≡ names_flaw [] (fields_of r) →
      last ≡ set new (length old) (span name name_end at close (length new)) → IsBuilt text at (room + 1) name name_end old last (Whole close)
  object_whole {last} {close} i told is =
      let ms = members_of (fields_of r) in
      let k = length old + 1 in
      let left = list.close_reach i in
      gives_whole (omega (arith, r.opens.bound)) (object_reads r left) (object_there i) (object_flaw told)
      (closed (span name name_end at 0 0) name name_end at close (member_sizes ms) old new last (member_spans k ms) object_grown (length-member_spans k ms) is)
      (closed_small new last (length old) end close (span name name_end at close (length new)) is r.built.kept.1 left.forward)

  -- a name that repeats another, in an object that was read to its end
  pub object_again : {f : declared_flaw.Flaw} {close : ℕ} {last : List Span} → IsClose curly text end close → Some (flaw_view f) ≡ names_flaw [] (fields_of r) →
      IsBuilt text at (room + 1) name name_end old last (Flawed f close)
  object_again {f} {close} i told =
      let x = object_reads r (list.close_reach i) in
      record {
        tree = placed (an_object (members_of (fields_of r))) at close;
        reads = x;
        value = with_span (object_there i) (begins_at text at (omega (arith, r.opens.bound))) (begins_at text close x.within_text);
        flaw = object_flaw told;
        kept = tt;
      }

  pub object_next : {item : ℕ} → IsComma text end item →
      (item ≤ length text) × ContinuesAs text (left_of true []) at (list_left curly) item × ObjectLeft text room at inner item name name_end old new outer more × (next < item)
  object_next {item} i = (
    i.behind.within_text,
    list.item_leads text curly at next r.leads (name_before r.reads r.colon) r.built.reads i,
    record {
      fields = fields_of r;
      left = members.members_next r.before.left (entry_of r) (member_whole r) r.built.flaw i;
      made = object_grown;
      own = r.before.own ++ r.n ∷ [];
      behind = r.pushed ∙ ap (λ z. z ++ r.n ∷ []) r.before.behind ∙ append_assoc outer r.before.own (r.n ∷ []);
      are = names_are r;
    },
    omega (arith, r.reads.forward, r.colon.forward, r.built.reads.forward, list.past_comma i),
  )
