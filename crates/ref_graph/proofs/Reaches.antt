-- What is marked so far, and what waits to be looked at.
use Rattle.std.proofs.Common.{◌≡◌, ℕ, zero, suc, ◌<◌, Bool, true, false, not, ◌||◌, ◌&&◌, List, [], ◌∷◌, ◌++◌, ◌⊎◌, inl, inr, refl, sym, ap, ◌∙◌, subst, length, All, Contains, get_or, nat_eq, replicate, arith}
use Rattle.std.specs.Cmp.{IsEquivalence}
use Rattle.std.proofs.lemmas.Bool.{cases_eq, cases_lt, eqb-true}
use Rattle.std.proofs.lemmas.List.{get_or_past}
use Rattle.std.proofs.lemmas.List.Folds.{list_any-append, list_any_at}
use Rattle.std.proofs.lemmas.Map.Views.{list_any-from_Contains, Contains-from_any}
use Rattle.ref_graph.specs.Edges.{is_in}
use Rattle.ref_graph.specs.inner.Marking.{is_marked, Marking}
use Rattle.ref_graph.specs.Walk.{targets_of, Walk, stays, goes, WalksTo}
use Rattle.ref_graph.proofs.Sets.{neq, eq_self}

either : (a b : Bool) → (a || b) ≡ true → (a ≡ true) ⊎ (b ≡ true)
either true b e = inl refl
either false b e = inr e

left_true : (a b : Bool) → (a && b) ≡ true → a ≡ true
left_true true b e = refl
left_true false b e = e

or_true : (a b : Bool) → b ≡ true → (a || b) ≡ true
or_true true b e = refl
or_true false b e = e

true_or : (a b : Bool) → a ≡ true → (a || b) ≡ true
true_or true b e = refl
true_or false b e = absurd (cc)

-- what is marked now but doesn't wait had its mark before
had_mark : (r n o : Bool) → n ≡ true → (r || (n && not o)) ≡ false → o ≡ true
had_mark true n o m e = absurd (cc)
had_mark false true true m e = refl
had_mark false true false m e = absurd (cc)
had_mark false false o m e = absurd (cc)

left_false : (a b : Bool) → (a || b) ≡ false → a ≡ false
left_false true b e = e
left_false false b e = refl

same_number : (x y : ℕ) → nat_eq x y ≡ true → x ≡ y
same_number x y e = eqb-true x y e

number_equiv : IsEquivalence nat_eq
number_equiv = record {
  refl = eq_self;
  symm = λ x y. elim (cases_eq x y) [ inl p ↦ subst (λ (z : ℕ). nat_eq x z ≡ nat_eq z x) p refl | inr q ↦ neq x y q ∙ sym (neq y x (λ p. q (sym p))) ];
  congr = λ x y z e. ap (λ (u : ℕ). nat_eq u z) (same_number x y e);
}

pub is_in_from : (xs : List ℕ) (x : ℕ) → Contains xs x → is_in xs x ≡ true
is_in_from xs x h = list_any-from_Contains number_equiv x xs h

pub contains_from : (xs : List ℕ) (x : ℕ) → is_in xs x ≡ true → Contains xs x
contains_from xs x e = Contains-from_any same_number x xs e

last_in : (xs : List ℕ) (x : ℕ) → is_in (xs ++ x ∷ []) x ≡ true
last_in xs x = list_any-append (nat_eq x) xs (x ∷ []) ∙ or_true (is_in xs x) (nat_eq x x || false) (true_or (nat_eq x x) false (eq_self x))

front_in : (xs : List ℕ) (x y : ℕ) → is_in xs y ≡ true → is_in (xs ++ x ∷ []) y ≡ true
front_in xs x y e = list_any-append (nat_eq y) xs (x ∷ []) ∙ true_or (is_in xs y) (nat_eq y x || false) e

not_last : (xs : List ℕ) (x y : ℕ) → is_in xs y ≡ false → (y ≡ x → ⊥) → is_in (xs ++ x ∷ []) y ≡ false
not_last xs x y e q = list_any-append (nat_eq y) xs (x ∷ []) ∙ (ap (λ (b : Bool). b || (nat_eq y x || false)) e ∙ ap (λ (b : Bool). false || (b || false)) (neq y x q))

no_marks : (n v : ℕ) → is_marked (replicate n false) v ≡ false
no_marks zero v = refl
no_marks (suc n) zero = refl
no_marks (suc n) (suc v) = no_marks n v

marked_within : (marks : List Bool) (v : ℕ) → is_marked marks v ≡ true → v < length marks
marked_within marks v e = elim (cases_lt v (length marks)) [ inl h ↦ h | inr h ↦ absurd (let f : false ≡ true = sym (get_or_past marks v false h) ∙ e in cc) ]

-- Each node with a mark leads to a changed one, and where it doesn't wait, each node with an edge to it has a mark.
pub record Reaching (edges : List (List ℕ)) (changed : List ℕ) (marks : List Bool) (waiting : List ℕ) : Type 0 where
  pub long : length marks ≡ length edges
  pub base : (v : ℕ) → is_in changed v ≡ true → is_marked marks v ≡ true
  pub sound : (v : ℕ) → is_marked marks v ≡ true → WalksTo edges changed v
  pub waits : (v : ℕ) → is_in waiting v ≡ true → is_marked marks v ≡ true
  pub closed : (w v : ℕ) → is_marked marks w ≡ true → is_in waiting w ≡ false → is_in (targets_of edges v) w ≡ true → is_marked marks v ≡ true

-- The nodes are those from which a walk leads to a changed one.
pub record Reached (edges : List (List ℕ)) (changed nodes : List ℕ) : Type 0 where
  pub found : (v : ℕ) → WalksTo edges changed v → Contains nodes v
  pub only : (v : ℕ) → Contains nodes v → WalksTo edges changed v
  pub within : All (λ v. v < length edges) nodes

no_nodes : (xs : List ℕ) → length xs ≡ 0 → xs ≡ []
no_nodes [] e = refl
no_nodes (x ∷ xs) e = absurd (omega arith)

module _ {edges : List (List ℕ)} {changed : List ℕ} where
  pub start : {old marks : List Bool} {none waiting : List ℕ} → old ≡ replicate (length edges) false → length old ≡ length edges
      → none ≡ [] → Marking changed old none marks waiting → Reaching edges changed marks waiting
  start {old = old} {marks = marks} {waiting = waiting} e l nothing marking =
      let m = subst (λ (w : List ℕ). Marking changed old w marks waiting) nothing marking in
      let none : (v : ℕ) → is_marked old v ≡ false = λ v. ap (λ (ms : List Bool). is_marked ms v) e ∙ no_marks (length edges) v in
      let marked : (v : ℕ) → is_marked marks v ≡ is_in changed v = λ v. m.marked v ∙ ap (λ (b : Bool). b || is_in changed v) (none v) in
      record {
        long = m.long ∙ l;
        base = λ v i. marked v ∙ i;
        sound = λ v k. (v, contains_from changed v (sym (marked v) ∙ k), stays);
        waits = λ v i. left_true (is_marked marks v) (not (is_marked old v)) (sym (m.waiting v) ∙ i);
        closed = λ w v k n i. absurd (let f : true ≡ false = sym (had_mark false (is_marked marks w) (is_marked old w) k (sym (m.waiting w) ∙ n)) ∙ none w in cc);
      }

  pub in_graph : {marks : List Bool} {waiting : List ℕ} {node : ℕ} (rest : List ℕ) → waiting ≡ rest ++ node ∷ []
      → Reaching edges changed marks waiting → node < length edges
  in_graph {marks = marks} {node = node} rest popped r =
      let mark = r.waits node (ap (λ ns. is_in ns node) popped ∙ last_in rest node) in
      omega (arith, marked_within marks node mark, r.long)

  -- one node that waited is looked at
  pub advance : {marks marks' : List Bool} {before rest waiting keys : List ℕ} (node : ℕ) → before ≡ rest ++ node ∷ []
      → Reaching edges changed marks before → ((v : ℕ) → is_in keys v ≡ is_in (targets_of edges v) node)
      → Marking keys marks rest marks' waiting → Reaching edges changed marks' waiting
  advance {marks = marks} {marks' = marks'} {rest = rest} {keys = keys} node popped reaching source m =
      let r = subst (Reaching edges changed marks) popped reaching in
      let kept : (v : ℕ) → is_marked marks v ≡ true → is_marked marks' v ≡ true = λ v e. m.marked v ∙ true_or (is_marked marks v) (is_in keys v) e in
      let added : (v : ℕ) → is_in (targets_of edges v) node ≡ true → is_marked marks' v ≡ true = λ v e. m.marked v ∙ or_true (is_marked marks v) (is_in keys v) (source v ∙ e) in
      let at_node : WalksTo edges changed node = r.sound node (r.waits node (last_in rest node)) in
      record {
        long = m.long ∙ r.long;
        base = λ v i. kept v (r.base v i);
        sound = λ v e. elim (either (is_marked marks v) (is_in keys v) (sym (m.marked v) ∙ e)) [
          | inl f ↦ r.sound v f
          | inr f ↦ (at_node.0, at_node.1, goes (contains_from (targets_of edges v) node (sym (source v) ∙ f)) at_node.2)
        ];
        waits = λ v i. elim (either (is_in rest v) (is_marked marks' v && not (is_marked marks v)) (sym (m.waiting v) ∙ i)) [
          | inl f ↦ kept v (r.waits v (front_in rest node v f))
          | inr f ↦ left_true (is_marked marks' v) (not (is_marked marks v)) f
        ];
        closed = λ w v k n i. elim (cases_eq w node) [
          | inl p ↦ added v (subst (λ (x : ℕ). is_in (targets_of edges v) x ≡ true) p i)
          | inr q ↦ kept v (r.closed w v
              (had_mark (is_in rest w) (is_marked marks' w) (is_marked marks w) k (sym (m.waiting w) ∙ n))
              (not_last rest node w (left_false (is_in rest w) (is_marked marks' w && not (is_marked marks w)) (sym (m.waiting w) ∙ n)) q) i)
        ];
      }

  -- Nothing waits: each node that leads to a changed one has a mark.
  walked : (marks : List Bool) → Reaching edges changed marks [] → (v u : ℕ) → Contains changed u → Walk edges v u → is_marked marks v ≡ true
  walked marks r v u c stays = r.base v (is_in_from changed v c)
  walked marks r v u c (goes {w = w} i walk) = r.closed w v (walked marks r w u c walk) refl (is_in_from (targets_of edges v) w i)

  pub reached : {marks seen : List Bool} {waiting : List ℕ} → Reaching edges changed marks waiting → length waiting ≡ 0 → seen ≡ marks
      → (nodes : List ℕ) → ((v : ℕ) → is_in nodes v ≡ is_marked seen v) → Reached edges changed nodes
  reached {marks = marks} {waiting = waiting} going none all nodes listed =
      let r = subst (Reaching edges changed marks) (no_nodes waiting none) going in
      let same : (v : ℕ) → is_in nodes v ≡ is_marked marks v = λ v. listed v ∙ ap (λ ms. is_marked ms v) all in
      record {
        found = λ v l. contains_from nodes v (same v ∙ walked marks r v l.0 l.1 l.2);
        only = λ v c. r.sound v (sym (same v) ∙ is_in_from nodes v c);
        within = λ k d h.
            (let v = get_or nodes k d in
            omega (arith, r.long, marked_within marks v (sym (same v) ∙ list_any_at (nat_eq v) nodes k d h (eq_self v))));
      }
