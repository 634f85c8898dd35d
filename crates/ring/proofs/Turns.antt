use Rattle.std.specs.Option.{IsSomeAnd}
use Rattle.std.proofs.Common.{Option, Some, None, ◌≡◌, ℕ, zero, suc, ◌+◌, ◌<◌, ◌≤◌, List, [], ◌∷◌, ◌++◌, refl, sym, ap, ◌∙◌, subst, length, length-set, get_or, set, arith, All}
use Rattle.std.proofs.lemmas.List.Elements.{All-get_or}
use Rattle.std.specs.declared.vec.Vec.{Vec}
use Rattle.std.specs.declared.alloc.Global.{Global}
use Rattle.ring.specs.Graph.{needs_in, IsGraph}
use Rattle.ring.specs.declared.search.Frame.{Frame}
use Rattle.ring.specs.declared.search.Mark.{Mark}
use Rattle.ring.specs.declared.search.Mark.TheVariants.{New, Open, Done}
use Rattle.ring.specs.Routes.{IsRing}
use Rattle.ring.specs.inner.Stack.{nodes, IsEndFrom, LooksAt}
use Rattle.ring.proofs.Searches.{At, at_get_or, Searching, advance, enter, leave, found, ring_within, top_open, top_within}
use Rattle.ring.proofs.Work.{weight, new_work, left_work, left_append, work_set}

-- the row that was read is the node's needs
pub row_read : (graph : List (Vec ℕ Global)) (v : ℕ) (row : Vec ℕ Global) → v < length graph → row ≡ get_or graph v row → needs_in graph v ≡ row.items
row_read [] v row h e = absurd (omega arith)
row_read (r ∷ rows) zero row h e = ap (λ (w : Vec ℕ Global). w.items) (sym e)
row_read (r ∷ rows) (suc v) row h e = row_read rows v row (omega arith) e

-- the need that was read
pub need_read : (graph : List (Vec ℕ Global)) (v k w : ℕ) (row : Vec ℕ Global) → v < length graph → row ≡ get_or graph v row
    → k < length row.items → w ≡ get_or row.items k w → At k (needs_in graph v) w
need_read graph v k w row h e less f =
    subst (λ (xs : List ℕ). At k xs w) (sym (row_read graph v row h e)) (subst (At k row.items) (sym f) (at_get_or k row.items w less))

pub need_within : (graph : List (Vec ℕ Global)) (v k w : ℕ) (row : Vec ℕ Global) → IsGraph graph → v < length graph → row ≡ get_or graph v row
    → k < length row.items → w ≡ get_or row.items k w → w < length graph
need_within graph v k w row g h e less f =
    let P : Vec ℕ Global → Type 0 = λ r. All (λ x. x < length graph) r.items in
    let in_row : All (λ x. x < length graph) row.items = subst P (sym e) (All-get_or P graph v row h g) in
    let B : ℕ → Type 0 = λ x. x < length graph in
    subst B (sym f) (All-get_or B row.items k w less in_row)

module _ (graph : List (Vec ℕ Global)) (ms : List Mark) (rest : List Frame) (top : Frame) where
  -- the work falls at each turn
  pub advance_less : top.next < length (needs_in graph top.node) →
      new_work graph ms + left_work graph (rest ++ (record { node = top.node; next = top.next + 1 }) ∷ []) < new_work graph ms + left_work graph (rest ++ top ∷ [])
  advance_less h = omega (arith, left_append graph rest ((record { node = top.node; next = top.next + 1 }) ∷ []), left_append graph rest (top ∷ []))

  pub enter_less : (w : ℕ) → length ms ≡ length graph → w < length ms → get_or ms w New ≡ New →
      new_work graph (set ms w Open) + left_work graph ((rest ++ top ∷ []) ++ (record { node = w; next = 0 }) ∷ []) < new_work graph ms + left_work graph (rest ++ top ∷ [])
  enter_less w e h n =
      let all = left_append graph (rest ++ top ∷ []) ((record { node = w; next = 0 }) ∷ []) in
      let moved : new_work graph (set ms w Open) + (length (needs_in graph w) + 2) ≡ new_work graph ms + 0 =
      subst (λ (m : Mark). new_work graph (set ms w Open) + weight m (length (needs_in graph w)) ≡ new_work graph ms + 0) n (work_set graph ms w Open e h) in
      omega arith

  pub leave_less : length ms ≡ length graph → top.node < length ms → get_or ms top.node New ≡ Open →
      new_work graph (set ms top.node Done) + left_work graph rest < new_work graph ms + left_work graph (rest ++ top ∷ [])
  leave_less e h n =
      let all = left_append graph rest (top ∷ []) in
      let moved : new_work graph (set ms top.node Done) + 0 ≡ new_work graph ms + 0 =
      subst (λ (m : Mark). new_work graph (set ms top.node Done) + weight m (length (needs_in graph top.node)) ≡ new_work graph ms + 0) n (work_set graph ms top.node Done e h) in
      omega arith

untold : {R : Type 0} (P : Vec ℕ Global → Type 0) (told : Option (Vec ℕ Global)) → ((ring : Vec ℕ Global) → told ≡ Some ring → ⊥) → IsSomeAnd told P → R
untold P None none k = absurd k
untold P (Some ring) none k = absurd (none ring refl)

-- a ring is told of an open need alone
ring_from : (marks : List Mark) (rest : List Frame) (top : Frame) (w : ℕ) (told : Option (Vec ℕ Global)) (marks' : List Mark) (stack' : List Frame) (ring : Vec ℕ Global) (m : Mark)
    → LooksAt m marks rest top w told marks' stack' → told ≡ Some ring → (m ≡ Open) × IsEndFrom w (nodes (rest ++ top ∷ [])) ring.items
ring_from marks rest top w told marks' stack' ring Done k some = let none = k.0 in absurd (cc)
ring_from marks rest top w told marks' stack' ring New k some = let none = k.0 in absurd (cc)
ring_from marks rest top w told marks' stack' ring Open k some =
    (refl, subst (λ (t : Option (Vec ℕ Global)). IsSomeAnd t (λ r. IsEndFrom w (nodes (rest ++ top ∷ [])) r.items)) some k)

-- what holds before each turn
abbrev pub Turn : List (Vec ℕ Global) → ℕ → List Mark → List Frame → List ℕ → Type 0
Turn graph root ms stack order = record {
  marks : length ms ≡ length graph;
  search : Searching (needs_in graph) root ms stack order;
}

-- what is known once a frame is popped
pub record Popped (graph : List (Vec ℕ Global)) (root : ℕ) (marks : List Mark) (stack rest : List Frame) (top : Frame) (order : List ℕ) : Type 0 where
  pub size : length marks ≡ length graph
  pub search : Searching (needs_in graph) root marks stack order
  pub popped : stack ≡ rest ++ top ∷ []

-- what is known once a need is looked at
pub record Looked (graph : List (Vec ℕ Global)) (root : ℕ) (marks : List Mark) (stack rest : List Frame) (top : Frame) (order : List ℕ) (row : Vec ℕ Global) (w : ℕ) : Type 0 where
  pub before : Popped graph root marks stack rest top order
  pub needs : IsGraph graph
  pub read : row ≡ get_or graph top.node row
  pub within : top.next < length row.items
  pub need : w ≡ get_or row.items top.next w

module _ {graph : List (Vec ℕ Global)} {root : ℕ} {marks : List Mark} {stack rest : List Frame} {top : Frame} {order : List ℕ} where
  pub once_popped : Turn graph root marks stack order → stack ≡ rest ++ top ∷ [] → Popped graph root marks stack rest top order
  once_popped turn popped = record { size = turn.marks; search = turn.search; popped = popped }

  searching : Popped graph root marks stack rest top order → Searching (needs_in graph) root marks (rest ++ top ∷ []) order
  searching p = subst (λ (fs : List Frame). Searching (needs_in graph) root marks fs order) p.popped p.search

  pub top_marked : Popped graph root marks stack rest top order → top.node < length marks
  top_marked p = top_within (needs_in graph) root marks rest top order (searching p)

  pub top_in : Popped graph root marks stack rest top order → top.node < length graph
  top_in p = omega (arith, top_marked p, p.size)

  pub left_after : {row : Vec ℕ Global} {order' : List ℕ} → Popped graph root marks stack rest top order
      → row ≡ get_or graph top.node row → length row.items ≤ top.next → order' ≡ order ++ top.node ∷ []
      → Turn graph root (set marks top.node Done) rest order'
  left_after {row = row} p e over made =
      let all_seen = subst (λ (xs : List ℕ). length xs ≤ top.next) (sym (row_read graph top.node row (top_in p) e)) over in
      let left = leave (needs_in graph) root marks rest top order (searching p) all_seen in
      record {
        marks = length-set marks top.node Done ∙ p.size;
        search = subst (Searching (needs_in graph) root (set marks top.node Done) rest) (sym made) left;
      }

  pub left_less : Popped graph root marks stack rest top order
      → new_work graph (set marks top.node Done) + left_work graph rest < new_work graph marks + left_work graph stack
  left_less p =
      let b = ap (left_work graph) p.popped in
      let open_top = top_open (needs_in graph) root marks rest top order (searching p) in
      let h = leave_less graph marks rest top p.size (top_marked p) open_top in omega arith

module _ {graph : List (Vec ℕ Global)} {root : ℕ} {marks : List Mark} {stack rest : List Frame} {top : Frame} {order : List ℕ} {row : Vec ℕ Global} {w : ℕ} where
  pub once_looked : Popped graph root marks stack rest top order → IsGraph graph → row ≡ get_or graph top.node row
      → top.next < length row.items → w ≡ get_or row.items top.next w → Looked graph root marks stack rest top order row w
  once_looked p needs read within need = record { before = p; needs = needs; read = read; within = within; need = need }

  at : Looked graph root marks stack rest top order row w → At top.next (needs_in graph top.node) w
  at l = need_read graph top.node top.next w row (top_in l.before) l.read l.within l.need

  pub in_marks : Looked graph root marks stack rest top order row w → w < length marks
  in_marks l =
      let h = need_within graph top.node top.next w row l.needs (top_in l.before) l.read l.within l.need in
      omega (arith, (l.before).size)

  next_in : Looked graph root marks stack rest top order row w → top.next < length (needs_in graph top.node)
  next_in l =
      subst (λ (xs : List ℕ). top.next < length xs) (sym (row_read graph top.node row (top_in l.before) l.read)) l.within

  -- what a need that closes no ring leaves
  pub turned : (told : Option (Vec ℕ Global)) (marks' : List Mark) (stack' : List Frame) → Looked graph root marks stack rest top order row w → (m : Mark) → get_or marks w New ≡ m
      → LooksAt m marks rest top w told marks' stack' → ((ring : Vec ℕ Global) → told ≡ Some ring → ⊥)
      → Turn graph root marks' stack' order
  turned told marks' stack' l Done e k none =
      let next = advance (needs_in graph) root marks rest top order w (searching l.before) (at l) e in
      subst (λ (ms : List Mark). Turn graph root ms stack' order) (sym k.1) (record {
        marks = (l.before).size;
        search = subst (λ (fs : List Frame). Searching (needs_in graph) root marks fs order) (sym k.2) next;
      })
  turned told marks' stack' l New e k none =
      let in_it = enter (needs_in graph) root marks rest top order w (searching l.before) (at l) e (in_marks l) in
      subst (λ (ms : List Mark). Turn graph root ms stack' order) (sym k.1) (record {
        marks = length-set marks w Open ∙ (l.before).size;
        search = subst (λ (fs : List Frame). Searching (needs_in graph) root (set marks w Open) fs order) (sym k.2) in_it;
      })
  turned told marks' stack' l Open e k none =
      untold (λ (r : Vec ℕ Global). IsEndFrom w (nodes (rest ++ top ∷ [])) r.items) told none k

  pub turned_less : (told : Option (Vec ℕ Global)) (marks' : List Mark) (stack' : List Frame) → Looked graph root marks stack rest top order row w → (m : Mark) → get_or marks w New ≡ m
      → LooksAt m marks rest top w told marks' stack' → ((ring : Vec ℕ Global) → told ≡ Some ring → ⊥)
      → new_work graph marks' + left_work graph stack' < new_work graph marks + left_work graph stack
  turned_less told marks' stack' l Done e k none =
      let a = ap (left_work graph) k.2 in let m = ap (new_work graph) k.1 in let b = ap (left_work graph) (l.before).popped in
      let h = advance_less graph marks rest top (next_in l) in omega arith
  turned_less told marks' stack' l New e k none =
      let a = ap (left_work graph) k.2 in let m = ap (new_work graph) k.1 in let b = ap (left_work graph) (l.before).popped in
      let h = enter_less graph marks rest top w (l.before).size (in_marks l) e in omega arith
  turned_less told marks' stack' l Open e k none =
      untold (λ (r : Vec ℕ Global). IsEndFrom w (nodes (rest ++ top ∷ [])) r.items) told none k

  -- a need that is open closes a ring
  pub is_ring : (told : Option (Vec ℕ Global)) (marks' : List Mark) (stack' : List Frame) (ring : Vec ℕ Global) → Looked graph root marks stack rest top order row w
      → LooksAt (get_or marks w New) marks rest top w told marks' stack' → told ≡ Some ring → IsRing (needs_in graph) root ring.items
  is_ring told marks' stack' ring l k some =
      let from = ring_from marks rest top w told marks' stack' ring (get_or marks w New) k some in
      found (needs_in graph) root marks rest top order w ring.items (searching l.before) (at l) from.0 from.1

  pub ring_in : (told : Option (Vec ℕ Global)) (marks' : List Mark) (stack' : List Frame) (ring : Vec ℕ Global) → Looked graph root marks stack rest top order row w
      → LooksAt (get_or marks w New) marks rest top w told marks' stack' → told ≡ Some ring → All (λ v. v < length graph) ring.items
  ring_in told marks' stack' ring l k some =
      let from = ring_from marks rest top w told marks' stack' ring (get_or marks w New) k some in
      ring_within (needs_in graph) root marks (length graph) (rest ++ top ∷ []) order w ring.items (l.before).size (searching l.before) from.1

no_frames : (fs : List Frame) → length fs ≡ 0 → fs ≡ []
no_frames [] e = refl
no_frames (f ∷ fs) e = absurd (omega arith)

-- what is known when no frame is left
pub at_end : (graph : List (Vec ℕ Global)) {root : ℕ} {marks : List Mark} {stack : List Frame} {order : List ℕ}
    → Turn graph root marks stack order → length stack ≡ 0 → Searching (needs_in graph) root marks [] order
at_end graph {root = root} {marks = marks} {stack = stack} {order = order} turn none =
    subst (λ (fs : List Frame). Searching (needs_in graph) root marks fs order) (no_frames stack none) turn.search
