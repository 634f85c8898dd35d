use Rattle.std.proofs.Common.{◌≡◌, ◌≢◌, ℕ, zero, suc, ◌+◌, ◌<◌, ◌≤◌, List, [], ◌∷◌, ◌++◌, inl, inr, refl, sym, ap, ◌∙◌, subst, append_assoc, length, get_or, set, arith, get_or-set_same, get_or-set_other, add-one, All}
use Rattle.std.proofs.lemmas.Bool.{cases_eq, cases_lt}
use Rattle.std.proofs.lemmas.List.{get_or_past}
use Rattle.std.proofs.lemmas.List.Elements.{All-nil, All-cons}
use Rattle.ring.specs.Lists.{In, AreApart}
use Rattle.ring.specs.Routes.{Precedes, IsChain, IsRoute, Closes, NotAfter, IsNotAfter, IsFirstClosedRoute, IsRing, HasNoRing, IsReached}
use Rattle.ring.specs.Order.{Follows, IsOrder}
use Rattle.ring.specs.inner.Stack.{nodes, IsEndFrom}
use Rattle.ring.specs.declared.search.Frame.{Frame}
use Rattle.ring.specs.declared.search.Mark.{Mark}
use Rattle.ring.specs.declared.search.Mark.TheVariants.{New, Open, Done}
use Rattle.ring.proofs.ApartLists.{not_again, apart_left, not_closed, apart_push}
use Rattle.ring.proofs.Ends.{in_last, in_left, in_right, in_cases, closed_alive, no_ring, order_ends, follows_push}

-- x is at the place k
abbrev pub At : {N : Type 0} → ℕ → List N → N → Type 0
At zero [] y = ⊥
At zero (x ∷ xs) y = x ≡ y
At (suc k) [] y = ⊥
At (suc k) (x ∷ xs) y = At k xs y

pub at_is_in : {N : Type 0} (k : ℕ) (xs : List N) (y : N) → At k xs y → In y xs
at_is_in zero [] y h = absurd h
at_is_in zero (x ∷ xs) y h = inl (sym h)
at_is_in (suc k) [] y h = absurd h
at_is_in (suc k) (x ∷ xs) y h = inr (at_is_in k xs y h)

pub at_get_or : {N : Type 0} (k : ℕ) (xs : List N) (d : N) → k < length xs → At k xs (get_or xs k d)
at_get_or zero [] d h = absurd (omega arith)
at_get_or zero (x ∷ xs) d h = refl
at_get_or (suc k) [] d h = absurd (omega arith)
at_get_or (suc k) (x ∷ xs) d h = at_get_or k xs d (omega arith)

module _ {N : Type 0} (P : N → Type 0) where
  -- each of the first k of the list is finished
  abbrev pub EndBefore : ℕ → List N → Type 0
  EndBefore zero xs = Unit {0}
  EndBefore (suc k) [] = Unit {0}
  EndBefore (suc k) (x ∷ xs) = P x × EndBefore k xs

  pub end_more : (k : ℕ) (xs : List N) (w : N) → EndBefore k xs → At k xs w → P w → EndBefore (suc k) xs
  end_more zero [] w e h d = tt
  end_more zero (x ∷ xs) w e h d = (subst P (sym h) d, tt)
  end_more (suc k) [] w e h d = tt
  end_more (suc k) (x ∷ xs) w e h d = (e.0, end_more k xs w e.1 h d)

  pub end_all : (k : ℕ) (xs : List N) → EndBefore k xs → length xs ≤ k → (w : N) → In w xs → P w
  end_all k [] e h w i = absurd i
  end_all zero (x ∷ xs) e h w i = absurd (omega arith)
  end_all (suc k) (x ∷ xs) e h w (inl p) = subst P (sym p) e.0
  end_all (suc k) (x ∷ xs) e h w (inr i) = end_all k xs e.1 (omega arith) w i

  -- What is looked at comes before each other that does not end.
  pub precedes : (k : ℕ) (xs : List N) (w y : N) → EndBefore k xs → At k xs w → In y xs → (P y → ⊥) → y ≢ w → Precedes w y xs
  precedes k [] w y e h i alive ne = absurd i
  precedes zero (x ∷ xs) w y e h i alive ne = ((λ p. ne (p ∙ h)), inl (sym h))
  precedes (suc k) (x ∷ xs) w y e h (inl p) alive ne = absurd (alive (subst P (sym p) e.0))
  precedes (suc k) (x ∷ xs) w y e h (inr i) alive ne =
      ((λ p. alive (subst P (sym p) e.0)), inr (precedes k xs w y e.1 h i alive ne))

before_mono : (P Q : ℕ → Type 0) → ((w : ℕ) → P w → Q w) → (k : ℕ) (xs : List ℕ) → EndBefore P k xs → EndBefore Q k xs
before_mono P Q f zero xs e = tt
before_mono P Q f (suc k) [] e = tt
before_mono P Q f (suc k) (x ∷ xs) e = (f x e.0, before_mono P Q f k xs e.1)

nodes_append : (xs ys : List Frame) → nodes (xs ++ ys) ≡ nodes xs ++ nodes ys
nodes_append [] ys = refl
nodes_append (f ∷ fs) ys = ap (λ (vs : List ℕ). f.node ∷ vs) (nodes_append fs ys)

abbrev pub mark : List Mark → ℕ → Mark
mark marks v = get_or marks v New

marked_in : (marks : List Mark) (v : ℕ) → mark marks v ≢ New → v < length marks
marked_in marks v n = elim (cases_lt v (length marks)) [ inl h ↦ h | inr h ↦ absurd (n (get_or_past marks v New h)) ]

module _ (needs : ℕ → List ℕ) (P : ℕ → Type 0) where
  -- each frame looks at the node of the next, and all before it ends
  abbrev pub Trail : List Frame → Type 0
  Trail [] = Unit {0}
  Trail (f ∷ []) = EndBefore P f.next (needs f.node)
  Trail (f ∷ h ∷ fs) = EndBefore P f.next (needs f.node) × At f.next (needs f.node) h.node × Trail (h ∷ fs)

  -- the same, where the last frame looks at a node
  abbrev pub TrailTo : List Frame → ℕ → Type 0
  TrailTo [] w = ⊥
  TrailTo (f ∷ []) w = EndBefore P f.next (needs f.node) × At f.next (needs f.node) w
  TrailTo (f ∷ h ∷ fs) w = EndBefore P f.next (needs f.node) × At f.next (needs f.node) h.node × TrailTo (h ∷ fs) w

  abbrev pub Begins : ℕ → List Frame → Type 0
  Begins root [] = P root
  Begins root (f ∷ fs) = f.node ≡ root

  trail_to : (rest : List Frame) (top : Frame) (w : ℕ) → Trail (rest ++ top ∷ []) → At top.next (needs top.node) w → TrailTo (rest ++ top ∷ []) w
  trail_to [] top w t h = (t, h)
  trail_to (f ∷ []) top w t h = (t.0, t.1, (t.2, h))
  trail_to (f ∷ g ∷ fs) top w t h = (t.0, t.1, trail_to (g ∷ fs) top w t.2 h)

  trail_enter : (frames : List Frame) (w : ℕ) (h : Frame) → TrailTo frames w → h.node ≡ w → h.next ≡ 0 → Trail (frames ++ h ∷ [])
  trail_enter [] w h t e z = absurd t
  trail_enter (f ∷ []) w h t e z = (t.0, subst (At f.next (needs f.node)) (sym e) t.1, subst (λ (k : ℕ). EndBefore P k (needs h.node)) (sym z) tt)
  trail_enter (f ∷ g ∷ fs) w h t e z = (t.0, t.1, trail_enter (g ∷ fs) w h t.2 e z)

  trail_pop : (rest : List Frame) (top : Frame) → Trail (rest ++ top ∷ []) → Trail rest
  trail_pop [] top t = tt
  trail_pop (f ∷ []) top t = t.0
  trail_pop (f ∷ g ∷ fs) top t = (t.0, t.1, trail_pop (g ∷ fs) top t.2)

  trail_top : (rest : List Frame) (top : Frame) → Trail (rest ++ top ∷ []) → EndBefore P top.next (needs top.node)
  trail_top [] top t = t
  trail_top (f ∷ []) top t = t.2
  trail_top (f ∷ g ∷ fs) top t = trail_top (g ∷ fs) top t.2

  -- another top of the same node
  trail_retop : (rest : List Frame) (top new : Frame) → Trail (rest ++ top ∷ []) → new.node ≡ top.node → EndBefore P new.next (needs new.node) → Trail (rest ++ new ∷ [])
  trail_retop [] top new t e b = b
  trail_retop (f ∷ []) top new t e b = (t.0, subst (At f.next (needs f.node)) (sym e) t.1, b)
  trail_retop (f ∷ g ∷ fs) top new t e b = (t.0, t.1, trail_retop (g ∷ fs) top new t.2 e b)

  -- The route that the frames make
  trail_leads : (f : Frame) (fs : List Frame) (w : ℕ) → TrailTo (f ∷ fs) w → IsChain needs f.node (nodes fs ++ w ∷ [])
  trail_leads f [] w t = (at_is_in f.next (needs f.node) w t.1, tt)
  trail_leads f (g ∷ fs) w t = (at_is_in f.next (needs f.node) g.node t.1, trail_leads g fs w t.2)

  -- The route that the frames are
  trail_route : (f : Frame) (fs : List Frame) → Trail (f ∷ fs) → IsChain needs f.node (nodes fs)
  trail_route f [] t = tt
  trail_route f (g ∷ fs) t = (at_is_in f.next (needs f.node) g.node t.1, trail_route g fs t.2)

  -- Where another closed route parts from the trail, it comes later.
  not_after : (f : Frame) (fs : List Frame) (w : ℕ) → TrailTo (f ∷ fs) w →
      (seen : List ℕ) → AreApart (seen ++ f.node ∷ nodes fs) →
      (ys : List ℕ) → Closes (seen ++ f.node ∷ ys) → IsChain needs f.node ys → ((y : ℕ) → In y ys → P y → ⊥) →
      NotAfter needs f.node (nodes fs ++ w ∷ []) ys
  not_after f fs w t seen a [] c l alive =
      absurd (not_closed (seen ++ f.node ∷ []) (nodes fs) (subst AreApart (sym (append_assoc seen (f.node ∷ []) (nodes fs))) a) c)
  not_after f [] w t seen a (y ∷ ys) c l alive =
      elim (cases_eq w y) [
        | inl p ↦ inr (p, tt)
        | inr n ↦ inl (precedes P f.next (needs f.node) w y t.0 t.1 l.0 (alive y (inl refl)) (λ p. n (sym p)))
      ]
  not_after f (g ∷ fs) w t seen a (y ∷ ys) c l alive =
      elim (cases_eq g.node y) [
        | inl p ↦ inr (
          p,
          subst (λ (z : ℕ). NotAfter needs z (nodes fs ++ w ∷ []) ys) p
              (not_after g fs w t.2 (seen ++ f.node ∷ [])
              (subst AreApart (sym (append_assoc seen (f.node ∷ []) (g.node ∷ nodes fs))) a) ys
              (subst Closes (ap (λ (z : ℕ). seen ++ f.node ∷ (z ∷ ys)) (sym p) ∙ sym (append_assoc seen (f.node ∷ []) (g.node ∷ ys))) c)
              (subst (λ (z : ℕ). IsChain needs z ys) (sym p) l.1)
              (λ z i. alive z (inr i))),
        )
        | inr n ↦ inl (precedes P f.next (needs f.node) g.node y t.0 t.1 l.0 (alive y (inl refl)) (λ p. n (sym p)))
      ]

  begins_retop : (root : ℕ) (rest : List Frame) (top new : Frame) → new.node ≡ top.node → Begins root (rest ++ top ∷ []) → Begins root (rest ++ new ∷ [])
  begins_retop root [] top new e b = e ∙ b
  begins_retop root (f ∷ fs) top new e b = b

  begins_push : (root : ℕ) (rest : List Frame) (top new : Frame) → Begins root (rest ++ top ∷ []) → Begins root ((rest ++ top ∷ []) ++ new ∷ [])
  begins_push root [] top new b = b
  begins_push root (f ∷ fs) top new b = b

  begins_pop : (root : ℕ) (rest : List Frame) (top : Frame) → P top.node → Begins root (rest ++ top ∷ []) → Begins root rest
  begins_pop root [] top e b = subst P b e
  begins_pop root (f ∷ fs) top e b = b

  -- a route comes to the top
  top_reached : (root : ℕ) (rest : List Frame) (top : Frame) → Trail (rest ++ top ∷ []) → Begins root (rest ++ top ∷ []) → IsReached needs root top.node
  top_reached root [] top t b = record { before = []; steps = (b, tt) }
  top_reached root (f ∷ fs) top t b = record {
    before = f.node ∷ nodes fs;
    steps = (b, subst (IsChain needs f.node) (nodes_append fs (top ∷ [])) (trail_route f (fs ++ top ∷ []) t));
  }

-- what is finished stays so
trail_mono : (needs : ℕ → List ℕ) (P Q : ℕ → Type 0) → ((w : ℕ) → P w → Q w) → (frames : List Frame) → Trail needs P frames → Trail needs Q frames
trail_mono needs P Q f [] t = tt
trail_mono needs P Q f (g ∷ []) t = before_mono P Q f g.next (needs g.node) t
trail_mono needs P Q f (g ∷ h ∷ fs) t = (before_mono P Q f g.next (needs g.node) t.0, t.1, trail_mono needs P Q f (h ∷ fs) t.2)

module _ (needs : ℕ → List ℕ) where
  -- The search is where the frames say: nothing that the marks call done is on a ring.
  pub record Searching (root : ℕ) (marks : List Mark) (frames : List Frame) (order : List ℕ) : Type 0 where
    pub trail : Trail needs (λ w. In w order) frames
    pub begins : Begins needs (λ w. In w order) root frames
    pub apart : AreApart (nodes frames)
    pub standing : (v : ℕ) → In v (nodes frames) → mark marks v ≡ Open
    pub stands : (v : ℕ) → mark marks v ≡ Open → In v (nodes frames)
    pub done : (v : ℕ) → mark marks v ≡ Done → In v order
    pub finished : (v : ℕ) → In v order → mark marks v ≡ Done
    pub follows : Follows needs [] order
    pub once : AreApart order
    pub reached : (v : ℕ) → In v order → IsReached needs root v

  -- What is looked at is done: the place after it is next.
  pub advance : (root : ℕ) (marks : List Mark) (rest : List Frame) (top : Frame) (order : List ℕ) (w : ℕ) → Searching root marks (rest ++ top ∷ []) order → At top.next (needs top.node) w → mark marks w ≡ Done → Searching root marks (rest ++ (record { node = top.node; next = top.next + 1 }) ∷ []) order
  advance root marks rest top order w s at d =
      let P : ℕ → Type 0 = λ v. In v order in
      let new : Frame = record { node = top.node; next = top.next + 1 } in
      let same : nodes (rest ++ top ∷ []) ≡ nodes (rest ++ new ∷ []) = nodes_append rest (top ∷ []) ∙ sym (nodes_append rest (new ∷ [])) in
      record {
        trail = trail_retop needs P rest top new s.trail refl
            (subst (λ (k : ℕ). EndBefore P k (needs top.node)) (sym (add-one top.next))
            (end_more P top.next (needs top.node) w (trail_top needs P rest top s.trail) at (s.done w d)));
        begins = begins_retop needs P root rest top new refl s.begins;
        apart = subst AreApart same s.apart;
        standing = λ v i. s.standing v (subst (λ (vs : List ℕ). In v vs) (sym same) i);
        stands = λ v e. subst (λ (vs : List ℕ). In v vs) same (s.stands v e);
        done = s.done;
        finished = s.finished;
        follows = s.follows;
        once = s.once;
        reached = s.reached;
      }

  -- What is looked at is new: it is entered.
  pub enter : (root : ℕ) (marks : List Mark) (rest : List Frame) (top : Frame) (order : List ℕ) (w : ℕ) → Searching root marks (rest ++ top ∷ []) order → At top.next (needs top.node) w → mark marks w ≡ New → w < length marks → Searching root (set marks w Open) ((rest ++ top ∷ []) ++ (record { node = w; next = 0 }) ∷ []) order
  enter root marks rest top order w s at n within =
      let P : ℕ → Type 0 = λ v. In v order in
      let new : Frame = record { node = w; next = 0 } in
      let frames = rest ++ top ∷ [] in
      let all : nodes (frames ++ new ∷ []) ≡ nodes frames ++ w ∷ [] = nodes_append frames (new ∷ []) in
      let apart_from : In w (nodes frames) → ⊥ = λ i. (let e : Mark.Open ≡ Mark.New = sym (s.standing w i) ∙ n in cc) in
      record {
        trail = trail_enter needs P frames w new (trail_to needs P rest top w s.trail at) refl refl;
        begins = begins_push needs P root rest top new s.begins;
        apart = subst AreApart (sym all) (apart_push (nodes frames) w s.apart apart_from);
        standing = λ v i. elim (in_cases (nodes frames) (w ∷ []) v (subst (λ (vs : List ℕ). In v vs) all i)) [
          | inl j ↦ get_or-set_other marks w v Open New (λ p. apart_from (subst (λ (x : ℕ). In x (nodes frames)) p j)) ∙ s.standing v j
          | inr j ↦ elim j [ inl p ↦ ap (λ (x : ℕ). get_or (set marks w Open) x New) p ∙ get_or-set_same marks w Open New within | inr z ↦ absurd z ]
        ];
        stands = λ v e. subst (λ (vs : List ℕ). In v vs) (sym all) (elim (cases_eq v w) [
          | inl p ↦ subst (λ (x : ℕ). In x (nodes frames ++ w ∷ [])) (sym p) (in_last (nodes frames) w)
          | inr q ↦ in_left (nodes frames) (w ∷ []) v (s.stands v (sym (get_or-set_other marks w v Open New q) ∙ e))
        ]);
        done = λ v e. elim (cases_eq v w) [
          | inl p ↦ (let f : Mark.Open ≡ Mark.Done = sym (get_or-set_same marks w Open New within) ∙ (ap (λ (x : ℕ). get_or (set marks w Open) x New) (sym p) ∙ e) in absurd (cc))
          | inr q ↦ s.done v (sym (get_or-set_other marks w v Open New q) ∙ e)
        ];
        finished = λ v i. get_or-set_other marks w v Open New (λ p. (let f : Mark.Done ≡ Mark.New = sym (s.finished v i) ∙ (ap (λ (x : ℕ). mark marks x) p ∙ n) in cc)) ∙ s.finished v i;
        follows = s.follows;
        once = s.once;
        reached = s.reached;
      }

  begins_left : (root : ℕ) (rest : List Frame) (top : Frame) (order : List ℕ) → Begins needs (λ v. In v order) root (rest ++ top ∷ []) → Begins needs (λ v. In v (order ++ top.node ∷ [])) root rest
  begins_left root [] top order b = subst (λ (x : ℕ). In x (order ++ top.node ∷ [])) b (in_last order top.node)
  begins_left root (f ∷ fs) top order b = b

  -- Each need of the top is done, so it is.
  pub leave : (root : ℕ) (marks : List Mark) (rest : List Frame) (top : Frame) (order : List ℕ) → Searching root marks (rest ++ top ∷ []) order → length (needs top.node) ≤ top.next → Searching root (set marks top.node Done) rest (order ++ top.node ∷ [])
  leave root marks rest top order s over =
      let all : nodes (rest ++ top ∷ []) ≡ nodes rest ++ top.node ∷ [] = nodes_append rest (top ∷ []) in
      let is_open : mark marks top.node ≡ Open = s.standing top.node (subst (λ (vs : List ℕ). In top.node vs) (sym all) (in_last (nodes rest) top.node)) in
      let within : top.node < length marks = marked_in marks top.node (λ e. (let f : Mark.Open ≡ Mark.New = sym is_open ∙ e in cc)) in
      let apart : AreApart (nodes rest ++ top.node ∷ []) = subst AreApart all s.apart in
      let left_out : In top.node order → ⊥ = λ i. (let f : Mark.Open ≡ Mark.Done = sym is_open ∙ s.finished top.node i in cc) in
      let P : ℕ → Type 0 = λ v. In v order in
      let Q : ℕ → Type 0 = λ v. In v (order ++ top.node ∷ []) in
      let more : (v : ℕ) → In v order → In v (order ++ top.node ∷ []) = λ v i. in_left order (top.node ∷ []) v i in
      let each : (v : ℕ) → In v (needs top.node) → In v order = λ w i. end_all P top.next (needs top.node) (trail_top needs P rest top s.trail) over w i in
      let trail' : Trail needs Q (rest ++ top ∷ []) = trail_mono needs P Q more (rest ++ top ∷ []) s.trail in
      record {
        trail = trail_pop needs Q rest top trail';
        begins = begins_left root rest top order s.begins;
        apart = apart_left (nodes rest) (top.node ∷ []) apart;
        standing = λ v i. get_or-set_other marks top.node v Done New (λ p. not_again (nodes rest) top.node apart (subst (λ (x : ℕ). In x (nodes rest)) p i))
            ∙ s.standing v (subst (λ (vs : List ℕ). In v vs) (sym all) (in_left (nodes rest) (top.node ∷ []) v i));
        stands = λ v e. elim (cases_eq v top.node) [
          | inl p ↦ (let f : Mark.Done ≡ Mark.Open = sym (get_or-set_same marks top.node Done New within) ∙ (ap (λ (x : ℕ). get_or (set marks top.node Done) x New) (sym p) ∙ e) in absurd (cc))
          | inr q ↦ elim (in_cases (nodes rest) (top.node ∷ []) v (subst (λ (vs : List ℕ). In v vs) all (s.stands v (sym (get_or-set_other marks top.node v Done New q) ∙ e)))) [
            | inl j ↦ j
            | inr j ↦ elim j [ inl p ↦ absurd (q p) | inr z ↦ absurd z ]
          ]
        ];
        done = λ v e. elim (cases_eq v top.node) [
          | inl p ↦ subst (λ (x : ℕ). In x (order ++ top.node ∷ [])) (sym p) (in_last order top.node)
          | inr q ↦ more v (s.done v (sym (get_or-set_other marks top.node v Done New q) ∙ e))
        ];
        finished = λ v i. elim (in_cases order (top.node ∷ []) v i) [
          | inl j ↦ get_or-set_other marks top.node v Done New (λ p. left_out (subst (λ (x : ℕ). In x order) p j)) ∙ s.finished v j
          | inr j ↦ elim j [ inl p ↦ ap (λ (x : ℕ). get_or (set marks top.node Done) x New) p ∙ get_or-set_same marks top.node Done New within | inr z ↦ absurd z ]
        ];
        follows = follows_push needs [] order top.node s.follows each;
        once = apart_push order top.node s.once left_out;
        reached = λ v i. elim (in_cases order (top.node ∷ []) v i) [
          | inl j ↦ s.reached v j
          | inr j ↦ elim j [ inl p ↦ subst (IsReached needs root) (sym p) (top_reached needs P root rest top s.trail s.begins) | inr z ↦ absurd z ]
        ];
      }

  first_closed : (root : ℕ) (frames : List Frame) (w : ℕ) (order : List ℕ) → Follows needs [] order → Begins needs (λ v. In v order) root frames → TrailTo needs (λ v. In v order) frames w → AreApart (nodes frames) → In w (nodes frames) → IsFirstClosedRoute needs root (nodes frames ++ w ∷ [])
  first_closed root [] w order o b t a i = absurd t
  first_closed root (f ∷ fs) w order o b t a i = record {
    closed = record {
      steps = (b, trail_leads needs (λ v. In v order) f fs w t);
      closes = record { front = f.node ∷ nodes fs; last = w; whole = refl; apart = a; again = i };
    };
    first = λ other c. later other c.steps c.closes (λ v i j. closed_alive needs root other c v i (order_ends needs [] order (λ x z. absurd z) o v j));
  }
    where
      later : (other : List ℕ) → IsRoute needs root other → Closes other → ((v : ℕ) → In v other → In v order → ⊥) → IsNotAfter needs (f.node ∷ (nodes fs ++ w ∷ [])) other
      later [] r c alive = absurd r
      later (y ∷ ys) r c alive =
          let e : y ≡ f.node = r.0 ∙ sym b in
          subst (λ (z : ℕ). NotAfter needs z (nodes fs ++ w ∷ []) ys) (sym e)
          (not_after needs (λ v. In v order) f fs w t [] a ys (subst (λ (z : ℕ). Closes (z ∷ ys)) e c) (subst (λ (z : ℕ). IsChain needs z ys) e r.1) (λ v i. alive v (inr i)))

  -- What is looked at is open: the frames from it on are the ring.
  pub found : (root : ℕ) (marks : List Mark) (rest : List Frame) (top : Frame) (order : List ℕ) (w : ℕ) (ring : List ℕ) → Searching root marks (rest ++ top ∷ []) order → At top.next (needs top.node) w → mark marks w ≡ Open → IsEndFrom w (nodes (rest ++ top ∷ [])) ring → IsRing needs root ring
  found root marks rest top order w ring s at o from =
      let frames = rest ++ top ∷ [] in
      record {
        route = nodes frames ++ w ∷ [];
        first = first_closed root frames w order s.follows s.begins (trail_to needs (λ v. In v order) rest top w s.trail at) s.apart (s.stands w o);
        part = record {
          before = from.before;
          last = w;
          rest = from.rest;
          whole = ap (λ (vs : List ℕ). vs ++ w ∷ []) from.whole ∙ append_assoc from.before ring (w ∷ []);
          begins = from.begins;
        };
      }

  pub top_open : (root : ℕ) (marks : List Mark) (rest : List Frame) (top : Frame) (order : List ℕ) → Searching root marks (rest ++ top ∷ []) order → mark marks top.node ≡ Open
  top_open root marks rest top order s = s.standing top.node (subst (λ (vs : List ℕ). In top.node vs) (sym (nodes_append rest (top ∷ []))) (in_last (nodes rest) top.node))

  pub top_within : (root : ℕ) (marks : List Mark) (rest : List Frame) (top : Frame) (order : List ℕ) → Searching root marks (rest ++ top ∷ []) order → top.node < length marks
  top_within root marks rest top order s = marked_in marks top.node (λ e. (let f : Mark.Open ≡ Mark.New = sym (top_open root marks rest top order s) ∙ e in cc))

  -- What stands in an order has its needs there too.
  needs_in_order : (seen order : List ℕ) → Follows needs seen order → (v : ℕ) → In v order → (w : ℕ) → In w (needs v) → In w (seen ++ order)
  needs_in_order seen [] f v i w j = absurd i
  needs_in_order seen (x ∷ xs) f v (inl p) w j = in_left seen (x ∷ xs) w (f.0 w (subst (λ (y : ℕ). In w (needs y)) p j))
  needs_in_order seen (x ∷ xs) f v (inr i) w j = subst (λ (ys : List ℕ). In w ys) (append_assoc seen (x ∷ []) xs) (needs_in_order (seen ++ x ∷ []) xs f.1 v i w j)

  -- All that is led to from an order stands there.
  led_in_order : (order : List ℕ) → Follows needs [] order → (at : ℕ) (xs : List ℕ) → In at order → IsChain needs at xs → (v : ℕ) → In v xs → In v order
  led_in_order order f at [] i l v j = absurd j
  led_in_order order f at (x ∷ xs) i l v (inl p) = subst (λ (y : ℕ). In y order) (sym p) (needs_in_order [] order f at i x l.0)
  led_in_order order f at (x ∷ xs) i l v (inr j) = led_in_order order f x xs (needs_in_order [] order f at i x l.0) l.1 v j

  all_reached : (root : ℕ) (order : List ℕ) → Follows needs [] order → In root order → (v : ℕ) → IsReached needs root v → In v order
  all_reached root order f h v r = comes r.before r.steps
    where
      comes : (before : List ℕ) → IsRoute needs root (before ++ v ∷ []) → In v order
      comes [] s = subst (λ (x : ℕ). In x order) (sym s.0) h
      comes (x ∷ xs) s = led_in_order order f x (xs ++ v ∷ []) (subst (λ (y : ℕ). In y order) (sym s.0) h) s.1 v (in_last xs v)

  -- Nothing is left.
  pub finish : (root : ℕ) (marks : List Mark) (order : List ℕ) → Searching root marks [] order → IsOrder needs root order
  finish root marks order s = record {
    follows = s.follows;
    apart = s.once;
    all = all_reached root order s.follows s.begins;
    only = s.reached;
  }

  pub order_has_no_ring : (root : ℕ) (order : List ℕ) → IsOrder needs root order → HasNoRing needs root
  order_has_no_ring root order o = no_ring needs root (order_ends needs [] order (λ x z. absurd z) o.follows root (o.all root (record { before = []; steps = (refl, tt) })))

  -- Only the root is open.
  pub start : (root : ℕ) (marks : List Mark) → ((v : ℕ) → mark marks v ≡ New) → root < length marks → Searching root (set marks root Open) ((record { node = root; next = 0 }) ∷ []) []
  start root marks fresh within = record {
    trail = tt;
    begins = refl;
    apart = ((λ i. i), tt);
    standing = λ v i. elim i [
      | inl p ↦ ap (λ (x : ℕ). get_or (set marks root Open) x New) p ∙ get_or-set_same marks root Open New within
      | inr z ↦ absurd z
    ];
    stands = λ v e. elim (cases_eq v root) [
      | inl p ↦ inl p
      | inr q ↦ (let f : Mark.New ≡ Mark.Open = sym (fresh v) ∙ (sym (get_or-set_other marks root v Open New q) ∙ e) in absurd (cc))
    ];
    done = λ v e. elim (cases_eq v root) [
      | inl p ↦ (let f : Mark.Open ≡ Mark.Done = sym (get_or-set_same marks root Open New within) ∙ (ap (λ (x : ℕ). get_or (set marks root Open) x New) (sym p) ∙ e) in absurd (cc))
      | inr q ↦ (let f : Mark.New ≡ Mark.Done = sym (fresh v) ∙ (sym (get_or-set_other marks root v Open New q) ∙ e) in absurd (cc))
    ];
    finished = λ v i. absurd i;
    follows = tt;
    once = tt;
    reached = λ v i. absurd i;
  }

all_in : (P : ℕ → Type 0) (xs : List ℕ) → ((x : ℕ) → In x xs → P x) → All P xs
all_in P [] h = All-nil P
all_in P (x ∷ xs) h = All-cons P x xs (h x (inl refl)) (all_in P xs (λ y i. h y (inr i)))

module _ (needs : ℕ → List ℕ) (root : ℕ) (marks : List Mark) (n : ℕ) where
  pub order_within : (order : List ℕ) → length marks ≡ n → Searching needs root marks [] order → All (λ v. v < n) order
  order_within order e s = all_in (λ v. v < n) order (λ v i. omega (arith, e, marked_in marks v (λ f. (let g : Mark.Done ≡ Mark.New = sym (s.finished v i) ∙ f in cc))))

  pub ring_within : (frames : List Frame) (order : List ℕ) (node : ℕ) (ring : List ℕ) → length marks ≡ n → Searching needs root marks frames order → IsEndFrom node (nodes frames) ring → All (λ v. v < n) ring
  ring_within frames order node ring e s from = all_in (λ v. v < n) ring (λ v i.
      (let on : In v (nodes frames) = subst (λ (vs : List ℕ). In v vs) (sym from.whole) (in_right from.before ring v i) in
      omega (arith, e, marked_in marks v (λ f. (let g : Mark.Open ≡ Mark.New = sym (s.standing v on) ∙ f in cc)))))
