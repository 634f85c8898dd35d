-- What holds of a graph holds of it with its nodes renamed.
use Rattle.std.proofs.Common.{◌≡◌, List, [], ◌∷◌, ◌++◌, inl, inr, refl, sym, ap, ◌∙◌, subst, map}
use Rattle.ring.specs.Lists.{In, AreApart}
use Rattle.ring.specs.Routes.{Precedes, IsChain, IsRoute, Closes, IsClosedRoute, NotAfter, IsNotAfter, IsFirstClosedRoute, IsPartOf, IsRing, HasNoRing, IsReached}
use Rattle.ring.specs.Order.{Follows, IsOrder}
use Rattle.ring.specs.Values.{Comes, comes, AllCome, none, more}
use Rattle.ring.specs.Renaming.{IsRenaming, SameSteps}
use Rattle.ring.proofs.Ends.{in_last, in_left}

-- Lists under a function.

module _ {N M : Type 0} (f : N → M) where
  pub map_join : (xs ys : List N) → map f (xs ++ ys) ≡ map f xs ++ map f ys
  map_join [] ys = refl
  map_join (x ∷ xs) ys = ap (λ (zs : List M). f x ∷ zs) (map_join xs ys)

  pub in_map : (xs : List N) (x : N) → In x xs → In (f x) (map f xs)
  in_map [] x i = absurd i
  in_map (y ∷ xs) x (inl e) = inl (ap f e)
  in_map (y ∷ xs) x (inr i) = inr (in_map xs x i)

  -- the node whose name stands in the list of names
  pub record Named (y : M) (xs : List N) : Type 0 where
    pub node : N
    pub is : y ≡ f node
    pub there : In node xs

  pub in_names : (xs : List N) (y : M) → In y (map f xs) → Named y xs
  in_names [] y i = absurd i
  in_names (x ∷ xs) y (inl e) = record { node = x; is = e; there = inl refl }
  in_names (x ∷ xs) y (inr i) =
      let n = in_names xs y i in
      record { node = n.node; is = n.is; there = inr n.there }

  -- names that end with one more
  pub record Cut (xs : List N) (ys : List M) (z : M) : Type 0 where
    pub front : List N
    pub last : N
    pub whole : xs ≡ front ++ last ∷ []
    pub before : ys ≡ map f front
    pub ends : z ≡ f last

  pub cut : (xs : List N) (ys : List M) (z : M) → map f xs ≡ ys ++ z ∷ [] → Cut xs ys z
  cut [] [] z e = absurd (cc)
  cut [] (y ∷ ys) z e = absurd (cc)
  cut (x ∷ []) [] z e =
      let h : f x ≡ z = cc in
      record { front = []; last = x; whole = refl; before = refl; ends = sym h }
  cut (x ∷ w ∷ xs) [] z e = absurd (cc)
  cut (x ∷ xs) (y ∷ ys) z e =
      let h : f x ≡ y = cc in
      let t : map f xs ≡ ys ++ z ∷ [] = cc in
      let c = cut xs ys z t in
      record {
        front = x ∷ c.front;
        last = c.last;
        whole = ap (λ (zs : List N). x ∷ zs) c.whole;
        before = ap (λ (w : M). w ∷ ys) (sym h) ∙ ap (λ (zs : List M). f x ∷ zs) c.before;
        ends = c.ends;
      }

-- What is reached.

module _ {N : Type 0} (needs : N → List N) (root : N) where
  pub root_reached : IsReached needs root root
  root_reached = record { before = []; steps = (refl, tt) }

  leads_on : (at : N) (xs : List N) (v w : N) → IsChain needs at (xs ++ v ∷ []) → In w (needs v) → IsChain needs at ((xs ++ v ∷ []) ++ w ∷ [])
  leads_on at [] v w l i = (l.0, (i, tt))
  leads_on at (x ∷ xs) v w l i = (l.0, leads_on x xs v w l.1 i)

  goes_on : (xs : List N) (v w : N) → IsRoute needs root (xs ++ v ∷ []) → In w (needs v) → IsRoute needs root ((xs ++ v ∷ []) ++ w ∷ [])
  goes_on [] v w r i = (r.0, (i, tt))
  goes_on (x ∷ xs) v w r i = (r.0, leads_on x xs v w r.1 i)

  -- what is needed by a node that is reached
  pub reached_next : (v w : N) → IsReached needs root v → In w (needs v) → IsReached needs root w
  reached_next v w r i = record { before = r.before ++ v ∷ []; steps = goes_on r.before v w r.steps i }

  -- what follows a node that is reached
  pub reached_along : (at : N) (xs : List N) → IsReached needs root at → IsChain needs at xs → (v : N) → In v xs → IsReached needs root v
  reached_along at [] r l v i = absurd i
  reached_along at (x ∷ xs) r l v (inl e) = subst (IsReached needs root) (sym e) (reached_next at x r l.0)
  reached_along at (x ∷ xs) r l v (inr i) = reached_along x xs (reached_next at x r l.0) l.1 v i

  pub on_route : (xs : List N) → IsRoute needs root xs → (v : N) → In v xs → IsReached needs root v
  on_route [] r v i = absurd i
  on_route (x ∷ xs) r v (inl e) = subst (IsReached needs root) (sym (e ∙ r.0)) root_reached
  on_route (x ∷ xs) r v (inr i) = reached_along x xs (subst (IsReached needs root) (sym r.0) root_reached) r.1 v i

-- Routes, rings and orders under a renaming.

module _ {N M : Type 0} (f : N → M) (needs : N → List N) (root : N) (needs' : M → List M) (r : IsRenaming f needs root needs') where
  abbrev Reached : N → Type 0
  Reached v = IsReached needs root v

  abbrev AllReached : List N → Type 0
  AllReached xs = (v : N) → In v xs → IsReached needs root v

  need_named : (v w : N) → Reached v → In w (needs v) → In (f w) (needs' (f v))
  need_named v w h i = subst (λ (ys : List M). In (f w) ys) (sym (r.keeps v h)) (in_map f (needs v) w i)

  need_behind : (v : N) (y : M) → Reached v → In y (needs' (f v)) → Named f y (needs v)
  need_behind v y h i = in_names f (needs v) y (subst (λ (ys : List M). In y ys) (r.keeps v h) i)

  leads_named : (at : N) (xs : List N) → Reached at → IsChain needs at xs → IsChain needs' (f at) (map f xs)
  leads_named at [] h l = tt
  leads_named at (x ∷ xs) h l = (need_named at x h l.0, leads_named x xs (reached_next needs root at x h l.0) l.1)

  route_named : (xs : List N) → IsRoute needs root xs → IsRoute needs' (f root) (map f xs)
  route_named [] s = absurd s
  route_named (x ∷ xs) s = (ap f s.0, leads_named x xs (subst (IsReached needs root) (sym s.0) (root_reached needs root)) s.1)

  -- the way behind a way of names
  record Way (at : N) (ys : List M) : Type 0 where
    nodes : List N
    leads : IsChain needs at nodes
    are : ys ≡ map f nodes

  way_behind : (at : N) (ys : List M) → Reached at → IsChain needs' (f at) ys → Way at ys
  way_behind at [] h l = record { nodes = []; leads = tt; are = refl }
  way_behind at (y ∷ ys) h l =
      let n = need_behind at y h l.0 in
      let w = way_behind n.node ys (reached_next needs root at n.node h n.there) (subst (λ (z : M). IsChain needs' z ys) n.is l.1) in
      record {
        nodes = n.node ∷ w.nodes;
        leads = (n.there, w.leads);
        are = ap (λ (z : M). z ∷ ys) n.is ∙ ap (λ (zs : List M). f n.node ∷ zs) w.are;
      }

  -- the route behind a route of names
  record Behind (ys : List M) : Type 0 where
    nodes : List N
    steps : IsRoute needs root nodes
    are : ys ≡ map f nodes

  route_behind : (ys : List M) → IsRoute needs' (f root) ys → Behind ys
  route_behind [] s = absurd s
  route_behind (y ∷ ys) s =
      let w = way_behind root ys (root_reached needs root) (subst (λ (z : M). IsChain needs' z ys) s.0 s.1) in
      record {
        nodes = root ∷ w.nodes;
        steps = (refl, w.leads);
        are = ap (λ (z : M). z ∷ ys) s.0 ∙ ap (λ (zs : List M). f root ∷ zs) w.are;
      }

  in_named : (xs : List N) (v : N) → AllReached xs → Reached v → In (f v) (map f xs) → In v xs
  in_named xs v all h i =
      let n = in_names f xs (f v) i in
      subst (λ (w : N). In w xs) (sym (r.apart v n.node h (all n.node n.there) n.is)) n.there

  apart_named : (xs : List N) → AllReached xs → AreApart xs → AreApart (map f xs)
  apart_named [] all a = tt
  apart_named (x ∷ xs) all a = ((λ i. a.0 (in_named xs x (λ v j. all v (inr j)) (all x (inl refl)) i)), apart_named xs (λ v j. all v (inr j)) a.1)

  apart_behind : (xs : List N) → AreApart (map f xs) → AreApart xs
  apart_behind [] a = tt
  apart_behind (x ∷ xs) a = ((λ i. a.0 (in_map f xs x i)), apart_behind xs a.1)

  front_reached : (front : List N) (last : N) (route : List N) → route ≡ front ++ last ∷ [] → AllReached route → AllReached front
  front_reached front last route e all v i = all v (subst (λ (xs : List N). In v xs) (sym e) (in_left front (last ∷ []) v i))

  last_reached : (front : List N) (last : N) (route : List N) → route ≡ front ++ last ∷ [] → AllReached route → Reached last
  last_reached front last route e all = all last (subst (λ (xs : List N). In last xs) (sym e) (in_last front last))

  closes_named : (route : List N) → AllReached route → Closes route → Closes (map f route)
  closes_named route all c = record {
    front = map f c.front;
    last = f c.last;
    whole = ap (map f) c.whole ∙ map_join f c.front (c.last ∷ []);
    apart = apart_named c.front (front_reached c.front c.last route c.whole all) c.apart;
    again = in_map f c.front c.last c.again;
  }

  closes_behind : (route : List N) → AllReached route → Closes (map f route) → Closes route
  closes_behind route all c =
      let k = cut f route c.front c.last c.whole in
      record {
        front = k.front;
        last = k.last;
        whole = k.whole;
        apart = apart_behind k.front (subst AreApart k.before c.apart);
        again = in_named k.front k.last (front_reached k.front k.last route k.whole all) (last_reached k.front k.last route k.whole all)
            (subst (λ (ys : List M). In (f k.last) ys) k.before (subst (λ (z : M). In z c.front) k.ends c.again));
      }

  closed_named : (route : List N) → IsClosedRoute needs root route → IsClosedRoute needs' (f root) (map f route)
  closed_named route c = record { steps = route_named route c.steps; closes = closes_named route (on_route needs root route c.steps) c.closes }

  -- the closed route behind a closed route of names
  record ClosedBehind (ys : List M) : Type 0 where
    nodes : List N
    closed : IsClosedRoute needs root nodes
    are : ys ≡ map f nodes

  closed_behind : (ys : List M) → IsClosedRoute needs' (f root) ys → ClosedBehind ys
  closed_behind ys c =
      let b = route_behind ys c.steps in
      record {
        nodes = b.nodes;
        closed = record { steps = b.steps; closes = closes_behind b.nodes (on_route needs root b.nodes b.steps) (subst Closes b.are c.closes) };
        are = b.are;
      }

  precedes_named : (x y : N) (zs : List N) → AllReached zs → Reached y → Precedes x y zs → Precedes (f x) (f y) (map f zs)
  precedes_named x y [] all h p = absurd p
  precedes_named x y (z ∷ zs) all h p = (
    (λ e. p.0 (r.apart y z h (all z (inl refl)) e)),
    elim p.1 [
      | inl e ↦ inl (ap f e)
      | inr q ↦ inr (precedes_named x y zs (λ v i. all v (inr i)) h q)
    ],
  )

  not_after_named : (at : N) (xs ys : List N) → Reached at → AllReached ys → NotAfter needs at xs ys → NotAfter needs' (f at) (map f xs) (map f ys)
  not_after_named at [] ys h all n = tt
  not_after_named at (x ∷ xs) [] h all n = absurd n
  not_after_named at (x ∷ xs) (y ∷ ys) h all (inl p) =
      inl (subst (λ (zs : List M). Precedes (f x) (f y) zs) (sym (r.keeps at h)) (precedes_named x y (needs at) (λ v i. reached_next needs root at v h i) (all y (inl refl)) p))
  not_after_named at (x ∷ xs) (y ∷ ys) h all (inr p) = inr (ap f p.0, not_after_named y xs ys (all y (inl refl)) (λ v i. all v (inr i)) p.1)

  is_not_after_named : (xs ys : List N) → AllReached ys → IsNotAfter needs xs ys → IsNotAfter needs' (map f xs) (map f ys)
  is_not_after_named [] ys all n = tt
  is_not_after_named (x ∷ xs) [] all n = absurd n
  is_not_after_named (x ∷ xs) (y ∷ ys) all n = not_after_named y xs ys (all y (inl refl)) (λ v i. all v (inr i)) n

  first_named : (route : List N) → IsFirstClosedRoute needs root route → IsFirstClosedRoute needs' (f root) (map f route)
  first_named route c = record {
    closed = closed_named route c.closed;
    first = λ other d. (
        let b = closed_behind other d in
        subst (λ (ys : List M). IsNotAfter needs' (map f route) ys) (sym b.are)
        (is_not_after_named route b.nodes (on_route needs root b.nodes b.closed.steps) (c.first b.nodes b.closed)));
  }

  part_named : (ring route : List N) → IsPartOf ring route → IsPartOf (map f ring) (map f route)
  part_named ring route p = record {
    before = map f p.before;
    last = f p.last;
    rest = map f p.rest;
    whole = ap (map f) p.whole ∙ (map_join f p.before (ring ++ p.last ∷ []) ∙ ap (λ (ys : List M). map f p.before ++ ys) (map_join f ring (p.last ∷ [])));
    begins = ap (map f) p.begins;
  }

  -- the ring of the graph is that of the names
  pub ring_named : (ring : List N) → IsRing needs root ring → IsRing needs' (f root) (map f ring)
  ring_named ring h = record { route = map f h.route; first = first_named h.route h.first; part = part_named ring h.route h.part }

  pub no_ring_named : HasNoRing needs root → HasNoRing needs' (f root)
  no_ring_named lacks ys c =
      let b = closed_behind ys c in
      lacks b.nodes b.closed

  follows_named : (seen order : List N) → AllReached order → Follows needs seen order → Follows needs' (map f seen) (map f order)
  follows_named seen [] all h = tt
  follows_named seen (v ∷ vs) all h = (
    (λ y i. (
        let n = need_behind v y (all v (inl refl)) i in
        subst (λ (z : M). In z (map f seen)) (sym n.is) (in_map f seen n.node (h.0 n.node n.there)))),
    subst (λ (ys : List M). Follows needs' ys (map f vs)) (map_join f seen (v ∷ [])) (follows_named (seen ++ v ∷ []) vs (λ w i. all w (inr i)) h.1),
  )

  reached_named : (v : N) → Reached v → IsReached needs' (f root) (f v)
  reached_named v h = record {
    before = map f h.before;
    steps = subst (IsRoute needs' (f root)) (map_join f h.before (v ∷ [])) (route_named (h.before ++ v ∷ []) h.steps);
  }

  -- the node behind a name that is reached
  record NodeBehind (y : M) : Type 0 where
    node : N
    is : y ≡ f node
    reached : Reached node

  reached_behind : (y : M) → IsReached needs' (f root) y → NodeBehind y
  reached_behind y h =
      let b = route_behind (h.before ++ y ∷ []) h.steps in
      let k = cut f b.nodes h.before y (sym b.are) in
      record { node = k.last; is = k.ends; reached = last_reached k.front k.last b.nodes k.whole (on_route needs root b.nodes b.steps) }

  -- an order of the graph is one of the names
  pub order_named : (order : List N) → IsOrder needs root order → IsOrder needs' (f root) (map f order)
  order_named order o = record {
    follows = follows_named [] order o.only o.follows;
    apart = apart_named order o.only o.apart;
    all = λ y h. (let b = reached_behind y h in subst (λ (z : M). In z (map f order)) (sym b.is) (in_map f order b.node (o.all b.node b.reached)));
    only = λ y i. (let n = in_names f order y i in subst (IsReached needs' (f root)) (sym n.is) (reached_named n.node (o.only n.node n.there)));
  }

  module _ {V : Type 0} (step : N → List V → V) (step' : M → List V → V) (same : SameSteps f needs root step step') where
    mutual
      -- the value of a node is that of its name
      pub value_named : (v : N) {x : V} → IsReached needs root v → Comes needs step v x → Comes needs' step' (f v) x
      value_named v h (comes {xs} a) =
          subst (Comes needs' step' (f v)) (same v xs h)
          (comes (subst (λ (ys : List M). AllCome needs' step' ys xs) (sym (r.keeps v h)) (values_named (needs v) (λ w i. reached_next needs root v w h i) a)))

      values_named : (ws : List N) {xs : List V} → ((w : N) → In w ws → IsReached needs root w) → AllCome needs step ws xs → AllCome needs' step' (map f ws) xs
      values_named [] all none = none
      values_named (w ∷ ws) all (more {x} {xs} a as') = more (value_named w (all w (inl refl)) a) (values_named ws (λ v i. all v (inr i)) as')
