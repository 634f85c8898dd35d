-- The first closed route is found by going along the needs in their order, or no chain of needs goes on for ever.
use Rattle.std.proofs.Common.{◌≡◌, ◌≢◌, ◌⊎◌, ℕ, zero, suc, ◌+◌, ◌≤◌, List, [], ◌∷◌, ◌++◌, length, length-append, arith}
use Rattle.std.proofs.Common.{inl, inr, refl, sym, ap, ◌∙◌, subst, append_assoc}
use Rattle.ring.specs.Lists.{In, Each, AreApart}
use Rattle.ring.specs.Routes.{Precedes, IsChain, IsRoute, Closes, NotAfter, IsNotAfter}
use Rattle.ring.specs.Routes.{IsFirstClosedRoute, IsRing, HasNoRing}
use Rattle.ring.specs.Existence.{IsDecided, ReachesOnly, IsGrounded, grounded}
use Rattle.ring.proofs.ApartLists.{apart_not_closed, apart_push, apart_fit}
use Rattle.ring.proofs.Ends.{in_right, split, closed_alive, no_ring}
use Rattle.ring.proofs.Renamings.{on_route}

-- the first of a list at which Q holds, where P holds of all before it
record FirstHit {N : Type 0} (P Q : N → Type 0) (ws : List N) : Type 0 where
  before : List N
  at : N
  after : List N
  whole : ws ≡ before ++ at ∷ after
  passed : Each before P
  hits : Q at

first_hit : {N : Type 0} (P Q : N → Type 0) (ws : List N) → Each ws (λ w. Q w ⊎ P w) → FirstHit P Q ws ⊎ Each ws P
first_hit P Q [] each = inr (λ w i. absurd i)
first_hit {N} P Q (w ∷ ws) each = elim (each w (inl refl)) [
  | inl q ↦ inl (record { before = []; at = w; after = ws; whole = refl; passed = λ v i. absurd i; hits = q })
  | inr p ↦ elim (first_hit P Q ws (λ v i. each v (inr i))) [
    | inl h ↦ inl (record {
      before = w ∷ h.before;
      at = h.at;
      after = h.after;
      whole = ap (λ (vs : List N). w ∷ vs) h.whole;
      passed = λ v i. elim i [ inl e ↦ subst P (sym e) p | inr j ↦ h.passed v j ];
      hits = h.hits;
    })
    | inr all ↦ inr (λ v i. elim i [ inl e ↦ subst P (sym e) p | inr j ↦ all v j ])
  ]
]

-- What is hit comes before each other of which P doesn't hold.
hit_precedes : {N : Type 0} (P : N → Type 0) (before : List N) (x : N) (after : List N) (y : N) →
    Each before P → (P y → ⊥) → x ≢ y → Precedes x y (before ++ x ∷ after)
hit_precedes P [] x after y each alive n = ((λ e. n (sym e)), inl refl)
hit_precedes P (b ∷ bs) x after y each alive n = (
  (λ e. alive (subst P (sym e) (each b (inl refl)))),
  inr (hit_precedes P bs x after y (λ v i. each v (inr i)) alive n),
)

module _ {N : Type 0} (needs : N → List N) (root : N) where
  leads_along : (from : N) (xs : List N) (at : N) (ys : List N) →
      IsChain needs from (xs ++ at ∷ []) → IsChain needs at ys → IsChain needs from (xs ++ at ∷ ys)
  leads_along from [] at ys l m = (l.0, m)
  leads_along from (x ∷ xs) at ys l m = (l.0, leads_along x xs at ys l.1 m)

  -- a route goes on along a way from its last node
  route_along : (xs : List N) (at : N) (ys : List N) →
      IsRoute needs root (xs ++ at ∷ []) → IsChain needs at ys → IsRoute needs root (xs ++ at ∷ ys)
  route_along [] at ys r m = (r.0, m)
  route_along (x ∷ xs) at ys r m = (r.0, leads_along x xs at ys r.1 m)

  -- a route up to a node, of which no two are alike
  record Trail (before : List N) (at : N) : Type 0 where
    steps : IsRoute needs root (before ++ at ∷ [])
    apart : AreApart (before ++ at ∷ [])

  trail_on : (before : List N) (at w : N) → Trail before at → In w (needs at) → (In w (before ++ at ∷ []) → ⊥) →
      Trail (before ++ at ∷ []) w
  trail_on before at w t i off = record {
    steps = subst (IsRoute needs root) (sym (append_assoc before (at ∷ []) (w ∷ [])))
        (route_along before at (w ∷ []) t.steps (i, tt));
    apart = apart_push (before ++ at ∷ []) w t.apart off;
  }

  -- the way on from the end of a trail by which a route closes first
  record Closing (before : List N) (at : N) : Type 0 where
    way : List N
    leads : IsChain needs at way
    closes : Closes (before ++ at ∷ way)
    first : (other : List N) → IsChain needs at other → Closes (before ++ at ∷ other) → NotAfter needs at way other

  -- the trail comes back at the node, or a route closes beyond it
  abbrev ClosesAt : List N → N → Type 0
  ClosesAt trail w = In w trail ⊎ Closing trail w

  on_closed : (before : List N) (at y : N) (ys : List N) → Trail before at → IsChain needs at (y ∷ ys) →
      Closes (before ++ at ∷ (y ∷ ys)) → IsGrounded needs y → ⊥
  on_closed before at y ys t l c g =
      closed_alive needs root (before ++ at ∷ (y ∷ ys))
      (record { steps = route_along before at (y ∷ ys) t.steps l; closes = c })
      y (in_right before (at ∷ (y ∷ ys)) y (inr (inl refl))) g

  module _ (decided : IsDecided N) where
    -- A way that begins with the first need at which a route closes is after no other, if what follows that need isn't.
    first_way : (before : List N) (at : N) → Trail before at →
        (h : FirstHit (IsGrounded needs) (ClosesAt (before ++ at ∷ [])) (needs at)) (way : List N) →
        ((ys : List N) → IsChain needs h.at ys → Closes (before ++ at ∷ (h.at ∷ ys)) → NotAfter needs h.at way ys) →
        (other : List N) → IsChain needs at other → Closes (before ++ at ∷ other) → NotAfter needs at (h.at ∷ way) other
    first_way before at t h way then [] l c = absurd (apart_not_closed (before ++ at ∷ []) t.apart c)
    first_way before at t h way then (y ∷ ys) l c = elim (decided h.at y) [
      | inl e ↦ inr (
        e,
        subst (λ (z : N). NotAfter needs z way ys) e
            (then ys (subst (λ (z : N). IsChain needs z ys) (sym e) l.1)
            (subst (λ (z : N). Closes (before ++ at ∷ (z ∷ ys))) (sym e) c)),
      )
      | inr n ↦ inl (subst (Precedes h.at y) (sym h.whole)
          (hit_precedes (IsGrounded needs) h.before h.at h.after y h.passed (on_closed before at y ys t l c) n))
    ]

    closing : (before : List N) (at : N) → Trail before at →
        FirstHit (IsGrounded needs) (ClosesAt (before ++ at ∷ [])) (needs at) → Closing before at
    closing before at t h = elim h.hits [
      | inl on ↦ record {
        way = h.at ∷ [];
        leads = (need, tt);
        closes = record {
          front = before ++ at ∷ [];
          last = h.at;
          whole = sym (append_assoc before (at ∷ []) (h.at ∷ []));
          apart = t.apart;
          again = on;
        };
        first = first_way before at t h [] (λ ys l c. tt);
      }
      | inr c ↦ record {
        way = h.at ∷ c.way;
        leads = (need, c.leads);
        closes = subst Closes (append_assoc before (at ∷ []) (h.at ∷ c.way)) c.closes;
        first = first_way before at t h c.way
            (λ ys l k. c.first ys l (subst Closes (sym (append_assoc before (at ∷ []) (h.at ∷ ys))) k));
      }
    ]
      where
        need : In h.at (needs at)
        need = subst (In h.at) (sym h.whole) (in_right h.before (h.at ∷ h.after) h.at (inl refl))

    find : (x : N) (xs : List N) → In x xs ⊎ (In x xs → ⊥)
    find x [] = inr (λ i. i)
    find x (y ∷ ys) = elim (decided x y) [
      | inl e ↦ inl (inl e)
      | inr n ↦ elim (find x ys) [
        | inl i ↦ inl (inr i)
        | inr m ↦ inr (λ i. elim i [ inl e ↦ n e | inr j ↦ m j ])
      ]
    ]

    -- One node is looked at, where it is known what is found from each of its needs that isn't on the trail.
    look : (before : List N) (at : N) → Trail before at →
        ((w : N) → In w (needs at) → (In w (before ++ at ∷ []) → ⊥) →
        Closing (before ++ at ∷ []) w ⊎ IsGrounded needs w) →
        Closing before at ⊎ IsGrounded needs at
    look before at t deeper = elim (first_hit (IsGrounded needs) (ClosesAt (before ++ at ∷ [])) (needs at) each) [
      | inl h ↦ inl (closing before at t h)
      | inr all ↦ inr (grounded all)
    ]
      where
        each : (w : N) → In w (needs at) → ClosesAt (before ++ at ∷ []) w ⊎ IsGrounded needs w
        each w i = elim (find w (before ++ at ∷ [])) [
          | inl on ↦ inl (inl on)
          | inr off ↦ elim (deeper w i off) [ inl c ↦ inl (inr c) | inr g ↦ inr g ]
        ]

    module _ (nodes : List N) (within : ReachesOnly needs root nodes) where
      trail_fits : (before : List N) (at : N) → Trail before at → length (before ++ at ∷ []) ≤ length nodes
      trail_fits before at t =
          apart_fit (before ++ at ∷ []) nodes t.apart
          (λ v i. within v (on_route needs root (before ++ at ∷ []) t.steps v i))

      -- At most as many nodes are to come as the trail leaves.
      visit : (left : ℕ) (before : List N) (at : N) → Trail before at → length nodes ≤ length before + left →
          Closing before at ⊎ IsGrounded needs at
      visit zero before at t h = absurd (omega (arith, trail_fits before at t, length-append before (at ∷ [])))
      visit (suc left) before at t h = look before at t
          (λ w i off. visit left (before ++ at ∷ []) w (trail_on before at w t i off)
          (omega (arith, length-append before (at ∷ []))))

      from_root : Closing [] root ⊎ IsGrounded needs root
      from_root = visit (length nodes) [] root (record { steps = (refl, tt); apart = ((λ i. i), tt) }) (omega arith)

  first_route : (c : Closing [] root) → IsFirstClosedRoute needs root (root ∷ c.way)
  first_route c = record {
    closed = record { steps = (refl, c.leads); closes = c.closes };
    first = λ other d. earliest other d.steps d.closes;
  }
    where
      earliest : (other : List N) → IsRoute needs root other → Closes other → IsNotAfter needs (root ∷ c.way) other
      earliest [] r k = absurd r
      earliest (y ∷ ys) r k = subst (λ (z : N). NotAfter needs z c.way ys) (sym r.0)
          (c.first ys (subst (λ (z : N). IsChain needs z ys) r.0 r.1) (subst (λ (z : N). Closes (z ∷ ys)) r.0 k))

  closing_ring : Closing [] root → (ring : List N) × IsRing needs root ring
  closing_ring c =
      let k = c.closes in
      let s = split k.front k.last k.again in (
        k.last ∷ s.after,
        record {
          route = root ∷ c.way;
          first = first_route c;
          part = record {
            before = s.before;
            last = k.last;
            rest = s.after;
            whole = k.whole ∙ (ap (λ (xs : List N). xs ++ k.last ∷ []) s.whole
                ∙ append_assoc s.before (k.last ∷ s.after) (k.last ∷ []));
            begins = refl;
          };
        },
      )

  pub ring_or_none : IsDecided N → (nodes : List N) → ReachesOnly needs root nodes →
      ((ring : List N) × IsRing needs root ring) ⊎ HasNoRing needs root
  ring_or_none decided nodes within = elim (from_root decided nodes within) [
    | inl c ↦ inl (closing_ring c)
    | inr g ↦ inr (no_ring needs root g)
  ]

  pub is_grounded : IsDecided N → (nodes : List N) → ReachesOnly needs root nodes → HasNoRing needs root →
      IsGrounded needs root
  is_grounded decided nodes within none = elim (from_root decided nodes within) [
    | inl c ↦ absurd (none (root ∷ c.way) (first_route c).closed)
    | inr g ↦ g
  ]
