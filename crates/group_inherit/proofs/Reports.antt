-- Where a ring is reported: each ring has a group whose target is the next group.
use Rattle.std.proofs.Common.{◌≡◌, ℕ, ◌+◌, ◌<◌, true, List, [], ◌∷◌, ◌++◌, Option, Some, None, option_map, option_and_then, option_to_list, if◌then◌else◌, inl, inr, refl, sym, ap, ◌∙◌, subst, map, length, arith, length-append, All, Vec}
use Rattle.std.proofs.lemmas.List.Elements.{All-nil, All-cons, All-head, All-tail}
use Rattle.std.proofs.lemmas.Option.{none-some}
use Rattle.std.specs.Cmp.Lexicographic.{lists_equiv, nat_list_eq_equiv}
use Rattle.std.specs.declared.alloc.Global.{Global}
use Rattle.ring.specs.Graph.{needs_in}
use Rattle.ring.specs.Lists.{In}
use Rattle.ring.specs.Routes.{IsChain, IsRoute, IsRing}
use Rattle.ring.proofs.Ends.{in_cases, leads_tail}
use Rattle.ring.proofs.Renamings.{in_map, in_names}
use Rattle.token_tree.specs.Tree.{Extension, Group}
use Rattle.group_inherit.specs.Merging.{either}
use Rattle.group_inherit.specs.Extension.{GroupPath, at_path, extension_of, group_names, needs_of, needs, target_path, same_path, where_target, extension_to, head_or, extension_along, extension_around, ring_extension}
use Rattle.group_inherit.specs.inner.Numbering.{GroupAt, numbered_group, numbered_path, AreNeeds, extension_after, extension_in}

same_itself : (p : GroupPath) → same_path p p ≡ true
same_itself p = (lists_equiv nat_list_eq_equiv).refl p

either_none : {A : Type 0} (x y : Option A) → either x y ≡ None → (x ≡ None) × (y ≡ None)
either_none None y e = (refl, e)
either_none (Some x) y e = absurd (none-some x (sym e))

-- a ring from its first node on: each needs the next one, and the last the first
record Round {N : Type 0} (needs : N → List N) (ring : List N) : Type 0 where
  first : N
  rest : List N
  is : ring ≡ first ∷ rest
  leads : IsChain needs first (rest ++ first ∷ [])

round_of : {N : Type 0} (needs : N → List N) (root : N) (ring : List N) → IsRing needs root ring → Round needs ring
round_of {N} needs root ring r =
    let p = r.part in
    let e : r.route ≡ p.before ++ p.last ∷ (p.rest ++ p.last ∷ []) = p.whole ∙ ap (λ (xs : List N). p.before ++ (xs ++ p.last ∷ [])) p.begins in
    record {
      first = p.last;
      rest = p.rest;
      is = p.begins;
      leads = behind p.before p.last (p.rest ++ p.last ∷ []) (subst (IsRoute needs root) e r.first.closed.steps);
    }
  where
    behind : (xs : List N) (x : N) (ys : List N) → IsRoute needs root (xs ++ x ∷ ys) → IsChain needs x ys
    behind [] x ys s = s.1
    behind (z ∷ xs) x ys s = leads_tail needs z xs x ys s.1

-- what is needed as a child stands one level below
target_or_child : (path next : GroupPath) (g : Group) → In next (needs_of path g) → extension_to next g ≡ None → length next ≡ length path + 1
target_or_child path next g i e = elim (in_cases (map (λ m. path ++ m ∷ []) (group_names g)) (option_to_list (target_path g)) next i) [
  | inl j ↦ (let n = in_names (λ (m : List ℕ). path ++ m ∷ []) (group_names g) next j in omega (arith, ap length n.is, length-append path (n.node ∷ [])))
  | inr j ↦ absurd (no_target (extension_of g) j e)
]
  where
    no_target : (o : Option Extension) → In next (option_to_list (option_map (λ x. x.target) o)) → option_and_then (where_target next) o ≡ None → ⊥
    no_target None j e = j
    no_target (Some x) (inl p) e =
        none-some x (sym e ∙ ap (λ b. if b then Some x else None) (ap (λ (q : GroupPath). same_path x.target q) p ∙ same_itself x.target))
    no_target (Some x) (inr j) e = j

some_or : (o : Option Extension) → (o ≡ None → ⊥) → (e : Extension) × (o ≡ Some e)
some_or None f = absurd (f refl)
some_or (Some e) f = (e, refl)

-- Groups have names of any kind: by its path, each need of a node is one of its group.
module _ {N : Type 0} (path : N → GroupPath) (at : N → Group) (needs : N → List N) (P : N → Type 0)
    (need : (v w : N) → P v → In w (needs v) → In (path w) (needs_of (path v) (at v))) where
  goes_down : (first v : N) (vs : List N) → P v → All P vs → IsChain needs v (vs ++ first ∷ [])
      → extension_along path at first (v ∷ vs) ≡ None → length (path v) < length (path first)
  goes_down first v [] h all l e =
      let none = either_none (extension_to (path first) (at v)) (extension_along path at first []) e in
      omega (arith, target_or_child (path v) (path first) (at v) (need v first h l.0) none.0)
  goes_down first v (w ∷ ws) h all l e =
      let none = either_none (extension_to (path w) (at v)) (extension_along path at first (w ∷ ws)) e in
      omega (
        arith,
        target_or_child (path v) (path w) (at v) (need v w h l.0) none.0,
        goes_down first w ws (All-head P w ws all) (All-tail P w ws all) l.1 none.1,
      )

  -- each ring has a group that extends the next one
  reports : (root : N) (ring : List N) → All P ring → IsRing needs root ring → extension_around path at ring ≡ None → ⊥
  reports root ring all r e =
      let o = round_of needs root ring r in
      let all' : All P (o.first ∷ o.rest) = subst (All P) o.is all in
      let e' : extension_along path at o.first (o.first ∷ o.rest) ≡ None = ap (extension_around path at) (sym o.is) ∙ e in
      let first = All-head P o.first o.rest all' in
      let rest = All-tail P o.first o.rest all' in
      absurd (omega (arith, goes_down o.first o.first o.rest first rest o.leads e'))

  extension_there : (root : N) (ring : List N) → All P ring → IsRing needs root ring
      → (e : Extension) × (extension_around path at ring ≡ Some e)
  extension_there root ring all r = some_or (extension_around path at ring) (reports root ring all r)

-- .. where the names are numbers
pub extension_of_ring : (nodes : List GroupAt) (rows : List (Vec ℕ Global)) → AreNeeds nodes rows
    → (ring : List ℕ) → All (λ w. w < length nodes) ring → IsRing (needs_in rows) 0 ring
    → (e : Extension) × (extension_in nodes ring ≡ Some e)
extension_of_ring nodes rows are =
    extension_there (numbered_path nodes) (numbered_group nodes) (needs_in rows) (λ v. v < length nodes)
    (λ v w h i. subst (In (numbered_path nodes w)) (are v h) (in_map (numbered_path nodes) (needs_in rows v) w i)) 0

-- .. where they are paths
pub extension_by_paths : (tree : Group) (ring : List GroupPath) → IsRing (needs tree) [] ring
    → (e : Extension) × (ring_extension tree ring ≡ Some e)
extension_by_paths tree ring =
    extension_there {N = GroupPath} (λ path. path) (at_path tree) (needs tree) (λ path. Unit {0}) (λ v w h i. i) [] ring (any ring)
  where
    any : (paths : List GroupPath) → All (λ path. Unit {0}) paths
    any [] = All-nil (λ path. Unit {0})
    any (p ∷ ps) = All-cons (λ path. Unit {0}) p ps tt (any ps)

-- by paths it is the same
module _ (tree : Group) (nodes : List GroupAt) (at_tree : (v : ℕ) → v < length nodes → at_path tree (numbered_path nodes v) ≡ numbered_group nodes v) where
  head_named : (first : ℕ) (vs : List ℕ) → numbered_path nodes (head_or first vs) ≡ head_or (numbered_path nodes first) (map (numbered_path nodes) vs)
  head_named first [] = refl
  head_named first (v ∷ vs) = refl

  along_named : (first : ℕ) (vs : List ℕ) → All (λ w. w < length nodes) vs → extension_after nodes first vs ≡ extension_along (λ path. path) (at_path tree) (numbered_path nodes first) (map (numbered_path nodes) vs)
  along_named first [] all = refl
  along_named first (v ∷ vs) all =
      ap (λ (o : Option Extension). either o (extension_after nodes first vs))
      (ap (λ (p : GroupPath). extension_to p (numbered_group nodes v)) (head_named first vs)
      ∙ ap (extension_to (head_or (numbered_path nodes first) (map (numbered_path nodes) vs))) (sym (at_tree v (All-head (λ x. x < length nodes) v vs all))))
      ∙ ap (either (extension_to (head_or (numbered_path nodes first) (map (numbered_path nodes) vs)) (at_path tree (numbered_path nodes v)))) (along_named first vs (All-tail (λ x. x < length nodes) v vs all))

  pub reported_at : (ring : List ℕ) → All (λ w. w < length nodes) ring → extension_in nodes ring ≡ ring_extension tree (map (numbered_path nodes) ring)
  reported_at [] all = refl
  reported_at (v ∷ vs) all = along_named v (v ∷ vs) all
