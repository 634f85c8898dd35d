-- Counts and heights.
use Rattle.std.proofs.Common.{◌≡◌, ℕ, zero, suc, ◌+◌, ◌-◌, ◌^◌, ◌<◌, ◌≤◌, min, max, List, [], ◌∷◌, ◌++◌, inl, inr, refl, sym, ap, ◌∙◌, subst, map, length, get_or, set, take, drop, sum, arith, length-append, append_assoc, add-one, All, get_or-set_same, get_or-set_other}
use Rattle.std.proofs.lemmas.Bool.{cases_eq, cases_lt}
use Rattle.std.proofs.lemmas.List.{take_more}
use Rattle.std.proofs.lemmas.List.Elements.{All-head, All-tail}
use Rattle.std.proofs.lemmas.List.Sums.{sum_by-cons}
use Rattle.std.specs.FinMap as map_of
use Rattle.std.specs.Prelude.{slice_index}
use Rattle.ring.specs.Order.{Follows}
use Rattle.ring.specs.Lists.{In}
use Rattle.ring.specs.Values.{Comes, comes, AllCome, none, more, total_step}
use Rattle.ring.proofs.Ends.{in_cases}
use Rattle.ring.proofs.Sums.{follows_at}
use Rattle.tk_io.specs.Order.{text_cmp}
use Rattle.token_tree.specs.Tree.{Child, a_token, a_group, Group, Children, no_children, child, children_of}
use Rattle.group_inherit.specs.declared.targets.Row.{Row}
use Rattle.group_inherit.specs.Answer.{most_levels, most_told, IsCounted, IsLow}
use Rattle.group_inherit.specs.Extension.{GroupPath, at_path, needs_of, needs, name_of_group, names_of_groups, group_names, children_in, how_many, count_of, token_height, tokens_height, greatest, greatest_raised, height_of, Heights}
use Rattle.group_inherit.specs.inner.Numbering.{GroupAt, numbered_group, numbered_path, IsNumbering, IsRowOf, numbers_of, needs_by}
use Rattle.group_inherit.specs.inner.Outcomes.{IsHeight, HoldsHeight, own_counts}
use Rattle.group_inherit.proofs.Trees.{root_path, at_tree, row_needs}

sum_cons : (x : ℕ) (xs : List ℕ) → sum (x ∷ xs) ≡ x + sum xs
sum_cons x xs = sum_by-cons (λ (y : ℕ). y) x xs

-- A group is not higher than it has members.

one_child : (name : List ℕ) (c : Child) → token_height c + length (name_of_group name c) ≡ 1
one_child name (a_token d) = refl
one_child name (a_group g) = refl

pub child_names : (cs : Children) → length (names_of_groups cs) ≤ how_many cs
child_names no_children = omega arith
child_names (child name c cs) = omega (arith, length-append (name_of_group name c) (names_of_groups cs), one_child name c, child_names cs)

-- a token is there where there are more members than child groups
pub tokens_there : (cs : Children) → tokens_height cs ≡ min 1 (how_many cs - length (names_of_groups cs))
tokens_there no_children = refl
tokens_there (child name c cs) = omega (arith, length-append (name_of_group name c) (names_of_groups cs), one_child name c, child_names cs, tokens_there cs)

greatest_most : (hs : List ℕ) → greatest hs ≤ sum hs
greatest_most [] = omega arith
greatest_most (h ∷ hs) = omega (arith, sum_cons h hs, greatest_most hs)

raised_most : (names : List (List ℕ)) (hs : List ℕ) → greatest_raised names hs ≤ length names + sum hs
raised_most [] hs = omega (arith, greatest_most hs)
raised_most (name ∷ names) [] = omega arith
raised_most (name ∷ names) (h ∷ hs) = omega (arith, sum_cons h hs, raised_most names hs)

module _ {N : Type 0} (needs : N → List N) (at : N → Group) where
  mutual
    pub no_higher : (v : N) {n h : ℕ} → Comes needs (λ w xs. count_of (at w) xs) v n → Comes needs (λ w xs. height_of (at w) xs) v h → h ≤ n
    no_higher v (comes {xs = ns} a) (comes {xs = hs} b) =
        omega (arith, none_higher (needs v) a b, raised_most (group_names (at v)) hs, child_names (children_in (at v)), tokens_there (children_in (at v)))

    none_higher : (ws : List N) {ns hs : List ℕ} → AllCome needs (λ w xs. count_of (at w) xs) ws ns → AllCome needs (λ w xs. height_of (at w) xs) ws hs → sum hs ≤ sum ns
    none_higher [] none none = omega arith
    none_higher (w ∷ ws) (more {x = n} {xs = ns} a as') (more {x = h} {xs = hs} b bs) = omega (arith, sum_cons n ns, sum_cons h hs, no_higher w a b, none_higher ws as' bs)

-- Totals of the numbers of members are counts.

own_at : (nodes : List GroupAt) (v : ℕ) → slice_index (own_counts nodes) v ≡ how_many (children_in (numbered_group nodes v))
own_at [] v = refl
own_at (n ∷ ns) zero = refl
own_at (n ∷ ns) (suc v) = own_at ns v

pub counts_are : (nodes : List GroupAt) (needs : ℕ → List ℕ) (v n : ℕ) → Comes needs (total_step (own_counts nodes)) v n → Comes needs (λ w xs. count_of (numbered_group nodes w) xs) v n
counts_are nodes needs v n c = subst (λ (f : ℕ → List ℕ → ℕ). Comes needs f v n) (λ i. λ w xs. own_at nodes w i + sum xs) c

-- how many children there are
pub children_many : (es : List (List ℕ × Child)) → how_many (children_of es) ≡ length es
children_many [] = refl
children_many (e ∷ es) = ap suc (children_many es)

pub many_of : (m : map_of.FinMap text_cmp Child) → how_many (children_of (map_of.entries m)) ≡ map_of.len m
many_of m = children_many (map_of.entries m) ∙ sym (map_of.len-entries m)

pub own_more : (nodes : List GroupAt) (i : ℕ) (n : GroupAt) (own grown : List ℕ) (k : ℕ) → drop i nodes ≡ n ∷ drop (i + 1) nodes → k ≡ how_many (children_in n.1) → grown ≡ own ++ k ∷ [] →
    own ++ own_counts (drop i nodes) ≡ own_counts nodes → grown ++ own_counts (drop (i + 1) nodes) ≡ own_counts nodes
own_more nodes i n own grown k first is made e =
    let rest = own_counts (drop (i + 1) nodes) in
    ap (λ (xs : List ℕ). xs ++ rest) made
    ∙ (append_assoc own (k ∷ []) rest
    ∙ (ap (λ (x : ℕ). own ++ x ∷ rest) is
    ∙ (ap (λ (ns : List GroupAt). own ++ own_counts ns) (sym first) ∙ e)))

-- Heights, need by need.

step : (names : List (List ℕ)) (i h x r : ℕ) (xs : List ℕ) → i < length names → r ≡ min (x + 1) (2 ^ 64 - 1) →
    min (max (max h r) (greatest_raised (drop (suc i) names) xs)) most_told ≡ min (max h (greatest_raised (drop i names) (x ∷ xs))) most_told
step [] i h x r xs k a = absurd (omega (arith, k))
step (n ∷ ns) zero h x r xs k a = omega (arith, a)
step (n ∷ ns) (suc i) h x r xs k a = step ns i h x r xs (omega (arith, k)) a

pub raise_step : (names : List (List ℕ)) (i h x r : ℕ) (xs : List ℕ) → i < length names → r ≡ min (x + 1) (2 ^ 64 - 1) →
    min (max (max h r) (greatest_raised (drop (i + 1) names) xs)) most_told ≡ min (max h (greatest_raised (drop i names) (x ∷ xs))) most_told
raise_step names i h x r xs k a = ap (λ (j : ℕ). min (max (max h r) (greatest_raised (drop j names) xs)) most_told) (add-one i) ∙ step names i h x r xs k a

capped : (a s h r q : ℕ) → s ≡ min h most_told → min (max (max a h) r) most_told ≡ min (max (max a h) q) most_told → min (max a (max s r)) most_told ≡ min (max a (max h q)) most_told
capped a s h r q e ih = omega (arith, ih, e)

max_join : (a b c : ℕ) → max a (max b c) ≡ max (max a b) c
max_join a b c = omega arith

at_most : (a s r : ℕ) → most_told ≤ s → min (max a (max (s + 1) r)) most_told ≡ most_told
at_most a s r h = omega (arith, h)

capped_up : (a s h r q : ℕ) → s ≡ min h most_told → min (max (max a (h + 1)) r) most_told ≡ min (max (max a (h + 1)) q) most_told → min (max a (max (s + 1) r)) most_told ≡ min (max a (max (h + 1) q)) most_told
capped_up a s h r q e ih = elim (cases_lt most_told h) [
  | inl k ↦ at_most a s r (omega (arith, e, k)) ∙ sym (at_most a h q (omega (arith, k)))
  | inr k ↦
      (let same : s ≡ h = omega (arith, e, k) in
      ap (λ (x : ℕ). min (max a (max (x + 1) r)) most_told) same
      ∙ (ap (λ (x : ℕ). min x most_told) (max_join a (h + 1) r) ∙ (ih ∙ ap (λ (x : ℕ). min x most_told) (sym (max_join a (h + 1) q)))))
]

module _ (tree : Group) (nodes : List GroupAt) (table : List ℕ) where
  -- the heights of which the table shows the capped ones
  record Behind (ws : List ℕ) : Type 0 where
    heights : List ℕ
    come : AllCome (needs tree) (λ path hs. height_of (at_path tree path) hs) (map (numbered_path nodes) ws) heights
    same : (a : ℕ) → min (max a (greatest (map (λ w. get_or table w 0) ws))) most_told ≡ min (max a (greatest heights)) most_told
    raised : (names : List (List ℕ)) (a : ℕ) → min (max a (greatest_raised names (map (λ w. get_or table w 0) ws))) most_told ≡ min (max a (greatest_raised names heights)) most_told

  behind : (ws : List ℕ) → ((w : ℕ) → In w ws → IsHeight tree (numbered_path nodes w) (get_or table w 0)) → Behind ws
  behind [] known = record { heights = []; come = none; same = λ a. refl; raised = no_names }
    where
      no_names : (names : List (List ℕ)) (a : ℕ) → min (max a (greatest_raised names [])) most_told ≡ min (max a (greatest_raised names [])) most_told
      no_names names a = refl
  behind (w ∷ ws) known =
      let first = known w (inl refl) in
      let b = behind ws (λ v i. known v (inr i)) in
      let shown : get_or table w 0 ≡ min first.0 most_told = first.2 in
      let same : (a : ℕ) → min (max a (max (get_or table w 0) (greatest (map (λ v. get_or table v 0) ws)))) most_told ≡ min (max a (max first.0 (greatest b.heights))) most_told =
      λ a. capped a (get_or table w 0) first.0 (greatest (map (λ v. get_or table v 0) ws)) (greatest b.heights) shown (b.same (max a first.0)) in
      record {
        heights = first.0 ∷ b.heights;
        come = more first.1 b.come;
        same = same;
        raised = each (get_or table w 0) first.0 (map (λ v. get_or table v 0) ws) b.heights shown same b.raised;
      }
    where
      each : (s h : ℕ) (ss hs : List ℕ) → s ≡ min h most_told → ((a : ℕ) → min (max a (max s (greatest ss))) most_told ≡ min (max a (max h (greatest hs))) most_told) →
          ((names : List (List ℕ)) (a : ℕ) → min (max a (greatest_raised names ss)) most_told ≡ min (max a (greatest_raised names hs)) most_told) →
          (names : List (List ℕ)) (a : ℕ) → min (max a (greatest_raised names (s ∷ ss))) most_told ≡ min (max a (greatest_raised names (h ∷ hs))) most_told
      each s h ss hs e same raised [] a = same a
      each s h ss hs e same raised (n ∷ ns) a = capped_up a s h (greatest_raised ns ss) (greatest_raised ns hs) e (raised ns (max a (h + 1)))

  height_more : (path : GroupPath) (g : Group) (ws : List ℕ) (total : ℕ) → at_path tree path ≡ g → map (numbered_path nodes) ws ≡ needs_of path g →
      ((w : ℕ) → In w ws → IsHeight tree (numbered_path nodes w) (get_or table w 0)) → total ≡ min (height_of g (map (λ w. get_or table w 0) ws)) most_told → IsHeight tree path total
  height_more path g ws total at needed known is =
      let b = behind ws known in
      let step : GroupPath → List ℕ → ℕ = λ p hs. height_of (at_path tree p) hs in
      let come : AllCome (needs tree) step (needs tree path) b.heights =
      subst (λ (ps : List GroupPath). AllCome (needs tree) step ps b.heights) (needed ∙ ap (needs_of path) (sym at)) b.come in
      (step path b.heights, comes come, is ∙ (b.raised (group_names g) (tokens_height (children_in g)) ∙ ap (λ (h : Group). min (height_of h b.heights) most_told) (sym at)))

-- a row more of the table
pub heights_more : (nodes : List GroupAt) → IsNumbering nodes → (rows : List Row) (table order : List ℕ) (k v total : ℕ) (row : Row) → IsRowOf nodes v row → needs_by rows v ≡ numbers_of row →
    Follows (needs_by rows) [] order → k < length order → v ≡ get_or order k 0 → v < length nodes → v < length table →
    ((u : ℕ) → In u (take k order) → HoldsHeight nodes table u) →
    total ≡ min (height_of (numbered_group nodes v) (map (λ w. get_or table w 0) (numbers_of row))) most_told →
    (u : ℕ) → In u (take (k + 1) order) → HoldsHeight nodes (set table v total) u
heights_more nodes n rows table order k v total row of own f h e there within known is u i =
    elim (cases_eq u v) [
      | inl p ↦ subst (λ (x : ℕ). HoldsHeight nodes (set table v total) x) (sym p) (subst (IsHeight (numbered_group nodes 0) (numbered_path nodes v)) (sym (get_or-set_same table v total 0 within)) here)
      | inr q ↦ subst (IsHeight (numbered_group nodes 0) (numbered_path nodes u)) (sym (get_or-set_other table v u total 0 q)) (known u (before q))
    ]
  where
    here : IsHeight (numbered_group nodes 0) (numbered_path nodes v) total
    here =
        height_more (numbered_group nodes 0) nodes table (numbered_path nodes v) (numbered_group nodes v) (numbers_of row) total (at_tree (numbered_group nodes 0) nodes n.all n.named v there) (row_needs nodes v row of)
        (λ w j. known w (follows_at (needs_by rows) [] order k f h w (subst (λ (x : ℕ). In w (needs_by rows x)) e (subst (In w) (sym own) j)))) is

    before : (u ≡ v → ⊥) → In u (take k order)
    before q = elim (in_cases (take k order) (get_or order k 0 ∷ []) u (subst (λ (xs : List ℕ). In u xs) (take_more order k 0 h) i)) [
      | inl j ↦ j
      | inr j ↦ elim j [ inl p ↦ absurd (q (p ∙ sym e)) | inr z ↦ absurd z ]
    ]

-- the height of the root, by its path
pub root_height : (nodes : List GroupAt) → IsNumbering nodes → (table : List ℕ) → HoldsHeight nodes table 0 → IsHeight (numbered_group nodes 0) [] (get_or table 0 0)
root_height nodes n table t = subst (λ (p : GroupPath). IsHeight (numbered_group nodes 0) p (get_or table 0 0)) (root_path (numbered_group nodes 0) nodes n.all n.named) t

-- a height that is too large is told as it is, since there are not more levels than members
pub height_fault : (tree : Group) (shown : ℕ) → IsHeight tree [] shown → IsCounted tree → most_levels < shown → Heights tree [] shown
height_fault tree shown t n h =
    let low = no_higher (needs tree) (at_path tree) [] n.1 t.1 in
    let same : shown ≡ t.0 = omega (arith, low, n.2, t.2) in
    subst (Heights tree []) (sym same) t.1

pub height_ok : (tree : Group) (shown : ℕ) → IsHeight tree [] shown → shown ≤ most_levels → IsLow tree
height_ok tree shown t h = (t.0, t.1, omega (arith, h, t.2))

pub in_all : (P : ℕ → Type 0) (xs : List ℕ) (w : ℕ) → All P xs → In w xs → P w
in_all P [] w a i = absurd i
in_all P (x ∷ xs) w a (inl e) = subst P (sym e) (All-head P x xs a)
in_all P (x ∷ xs) w a (inr i) = in_all P xs w (All-tail P x xs a) i
