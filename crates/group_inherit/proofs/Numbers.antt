-- The list of all groups.
use Rattle.std.proofs.Common.{◌≡◌, ℕ, zero, suc, ◌+◌, ◌<◌, ◌≤◌, T, List, [], ◌∷◌, ◌++◌, length, map, get_or, ap, ◌∙◌, subst, append_assoc, drop, arith}
use Rattle.std.specs.FinMap.Entries.{is_sorted}
use Rattle.tk_io.specs.Order.{text_cmp}
use Rattle.token_tree.specs.Tree.{Definition, Child, a_token, a_group, Group, group, Children, no_children, child, children_of}
use Rattle.token_tree.specs.View.{child_view, member_view}
use Rattle.token_tree.specs.declared.tree.Member.{Member}
use Rattle.group_inherit.specs.Extension.{GroupPath, groups_from, groups_among}
use Rattle.group_inherit.specs.inner.Numbering.{GroupAt, LacksName, AreNamed, AreNamedAmong}
use Rattle.group_inherit.proofs.Naming.{sorted_drop, sorted_lacks}
use Rattle.group_inherit.proofs.Turns.{first_entry}

-- how many groups there are

abbrev mutual
  pub size_of : Group → ℕ
  size_of (group ps cs) = size_among cs + 1

  pub size_among : Children → ℕ
  size_among no_children = 0
  size_among (child name c cs) = size_in c + size_among cs

  pub size_in : Child → ℕ
  size_in (a_token d) = 0
  size_in (a_group g) = size_of g

abbrev pub Entries : Type 0
Entries = List (List ℕ × Child)

-- a child has no more groups than all children
pub size_at : (es : Entries) (i : ℕ) (e : List ℕ × Child) (rest : Entries) → drop i es ≡ e ∷ rest → size_in e.1 ≤ size_among (children_of es)
size_at [] zero e rest h = absurd (cc)
size_at [] (suc i) e rest h = absurd (cc)
size_at (f ∷ es) zero e rest h = let k : f ≡ e = cc in omega (arith, ap (λ (x : List ℕ × Child). size_in x.1) k)
size_at (f ∷ es) (suc i) e rest h = omega (arith, size_at es i e rest h)

-- What is added so far, and what is left of a group's children.

pub record Progress (path : GroupPath) (all : List GroupAt) (es : Entries) (nodes : List GroupAt) (left : Entries) : Type 0 where
  pub nodes_are : nodes ++ groups_among path (children_of left) ≡ all
  pub named : AreNamedAmong (children_of left) → AreNamedAmong (children_of es)

module _ (path : GroupPath) (all : List GroupAt) (es : Entries) where
  past_token : (nodes : List GroupAt) (name : List ℕ) (c : Child) (left : Entries) (d : Definition) → c ≡ a_token d → LacksName name (children_of left) →
      Progress path all es nodes ((name, c) ∷ left) → Progress path all es nodes left
  past_token nodes name c left d is lacks p =
      let q : Progress path all es nodes ((name, a_token d) ∷ left) = subst (λ (x : Child). Progress path all es nodes ((name, x) ∷ left)) is p in
      record { nodes_are = q.nodes_are; named = λ n. q.named (lacks, tt, n) }

  past_group : (nodes new : List GroupAt) (name : List ℕ) (c : Child) (left : Entries) (g : Group) → c ≡ a_group g → LacksName name (children_of left) →
      new ≡ nodes ++ groups_from (path ++ name ∷ []) g → AreNamed g → Progress path all es nodes ((name, c) ∷ left) → Progress path all es new left
  past_group nodes new name c left g is lacks added named p =
      let q : Progress path all es nodes ((name, a_group g) ∷ left) = subst (λ (x : Child). Progress path all es nodes ((name, x) ∷ left)) is p in
      record {
        nodes_are = ap (λ (ns : List GroupAt). ns ++ groups_among path (children_of left)) added ∙ (append_assoc nodes (groups_from (path ++ name ∷ []) g) (groups_among path (children_of left)) ∙ q.nodes_are);
        named = λ n. q.named (lacks, named, n);
      }

  -- a turn over the members of the group
  module _ (items : List Member) (same : map member_view items ≡ es) (sorted : T (is_sorted text_cmp es)) (i : ℕ) (nodes : List GroupAt) (p : Progress path all es nodes (drop i es))
      (x : Member) (h : i < length items) (is : x ≡ get_or items i x) where
    here : Progress path all es nodes (member_view x ∷ drop (i + 1) es)
    here = subst (Progress path all es nodes) (first_entry items es i x same h is) p

    lacks : LacksName x.name (children_of (drop (i + 1) es))
    lacks = sorted_lacks (member_view x) (drop (i + 1) es) (subst (λ (l : Entries). T (is_sorted text_cmp l)) (first_entry items es i x same h is) (sorted_drop i es sorted))

    pub turn_token : (d : Definition) → child_view x.child ≡ a_token d → Progress path all es nodes (drop (i + 1) es)
    turn_token d e = past_token nodes x.name (child_view x.child) (drop (i + 1) es) d e lacks here

    pub turn_group : (new : List GroupAt) (g : Group) → child_view x.child ≡ a_group g → new ≡ nodes ++ groups_from (path ++ x.name ∷ []) g → AreNamed g → Progress path all es new (drop (i + 1) es)
    turn_group new g e added named = past_group nodes new x.name (child_view x.child) (drop (i + 1) es) g e lacks added named here
