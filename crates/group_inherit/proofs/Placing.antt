-- Numbers by paths, and rows of numbers.
use Rattle.std.proofs.Common.{◌≡◌, ℕ, ◌+◌, ◌<◌, ◌≤◌, true, false, cond, List, [], ◌∷◌, ◌++◌, Option, Some, None, option_map, is_some, inl, inr, refl, sym, ap, ◌∙◌, subst, map, length, get_or, drop, arith, append-nil, append_assoc, Vec, Global, slice_get, Ordering, Less, Equal, Greater, is_eq}
use Rattle.std.proofs.lemmas.Bool.{cases_Bool, cases_eq, false≢true}
use Rattle.std.proofs.lemmas.List.{map_push, drop_all, drop_more}
use Rattle.std.proofs.lemmas.Option.{none-some, same_Some}
use Rattle.std.specs.BTreeMap.{is_at}
use Rattle.std.specs.Cmp.{tied_itself}
use Rattle.std.specs.Cmp.Lexicographic.{lists_total, nat_list_cmp_total}
use Rattle.std.specs.FinMap as map_of
use Rattle.std.specs.FinMap.{slice_cmp-IsAntisymmetric, nat_cmp-IsAntisymmetric}
use Rattle.tk_io.specs.Order.{names_cmp}
use Rattle.token_tree.specs.Tree.{Definition, Extension, Child, a_token, a_group, Group, children_of}
use Rattle.token_tree.specs.View.{child_view, member_view}
use Rattle.token_tree.specs.declared.tree.Member.{Member}
use Rattle.group_inherit.specs.declared.fault.TreeFault.{TreeFault}
use Rattle.group_inherit.specs.declared.fault.TreeFault.TheVariants.{ExtendsTarget, ExtendsCycle, TooManyTokens, TooHigh, NoMemory}
use Rattle.group_inherit.specs.declared.numbered.Node.{Node}
use Rattle.group_inherit.specs.declared.targets.Row.{Row}
use Rattle.group_inherit.specs.inner.Faults.{IsLostTarget}
use Rattle.group_inherit.specs.Extension.{GroupPath, Lost, extension_of, names_of_groups, group_names, lost_unless, lost_at}
use Rattle.group_inherit.specs.inner.Numbering.{GroupAt, numbered_path, Places, ArePlaces, AreNumbered, EachNumbered, IsRow, EachRow, numbers_of, has_number, lost_of, lost_nodes}
use Rattle.group_inherit.specs.inner.View.{group_node_view}
use Rattle.group_inherit.proofs.Numbers.{Entries}
use Rattle.group_inherit.proofs.Turns.{first_entry, no_entry, first_left}

tied : (r : Ordering) → is_eq r ≡ true → r ≡ Equal
tied Less e = cc
tied Equal e = refl
tied Greater e = cc

pub same_path_at : (p q : GroupPath) → is_at (names_cmp p) q ≡ true → p ≡ q
same_path_at p q e = slice_cmp-IsAntisymmetric (slice_cmp-IsAntisymmetric nat_cmp-IsAntisymmetric) p q (tied (names_cmp p q) e)

pub path_itself : (p : GroupPath) → is_at (names_cmp p) p ≡ true
path_itself p = ap is_eq (tied_itself (lists_total nat_list_cmp_total) p)

pub no_places : (nodes : List GroupAt) (m : Places) → m ≡ map_of.empty → ArePlaces nodes 0 m
no_places nodes m e = record {
  found = λ path v f. absurd (none-some v (sym (ap (λ (x : Places). map_of.get x path) e ∙ map_of.get-empty names_cmp path) ∙ f));
  missing = λ path v f h k. absurd (omega (arith, h));
}

module _ (nodes : List GroupAt) (n : ℕ) (old new : Places) (p : GroupPath) (is : numbered_path nodes n ≡ p)
    (at : (q : GroupPath) → map_of.get new q ≡ cond (is_at (names_cmp p) q) (Some n) (map_of.get old q)) where
  at_it : (q : GroupPath) → is_at (names_cmp p) q ≡ true → map_of.get new q ≡ Some n
  at_it q t = at q ∙ ap (λ b. cond b (Some n) (map_of.get old q)) t

  at_other : (q : GroupPath) → is_at (names_cmp p) q ≡ false → map_of.get new q ≡ map_of.get old q
  at_other q t = at q ∙ ap (λ b. cond b (Some n) (map_of.get old q)) t

  pub one_place_more : ArePlaces nodes n old → ArePlaces nodes (n + 1) new
  one_place_more o = record {
    found = λ q v e. elim (cases_Bool (is_at (names_cmp p) q)) [
      | inl t ↦
          (let s : n ≡ v = same_Some n v (sym (at_it q t) ∙ e) in
          (omega (arith, s), ap (numbered_path nodes) (sym s) ∙ (is ∙ same_path_at p q t)))
      | inr t ↦
          (let f = o.found q v (sym (at_other q t) ∙ e) in
          (omega (arith, f.0), f.1))
    ];
    missing = λ q v e h k. elim (cases_Bool (is_at (names_cmp p) q)) [
      | inl t ↦ none-some n (sym e ∙ at_it q t)
      | inr t ↦ elim (cases_eq v n) [
        | inl s ↦ false≢true (sym t ∙ (ap (λ (x : GroupPath). is_at (names_cmp p) x) (sym k ∙ (ap (numbered_path nodes) s ∙ is)) ∙ path_itself p))
        | inr s ↦ o.missing q v (sym (at_other q t) ∙ e) (omega (arith, h, s)) k
      ]
    ];
  }

-- The child groups of a group, one after the other.

pub record Kids (places : Places) (path : GroupPath) (all : List (Option ℕ)) (row : List ℕ) (left : Entries) : Type 0 where
  pub numbers : map (λ (v : ℕ). Some v) row ++ map (λ (n : List ℕ). map_of.get places (path ++ n ∷ [])) (names_of_groups (children_of left)) ≡ all
  pub known : AreNumbered places path (children_of left)

module _ (places : Places) (path : GroupPath) (all : List (Option ℕ)) where
  kid_token : (row : List ℕ) (name : List ℕ) (c : Child) (left : Entries) (d : Definition) → c ≡ a_token d → Kids places path all row ((name, c) ∷ left) → Kids places path all row left
  kid_token row name c left d is k =
      let q : Kids places path all row ((name, a_token d) ∷ left) = subst (λ (x : Child). Kids places path all row ((name, x) ∷ left)) is k in
      record { numbers = q.numbers; known = q.known.1 }

  kid_known : (row : List ℕ) (name : List ℕ) (c : Child) (left : Entries) (g : Group) → c ≡ a_group g → Kids places path all row ((name, c) ∷ left) → (v : ℕ) × (map_of.get places (path ++ name ∷ []) ≡ Some v)
  kid_known row name c left g is k =
      let q : Kids places path all row ((name, a_group g) ∷ left) = subst (λ (x : Child). Kids places path all row ((name, x) ∷ left)) is k in
      q.known.0

  kid_group : (row more : List ℕ) (name : List ℕ) (c : Child) (left : Entries) (g : Group) (v : ℕ) → c ≡ a_group g → Some v ≡ map_of.get places (path ++ name ∷ []) → more ≡ row ++ v ∷ [] →
      Kids places path all row ((name, c) ∷ left) → Kids places path all more left
  kid_group row more name c left g v is found made k =
      let q : Kids places path all row ((name, a_group g) ∷ left) = subst (λ (x : Child). Kids places path all row ((name, x) ∷ left)) is k in
      let rest = map (λ (n : List ℕ). map_of.get places (path ++ n ∷ [])) (names_of_groups (children_of left)) in
      let some = map (λ (x : ℕ). Some x) row in
      record {
        numbers =
            ap (λ (xs : List ℕ). map (λ (x : ℕ). Some x) xs ++ rest) made
            ∙ (ap (λ (xs : List (Option ℕ)). xs ++ rest) (map_push (λ (x : ℕ). Some x) row v)
            ∙ (append_assoc some (Some v ∷ []) rest ∙ (ap (λ (o : Option ℕ). some ++ o ∷ rest) found ∙ q.numbers)));
        known = q.known.1;
      }

  -- a turn over the members of the group
  module _ (items : List Member) (es : Entries) (same : map member_view items ≡ es) (i : ℕ) (row : List ℕ) (k : Kids places path all row (drop i es)) where
    module _ (x : Member) (h : i < length items) (is : x ≡ get_or items i x) where
      here : Kids places path all row (member_view x ∷ drop (i + 1) es)
      here = subst (Kids places path all row) (first_entry items es i x same h is) k

      pub turn_token : (d : Definition) → child_view x.child ≡ a_token d → Kids places path all row (drop (i + 1) es)
      turn_token d e = kid_token row x.name (child_view x.child) (drop (i + 1) es) d e here

      pub turn_known : (g : Group) → child_view x.child ≡ a_group g → (v : ℕ) × (map_of.get places (path ++ x.name ∷ []) ≡ Some v)
      turn_known g e = kid_known row x.name (child_view x.child) (drop (i + 1) es) g e here

      pub turn_group : (more : List ℕ) (g : Group) (v : ℕ) → child_view x.child ≡ a_group g → Some v ≡ map_of.get places (path ++ x.name ∷ []) → more ≡ row ++ v ∷ []
          → Kids places path all more (drop (i + 1) es)
      turn_group more g v e found made = kid_group row more x.name (child_view x.child) (drop (i + 1) es) g v e found made here

    pub all_kids : length items ≤ i → map (λ (v : ℕ). Some v) row ≡ all
    all_kids h =
        let gone : Kids places path all row [] = subst (Kids places path all row) (no_entry items es i same h) k in
        sym (append-nil (map (λ (v : ℕ). Some v) row)) ∙ gone.numbers

-- The child groups and the target.

module _ (places : Places) (n : GroupAt) (row : List ℕ)
    (children : map (λ (v : ℕ). Some v) row ≡ map (λ (name : List ℕ). map_of.get places (n.0 ++ name ∷ [])) (group_names n.1)) where
  children_row : (names : List (List ℕ)) → map (λ (name : List ℕ). map_of.get places (n.0 ++ name ∷ [])) names ≡ map (map_of.get places) (map (λ (name : List ℕ). n.0 ++ name ∷ []) names)
  children_row [] = refl
  children_row (x ∷ xs) = ap (λ (os : List (Option ℕ)). map_of.get places (n.0 ++ x ∷ []) ∷ os) (children_row xs)

  pub row_without : (made : Row) → made.children.items ≡ row → made.target ≡ None → extension_of n.1 ≡ None → IsRow places n made × (lost_of places n ≡ [])
  row_without made is none e = (
    record {
      children = ap (map (λ (v : ℕ). Some v)) is ∙ (children ∙ children_row (group_names n.1));
      target = ap (option_map (λ (v : ℕ). Some v)) none ∙ ap (λ (o : Option Extension). option_map (map_of.get places) (option_map (λ x. x.target) o)) (sym e);
    },
    ap (lost_at (has_number places) n.0) e,
  )

  pub row_with : (made : Row) (x : Extension) (v : ℕ) → made.children.items ≡ row → made.target ≡ Some v → extension_of n.1 ≡ Some x → map_of.get places x.target ≡ Some v → IsRow places n made × (lost_of places n ≡ [])
  row_with made x v is some e f = (
    record {
      children = ap (map (λ (y : ℕ). Some y)) is ∙ (children ∙ children_row (group_names n.1));
      target =
          ap (option_map (λ (y : ℕ). Some y)) some
          ∙ (ap (λ (o : Option ℕ). Some o) (sym f)
          ∙ ap (λ (o : Option Extension). option_map (map_of.get places) (option_map (λ y. y.target) o)) (sym e));
    },
    ap (lost_at (has_number places) n.0) e ∙ ap (λ (o : Option ℕ). lost_unless (is_some o) n.0 x) f,
  )

pub row_lost : (places : Places) (n : GroupAt) (x : Extension) → extension_of n.1 ≡ Some x → map_of.get places x.target ≡ None → lost_of places n ≡ (record { path = n.0; extension = x }) ∷ []
row_lost places n x e f = ap (lost_at (has_number places) n.0) e ∙ ap (λ (o : Option ℕ). lost_unless (is_some o) n.0 x) f

-- Rows, one after the other.

pub record Rowing (places : Places) (nodes : List GroupAt) (rows : List Row) (left : List GroupAt) : Type 0 where
  pub rows_are : (rest : List Row) → EachRow places left rest → EachRow places nodes (rows ++ rest)
  pub sound : lost_nodes places left ≡ lost_nodes places nodes
  pub known : EachNumbered places left

-- the turn's node is the first of those that are left
pub next_row : (places : Places) (all : List GroupAt) (rows : List Row) (nodes : List Node) (i : ℕ) (x : Node) → i < length nodes → x ≡ get_or nodes i x
    → Rowing places all rows (drop i (map group_node_view nodes)) → Rowing places all rows (group_node_view x ∷ drop (i + 1) (map group_node_view nodes))
next_row places all rows nodes i x h e = subst (Rowing places all rows) (first_left group_node_view nodes i x h e)

pub one_row_more : (places : Places) (nodes : List GroupAt) (rows more : List Row) (n : GroupAt) (left : List GroupAt) (row : Row) → Rowing places nodes rows (n ∷ left) → IsRow places n row → lost_of places n ≡ [] → more ≡ rows ++ row ∷ [] → Rowing places nodes more left
one_row_more places nodes rows more n left row r is none made = record {
  rows_are = λ rest e. subst (λ (xs : List Row). EachRow places nodes xs) (sym (ap (λ (xs : List Row). xs ++ rest) made ∙ append_assoc rows (row ∷ []) rest)) (r.rows_are (row ∷ rest) (is, e));
  sound = ap (λ (xs : List Lost). xs ++ lost_nodes places left) (sym none) ∙ r.sound;
  known = r.known.1;
}

first_joined : (xs ys : List Lost) (l : Lost) → slice_get xs 0 ≡ Some l → slice_get (xs ++ ys) 0 ≡ Some l
first_joined [] ys l e = absurd (none-some l e)
first_joined (x ∷ xs) ys l e = e

pub lost_first : (xs ys : List Lost) (f : TreeFault) → IsLostTarget xs f → IsLostTarget (xs ++ ys) f
lost_first xs ys (ExtendsTarget path span) h = (h.0, first_joined xs ys _ h.1, h.2)
lost_first xs ys (ExtendsCycle ring span) h = absurd h
lost_first xs ys (TooManyTokens shown) h = absurd h
lost_first xs ys (TooHigh height) h = absurd h
lost_first xs ys NoMemory h = tt

-- Lists of numbers, one after the other.

pub one_list_more : (rows : List Row) (i : ℕ) (row : Row) (lists more : List (Vec ℕ Global)) (list : Vec ℕ Global) → i < length rows → row ≡ get_or rows i row → list.items ≡ numbers_of row → more ≡ lists ++ list ∷ []
    → map (λ l. l.items) lists ++ map numbers_of (drop i rows) ≡ map numbers_of rows → map (λ l. l.items) more ++ map numbers_of (drop (i + 1) rows) ≡ map numbers_of rows
one_list_more rows i row lists more list h e is made so =
    let left = map numbers_of (drop (i + 1) rows) in
    let first : drop i rows ≡ row ∷ drop (i + 1) rows = drop_more rows i row h ∙ ap (λ (r : Row). r ∷ drop (i + 1) rows) (sym e) in
    ap (λ (ls : List (Vec ℕ Global)). map (λ l. l.items) ls ++ left) made
    ∙ (ap (λ (ls : List (List ℕ)). ls ++ left) (map_push (λ (l : Vec ℕ Global). l.items) lists list)
    ∙ (append_assoc (map (λ l. l.items) lists) (list.items ∷ []) left
    ∙ (ap (λ (l : List ℕ). map (λ l. l.items) lists ++ l ∷ left) is
    ∙ (ap (λ (rs : List Row). map (λ l. l.items) lists ++ map numbers_of rs) (sym first) ∙ so))))

pub all_listed : (rows : List Row) (i : ℕ) (lists : List (Vec ℕ Global)) → length rows ≤ i → map (λ l. l.items) lists ++ map numbers_of (drop i rows) ≡ map numbers_of rows → map (λ l. l.items) lists ≡ map numbers_of rows
all_listed rows i lists h so =
    sym (append-nil (map (λ l. l.items) lists)) ∙ (ap (λ (rs : List Row). map (λ l. l.items) lists ++ map numbers_of rs) (sym (drop_all i rows h)) ∙ so)
