-- Two lists of members in byte order of names, merged in one pass.
use Rattle.std.proofs.Common.{◌≡◌, ℕ, true, false, cond, T, List, [], ◌∷◌, Option, Some, None, inl, inr, ◌⊎◌, length, arith, refl, sym, ap, ap₂, subst, ◌∙◌, ◌+◌, ◌<◌, drop, get_or, Less, Equal, Greater}
use Rattle.std.proofs.Common.{map as map_list}
use Rattle.std.proofs.lemmas.List.{get_or-map, length-map}
use Rattle.std.specs.FinMap as map
use Rattle.std.specs.FinMap.Entries.{find, is_sorted, below_all}
use Rattle.std.specs.Cmp.Lexicographic.{nat_list_cmp_total}
use Rattle.std.specs.Option.{option_or}
use Rattle.std.specs.Ordering.{eq_by_cmp}
use Rattle.tk_io.specs.Order.{text_cmp}
use Rattle.tk_io.proofs.TextMaps.{text_cmp-IsAntisymmetric}
use Rattle.token_tree.specs.View.{child_view, member_view}
use Rattle.token_tree.specs.declared.tree.Member.{Member}
use Rattle.token_tree.specs.Tree.{Child, a_token, a_group, Children, no_children, child, Named, children_of}
use Rattle.group_inherit.specs.inner.Halves.{IsBeforeAll}
use Rattle.group_inherit.specs.Merging.{children_by_name, over_members, over_child, stands}
use Rattle.group_inherit.specs.Putting.{put_all}
use Rattle.group_inherit.proofs.Halves.{turned, ahead_none, stops}
use Rattle.group_inherit.proofs.Naming.{sorted_drop}
use Rattle.group_inherit.proofs.Overs.{same_name, get_named, named_entries, get_over}
use Rattle.group_inherit.proofs.Turns.{first_left}
use Rattle.group_inherit.proofs.Puts.{first, none_below, get_put_all, either_none}

abbrev pub Entry : Type 0
Entry = List ℕ × Child

abbrev pub Entries : Type 0
Entries = List Entry

-- what stands at a name, of the members that are left and of those merged so far
abbrev pub left_or : Entries → Entries → Named → List ℕ → Option Child
left_or xs ys m q = option_or (stands (find text_cmp q xs) (find text_cmp q ys)) (map.get m q)

pub over_none : (c : Child) → over_child c None ≡ c
over_none (a_token d) = refl
over_none (a_group g) = refl

lacked : (e : Entry) (es : Entries) (q : List ℕ) → T (is_sorted text_cmp (e ∷ es)) → q ≡ e.0 → find text_cmp q es ≡ None
lacked e es q s same = ap (λ k. find text_cmp k es) same ∙ none_below text_cmp e.0 es (first (below_all text_cmp e.0 es) (is_sorted text_cmp es) s)

absent : (e : Entry) (es : Entries) (q : List ℕ) → IsBeforeAll text_cmp e.0 es → q ≡ e.0 → find text_cmp q es ≡ None
absent e es q h same = ap (λ k. find text_cmp k es) same ∙ ahead_none nat_list_cmp_total e.0 es h

-- a member of the later group, whose name the earlier one does not have
pub take_later : (a : Entry) (xs ys : Entries) (m new : Named) → T (is_sorted text_cmp (a ∷ xs)) → IsBeforeAll text_cmp a.0 ys → new ≡ map.insert m a.0 a.1 → (q : List ℕ) → left_or xs ys new q ≡ left_or (a ∷ xs) ys m q
take_later a xs ys m new s h is q =
    ap (option_or (stands (find text_cmp q xs) (find text_cmp q ys))) (ap (λ n. map.get n q) is ∙ map.get-insert nat_list_cmp_total m a.0 a.1 q)
    ∙ elim (eq_by_cmp text_cmp q a.0) as (λ b. eq_by_cmp text_cmp q a.0 ≡ b → option_or (stands (find text_cmp q xs) (find text_cmp q ys)) (cond b (Some a.1) (map.get m q)) ≡ option_or (stands (cond b (Some a.1) (find text_cmp q xs)) (find text_cmp q ys)) (map.get m q)) [
      | true ↦ λ t.
          (let e : q ≡ a.0 = same_name q a.0 t in
          ap₂ (λ x y. option_or (stands x y) (Some a.1)) (lacked a xs q s e) (absent a ys q h e)
          ∙ sym (ap (λ y. option_or (stands (Some a.1) y) (map.get m q)) (absent a ys q h e) ∙ ap (λ (c : Child). Some c) (over_none a.1)))
      | false ↦ λ t. refl
    ] refl

-- a member of the earlier group, whose name the later one does not have
pub take_earlier : (b : Entry) (xs ys : Entries) (m new : Named) → T (is_sorted text_cmp (b ∷ ys)) → IsBeforeAll text_cmp b.0 xs → new ≡ map.insert m b.0 b.1 → (q : List ℕ) → left_or xs ys new q ≡ left_or xs (b ∷ ys) m q
take_earlier b xs ys m new s h is q =
    ap (option_or (stands (find text_cmp q xs) (find text_cmp q ys))) (ap (λ n. map.get n q) is ∙ map.get-insert nat_list_cmp_total m b.0 b.1 q)
    ∙ elim (eq_by_cmp text_cmp q b.0) as (λ t. eq_by_cmp text_cmp q b.0 ≡ t → option_or (stands (find text_cmp q xs) (find text_cmp q ys)) (cond t (Some b.1) (map.get m q)) ≡ option_or (stands (find text_cmp q xs) (cond t (Some b.1) (find text_cmp q ys))) (map.get m q)) [
      | true ↦ λ t.
          (let e : q ≡ b.0 = same_name q b.0 t in
          ap₂ (λ x y. option_or (stands x y) (Some b.1)) (absent b xs q h e) (lacked b ys q s e)
          ∙ sym (ap (λ x. option_or (stands x (Some b.1)) (map.get m q)) (absent b xs q h e)))
      | false ↦ λ t. refl
    ] refl

-- a member of each, under one name
pub take_both : (a b : Entry) (xs ys : Entries) (m new : Named) (c : Child) → T (is_sorted text_cmp (a ∷ xs)) → T (is_sorted text_cmp (b ∷ ys)) → text_cmp a.0 b.0 ≡ Equal → c ≡ over_child a.1 (Some b.1)
    → new ≡ map.insert m a.0 c → (q : List ℕ) → left_or xs ys new q ≡ left_or (a ∷ xs) (b ∷ ys) m q
take_both a b xs ys m new c s r tie over is q =
    let same : a.0 ≡ b.0 = text_cmp-IsAntisymmetric a.0 b.0 tie in
    ap (option_or (stands (find text_cmp q xs) (find text_cmp q ys))) (ap (λ n. map.get n q) (is ∙ ap (map.insert m a.0) over) ∙ map.get-insert nat_list_cmp_total m a.0 (over_child a.1 (Some b.1)) q)
    ∙ (elim (eq_by_cmp text_cmp q a.0) as (λ t. eq_by_cmp text_cmp q a.0 ≡ t → option_or (stands (find text_cmp q xs) (find text_cmp q ys)) (cond t (Some (over_child a.1 (Some b.1))) (map.get m q)) ≡ option_or (stands (cond t (Some a.1) (find text_cmp q xs)) (cond t (Some b.1) (find text_cmp q ys))) (map.get m q)) [
      | true ↦ λ t.
          (let e : q ≡ a.0 = same_name q a.0 t in
          ap₂ (λ x y. option_or (stands x y) (Some (over_child a.1 (Some b.1)))) (lacked a xs q s e) (lacked b ys q r (e ∙ same)))
      | false ↦ λ t. refl
    ] refl
    ∙ ap (λ k. option_or (stands (cond (eq_by_cmp text_cmp q a.0) (Some a.1) (find text_cmp q xs)) (cond (eq_by_cmp text_cmp q k) (Some b.1) (find text_cmp q ys))) (map.get m q)) same)

-- at the end one of the lists is left, or none
pub no_later : (ys : Entries) (m : Named) (q : List ℕ) → left_or [] ys m q ≡ option_or (find text_cmp q ys) (map.get m q)
no_later ys m q = refl

pub no_earlier_member : (x : Option Child) → stands x None ≡ x
no_earlier_member None = refl
no_earlier_member (Some c) = ap (λ (d : Child). Some d) (over_none c)

pub no_earlier : (xs : Entries) (m : Named) (q : List ℕ) → left_or xs [] m q ≡ option_or (find text_cmp q xs) (map.get m q)
no_earlier xs m q = ap (λ x. option_or x (map.get m q)) (no_earlier_member (find text_cmp q xs))

-- what is merged where one of the lists has come to its end, and the rest of both is put
pub all_merged : (xs ys : Entries) (i j : ℕ) (m n new : Named) → T (is_sorted text_cmp xs) → T (is_sorted text_cmp ys) → (drop i xs ≡ []) ⊎ (drop j ys ≡ [])
    → ((q : List ℕ) → left_or (drop i xs) (drop j ys) m q ≡ stands (find text_cmp q xs) (find text_cmp q ys))
    → n ≡ put_all (drop i xs) m → new ≡ put_all (drop j ys) n → (q : List ℕ) → map.get new q ≡ stands (find text_cmp q xs) (find text_cmp q ys)
all_merged xs ys i j m n new s r end at first_put last_put q =
    ap (λ k. map.get k q) last_put
    ∙ (get_put_all nat_list_cmp_total text_cmp-IsAntisymmetric (drop j ys) (sorted_drop j ys r) n q
    ∙ (ap (option_or (find text_cmp q (drop j ys))) (ap (λ k. map.get k q) first_put ∙ get_put_all nat_list_cmp_total text_cmp-IsAntisymmetric (drop i xs) (sorted_drop i xs s) m q)
    ∙ (ended end ∙ at q)))
  where
    ended : (drop i xs ≡ []) ⊎ (drop j ys ≡ []) → option_or (find text_cmp q (drop j ys)) (option_or (find text_cmp q (drop i xs)) (map.get m q)) ≡ left_or (drop i xs) (drop j ys) m q
    ended (inl e) =
        ap (λ l. option_or (find text_cmp q (drop j ys)) (option_or (find text_cmp q l) (map.get m q))) e
        ∙ sym (ap (λ l. left_or l (drop j ys) m q) e)
    ended (inr e) =
        ap (λ l. option_or (find text_cmp q l) (option_or (find text_cmp q (drop i xs)) (map.get m q))) e
        ∙ sym (ap (λ l. left_or (drop i xs) l m q) e ∙ no_earlier (drop i xs) m q)

-- the members of a map, name by name, are those of its entries
pub over_of : (later earlier made : Named) (xs ys : Entries) → xs ≡ map.entries later → ys ≡ map.entries earlier
    → ((q : List ℕ) → map.get made q ≡ stands (find text_cmp q xs) (find text_cmp q ys)) → made ≡ over_members (children_of (map.entries later)) earlier
over_of later earlier made xs ys e f at =
    map.same_map nat_list_cmp_total text_cmp-IsAntisymmetric made _ (λ q.
    at q
    ∙ (ap₂ (λ x y. stands (find text_cmp q x) (find text_cmp q y)) e f
    ∙ (ap₂ stands (sym (get_named (map.entries later) q)) (sym (map.get-entries earlier q))
    ∙ sym (get_over (children_of (map.entries later)) earlier q))))

-- nothing over a group leaves its members
pub over_nothing : (later earlier : Named) → map.len later ≡ 0 → over_members (children_of (map.entries later)) earlier ≡ earlier
over_nothing later earlier e = ap (λ l. over_members (children_of l) earlier) (nothing (map.entries later) (sym (map.len-entries later) ∙ e))
  where
    nothing : (es : Entries) → length es ≡ 0 → es ≡ []
    nothing [] h = refl
    nothing (x ∷ es) h = absurd (omega (arith, h))

-- over no members a group keeps its own

members_alone : (cs : Children) → over_members cs map.empty ≡ children_by_name cs
members_alone no_children = refl
members_alone (child name c cs) =
    ap (λ x. map.insert (over_members cs map.empty) name (over_child c x)) (map.get-empty text_cmp name)
    ∙ (ap (map.insert (over_members cs map.empty) name) (over_none c) ∙ ap (λ m. map.insert m name c) (members_alone cs))

pub over_members_alone : (later earlier : Named) → earlier ≡ map.empty → over_members (children_of (map.entries later)) earlier ≡ later
over_members_alone later earlier e =
    ap (over_members (children_of (map.entries later))) e ∙ (members_alone (children_of (map.entries later)) ∙ named_entries later)

-- nothing is merged yet
pub none_merged : (xs ys : Entries) (m : Named) → m ≡ map.empty → (q : List ℕ) → left_or xs ys m q ≡ stands (find text_cmp q xs) (find text_cmp q ys)
none_merged xs ys m e q =
    ap (option_or (stands (find text_cmp q xs) (find text_cmp q ys))) (ap (λ n. map.get n q) e ∙ map.get-empty text_cmp q) ∙ either_none (stands (find text_cmp q xs) (find text_cmp q ys))

-- The turns over two lists of members.

-- the members that a map has stand in byte order of names
pub members_sorted : (m : Named) (items : List Member) → map_list member_view items ≡ map.entries m → T (is_sorted text_cmp (map_list member_view items))
members_sorted m items same = subst (λ (l : Entries). T (is_sorted text_cmp l)) (sym same) (map.entries_sorted m)

rest_sorted : (list : List Member) (i : ℕ) (x : Member) → T (is_sorted text_cmp (map_list member_view list)) → i < length list → x ≡ get_or list i x → T (is_sorted text_cmp (member_view x ∷ drop (i + 1) (map_list member_view list)))
rest_sorted list i x s h e = subst (λ (l : Entries). T (is_sorted text_cmp l)) (first_left member_view list i x h e) (sorted_drop i (map_list member_view list) s)

before_rest : (name : List ℕ) (list : List Member) (i : ℕ) (x : Member) → T (is_sorted text_cmp (map_list member_view list)) → i < length list → x ≡ get_or list i x → text_cmp name x.name ≡ Less → IsBeforeAll text_cmp name (drop i (map_list member_view list))
before_rest name list i x s h e less =
    stops nat_list_cmp_total name (map_list member_view list) i (member_view x) s (omega (arith, h, length-map list member_view))
    (sym (get_or-map member_view list i x (member_view x) h ∙ ap member_view (sym e))) less

module _ (upper lower : List Member) (i j : ℕ) (x y : Member) (m new : Named) (s : T (is_sorted text_cmp (map_list member_view upper))) (r : T (is_sorted text_cmp (map_list member_view lower)))
    (h : i < length upper) (k : j < length lower) (x_is : x ≡ get_or upper i x) (y_is : y ≡ get_or lower j y) where
  pub later_turn : text_cmp x.name y.name ≡ Less → new ≡ map.insert m x.name (child_view x.child) → (q : List ℕ) → left_or (drop (i + 1) (map_list member_view upper)) (drop j (map_list member_view lower)) new q ≡ left_or (drop i (map_list member_view upper)) (drop j (map_list member_view lower)) m q
  later_turn less is q =
      take_later (member_view x) (drop (i + 1) (map_list member_view upper)) (drop j (map_list member_view lower)) m new (rest_sorted upper i x s h x_is) (before_rest x.name lower j y r k y_is less) is q
      ∙ ap (λ l. left_or l (drop j (map_list member_view lower)) m q) (sym (first_left member_view upper i x h x_is))

  pub earlier_turn : text_cmp x.name y.name ≡ Greater → new ≡ map.insert m y.name (child_view y.child) → (q : List ℕ) → left_or (drop i (map_list member_view upper)) (drop (j + 1) (map_list member_view lower)) new q ≡ left_or (drop i (map_list member_view upper)) (drop j (map_list member_view lower)) m q
  earlier_turn more is q =
      take_earlier (member_view y) (drop i (map_list member_view upper)) (drop (j + 1) (map_list member_view lower)) m new (rest_sorted lower j y r k y_is) (before_rest y.name upper i x s h x_is (turned nat_list_cmp_total x.name y.name more)) is q
      ∙ ap (λ l. left_or (drop i (map_list member_view upper)) l m q) (sym (first_left member_view lower j y k y_is))

  pub both_turn : (c : Child) → text_cmp x.name y.name ≡ Equal → c ≡ over_child (child_view x.child) (Some (child_view y.child)) → new ≡ map.insert m x.name c → (q : List ℕ) → left_or (drop (i + 1) (map_list member_view upper)) (drop (j + 1) (map_list member_view lower)) new q ≡ left_or (drop i (map_list member_view upper)) (drop j (map_list member_view lower)) m q
  both_turn c tie over is q =
      take_both (member_view x) (member_view y) (drop (i + 1) (map_list member_view upper)) (drop (j + 1) (map_list member_view lower)) m new c (rest_sorted upper i x s h x_is) (rest_sorted lower j y r k y_is) tie over is q
      ∙ (ap (λ l. left_or l (member_view y ∷ drop (j + 1) (map_list member_view lower)) m q) (sym (first_left member_view upper i x h x_is))
      ∙ ap (λ l. left_or (drop i (map_list member_view upper)) l m q) (sym (first_left member_view lower j y k y_is)))
