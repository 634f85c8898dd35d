-- The turns of a loop over the entries of a map.
use Rattle.std.proofs.Common.{◌≡◌, ℕ, ◌+◌, ◌<◌, ◌≤◌, List, [], ◌∷◌, map, drop, length, get_or, sym, ap, ◌∙◌, subst, arith, drop-cons, add-one}
use Rattle.std.proofs.lemmas.List.{get_or-map, drop_all, length-map}
use Rattle.std.specs.FinMap as finite
use Rattle.token_tree.specs.Tree.{Child as ChildData, Named, children_of}
use Rattle.token_tree.specs.View.{child_view, member_view}
use Rattle.token_tree.specs.declared.tree.Member.{Member}
use Rattle.group_inherit.specs.Putting.{put_all}
use Rattle.group_inherit.proofs.Weights.{child_weight, children_weight, member_lighter}

-- the item of a turn is the first of those left
pub first_left : {A B : Type 0} (v : A → B) (xs : List A) (i : ℕ) (x : A) → i < length xs → x ≡ get_or xs i x → drop i (map v xs) ≡ v x ∷ drop (i + 1) (map v xs)
first_left v xs i x h e =
    let within : i < length (map v xs) = omega (arith, h, length-map xs v) in
    let cut : drop i (map v xs) ≡ get_or (map v xs) i (v x) ∷ drop (i + 1) (map v xs) = rw add-one (drop-cons (map v xs) i (v x) within) in
    cut ∙ ap (λ y. y ∷ drop (i + 1) (map v xs)) (get_or-map v xs i x (v x) h ∙ ap v (sym e))

-- at the end none is left
pub none_left : {A B : Type 0} (v : A → B) (xs : List A) (i : ℕ) → length xs ≤ i → drop i (map v xs) ≡ []
none_left v xs i h = drop_all i (map v xs) (omega (arith, h, length-map xs v))

-- the same of the entries that members show
pub first_entry : (items : List Member) (es : List (List ℕ × ChildData)) (i : ℕ) (x : Member) → map member_view items ≡ es → i < length items → x ≡ get_or items i x
    → drop i es ≡ member_view x ∷ drop (i + 1) es
first_entry items es i x same h e = subst (λ (l : List (List ℕ × ChildData)). drop i l ≡ member_view x ∷ drop (i + 1) l) same (first_left member_view items i x h e)

pub no_entry : (items : List Member) (es : List (List ℕ × ChildData)) (i : ℕ) → map member_view items ≡ es → length items ≤ i → drop i es ≡ []
no_entry items es i same h = subst (λ (l : List (List ℕ × ChildData)). drop i l ≡ []) same (none_left member_view items i h)

-- an entry of a group is lighter than all
pub entry_lighter : (items : List Member) (es : List (List ℕ × ChildData)) (i : ℕ) (x : Member) → map member_view items ≡ es → i < length items → x ≡ get_or items i x
    → child_weight (child_view x.child) + 2 < children_weight (children_of es)
entry_lighter items es i x same h e = member_lighter es (drop (i + 1) (map member_view items)) i (member_view x) (ap (drop i) (sym same) ∙ first_left member_view items i x h e)

-- What is made of the entries that are left is put one after the other: a turn that puts an entry, and one that puts none.
pub turn : (F : List (List ℕ × ChildData) → List (List ℕ × ChildData)) (items : List Member) (i : ℕ) (x : Member) (k : List ℕ) (v : ChildData) (old new : Named)
    → i < length items → x ≡ get_or items i x → F (member_view x ∷ drop (i + 1) (map member_view items)) ≡ (k, v) ∷ F (drop (i + 1) (map member_view items)) → new ≡ finite.insert old k v
    → put_all (F (drop (i + 1) (map member_view items))) new ≡ put_all (F (drop i (map member_view items))) old
turn F items i x k v old new h e step is =
    ap (put_all (F (drop (i + 1) (map member_view items)))) is
    ∙ (ap (λ l. put_all l old) (sym step) ∙ ap (λ l. put_all (F l) old) (sym (first_left member_view items i x h e)))

pub skip : (F : List (List ℕ × ChildData) → List (List ℕ × ChildData)) (items : List Member) (i : ℕ) (x : Member) (m : Named)
    → i < length items → x ≡ get_or items i x → F (member_view x ∷ drop (i + 1) (map member_view items)) ≡ F (drop (i + 1) (map member_view items))
    → put_all (F (drop (i + 1) (map member_view items))) m ≡ put_all (F (drop i (map member_view items))) m
skip F items i x m h e step = ap (λ l. put_all l m) (sym step) ∙ ap (λ l. put_all (F l) m) (sym (first_left member_view items i x h e))
