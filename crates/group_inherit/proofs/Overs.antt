-- One tree over another, name by name.
use Rattle.std.proofs.Common.{◌≡◌, ℕ, true, false, cond, List, [], ◌∷◌, Some, refl, sym, ap, ◌∙◌, Ordering, Equal, Less, Greater}
use Rattle.std.specs.FinMap as map
use Rattle.std.specs.FinMap.Entries.{find}
use Rattle.std.specs.Cmp.Lexicographic.{nat_list_cmp_total}
use Rattle.std.specs.Ordering.{eq_by_cmp, is_eq}
use Rattle.tk_io.specs.Order.{text_cmp}
use Rattle.tk_io.proofs.TextMaps.{text_cmp-IsAntisymmetric}
use Rattle.token_tree.specs.Tree.{Child, group, Children, no_children, child, Named, children_of}
use Rattle.group_inherit.specs.Merging.{children_by_name, over_members, over_child, stands}
use Rattle.group_inherit.specs.Laws.{IsOverByName}

tied : (r : Ordering) → is_eq r ≡ true → r ≡ Equal
tied Less e = cc
tied Equal e = refl
tied Greater e = cc

pub same_name : (q k : List ℕ) → eq_by_cmp text_cmp q k ≡ true → q ≡ k
same_name q k t = text_cmp-IsAntisymmetric q k (tied _ t)

pub get_named : (es : List (List ℕ × Child)) (q : List ℕ) → map.get (children_by_name (children_of es)) q ≡ find text_cmp q es
get_named [] q = map.get-empty text_cmp q
get_named (e ∷ es) q = map.get-insert nat_list_cmp_total (children_by_name (children_of es)) e.0 e.1 q ∙ ap (cond (eq_by_cmp text_cmp q e.0) (Some e.1)) (get_named es q)

-- the children of a map are the map
pub named_entries : (m : Named) → children_by_name (children_of (map.entries m)) ≡ m
named_entries m = map.same_map nat_list_cmp_total text_cmp-IsAntisymmetric _ m (λ q. get_named (map.entries m) q ∙ sym (map.get-entries m q))

pub get_over : (cs : Children) (es : Named) (q : List ℕ) → map.get (over_members cs es) q ≡ stands (map.get (children_by_name cs) q) (map.get es q)
get_over no_children es q = ap (λ x. stands x (map.get es q)) (sym (map.get-empty text_cmp q))
get_over (child name c cs) es q =
    map.get-insert nat_list_cmp_total (over_members cs es) name (over_child c (map.get es name)) q
    ∙ (elim (eq_by_cmp text_cmp q name) as (λ b. eq_by_cmp text_cmp q name ≡ b → cond b (Some (over_child c (map.get es name))) (map.get (over_members cs es) q) ≡ stands (cond b (Some c) (map.get (children_by_name cs) q)) (map.get es q)) [
      | true ↦ λ t. ap (λ k. Some (over_child c (map.get es k))) (sym (same_name q name t))
      | false ↦ λ t. get_over cs es q
    ] refl
    ∙ ap (λ x. stands x (map.get es q)) (sym (map.get-insert nat_list_cmp_total (children_by_name cs) name c q)))

pub by_name : IsOverByName
by_name (group ps cs) (group qs ds) name = ap (λ m. map.get m name) (named_entries (over_members cs (children_by_name ds))) ∙ get_over cs (children_by_name ds) name
