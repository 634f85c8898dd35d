-- The tokens of the members that are left.
use Rattle.std.proofs.Common.{◌≡◌, ℕ, List, [], ◌∷◌, ◌++◌, Ordering, refl, sym, ap, ◌∙◌}
use Rattle.std.specs.FinMap as map
use Rattle.tk_io.specs.Order.{names_cmp}
use Rattle.token_tree.specs.Tree.{Child, children_of}
use Rattle.group_inherit.specs.Flattening.{Flattened, Nearest, tokens_among, tokens_at}
use Rattle.group_inherit.specs.Putting.{put_all}

pub put_append : {K X : Type 0} {R : K → K → Ordering} (xs ys : List (K × X)) (m : map.FinMap R X) → put_all (xs ++ ys) m ≡ put_all ys (put_all xs m)
put_append [] ys m = refl
put_append (x ∷ xs) ys m = put_append xs ys (map.insert m x.0 x.1)

-- the turn at a member
pub member_put : (path inner : List (List ℕ)) (near : Nearest) (left rest : List (List ℕ × Child)) (e : List ℕ × Child) (old new : map.FinMap names_cmp Flattened)
    → left ≡ e ∷ rest → inner ≡ path ++ e.0 ∷ [] → new ≡ put_all (tokens_at inner near e.1) old
    → put_all (tokens_among path near (children_of rest)) new ≡ put_all (tokens_among path near (children_of left)) old
member_put path inner near left rest e old new cut at is =
    ap (put_all (tokens_among path near (children_of rest))) (is ∙ ap (λ p. put_all (tokens_at p near e.1) old) at)
    ∙ (sym (put_append (tokens_at (path ++ e.0 ∷ []) near e.1) (tokens_among path near (children_of rest)) old)
    ∙ ap (λ l. put_all (tokens_among path near (children_of l)) old) (sym cut))
