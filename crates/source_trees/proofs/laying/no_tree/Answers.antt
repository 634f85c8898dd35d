use Rattle.std.proofs.Common.{◌≡◌, List, [], ◌∷◌, None, length, refl, sym, ap, ◌∙◌, arith}
use Rattle.std.specs.FinMap as finite
use Rattle.tk_io.specs.Order.{text_cmp}
use Rattle.token_tree.specs.View.{group_view}
use Rattle.token_tree.specs.Tree.{Child, Named, group, children_of}
use Rattle.source_trees.proofs.laying.no_tree.Goals as goal

none : {A : Type 0} (xs : List A) → length xs ≡ 0 → xs ≡ []
none [] e = refl
none (x ∷ xs) e = absurd (omega (arith, e))

no_entries : (m : Named) → finite.len m ≡ 0 → finite.entries m ≡ []
no_entries m e = none (finite.entries m) (sym (finite.len-entries m) ∙ e)

pub returns : goal.returns
returns c =
    ap (λ m. group_view (record { kind = None; deprecated = None; extends = None; members = m })) c.new.ensures
    ∙ ap (λ es. group (record { kind = None; deprecated = None; extends = None }) (children_of es)) (no_entries finite.empty (finite.len-empty text_cmp Child))
