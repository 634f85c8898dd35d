use Rattle.std.proofs.Common.{◌≡◌, ℕ, ◌+◌, ◌<◌, min, max, List, ◌∷◌, ◌++◌, length, get_or, map, drop, option_to_list, arith, sym, ap, ◌∙◌}
use Rattle.std.proofs.lemmas.List.{drop_more, map-append}
use Rattle.token_tree.specs.View.{group_view}
use Rattle.group_inherit.specs.Answer.{most_told}
use Rattle.group_inherit.specs.Extension.{children_in, group_names, tokens_height, greatest_raised}
use Rattle.group_inherit.proofs.Counting.{raise_step}
use Rattle.group_inherit.proofs.sizes.height_at.Goals as goal

pub loop-child-init : goal.loop-child-init
loop-child-init c =
    let look : ℕ → ℕ = λ w. get_or c.args.table.now w 0 in
    let g = group_view c.args.group.now in
    let children = c.args.row.now.children.items in
    let target = option_to_list c.args.row.now.target in
    ap (λ (h : ℕ). min (max h (greatest_raised (group_names g) (map look children ++ map look target))) most_told) c.tokens_height-height.ensures
    ∙ ap (λ (hs : List ℕ). min (max (tokens_height (children_in g)) (greatest_raised (group_names g) hs)) most_told) (sym (map-append look children target))

pub loop-child-preserved : goal.loop-child-preserved
loop-child-preserved c =
    let names = group_names (group_view c.args.group.now) in
    let look : ℕ → ℕ = λ w. get_or c.args.table.now w 0 in
    let children = c.args.row.now.children.items in
    let target = option_to_list c.args.row.now.target in
    let i = c.loop-child.child-index in
    let same = c.as_slice-child-items.ensures.value in
    let x = look (get_or c.as_slice-child-items.result.now i 0) in
    let xs = map look (drop (i + 1) children) ++ map look target in
    let within : i < length children = omega (arith, c.loop-child-test.true, ap length same) in
    let first : map look (drop i children) ++ map look target ≡ x ∷ xs =
    ap (λ (ws : List ℕ). map look ws ++ map look target) (drop_more children i 0 within) ∙ ap (λ (ws : List ℕ). look (get_or ws i 0) ∷ xs) (sym same) in
    ap (λ (h : ℕ). min (max h (greatest_raised (drop (i + 1) names) xs)) most_told) c.max-height.ensures
    ∙ (raise_step names i c.loop-child.height x c.saturating_add.result xs (omega (arith, within, c.requires.many)) c.saturating_add.ensures
    ∙ (ap (λ (ys : List ℕ). min (max c.loop-child.height (greatest_raised (drop i names) ys)) most_told) (sym first) ∙ c.loop-child.invariant))
