use Rattle.std.proofs.Common.{◌≡◌, ◌+◌, ℕ, List, [], ◌∷◌, drop, map, ap, ◌∙◌, arith}
use Rattle.edit_script.specs.View.{Lined, change_view}
use Rattle.edit_script.specs.Stats.{without_lines, gone_count}
use Rattle.edit_script.proofs.Stats.{first_left, gone_left, none_left}
use Rattle.edit_script.proofs.counts.gone_count.Goals as goal

-- one change more is counted, and all are
counted : (left rest : List Lined) (c : Lined) (all before more : ℕ) → left ≡ c ∷ rest → before + gone_count (without_lines left) ≡ all → more ≡ gone_count (c.0 ∷ []) → (before + more) + gone_count (without_lines rest) ≡ all
counted left rest c all before more e h m = omega (arith, h, m, gone_left left rest c e)

whole : (left : List Lined) (all count : ℕ) → left ≡ [] → count + gone_count (without_lines left) ≡ all → count ≡ all
whole left all count e h = omega (arith, h, ap (λ cs. gone_count (without_lines cs)) e)

pub loop-change-preserved : goal.loop-change-preserved
loop-change-preserved c =
    let items = c.as_slice-change-items.result.now in
    let all = map change_view items in
    let i = c.loop-change.change-index in
    let x = c.change-item.result in (
      counted (drop i all) (drop (i + 1) all) (change_view x) (gone_count (without_lines all)) c.loop-change.count c.gone_by-count.result (first_left change_view items i x c.loop-change-test.true c.change-item.is)
          c.loop-change.invariant.0 c.gone_by-count.ensures.count,
      omega (arith, c.loop-change.invariant.1, c.gone_by-count.ensures.bound),
    )

pub returns : goal.returns
returns c =
    let items = c.as_slice-change-items.result.now in
    whole (drop c.loop-change.change-index (map change_view items)) (gone_count (without_lines (map change_view items))) c.loop-change.count (none_left change_view items c.loop-change.change-index c.loop-change-test.false) c.loop-change.invariant.0
    ∙ ap (λ cs. gone_count (without_lines cs)) c.as_slice-change-items.ensures
