use Rattle.std.proofs.Common.{◌≡◌, ◌∙◌, ◌-◌, ℕ, List, length, ap, arith}
use Rattle.edit_script.specs.View.{Lined}
use Rattle.edit_script.specs.Stats.{without_lines, gone_count, written_count, stats_line}
use Rattle.edit_script.specs.declared.line.Line.TheVariants.{Stats}
use Rattle.edit_script.proofs.Stats.{counts_whole, bare_length}
use Rattle.edit_script.proofs.counts.stats_line.Goals as goal

pub overflow_sub-result : goal.overflow_sub-result
overflow_sub-result c =
    let cs = c.args.changes.now in
    omega (arith, c.gone_count-gone.ensures, c.len.ensures, counts_whole (without_lines cs), bare_length cs)

-- what is left of all
written : (cs : List Lined) (n g : ℕ) → n ≡ length cs → g ≡ gone_count (without_lines cs) → n - g ≡ written_count (without_lines cs)
written cs n g e f = omega (arith, e, f, counts_whole (without_lines cs), bare_length cs)

same_line : (k p m e : ℕ) (cs : List Lined) (w g : ℕ) → w ≡ written_count (without_lines cs) → g ≡ gone_count (without_lines cs) → Stats k p m e w g ≡ stats_line k p m e (without_lines cs)
same_line k p m e cs w g h f = ap (λ x. Stats k p m e x g) h ∙ ap (λ x. Stats k p m e (written_count (without_lines cs)) x) f

pub returns : goal.returns
returns c =
    let cs = c.args.changes.now in
    same_line c.args.commit c.args.parsed c.args.merged c.args.evaluated cs (c.len.result - c.gone_count-gone.result) c.gone_count-gone.result (written cs c.len.result c.gone_count-gone.result c.len.ensures c.gone_count-gone.ensures) c.gone_count-gone.ensures
