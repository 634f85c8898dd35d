-- None of the outputs so far is a refusal.
use Rattle.std.proofs.Common.{◌≡◌, drop}
use Rattle.std.specs.Prelude.{find}
use Rattle.std.specs.FinMap as finite
use Rattle.theme_css.specs.Themes.{is_refusal}
use Rattle.theme_css.proofs.refusal.first_refused.Given as goal

abbrev pub invariant-loop-path : goal.invariant-loop-path
invariant-loop-path l = find (λ e. is_refusal e.0) (drop l.path-index (finite.entries l.outputs)) ≡ find (λ e. is_refusal e.0) (finite.entries l.outputs)
