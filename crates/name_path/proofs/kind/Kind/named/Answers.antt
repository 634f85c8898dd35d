use Rattle.std.proofs.Common.{◌≡◌, arith}
use Rattle.name_path.specs.declared.kind.Kind.TheVariants.{Color, Dimension, FontFamily, FontWeight, Duration, CubicBezier, Number, StrokeStyle, Border, Transition, Shadow, Gradient, Typography}
use Rattle.name_path.specs.Kinds.{kind_name}
use Rattle.name_path.proofs.kind.Kind.named.Goals as goal

-- each kind stands at its place among the thirteen
pub returns : goal.returns
returns c = λ kind. elim kind as (λ k. kind_name k ≡ c.args.text.now → ⊥) [
  | Color ↦ λ e. c.loop-kind.invariant 0 (omega (arith, c.loop-kind-test.false)) e
  | Dimension ↦ λ e. c.loop-kind.invariant 1 (omega (arith, c.loop-kind-test.false)) e
  | FontFamily ↦ λ e. c.loop-kind.invariant 2 (omega (arith, c.loop-kind-test.false)) e
  | FontWeight ↦ λ e. c.loop-kind.invariant 3 (omega (arith, c.loop-kind-test.false)) e
  | Duration ↦ λ e. c.loop-kind.invariant 4 (omega (arith, c.loop-kind-test.false)) e
  | CubicBezier ↦ λ e. c.loop-kind.invariant 5 (omega (arith, c.loop-kind-test.false)) e
  | Number ↦ λ e. c.loop-kind.invariant 6 (omega (arith, c.loop-kind-test.false)) e
  | StrokeStyle ↦ λ e. c.loop-kind.invariant 7 (omega (arith, c.loop-kind-test.false)) e
  | Border ↦ λ e. c.loop-kind.invariant 8 (omega (arith, c.loop-kind-test.false)) e
  | Transition ↦ λ e. c.loop-kind.invariant 9 (omega (arith, c.loop-kind-test.false)) e
  | Shadow ↦ λ e. c.loop-kind.invariant 10 (omega (arith, c.loop-kind-test.false)) e
  | Gradient ↦ λ e. c.loop-kind.invariant 11 (omega (arith, c.loop-kind-test.false)) e
  | Typography ↦ λ e. c.loop-kind.invariant 12 (omega (arith, c.loop-kind-test.false)) e
]
