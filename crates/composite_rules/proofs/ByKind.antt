-- What holds of each value as it is read under its kind holds of the value under any kind.
use Rattle.std.proofs.Common.{◌≡◌, Bool, List, Ok}
use Rattle.json_span.specs.PlainView.{Value}
use Rattle.name_path.specs.declared.kind.Kind.{Kind}
use Rattle.name_path.specs.declared.kind.Kind.TheVariants as kind
use Rattle.type_rules.specs.declared.simple.Simple.{Simple}
use Rattle.type_rules.specs.Value.{simple_value}
use Rattle.type_rules.proofs.Keeping.{made, found}
use Rattle.composite_rules.specs.declared.border.Border.{Border}
use Rattle.composite_rules.specs.declared.gradient.ColorStop.{ColorStop}
use Rattle.composite_rules.specs.declared.shadow.ShadowItem.{ShadowItem}
use Rattle.composite_rules.specs.declared.stroke.Stroke.{Stroke}
use Rattle.composite_rules.specs.declared.transition.Transition.{Transition}
use Rattle.composite_rules.specs.declared.typed.Typed.{Typed}
use Rattle.composite_rules.specs.declared.typed.Typed.TheVariants as typed
use Rattle.composite_rules.specs.declared.typography.Typography.{Typography}
use Rattle.composite_rules.specs.Value.{stroke_in, border_in, transition_in, shadows_in, gradient_in, typography_in, simple_in, value_of}

pub record Cases (legacy : Bool) (v : Value) (P : Kind → Typed → Type 0) : Type 0 where
  pub simple : (k : Kind) (x : Simple) → simple_value legacy k v ≡ Ok x → P k (typed.Simple x)
  pub stroke : (x : Stroke) → stroke_in legacy v ≡ Ok x → P kind.StrokeStyle (typed.StrokeStyle x)
  pub border : (x : Border) → border_in legacy v ≡ Ok x → P kind.Border (typed.Border x)
  pub transition : (x : Transition) → transition_in legacy v ≡ Ok x → P kind.Transition (typed.Transition x)
  pub shadow : (x : List ShadowItem) → shadows_in legacy v ≡ Ok x → P kind.Shadow (typed.Shadow x)
  pub gradient : (x : List ColorStop) → gradient_in legacy v ≡ Ok x → P kind.Gradient (typed.Gradient x)
  pub typography : (x : Typography) → typography_in legacy v ≡ Ok x → P kind.Typography (typed.Typography x)

simples : (legacy : Bool) (v : Value) (P : Kind → Typed → Type 0) → Cases legacy v P → (k : Kind) (t : Typed) → simple_in legacy k v ≡ Ok t → P k t
unfolding simple_in
simples legacy v P c k t e = made (simple_value legacy k v) _ t e (λ x h e2. found (P k) (typed.Simple x) t e2 (c.simple k x h))

pub by_kind : (legacy : Bool) (v : Value) (P : Kind → Typed → Type 0) → Cases legacy v P → (k : Kind) (t : Typed) → value_of legacy k v ≡ Ok t → P k t
unfolding value_of
by_kind legacy v P c kind.Color t e = simples legacy v P c kind.Color t e
by_kind legacy v P c kind.Dimension t e = simples legacy v P c kind.Dimension t e
by_kind legacy v P c kind.FontFamily t e = simples legacy v P c kind.FontFamily t e
by_kind legacy v P c kind.FontWeight t e = simples legacy v P c kind.FontWeight t e
by_kind legacy v P c kind.Duration t e = simples legacy v P c kind.Duration t e
by_kind legacy v P c kind.CubicBezier t e = simples legacy v P c kind.CubicBezier t e
by_kind legacy v P c kind.Number t e = simples legacy v P c kind.Number t e
by_kind legacy v P c kind.StrokeStyle t e = made (stroke_in legacy v) _ t e (λ x h e2. found (P kind.StrokeStyle) (typed.StrokeStyle x) t e2 (c.stroke x h))
by_kind legacy v P c kind.Border t e = made (border_in legacy v) _ t e (λ x h e2. found (P kind.Border) (typed.Border x) t e2 (c.border x h))
by_kind legacy v P c kind.Transition t e = made (transition_in legacy v) _ t e (λ x h e2. found (P kind.Transition) (typed.Transition x) t e2 (c.transition x h))
by_kind legacy v P c kind.Shadow t e = made (shadows_in legacy v) _ t e (λ x h e2. found (P kind.Shadow) (typed.Shadow x) t e2 (c.shadow x h))
by_kind legacy v P c kind.Gradient t e = made (gradient_in legacy v) _ t e (λ x h e2. found (P kind.Gradient) (typed.Gradient x) t e2 (c.gradient x h))
by_kind legacy v P c kind.Typography t e = made (typography_in legacy v) _ t e (λ x h e2. found (P kind.Typography) (typed.Typography x) t e2 (c.typography x h))
