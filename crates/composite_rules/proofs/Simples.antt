-- Values that are made of no values of other kinds.
use Rattle.std.proofs.Common.{◌≡◌, Bool, true, refl}
use Rattle.json_span.specs.PlainView.{Value}
use Rattle.name_path.specs.declared.kind.Kind.{Kind}
use Rattle.name_path.specs.declared.kind.Kind.TheVariants as kind
use Rattle.name_path.specs.Kinds.{is_simple_kind}
use Rattle.composite_rules.specs.Value.{simple_in, value_of}

pub simple_is : (legacy : Bool) (k : Kind) (v : Value) → is_simple_kind k ≡ true → value_of legacy k v ≡ simple_in legacy k v
unfolding value_of
simple_is legacy kind.Color v e = refl
simple_is legacy kind.Dimension v e = refl
simple_is legacy kind.FontFamily v e = refl
simple_is legacy kind.FontWeight v e = refl
simple_is legacy kind.Duration v e = refl
simple_is legacy kind.CubicBezier v e = refl
simple_is legacy kind.Number v e = refl
simple_is legacy kind.StrokeStyle v e = cc
simple_is legacy kind.Border v e = cc
simple_is legacy kind.Transition v e = cc
simple_is legacy kind.Shadow v e = cc
simple_is legacy kind.Gradient v e = cc
simple_is legacy kind.Typography v e = cc
