-- The names of one token differ.
use Rattle.std.proofs.Common.{ℕ, Bool, true, false, List, []}
use Rattle.std.specs.Prelude.{if◌then◌else◌}
use Rattle.ring.specs.Lists.{AreApart}
use Rattle.transforms.specs.declared.platform.Platform.TheVariants.{Css}
use Rattle.transforms.proofs.FiveNamesDiffer.{five_names_differ}
use Rattle.composite_rules.specs.declared.typed.Typed.{Typed}
use Rattle.composite_rules.specs.declared.typed.Typed.TheVariants as typed
use Rattle.css_out.specs.PlatformValue.{can_spell, all_values, css_values}
use Rattle.css_out.specs.Piece.{Values, value_names}

apart_if : (b : Bool) (vs : Values) → AreApart (value_names vs) → AreApart (value_names (if b then vs else []))
apart_if true vs h = h
apart_if false vs h = tt

all_apart : (name : List ℕ) (v : Typed) → AreApart (value_names (all_values name v))
all_apart name (typed.Simple s) = ((λ i. i), tt)
all_apart name (typed.StrokeStyle s) = ((λ i. i), tt)
all_apart name (typed.Border b) = ((λ i. i), tt)
all_apart name (typed.Transition t) = ((λ i. i), tt)
all_apart name (typed.Shadow items) = ((λ i. i), tt)
all_apart name (typed.Gradient stops) = ((λ i. i), tt)
all_apart name (typed.Typography t) = five_names_differ Css name

pub own_apart : (name : List ℕ) (v : Typed) → AreApart (value_names (css_values name v))
own_apart name v = apart_if (can_spell v) (all_values name v) (all_apart name v)
