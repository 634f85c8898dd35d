-- The names of one token differ.
use Rattle.std.proofs.Common.{ℕ, List, Option, Some, None}
use Rattle.ring.specs.Lists.{AreApart}
use Rattle.transforms.specs.Config.{Settings}
use Rattle.transforms.specs.declared.platform.Platform.TheVariants.{Android}
use Rattle.transforms.proofs.FiveNamesDiffer.{five_names_differ}
use Rattle.composite_rules.specs.declared.typed.Typed.{Typed}
use Rattle.composite_rules.specs.declared.typed.Typed.TheVariants as typed
use Rattle.composite_rules.specs.declared.typography.Typography.{Typography}
use Rattle.android_out.specs.Element.{Content, value_names}
use Rattle.android_out.specs.PlatformValue.{simple_content, family_content, whole_content, one_value, unless_omitted, android_values}

one_name : (name : List ℕ) (o : Option Content) → AreApart (value_names (one_value name o))
one_name name None = tt
one_name name (Some c) = ((λ i. i), tt)

five_names : (settings : Settings) (name : List ℕ) (t : Typography) (family weight : Option Content) → AreApart (value_names (unless_omitted settings name t family weight))
five_names settings name t None weight = tt
five_names settings name t (Some family) None = tt
five_names settings name t (Some family) (Some weight) = five_names_differ Android name

pub own_apart : (settings : Settings) (name : List ℕ) (v : Typed) → AreApart (value_names (android_values settings name v))
own_apart settings name (typed.Simple s) = one_name name (simple_content settings s)
own_apart settings name (typed.StrokeStyle s) = tt
own_apart settings name (typed.Border b) = tt
own_apart settings name (typed.Transition t) = tt
own_apart settings name (typed.Shadow items) = tt
own_apart settings name (typed.Gradient stops) = tt
own_apart settings name (typed.Typography t) = five_names settings name t (family_content t.family) (whole_content t.weight)
