-- Contents of the code as data.
use Rattle.std.specs.Prelude.{ℕ, List, codes}
use Rattle.android_out.specs.Element.{Content, color, dimen, integer, item, string}
use Rattle.android_out.specs.declared.content.DimenUnit.{DimenUnit}
use Rattle.android_out.specs.declared.content.DimenUnit.TheVariants.{Dp, Sp}
use Rattle.android_out.specs.declared.content.Content.{Content as Held}
use Rattle.android_out.specs.declared.content.Content.TheVariants as held

-- the unit's name
abbrev pub unit_view : DimenUnit → List ℕ
unit_view Dp = codes "dp"
unit_view Sp = codes "sp"

abbrev pub content_view : Held → Content
content_view (held.Color alpha red green blue) = color alpha red green blue
content_view (held.Dimen number unit) = dimen number (unit_view unit)
content_view (held.Integer number) = integer number
content_view (held.Item number) = item number
content_view (held.Text text) = string text.now
