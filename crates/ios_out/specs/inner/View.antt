-- Contents of the code as data.
use Rattle.std.specs.Prelude.{ℕ, List, ◌∷◌, []}
use Rattle.ios_out.specs.Constant.{Quantity, amount, over_255, Argument, labelled, bare, Content, number, string, made}
use Rattle.ios_out.specs.PlatformValue.{length_type, time_type, number_type, text_type}
use Rattle.ios_out.specs.declared.content.Quantity.{Quantity as HeldQuantity}
use Rattle.ios_out.specs.declared.content.Quantity.TheVariants as quantity
use Rattle.ios_out.specs.declared.content.Argument.{Argument as HeldArgument}
use Rattle.ios_out.specs.declared.content.Argument.TheVariants as argument
use Rattle.ios_out.specs.declared.content.NumberType.{NumberType}
use Rattle.ios_out.specs.declared.content.NumberType.TheVariants as typed
use Rattle.ios_out.specs.declared.content.Content.{Content as Held}
use Rattle.ios_out.specs.declared.content.Content.TheVariants as held

abbrev pub quantity_view : HeldQuantity → Quantity
quantity_view (quantity.Number d) = amount d
quantity_view (quantity.Byte b) = over_255 b

abbrev pub argument_view : HeldArgument → Argument
argument_view (argument.Labelled label q) = labelled label.now (quantity_view q)
argument_view (argument.Bare q) = bare (quantity_view q)

-- the type's name
abbrev pub type_view : NumberType → List ℕ
type_view typed.CgFloat = length_type
type_view typed.TimeInterval = time_type
type_view typed.Double = number_type

abbrev pub content_view : Held → Content
content_view (held.Number t d) = number (type_view t) d
content_view (held.Text text) = string text_type text.now
content_view (held.Made maker first second third fourth) =
    made maker.now (argument_view first ∷ argument_view second ∷ argument_view third ∷ argument_view fourth ∷ [])
