-- How JSON texts are read (RFC 8259): as values whose numbers are decimals of any length. Nothing here knows of tokens or kinds.
use Rattle.std.specs.Prelude.{ℕ, List, Option, Some, None, pos}
use Rattle.dec_fix.specs.Decimal.{Decimal}
use Rattle.dec_fix.specs.Arithmetic.{whole_decimal}
use Rattle.dec_fix.specs.Reading.{text_decimal}
use Rattle.json_span.specs.Says.{SaysText}
use Rattle.json_span.specs.Composing.{MemberText}
use Rattle.json_out.specs.PlatformValue.{Json, Member, object_json}

-- the number of a JSON number's text; other texts have none, and give 0
abbrev pub or_zero : Option Decimal → Decimal
or_zero None = whole_decimal (pos 0)
or_zero (Some d) = d

abbrev pub number_of_text : List ℕ → Decimal
number_of_text text = or_zero (text_decimal text)

-- the text is this value, with blanks around it or none
abbrev pub IsJson : List ℕ → Json → Type 0
IsJson text value = SaysText number_of_text text value

-- the text is this member, and nothing else
abbrev pub IsMember : List ℕ → Member → Type 0
IsMember text m = MemberText number_of_text text m

-- the bytes are one object, with exactly these members in this order
abbrev pub Reads : List ℕ → List Member → Type 0
Reads bytes members = IsJson bytes (object_json members)
