-- The types of values, and the byte with which each begins.
use Rattle.std.specs.Prelude.{ℕ, ◌==◌, if◌then◌else◌}
use Rattle.tk_io.specs.Characters.{quote}
use Rattle.json_span.specs.Letters.{small_f, small_n, small_t}
use Rattle.json_span.specs.Predictive.{square, curly, open_of}
use Rattle.json_span.specs.Tree.{Tree, a_null, a_boolean, a_number, a_string, an_array, an_object}
use Rattle.json_span.specs.declared.value_type.ValueType.{ValueType}
use Rattle.json_span.specs.declared.value_type.ValueType.TheVariants.{Null, Boolean, Number, String, Array, Object}

abbrev pub type_of : Tree → ValueType
type_of a_null = Null
type_of (a_boolean b) = Boolean
type_of (a_number k) = Number
type_of (a_string s) = String
type_of (an_array ns) = Array
type_of (an_object ms) = Object

-- what the first byte of a value says of it
abbrev pub type_of_byte : ℕ → ValueType
type_of_byte c =
    if c == small_n then Null else
    (if c == small_t then Boolean else
    (if c == small_f then Boolean else
    (if c == quote then String else
    (if c == open_of square then Array else
    (if c == open_of curly then Object else Number)))))
