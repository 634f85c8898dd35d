-- `simple_value legacy kind value` is the typed value, or the first broken part as a rule and the steps
-- to it: one function on the value, written as the tables read; `legacy` says whether lengths, times and
-- colours may be texts. `check_simple` equals it, both ways.
-- What a part may be (a colour, a length, a duration, a curve, families, a weight, a number) is the
-- trait `Part`, with a definition and a check; one call for each way to a part (under a name, at a
-- place, each item of a list) serves them all. `value_laws` and `part_laws` say that typed values
-- lie in their ranges, that each of these is the value of some plain value, and that the steps of a
-- break lead to a part of the value; `word_laws` what each word means.
--
-- What is promised, with the calls and clauses that carry it:
-- * a value is typed under each of the seven simple kinds, or refused exactly at the first broken
--   part, with the rule and the steps to it, also where lengths, times and colours may be texts
--   (`check_simple`: `ok`, `broken`)
-- * of a kind such a text spells at most one value; where texts are read, exactly the value that it
--   spells is read of it; what it breaks it breaks itself, as a text of no such form or as one whose
--   number is out of bounds; else it breaks the rule on shapes, and every other value is alike for
--   either setting; a text that begins with a brace spells nothing (`legacy_laws`)
-- * a part under a name or at a place, and each item of a list, is checked as the definition of the
--   part says, and its break is told as seen from the value that holds it (`Part::check`,
--   `part_under`, `part_at`, `each_part`, `list_of`, `some_of`)
-- * typed values lie in their ranges and have their kind, and each such value is the value of some
--   plain value; the steps of a break lead to a part of the value; words mean what the tables say
--   (`value_laws`, `part_laws`, `step_laws`, `word_laws`)

pub mod Rules
pub mod Checked
pub mod Answer
pub mod Forms
pub mod Words
pub mod Ranges
pub mod Legacy
pub mod Value
pub mod Sound
pub mod Trails
pub mod Laws
