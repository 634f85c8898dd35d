-- `value_of kind value` is the one definition of a value under a kind, part by part in the order of
-- the tables, over type_rules' definitions of the simple parts. `check` equals it, both ways.
-- `part_at` gives the part of a typed value at some steps, and `part_laws` says that it is the
-- value of what is written there under the part's kind.
--
-- What is promised, with the calls and clauses that carry it:
-- * a value is typed under each of the thirteen kinds, or refused exactly at its first broken part,
--   in the order of the kind's parts, with the rule and the steps to it (`check`: `ok`, `broken`)
-- * a typed value has its kind, lies in its ranges, and is the value of some plain value; the steps
--   of a break lead to a part; a shadow that is one object breaks the rule on shapes at a member
--   `0` before all else; positions of a gradient are clamped, and those from 0 to 1 stay
--   (`value_laws`)
-- * what stands at the steps of a part is a value of the part's kind, and the part is that value
--   (`part_laws`)
-- * words of stroke styles and line caps stand for what has them as names, and for nothing else
--   (`word_laws`)

pub mod Words
pub mod Value
pub mod Sound
pub mod Parts
pub mod Laws
