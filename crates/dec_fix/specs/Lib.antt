-- A number is `c / 10^s`. Two are one number where their fractions are equal when multiplied out
-- (`IsSameNumber`); the shortest form is the only one among equal numbers, so equal numbers are
-- equal values. `Dec::read` answers the number that a spelling equals, whatever its length and its
-- exponent, and refuses exactly the texts that are no JSON number (RFC 8259 section 6) or that no
-- number with `|c| < 10^30` and `s <= 30` equals. What `write` and `write_point` append is the
-- spelling, which is a JSON number, reads back as the number, and ends before any byte that does
-- not continue a number.
--
-- What is promised, with the calls and clauses that carry it:
-- * a text is read as the one decimal that equals it, of any length and with any exponent, and is
--   refused exactly where it is no JSON number or no number within the bounds equals it
--   (`Dec::read`: `is`, `equal`, `bounds`, `refused`)
-- * equal numbers are equal values; what is read is spelled by the text, and what is written is
--   read again as the number (`one_value`, `one_number`, `read_is_spelled`, `written_is_read`)
-- * products, quotients and comparisons are exact; a byte is the greatest whole number not above
--   255 v + 1/2; what is written is a JSON number that spells the number (`times_whole`,
--   `times_100`, `times_1000`, `over_1000`, `cmp_whole`, `to_byte`, `from_byte`, `whole_i32`,
--   `write`, `write_point`)

pub mod Decimal
pub mod Spelling
pub mod Reading
pub mod Following
pub mod Writing
pub mod Arithmetic
pub mod inner
