-- The theory that a reader of JSON stands on, for grammars over bytes. `fronts_are_prefixes`: where
-- each rule derives some text, a *front* (a viable prefix, given by parts) is a prefix of a
-- sentence and the other way round. `steered_reads_once`: where a table of first bytes is true of
-- the grammar and one byte of it always decides, predictive reading is the only reading.
-- `steered_readings_end`: where moreover no rule comes to itself without a byte, it reaches its end
-- or gets stuck, whatever the text. `stops_are_exact`: where it gets stuck, the longest viable
-- prefix ends. The premises stand in `crates/grammar/specs/Laws.antt`; json_span meets them for RFC
-- 8259.
--
-- What is promised, with the calls and clauses that carry it:
-- * over every grammar of bytes whose rules each derive some text: a text is a viable prefix of
--   what a rule derives exactly where some text goes on from it to a derived one. Where a table of
--   first bytes is true of the grammar, predictive reading by one byte is the only reading and
--   stops at the longest viable prefix; where moreover no rule comes to itself without a byte, it
--   ends (`fronts_are_prefixes`, `steered_reads_once`, `steered_readings_end`, `stops_are_exact`)

pub mod Grammar
pub mod Predict
pub mod Ranges
pub mod Stop
pub mod Laws
