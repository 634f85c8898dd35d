-- A `Report` is a rule, a file, a span and details, and `report_text` its text, with line and
-- column counted in the file's text.
--
-- What is promised, with the calls and clauses that carry it:
-- * the text of a break is the four lines of its rule, file, line, column and bytes, and the
--   further lines of its rule; a plan's refusal is told with its break (`refuse`, `refuse_span`,
--   `append_..`, `plan_text`)

pub mod Refusal
pub mod Planning
