-- `written_in flat` says what is written at each place: a leaf, parts with their steps, a reference
-- to a token and steps, or a reference that is spelled wrongly. Over it `Leads`, `Settles` and
-- `Means` are least relations, which know no stack: where a reference leads, where references end,
-- and the value without references; the laws say that a place has at most one of each. The visits
-- of a token's walk are a tree of data, a visit with its branch, and `walk_break` is the first
-- break in their order. `evaluate` and `evaluate_entry` answer exactly these: what the token means,
-- its kind and its links where there is no break and a kind, else the first break.
-- `unbroken_tokens` says that nothing is lost: such a token means something, and at most 256 links
-- stand one after the other. `unchanged_is_alike` is what `token_cells` rests on where it takes a
-- token's cell from an earlier tree (`unchanged_cells`), and an engine that keeps more from commit
-- to commit is to rest on.
--
-- What is promised, with the calls and clauses that carry it:
-- * a token that is resolved breaks no rule of references, and its plain value is the one that its
--   references mean; its kind is its own, else that of the token that its whole value links to,
--   else that of the nearest group; its links are the references without steps that are written in
--   its value, in written order (`evaluate`, `evaluate_entry`: `resolved`)
-- * a refused token is told its first break: that of its walk, else that nothing gives it a kind; a
--   cycle that is told is real: its places differ, each asks for the next, and the last for the
--   first; so are a branch that is too long and visits that are too many; visits come as they are
--   asked for, each once; each call is one step, whatever it answers (`evaluate`,
--   `evaluate_entry`: `broken`, `ring`, `step`; `breaks_are_real`, `visits_are_visited`,
--   `visits_in_turn`)
-- * the answer is decided by the flat tree and the path; a token without a break means something,
--   and whatever its walk visits is new on its branch, spelled well and leads somewhere
--   (`one_answer`, `unbroken_tokens`)
-- * a token without a break has a kind or none, and links; what it means has strings and names of
--   UTF-8, and lists no longer than the sources of the tree; whether two raw entries differ is
--   decided by a test (`unbroken_tokens`: `kind`, `links`; `meanings_fit`, `differ_decides`)
-- * the tokens named by a value are those of its written references, in written order, decided by
--   the definition's source alone; a place has the span of the written value to which its steps
--   lead, and one behind a reference that of the reference (`refs_of`, `span_of`;
--   `refs_are_written`, `source_decides`, `spans_stand`)
-- * where no walk of references leads from a token to a path whose raw entry differs, two flat
--   trees, whose tokens there are what their sources show, have the same break, meaning, kind and
--   links of it, wherever the spans stand; what is written in a token and shown beside its value is
--   decided by its source (`unchanged_is_alike`, `source_decides`)

pub mod References
pub mod Written
pub mod Meaning
pub mod Visits
pub mod Remembered
pub mod Asking
pub mod Turns
pub mod Kinds
pub mod Refs
pub mod Span
pub mod Depth
pub mod PlainParts
pub mod Unchanged
pub mod Laws
pub mod Answer
pub mod inner
