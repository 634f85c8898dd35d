-- * `Source::read`, `Sink::write`: `HasCause`; what was taken or appended, by std's `ReadConsumes`
--   and `WriteAppends`.
-- * `read_all`: `whole`, `short` (all up to the end, within the limit), `long` and `taken` (too
--   long exactly where one byte more than the limit was taken), `fault`, `later`.
-- * `write_all`: `whole`, `part`, `empty`, `cause`.
-- * `MemSource`, `MemSink`: which call fails (`failed`), and how much each other call takes
--   (`takes`).
-- * `Outputs`, `TextMap`: each call by the finite map, and pointwise.
-- * `Sequence`, `Bytes`, `Text`: each call by the list.
--
-- What is promised, with the calls and clauses that carry it:
-- * sources and sinks: a fault is answered only where its count rose, and a good answer leaves the
--   count; what was taken and what was appended is told where the object tells it (`Source::read`,
--   `Sink::write`)
-- * in the sources and sinks of memory and of std a refusal counts one fault, and what std's reader
--   or writer tells is told on, so that a short write is no whole one (`MemSource`, `MemSink`,
--   `StdSource`, `StdSink`: `once`, `bytes`)
-- * `read_all` gives all bytes up to the end, or says why not: too long exactly where one byte more
--   than the limit was taken; each answer but a failed read leaves the count of faults (`read_all`:
--   `kept` and others)
-- * `write_all` appends the piece, or less than the whole of it and the sink's faults rose, as far
--   as the sink tells what was written; an empty piece is no write (`write_all`: `whole`, `part`,
--   `empty`, `cause`)
-- * whether an item is in a sorted list, found by halves (`is_in`)
-- * texts, bytes and lists are what was put into them; maps are finite maps whose entries stand in
--   byte order (`Text`, `Bytes`, `Sequence`, `TextMap`, `Outputs`)
-- * a counter of steps rises by one a tick, for any ledger, and costs nothing when the program runs
--   (`Steps`)

pub mod Characters
pub mod Causes
pub mod Reading
pub mod Writing
pub mod Memory
pub mod Order
pub mod Entries
pub mod FilesData
pub mod View
pub mod Text
pub mod Search
