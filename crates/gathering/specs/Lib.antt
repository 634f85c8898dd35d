-- A sink that gathers the pieces that it is given.
--
-- It tells what it was given: that is what the sink behind it holds and, after that, what it holds itself, so that a run
-- over it promises the same as over any sink (`write`: `bytes`, `cause`). A call fails only where the sink behind failed,
-- and then all that was given and not handed on is held still; `flush` hands all of it on, or the sink behind failed
-- again (`all`, `part`, `kept`). What the sink behind held at first stands in front of what it holds at last
-- (`into_inner`: `grew`), so that a front of what was given is what was written. How many bytes are gathered is no
-- clause: a test of the program counts its writes.
pub mod Growing
