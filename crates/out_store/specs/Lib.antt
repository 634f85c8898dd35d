-- `Kept m` says what is kept true of a store that holds the map m, whatever fails: nothing stands
-- but outputs under `out/`, slots and gates; and either no gate and no output stands, or a gate
-- does and each slot with one holds a manifest that lists all outputs that stand. `IsUnder` says
-- which files stand under `out/`. Neither knows the steps of `sync`. `IsManifest` is the text of a
-- list of output paths in strictly rising order; `IsBadSlot` a gate without one. `Told` is what
-- holds of a store before and after a call, where it tells what it holds; `IsCaused` when its count
-- of faults rises.
--
-- What is promised, with the calls and clauses that carry it:
-- * what is kept of a store stays so, whatever `sync` answers and whatever failed; where it answers
--   Ok, exactly the outputs stand under `out/` of a store that was kept (`sync`: `kept`, `exact`)
-- * a bad slot is told only where there is one, and never of a store that is kept; where there is
--   one, the outputs are not brought (`sync`: `bad`, `blocked`; `store_laws`: `readable`)
-- * a fault is told exactly where the store's count rose (`sync`: `cause`; each call of `Store`)
-- * a store that holds nothing is kept, a text is the manifest of one list, and one map has the
--   files under `out/` (`store_laws`: `first`, `one_list`, `one_under`)
-- * a store in memory fails exactly where it is told to, and what it leaves then is said
--   (`MemStore`: `failed`, `left`, `refused`)
-- * whether an output can have a path (`is_output_path`)

pub mod Paths
pub mod Manifest
pub mod Effects
pub mod Kept
pub mod Memory
pub mod inner
