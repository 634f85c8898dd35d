-- What an engine knows of the files that are kept.
use Rattle.std.specs.Prelude.{◌≡◌, Bool, true, false, Some}
use Rattle.rebuild_core.specs.Engine.{EngineState}

-- they are the files, where that is known
abbrev pub IsBuilt : Bool → EngineState → Type 0
IsBuilt true e = e.kept ≡ Some e.files
IsBuilt false e = Unit {0}
