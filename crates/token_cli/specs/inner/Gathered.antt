-- What becomes of what a sink holds that gathers, when a run ends.
use Rattle.std.specs.Prelude.{◌≡◌, ◌⊎◌, ◌<◌, ℕ, Bool, List, [], length, Result, Ok, Err}
use Rattle.tk_io.specs.Causes.{Rose}
use Rattle.token_cli.specs.declared.stop.Stop.{Stop}
use Rattle.token_cli.specs.declared.stop.Stop.TheVariants as stop

-- all is handed on, or the sink behind failed, and that is answered; `held` is what is held at last, and the numbers are
-- the counts of its faults at first, before and then
abbrev pub AllOrFault : Result Bool Stop → Result Bool Stop → List ℕ → ℕ → ℕ → ℕ → Type 0
AllOrFault ended result held first before now =
    ((result ≡ ended) × (held ≡ []) × (now ≡ before)) ⊎ ((result ≡ Err stop.WriteFault) × (0 < length held) × Rose first now)

-- .. where the run ended so that it may have written anything; after a write that failed nothing is handed on
abbrev pub HandsOn : Result Bool Stop → Result Bool Stop → List ℕ → ℕ → ℕ → ℕ → Type 0
HandsOn (Ok refused) result held first before now = AllOrFault (Ok refused) result held first before now
HandsOn (Err (stop.BadEvent number)) result held first before now = AllOrFault (Err (stop.BadEvent number)) result held first before now
HandsOn (Err stop.NoMemory) result held first before now = result ≡ Err stop.NoMemory
HandsOn (Err stop.WriteFault) result held first before now = (result ≡ Err stop.WriteFault) × (now ≡ before)
HandsOn (Err stop.Usage) result held first before now = (result ≡ Err stop.Usage) × (now ≡ before)
HandsOn (Err (stop.BadScript at)) result held first before now = (result ≡ Err (stop.BadScript at)) × (now ≡ before)
HandsOn (Err stop.ReadFault) result held first before now = (result ≡ Err stop.ReadFault) × (now ≡ before)
HandsOn (Err stop.TooLong) result held first before now = (result ≡ Err stop.TooLong) × (now ≡ before)
