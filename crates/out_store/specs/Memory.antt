-- What a store in memory is seen as, and which of its calls fail.
use Rattle.std.specs.Prelude.{◌≡◌, ◌≤◌, ℕ, Bool, List, Contains, if◌then◌else◌}
use Rattle.std.proofs.Common.{refl}
use Rattle.std.specs.Bool.{Decides}
use Rattle.std.specs.Coded.{Coded, code_by, coded×, coded_bool, coded_list, coded_ℕ}
use Rattle.std.specs.FinMap as map
use Rattle.tk_io.specs.Causes.{following}
use Rattle.tk_io.specs.FilesData.{FilesData}

-- what it holds, which calls fail, what a write that fails leaves, whether a remove that fails takes the path away, and
-- how many calls and faults there were
pub record StoreInMemory : Type 0 where
  pub held : FilesData
  pub fails : List ℕ
  pub torn : List ℕ
  pub drops : Bool
  pub calls : ℕ
  pub faults : ℕ

abbrev pub StoreParts : Type 0
StoreParts = FilesData × (List ℕ × (List ℕ × (Bool × (ℕ × ℕ))))

abbrev pub parts_of : StoreInMemory → StoreParts
parts_of s = (s.held, (s.fails, (s.torn, (s.drops, (s.calls, s.faults)))))

abbrev pub of_parts : StoreParts → StoreInMemory
of_parts p = record { held = p.0; fails = p.1.0; torn = p.1.1.0; drops = p.1.1.1.0; calls = p.1.1.1.1.0; faults = p.1.1.1.1.1 }

abbrev pub coded_store : Coded StoreInMemory
coded_store =
    code_by StoreParts
    (coded× (map.code (coded_list coded_ℕ) (coded_list coded_ℕ)) (coded× (coded_list coded_ℕ) (coded× (coded_list coded_ℕ) (coded× coded_bool (coded× coded_ℕ coded_ℕ)))))
    parts_of of_parts (λ _. refl)

-- the next call's number is listed
abbrev pub MustFail : StoreInMemory → Type 0
MustFail s = Contains s.fails (following s.calls)

-- one call more, with the same numbers listed and the same ways to fail
pub record IsCalled (old new : StoreInMemory) : Type 0 where
  pub calls : new.calls ≡ following old.calls
  pub fails : new.fails ≡ old.fails
  pub torn : new.torn ≡ old.torn
  pub drops : new.drops ≡ old.drops

-- .. counted before anything is done, with a fault where the call must fail
pub record IsCounted (old new : StoreInMemory) (fails : Bool) : Type 0 where
  pub call : IsCalled old new
  pub held : new.held ≡ old.held
  pub decided : Decides fails (MustFail old)
  pub later : old.faults ≤ new.faults
  pub faults : new.faults ≡ if fails then following old.faults else old.faults
