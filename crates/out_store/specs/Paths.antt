-- Where things stand in a store: the outputs under `out/`, and two slots for manifests, each with a gate.
use Rattle.std.specs.Prelude.{◌≡◌, ◌⊎◌, ℕ, Bool, true, ◌==◌, ◌&&◌, ◌||◌, not, List, ◌++◌, length, codes}
use Rattle.std.specs.Char.{is_ascii_alphanumeric}
use Rattle.std.specs.List.{list_all}
use Rattle.tk_io.specs.Characters.{hyphen, low_line, percent_sign, plus_sign}
use Rattle.out_store.specs.declared.slot.Slot.{Slot}
use Rattle.out_store.specs.declared.slot.Slot.TheVariants.{Zero, One}

abbrev pub equals_sign : ℕ
equals_sign = 61

-- an ASCII letter, a digit, `_`, `-`, `%`, `=` or `+`
abbrev pub is_name_byte : ℕ → Bool
is_name_byte b = is_ascii_alphanumeric b || ((b == low_line) || ((b == hyphen) || ((b == percent_sign) || ((b == equals_sign) || (b == plus_sign)))))

-- a permutation's name: one or more of these
abbrev pub is_name : List ℕ → Bool
is_name name = not (length name == 0) && list_all is_name_byte name

-- a permutation's name, and then this
abbrev pub IsFileOf : List ℕ → List ℕ → Type 0
IsFileOf file path = (name : List ℕ) × (is_name name ≡ true) × (path ≡ name ++ file)

-- the paths that outputs have
abbrev pub IsOutputPath : List ℕ → Type 0
IsOutputPath path =
    (path ≡ codes "REFUSED")
    ⊎ (IsFileOf (codes "/Tokens.swift") path ⊎ (IsFileOf (codes "/tokens.css") path
    ⊎ (IsFileOf (codes "/tokens.json") path ⊎ (IsFileOf (codes "/tokens.xml") path ⊎ IsFileOf (codes "/REFUSED") path))))

-- where an output stands
abbrev pub out_place : List ℕ → List ℕ
out_place path = codes "out/" ++ path

-- where a manifest stands, and its gate: an empty file that says that the manifest counts
abbrev pub manifest_place : Slot → List ℕ
manifest_place Zero = codes "meta/0"
manifest_place One = codes "meta/1"

abbrev pub gate_place : Slot → List ℕ
gate_place Zero = codes "meta/0.ok"
gate_place One = codes "meta/1.ok"

abbrev pub other_slot : Slot → Slot
other_slot Zero = One
other_slot One = Zero

-- under `out/`, a slot or a gate
abbrev pub IsStorePlace : List ℕ → Type 0
IsStorePlace place = ((path : List ℕ) × (place ≡ out_place path)) ⊎ ((s : Slot) × ((place ≡ manifest_place s) ⊎ (place ≡ gate_place s)))
