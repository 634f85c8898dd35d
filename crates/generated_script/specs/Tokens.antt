-- The tokens of the generated file `core.json`, and the literals that edits give them.
use Rattle.std.specs.Prelude.{ℕ, zero, suc, ◌+◌, ◌-◌, ◌*◌, ◌/◌, ◌%◌, ◌==◌, List, ◌++◌, codes, if◌then◌else◌}
use Rattle.std.specs.Fmt.{decimal}
use Rattle.std.specs.List.{flat_map, range_with_len}

-- how many blocks of ten tokens there are; the last may be shorter
abbrev pub block_count : ℕ → ℕ
block_count size = (size + 9) / 10

-- the token whose literal this edit changes
abbrev pub edited : ℕ → ℕ → ℕ → ℕ
edited seed size edit = 10 * ((seed + 7 * edit) % block_count size)

-- the literal of a token after so many edits: that of the last of them which changed it, or else its first
unfoldable pub literal : ℕ → ℕ → ℕ → ℕ → ℕ
literal seed size zero i = (seed + i) % 100
literal seed size (suc j) i = if edited seed size (suc j) == i then 100 + suc j else literal seed size j i

-- the first token of a block has a literal, and each other refers to the token before it
abbrev pub generated_value : ℕ → ℕ → ℕ → ℕ → List ℕ
generated_value seed size edits i =
    if i % 10 == 0 then codes "{\"value\":" ++ (decimal (literal seed size edits i) ++ codes ",\"unit\":\"px\"}")
    else codes "\"{t.n" ++ (decimal (i - 1) ++ codes "}\"")

abbrev pub generated_token : ℕ → ℕ → ℕ → ℕ → List ℕ
generated_token seed size edits i =
    codes ",\"n" ++ (decimal i ++ (codes "\":{\"$value\":" ++ (generated_value seed size edits i ++ codes "}")))

-- the file after so many edits: a group of as many tokens
unfoldable pub core_text : ℕ → ℕ → ℕ → List ℕ
core_text seed size edits =
    codes "{\"t\":{\"$type\":\"dimension\""
    ++ (flat_map (generated_token seed size edits) (range_with_len 0 size) ++ codes "}}")
