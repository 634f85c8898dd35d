-- The generated script: its files, its events, and its text.
use Rattle.std.specs.Prelude.{ℕ, List, [], ◌∷◌, ◌++◌, codes}
use Rattle.std.specs.List.{flat_map, range_with_len}
use Rattle.edit_script.specs.Script.{EventData, put, commit, event_text, header}
use Rattle.edit_script.specs.declared.version.Version.TheVariants.{First}
use Rattle.generated_script.specs.Tokens.{core_text}

-- the file `resolver.json`: one set and two modifiers of two contexts each
unfoldable pub resolver_text : List ℕ
resolver_text =
    codes "{\"version\":\"2025.10\",\"sets\":{\"core\":{\"sources\":[{\"$ref\":\"core.json\"}]}},"
    ++ (codes "\"modifiers\":{\"theme\":{\"contexts\":{\"light\":[{\"$ref\":\"light.json\"}],"
    ++ (codes "\"dark\":[{\"$ref\":\"dark.json\"}]},\"default\":\"light\"},"
    ++ (codes "\"density\":{\"contexts\":{\"cozy\":[{\"$ref\":\"cozy.json\"}],"
    ++ (codes "\"compact\":[{\"$ref\":\"compact.json\"}]}}},"
    ++ (codes "\"resolutionOrder\":[{\"$ref\":\"#/sets/core\"},{\"$ref\":\"#/modifiers/theme\"},"
    ++ codes "{\"$ref\":\"#/modifiers/density\"}]}")))))

abbrev pub put_core : ℕ → ℕ → ℕ → EventData
put_core seed size edits = put (codes "core.json") (core_text seed size edits)

-- all files, and their commit
abbrev pub first_events : ℕ → ℕ → List EventData
first_events seed size =
    put (codes "resolver.json") resolver_text
    ∷ put_core seed size 0
    ∷ put (codes "light.json") (codes "{\"theme\":{\"$type\":\"number\",\"$value\":1}}")
    ∷ put (codes "dark.json") (codes "{\"theme\":{\"$type\":\"number\",\"$value\":2}}")
    ∷ put (codes "cozy.json") (codes "{\"dens\":{\"$type\":\"number\",\"$value\":1}}")
    ∷ put (codes "compact.json") (codes "{\"dens\":{\"$type\":\"number\",\"$value\":2}}")
    ∷ commit ∷ []

-- an edit of `core.json`, and its commit
abbrev pub edit_events : ℕ → ℕ → ℕ → List EventData
edit_events seed size edit = put_core seed size edit ∷ commit ∷ []

-- how many edits there are
abbrev pub edit_count : ℕ
edit_count = 20

-- the files, and then the edits
unfoldable pub events_of : ℕ → ℕ → List EventData
events_of seed size = first_events seed size ++ flat_map (edit_events seed size) (range_with_len 1 edit_count)

-- the script of a seed and a number of tokens
unfoldable pub script_of : ℕ → ℕ → List ℕ
script_of seed size = header First ++ flat_map event_text (events_of seed size)
