-- Texts that are no TOML.
use Rattle.std.specs.Prelude.{◌≡◌, ℕ, List, None}
use Rattle.toml.specs.Parse.{parse_document}
use Rattle.transforms.specs.declared.config.ConfigFault.{ConfigFault}
use Rattle.transforms.specs.declared.config.ConfigFault.TheVariants.{Toml, Key, NoMemory}

-- `Toml` alone is told of a text that has no table
abbrev pub IsUnread : List ℕ → ConfigFault → Type 0
IsUnread text Toml = parse_document text ≡ None
IsUnread text (Key key) = ⊥
IsUnread text NoMemory = Unit {0}
