-- Which arguments are a command, and which command they are.
use Rattle.std.specs.Prelude.{◌≡◌, ◌≤◌, ℕ, ◌&&◌, nat_le, List, [], ◌∷◌, codes, Option, Some, None, if◌then◌else◌}
use Rattle.std.specs.Fmt.{decimal}
use Rattle.std.specs.Str.{bytes_eq}
use Rattle.std.specs.Str.Parse.{digits_value}
use Rattle.command_words.specs.declared.command.Command.{Command}
use Rattle.command_words.specs.declared.command.Command.TheVariants.{Build, Replay, Stats, Gen}

-- the arguments that spell a command: its name, and after `gen` its two numbers in decimal digits
abbrev pub arguments_of : Command → List (List ℕ)
arguments_of Build = codes "build" ∷ []
arguments_of Replay = codes "replay" ∷ []
arguments_of Stats = codes "stats" ∷ []
arguments_of (Gen seed size) = codes "gen" ∷ decimal seed ∷ decimal size ∷ []

-- the greatest seed: the last number of 32 bits
abbrev pub greatest_seed : ℕ
greatest_seed = 4294967295

-- the greatest size, in tokens
abbrev pub most_tokens : ℕ
most_tokens = 4000

-- a seed and a size are within the limits, and a size is at least 1
abbrev pub IsInBounds : Command → Type 0
IsInBounds Build = Unit {0}
IsInBounds Replay = Unit {0}
IsInBounds Stats = Unit {0}
IsInBounds (Gen seed size) = (seed ≤ greatest_seed) × (1 ≤ size) × (size ≤ most_tokens)

-- the arguments are this command
pub record IsCommand (words : List (List ℕ)) (c : Command) : Type 0 where
  pub spelled : words ≡ arguments_of c
  pub bounds : IsInBounds c

-- the number, where it is one of these and the text is its decimal digits
abbrev pub if_spelled : ℕ → ℕ → List ℕ → ℕ → Option ℕ
if_spelled low high text n = if bytes_eq text (decimal n) && (nat_le low n && nat_le n high) then Some n else None

-- the number from the first to the second that the text spells in decimal digits, without sign or leading zero
unfoldable pub decimal_within : ℕ → ℕ → List ℕ → Option ℕ
decimal_within low high text = if_spelled low high text (digits_value 10 text)

abbrev pub seed_of : List ℕ → Option ℕ
seed_of text = decimal_within 0 greatest_seed text

abbrev pub token_count_of : List ℕ → Option ℕ
token_count_of text = decimal_within 1 most_tokens text

abbrev pub gen_of : Option ℕ → Option ℕ → Option Command
gen_of None size = None
gen_of (Some seed) None = None
gen_of (Some seed) (Some size) = Some (Gen seed size)

-- the command whose name is all that spells it
abbrev pub command_named : List ℕ → Option Command
command_named word =
    if bytes_eq word (codes "build") then Some Build
    else (if bytes_eq word (codes "replay") then Some Replay
    else (if bytes_eq word (codes "stats") then Some Stats else None))

-- the command that the arguments are, if they are one: `build`, `replay` or `stats`, or `gen` with a seed and a size
abbrev pub command_of : List (List ℕ) → Option Command
command_of [] = None
command_of (word ∷ []) = command_named word
command_of (word ∷ a ∷ []) = None
command_of (word ∷ a ∷ b ∷ []) = if bytes_eq word (codes "gen") then gen_of (seed_of a) (token_count_of b) else None
command_of (word ∷ a ∷ b ∷ c ∷ more) = None
