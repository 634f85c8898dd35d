-- The command line as clap's definitions see it, and the arguments that clap is given.
use Rattle.std.specs.Prelude.{codes, ℕ, Bool, true, false, not, ◌==◌, ◌&&◌, ◌||◌, nat_le, length, List, [], ◌∷◌, Option, Some, None, if◌then◌else◌}
use Rattle.std.specs.List.{list_all}
use Rattle.std.specs.Str.{bytes_eq}
use Rattle.clap.specs.Simple.{App, new_app, new_rule, with_rule, with_subcommand}
use Rattle.clap.specs.Walk.{Row, Rule, Text, first_of}
use Rattle.command_words.specs.declared.command.Command.{Command}
use Rattle.command_words.specs.declared.command.Command.TheVariants.{Build, Replay, Stats}
use Rattle.command_words.specs.Words.{gen_of, seed_of, token_count_of}

abbrev pub seed_rule : Rule
seed_rule = record (new_rule (codes "seed")) { required = true }

abbrev pub size_rule : Rule
size_rule = record (new_rule (codes "size")) { required = true }

abbrev pub gen_app : App
gen_app = with_rule (with_rule (new_app (codes "gen")) seed_rule) size_rule

abbrev pub root_app : App
root_app = record { top = record (new_app (codes "tokc")).top { no_binary_name = true }; subs = [] }

abbrev pub tokc_app : App
tokc_app =
    with_subcommand (with_subcommand (with_subcommand (with_subcommand root_app
    (new_app (codes "build")).top) (new_app (codes "replay")).top) (new_app (codes "stats")).top) gen_app.top

-- the command `gen` with these arguments
abbrev pub gen_in : Option Text → Option Text → Option Command
gen_in None size = None
gen_in (Some seed) None = None
gen_in (Some seed) (Some size) = gen_of (seed_of seed) (token_count_of size)

-- the command that clap's matches show: of a subcommand and the values of its arguments
abbrev pub command_in : Option (Text × List Row) → Option Command
command_in None = None
command_in (Some p) =
    if bytes_eq p.0 (codes "build") then Some Build
    else (if bytes_eq p.0 (codes "replay") then Some Replay
    else (if bytes_eq p.0 (codes "stats") then Some Stats
    else gen_in (first_of (codes "seed") p.1) (first_of (codes "size") p.1)))

-- the byte of `-`
abbrev pub dash : ℕ
dash = 45

-- the argument is not empty and does not begin with a dash
abbrev pub is_positional : Text → Bool
is_positional [] = false
is_positional (c ∷ cs) = not (c == dash)

abbrev pub is_known : Text → Bool
is_known w =
    bytes_eq w (codes "build")
    || (bytes_eq w (codes "replay") || (bytes_eq w (codes "stats") || bytes_eq w (codes "gen")))

-- arguments that are handed on: a known name first, and no more than four
abbrev pub is_ready : List Text → Bool
is_ready [] = false
is_ready (w ∷ ws) = is_known w && (list_all is_positional ws && nat_le (length ws) 3)
