-- What is written for a script: commit after commit, the output files that a build from nothing of the files then present
-- would change, or how many they are and how much was done for them.
use Rattle.std.specs.Prelude.{◌≡◌, ◌<◌, ◌≤◌, ◌+◌, ◌⊎◌, ℕ, zero, suc, Bool, true, false, ◌||◌, List, length, take, codes, map as map_list, Option, None, Some, IfSome, IsSomeAnd}
use Rattle.std.specs.FinMap as map
use Rattle.std.specs.List.{ends_with, list_any, slice_get}
use Rattle.std.specs.Bool.{nat_eq}
use Rattle.std.specs.Str.{bytes_eq}
use Rattle.std.specs.Io.KnownBytes.{Appends, IsAtEnd}
use Rattle.std.specs.String.{string_bytes}
use Rattle.std.specs.declared.string.String.{String}
use Rattle.tk_io.specs.Causes.{Rose}
use Rattle.tk_io.specs.Reading.{TakesExactly}
use Rattle.tk_io.specs.Writing.{AppendsFront, AppendsPart}
use Rattle.tk_io.specs.FilesData.{FilesData}
use Rattle.edit_script.specs.Script.{EventData, IsScript, IsScriptStop}
use Rattle.edit_script.specs.Files.{AreFilesAt, EveryFits, IsUnfit, commit_count, as_one_commit}
use Rattle.edit_script.specs.Delta.{Delta, AreDeltas, held_at}
use Rattle.build_plain.specs.Out.{Builds}
use Rattle.build_plain.specs.Work.{Work}
use Rattle.rebuild_core.specs.Work.{IsWorkFrom}
use Rattle.command_words.specs.Words.{command_of}
use Rattle.command_words.specs.declared.command.Command.{Command}
use Rattle.command_words.specs.declared.command.Command.TheVariants.{Build, Replay, Stats, Gen}
use Rattle.generated_script.specs.Script.{script_of}
use Rattle.token_cli.specs.Told.{commits_so_far, whole_text}
use Rattle.token_cli.specs.declared.telling.Telling.{Telling}
use Rattle.token_cli.specs.declared.telling.Telling.TheVariants.{Records, Numbers}

-- how many bytes a script may have
abbrev pub most_bytes : ℕ
most_bytes = 67108864

-- the command that the arguments of a command line are, if they are one
abbrev pub asked_by : {Z : Type 0} → List (String Z) → Option Command
asked_by words = command_of (map_list string_bytes words)

-- how a command tells the commits
abbrev pub telling_of : Command → Telling
telling_of Build = Records
telling_of Replay = Records
telling_of Stats = Numbers
telling_of (Gen seed size) = Numbers

-- the events that a command acts on: for `build` as if every commit were taken out and one stood at the end
abbrev pub events_for : Command → List EventData → List EventData
events_for Build es = as_one_commit es
events_for Replay es = es
events_for Stats es = es
events_for (Gen seed size) es = es

-- what a build from nothing makes of the files at the k-th commit, counted from 1
abbrev pub BuildsAt : List EventData → ℕ → FilesData → Type 0
BuildsAt es k out = (files : FilesData) × AreFilesAt es k files × Builds files out

-- the outputs held at the first commits, each built from nothing, and the changes from one to the next; before the first
-- none are held
pub record AreCommits (es : List EventData) (held : List FilesData) (deltas : List Delta) : Type 0 where
  pub count : length held ≤ commit_count es
  pub built : (k : ℕ) → (out : FilesData) → slice_get held k ≡ Some out → BuildsAt es (suc k) out
  pub changes : AreDeltas map.empty held deltas

-- the files of the last of the first n commits, which are kept; before the first none are
abbrev pub IsKeptAt : List EventData → ℕ → Option FilesData → Type 0
IsKeptAt es zero kept = kept ≡ None
IsKeptAt es (suc n) kept = IsSomeAnd kept (AreFilesAt es (suc n))

-- how much is done for the commit behind the first n: to come from the files that these leave kept to those that stand then
abbrev pub IsWorkAt : List EventData → ℕ → Work → Type 0
IsWorkAt es n work =
    (kept : Option FilesData) × (files : FilesData) × IsKeptAt es n kept × AreFilesAt es (suc n) files × IsWorkFrom kept files work

-- how much is done for each of the commits at which these outputs are held
pub record AreWorks (es : List EventData) (held : List FilesData) (works : List Work) : Type 0 where
  pub count : length works ≡ length held
  pub done : (n : ℕ) → (work : Work) → slice_get works n ≡ Some work → IsWorkAt es n work

-- what is held after the last of these commits
abbrev pub last_held : List FilesData → FilesData
last_held held = held_at map.empty held (length held)

-- the path is `REFUSED`, or ends in `/REFUSED`
abbrev pub is_refusal : List ℕ → Bool
is_refusal path = bytes_eq path (codes "REFUSED") || ends_with nat_eq path (codes "/REFUSED")

-- a refusal is held: of the files' configuration or plan, or of a permutation
abbrev pub is_refused : FilesData → Bool
is_refused held = list_any (λ output. is_refusal output.0) (map.entries held)

-- all was written; `refused` says whether a refusal is held at the end
abbrev pub WroteWhole : Telling → List EventData → Bool → Option (List ℕ) → Option (List ℕ) → Type 0
WroteWhole told es refused old new =
    (held : List FilesData) × (deltas : List Delta) × (works : List Work) × AreCommits es held deltas × AreWorks es held works
    × (length held ≡ commit_count es) × (is_refused (last_held held) ≡ refused) × Appends old new (whole_text told works deltas)

-- a part was written, and not all: a prefix of what some of the commits gave, or less than the whole of what all gave
abbrev pub WrotePart : Telling → List EventData → Option (List ℕ) → Option (List ℕ) → Type 0
WrotePart told es old new =
    (held : List FilesData) × (deltas : List Delta) × (works : List Work) × AreCommits es held deltas × AreWorks es held works
    × (((length held < commit_count es) × AppendsFront old new (commits_so_far told works deltas))
    ⊎ ((length held ≡ commit_count es) × AppendsPart old new (whole_text told works deltas)))

-- What is written of a script in which an event does not fit.

-- how many commits a command tells before the event with this number, which is none: `build` tells none before its end
abbrev pub commits_before : Command → List EventData → ℕ → ℕ
commits_before Build es number = 0
commits_before Replay es number = commit_count (take number es)
commits_before Stats es number = commit_count (take number es)
commits_before (Gen seed size) es number = commit_count (take number es)

-- the first line and so many commits of these events were written
abbrev pub WroteUpTo : Telling → List EventData → ℕ → Option (List ℕ) → Option (List ℕ) → Type 0
WroteUpTo told es count old new =
    (held : List FilesData) × (deltas : List Delta) × (works : List Work) × AreCommits es held deltas × AreWorks es held works
    × (length held ≡ count) × Appends old new (commits_so_far told works deltas)

-- .. or a prefix of that
abbrev pub WroteFrontUpTo : Telling → List EventData → ℕ → Option (List ℕ) → Option (List ℕ) → Type 0
WroteFrontUpTo told es count old new =
    (held : List FilesData) × (deltas : List Delta) × (works : List Work) × AreCommits es held deltas × AreWorks es held works
    × (length held ≤ count) × AppendsFront old new (commits_so_far told works deltas)

-- a part was written of what a command tells of these events: not all, and where an event does not fit nothing that comes
-- after it
abbrev pub WroteSome : Command → List EventData → Option (List ℕ) → Option (List ℕ) → Type 0
WroteSome c es old new =
    (EveryFits es × WrotePart (telling_of c) (events_for c es) old new)
    ⊎ ((number : ℕ) × IsUnfit es number
    × WroteFrontUpTo (telling_of c) (events_for c es) (commits_before c es number) old new)

-- Where a script comes from.

-- whether a command takes its script from the source
abbrev pub reads_source : Command → Bool
reads_source Build = true
reads_source Replay = true
reads_source Stats = true
reads_source (Gen seed size) = false

-- these are the bytes of the script that a command acts on: what the source tells that it has left, or what `gen` makes
-- of its numbers
abbrev pub IsScriptOf : Command → Option (List ℕ) → List ℕ → Type 0
IsScriptOf Build left script = left ≡ Some script
IsScriptOf Replay left script = left ≡ Some script
IsScriptOf Stats left script = left ≡ Some script
IsScriptOf (Gen seed size) left script = script ≡ script_of seed size

-- this holds of a script that isn't too long, where the source tells what it has left
abbrev pub OfSource : Option (List ℕ) → (List ℕ → Type 0) → Type 0
OfSource left claim = IfSome left (λ script. (length script ≤ most_bytes) × claim script)

-- .. of the script that a command acts on
abbrev pub OfBytes : Command → Option (List ℕ) → (List ℕ → Type 0) → Type 0
OfBytes Build left claim = OfSource left claim
OfBytes Replay left claim = OfSource left claim
OfBytes Stats left claim = OfSource left claim
OfBytes (Gen seed size) left claim = claim (script_of seed size)

-- .. of the events of that script
abbrev pub OfEvents : Command → Option (List ℕ) → (List EventData → Type 0) → Type 0
OfEvents c left claim = OfBytes c left (λ script. (es : List EventData) × IsScript script es × claim es)

-- what a command leaves in the source: nothing, and for `gen` all that was there
abbrev pub IsLeftBy : Command → Option (List ℕ) → Option (List ℕ) → Type 0
IsLeftBy Build left rest = IsAtEnd rest
IsLeftBy Replay left rest = IsAtEnd rest
IsLeftBy Stats left rest = IsAtEnd rest
IsLeftBy (Gen seed size) left rest = rest ≡ left

-- What was made of a script.

-- every event fits, and all is written that a command tells of these events
abbrev pub WroteEvents : Command → List EventData → Bool → Option (List ℕ) → Option (List ℕ) → Type 0
WroteEvents c es refused old new = EveryFits es × WroteWhole (telling_of c) (events_for c es) refused old new

-- all was written of the script
abbrev pub WroteAll : Option Command → Option (List ℕ) → Option (List ℕ) → Bool → Option (List ℕ) → Option (List ℕ) → Type 0
WroteAll command left rest refused old new =
    IfSome command (λ c. IsLeftBy c left rest × OfEvents c left (λ es. WroteEvents c es refused old new))

-- .. and a part was
abbrev pub WroteLess : Option Command → Option (List ℕ) → Option (List ℕ) → Option (List ℕ) → Option (List ℕ) → Type 0
WroteLess command left rest old new =
    IfSome command (λ c. IsLeftBy c left rest × OfEvents c left (λ es. WroteSome c es old new))

-- the event with this number is the first that does not fit, and all that comes before it is written
abbrev pub StopsAt : Command → List EventData → ℕ → Option (List ℕ) → Option (List ℕ) → Type 0
StopsAt c es number old new =
    IsUnfit es number × WroteUpTo (telling_of c) (events_for c es) (commits_before c es number) old new

-- an event of the script does not fit
abbrev pub RefusesEvent : Option Command → Option (List ℕ) → Option (List ℕ) → Option (List ℕ) → Option (List ℕ) → ℕ → Type 0
RefusesEvent command left rest old new number =
    IfSome command (λ c. IsLeftBy c left rest × OfEvents c left (λ es. StopsAt c es number old new))

-- what was read to its end is no script, and is refused at this byte
abbrev pub IsNoScript : Option (List ℕ) → Option (List ℕ) → ℕ → Type 0
IsNoScript left rest at = IsAtEnd rest × OfSource left (λ script. IsScriptStop script at)

-- what was read to its end is a script in which the event with this number is the first that does not fit
abbrev pub HasUnfitEvent : Option (List ℕ) → Option (List ℕ) → ℕ → Type 0
HasUnfitEvent left rest number =
    IsAtEnd rest × OfSource left (λ script. (es : List EventData) × IsScript script es × IsUnfit es number)

-- How a run ends before all is written.

-- what was read is no script, and nothing was written
abbrev pub RefusesScript : Option (List ℕ) → Option (List ℕ) → Option (List ℕ) → Option (List ℕ) → ℕ → Type 0
RefusesScript left rest old new at = (new ≡ old) × IsNoScript left rest at

-- the count of the source's faults rose, and nothing was written
abbrev pub FailsToRead : ℕ → ℕ → Option (List ℕ) → Option (List ℕ) → Type 0
FailsToRead before now old new = Rose before now × (new ≡ old)

-- the count of the sink's faults rose, and a part was written
abbrev pub FailsToWrite : Option Command → Option (List ℕ) → Option (List ℕ) → ℕ → ℕ → Option (List ℕ) → Option (List ℕ) → Type 0
FailsToWrite command left rest before now old new = Rose before now × WroteLess command left rest old new

-- memory ran out: nothing was written, or a part
abbrev pub RunsOut : Option Command → Option (List ℕ) → Option (List ℕ) → Option (List ℕ) → Option (List ℕ) → Type 0
RunsOut command left rest old new = (new ≡ old) ⊎ WroteLess command left rest old new

-- one byte more than the limit was taken, and nothing was written
abbrev pub TakesTooMuch : Option (List ℕ) → Option (List ℕ) → Option (List ℕ) → Option (List ℕ) → Type 0
TakesTooMuch left rest old new = TakesExactly (most_bytes + 1) left rest × (new ≡ old)
