-- What a run writes.
use Rattle.std.specs.Prelude.{◌≡◌, ◌⊎◌, ℕ, Bool, List, [], ◌∷◌, Option}
use Rattle.std.specs.Io.KnownBytes.{Appends, IsAtEnd}
use Rattle.tk_io.specs.FilesData.{FilesData}
use Rattle.tk_io.specs.Writing.{AppendsPart}
use Rattle.edit_script.specs.Files.{AreFilesAfter, EveryFits}
use Rattle.edit_script.specs.Script.{EventData, IsScript}
use Rattle.token_cli.specs.Headline.{OfSource}
use Rattle.all_breaks.specs.All.{AllTold}
use Rattle.all_breaks.specs.Told.{ToldBreak, listing_text}
use Rattle.check_cli.specs.declared.status.CheckStatus.{CheckStatus}
use Rattle.check_cli.specs.declared.status.CheckStatus.TheVariants as status

-- every event fits, and this is what is told of the files after all of them
abbrev pub TellsAfter : List EventData → List ToldBreak → Type 0
TellsAfter es told = EveryFits es × ((files : FilesData) × AreFilesAfter es files × AllTold files told)

-- whether there is a break
abbrev pub has_break : List ToldBreak → Bool
has_break [] = Bool.false
has_break (t ∷ ts) = Bool.true

-- the text of what is told of the events' files was written; `broken` says whether that is anything
abbrev pub WroteOf : List EventData → Bool → Option (List ℕ) → Option (List ℕ) → Type 0
WroteOf es broken old new =
    (told : List ToldBreak) × TellsAfter es told × (has_break told ≡ broken) × Appends old new (listing_text told)

-- .. or a part of it
abbrev pub CutOf : List EventData → Option (List ℕ) → Option (List ℕ) → Type 0
CutOf es old new = (told : List ToldBreak) × TellsAfter es told × AppendsPart old new (listing_text told)

-- .. of the script that the source had left, which was read to its end

abbrev pub WroteAll : Option (List ℕ) → Option (List ℕ) → Bool → Option (List ℕ) → Option (List ℕ) → Type 0
WroteAll left rest broken old new =
    IsAtEnd rest × OfSource left (λ script. (es : List EventData) × IsScript script es × WroteOf es broken old new)

abbrev pub CutShort : Option (List ℕ) → Option (List ℕ) → Option (List ℕ) → Option (List ℕ) → Type 0
CutShort left rest old new =
    IsAtEnd rest × OfSource left (λ script. (es : List EventData) × IsScript script es × CutOf es old new)

-- all breaks are said to be written, or memory ran out
abbrev pub IsChecked : CheckStatus → Type 0
IsChecked s = (s ≡ status.Done) ⊎ ((s ≡ status.Broken) ⊎ (s ≡ status.NoMemory))
