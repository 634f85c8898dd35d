-- What a run writes, and why it writes nothing.
use Rattle.std.specs.Prelude.{◌≡◌, ℕ, List, Option}
use Rattle.std.specs.Io.KnownBytes.{Appends, IsAtEnd}
use Rattle.tk_io.specs.FilesData.{FilesData}
use Rattle.tk_io.specs.Writing.{AppendsPart}
use Rattle.edit_script.specs.Files.{AreFilesAfter, EveryFits}
use Rattle.edit_script.specs.Script.{EventData, IsScript}
use Rattle.token_cli.specs.Headline.{OfSource}
use Rattle.theme_css.specs.Themes.{HasBadName, HasRefusal, IsThemeSheet}
use Rattle.theme_cli.specs.declared.status.ThemeStatus.{ThemeStatus}
use Rattle.theme_cli.specs.declared.status.ThemeStatus.TheVariants as status

-- every event fits, and this holds of the files after all of them
abbrev pub OfFiles : List EventData → (FilesData → Type 0) → Type 0
OfFiles es claim = EveryFits es × ((files : FilesData) × AreFilesAfter es files × claim files)

-- the sheet of the events' files was written
abbrev pub WroteOf : List EventData → Option (List ℕ) → Option (List ℕ) → Type 0
WroteOf es old new = (sheet : List ℕ) × OfFiles es (λ files. IsThemeSheet files sheet) × Appends old new sheet

-- .. or a part of it
abbrev pub CutOf : List EventData → Option (List ℕ) → Option (List ℕ) → Type 0
CutOf es old new = (sheet : List ℕ) × OfFiles es (λ files. IsThemeSheet files sheet) × AppendsPart old new sheet

-- .. of the script that the source had left, which was read to its end

abbrev pub OfScript : Option (List ℕ) → Option (List ℕ) → (List EventData → Type 0) → Type 0
OfScript left rest claim =
    IsAtEnd rest × OfSource left (λ script. (es : List EventData) × IsScript script es × claim es)

abbrev pub WroteAll : Option (List ℕ) → Option (List ℕ) → Option (List ℕ) → Option (List ℕ) → Type 0
WroteAll left rest old new = OfScript left rest (λ es. WroteOf es old new)

abbrev pub CutShort : Option (List ℕ) → Option (List ℕ) → Option (List ℕ) → Option (List ℕ) → Type 0
CutShort left rest old new = OfScript left rest (λ es. CutOf es old new)

-- the first refusal among the outputs of the script's files is at this path
abbrev pub TellsRefusal : Option (List ℕ) → Option (List ℕ) → List ℕ → Type 0
TellsRefusal left rest path = OfScript left rest (λ es. OfFiles es (λ files. HasRefusal files path))

-- none is refused, and this is the first name of a modifier or a context that no selector can hold
abbrev pub TellsName : Option (List ℕ) → Option (List ℕ) → List ℕ → Type 0
TellsName left rest name = OfScript left rest (λ es. OfFiles es (λ files. HasBadName files name))

-- the status of files, where nothing fails: they have a sheet, or a refusal, or a name that no selector can hold
abbrev pub IsStatusOf : FilesData → ThemeStatus → Type 0
IsStatusOf files status.Done = (sheet : List ℕ) × IsThemeSheet files sheet
IsStatusOf files status.Refused = (path : List ℕ) × HasRefusal files path
IsStatusOf files status.Usage = ⊥
IsStatusOf files status.BadScript = ⊥
IsStatusOf files status.ReadFault = ⊥
IsStatusOf files status.WriteFault = ⊥
IsStatusOf files status.NoMemory = ⊥
IsStatusOf files status.TooLong = ⊥
IsStatusOf files status.BadEvent = ⊥
IsStatusOf files status.Name = (name : List ℕ) × HasBadName files name

-- .. which is one
abbrev pub OneThemeStatus : Type 0
OneThemeStatus = (files : FilesData) (a b : ThemeStatus) → IsStatusOf files a → IsStatusOf files b → a ≡ b
