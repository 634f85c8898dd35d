-- What a run writes.
use Rattle.std.specs.Prelude.{◌≡◌, ◌⊎◌, ℕ, List, Option, None, Some, Result, Ok, Err}
use Rattle.std.specs.Io.KnownBytes.{Appends, IsAtEnd}
use Rattle.tk_io.specs.FilesData.{FilesData}
use Rattle.tk_io.specs.Writing.{AppendsPart}
use Rattle.edit_script.specs.Files.{AreFilesAfter, EveryFits}
use Rattle.edit_script.specs.Script.{EventData, IsScript}
use Rattle.token_cli.specs.Headline.{OfSource}
use Rattle.explain_cli.specs.Answered.{IsAnswer}
use Rattle.explain_cli.specs.Asked.{Asks}
use Rattle.explain_cli.specs.declared.answer.Refusal.{Refusal}
use Rattle.explain_cli.specs.declared.answer.Refusal.TheVariants as refusal
use Rattle.explain_cli.specs.declared.asking.Question.{Question}
use Rattle.explain_cli.specs.declared.status.ExplainStatus.{ExplainStatus}
use Rattle.explain_cli.specs.declared.status.ExplainStatus.TheVariants as status

-- every event fits, and this is the answer of the files after all of them
abbrev pub AnswersAfter : List EventData → Question → Result (List ℕ) Refusal → Type 0
AnswersAfter es q answer = EveryFits es × ((files : FilesData) × AreFilesAfter es files × IsAnswer files q answer)

-- what is written was written, or a part of it; where nothing is, nothing was
abbrev pub WroteOf : List EventData → Question → Option (List ℕ) → Option (List ℕ) → Type 0
WroteOf es q old new = (text : List ℕ) × AnswersAfter es q (Ok text) × Appends old new text

abbrev pub CutOf : List EventData → Question → Option (List ℕ) → Option (List ℕ) → Type 0
CutOf es q old new = (text : List ℕ) × AnswersAfter es q (Ok text) × AppendsPart old new text

abbrev pub RefusedOf : Refusal → List EventData → Question → Option (List ℕ) → Option (List ℕ) → Type 0
RefusedOf why es q old new = AnswersAfter es q (Err why) × (new ≡ old)

-- .. of the question that the words ask, and of the script that the source had left, which was read to its end
abbrev pub OfRun : List (List ℕ) → Option (List ℕ) → Option (List ℕ) → (List EventData → Question → Type 0) → Type 0
OfRun words left rest claim =
    (q : Question) × Asks words q × IsAtEnd rest × OfSource left (λ script. (es : List EventData) × IsScript script es × claim es q)

abbrev pub WroteAll : List (List ℕ) → Option (List ℕ) → Option (List ℕ) → Option (List ℕ) → Option (List ℕ) → Type 0
WroteAll words left rest old new = OfRun words left rest (λ es q. WroteOf es q old new)

abbrev pub CutShort : List (List ℕ) → Option (List ℕ) → Option (List ℕ) → Option (List ℕ) → Option (List ℕ) → Type 0
CutShort words left rest old new = OfRun words left rest (λ es q. CutOf es q old new)

abbrev pub Refuses : Refusal → List (List ℕ) → Option (List ℕ) → Option (List ℕ) → Option (List ℕ) → Option (List ℕ) → Type 0
Refuses why words left rest old new = OfRun words left rest (λ es q. RefusedOf why es q old new)

-- the status of an answer
abbrev pub status_by : Option Refusal → ExplainStatus
status_by None = status.Done
status_by (Some refusal.NoFile) = status.NoFile
status_by (Some refusal.BadCertificate) = status.BadCertificate
status_by (Some refusal.Refused) = status.Refused
status_by (Some refusal.NoPermutation) = status.NoPermutation
status_by (Some refusal.NoPlace) = status.NoPlace

-- the question is answered, or memory ran out
abbrev pub IsAnswered : ExplainStatus → Type 0
IsAnswered s = ((why : Option Refusal) × (s ≡ status_by why)) ⊎ (s ≡ status.NoMemory)
