-- Laws of plans, and of the files in use.
use Rattle.std.specs.Prelude.{◌≡◌, ◌⊎◌, ℕ, List, map, Option, Some, None}
use Rattle.std.specs.FinMap as finite
use Rattle.ring.specs.Lists.{In, AreApart}
use Rattle.json_span.specs.Answer.{IsAnswer, shows, flawed, stops}
use Rattle.json_span.specs.Flaw.{Flaw, first_flaw}
use Rattle.json_span.specs.Parts.{IsPart}
use Rattle.json_span.specs.Reading.{Shows}
use Rattle.json_span.specs.Tree.{Placed}
use Rattle.resolver_doc.specs.Document.{resolver_of}
use Rattle.resolver_doc.specs.Rules.{BreaksNone, IsFirstBroken}
use Rattle.resolver_doc.specs.declared.rule.Break.{Break}
use Rattle.permutations.specs.Answer.{IsWithin, IsTooMany, IsTooManySources}
use Rattle.permutations.specs.Permutation.{Permutation, permutations, file, inline}
use Rattle.tk_io.specs.FilesData.{FilesData}
use Rattle.file_plan.specs.InUse.{resolver_path, files_in_use}
use Rattle.file_plan.specs.Plan.{PlanBreak, stopped, has_flaw, breaks, too_many, too_many_sources, Planned, planned, refused, order_start, order_end, Plans}

-- files have one plan
abbrev pub OnePlan : Type 0
OnePlan = (text : Option (List ℕ)) (a b : Planned) → Plans text a → Plans text b → a ≡ b

-- any files have a plan
abbrev pub EachPlan : Type 0
EachPlan = (text : Option (List ℕ)) → (p : Planned) × Plans text p

-- What is told of a text: where it stops to be JSON; its first flaw; a rule of resolver documents that is broken there, and
-- none before it; or, where no rule is broken, that its order has too many permutations, or one with too many sources.
pub data IsTold (text : List ℕ) : PlanBreak → Type 0 where
  told_stop : {at : ℕ} → IsAnswer text (stops at) → IsTold text (stopped at)
  told_flaw : {f : Flaw} → IsAnswer text (flawed f) → IsTold text (has_flaw f)
  told_rule : {root : Placed} {b : Break} {ring : List (List ℕ)} → IsAnswer text (shows root) → IsFirstBroken root b ring → IsTold text (breaks b ring)
  told_many : {root : Placed} {n : ℕ} → IsAnswer text (shows root) → BreaksNone root → IsTooMany (resolver_of root) n
      → IsTold text (too_many (order_start root) (order_end root) n)
  told_long : {root : Placed} {n : ℕ} → IsAnswer text (shows root) → BreaksNone root → IsTooManySources (resolver_of root) n
      → IsTold text (too_many_sources (order_start root) (order_end root) n)

-- what a refusal says is what is to be told
abbrev pub RefusalsTell : Type 0
RefusalsTell = (text : List ℕ) (b : PlanBreak) → Plans (Some text) (refused b) → IsTold text b

-- a document whose plan is not refused: no rule is broken, and it is within the limits
pub record IsPlanned (text : List ℕ) (perms : List Permutation) : Type 0 where
  pub root : Placed
  pub shown : IsAnswer text (shows root)
  pub none : BreaksNone root
  pub within : IsWithin (resolver_of root)
  pub planned_so : perms ≡ permutations (resolver_of root)

-- each text has a plan or is refused: permutations exactly where no rule is broken
abbrev pub PlannedBreakNone : Type 0
PlannedBreakNone = (text : List ℕ) (perms : List Permutation) → Plans (Some text) (planned perms) → IsPlanned text perms

abbrev pub NoneBrokenIsPlanned : Type 0
NoneBrokenIsPlanned = (text : List ℕ) (perms : List Permutation) → IsPlanned text perms → Plans (Some text) (planned perms)

-- tokens among the sources are parts of the value that the document's text shows, which has no flaw
pub record IsPartOfText (text : Option (List ℕ)) (n : Placed) : Type 0 where
  pub document : List ℕ
  pub there : text ≡ Some document
  pub root : Placed
  pub shown : Shows document root
  pub flawless : first_flaw root ≡ None
  pub part : IsPart n root

abbrev pub InlinesStand : Type 0
InlinesStand = (text : Option (List ℕ)) (perms : List Permutation) → Plans text (planned perms)
    → (p : Permutation) → In p perms → (n : Placed) → In (inline n) p.sources → IsPartOfText text n

-- no two permutations have one name
abbrev pub NamesAreApart : Type 0
NamesAreApart = (text : Option (List ℕ)) (perms : List Permutation) → Plans text (planned perms) → AreApart (map (λ p. p.name) perms)

-- a source of a permutation names the file
pub record IsSourceFile (perms : List Permutation) (path : List ℕ) : Type 0 where
  pub perm : Permutation
  pub among : In perm perms
  pub start : ℕ
  pub end : ℕ
  pub source : In (file path start end) perm.sources

-- the file is the resolver document, or a source names it
abbrev pub IsWanted : List Permutation → List ℕ → Type 0
IsWanted perms path = (path ≡ resolver_path) ⊎ IsSourceFile perms path

-- a file is in use exactly where it is there and is wanted
pub record InUseWhereWanted (files : FilesData) (perms : List Permutation) (path text : List ℕ) : Type 0 where
  pub there : finite.get (files_in_use files perms) path ≡ Some text → finite.get files path ≡ Some text
  pub wanted : finite.get (files_in_use files perms) path ≡ Some text → IsWanted perms path
  pub all : finite.get files path ≡ Some text → IsWanted perms path → finite.get (files_in_use files perms) path ≡ Some text

abbrev pub WantedAreInUse : Type 0
WantedAreInUse = (files : FilesData) (perms : List Permutation) (path text : List ℕ) → InUseWhereWanted files perms path text
