-- What two commits of an engine leave, by what each of them answers.
use Rattle.std.proofs.Common.{◌≡◌, ◌∙◌, Option, Some, None, Result, Ok, Err, IfOk, OnOk, OnErr, ap, subst, sym}
use Rattle.tk_io.specs.FilesData.{FilesData}
use Rattle.tk_io.specs.declared.faults.NoMemory.{NoMemory}
use Rattle.build_plain.specs.Out.{Builds}
use Rattle.build_plain.specs.Work.{work}
use Rattle.rebuild_core.specs.Engine.{EngineState, committed, counts_view, edited, refused}
use Rattle.rebuild_core.specs.Laws.{FromTheSame}
use Rattle.rebuild_core.specs.Work.{IsWorkFrom}
use Rattle.rebuild_core.specs.declared.commit.Commit.{Commit}

abbrev Answer : Type 0
Answer = Result Commit NoMemory

-- what a commit of an engine leaves
abbrev pub Leaves : EngineState → EngineState → Answer → Type 0
Leaves e f r =
    OnOk r (Builds e.files f.held) × OnOk r (f ≡ committed e.files f.held)
    × IfOk r (λ done. IsWorkFrom e.kept e.files (counts_view done.counts)) × OnErr r (f ≡ refused e)

files_stay : (e f : EngineState) (r : Answer) → Leaves e f r → f.files ≡ e.files
files_stay e f (Ok done) (builds, is, counts, none) = ap (λ (x : EngineState). x.files) is
files_stay e f (Err out) (builds, is, counts, none) = ap (λ (x : EngineState). x.files) none

module _ (old put middle last : EngineState) (files : FilesData) (first second : Answer) (with_it : put ≡ edited old files) (one : Leaves put middle first) (two : Leaves middle last second) where
  here : put.files ≡ files
  here = ap (λ (x : EngineState). x.files) with_it

  between : middle.files ≡ files
  between = files_stay put middle first one ∙ here

  pub files_are : last.files ≡ files
  files_are = files_stay middle last second two ∙ between

  abbrev FirstWorks : Answer → Type 0
  FirstWorks r = IfOk r (λ done. IsWorkFrom old.kept files (counts_view done.counts))

  first_works : (r : Answer) → Leaves put middle r → FirstWorks r
  first_works (Ok done) (builds, is, counts, none) = subst (λ (e : EngineState). IsWorkFrom e.kept e.files (counts_view done.counts)) with_it counts
  first_works (Err out) leaves = tt

  pub first_does : FirstWorks first
  first_does = first_works first one

  second_held : (r : Answer) → Leaves middle last r → OnOk r (Builds files last.held)
  second_held (Ok done) (builds, is, counts, none) = subst (λ (f : FilesData). Builds f last.held) between builds
  second_held (Err out) leaves = tt

  pub second_holds : OnOk second (Builds files last.held)
  second_holds = second_held second two

  second_kept : (r : Answer) → Leaves middle last r → OnOk r (last.kept ≡ Some files)
  second_kept (Ok done) (builds, is, counts, none) = ap (λ (x : EngineState). x.kept) is ∙ ap Some between
  second_kept (Err out) leaves = tt

  pub second_keeps : OnOk second (last.kept ≡ Some files)
  second_keeps = second_kept second two

  abbrev SecondWorks : Option FilesData → Answer → Type 0
  SecondWorks kept r = IfOk r (λ done. IsWorkFrom kept files (counts_view done.counts))

  -- what the second does, by what the first left kept
  second_works : (kept : Option FilesData) → middle.kept ≡ kept → (r : Answer) → Leaves middle last r → SecondWorks kept r
  second_works kept was (Ok done) (builds, is, counts, none) =
      subst (λ (f : FilesData). IsWorkFrom kept f (counts_view done.counts)) between (subst (λ (k : Option FilesData). IsWorkFrom k middle.files (counts_view done.counts)) was counts)
  second_works kept was (Err out) leaves = tt

  abbrev NoWork : Answer → Type 0
  NoWork r = IfOk r (λ done. counts_view done.counts ≡ work 0 0 0)

  none_done : FromTheSame → (r : Answer) → SecondWorks (Some files) r → NoWork r
  none_done same (Ok done) works = (same files (counts_view done.counts)).0 works
  none_done same (Err out) works = tt

  no_work : FromTheSame → (r : Answer) → Leaves put middle r → OnOk r (NoWork second)
  no_work same (Ok done) (builds, is, counts, none) =
      none_done same second (second_works (Some files) (ap (λ (x : EngineState). x.kept) is ∙ ap Some here) second two)
  no_work same (Err out) leaves = tt

  pub nothing_done : FromTheSame → OnOk first (NoWork second)
  nothing_done same = no_work same first one

  all_work : (r : Answer) → Leaves put middle r → OnErr r (SecondWorks None second)
  all_work (Ok done) leaves = tt
  all_work (Err out) (builds, is, counts, none) = second_works None (ap (λ (x : EngineState). x.kept) none) second two

  pub all_done : OnErr first (SecondWorks None second)
  all_done = all_work first one

  none_kept : (r : Answer) → Leaves middle last r → OnErr r (last.kept ≡ None)
  none_kept (Ok done) leaves = tt
  none_kept (Err out) (builds, is, counts, none) = ap (λ (x : EngineState). x.kept) none

  pub nothing_kept : OnErr second (last.kept ≡ None)
  nothing_kept = none_kept second two

  first_built : (r : Answer) → Leaves put middle r → OnOk r (Builds files middle.held)
  first_built (Ok done) (builds, is, counts, none) = subst (λ (f : FilesData). Builds f middle.held) here builds
  first_built (Err out) leaves = tt

  first_untouched : (r : Answer) → Leaves put middle r → OnErr r (middle.held ≡ old.held)
  first_untouched (Ok done) leaves = tt
  first_untouched (Err out) (builds, is, counts, none) = ap (λ (x : EngineState). x.held) none ∙ ap (λ (x : EngineState). x.held) with_it

  held_from : (r s : Answer) → Leaves middle last s → OnOk r (Builds files middle.held) → OnErr s (OnOk r (Builds files last.held))
  held_from r (Ok done) leaves built = tt
  held_from r (Err out) (builds, is, counts, none) built =
      subst (λ (h : FilesData). OnOk r (Builds files h)) (sym (ap (λ (x : EngineState). x.held) none)) built

  pub first_stays : OnErr second (OnOk first (Builds files last.held))
  first_stays = held_from first second two (first_built first one)

  held_as : (r s : Answer) → Leaves middle last s → OnErr r (middle.held ≡ old.held) → OnErr s (OnErr r (last.held ≡ old.held))
  held_as r (Ok done) leaves same = tt
  held_as r (Err out) (builds, is, counts, none) same =
      subst (λ (h : FilesData). OnErr r (h ≡ old.held)) (sym (ap (λ (x : EngineState). x.held) none)) same

  pub held_before : OnErr second (OnErr first (last.held ≡ old.held))
  held_before = held_as first second two (first_untouched first one)
