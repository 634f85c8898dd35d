use Rattle.std.proofs.Common.{◌≡◌, ◌+◌, ℕ, Err, Result, Option, Some, None, MatchOption, arith, refl, subst, sym}
use Rattle.tk_io.specs.FilesData.{FilesData}
use Rattle.edit_script.specs.View.{event_view}
use Rattle.file_plan.specs.declared.files.Files.{Files}
use Rattle.file_plan.specs.declared.loading.LoadStop.{LoadStop}
use Rattle.file_plan.specs.declared.loading.LoadStop.TheVariants.{Unfit}
use Rattle.file_plan.proofs.EventsTaken.{Taken, all_taken, listed_all, listed_here, none_taken, taken_bound, taken_more, unfit_here}
use Rattle.file_plan.proofs.files.Files.load.Goals as goal

-- what holds of no number
of_none : (o : Option ℕ) (P : Type 0) (Q : ℕ → Type 0) → o ≡ None → MatchOption o P Q → P
of_none None P Q e h = h
of_none (Some n) P Q e h = absurd (cc)

-- .. and of one
of_some : (o : Option ℕ) (n : ℕ) (P : Type 0) (Q : ℕ → Type 0) → o ≡ Some n → MatchOption o P Q → Q n
of_some o n P Q e h = subst (λ (x : Option ℕ). MatchOption x P Q) e h

one_number : (r : Result Files LoadStop) (m n : ℕ) → r ≡ Err (Unfit m) → r ≡ Err (Unfit n) → m ≡ n
one_number r m n d e = cc

pub loop-event-init : goal.loop-event-init
loop-event-init c = (subst (λ (files : FilesData). Taken c.args.events.now 0 files 0) (sym c.new-files.ensures) (none_taken c.args.events.now), refl)

pub take-requires : goal.take-requires
take-requires c = taken_bound c.args.events.now c.loop-event.event-index c.loop-event.files c.loop-event.made c.loop-event.invariant.0

pub returns-in_default-clause-unfit : goal.returns-in_default-clause-unfit
returns-in_default-clause-unfit c number e =
    let es = c.args.events.now in
    let i = c.loop-event.event-index in
    let at = listed_here c.as_slice-event-items.result.now event_view es i _ c.as_slice-event-items.ensures c.loop-event-test.true in
    let refused = of_none c.in_ok-sum.field-0 _ _ c.in_default.is c.in_ok-sum.ensures.taken in
    let same = one_number (Err (Unfit (c.loop-event.number + 1))) (c.loop-event.number + 1) number refl e in
    unfit_here es i _ c.loop-event.files c.loop-event.made number at c.loop-event.invariant.0 refused.0 (omega (arith, same, c.loop-event.invariant.1))

pub loop-event-preserved : goal.loop-event-preserved
loop-event-preserved c =
    let es = c.args.events.now in
    let i = c.loop-event.event-index in
    let at = listed_here c.as_slice-event-items.result.now event_view es i _ c.as_slice-event-items.ensures c.loop-event-test.true in
    (taken_more es i _ c.loop-event.files c.take.new.self c.loop-event.made c.in-Some.sum at c.loop-event.invariant.0 (of_some c.in_ok-sum.field-0 c.in-Some.sum _ _ c.in-Some.is c.in_ok-sum.ensures.taken), omega (arith, c.loop-event.invariant.1))

pub returns-clause-files : goal.returns-clause-files
returns-clause-files c =
    let es = c.args.events.now in
    let i = c.loop-event.event-index in
    let done = listed_all c.as_slice-event-items.result.now event_view es i c.as_slice-event-items.ensures c.loop-event-test.false in
    (all_taken es i c.loop-event.files c.loop-event.made done c.loop-event.invariant.0).0

pub returns-clause-fits : goal.returns-clause-fits
returns-clause-fits c =
    let es = c.args.events.now in
    let i = c.loop-event.event-index in
    let done = listed_all c.as_slice-event-items.result.now event_view es i c.as_slice-event-items.ensures c.loop-event-test.false in
    (all_taken es i c.loop-event.files c.loop-event.made done c.loop-event.invariant.0).1
