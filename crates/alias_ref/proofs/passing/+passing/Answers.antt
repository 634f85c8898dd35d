use Rattle.std.proofs.Common.{rules, ◌≡◌, ℕ, List, ◌+◌, ◌∷◌, ◌++◌, [], length, drop, Some, arith, refl, sym, ap, ap₂, ◌∙◌, subst, length-append}
use Rattle.std.proofs.lemmas.Result.{err_from_is_err_and}
use Rattle.std.specs.Prelude.{IfOk}
use Rattle.name_path.specs.declared.place.Place.{Place}
use Rattle.alias_ref.specs.Written.{is_reference, is_written, is_misspelled, refers, written_in}
use Rattle.alias_ref.specs.Visits.{Way, settle_by, steps_from, way_of, after_visits, pass_written, passed, first_break}
use Rattle.alias_ref.specs.inner.Contents.{content_view}
use Rattle.alias_ref.specs.inner.Seen.{Clean, Sees, IsFault}
use Rattle.alias_ref.specs.inner.Spots.{start_in}
use Rattle.alias_ref.proofs.FirstBreaks.{clean_nil, clean_append, enters, passed-fault}
use Rattle.alias_ref.proofs.SpotsStand.{spot_written, spot_start, spot_whole, spot_no_part, items_fit, settled_spot}
use Rattle.alias_ref.proofs.TracesGrow.{spot_own, starts_more, same_then, not_there, drop_all}
use Rattle.alias_ref.proofs.WalksInTurns.{lost_told, way_lost, way_found, turn_fault, step_fault, step_on, turns_done, next_seen, on_ok, pass_fault, pass_clean, pass_ends, refers_fault, refers_then_fault, refers_clean, settle_passes, settle_stays, next_steps, sees_by}
use Rattle.alias_ref.proofs.passing.+passing.Goals as goal

pub follow_step-returns-in-Err-clause-seen : goal.follow_step-returns-in-Err-clause-seen
follow_step-returns-in-Err-clause-seen t c =
    let T = written_in c.args.flat.now in
    let settle = settle_by T (passed T c.args.trace.now.places.items) in
    let home = c.args.home.now in
    let p = c.args.spot.place in
    let s = c.args.step.now in
    let n = c.args.trace.now.visits in
    turn_fault T settle home (steps_from T settle home p (s ∷ [])) p s [] [] (clean_nil T n) refl c.in-Err.fault c.in-Err.ensures.seen

pub follow_step-next_spot-requires : goal.follow_step-next_spot-requires
follow_step-next_spot-requires t c = record { short = items_fit c.args.flat.now c.in-Ok.end c.in-Ok.ensures.found }

pub follow_step-returns-in-Ok : goal.follow_step-returns-in-Ok
follow_step-returns-in-Ok t c =
    let flat = c.args.flat.now in
    let T = written_in flat in
    let branch = c.args.trace.now.places.items in
    let k = c.in-Ok.ensures in
    let n = c.next_spot.ensures in
    let end = c.in-Ok.end in
    let s = c.args.step.now in
    let plain = settled_spot flat branch c.args.spot.place end k.found k.ends in
    let next = n.at flat k.found plain in
    let r = next_seen T (settle_by T (passed T branch)) c.args.home.now c.args.spot.place end.place s c.next_spot.result k.seen k.ends n.place next
    (λ x at. ap is_written (spot_written flat x at)) n.none (λ gone. ap is_written (spot_no_part flat end s k.found plain gone)) in
    record { seen = r.0; ends = r.1; found = next; branch = on_ok c.next_spot.result k.branch }

pub follow_steps-loop-step-init : goal.follow_steps-loop-step-init
follow_steps-loop-step-init t c = ([], clean_nil (written_in c.args.flat.now) c.args.trace.now.visits, refl, c.requires.at, (refl {A = List Place}, refl {A = List ℕ}))

pub follow_steps-returns-in-Err-clause-seen : goal.follow_steps-returns-in-Err-clause-seen
follow_steps-returns-in-Err-clause-seen t c =
    let T = written_in c.args.flat.now in
    let settle = settle_by T (passed T c.args.trace.now.places.items) in
    let home = c.args.home.now in
    let i = c.loop-step.step-index in
    let inv = c.loop-step.invariant in
    let ss = c.args.steps.now in
    let s = c.step-item.result in
    let f = c.in-Err.fault in
    let here = c.loop-step.spot.place in
    let so_far = next_steps T settle home here inv.0 ss i (omega arith) c.step-item.is inv.2 in
    let seen = subst (λ b. IsFault f (first_break T c.loop-step.trace.visits (steps_from T (settle_by T (passed T b)) home here (s ∷ [])).seen)) inv.4.0 c.in-Err.ensures.seen in
    step_fault T settle home (steps_from T settle home c.args.from.place ss) here s (drop (i + 1) ss) inv.0 inv.1 so_far f seen

pub follow_steps-loop-step-preserved : goal.follow_steps-loop-step-preserved
follow_steps-loop-step-preserved t c =
    let T = written_in c.args.flat.now in
    let settle = settle_by T (passed T c.args.trace.now.places.items) in
    let home = c.args.home.now in
    let i = c.loop-step.step-index in
    let inv = c.loop-step.invariant in
    let ss = c.args.steps.now in
    let s = c.step-item.result in
    let next = c.in-Ok.next in
    let k = c.in-Ok.ensures in
    let here = c.loop-step.spot.place in
    let way : List Place → Way = λ b. steps_from T (settle_by T (passed T b)) home here (s ∷ []) in
    let so_far = next_steps T settle home here inv.0 ss i (omega arith) c.step-item.is inv.2 in
    let ends : (steps_from T settle home here (s ∷ [])).ends ≡ Some next.place = subst (λ b. (way b).ends ≡ Some next.place) inv.4.0 k.ends in
    let clean = subst (λ b. Clean T c.loop-step.trace.visits c.follow_step.new.trace.visits (way b).seen) inv.4.0 k.seen in (
      inv.0 ++ (steps_from T settle home here (s ∷ [])).seen,
      clean_append T inv.0 (steps_from T settle home here (s ∷ [])).seen inv.1 clean,
      step_on T settle home (steps_from T settle home c.args.from.place ss) here s (drop (i + 1) ss) inv.0 inv.1 so_far next.place ends,
      k.found,
      same_then c.args.trace.now c.loop-step.trace c.follow_step.new.trace inv.4 k.branch,
    )

pub follow_steps-returns : goal.follow_steps-returns
follow_steps-returns t c =
    let T = written_in c.args.flat.now in
    let settle = settle_by T (passed T c.args.trace.now.places.items) in
    let home = c.args.home.now in
    let inv = c.loop-step.invariant in
    let ss = c.args.steps.now in
    let so_far = ap (λ xs. after_visits inv.0 (steps_from T settle home c.loop-step.spot.place xs)) (sym (drop_all ss c.loop-step.step-index (λ k. omega (arith, k)))) ∙ inv.2 in
    let done = turns_done T settle home (steps_from T settle home c.args.from.place ss) c.loop-step.spot.place inv.0 so_far in
    record {
      seen = subst (λ (w : Way). Clean T c.args.trace.now.visits c.loop-step.trace.visits w.seen) (sym done) inv.1;
      ends = ap (λ w. w.ends) done;
      found = inv.3;
      branch = inv.4;
    }

pub follow-returns-in-Err-clause-seen : goal.follow-returns-in-Err-clause-seen
follow-returns-in-Err-clause-seen t c =
    let T = written_in c.args.flat.now in
    let settle = settle_by T (passed T c.args.trace.now.places.items) in
    let home = c.args.home.now in
    let token = c.args.named.now.token in
    let steps = c.args.named.now.trail in
    lost_told T c.in-Err.fault home (first_break T c.args.trace.now.visits (way_of T settle home token steps).seen) c.in-Err.ensures.none
    (λ gone. way_lost T settle home token steps c.args.trace.now.visits (not_there c.args.flat.now token gone))

pub follow-follow_steps-requires : goal.follow-follow_steps-requires
follow-follow_steps-requires t c = (omega arith, (c.in-Ok.ensures.at, (c.requires.room, c.requires.starts)))

pub follow-returns : goal.follow-returns
follow-returns t c =
    let T = written_in c.args.flat.now in
    let settle = settle_by T (passed T c.args.trace.now.places.items) in
    let home = c.args.home.now in
    let token = c.args.named.now.token in
    let place = c.in-Ok.ensures.place in
    let found = way_found T settle home token c.args.named.now.trail (spot_whole c.args.flat.now c.in-Ok.spot token c.in-Ok.ensures.at place) in
    let same : steps_from T settle home c.in-Ok.spot.place c.as_slice.result.now ≡ way_of T settle home token c.args.named.now.trail = ap₂ (steps_from T settle home) place c.as_slice.ensures ∙ sym found in
    let k = c.follow_steps.ensures in
    record {
      seen = subst (λ (w : Way). Sees T w.seen c.args.trace.now.visits c.follow_steps.new.trace.visits c.follow_steps.result) same k.seen;
      ends = subst (λ (w : Way). IfOk c.follow_steps.result (λ e. w.ends ≡ Some e.place)) same k.ends;
      found = k.found;
      branch = k.branch;
    }

pub pass-returns-in_err-enter-clause-seen : goal.pass-returns-in_err-enter-clause-seen
pass-returns-in_err-enter-clause-seen t c =
    let old = c.args.trace.now in
    let T = written_in c.args.flat.now in
    let spot = c.args.spot.now in
    let fault = passed-fault T c.in_err-enter.field-0.0 old.visits old.places.items spot.place (spot_own old c.requires.at c.requires.starts c.in_err-enter.ensures.broken) in
    let p = err_from_is_err_and c.from_residual.result c.from_residual.ensures.1 in
    rw (p.1, p.2) fault

pub pass-pass_on-requires : goal.pass-pass_on-requires
pass-pass_on-requires t c =
    let old = c.args.trace.now in
    let T = written_in c.args.flat.now in
    let flat = c.args.flat.now in
    let spot = c.args.spot.now in
    let is = spot_written flat spot c.requires.at in
    let e = c.in_ok-enter.ensures in
    let own = spot_own old c.requires.at c.requires.starts e.broken in
    let entered = enters T old.visits old.places.items spot.place own in
    let grown : length c.enter.new.self.places.items ≡ length old.places.items + 1 = ap length e.places ∙ length-append old.places.items (spot.place ∷ []) in
    let starts = starts_more (start_in flat) old.places.items c.enter.new.self.places.items old.starts.items c.enter.new.self.starts.items spot.place spot.start c.requires.starts e.places e.starts (spot_start flat spot c.requires.at) in
    (omega (arith, entered.room, grown), (c.requires.at, (omega (arith, entered.room, grown), (starts, (ap is_misspelled (sym is) ∙ entered.spelled, c.requires.refers)))))

pub pass-returns-in_err-end-clause-seen : goal.pass-returns-in_err-end-clause-seen
pass-returns-in_err-end-clause-seen t c =
    let old = c.args.trace.now in
    let T = written_in c.args.flat.now in
    let flat = c.args.flat.now in
    let spot = c.args.spot.now in
    let is = spot_written flat spot c.requires.at in
    let e = c.in_ok-enter.ensures in
    let own = spot_own old c.requires.at c.requires.starts e.broken in
    let p = err_from_is_err_and c.from_residual-in_err-end.result c.from_residual-in_err-end.ensures.1 in
    rw (p.1, p.2) (pass_fault T old.visits old.places.items c.enter.new.self.places.items spot.place (content_view spot.content) is own e.places e.counted c.in_err-end.field-0.0 c.in_err-end.ensures.seen)

pub pass-returns : goal.pass-returns
pass-returns t c =
    let old = c.args.trace.now in
    let T = written_in c.args.flat.now in
    let flat = c.args.flat.now in
    let spot = c.args.spot.now in
    let is = spot_written flat spot c.requires.at in
    let e = c.in_ok-enter.ensures in
    let own = spot_own old c.requires.at c.requires.starts e.broken in
    record {
      seen = subst (λ k. Clean T old.visits k (passed T old.places.items spot.place).seen) (sym c.leave.ensures.visits)
          (pass_clean T old.visits old.places.items c.enter.new.self.places.items spot.place (content_view spot.content) is own e.places e.counted c.in_ok-end.ensures.seen);
      ends = pass_ends T old.visits old.places.items c.enter.new.self.places.items spot.place (content_view spot.content) is own e.places e.counted c.in_ok-end.end.place c.in_ok-end.ensures.ends;
      found = c.in_ok-end.ensures.found;
      branch = search rules;
    }

pub pass_on-returns-in_err-target-clause-seen : goal.pass_on-returns-in_err-target-clause-seen
pass_on-returns-in_err-target-clause-seen t c =
    let T = written_in c.args.flat.now in
    let settle = settle_by T (passed T c.args.trace.now.places.items) in
    let spot = c.args.spot.now in
    let token = c.in-Refers.named.token in
    let trail = c.in-Refers.named.trail in
    let is = ap content_view c.in-Refers.is in
    let f = c.in_err-target.field-0.0 in
    let p = err_from_is_err_and c.from_residual.result c.from_residual.ensures.1 in
    rw (p.1, p.2) (subst (λ w. IsFault f (first_break T c.args.trace.now.visits (pass_written T settle spot.place (Some w)).seen)) (sym is)
    (refers_fault T f c.args.trace.now.visits settle spot.place token trail c.in_err-target.ensures.seen))

pub pass_on-returns-clause-seen : goal.pass_on-returns-clause-seen
pass_on-returns-clause-seen t c =
    let T = written_in c.args.flat.now in
    let settle = settle_by T (passed T c.args.trace.now.places.items) in
    let spot = c.args.spot.now in
    let token = c.in-Refers.named.token in
    let trail = c.in-Refers.named.trail in
    let is = ap content_view c.in-Refers.is in
    let k = c.in_ok-target.ensures in
    let q = c.in_ok-target.target.place in
    let seen = subst (λ b. Sees T (settle_by T (passed T b) q).seen c.follow.new.trace.visits c.settle.new.trace.visits c.settle.result) k.branch.0 c.settle.ensures.seen in
    subst (λ x. Sees T (pass_written T settle spot.place (Some x)).seen c.args.trace.now.visits c.settle.new.trace.visits c.settle.result) (sym is)
    (sees_by T (settle q).seen (pass_written T settle spot.place (Some (refers token trail))).seen c.settle.result
    (λ d. refers_clean T settle spot.place q token trail k.ends k.seen d)
    (λ f h. refers_then_fault T f settle spot.place q token trail k.ends k.seen h)
    seen)

pub settle-returns-then-is_reference : goal.settle-returns-then-is_reference
settle-returns-then-is_reference t c =
    let T = written_in c.args.flat.now in
    let pass = passed T c.args.trace.now.places.items in
    let is = spot_written c.args.flat.now c.args.spot c.requires.at in
    let passes = settle_passes T pass c.args.spot.place (ap is_reference is ∙ sym c.is_reference.ensures ∙ c.if-is_reference.true) in
    record {
      seen = subst (λ w. Sees T w.seen c.args.trace.now.visits c.pass.new.trace.visits c.pass.result) (sym passes) c.pass.ensures.seen;
      ends = subst (λ w. IfOk c.pass.result (λ e. w.ends ≡ Some e.place)) (sym passes) c.pass.ensures.ends;
      found = c.pass.ensures.found;
      branch = c.pass.ensures.branch;
    }

pub settle-returns : goal.settle-returns
settle-returns t c =
    let T = written_in c.args.flat.now in
    let pass = passed T c.args.trace.now.places.items in
    let is = spot_written c.args.flat.now c.args.spot c.requires.at in
    let stays = settle_stays T pass c.args.spot.place (ap is_reference is ∙ sym c.is_reference.ensures ∙ c.if-is_reference.false) in
    record {
      seen = subst (λ w. Clean T c.args.trace.now.visits c.args.trace.now.visits w.seen) (sym stays) (clean_nil T c.args.trace.now.visits);
      ends = ap (λ w. w.ends) stays;
      found = c.requires.at;
      branch = (refl {A = List Place}, refl {A = List ℕ});
    }
