use Rattle.std.proofs.Common.{◌+◌, ◌-◌, [], ◌∷◌, ◌++◌, inl, inr, sym, ap, ◌∙◌, subst, take, drop, arith}
use Rattle.alias_ref.specs.Written.{whole, part, written_in, is_reference}
use Rattle.explain.specs.inner.Saying.{Says}
use Rattle.explain.specs.inner.Showing.{IsExplained, IsOnWay}
use Rattle.explain.specs.inner.Ways.{Knows}
use Rattle.explain.proofs.HopsExplain.{explained_already, explained_itself, not_misspelled, room_left, may_explain_way, may_explain_target, explained_on, way_starts, may_explain_at, explained_settles, way_goes_on, way_ends}
use Rattle.explain.proofs.HopsHold.{true_false, on_ok, no_refers}
use Rattle.explain.proofs.PlacesWritten.{drop_at, drop_all, taken_at}
use Rattle.explain.proofs.showing.+showing.Goals as goal

pub explain-returns-then-has : goal.explain-returns-then-has
explain-returns-then-has t c = λ b may.
    let now = c.args.shown.now in
    explained_already c.args.flat.now c.unbroken_tokens.ensures.visits c.args.left b c.args.place.now now may (c.has.ensures.starts now.hops may.shown.knows c.if-has.true)

pub explain-returns-in_default : goal.explain-returns-in_default
explain-returns-in_default t c = λ b may.
    let flat = c.args.flat.now in
    let p = c.args.place.now in
    elim (no_refers c.in_ok-named.field-0 (written_in flat p) c.in_default.not-Refers c.in_ok-named.ensures) [
      | inl e ↦ absurd (not_misspelled flat c.unbroken_tokens.ensures.visits c.args.left b p c.args.shown.now may e)
      | inr e ↦ explained_itself flat c.args.left b p c.args.shown.now may e
    ]

pub explain-explain_way-requires : goal.explain-explain_way-requires
explain-explain_way-requires t c =
    let flat = c.args.flat.now in
    let T = written_in flat in
    let sound = c.unbroken_tokens.ensures.visits in
    let p = c.args.place.now in
    let n = c.in-Refers.named in
    let now = c.args.shown.now in
    let b = c.requires.0 in
    let may = c.requires.1 in
    let refer = subst (λ s. Says s (T p)) c.in-Refers.is c.in_ok-named.ensures in
    let some = room_left flat sound c.args.left b p now may (ap is_reference refer) in
    (omega (arith, some), (b, p, may_explain_way flat sound c.args.left b p n now may refer (λ i. true_false (sym (c.has.ensures.exact now.hops may.shown.knows i) ∙ c.if-has.false))))

pub explain-explain-requires : goal.explain-explain-requires
explain-explain-requires t c =
    let flat = c.args.flat.now in
    let T = written_in flat in
    let sound = c.unbroken_tokens.ensures.visits in
    let p = c.args.place.now in
    let n = c.in-Refers.named in
    let q = c.in-Ok.target in
    let now = c.args.shown.now in
    let mid = c.explain_way.new.shown in
    let b = c.requires.0 in
    let may = c.requires.1 in
    let refer = subst (λ s. Says s (T p)) c.in-Refers.is c.in_ok-named.ensures in
    let some = room_left flat sound c.args.left b p now may (ap is_reference refer) in
    let on = may_explain_way flat sound c.args.left b p n now may refer (λ i. true_false (sym (c.has.ensures.exact now.hops may.shown.knows i) ∙ c.if-has.false)) in
    let way = c.in-Ok.ensures b p on in
    let added = c.in_ok-add-in-Ok.ensures way.shown.knows way.fresh in
    (omega (arith, some), (b ++ p ∷ [], may_explain_target flat (c.args.left - 1) b p n q now mid c.add.new.shown on way added))

pub explain-returns-in-Ok : goal.explain-returns-in-Ok
explain-returns-in-Ok t c = λ b may.
    let flat = c.args.flat.now in
    let T = written_in flat in
    let sound = c.unbroken_tokens.ensures.visits in
    let p = c.args.place.now in
    let n = c.in-Refers.named in
    let q = c.in-Ok.target in
    let now = c.args.shown.now in
    let mid = c.explain_way.new.shown in
    let next = c.add.new.shown in
    let new = c.explain.new.shown in
    let refer = subst (λ s. Says s (T p)) c.in-Refers.is c.in_ok-named.ensures in
    let on = may_explain_way flat sound c.args.left b p n now may refer (λ i. true_false (sym (c.has.ensures.exact now.hops may.shown.knows i) ∙ c.if-has.false)) in
    let way = c.in-Ok.ensures b p on in
    let added = c.in_ok-add-in-Ok.ensures way.shown.knows way.fresh in
    let may' = may_explain_target flat (c.args.left - 1) b p n q now mid next on way added in
    on_ok c.explain.result (IsExplained flat (b ++ p ∷ []) q next new) (IsExplained flat b p now new) (λ e. explained_on flat sound c.args.left b p n q now mid next new may refer way added e) (c.explain.ensures (b ++ p ∷ []) may')

pub explain_way-loop-step-init : goal.explain_way-loop-step-init
explain_way-loop-step-init t c = λ b p may.
    let flat = c.args.flat.now in
    let n = c.args.named.now in
    let now = c.args.shown.now in
    let left = c.args.left in
    let steps = c.as_slice-steps.result.now in
    subst (λ x. IsOnWay flat left b p n [] steps x now now) (sym c.in_ok-place.ensures)
    (subst (λ ss. IsOnWay flat left b p n [] ss (whole n.token) now now) (sym c.as_slice-steps.ensures) (way_starts flat c.unbroken_tokens.ensures.visits left b p n now may))

pub explain_way-explain-requires : goal.explain_way-explain-requires
explain_way-explain-requires t c =
    let flat = c.args.flat.now in
    let n = c.args.named.now in
    let left = c.args.left in
    let b = c.requires.0 in
    let p = c.requires.1 in
    let steps = c.as_slice-steps.result.now in
    let i = c.loop-step.step-index in
    let s = c.step-item.result in
    let at = c.loop-step.place in
    let now = c.loop-step.shown in
    let way = subst (λ ss. IsOnWay flat left b p n (take i steps) ss at c.args.shown.now now) (drop_at steps i s (omega arith) c.step-item.is) (c.loop-step.invariant b p c.requires.2) in
    (omega arith, (b ++ p ∷ [], may_explain_at flat left b p n (take i steps) s (drop (i + 1) steps) at c.args.shown.now now way))

pub explain_way-step_behind-requires : goal.explain_way-step_behind-requires
explain_way-step_behind-requires t c =
    let flat = c.args.flat.now in
    let n = c.args.named.now in
    let left = c.args.left in
    let b = c.requires.0 in
    let p = c.requires.1 in
    let steps = c.as_slice-steps.result.now in
    let i = c.loop-step.step-index in
    let s = c.step-item.result in
    let at = c.loop-step.place in
    let now = c.loop-step.shown in
    let new = c.explain.new.shown in
    let way = subst (λ ss. IsOnWay flat left b p n (take i steps) ss at c.args.shown.now now) (drop_at steps i s (omega arith) c.step-item.is) (c.loop-step.invariant b p c.requires.2) in
    let e = c.in_ok-explain.ensures (b ++ p ∷ []) (may_explain_at flat left b p n (take i steps) s (drop (i + 1) steps) at c.args.shown.now now way) in
    let found = explained_settles flat (b ++ p ∷ []) at now new e in
    (e.shown.knows, (found.end, found.settles.reached))

pub explain_way-loop-step-preserved : goal.explain_way-loop-step-preserved
explain_way-loop-step-preserved t c = λ b p may.
    let flat = c.args.flat.now in
    let n = c.args.named.now in
    let left = c.args.left in
    let steps = c.as_slice-steps.result.now in
    let i = c.loop-step.step-index in
    let s = c.step-item.result in
    let at = c.loop-step.place in
    let old = c.args.shown.now in
    let now = c.loop-step.shown in
    let new = c.explain.new.shown in
    let last = c.step_behind.new.self in
    let way = subst (λ ss. IsOnWay flat left b p n (take i steps) ss at old now) (drop_at steps i s (omega arith) c.step-item.is) (c.loop-step.invariant b p may) in
    let e = c.in_ok-explain.ensures (b ++ p ∷ []) (may_explain_at flat left b p n (take i steps) s (drop (i + 1) steps) at old now way) in
    let behind = c.in_ok-place-2.ensures.place in
    let same = c.in_ok-place-2.ensures.hops in
    let on = way_goes_on flat c.one_meaning.ensures.end left b p n (take i steps) s (drop (i + 1) steps) at behind.0 old now new last way e same (subst (λ hs. Knows hs last.ways) same c.in_ok-place-2.ensures.knows) behind.1 in
    subst (λ x. IsOnWay flat left b p n (take (i + 1) steps) (drop (i + 1) steps) x old last) (sym behind.2)
    (subst (λ ss. IsOnWay flat left b p n ss (drop (i + 1) steps) (part behind.0 s) old last) (sym (taken_at steps i s (omega arith) c.step-item.is)) on)

pub explain_way-returns : goal.explain_way-returns
explain_way-returns t c = λ b p may.
    let flat = c.args.flat.now in
    let n = c.args.named.now in
    let left = c.args.left in
    let steps = c.as_slice-steps.result.now in
    let i = c.loop-step.step-index in
    let now = c.loop-step.shown in
    let at = c.loop-step.place in
    way_ends flat left b p n (take i steps) at c.args.shown.now now (subst (λ ss. IsOnWay flat left b p n (take i steps) ss at c.args.shown.now now) (drop_all steps i (λ j. omega (arith, j, c.loop-step-test.false))) (c.loop-step.invariant b p may))
