use Rattle.std.proofs.Common.{◌≡◌, ◌+◌, ◌-◌, ◌≤◌, ◌<◌, ◌++◌, ℕ, List, [], append-nil, length, map, min, arith, ap, ap₂, sym, subst, ◌∙◌}
use Rattle.std.proofs.lemmas.List.{length-append}
use Rattle.std.specs.List.{slice_range}
use Rattle.transforms.specs.inner.Ends.{texts_from, start_from, AreEnds}
use Rattle.transforms.proofs.TextsMoved.{ends_of_run, run_within, ends_between, length-run, ends_with_run, texts_with_run, clamped, none_between}
use Rattle.transforms.proofs.TextEnds.{length-texts_from, start_within}
use Rattle.transforms.proofs.texts.Texts.append.Goals as goal

pub returns-then-end-start-clause-ok : goal.returns-then-end-start-clause-ok
returns-then-end-start-clause-ok c =
    let texts = c.args.others.now in
    let ends = c.others.inside.ends.items in
    let long : length ends ≡ length texts = sym (length-texts_from 0 ends c.others.inside.bytes.items) ∙ ap length c.others.view_is in
    let end : c.min-end.result ≡ min c.args.end (length ends) = c.min-end.ensures ∙ ap (λ xs. min c.args.end (length xs)) c.as_slice-ends.ensures in
    let none : slice_range texts c.args.start c.args.end ≡ [] =
    sym (clamped texts c.args.start c.args.end (length ends) long)
    ∙ ap (slice_range texts c.args.start) (sym end)
    ∙ none_between texts c.args.start c.min-end.result c.if-end-start.true in
    rw none (sym (append-nil c.args.self.now))

pub between-moved-requires-clause-order : goal.between-moved-requires-clause-order
between-moved-requires-clause-order c =
    let ends = c.as_slice-ends.result.now in
    let len = length c.others.inside.bytes.items in
    let held : AreEnds 0 ends len = rw c.as_slice-ends.ensures c.others.invariant in
    let fits : c.min-end.result ≤ length ends = omega (arith, c.min-end.ensures) in
    let run = ends_of_run ends len c.args.start c.min-end.result (omega (arith, c.if-end-start.false)) fits held in
    omega (arith, c.start_of-from.ensures, c.start_of.ensures, start_within (start_from 0 ends c.args.start) (slice_range ends c.args.start c.min-end.result) (start_from 0 ends c.min-end.result) run)

pub between-moved-requires-clause-fits : goal.between-moved-requires-clause-fits
between-moved-requires-clause-fits c =
    let ends = c.as_slice-ends.result.now in
    let len = length c.others.inside.bytes.items in
    let held : AreEnds 0 ends len = rw c.as_slice-ends.ensures c.others.invariant in
    let fits : c.min-end.result ≤ length ends = omega (arith, c.min-end.ensures) in
    rw c.as_slice.ensures.value (omega (arith, c.start_of.ensures, run_within ends len c.min-end.result fits held))

pub push_moved-requires-clause-within : goal.push_moved-requires-clause-within
push_moved-requires-clause-within c k d lt =
    let ends = c.as_slice-ends.result.now in
    let bytes = c.others.inside.bytes.items in
    let held : AreEnds 0 ends (length bytes) = rw c.as_slice-ends.ensures c.others.invariant in
    let fits : c.min-end.result ≤ length ends = omega (arith, c.min-end.ensures) in
    let run = ends_of_run ends (length bytes) c.args.start c.min-end.result (omega (arith, c.if-end-start.false)) fits held in
    let each = ends_between (start_from 0 ends c.args.start) (slice_range ends c.args.start c.min-end.result) (start_from 0 ends c.min-end.result) k d run lt in
    let long = length-run bytes (start_from 0 ends c.args.start) (start_from 0 ends c.min-end.result) (omega (arith, each.0, each.1)) (run_within ends (length bytes) c.min-end.result fits held) in
    let moved : length c.between-moved.result.now ≡ start_from 0 ends c.min-end.result - start_from 0 ends c.args.start =
    rw (c.between-moved.ensures, c.as_slice.ensures.value, c.start_of-from.ensures, c.start_of.ensures) long in
    (omega (arith, each.0, c.start_of-from.ensures), omega (arith, each.0, each.1, c.start_of-from.ensures, moved, c.in-Some.ensures.end, c.in-Some.ensures.small))

pub invariant_of-self-2 : goal.invariant_of-self-2
invariant_of-self-2 c =
    let mine = c.self.inside.ends.items in
    let ends = c.as_slice-ends.result.now in
    let bytes = c.others.inside.bytes.items in
    let from = c.start_of-from.result in
    let last = c.start_of.result in
    let end = c.min-end.result in
    let len = length c.self.inside.bytes.items in
    let to : c.len-to.result ≡ len = omega (arith, c.len-to.ensures) in
    let held : AreEnds 0 ends (length bytes) = rw c.as_slice-ends.ensures c.others.invariant in
    let fits : end ≤ length ends = omega (arith, c.min-end.ensures) in
    let run = ends_of_run ends (length bytes) c.args.start end (omega (arith, c.if-end-start.false)) fits held in
    let order = start_within (start_from 0 ends c.args.start) (slice_range ends c.args.start end) (start_from 0 ends end) run in
    let long : length (slice_range bytes from last) ≡ last - from =
    length-run bytes from last (omega (arith, order, c.start_of-from.ensures, c.start_of.ensures)) (omega (arith, c.start_of.ensures, run_within ends (length bytes) end fits held)) in
    let all : len + (last - from) ≡ length (c.self.inside.bytes.items ++ slice_range bytes from last) = rw length-append (omega (arith, long)) in
    rw (c.push_moved.ensures, c.in_ok-reserve.ensures.items, c.in_ok-extend_from_slice.ensures.items, c.between-moved.ensures, c.as_slice.ensures.value, to)
    (subst (λ n. AreEnds 0 (mine ++ map (λ e. e - from + len) (slice_range ends c.args.start end)) n) all
    (ends_with_run mine ends len (length bytes) c.args.start end from last (omega (arith, c.if-end-start.false)) fits c.self.invariant held c.start_of-from.ensures c.start_of.ensures))

pub returns-clause-ok : goal.returns-clause-ok
returns-clause-ok c =
    let mine = c.self.inside.ends.items in
    let texts = c.args.others.now in
    let ends = c.as_slice-ends.result.now in
    let bytes = c.others.inside.bytes.items in
    let end = c.min-end.result in
    let to : c.len-to.result ≡ length c.self.inside.bytes.items = omega (arith, c.len-to.ensures) in
    let held : AreEnds 0 ends (length bytes) = rw c.as_slice-ends.ensures c.others.invariant in
    let fits : end ≤ length ends = omega (arith, c.min-end.ensures) in
    let view : texts_from 0 ends bytes ≡ texts = ap (λ es. texts_from 0 es bytes) c.as_slice-ends.ensures ∙ c.others.view_is in
    let long : length ends ≡ length texts = sym (length-texts_from 0 ends bytes) ∙ ap length view in
    rw (c.push_moved.ensures, c.in_ok-reserve.ensures.items, c.in_ok-extend_from_slice.ensures.items, c.between-moved.ensures, c.as_slice.ensures.value, to)
    (texts_with_run mine c.self.inside.bytes.items ends bytes c.args.start end c.start_of-from.result c.start_of.result (omega (arith, c.if-end-start.false)) fits c.self.invariant held c.start_of-from.ensures c.start_of.ensures
    ∙ ap₂ (λ ours others. ours ++ others) c.self.view_is
    (ap (λ ts. slice_range ts c.args.start end) view
    ∙ ap (slice_range texts c.args.start) c.min-end.ensures
    ∙ clamped texts c.args.start c.args.end (length ends) long))
