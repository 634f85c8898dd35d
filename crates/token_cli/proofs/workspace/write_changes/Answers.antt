use Rattle.std.proofs.Common.{◌≡◌, ◌+◌, suc, List, ℕ, Some, Option, sym, subst, take, drop, arith}
use Rattle.std.proofs.KnownBytes.{Appends-trans}
use Rattle.std.proofs.lemmas.List.{take_all}
use Rattle.std.specs.Io.KnownBytes.{Appends}
use Rattle.std.specs.List.{slice_get}
use Rattle.edit_script.specs.View.{Lined, change_view}
use Rattle.edit_script.specs.Stream.{record_of}
use Rattle.edit_script.proofs.Written.{on_err, part_after}
use Rattle.token_cli.specs.inner.Step.{records_of}
use Rattle.token_cli.proofs.Places.{all_listed, at_listed}
use Rattle.token_cli.proofs.Records.{split_at, one_more}
use Rattle.token_cli.proofs.workspace.write_changes.Goals as goal

pub write_change-requires : goal.write_change-requires
write_change-requires g c =
    let i = c.loop-change.change-index in
    let x = c.change-item.result in
    c.requires i (change_view x) (at_listed c.as_slice-change-items.result.now change_view c.args.changes.now i x c.as_slice-change-items.ensures c.loop-change-test.true c.change-item.is)

pub returns-in_err-write_change-clause-part : goal.returns-in_err-write_change-clause-part
returns-in_err-write_change-clause-part g c =
    let cs = c.args.changes.now in
    let i = c.loop-change.change-index in
    let x = c.change-item.result in
    let change = change_view x in
    let here = at_listed c.as_slice-change-items.result.now change_view cs i x c.as_slice-change-items.ensures c.loop-change-test.true c.change-item.is in
    on_err c.from_residual.result
    (part_after (g.K.Sink.written c.args.out.now) (g.K.Sink.written c.loop-change.out) (g.K.Sink.written c.write_change.new.out) (records_of cs) (records_of (take i cs)) (record_of change.0) (records_of (drop (suc i) cs)) c.loop-change.invariant.0 c.in_err-write_change.ensures.part (split_at cs i change here))

-- one record more was written
more_written : (cs : List Lined) (i : ℕ) (change : Lined) (a b d : Option (List ℕ)) → slice_get cs i ≡ Some change → Appends a b (records_of (take i cs)) → Appends b d (record_of change.0) → Appends a d (records_of (take (i + 1) cs))
more_written cs i change a b d e p q =
    let P : List ℕ → Type 0 = λ l. Appends a d l in
    subst P (sym (one_more cs i change e)) (Appends-trans a b d (records_of (take i cs)) (record_of change.0) p q)

pub loop-change-preserved : goal.loop-change-preserved
loop-change-preserved g c =
    let cs = c.args.changes.now in
    let i = c.loop-change.change-index in
    let x = c.change-item.result in
    let here = at_listed c.as_slice-change-items.result.now change_view cs i x c.as_slice-change-items.ensures c.loop-change-test.true c.change-item.is in (
      more_written cs i (change_view x) (g.K.Sink.written c.args.out.now) (g.K.Sink.written c.loop-change.out) (g.K.Sink.written c.write_change.new.out) here c.loop-change.invariant.0 c.in_ok-write_change.ensures.whole,
      omega (arith, c.loop-change.invariant.1, c.in_ok-write_change.ensures.cause.kept),
    )

pub returns-clause-whole : goal.returns-clause-whole
returns-clause-whole g c =
    let cs = c.args.changes.now in
    let i = c.loop-change.change-index in
    let P : List Lined → Type 0 = λ l. Appends (g.K.Sink.written c.args.out.now) (g.K.Sink.written c.loop-change.out) (records_of l) in
    subst P (take_all i cs (all_listed c.as_slice-change-items.result.now change_view cs i c.as_slice-change-items.ensures c.loop-change-test.false)) c.loop-change.invariant.0
