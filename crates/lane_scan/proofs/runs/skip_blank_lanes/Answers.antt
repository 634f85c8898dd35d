use Rattle.std.proofs.Common.{◌≡◌, ◌+◌, ◌≤◌, not, take, drop, length, arith, ◌∙◌}
use Rattle.std.specs.List.{prefix_len}
use Rattle.lane_scan.specs.Bytes.{is_blank}
use Rattle.lane_scan.proofs.MarkLaws.{first_mark, position_or_len-not}
use Rattle.lane_scan.proofs.RunLaws.{run_whole, run_stops, end_within, end_passed, end_stopped}
use Rattle.lane_scan.proofs.runs.skip_blank_lanes.Goals as goal

pub returns-then-before-lt-BLOCK-clause-first : goal.returns-then-before-lt-BLOCK-clause-first
returns-then-before-lt-BLOCK-clause-first c =
    let room : c.loop-at.at + 32 ≤ length c.args.bytes.now = omega arith in
    let before : c.before_mark-before.result ≡ prefix_len is_blank (take 32 (drop c.loop-at.at c.args.bytes.now)) =
    c.before_mark-before.ensures ∙ (first_mark (λ x. not (is_blank x)) c.args.bytes.now c.loop-at.at c.other_bits.result room c.other_bits.ensures
    ∙ position_or_len-not is_blank (take 32 (drop c.loop-at.at c.args.bytes.now))) in
    omega (arith, run_stops is_blank c.args.bytes.now c.loop-at.at 32 c.before_mark-before.result room before c.if-before-lt-BLOCK.true)

pub returns-then-before-lt-BLOCK-clause-passed : goal.returns-then-before-lt-BLOCK-clause-passed
returns-then-before-lt-BLOCK-clause-passed c = end_passed is_blank c.args.bytes.now c.args.from _ (returns-then-before-lt-BLOCK-clause-first c)

pub returns-then-before-lt-BLOCK-clause-stopped : goal.returns-then-before-lt-BLOCK-clause-stopped
returns-then-before-lt-BLOCK-clause-stopped c = end_stopped is_blank c.args.bytes.now c.args.from _ c.requires (returns-then-before-lt-BLOCK-clause-first c)

pub loop-at-preserved : goal.loop-at-preserved
loop-at-preserved c =
    let room : c.loop-at.at + 32 ≤ length c.args.bytes.now = omega arith in
    let before : c.before_mark-before.result ≡ prefix_len is_blank (take 32 (drop c.loop-at.at c.args.bytes.now)) =
    c.before_mark-before.ensures ∙ (first_mark (λ x. not (is_blank x)) c.args.bytes.now c.loop-at.at c.other_bits.result room c.other_bits.ensures
    ∙ position_or_len-not is_blank (take 32 (drop c.loop-at.at c.args.bytes.now))) in
    record {
      within = room;
      same = omega (arith, run_whole is_blank c.args.bytes.now c.loop-at.at 32 c.before_mark-before.result room before c.if-before-lt-BLOCK.false);
    }

pub returns-clause-within : goal.returns-clause-within
returns-clause-within c = end_within is_blank c.args.bytes.now c.args.from _ c.requires (omega arith)

pub returns-clause-passed : goal.returns-clause-passed
returns-clause-passed c = end_passed is_blank c.args.bytes.now c.args.from _ (omega arith)

pub returns-clause-stopped : goal.returns-clause-stopped
returns-clause-stopped c = end_stopped is_blank c.args.bytes.now c.args.from _ c.requires (omega arith)
