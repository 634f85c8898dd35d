use Rattle.std.proofs.Common.{◌≡◌, ◌+◌, ◌≤◌, not, take, drop, length, arith, ◌∙◌}
use Rattle.std.specs.List.{position_or_len}
use Rattle.lane_scan.specs.Bytes.{is_special}
use Rattle.lane_scan.proofs.MarkLaws.{first_mark}
use Rattle.lane_scan.proofs.RunLaws.{run_whole, run_stops, end_within, first_passed, first_stopped}
use Rattle.lane_scan.proofs.runs.first_special.Goals as goal

pub returns-then-before-lt-BLOCK-clause-first : goal.returns-then-before-lt-BLOCK-clause-first
returns-then-before-lt-BLOCK-clause-first c =
    let room : c.loop-at.at + 32 ≤ length c.args.bytes.now = omega arith in
    let before : c.before_mark-before.result ≡ position_or_len is_special (take 32 (drop c.loop-at.at c.args.bytes.now)) =
    c.before_mark-before.ensures ∙ first_mark is_special c.args.bytes.now c.loop-at.at c.special_bits.result room c.special_bits.ensures in
    omega (arith, run_stops (λ x. not (is_special x)) c.args.bytes.now c.loop-at.at 32 c.before_mark-before.result room before c.if-before-lt-BLOCK.true)

pub returns-then-before-lt-BLOCK-clause-passed : goal.returns-then-before-lt-BLOCK-clause-passed
returns-then-before-lt-BLOCK-clause-passed c = first_passed is_special c.args.bytes.now c.args.from _ (returns-then-before-lt-BLOCK-clause-first c)

pub returns-then-before-lt-BLOCK-clause-stopped : goal.returns-then-before-lt-BLOCK-clause-stopped
returns-then-before-lt-BLOCK-clause-stopped c = first_stopped is_special c.args.bytes.now c.args.from _ c.requires (returns-then-before-lt-BLOCK-clause-first c)

pub loop-at-preserved : goal.loop-at-preserved
loop-at-preserved c =
    let room : c.loop-at.at + 32 ≤ length c.args.bytes.now = omega arith in
    let before : c.before_mark-before.result ≡ position_or_len is_special (take 32 (drop c.loop-at.at c.args.bytes.now)) =
    c.before_mark-before.ensures ∙ first_mark is_special c.args.bytes.now c.loop-at.at c.special_bits.result room c.special_bits.ensures in
    record {
      within = room;
      same = omega (arith, run_whole (λ x. not (is_special x)) c.args.bytes.now c.loop-at.at 32 c.before_mark-before.result room before c.if-before-lt-BLOCK.false);
    }

pub returns-clause-within : goal.returns-clause-within
returns-clause-within c = end_within (λ x. not (is_special x)) c.args.bytes.now c.args.from _ c.requires (omega arith)

pub returns-clause-passed : goal.returns-clause-passed
returns-clause-passed c = first_passed is_special c.args.bytes.now c.args.from _ (omega arith)

pub returns-clause-stopped : goal.returns-clause-stopped
returns-clause-stopped c = first_stopped is_special c.args.bytes.now c.args.from _ c.requires (omega arith)
