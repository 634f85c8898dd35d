use Rattle.std.proofs.Common.{◌≡◌, ◌≤◌, ◌+◌, ◌-◌, ◌∙◌, take, drop, length, ap, ap₂, sym, arith}
use Rattle.std.specs.Prelude.{count_by, count_ones}
use Rattle.std.proofs.lemmas.List.{take_all, length-drop}
use Rattle.std.proofs.lemmas.List.Sums.{count_by-le-length}
use Rattle.std.proofs.lemmas.Simd.{length-chunk, ones-mask_l}
use Rattle.lane_scan.specs.Bytes.{is_newline}
use Rattle.lane_scan.proofs.MarkLaws.{count_by-block, count_by-split}
use Rattle.lane_scan.proofs.newlines.count_newlines.Goals as goal

pub loop-at-preserved : goal.loop-at-preserved
loop-at-preserved c =
    let room : c.loop-at.at + 32 ≤ length c.args.bytes.now = omega arith in
    let ones : count_ones c.newline_bits.result ≡ count_by is_newline (take 32 (drop c.loop-at.at c.args.bytes.now)) =
    ap count_ones c.newline_bits.ensures ∙ ones-mask_l is_newline (take 32 (drop c.loop-at.at c.args.bytes.now)) in
    let few : count_ones c.newline_bits.result ≤ 32 =
    omega (arith, ones, count_by-le-length is_newline (take 32 (drop c.loop-at.at c.args.bytes.now)), length-chunk c.loop-at.at 32 c.args.bytes.now room) in
    record {
      within = room;
      small = omega arith;
      counted = ap₂ (λ m n. m + n) c.loop-at.invariant.counted ones ∙ sym (count_by-block is_newline c.args.bytes.now c.loop-at.at 32);
    }

pub returns : goal.returns
returns c =
    let rest : take (length c.args.bytes.now - c.loop-at.at) (drop c.loop-at.at c.args.bytes.now) ≡ drop c.loop-at.at c.args.bytes.now =
    take_all _ (drop c.loop-at.at c.args.bytes.now) (omega (arith, length-drop c.loop-at.at c.args.bytes.now)) in
    ap₂ (λ m n. m + n) c.loop-at.invariant.counted (c.count_newline_bytes.ensures ∙ ap (count_by is_newline) rest) ∙ count_by-split is_newline c.args.bytes.now c.loop-at.at
