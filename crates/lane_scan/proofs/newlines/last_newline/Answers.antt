use Rattle.std.proofs.Common.{◌≡◌, ◌≢◌, ◌+◌, ◌-◌, ◌≤◌, length, drop, arith, subst}
use Rattle.std.specs.Prelude.{All}
use Rattle.lane_scan.proofs.MarkLaws.{none_from_block}
use Rattle.lane_scan.proofs.newlines.last_newline.Goals as goal

pub loop-end-preserved : goal.loop-end-preserved
loop-end-preserved c =
    let start = c.loop-end.end - 32 in
    let whole : c.loop-end.end ≡ c.loop-end.end - 32 + 32 = omega arith in
    let room : c.loop-end.end - 32 + 32 ≤ length c.args.bytes.now = omega arith in
    record {
      within = omega arith;
      none_after = none_from_block c.args.bytes.now start c.newline_bits.result room c.newline_bits.ensures (omega arith) (subst (λ i. All (λ x. x ≢ 10) (drop i c.args.bytes.now)) whole c.loop-end.invariant.none_after);
    }
