use Rattle.std.proofs.Common.{◌≡◌, ◌==◌, take, drop, length, arith, w8}
use Rattle.std.proofs.lemmas.Simd.{bitmask_splat, length-chunk}
use Rattle.lane_scan.proofs.blocks.newline_bits.Goals as goal

pub returns : goal.returns
returns c =
    let xs = take 32 (drop c.args.at c.args.bytes.now) in
    let len : length (take 32 (drop c.args.at c.args.bytes.now)) ≡ 32 = length-chunk c.args.at 32 c.args.bytes.now c.requires in
    bitmask_splat w8 (λ x y. x == y) xs 32 10 len (omega arith)
