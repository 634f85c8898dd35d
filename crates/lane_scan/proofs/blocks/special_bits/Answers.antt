use Rattle.std.proofs.Common.{◌≡◌, ◌==◌, ◌||◌, nat_lt, take, drop, length, arith, w8}
use Rattle.std.proofs.lemmas.Simd.{bitmask_splat, length-chunk}
use Rattle.lane_scan.proofs.MarkLaws.{bit_or-mask_l}
use Rattle.lane_scan.proofs.blocks.special_bits.Goals as goal

pub returns : goal.returns
returns c =
    let xs = take 32 (drop c.args.at c.args.bytes.now) in
    let len : length (take 32 (drop c.args.at c.args.bytes.now)) ≡ 32 = length-chunk c.args.at 32 c.args.bytes.now c.requires in
    let quotes = bitmask_splat w8 (λ x y. x == y) xs 32 34 len (omega arith) in
    let backslashes = bitmask_splat w8 (λ x y. x == y) xs 32 92 len (omega arith) in
    let controls = bitmask_splat w8 (λ x y. nat_lt x y) xs 32 32 len (omega arith) in
    rw (quotes, backslashes, controls, bit_or-mask_l (λ x. x == 34) (λ x. x == 92) xs)
    (bit_or-mask_l (λ x. x == 34 || x == 92) (λ x. nat_lt x 32) xs)
