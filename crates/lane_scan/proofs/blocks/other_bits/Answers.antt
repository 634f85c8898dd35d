use Rattle.std.proofs.Common.{◌≡◌, ◌==◌, ◌||◌, not, take, drop, length, arith, w8}
use Rattle.std.proofs.lemmas.Simd.{bitmask_splat, length-chunk}
use Rattle.lane_scan.proofs.MarkLaws.{bit_and-mask_l}
use Rattle.lane_scan.proofs.blocks.other_bits.Goals as goal

pub returns : goal.returns
returns c =
    let xs = take 32 (drop c.args.at c.args.bytes.now) in
    let len : length (take 32 (drop c.args.at c.args.bytes.now)) ≡ 32 = length-chunk c.args.at 32 c.args.bytes.now c.requires in
    let spaces = bitmask_splat w8 (λ x y. not (x == y)) xs 32 32 len (omega arith) in
    let tabs = bitmask_splat w8 (λ x y. not (x == y)) xs 32 9 len (omega arith) in
    let newlines = bitmask_splat w8 (λ x y. not (x == y)) xs 32 10 len (omega arith) in
    let carriage_returns = bitmask_splat w8 (λ x y. not (x == y)) xs 32 13 len (omega arith) in
    rw (spaces, tabs, newlines, carriage_returns, bit_and-mask_l (λ x. x == 32) (λ x. x == 9) xs, bit_and-mask_l (λ x. x == 32 || x == 9) (λ x. x == 10) xs)
    (bit_and-mask_l (λ x. x == 32 || x == 9 || x == 10) (λ x. x == 13) xs)
