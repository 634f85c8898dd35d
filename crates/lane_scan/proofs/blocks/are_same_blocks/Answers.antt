use Rattle.std.proofs.Common.{◌≡◌, ◌==◌, ◌∙◌, ◌^◌, ◌%◌, ◌≤◌, ap, sym, take, drop, length, not, arith, w8}
use Rattle.std.proofs.lemmas.Simd.{length-chunk, length-zip2, mask_l-mod, tops_compared}
use Rattle.lane_scan.proofs.SameLaws.{unmarked}
use Rattle.lane_scan.proofs.blocks.are_same_blocks.Goals as goal
use lib.Lanes.{mask_l, zip2}

pub returns : goal.returns
returns c =
    let xs = take 32 (drop c.args.at c.args.left.now) in
    let ys = take 32 (drop c.args.at c.args.right.now) in
    let ours : length (take 32 (drop c.args.at c.args.left.now)) ≡ 32 = length-chunk c.args.at 32 c.args.left.now c.requires.left in
    let others : length (take 32 (drop c.args.at c.args.right.now)) ≡ 32 = length-chunk c.args.at 32 c.args.right.now c.requires.right in
    let short : length (zip2 (λ x y. not (x == y)) xs ys) ≤ 64 = omega (arith, ours, length-zip2 (λ x y. not (x == y)) xs ys (ours ∙ sym others)) in
    ap (λ n. n == 0) (ap (λ ms. mask_l ms % 2 ^ 64) (tops_compared w8 (λ x y. not (x == y)) xs ys) ∙ mask_l-mod (zip2 (λ x y. not (x == y)) xs ys) 64 short)
    ∙ unmarked xs ys (ours ∙ sym others)
