use Rattle.std.proofs.Common.{◌≡◌, ◌+◌, ◌≤◌, ◌&&◌, ◌∙◌, true, take, sym, ap, drop, arith, length}
use Rattle.std.specs.Str.{bytes_eq}
use Rattle.std.proofs.lemmas.List.{drop-drop, length-drop}
use Rattle.lane_scan.proofs.SameLaws.{fronts}
use Rattle.lane_scan.proofs.same.are_same.Goals as goal

pub loop-at-preserved : goal.loop-at-preserved
loop-at-preserved c =
    let i = c.loop-at.at in
    let xs = c.args.left.now in
    let ys = c.args.right.now in
    let held = c.loop-at.invariant in
    let room : i + 32 ≤ length xs = omega (arith, c.loop-at-test.true, held.within) in
    let same : bytes_eq (take 32 (drop i xs)) (take 32 (drop i ys)) ≡ true = sym c.are_same_blocks.ensures ∙ c.if-not-are_same_blocks.false in
    let split = fronts 32 (drop i xs) (drop i ys) (omega (arith, room, length-drop i xs)) (omega (arith, room, held.long, length-drop i ys)) in
    let rest : bytes_eq (drop i xs) (drop i ys) ≡ bytes_eq (drop 32 (drop i xs)) (drop 32 (drop i ys)) = split ∙ ap (λ b. b && bytes_eq (drop 32 (drop i xs)) (drop 32 (drop i ys))) same in
    let behind : bytes_eq (drop (i + 32) xs) (drop (i + 32) ys) ≡ bytes_eq (drop i xs) (drop i ys) = (λ k. bytes_eq (sym (drop-drop 32 i xs) k) (sym (drop-drop 32 i ys) k)) ∙ sym rest in
    record {
      long = held.long;
      within = room;
      same = behind ∙ held.same;
    }
