use Rattle.std.proofs.Common.{◌≡◌, ◌+◌, ◌-◌, ◌++◌, length, take, map}
use Rattle.smallvec.specs.SmallVec.{HasRoomFor}
use Rattle.transforms.proofs.texts.push_moved.Given as goal

abbrev pub invariant-loop-end : goal.invariant-loop-end
invariant-loop-end l = record {
  room : HasRoomFor l.ends (length l.others - l.end-index);
  items : l.ends.items ≡ l.fn.ends.items ++ map (λ end. end - l.from + l.to) (take l.end-index l.others);
}
