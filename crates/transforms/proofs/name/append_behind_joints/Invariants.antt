-- What was appended are the names so far, each after a joint.
use Rattle.std.proofs.Common.{◌≡◌, ◌++◌, ◌∷◌, take}
use Rattle.std.specs.List.{flat_map}
use Rattle.transforms.specs.PlatformName.{joint, spelled}
use Rattle.transforms.proofs.name.append_behind_joints.Given as goal

abbrev pub invariant-loop-name : goal.invariant-loop-name
invariant-loop-name l = l.out ≡ l.fn.out ++ flat_map (λ name. joint l.platform ∷ spelled l.platform name) (take l.name-index l.names)
