use Rattle.std.proofs.Common.{◌≡◌, nat_lt, length, inl, inr}
use Rattle.transforms.specs.Rising.{rises}
use Rattle.transforms.proofs.RisingNames.{first_ended, second_ended}
use Rattle.transforms.proofs.apart.rises.Goals as goal

pub returns : goal.returns
returns c = elim c.in-None.ensures.steps as (λ _. nat_lt (length c.args.name.now) (length c.args.next.now) ≡ rises c.args.name.now c.args.next.now) [
  | inl ended ↦ first_ended c.args.name.now c.args.next.now _ _ c.loop-byte.invariant.0 ended.1.0 c.loop-byte.invariant.1
  | inr ended ↦ second_ended c.args.name.now c.args.next.now _ _ c.loop-byte.invariant.0 ended.1.0 c.loop-byte.invariant.1
]
