use Rattle.std.proofs.Common.{refl}
use Rattle.tree_changes.proofs.links.Links.begin.Goals as goal

pub returns : goal.returns
returns c = record { graph = refl; begins = c.in_ok-push.ensures.items; named = c.in_ok-push-2.ensures.items }
