use Rattle.std.proofs.Common.{ℕ, List, Option, sym, subst}
use Rattle.std.specs.FinMap as finite
use Rattle.std.specs.List.{AllZip}
use Rattle.tree_changes.specs.Standing.{StandsAt}
use Rattle.tree_changes.proofs.Forgotten.{all_known}
use Rattle.tree_changes.proofs.keeping.kept_places.Goals as goal

pub links_beside-requires : goal.links_beside-requires
links_beside-requires c = record {
  named = c.requires;
  places = subst (λ (ps : List (Option ℕ)). AllZip (StandsAt c.args.old.now c.args.new.now) (finite.entries c.args.new.now) ps) (sym c.as_slice.ensures.value) c.in_ok-places.ensures;
}

pub forget_reached-requires : goal.forget_reached-requires
forget_reached-requires c = record { links = c.in_ok-links.ensures; stand = c.in_ok-places.ensures }

pub returns : goal.returns
returns c = record {
  places = c.in_ok-forget_reached.ensures;
  named = all_known (finite.entries c.args.new.now) c.in_ok-links.links.named.items c.in_ok-links.ensures.named;
}
