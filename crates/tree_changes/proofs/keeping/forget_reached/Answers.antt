use Rattle.std.proofs.Common.{ℕ, ◌<◌, List, All, length, sym, subst}
use Rattle.std.specs.FinMap as finite
use Rattle.ref_graph.specs.Walk.{WalksTo}
use Rattle.tree_changes.specs.Standing.{StandsAt}
use Rattle.tree_changes.proofs.Forgotten.{all_kept, marks_within}
use Rattle.tree_changes.proofs.Linking.{begins_within}
use Rattle.tree_changes.proofs.keeping.forget_reached.Goals as goal

pub reach-requires : goal.reach-requires
reach-requires c =
    let links = c.args.links.now in
    subst (λ (ws : List ℕ). All (λ w. w < length links.graph) ws) (sym c.as_slice.ensures.value)
    (begins_within c.args.old.now c.args.new.now _ links.graph links.begins.items c.requires.links.linked)

pub forget-requires : goal.forget-requires
forget-requires c =
    let links = c.args.links.now in
    marks_within (length links.graph) c.in_ok-reached.reached c.args.places.now.items (finite.entries c.args.new.now) (StandsAt c.args.old.now c.args.new.now) c.requires.stand
    c.requires.links.linked.long c.in_ok-reached.ensures.within

pub returns : goal.returns
returns c =
    let links = c.args.links.now in
    all_kept c.args.old.now c.args.new.now links.graph links.begins.items c.in_ok-reached.reached c.args.places.now.items c.forget.new.places.items
    c.requires.links.linked c.requires.stand
    (λ v w. c.in_ok-reached.ensures.found v (subst (λ (bs : List ℕ). WalksTo links.graph bs v) (sym c.as_slice.ensures.value) w))
    (λ v m. subst (λ (bs : List ℕ). WalksTo links.graph bs v) c.as_slice.ensures.value (c.in_ok-reached.ensures.only v m)) c.forget.ensures
