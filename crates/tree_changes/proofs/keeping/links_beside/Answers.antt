use Rattle.std.proofs.Common.{◌<◌, ℕ, Bool, List, Option, length, sym, ap, subst, ◌∙◌}
use Rattle.group_inherit.specs.Flattening.{TokenAt}
use Rattle.tree_changes.specs.inner.Settling.{AreMoved, AreSettled}
use Rattle.tree_changes.proofs.Calm.{stands_within}
use Rattle.tree_changes.proofs.keeping.links_beside.Goals as goal

pub moved_places-requires : goal.moved_places-requires
moved_places-requires c i at is =
    subst (λ (ts : List TokenAt). at < length ts) (sym c.as_slice.ensures.entries) (stands_within c.args.old.now c.args.new.now c.args.places.now c.requires.places i at is)

pub settled_tokens-requires : goal.settled_tokens-requires
settled_tokens-requires c = record {
  named = c.requires.named;
  places = c.requires.places;
  moved = subst (λ (ms : List (Option ℕ)). AreMoved c.args.places.now ms) (sym c.as_slice-2.ensures.value) c.in_ok-moved.ensures.moved;
  long = ap (λ (ms : List (Option ℕ)). length ms) c.as_slice-2.ensures.value ∙ (c.in_ok-moved.ensures.long ∙ ap (λ (ts : List TokenAt). length ts) c.as_slice.ensures.entries);
  before = c.definitions_stand.ensures;
  after = c.definitions_stand-2.ensures;
}

pub links_of-requires : goal.links_of-requires
links_of-requires c = record {
  beside = record {
    named = c.requires.named;
    places = c.requires.places;
    moved = subst (λ (ms : List (Option ℕ)). AreMoved c.args.places.now ms) (sym c.as_slice-2.ensures.value) c.in_ok-moved.ensures.moved;
    long = ap (λ (ms : List (Option ℕ)). length ms) c.as_slice-2.ensures.value ∙ (c.in_ok-moved.ensures.long ∙ ap (λ (ts : List TokenAt). length ts) c.as_slice.ensures.entries);
    before = c.definitions_stand.ensures;
    after = c.definitions_stand-2.ensures;
  };
  settled = subst (λ (bs : List Bool). AreSettled c.args.old.now c.args.new.now bs) (sym c.as_slice-3.ensures.value) c.in_ok-settled.ensures;
}
