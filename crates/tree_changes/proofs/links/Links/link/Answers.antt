use Rattle.std.proofs.Common.{◌<◌, ℕ, List, All, length, set, sym, ap, subst, ◌∙◌}
use Rattle.alias_ref.specs.Refs.{refs_of}
use Rattle.tree_changes.proofs.Linking.{calm_more, calm_names, inside, linked_more, named_more, no_names, row_within, unsettled_named}
use Rattle.tree_changes.proofs.links.Links.link.Goals as goal

pub returns-then-is_empty : goal.returns-then-is_empty
returns-then-is_empty c =
    let old = c.args.side.now.old.now in
    let new = c.args.side.now.new.now in
    let token = c.args.token.now in
    let before = c.args.self.now in
    let edges = c.unsettled.new.edges.items in
    let named = unsettled_named old new (refs_of token.1.def) c.args.settled.now c.args.targets.now edges c.requires.settled c.requires.told.0 c.in_ok-unsettled.ensures in
    record {
      linked = calm_more old new c.args.i token before.graph before.begins.items c.requires.token c.requires.links.linked c.requires.same
          (calm_names old new (refs_of token.1.def) edges (sym c.as_slice-edges.ensures.value ∙ no_names c.as_slice-edges.result.now (sym c.is_empty.ensures ∙ c.if-is_empty.true)) named);
      named = named_more new c.args.i token before.named.items _ c.args.named c.requires.token c.requires.links.named c.requires.told.1 c.in_ok-push.ensures.items;
    }

pub set_edges-requires : goal.set_edges-requires
set_edges-requires c =
    let old = c.args.side.now.old.now in
    let new = c.args.side.now.new.now in
    let token = c.args.token.now in
    let before = c.args.self.now in
    let edges = c.unsettled.new.edges.items in
    let named = unsettled_named old new (refs_of token.1.def) c.args.settled.now c.args.targets.now edges c.requires.settled c.requires.told.0 c.in_ok-unsettled.ensures in
    record {
      node = inside old new c.args.i token before.graph before.begins.items c.requires.token c.requires.links.linked;
      within = subst (λ (ws : List ℕ). All (λ w. w < length before.graph) ws) (sym c.as_slice-edges.ensures.value)
          (row_within old new c.args.i token before.graph before.begins.items c.requires.token c.requires.links.linked edges named);
    }

pub returns : goal.returns
returns c =
    let old = c.args.side.now.old.now in
    let new = c.args.side.now.new.now in
    let token = c.args.token.now in
    let before = c.args.self.now in
    let edges = c.unsettled.new.edges.items in
    let named = unsettled_named old new (refs_of token.1.def) c.args.settled.now c.args.targets.now edges c.requires.settled c.requires.told.0 c.in_ok-unsettled.ensures in
    let made = c.in_ok-set_edges.ensures.ok ∙ ap (λ (ws : List ℕ). set before.graph c.args.i ws) c.as_slice-edges.ensures.value in
    record {
      linked = linked_more old new c.args.i token before.graph before.begins.items c.requires.token c.requires.links.linked edges _ made c.requires.same named;
      named = named_more new c.args.i token before.named.items _ c.args.named c.requires.token c.requires.links.named c.requires.told.1 c.in_ok-push.ensures.items;
    }
