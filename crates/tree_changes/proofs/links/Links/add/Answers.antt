use Rattle.std.proofs.Common.{◌+◌, ℕ, List, sym, subst}
use Rattle.tree_changes.specs.inner.Links.{AreLinked, AreTold}
use Rattle.tree_changes.proofs.Calm.{said_place, said_none, same_if_stands}
use Rattle.tree_changes.proofs.Linking.{begun_more, named_more, reached_by_name, reached_itself}
use Rattle.tree_changes.proofs.links.Links.add.Goals as goal

pub targets_of-requires-clause-stands : goal.targets_of-requires-clause-stands
targets_of-requires-clause-stands c =
    said_place c.args.side.now c.requires.beside c.args.i c.in-Some.at c.args.token.now c.requires.place c.requires.token c.in-Some.is

pub link-requires-clause-same : goal.link-requires-clause-same
link-requires-clause-same c =
    same_if_stands c.differ_decides.ensures c.args.side.now.old.now c.args.side.now.new.now c.args.i c.args.token.now c.in-Some.at c.requires.token
    (said_place c.args.side.now c.requires.beside c.args.i c.in-Some.at c.args.token.now c.requires.place c.requires.token c.in-Some.is)

pub returns-in_default : goal.returns-in_default
returns-in_default c =
    let old = c.args.side.now.old.now in
    let new = c.args.side.now.new.now in
    let token = c.args.token.now in
    let before = c.args.self.now in
    let begun = c.in_ok-begin.ensures in
    record {
      linked = subst (λ (es : List (List ℕ)). AreLinked old new (c.args.i + 1) es c.begin.new.self.begins.items) (sym begun.graph)
          (begun_more old new c.args.i token before.graph before.begins.items c.requires.token c.requires.links.linked _ begun.begins
          (reached_itself old new token.0 (said_none c.args.side.now c.requires.beside c.args.i token c.requires.place c.requires.token c.in_default.is)));
      named = named_more new c.args.i token before.named.items _ _ c.requires.token c.requires.links.named tt begun.named;
    }

pub returns-in_ok-begin-in-None : goal.returns-in_ok-begin-in-None
returns-in_ok-begin-in-None c =
    let old = c.args.side.now.old.now in
    let new = c.args.side.now.new.now in
    let token = c.args.token.now in
    let before = c.args.self.now in
    let begun = c.in_ok-begin-in-None.ensures in
    record {
      linked = subst (λ (es : List (List ℕ)). AreLinked old new (c.args.i + 1) es c.begin-in-None.new.self.begins.items) (sym begun.graph)
          (begun_more old new c.args.i token before.graph before.begins.items c.requires.token c.requires.links.linked _ begun.begins
          (reached_by_name old new c.args.i token c.requires.token (subst (AreTold old new token c.targets_of.new.targets.items) c.in-None.is c.in_ok-named.ensures)));
      named = named_more new c.args.i token before.named.items _ _ c.requires.token c.requires.links.named tt begun.named;
    }
