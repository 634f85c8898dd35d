use Rattle.std.proofs.Common.{◌≡◌, ℕ, Option, Some, None, get_or, subst, arith}
use Rattle.std.proofs.lemmas.Option.{slice_get_within, slice_get-get_or}
use Rattle.std.specs.List.{slice_get}
use Rattle.std.specs.FinMap as map
use Rattle.alias_ref.specs.Refs.{refs_of}
use Rattle.tree_changes.specs.Named.{NamesAs}
use Rattle.tree_changes.proofs.Calm.{known_names, one_told}
use Rattle.tree_changes.proofs.Naming.{none_named}
use Rattle.tree_changes.proofs.links.targets_of.Goals as goal

pub returns-in-Nothing : goal.returns-in-Nothing
returns-in-Nothing c =
    let side = c.args.side.now in
    let (i, here) = c.requires.there in
    let known = known_names side c.requires.beside c.source_decides.ensures.refs i c.args.at c.args.token.now c.named_at.result here c.requires.stands c.named_at.ensures in
    let none = subst (NamesAs (map.entries side.old.now) c.args.token.now) c.in-Nothing.is known in (
      none_named side.old.now side.new.now (refs_of c.args.token.now.1.def) c.clear.new.self.items none c.clear.ensures.items,
      none,
    )

pub returns-in_ok-told-in-One : goal.returns-in_ok-told-in-One
returns-in_ok-told-in-One c =
    let side = c.args.side.now in
    let (i, here) = c.requires.there in
    let known = known_names side c.requires.beside c.source_decides.ensures.refs i c.args.at c.args.token.now c.named_at.result here c.requires.stands c.named_at.ensures in
    let (there, place, one) = subst (NamesAs (map.entries side.old.now) c.args.token.now) c.in-One.is known in
    let o : Option ℕ = get_or side.moved.now c.in-One.there None in
    let at : slice_get side.moved.now c.in-One.there ≡ Some o =
    slice_get-get_or side.moved.now c.in-One.there None
    (omega (arith, slice_get_within (map.entries side.old.now) c.in-One.there there place, c.requires.beside.long)) in
    one_told side c.requires.beside c.differ_decides.ensures c.args.token.now c.in-One.there there place one o at c.one_target.new.targets.items c.in_ok-told-in-One.told
    (c.in_ok-told-in-One.ensures o at)
