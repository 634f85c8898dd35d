use Rattle.std.proofs.Common.{Some, ap, subst, ◌∙◌}
use Rattle.std.specs.FinMap as map
use Rattle.tree_changes.specs.Named.{NamesAs}
use Rattle.tree_changes.proofs.Calm.{calm_alone, calm_by_one, known_names, moved_there, moved_value, same_if_stands, said_place}
use Rattle.tree_changes.proofs.settling.is_settled.Goals as goal

pub returns-in-Nothing : goal.returns-in-Nothing
returns-in-Nothing c token here is_yes =
    let side = c.args.side.now in
    let are = c.requires.beside in
    let s = said_place side are c.args.i c.in-Some.at token c.requires.place here c.in-Some.is in
    let known = known_names side are c.source_decides.ensures.refs c.args.i c.in-Some.at token c.named_at.result here s c.named_at.ensures in
    calm_alone side.old.now side.new.now c.args.i token here (same_if_stands c.differ_decides.ensures side.old.now side.new.now c.args.i token c.in-Some.at here s)
    (subst (NamesAs (map.entries side.old.now) token) c.in-Nothing.is known)

pub returns-in-Some-moved_to : goal.returns-in-Some-moved_to
returns-in-Some-moved_to c token here is_yes =
    let side = c.args.side.now in
    let are = c.requires.beside in
    let s = said_place side are c.args.i c.in-Some.at token c.requires.place here c.in-Some.is in
    let known = known_names side are c.source_decides.ensures.refs c.args.i c.in-Some.at token c.named_at.result here s c.named_at.ensures in
    let (there, place, one) = subst (NamesAs (map.entries side.old.now) token) c.in-One.is known in
    let is = moved_value side are c.in-One.there there place c.moved_to.result c.moved_to.ensures in
    let next = moved_there side are c.in-One.there c.in-Some-moved_to.next there place (is ∙ ap Some c.in-Some-moved_to.is) in
    calm_by_one side.old.now side.new.now c.args.i token here (same_if_stands c.differ_decides.ensures side.old.now side.new.now c.args.i token c.in-Some.at here s)
    there.0 one (c.requires.settled c.in-Some-moved_to.next (there.0, next.0) next.1 (c.is_said.ensures is_yes))
