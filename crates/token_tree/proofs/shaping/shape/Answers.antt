use Rattle.std.proofs.Common.{◌≡◌, [], true, false, OnOk, IfOk, IfErr, sym, ap, subst, ◌∙◌}
use Rattle.std.specs.Prelude.{slice_get}
use Rattle.json_span.specs.Tree.{tree_of}
use Rattle.json_span.specs.View.{node_view, fields_view}
use Rattle.token_tree.specs.declared.fault.Rule.TheVariants as rule
use Rattle.token_tree.specs.Answer.{TellsFirst, IsObjectOf}
use Rattle.token_tree.specs.Shape.{are_token, token_breaks, entries_at, group_of, shape_of, shape_breaks}
use Rattle.token_tree.specs.View.{group_view}
use Rattle.token_tree.specs.inner.Outcomes.{entries_breaks}
use Rattle.token_tree.proofs.Groups.{object_is, no_object, no_root, token_root, group_root, first_at}
use Rattle.token_tree.proofs.NamesStand.{names_stand}
use Rattle.token_tree.proofs.Places.{members_stand, names_differ}
use Rattle.token_tree.proofs.shaping.shape.Goals.{After-read_group}
use Rattle.token_tree.proofs.shaping.shape.Goals as goal

pub among-requires : goal.among-requires
among-requires c = names_stand c.args.text.now (node_view c.args.root.now) (fields_view c.in-Some.fields) (object_is (sym c.in-Some.ensures)) c.requires

pub read_group-requires-clause-stands : goal.read_group-requires-clause-stands
read_group-requires-clause-stands c =
    members_stand c.args.text.now (node_view c.args.root.now) (fields_view c.in-Some.fields) (object_is (sym c.in-Some.ensures)) c.requires

pub read_group-requires-clause-differ : goal.read_group-requires-clause-differ
read_group-requires-clause-differ c =
    names_differ c.args.text.now (node_view c.args.root.now) (fields_view c.in-Some.fields) (object_is (sym c.in-Some.ensures)) c.requires

-- a root that is no token breaks what its members break
breaks_of_group : (c : After-read_group) → entries_breaks (fields_view c.in-Some.fields) ≡ shape_breaks (node_view c.args.root.now)
breaks_of_group c =
    let es = fields_view c.in-Some.fields in
    let none : are_token es ≡ false = sym (c.are_token.ensures es c.in_ok-listed.ensures) ∙ c.if-are_token.false in
    sym (group_root (node_view c.args.root.now) es (object_is (sym c.in-Some.ensures)) none)

pub returns-clause-sound : goal.returns-clause-sound
returns-clause-sound c =
    subst (λ z. OnOk c.read_group.result (z ≡ [])) (breaks_of_group (goal.at.returns-clause-sound c).After-read_group) c.read_group.ensures.sound

pub returns-clause-ok : goal.returns-clause-ok
unfolding shape_of
returns-clause-ok c =
    let are : IsObjectOf (node_view c.args.root.now) (fields_view c.in-Some.fields) = object_is (sym c.in-Some.ensures) in
    subst (λ z. IfOk c.read_group.result (λ g. group_view g ≡ group_of c.args.file.now c.args.text.now z)) (sym are) c.read_group.ensures.ok

pub returns-clause-broken : goal.returns-clause-broken
returns-clause-broken c =
    subst (λ z. IfErr c.read_group.result (TellsFirst z)) (breaks_of_group (goal.at.returns-clause-broken c).After-read_group) c.read_group.ensures.broken

pub returns-in_default-clause-broken : goal.returns-in_default-clause-broken
returns-in_default-clause-broken c =
    let n = node_view c.args.root.now in
    ap (λ z. slice_get z 0) (no_root n (no_object (tree_of n) c.in_default.ensures))
    ∙ first_at rule.Root n [] c.start.result c.end.result c.start.ensures c.end.ensures

pub returns-then-are_token-clause-broken : goal.returns-then-are_token-clause-broken
returns-then-are_token-clause-broken c =
    let n = node_view c.args.root.now in
    let es = fields_view c.in-Some.fields in
    let some : are_token es ≡ true = sym (c.are_token.ensures es c.in_ok-listed.ensures) ∙ c.if-are_token.true in
    ap (λ z. slice_get z 0) (token_root n es (object_is (sym c.in-Some.ensures)) some)
    ∙ first_at rule.Root n (token_breaks (entries_at n)) c.start-then-are_token.result c.end-then-are_token.result c.start-then-are_token.ensures c.end-then-are_token.ensures
