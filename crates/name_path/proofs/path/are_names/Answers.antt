use Rattle.std.proofs.Common.{[], ◌∷◌, take, get_or, refl, sym, ◌∙◌, subst, All}
use Rattle.std.proofs.lemmas.List.{take_all, take_more}
use Rattle.std.proofs.lemmas.List.Elements.{All-append, All-cons, All-nil}
use Rattle.name_path.specs.Names.{IsName}
use Rattle.name_path.proofs.path.are_names.Goals as goal

pub loop-name-preserved : goal.loop-name-preserved
loop-name-preserved c =
    let names = c.args.names.now in
    let i = c.loop-name.name-index in
    let name = get_or names i c.name-item.result in
    let is : IsName name = subst IsName (c.as_str.ensures ∙ c.name-item.is) (c.is_name.ensures.0 c.if-not-is_name.false) in
    subst (All IsName) (sym (take_more names i c.name-item.result c.loop-name-test.true))
    (All-append IsName (take i names) (name ∷ []) c.loop-name.invariant (All-cons IsName name [] is (All-nil IsName)))

pub returns : goal.returns
returns c = ((λ _. subst (All IsName) (take_all c.loop-name.name-index c.args.names.now c.loop-name-test.false) c.loop-name.invariant), (λ _. refl))
