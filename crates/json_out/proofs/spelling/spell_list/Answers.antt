use Rattle.std.proofs.Common.{◌≡◌, ◌∷◌, ◌++◌, ◌∙◌, ap, rules}
use Rattle.json_out.proofs.Appending.{three}
use Rattle.json_out.proofs.ListsAppended.{list_text}
use Rattle.json_out.proofs.spelling.spell_list.Goals as goal

pub returns : goal.returns
returns g c =
    let first = c.in-Some.first.now in
    let others = c.in-Some.others.now in
    let e : c.args.items.now ≡ first ∷ others = search rules in
    rw e
    (three _ _ _ _ _ _ _ c.in_ok-spell_behind.ensures c.in_ok-spell_others.ensures c.in_ok-append.ensures.ok
    ∙ ap (λ z. c.args.out.now ++ z) (list_text g.T.Spell.json first others))
