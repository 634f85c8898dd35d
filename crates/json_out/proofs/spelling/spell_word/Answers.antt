use Rattle.std.proofs.Common.{[], ◌∷◌, ◌++◌, ◌∙◌, ap, sym}
use Rattle.json_span.proofs.Insides.{plain_stays}
use Rattle.json_out.proofs.Appending.{three}
use Rattle.json_out.proofs.spelling.spell_word.Goals as goal

pub returns : goal.returns
returns c = three _ _ _ _ _ _ _ c.in_ok-append.ensures.ok (c.in_ok-append-2.ensures.ok ∙ ap (λ z. c.append.new.self ++ z) c.as_bytes.ensures.value) c.in_ok-append-3.ensures.ok
    ∙ ap (λ z. c.args.out.now ++ (34 ∷ (z ++ (34 ∷ [])))) (sym (plain_stays c.args.word.now c.requires))
