use Rattle.std.proofs.Common.{◌≡◌, ◌+◌, ◌++◌, ◌∷◌, [], length, arith, ap, ◌∙◌}
use Rattle.std.proofs.lemmas.List.{length-append}
use Rattle.transforms.proofs.TextEnds.{ends_more, texts_more}
use Rattle.transforms.proofs.texts.Texts.push.Goals as goal

pub invariant_of-self-2 : goal.invariant_of-self-2
invariant_of-self-2 c =
    let bytes = c.self.inside.bytes.items in
    let end : c.in-Some.end ≡ length (bytes ++ c.args.text.now) = rw length-append (omega (arith, c.in-Some.ensures.end, c.len.ensures)) in
    rw (c.push_reserved.ensures.items, c.in_ok-reserve.ensures.items, c.in_ok-extend_from_slice.ensures.items, end)
    (ends_more 0 c.self.inside.ends.items (length bytes) (length (bytes ++ c.args.text.now)) c.self.invariant (rw length-append (omega arith)))

pub returns-clause-ok : goal.returns-clause-ok
returns-clause-ok c =
    let bytes = c.self.inside.bytes.items in
    let end : c.in-Some.end ≡ length bytes + length c.args.text.now = omega (arith, c.in-Some.ensures.end, c.len.ensures) in
    rw (c.push_reserved.ensures.items, c.in_ok-reserve.ensures.items, c.in_ok-extend_from_slice.ensures.items)
    (texts_more 0 c.self.inside.ends.items bytes c.args.text.now c.in-Some.end c.self.invariant end ∙ ap (λ texts. texts ++ c.args.text.now ∷ []) c.self.view_is)
