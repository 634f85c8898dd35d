use Rattle.std.proofs.Common.{◌++◌, codes, ap, ◌∙◌}
use Rattle.ios_out.specs.Spelling.{argument_text}
use Rattle.ios_out.specs.inner.View.{argument_view}
use Rattle.ios_out.proofs.Appended.{made_texts}
use Rattle.ios_out.proofs.line.append_made.Goals as goal

pub returns : goal.returns
returns c =
    made_texts c.args.out.now _ _ _ _ _ _ _ _ (codes " = ") c.args.maker.now (codes "(") (argument_text (argument_view c.args.first.now)) (codes ", ")
    (argument_text (argument_view c.args.second.now)) (argument_text (argument_view c.args.third.now)) (argument_text (argument_view c.args.fourth.now)) (codes ")")
    c.in_ok-append.ensures.ok (c.in_ok-append-2.ensures.ok ∙ ap (λ x. c.append.new.self ++ x) c.as_bytes.ensures.value) c.in_ok-append-3.ensures.ok c.in_ok-append_argument.ensures c.in_ok-append_further.ensures
    c.in_ok-append_further-2.ensures c.in_ok-append_further-3.ensures c.in_ok-append-4.ensures.ok
