use Rattle.std.proofs.Common.{codes}
use Rattle.ios_out.specs.Constant.{number}
use Rattle.ios_out.specs.Spelling.{content_text}
use Rattle.ios_out.specs.inner.View.{type_view}
use Rattle.ios_out.proofs.Appended.{four_texts}
use Rattle.ios_out.proofs.line.append_number_line.Goals as goal

pub returns : goal.returns
returns c =
    four_texts c.args.out.now _ _ _ _ (codes "  public static let ") c.args.name.now (content_text (number (type_view c.args.number_type) c.args.value.now)) (codes "\n")
    c.in_ok-append.ensures.ok c.in_ok-append-2.ensures.ok c.in_ok-append_number.ensures c.in_ok-append-3.ensures.ok
