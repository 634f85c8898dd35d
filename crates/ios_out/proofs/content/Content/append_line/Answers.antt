use Rattle.std.proofs.Common.{codes}
use Rattle.ios_out.specs.Spelling.{content_text}
use Rattle.ios_out.specs.inner.View.{content_view}
use Rattle.ios_out.proofs.Appended.{four_texts}
use Rattle.ios_out.proofs.content.Content.append_line.Goals as goal

pub returns : goal.returns
returns c =
    four_texts c.args.out.now _ _ _ _ (codes "  public static let ") c.args.name.now (content_text (content_view c.args.self.now)) (codes "\n")
    c.in_ok-append.ensures.ok c.in_ok-append-2.ensures.ok c.in_ok-append_rest.ensures c.in_ok-append-3.ensures.ok
