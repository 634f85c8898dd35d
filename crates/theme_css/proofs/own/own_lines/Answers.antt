use Rattle.std.proofs.Common.{length}
use Rattle.theme_css.specs.inner.Pages.{lines_view}
use Rattle.theme_css.proofs.Reading.{none_left, read_whole}
use Rattle.theme_css.proofs.own.own_lines.Goals as goal

pub returns : goal.returns
returns c =
    record {
      inside = c.in-Some.rest.now;
      frame = c.in-Some.ensures;
      lines = read_whole c.in-Some.rest.now c.loop-rest.rest.now (lines_view c.loop-rest.lines.items) (none_left (length c.loop-rest.rest.now) c.loop-rest-test.ensures) c.loop-rest.invariant;
    }
