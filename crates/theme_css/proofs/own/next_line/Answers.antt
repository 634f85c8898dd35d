use Rattle.std.proofs.Common.{[], ◌∷◌, ◌∙◌, ap}
use Rattle.std.proofs.lemmas.List.{map-append}
use Rattle.theme_css.specs.inner.Pages.{line_view, lines_view}
use Rattle.theme_css.proofs.Reading.{reads_line, reads_omitted}
use Rattle.theme_css.proofs.own.next_line.Goals as goal

pub returns-in_ok-push-in-Some-clause-reads : goal.returns-in_ok-push-in-Some-clause-reads
returns-in_ok-push-in-Some-clause-reads c =
    let line = c.in-Some.line in
    let old = c.args.lines.now.items in
    reads_line c.args.text.now c.in-Some.rest.now (lines_view old) (lines_view c.push.new.self.items) (line_view line) c.in-Some.ensures.whole c.in-Some.ensures.line
    (ap lines_view c.in_ok-push-in-Some.ensures.items ∙ map-append line_view old (line ∷ []))

pub returns-in-Some-omitted_line-clause-reads : goal.returns-in-Some-omitted_line-clause-reads
returns-in-Some-omitted_line-clause-reads c =
    let (name, named, whole) = c.in-Some-omitted_line.ensures in
    reads_omitted c.args.text.now c.in-Some-omitted_line.rest.now (lines_view c.args.lines.now.items) name whole named
