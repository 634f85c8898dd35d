use Rattle.std.proofs.Common.{◌∙◌, ◌++◌, ◌∷◌, ap, map}
use Rattle.refusals.specs.Refusal.{report, report_text, of_token, at_place, ring_place, detail_line}
use Rattle.refusals.specs.declared.rule.Rule.TheVariants as rule
use Rattle.refusals.proofs.Reports.{told, three_more, ring_lines}
use Rattle.token_cells.proofs.verdict.token_text.Goals as goal

pub returns : goal.returns
returns c =
    let files = c.args.files.now in
    let span = c.place_span-span.result in
    let token = detail_line (of_token c.args.path.now) in
    let place = detail_line (at_place c.args.refusal.now.place) in
    let details = of_token c.args.path.now ∷ at_place c.args.refusal.now.place ∷ map ring_place c.args.refusal.now.ring in
    told files (rule.Token c.args.refusal.now.rule) span.file span.start span.end c.in_ok-out.out c.append_ring_places.new.out details c.in_ok-out.ensures
    (three_more c.in_ok-out.out c.append_token.new.out c.append_place.new.out c.append_ring_places.new.out token place _ c.in_ok-append_token.ensures.ok c.in_ok-append_place.ensures.ok
    (c.in_ok-append_ring_places.ensures.ok ∙ ap (λ x. c.append_place.new.out ++ x) (ring_lines c.args.refusal.now.ring)))
    ∙ ap (λ s. report_text files (report (rule.Token c.args.refusal.now.rule) s.file s.start s.end details)) c.place_span-span.ensures
