use Rattle.std.proofs.Common.{◌++◌, ◌∙◌, ap, sym}
use Rattle.json_span.specs.Spelling.{inside_text}
use Rattle.name_path.specs.Reference.{path_text}
use Rattle.name_path.proofs.Joins.{names_join}
use Rattle.json_out.proofs.Appending.{two}
use Rattle.json_out.proofs.MemberJoined.{path_inside}
use Rattle.json_out.proofs.writing.append_path.Goals as goal

pub returns : goal.returns
returns c =
    let out = c.args.out.now in
    let first = c.in-Some.first.now in
    let others = c.in-Some.others.now in
    two _ _ _ _ _ (c.in_ok-write_string_inside.ensures.text ∙ ap (λ t. out ++ inside_text t) c.as_str.ensures) c.in_ok-append_behind_points.ensures
    ∙ ap (λ t. out ++ t) (path_inside first others ∙ ap inside_text (names_join first others ∙ ap path_text (sym c.in-Some.ensures.cases.0 ∙ c.as_slice.ensures)))
