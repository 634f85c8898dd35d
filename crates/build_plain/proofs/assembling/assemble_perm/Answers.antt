use Rattle.std.proofs.Common.{Some, sym, ap, ◌∙◌}
use Rattle.std.proofs.lemmas.Result.{on_ok_weaker}
use Rattle.std.specs.FinMap as map
use Rattle.std.specs.List.{zip}
use Rattle.file_plan.specs.View.{plan_perm_view}
use Rattle.token_cells.specs.Breaks.{token_reports, verdict}
use Rattle.build_plain.specs.Out.{perm_outputs, put_beside}
use Rattle.build_plain.proofs.Kept.{gives_kept_flat}
use Rattle.build_plain.proofs.assembling.assemble_perm.Goals as goal

pub returns-in-Some : goal.returns-in-Some
returns-in-Some c =
    let flat = c.in-Some-Flat.flat in
    let files = c.args.files.now in
    let before = c.args.outputs.now in
    let merges = c.args.parts.now.merges in
    let kept = c.args.parts.now.cells in
    let cells = c.in-Some.cells.now in
    on_ok_weaker c.put_tokens.result
    (λ made. gives_kept_flat files c.args.cfg.now (plan_perm_view c.args.perm.now) before c.put_tokens.new.outputs flat (map.get merges c.args.perm.now.name) (map.get kept c.args.perm.now.name) cells
    c.requires.kept (sym (c.in-Some-Flat.ensures ∙ ap (map.get merges) c.as_str-name.ensures) ∙ ap Some c.in-Some-Flat.field-0-is) (sym (c.in-Some.ensures ∙ ap (map.get kept) c.as_str-name.ensures))
    (made ∙ ap (λ n. put_beside before (perm_outputs files n cells (verdict (token_reports flat (zip (map.entries flat) cells))))) c.as_str-name.ensures)) c.put_tokens.ensures
