use Rattle.std.proofs.Common.{◌∷◌, []}
use Rattle.refusals.specs.Refusal.{of_token, other_token, on_platform, detail_line}
use Rattle.refusals.specs.declared.rule.Rule.TheVariants as rule
use Rattle.refusals.proofs.Reports.{told, one_more, three_more}
use Rattle.token_cells.proofs.verdict.clash_text.Goals as goal

pub returns : goal.returns
returns c =
    let def = c.args.entry.now.def in
    let token = detail_line (of_token c.args.path.now) in
    let other = detail_line (other_token c.args.other.now) in
    let platform = detail_line (on_platform c.args.platform) in
    told c.args.files.now rule.NameClash def.file def.start def.end c.in_ok-out.out c.append_platform.new.out (of_token c.args.path.now ∷ other_token c.args.other.now ∷ on_platform c.args.platform ∷ [])
    c.in_ok-out.ensures
    (three_more c.in_ok-out.out c.append_token.new.out c.append_other.new.out c.append_platform.new.out token other _ c.in_ok-append_token.ensures.ok c.in_ok-append_other.ensures.ok
    (one_more c.append_other.new.out c.append_platform.new.out platform c.in_ok-append_platform.ensures.ok))
