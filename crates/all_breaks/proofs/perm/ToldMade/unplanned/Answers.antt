use Rattle.std.proofs.Common.{◌∷◌, [], ◌∙◌, List, Ok, ap, sym, subst}
use Rattle.std.proofs.lemmas.Result.{IfOk-weaker}
use Rattle.build_plain.proofs.Works.{any_ok}
use Rattle.all_breaks.specs.All.{ToldUnder}
use Rattle.all_breaks.specs.Told.{ToldBreak, told_break}
use Rattle.all_breaks.proofs.Planned.{has_break, plan_told}
use Rattle.all_breaks.proofs.perm.ToldMade.unplanned.Goals as goal

pub returns-clause-ok : goal.returns-clause-ok
returns-clause-ok c = λ settings.
    let files = c.args.files.now in
    IfOk-weaker c.bare.result _ (ToldUnder files (Ok settings))
    (λ told is. subst (λ (ts : List ToldBreak). ToldUnder files (Ok settings) ts) (sym (is ∙ ap (λ b. told_break b [] ∷ []) c.as_slice.ensures))
    (plan_told files settings c.args.refusal.now c.in_ok-text.text c.requires.refused c.in_ok-text.ensures)) c.bare.ensures

pub returns-clause-broken : goal.returns-clause-broken
returns-clause-broken c = any_ok c.bare.result (has_break c.args.files.now c.args.refusal.now c.in_ok-text.text c.in_ok-text.ensures)
