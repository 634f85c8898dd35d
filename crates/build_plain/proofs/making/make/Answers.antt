use Rattle.std.proofs.Common.{Result, sym, subst}
use Rattle.std.proofs.lemmas.Result.{IfOk-weaker, on_ok_weaker}
use Rattle.transforms.specs.Config.{Settings}
use Rattle.transforms.specs.declared.config.ConfigFault.{ConfigFault}
use Rattle.build_plain.specs.Out.{settings_of}
use Rattle.build_plain.specs.Work.{work, IsWork}
use Rattle.build_plain.proofs.Planned.{is_refused, nothing_done, worked, worked_within}
use Rattle.build_plain.proofs.Works.{if_ok_on, no_rise}
use Rattle.build_plain.proofs.making.make.Goals as goal

pub returns-in-Ok-clause-ok : goal.returns-in-Ok-clause-ok
returns-in-Ok-clause-ok g c =
    IfOk-weaker c.make_under.result _ (g.T.Made.is_made c.args.files.now (settings_of c.args.files.now))
    (λ made is. subst (λ (r : Result Settings ConfigFault). g.T.Made.is_made c.args.files.now r made) (sym c.in-Ok.ensures.ok) is) c.make_under.ensures.ok

pub returns-in-Ok-clause-work : goal.returns-in-Ok-clause-work
returns-in-Ok-clause-work g c =
    on_ok_weaker c.make_under.result
    (worked c.args.files.now c.in-Ok.cfg (work c.args.parses.now c.args.merges.now c.args.evals.now)
    (work c.make_under.new.parses c.make_under.new.merges c.make_under.new.evals) c.in-Ok.ensures.ok) c.make_under.ensures.work

pub returns-in-Ok-clause-at_most : goal.returns-in-Ok-clause-at_most
returns-in-Ok-clause-at_most g c =
    worked_within c.args.files.now c.in-Ok.cfg (work c.args.parses.now c.args.merges.now c.args.evals.now)
    (work c.make_under.new.parses c.make_under.new.merges c.make_under.new.evals) c.in-Ok.ensures.ok c.make_under.ensures.at_most

pub returns-in-Err-clause-ok : goal.returns-in-Err-clause-ok
returns-in-Err-clause-ok g c =
    if_ok_on c.unconfigured.result
    (λ broken made is. subst (λ (r : Result Settings ConfigFault). g.T.Made.is_made c.args.files.now r made) (sym (is_refused c.args.files.now c.in-Err.fault c.in-Err.ensures.refused broken)) is)
    c.unconfigured.ensures.broken c.unconfigured.ensures.ok

pub returns-in-Err-clause-work : goal.returns-in-Err-clause-work
returns-in-Err-clause-work g c =
    on_ok_weaker c.unconfigured.result
    (nothing_done c.args.files.now c.in-Err.fault (work c.args.parses.now c.args.merges.now c.args.evals.now) c.in-Err.ensures.refused) c.unconfigured.ensures.broken

pub returns-in-Err-clause-at_most : goal.returns-in-Err-clause-at_most
returns-in-Err-clause-at_most g c = no_rise (IsWork c.args.files.now) (work c.args.parses.now c.args.merges.now c.args.evals.now)
