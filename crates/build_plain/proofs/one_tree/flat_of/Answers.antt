use Rattle.std.proofs.Common.{Result, sym, subst}
use Rattle.std.proofs.lemmas.Result.{IfErr-weaker, IfOk-weaker}
use Rattle.transforms.specs.Config.{Settings}
use Rattle.transforms.specs.declared.config.ConfigFault.{ConfigFault}
use Rattle.build_plain.specs.OneTree.{ComesTo, ComesToUnder, IsStop, has_tree}
use Rattle.build_plain.specs.Work.{WorkUnder}
use Rattle.build_plain.proofs.NamedTree.{config_stops}
use Rattle.build_plain.proofs.one_tree.flat_of.Goals as goal

pub returns-in-Ok-clause-ok : goal.returns-in-Ok-clause-ok
returns-in-Ok-clause-ok g c =
    IfOk-weaker c.flat_under.result _ (λ flat. ComesTo c.args.files.now c.args.name.now (has_tree flat))
    (λ flat is. subst (λ (r : Result Settings ConfigFault). ComesToUnder c.args.files.now r c.args.name.now (has_tree flat)) (sym c.in-Ok.ensures.ok) is) (c.flat_under.ensures.ok c.in-Ok.field-0)

pub returns-in-Ok-clause-stop : goal.returns-in-Ok-clause-stop
returns-in-Ok-clause-stop g c =
    IfErr-weaker c.flat_under.result _ (IsStop (ComesTo c.args.files.now c.args.name.now))
    (λ s is. subst (λ (r : Result Settings ConfigFault). IsStop (ComesToUnder c.args.files.now r c.args.name.now) s) (sym c.in-Ok.ensures.ok) is) (c.flat_under.ensures.stop c.in-Ok.field-0)

pub returns-in-Ok-clause-parses : goal.returns-in-Ok-clause-parses
returns-in-Ok-clause-parses g c w is =
    c.flat_under.ensures.parses c.in-Ok.field-0 w (subst (λ (r : Result Settings ConfigFault). WorkUnder c.args.files.now r w) c.in-Ok.ensures.ok is)

pub returns-clause-stop : goal.returns-clause-stop
returns-clause-stop g c =
    subst (IsStop (ComesTo c.args.files.now c.args.name.now)) (sym c.unconfigured.ensures) (config_stops c.args.files.now c.args.name.now c.in-Err.fault c.in-Err.ensures.refused)
