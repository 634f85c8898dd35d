use Rattle.std.proofs.Common.{Result, refl, sym, subst, ◌∙◌}
use Rattle.transforms.specs.Config.{Settings}
use Rattle.transforms.specs.declared.config.ConfigFault.{ConfigFault}
use Rattle.build_plain.specs.Out.{BuildsUnder}
use Rattle.build_plain.specs.Work.{work}
use Rattle.build_plain.proofs.Planned.{is_refused, told_fault}
use Rattle.rebuild_core.specs.Work.{WorkUnderFrom}
use Rattle.rebuild_core.proofs.MadePasts.{unconfigured_past}
use Rattle.rebuild_core.proofs.renewing.unconfigured.Goals as goal

pub returns : goal.returns
returns c =
    let files = c.args.files.now in
    let fault = c.args.fault.now in
    let bare = c.in_ok-past.ensures in
    let told = c.in_ok-outputs.ensures in
    let is = is_refused files fault c.requires (told_fault files fault c.in_ok-outputs.outputs told) in
    record {
      renewed = record {
        files_are = bare.files_are;
        past = λ same. unconfigured_past files fault _ is (bare.used_are ∙ c.new-used.ensures) (bare.trees_are ∙ c.new-trees.ensures) bare.no_shapes bare.no_plan bare.no_outcomes;
        outputs = subst (λ (r : Result Settings ConfigFault). BuildsUnder files r c.in_ok-outputs.outputs) (sym is) told;
      };
      work = λ before. subst (λ (r : Result Settings ConfigFault). WorkUnderFrom before files r (work 0 0 0)) (sym is) refl;
      counted = refl;
    }
