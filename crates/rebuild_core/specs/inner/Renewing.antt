-- What is made of files, with what was made before.
use Rattle.std.specs.Prelude.{◌≡◌, ◌+◌, ◌++◌, ◌∷◌, [], Some, Result}
use Rattle.transforms.specs.Config.{Settings}
use Rattle.transforms.specs.declared.config.ConfigFault.{ConfigFault}
use Rattle.tk_io.specs.FilesData.{FilesData}
use Rattle.build_plain.specs.Out.{BuildsUnder, settings_of}
use Rattle.build_plain.specs.Work.{Work, work}
use Rattle.rebuild_core.specs.declared.merging.Done.{Done}
use Rattle.rebuild_core.specs.declared.plan_perms.AllDone.{AllDone}
use Rattle.rebuild_core.specs.declared.renewing.Renewed.{Renewed}
use Rattle.rebuild_core.specs.inner.Past.{IsPast}

-- the numbers of permutations
abbrev pub all_view : AllDone → Work
all_view all = work 0 all.merged all.evaluated

-- what one more came to
pub record HasCome (before : AllDone) (done : Done) (after : AllDone) : Type 0 where
  pub outcomes : after.outcomes.items ≡ before.outcomes.items ++ done.shared ∷ []
  pub merged : after.merged ≡ before.merged + done.merged
  pub evaluated : after.evaluated ≡ before.evaluated + done.evaluated

-- made of the files, whose configuration says this
pub record IsRenewed (files : FilesData) (config : Result Settings ConfigFault) (r : Renewed) : Type 0 where
  pub files_are : r.past.files ≡ files
  pub past : settings_of files ≡ config → IsPast (Some files) r.past
  pub outputs : BuildsUnder files config r.outputs
