-- The settings of files are settings that a configuration can have.
use Rattle.std.proofs.Common.{◌≡◌, ℕ, List, Option, Some, None, Ok, refl, subst}
use Rattle.std.specs.FinMap as finite
use Rattle.std.specs.Prelude.{Result}
use Rattle.tk_io.specs.FilesData.{FilesData}
use Rattle.transforms.specs.Config.{Settings, plain, AreAllowed, TextsSayAllowed}
use Rattle.transforms.specs.declared.config.ConfigFault.{ConfigFault}
use Rattle.build_plain.specs.Out.{config_path, settings_by, settings_of}

-- the laws of configurations
pub record ConfigLaws : Type 0 where
  pub texts : TextsSayAllowed
  pub plain : AreAllowed plain

ok_same : (r : Result Settings ConfigFault) (s t : Settings) → r ≡ Ok s → r ≡ Ok t → s ≡ t
ok_same r s t d e = cc

allowed_by : (laws : ConfigLaws) (text : Option (List ℕ)) (settings : Settings) → settings_by text ≡ Ok settings
    → AreAllowed settings
allowed_by laws None settings is = subst AreAllowed (ok_same (settings_by None) plain settings refl is) laws.plain
allowed_by laws (Some text) settings is = laws.texts text settings is

pub settings_allowed : (laws : ConfigLaws) (files : FilesData) (settings : Settings) → settings_of files ≡ Ok settings
    → AreAllowed settings
settings_allowed laws files settings is = allowed_by laws (finite.get files config_path) settings is
