-- Why a name has no flat tree, by what the layers below tell.
use Rattle.std.specs.Prelude.{Option, Some, None}
use Rattle.file_plan.specs.Plan.{PlanBreak}
use Rattle.transforms.specs.declared.config.ConfigFault.{ConfigFault}
use Rattle.transforms.specs.declared.config.ConfigFault.TheVariants as config
use Rattle.build_plain.specs.declared.one_tree.FlatStop.{FlatStop}
use Rattle.build_plain.specs.declared.one_tree.FlatStop.TheVariants as stop

abbrev pub unconfigured : ConfigFault → FlatStop
unconfigured config.Toml = stop.NoPlan
unconfigured (config.Key key) = stop.NoPlan
unconfigured config.NoMemory = stop.NoMemory

abbrev pub unplanned : Option PlanBreak → FlatStop
unplanned (Some broken) = stop.NoPlan
unplanned None = stop.NoMemory
