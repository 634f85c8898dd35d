use Rattle.std.proofs.Common.{◌≡◌, Some, rules}
use Rattle.toml.specs.View.{table_view}
use Rattle.transforms.specs.Config.{first_refused}
use Rattle.transforms.proofs.FirstRefused.{is_first_refused}
use Rattle.transforms.proofs.config.first_refused.Goals as goal

pub returns-then-not-is_setting-clause-first : goal.returns-then-not-is_setting-clause-first
returns-then-not-is_setting-clause-first c =
    let here : first_refused (table_view c.args.table.now) ≡ Some c.as_str-then-not-is_setting.result.now = search rules in
    is_first_refused c.args.table.now.entries c.iter-key-items.ensures.ordered c.as_str-then-not-is_setting.result.now here
