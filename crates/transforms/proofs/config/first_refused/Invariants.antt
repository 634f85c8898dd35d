-- No key so far is refused.
use Rattle.std.proofs.Common.{◌≡◌}
use Rattle.toml.specs.View.{table_view, members_view}
use Rattle.transforms.specs.Config.{first_refused}
use Rattle.transforms.proofs.config.first_refused.Given as goal

abbrev pub invariant-loop-key : goal.invariant-loop-key
invariant-loop-key l = first_refused (members_view l.key-iterator) ≡ first_refused (table_view l.table)
