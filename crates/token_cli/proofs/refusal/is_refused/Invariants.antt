use Rattle.std.proofs.Common.{◌≡◌, drop}
use Rattle.std.specs.FinMap as map
use Rattle.std.specs.List.{list_any}
use Rattle.token_cli.specs.Headline.{is_refusal, is_refused}
use Rattle.token_cli.proofs.refusal.is_refused.Given as goal

abbrev pub invariant-loop-path : goal.invariant-loop-path
invariant-loop-path l = list_any (λ output. is_refusal output.0) (drop l.path-index (map.entries l.held)) ≡ is_refused l.held
