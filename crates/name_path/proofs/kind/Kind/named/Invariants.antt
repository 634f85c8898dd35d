use Rattle.std.proofs.Common.{◌≢◌, ℕ, ◌<◌, get_or}
use Rattle.name_path.specs.declared.kind.Kind.TheVariants.{Color}
use Rattle.name_path.specs.Kinds.{kind_name}
use Rattle.name_path.proofs.kind.Kind.named.Given as goal

-- none of the kinds so far is spelled so
abbrev pub invariant-loop-kind : goal.invariant-loop-kind
invariant-loop-kind l = (k : ℕ) → k < l.kind-index → kind_name (get_or l.kind-items k Color) ≢ l.text
