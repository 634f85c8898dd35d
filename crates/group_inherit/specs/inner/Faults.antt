-- What faults say of numbered groups.
use Rattle.std.specs.Prelude.{◌≡◌, ℕ, List, Some, map}
use Rattle.token_tree.specs.Tree.{Extension}
use Rattle.group_inherit.specs.declared.fault.TreeFault.{TreeFault}
use Rattle.group_inherit.specs.declared.fault.TreeFault.TheVariants.{ExtendsTarget, ExtendsCycle, TooManyTokens, TooHigh, NoMemory}
use Rattle.group_inherit.specs.Answer.{IsFirstLost}
use Rattle.group_inherit.specs.Extension.{GroupPath, Lost}
use Rattle.group_inherit.specs.Span.{Span, span_of}
use Rattle.group_inherit.specs.inner.Numbering.{GroupAt, numbered_path, extension_in}

-- the fault is the first of these groups without a target
abbrev pub IsLostTarget : List Lost → TreeFault → Type 0
IsLostTarget losts (ExtendsTarget path span) = IsFirstLost losts path span
IsLostTarget losts (ExtendsCycle ring span) = ⊥
IsLostTarget losts (TooManyTokens shown) = ⊥
IsLostTarget losts (TooHigh height) = ⊥
IsLostTarget losts NoMemory = Unit {0}

-- these are the paths of a list of numbered groups, and the span is that of the extension among them
pub record IsReported (nodes : List GroupAt) (ring : List ℕ) (paths : List GroupPath) (span : Span) : Type 0 where
  pub same : paths ≡ map (numbered_path nodes) ring
  pub extension : Extension
  pub among : extension_in nodes ring ≡ Some extension
  pub at : span ≡ span_of extension

-- the fault is a ring of these numbered groups
abbrev pub IsReportOf : List GroupAt → List ℕ → TreeFault → Type 0
IsReportOf nodes ring (ExtendsTarget path span) = ⊥
IsReportOf nodes ring (ExtendsCycle paths span) = IsReported nodes ring paths span
IsReportOf nodes ring (TooManyTokens shown) = ⊥
IsReportOf nodes ring (TooHigh height) = ⊥
IsReportOf nodes ring NoMemory = ⊥
