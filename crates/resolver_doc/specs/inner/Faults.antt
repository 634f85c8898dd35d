-- A ring of sets as a fault.
use Rattle.std.specs.Prelude.{◌≡◌, ℕ, List, Some, map}
use Rattle.json_span.specs.Tree.{Placed, Entry, start_of, end_of}
use Rattle.resolver_doc.specs.declared.rule.PlanRule.{PlanRule}
use Rattle.resolver_doc.specs.declared.rule.PlanRule.TheVariants.{Cycle}
use Rattle.resolver_doc.specs.declared.fault.PlanFault.{PlanFault}
use Rattle.resolver_doc.specs.declared.fault.PlanFault.TheVariants.{Broken, NoMemory}
use Rattle.resolver_doc.specs.declared.rule.Break.{Break}
use Rattle.resolver_doc.specs.Document.{SetData, name_in}
use Rattle.resolver_doc.specs.Rings.{IsRingOfSets, ring_string}

-- what is told of a ring
pub record IsRingTold (sets : List Entry) (ring : List ℕ) (rule : PlanRule) (start end : ℕ) (names : List (List ℕ)) : Type 0 where
  pub rule_is : rule ≡ Cycle
  pub named : names ≡ map (name_in sets) ring
  pub string : Placed
  pub closes : ring_string sets ring ≡ Some string
  pub starts : start ≡ start_of string
  pub ends : end ≡ end_of string

abbrev pub IsSetRingAt : List Entry → List ℕ → PlanFault → Type 0
IsSetRingAt sets ring (Broken rule start end names) = IsRingTold sets ring rule start end names
IsSetRingAt sets ring NoMemory = ⊥

-- the fault tells the first ring; memory may always run out
abbrev pub IsSetRingFault : List Entry → List SetData → PlanFault → Type 0
IsSetRingFault sets listed (Broken rule start end names) = (ring : List ℕ) × IsRingOfSets listed ring × IsRingTold sets ring rule start end names
IsSetRingFault sets listed NoMemory = Unit {0}

-- a break as a fault
abbrev pub break_fault : Break → List (List ℕ) → PlanFault
break_fault b ring = Broken b.rule b.start b.end ring
