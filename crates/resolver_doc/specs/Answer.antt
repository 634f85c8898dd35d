-- When a document breaks no rule, and which break is told where it breaks some: the first of the first phase that has one.
use Rattle.std.specs.Prelude.{◌≡◌, ◌⊎◌, ℕ, List, [], Some}
use Rattle.json_span.specs.Tree.{Placed}
use Rattle.resolver_doc.specs.declared.rule.PlanRule.TheVariants.{Cycle}
use Rattle.resolver_doc.specs.declared.rule.Break.{Break}
use Rattle.resolver_doc.specs.declared.fault.PlanFault.{PlanFault}
use Rattle.resolver_doc.specs.declared.fault.PlanFault.TheVariants.{Broken, NoMemory}
use Rattle.resolver_doc.specs.Break.{first_of}
use Rattle.resolver_doc.specs.Document.{resolver_of}
use Rattle.resolver_doc.specs.Form.{form_breaks}
use Rattle.resolver_doc.specs.Naming.{naming_breaks}
use Rattle.resolver_doc.specs.Rings.{HasNoRingOfSets, IsSetRing}

-- a document that breaks no rule
pub record IsUnbroken (root : Placed) : Type 0 where
  pub forms : form_breaks root ≡ []
  pub names : naming_breaks root ≡ []
  pub rings : HasNoRingOfSets (resolver_of root).sets

-- a form is not met
pub record IsFormFault (root : Placed) (told : Break) (ring : List (List ℕ)) : Type 0 where
  pub first : first_of (form_breaks root) ≡ Some told
  pub no_ring : ring ≡ []

-- the forms are met, but a reference names nothing, or a name stands twice
pub record IsNamingFault (root : Placed) (told : Break) (ring : List (List ℕ)) : Type 0 where
  pub forms : form_breaks root ≡ []
  pub first : first_of (naming_breaks root) ≡ Some told
  pub no_ring : ring ≡ []

-- forms and names are right, but sets name each other in a ring
pub record IsCycleFault (root : Placed) (told : Break) (sets : List (List ℕ)) : Type 0 where
  pub forms : form_breaks root ≡ []
  pub names : naming_breaks root ≡ []
  pub rule : told.rule ≡ Cycle
  pub ring : IsSetRing root sets told.start told.end

-- what is told of a document that breaks a rule; memory may always run out
abbrev pub IsPlanBreak : Placed → Break → List (List ℕ) → Type 0
IsPlanBreak root told ring = IsFormFault root told ring ⊎ (IsNamingFault root told ring ⊎ IsCycleFault root told ring)

abbrev pub IsPlanFault : Placed → PlanFault → Type 0
IsPlanFault root (Broken rule start end ring) = IsPlanBreak root (record { rule = rule; start = start; end = end }) ring
IsPlanFault root NoMemory = Unit {0}
