-- What checking a value finds: what it is, or the first rule that it breaks.
use Rattle.std.specs.Prelude.{ℕ, List, [], ◌∷◌, Option, Some, None, Result, Ok, Err}
use Rattle.type_rules.specs.declared.fault.ValueRule.{ValueRule}

-- a broken rule, and the steps from the value to the part that breaks it
pub record Break : Type 0 where
  pub rule : ValueRule
  pub trail : List (List ℕ)

abbrev pub Checked : Type 0 → Type 0
Checked A = Result A Break

-- the value itself breaks the rule
abbrev pub broken : {A : Type 0} → ValueRule → Checked A
broken rule = Err (record { rule = rule; trail = [] })

-- what a part breaks, seen from the value that holds the part under this step
abbrev pub outside : List ℕ → Break → Break
outside step b = record { rule = b.rule; trail = step ∷ b.trail }

-- what checking the part finds, seen from there
abbrev pub under : {A : Type 0} → List ℕ → Checked A → Checked A
under step (Ok x) = Ok x
under step (Err b) = Err (outside step b)

-- what is there, or the rule is broken
abbrev pub or_broken : {A : Type 0} → ValueRule → Option A → Checked A
or_broken rule (Some x) = Ok x
or_broken rule None = broken rule

-- one check after another: the first break counts
infixl 10 ◌>>=◌
abbrev pub ◌>>=◌ : {A B : Type 0} → Checked A → (A → Checked B) → Checked B
(Ok x) >>= f = f x
(Err b) >>= f = Err b
