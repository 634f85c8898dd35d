-- Broken rules with their spans, and which of several is told.
use Rattle.std.specs.Prelude.{◌≡◌, ℕ, ◌==◌, ◌&&◌, ◌||◌, Bool, false, nat_lt, fold, List, [], ◌∷◌, Option, Some, None, if◌then◌else◌}
use Rattle.json_span.specs.Tree.{Placed, Entry, start_of, end_of}
use Rattle.ring.specs.Lists.{In}
use Rattle.resolver_doc.specs.declared.rule.PlanRule.{PlanRule}
use Rattle.resolver_doc.specs.declared.rule.PlanRule.TheVariants.{Version, Shape, Reference, ModifierInSet, Contexts, Default, Duplicate, Cycle}
use Rattle.resolver_doc.specs.declared.rule.Break.{Break}

-- the place of a rule among the rules
abbrev pub rule_number : PlanRule → ℕ
rule_number Version = 1
rule_number Shape = 2
rule_number Reference = 3
rule_number ModifierInSet = 4
rule_number Contexts = 5
rule_number Default = 6
rule_number Duplicate = 7
rule_number Cycle = 8

-- a break whose span starts earlier, and of equal starts that of the lower number
abbrev pub is_before : Break → Break → Bool
is_before a b = nat_lt a.start b.start || ((a.start == b.start) && nat_lt (rule_number a.rule) (rule_number b.rule))

-- the first of a break so far and another
abbrev pub earlier : Option Break → Break → Option Break
earlier None new = Some new
earlier (Some old) new = if is_before new old then Some new else Some old

-- the first of a break so far and others
abbrev pub with_breaks : Option Break → List Break → Option Break
with_breaks first breaks = fold earlier first breaks

-- the first of the breaks
abbrev pub first_of : List Break → Option Break
first_of breaks = with_breaks None breaks

-- it is one of the breaks, and none comes before it
pub record IsFirst (breaks : List Break) (first : Break) : Type 0 where
  pub there : In first breaks
  pub none_before : (other : Break) → In other breaks → is_before other first ≡ false

-- what is told is the first, and where nothing is told there is no break
abbrev pub FirstIsTold : Type 0
FirstIsTold = (breaks : List Break) (first : Break) → first_of breaks ≡ Some first → IsFirst breaks first

abbrev pub NoneIsTold : Type 0
NoneIsTold = (breaks : List Break) → first_of breaks ≡ None → breaks ≡ []

-- a break at a value, and at a member's name
abbrev pub at_value : PlanRule → Placed → List Break
at_value rule n = record { rule = rule; start = start_of n; end = end_of n } ∷ []

abbrev pub at_name : PlanRule → Entry → List Break
at_name rule e = record { rule = rule; start = e.start; end = e.end } ∷ []
