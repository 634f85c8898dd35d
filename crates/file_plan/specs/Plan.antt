-- The plan of files: their permutations in order, or the first rule that their resolver document breaks.
use Rattle.std.specs.Prelude.{◌≡◌, ℕ, List, [], ◌∷◌, codes, Option, Some, None, option_map, unwrap_or}
use Rattle.json_span.specs.Answer.{Answer, IsAnswer, shows, flawed, stops}
use Rattle.json_span.specs.Flaw.{Flaw}
use Rattle.json_span.specs.Tree.{Placed, start_of, end_of, value_of_name}
use Rattle.resolver_doc.specs.Answer.{IsUnbroken, IsPlanBreak}
use Rattle.resolver_doc.specs.Document.{resolver_of}
use Rattle.resolver_doc.specs.Form.{entries_at}
use Rattle.resolver_doc.specs.declared.rule.Break.{Break}
use Rattle.permutations.specs.Answer.{IsWithin, IsTooMany, IsTooManySources}
use Rattle.permutations.specs.Permutation.{Permutation, permutations, file}

-- What is told of a document that breaks a rule: where it stops to be JSON, its first flaw, the rule of resolver documents with
-- the sets of its ring, or the list of its order with a number that is beyond a limit.
pub data PlanBreak : Type 0 where
  stopped : ℕ → PlanBreak
  has_flaw : Flaw → PlanBreak
  breaks : Break → List (List ℕ) → PlanBreak
  too_many : ℕ → ℕ → ℕ → PlanBreak
  too_many_sources : ℕ → ℕ → ℕ → PlanBreak

pub data Planned : Type 0 where
  planned : List Permutation → Planned
  refused : PlanBreak → Planned

-- files without a resolver document have one permutation, of one file
abbrev pub default_plan : List Permutation
default_plan = record { name = codes "default"; sources = file (codes "tokens.json") 0 0 ∷ [] } ∷ []

-- the list of a document's order
abbrev pub order_of : Placed → Option Placed
order_of root = value_of_name (codes "resolutionOrder") (entries_at root)

abbrev pub order_start : Placed → ℕ
order_start root = unwrap_or (option_map start_of (order_of root)) 0

abbrev pub order_end : Placed → ℕ
order_end root = unwrap_or (option_map end_of (order_of root)) 0

-- what a document gives
pub data OfDocument (root : Placed) : Planned → Type 0 where
  broken : (told : Break) (ring : List (List ℕ)) → IsPlanBreak root told ring → OfDocument root (refused (breaks told ring))
  many : (n : ℕ) → IsUnbroken root → IsTooMany (resolver_of root) n → OfDocument root (refused (too_many (order_start root) (order_end root) n))
  long : (n : ℕ) → IsUnbroken root → IsTooManySources (resolver_of root) n → OfDocument root (refused (too_many_sources (order_start root) (order_end root) n))
  listed : IsUnbroken root → IsWithin (resolver_of root) → OfDocument root (planned (permutations (resolver_of root)))

abbrev pub OfAnswer : Answer → Planned → Type 0
OfAnswer (shows root) p = OfDocument root p
OfAnswer (flawed f) p = p ≡ refused (has_flaw f)
OfAnswer (stops at) p = p ≡ refused (stopped at)

-- The plan by the resolver document's text, where there is one.
abbrev pub Plans : Option (List ℕ) → Planned → Type 0
Plans None p = p ≡ planned default_plan
Plans (Some text) p = (answer : Answer) × IsAnswer text answer × OfAnswer answer p

-- how many texts are read for it
abbrev pub text_count : Option (List ℕ) → ℕ
text_count None = 0
text_count (Some text) = 1
