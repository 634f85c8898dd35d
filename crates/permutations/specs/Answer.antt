-- Which answer comes of a plan.
use Rattle.std.specs.Prelude.{◌≡◌, ◌≤◌, ◌<◌, ℕ, length, min}
use Rattle.resolver_doc.specs.Document.{ResolverData}
use Rattle.permutations.specs.Permutation.{permutations, most_sources}
use Rattle.permutations.specs.declared.fault.ListFault.{ListFault}
use Rattle.permutations.specs.declared.fault.ListFault.TheVariants.{TooMany, TooManySources, NoMemory}

-- the most permutations that a plan may have
abbrev pub most_permutations : ℕ
most_permutations = 64

-- the most sources that a permutation may have
abbrev pub sources_limit : ℕ
sources_limit = 1024

-- the greatest number that is told
abbrev pub last_number : ℕ
last_number = 1000000

-- a number as it is told: at most a million
abbrev pub told_number : ℕ → ℕ
told_number n = min n last_number

-- a plan within the limits
pub record IsWithin (plan : ResolverData) : Type 0 where
  pub few : length (permutations plan) ≤ most_permutations
  pub short : most_sources plan ≤ sources_limit

-- too many permutations
pub record IsTooMany (plan : ResolverData) (n : ℕ) : Type 0 where
  pub many : most_permutations < length (permutations plan)
  pub number : n ≡ told_number (length (permutations plan))

-- not too many permutations, but one with too many sources
pub record IsTooManySources (plan : ResolverData) (n : ℕ) : Type 0 where
  pub few : length (permutations plan) ≤ most_permutations
  pub many : sources_limit < most_sources plan
  pub number : n ≡ told_number (most_sources plan)

-- the cause of each fault; memory may always run out
abbrev pub IsListFault : ResolverData → ListFault → Type 0
IsListFault plan (TooMany n) = IsTooMany plan n
IsListFault plan (TooManySources n) = IsTooManySources plan n
IsListFault plan NoMemory = Unit {0}
