-- Numbers that are told against the limits.
use Rattle.std.proofs.Common.{◌≡◌, ◌<◌, ◌≤◌, ℕ, arith}
use Rattle.permutations.specs.Answer.{told_number, most_permutations, sources_limit}

pub few_permutations : (shown n : ℕ) → shown ≡ told_number n → shown ≤ most_permutations → n ≤ most_permutations
few_permutations shown n is h = omega arith

pub few_sources : (shown n : ℕ) → shown ≡ told_number n → shown ≤ sources_limit → n ≤ sources_limit
few_sources shown n is h = omega arith

pub many_sources : (shown n : ℕ) → shown ≡ told_number n → sources_limit < shown → sources_limit < n
many_sources shown n is h = omega arith
