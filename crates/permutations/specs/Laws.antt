-- Laws of permutations and of sets.
use Rattle.std.specs.Prelude.{◌≡◌, ◌⊎◌, ◌<◌, ℕ, List, length, map, IsTrue}
use Rattle.std.specs.List.{AllByRecursion}
use Rattle.ring.specs.Lists.{AreApart, In}
use Rattle.json_span.specs.Parts.{IsPart}
use Rattle.json_span.specs.Tree.{Placed, start_of, end_of}
use Rattle.resolver_doc.specs.Document.{SetData, ResolverData, HasContextsApart, resolver_of, text_at, without_dots}
use Rattle.resolver_doc.specs.Rings.{are_sets_right, HasNoRingOfSets}
use Rattle.permutations.specs.Answer.{IsWithin, IsTooMany, IsTooManySources}
use Rattle.permutations.specs.Permutation.{file, inline, Permutation, permutations, set_sources, sources_from, sources_written}

-- a set comes to what its sources come to
abbrev pub SetsComeToTheirSources : Type 0
SetsComeToTheirSources = (sets : List SetData) → IsTrue (are_sets_right sets sets) → HasNoRingOfSets sets
    → (v : ℕ) → v < length sets → set_sources sets v ≡ sources_from sets (sources_written sets v)

-- where the contexts of each modifier have different names, no two permutations have one name
abbrev pub NamesAreApart : Type 0
NamesAreApart = (plan : ResolverData) → AllByRecursion HasContextsApart plan.order → AreApart (map (λ p. p.name) (permutations plan))

-- tokens that are written in a document are parts of it
abbrev pub InlinesArePart : Type 0
InlinesArePart = (root : Placed) (p : Permutation) → In p (permutations (resolver_of root)) → (n : Placed) → In (inline n) p.sources → IsPart n root

-- A string of the document names the file, which is its text without the leading `./`; the span is that of the string.
pub record IsNamedBy (root : Placed) (name : List ℕ) (start end : ℕ) : Type 0 where
  pub string : Placed
  pub part : IsPart string root
  pub name_is : name ≡ without_dots (text_at string)
  pub start_is : start ≡ start_of string
  pub end_is : end ≡ end_of string

-- .. and a string of it names each file
abbrev pub FilesAreNamed : Type 0
FilesAreNamed = (root : Placed) (p : Permutation) → In p (permutations (resolver_of root)) → (name : List ℕ) (start end : ℕ)
    → In (file name start end) p.sources → IsNamedBy root name start end

-- each plan is within the limits, or has too many permutations, or one with too many sources
abbrev pub EachListAnswers : Type 0
EachListAnswers = (plan : ResolverData)
    → IsWithin plan ⊎ (((n : ℕ) × IsTooMany plan n) ⊎ ((n : ℕ) × IsTooManySources plan n))
