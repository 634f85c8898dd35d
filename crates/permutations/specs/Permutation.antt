-- The permutations of a resolver document: one for each way to choose a context for each modifier, the last modifier
-- fastest, with its name and its sources in order.
use Rattle.std.specs.Prelude.{ℕ, zero, suc, List, [], ◌∷◌, length, map, max, option_map, slice_get, unwrap_or}
use Rattle.std.specs.List.{flat_map}
use Rattle.json_span.specs.Tree.{Placed}
use Rattle.resolver_doc.specs.Document.{SourceData, file_source, set_source, inline_source, SetData, ItemData, set_item, modifier_item, ResolverData}
use Rattle.permutations.specs.Name.{Choice, name_of}

-- What tokens come from: a file by its name and the span of the string that names it, or tokens in the document.
pub data TokenSource : Type 0 where
  file : List ℕ → ℕ → ℕ → TokenSource
  inline : Placed → TokenSource

-- what a source as written comes to, where it is told what each set comes to
abbrev pub replaced : (ℕ → List TokenSource) → SourceData → List TokenSource
replaced of_set (file_source name start end) = file name start end ∷ []
replaced of_set (set_source name v) = of_set v
replaced of_set (inline_source n) = inline n ∷ []

-- the sources that are written in the set of a number
abbrev pub sources_written : List SetData → ℕ → List SourceData
sources_written sets v = unwrap_or (option_map (λ s. s.sources) (slice_get sets v)) []

-- what a set comes to, where its sources lead through at most so many sets
unfoldable pub set_within : List SetData → ℕ → ℕ → List TokenSource
set_within sets zero v = []
set_within sets (suc k) v = flat_map (replaced (set_within sets k)) (sources_written sets v)

-- what a set comes to: no way leads through more sets than there are
abbrev pub set_sources : List SetData → ℕ → List TokenSource
set_sources sets v = set_within sets (length sets) v

-- sources with each reference to a set replaced by what the set comes to
abbrev pub sources_from : List SetData → List SourceData → List TokenSource
sources_from sets sources = flat_map (replaced (set_sources sets)) sources

-- what is taken of an item of the order: the sources of a set, or those of one of the modifier's contexts
pub record Pick : Type 0 where
  pub chosen : List Choice
  pub sources : List SourceData

abbrev pub context_pick : List ℕ → SetData → Pick
context_pick modifier context = record {
  chosen = record { modifier = modifier; context = context.name } ∷ [];
  sources = context.sources;
}

abbrev pub picks : ItemData → List Pick
picks (set_item sources) = record { chosen = []; sources = sources } ∷ []
picks (modifier_item name contexts default) = map (context_pick name) contexts

-- each way to pick from each item, with the last item fastest
abbrev pub choices : List ItemData → List (List Pick)
choices [] = [] ∷ []
choices (item ∷ items) = flat_map (λ pick. map (λ rest. pick ∷ rest) (choices items)) (picks item)

-- a permutation: its name, and its sources in order
pub record Permutation : Type 0 where
  pub name : List ℕ
  pub sources : List TokenSource

abbrev pub permutation : List SetData → List Pick → Permutation
permutation sets ps = record {
  name = name_of (flat_map (λ p. p.chosen) ps);
  sources = flat_map (λ p. sources_from sets p.sources) ps;
}

abbrev pub permutations : ResolverData → List Permutation
permutations plan = map (permutation plan.sets) (choices plan.order)

-- the greatest of numbers, 0 of none
abbrev pub greatest : List ℕ → ℕ
greatest [] = 0
greatest (n ∷ ns) = max n (greatest ns)

-- the greatest number of sources of a permutation
abbrev pub most_sources : ResolverData → ℕ
most_sources plan = greatest (map (λ p. length p.sources) (permutations plan))
