-- What sets come to, without references that lead to nothing or to one source alone.
use Rattle.std.specs.Prelude.{◌≡◌, ◌<◌, ℕ, List, [], ◌∷◌, All, length, map, min, slice_get, slice_set, unwrap_or}
use Rattle.std.specs.List.{flat_map, sum_by}
use Rattle.json_span.specs.View.{ref_view}
use Rattle.ring.specs.Lists.{In}
use Rattle.resolver_doc.specs.Document.{SourceData, file_source, set_source, inline_source, SetData}
use Rattle.permutations.specs.Permutation.{TokenSource, file, inline, sources_written}
use Rattle.resolver_doc.specs.View.{source_view}
use Rattle.resolver_doc.specs.declared.written.WrittenSource.{WrittenSource}
use Rattle.resolver_doc.specs.declared.written.Item.{Item}
use Rattle.resolver_doc.specs.declared.written.Item.TheVariants.{Set as Sources, Modifier}
use Rattle.permutations.specs.declared.part.Part.{Part}
use Rattle.permutations.specs.declared.part.Part.TheVariants.{File, Inline, Set}
use Rattle.permutations.specs.declared.part.Row.{Row}
use Rattle.permutations.specs.Answer.{last_number}

-- a part: a source itself, or a set by its number
pub data PartData : Type 0 where
  own : TokenSource → PartData
  whole_set : ℕ → PartData

abbrev pub part_view : Part → PartData
part_view (File name start end) = own (file name.now start end)
part_view (Inline node) = own (inline (ref_view node))
part_view (Set v) = whole_set v

abbrev pub parts_view : List Part → List PartData
parts_view parts = map part_view parts

-- what a set comes to: parts, and how many sources
pub record RowData : Type 0 where
  pub parts : List PartData
  pub count : ℕ

abbrev pub row_view : Row → RowData
row_view row = record { parts = parts_view row.parts.items; count = row.count }

abbrev pub rows_view : List Row → List RowData
rows_view rows = map row_view rows

abbrev pub no_row : RowData
no_row = record { parts = []; count = 0 }

abbrev pub row_at : List RowData → ℕ → RowData
row_at rows v = unwrap_or (slice_get rows v) no_row

-- a set of no parts is nothing, one of one part is this part
abbrev pub set_parts : ℕ → List PartData → List PartData
set_parts v [] = []
set_parts v (p ∷ []) = p ∷ []
set_parts v (p ∷ q ∷ ps) = whole_set v ∷ []

abbrev pub part_in : List RowData → SourceData → List PartData
part_in rows (file_source name start end) = own (file name start end) ∷ []
part_in rows (set_source name v) = set_parts v (row_at rows v).parts
part_in rows (inline_source n) = own (inline n) ∷ []

abbrev pub parts_in : List RowData → List SourceData → List PartData
parts_in rows sources = flat_map (part_in rows) sources

-- how many sources a source comes to, and sources come to, at most a million
abbrev pub count_in : List RowData → SourceData → ℕ
count_in rows (file_source name start end) = 1
count_in rows (set_source name v) = (row_at rows v).count
count_in rows (inline_source n) = 1

abbrev pub counts_in : List RowData → List SourceData → ℕ
counts_in rows sources = min (sum_by (count_in rows) sources) last_number

abbrev pub row_in : List RowData → List SourceData → RowData
row_in rows sources = record { parts = parts_in rows sources; count = counts_in rows sources }

-- the rows with that of one more set
abbrev pub with_row : List SetData → List RowData → ℕ → List RowData
with_row sets rows v = slice_set rows v (row_in rows (sources_written sets v))

-- a source names a set that has a row
abbrev pub HasRow : ℕ → SourceData → Type 0
HasRow rows (file_source name start end) = Unit {0}
HasRow rows (set_source name v) = v < rows
HasRow rows (inline_source n) = Unit {0}

-- the same of sources, and of what an item has
abbrev pub HaveRows : ℕ → List WrittenSource → Type 0
HaveRows rows sources = All (λ s. HasRow rows (source_view s)) sources

abbrev pub ItemHasRows : ℕ → Item → Type 0
ItemHasRows rows (Sources sources) = HaveRows rows sources
ItemHasRows rows (Modifier name contexts default) = All (λ c. HaveRows rows c.sources) contexts

-- a part is a source, or a set that has a row
abbrev pub IsPlaced : ℕ → PartData → Type 0
IsPlaced rows (own source) = Unit {0}
IsPlaced rows (whole_set v) = v < rows

-- the sources of a part, where it is told what each set comes to
abbrev pub part_sources : (ℕ → List TokenSource) → PartData → List TokenSource
part_sources of_set (own source) = source ∷ []
part_sources of_set (whole_set v) = of_set v

-- a part is no empty set, and no set of one part; `K` says which sets have rows
abbrev pub IsSolid : (ℕ → List TokenSource) → List RowData → (ℕ → Type 0) → PartData → Type 0
IsSolid of_set rows K (own source) = Unit {0}
IsSolid of_set rows K (whole_set v) = K v × (1 < length (row_at rows v).parts) × (0 < length (of_set v))

abbrev pub AreSolid : (ℕ → List TokenSource) → List RowData → (ℕ → Type 0) → List PartData → Type 0
AreSolid of_set rows K parts = (p : PartData) → In p parts → IsSolid of_set rows K p

-- a row tells what comes to these sources
pub record RowTells (of_set : ℕ → List TokenSource) (rows : List RowData) (K : ℕ → Type 0) (sources : List TokenSource) (row : RowData) : Type 0 where
  pub whole : flat_map (part_sources of_set) row.parts ≡ sources
  pub count : row.count ≡ min (length sources) last_number
  pub solid : AreSolid of_set rows K row.parts

-- the rows tell what each set comes to
pub record IsTable (of_set : ℕ → List TokenSource) (sets : ℕ) (rows : List RowData) : Type 0 where
  pub long : length rows ≡ sets
  pub row : (v : ℕ) → v < sets → RowTells of_set rows (λ w. w < sets) (of_set v) (row_at rows v)
