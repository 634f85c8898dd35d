-- Parts that are replaced by their sources, while those that are still to come stand on a stack.
use Rattle.std.specs.Prelude.{List, [], ◌∷◌, length, reverse}
use Rattle.resolver_doc.specs.View.{sets_view}
use Rattle.permutations.specs.Permutation.{TokenSource, set_sources}
use Rattle.permutations.specs.inner.Parts.{PartData, own, whole_set, RowData, row_at, rows_view, IsTable}
use Rattle.permutations.specs.declared.table.Table.{Table}

-- a table tells what the sets come to
abbrev pub Tells : Table → Type 0
Tells t = IsTable (set_sources (sets_view t.sets.now)) (length (sets_view t.sets.now)) (rows_view t.rows.items)

-- what a part adds to the sources, and what it leaves on the stack
abbrev pub sources_added : PartData → List TokenSource
sources_added (own source) = source ∷ []
sources_added (whole_set v) = []

abbrev pub parts_left : List RowData → PartData → List PartData
parts_left rows (own source) = []
parts_left rows (whole_set v) = reverse (row_at rows v).parts
