-- What permutations and their sources are seen as.
use Rattle.std.specs.Prelude.{List, map}
use Rattle.json_span.specs.View.{ref_view}
use Rattle.permutations.specs.Permutation.{TokenSource, file, inline, Permutation}
use Rattle.permutations.specs.declared.perm.Source.{Source}
use Rattle.permutations.specs.declared.perm.Source.TheVariants.{File, Inline}
use Rattle.permutations.specs.declared.perm.Perm.{Perm}

abbrev pub token_source_view : Source → TokenSource
token_source_view (File name start end) = file name start end
token_source_view (Inline node) = inline (ref_view node)

abbrev pub token_sources_view : List Source → List TokenSource
token_sources_view sources = map token_source_view sources

abbrev pub perm_view : Perm → Permutation
perm_view p = record { name = p.name; sources = token_sources_view p.sources }

abbrev pub perms_view : List Perm → List Permutation
perms_view perms = map perm_view perms
