-- What decides what sources come to, as the code holds it.
use Rattle.std.specs.Prelude.{List, map}
use Rattle.tk_io.specs.FilesData.{FilesData}
use Rattle.permutations.specs.Permutation.{TokenSource}
use Rattle.source_trees.specs.Contents.{SourceContent, a_file, a_missing_file, a_slice, source_content}
use Rattle.source_trees.specs.Sources.{HomeAt}
use Rattle.rebuild_core.specs.declared.contents.Content.{Content}
use Rattle.rebuild_core.specs.declared.contents.Content.TheVariants.{File, Missing, Slice}

abbrev pub content_view : Content → SourceContent
content_view (File name text) = a_file name.now text.now
content_view (Missing home start end) = a_missing_file home.now start end
content_view (Slice home slice start) = a_slice home.now slice.now start

abbrev pub all_contents : FilesData → HomeAt → List TokenSource → List SourceContent
all_contents files home sources = map (source_content files home) sources
