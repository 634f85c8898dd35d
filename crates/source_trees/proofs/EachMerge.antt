-- Any sources come to something, and the members of each group of their merged tree ascend.
use Rattle.std.proofs.Common.{◌≡◌, ℕ, List, [], ◌∷◌, ◌++◌, All, Option, Some, None, MatchOption, map, refl, sym, subst}
use Rattle.std.proofs.lemmas.List.Elements.{All-append, All-cons, All-nil}
use Rattle.std.specs.FinMap as finite
use Rattle.json_span.specs.Answer.{Answer, shows, flawed, stops}
use Rattle.json_span.proofs.Answered.{answered}
use Rattle.permutations.specs.Permutation as perm
use Rattle.permutations.specs.Permutation.{TokenSource}
use Rattle.tk_io.specs.FilesData.{FilesData}
use Rattle.token_tree.specs.Shape.{shape_breaks, shape_of}
use Rattle.token_tree.specs.Tree.{Group}
use Rattle.group_inherit.specs.Laws.{MergedAreOrdered, ShapesAreOrdered}
use Rattle.group_inherit.specs.Ordered.{IsOrdered}
use Rattle.source_trees.specs.Laws.{EachFound, MergedIsOrdered}
use Rattle.source_trees.specs.Sources.{HomeAt, BreakAt, break_at, shape_break, answer_breaks, answer_trees, FoundIn, SourceFound, SourcesFound}
use Rattle.source_trees.specs.declared.source.SourceFault.TheVariants.{Missing}

abbrev no_trees : List Group
no_trees = []

-- a file that is not there, and the text of one that is
pub missing_found : (files : FilesData) (home : HomeAt) (name : List ℕ) (start end : ℕ) → finite.get files name ≡ None
    → SourceFound files home (perm.file name start end) (break_at Missing home.file start end ∷ []) []
missing_found files home name start end there =
    subst (λ (o : Option (List ℕ)). MatchOption o ((broken ≡ broken) × (no_trees ≡ no_trees))
    (λ text. FoundIn name text broken [])) (sym there) (refl, refl)
  where
    broken : List BreakAt
    broken = break_at Missing home.file start end ∷ []

text_found : (files : FilesData) (home : HomeAt) (name text : List ℕ) (start end : ℕ) (bs : List BreakAt)
    (ts : List Group) → finite.get files name ≡ Some text → FoundIn name text bs ts
    → SourceFound files home (perm.file name start end) bs ts
text_found files home name text start end bs ts there found =
    subst (λ (o : Option (List ℕ)). MatchOption o ((bs ≡ break_at Missing home.file start end ∷ []) × (ts ≡ []))
    (λ x. FoundIn name x bs ts)) (sym there) found

module _ (files : FilesData) (home : HomeAt) where
  abbrev Found : TokenSource → Type 0
  Found source = (breaks : List BreakAt) × (trees : List Group) × SourceFound files home source breaks trees

  file_found : (name : List ℕ) (start end : ℕ) (o : Option (List ℕ)) → finite.get files name ≡ o
      → Found (perm.file name start end)
  file_found name start end None there =
      (break_at Missing home.file start end ∷ [], [], missing_found files home name start end there)
  file_found name start end (Some text) there =
      let (answer, is) = answered text in
      let bs = answer_breaks name answer in
      let ts = answer_trees name text answer in
      (bs, ts, text_found files home name text start end bs ts there (answer, is, refl, refl))

  source_found : (source : TokenSource) → Found source
  source_found (perm.file name start end) = file_found name start end (finite.get files name) refl
  source_found (perm.inline n) =
      (map (shape_break home.file) (shape_breaks n), shape_of home.file home.text n ∷ [], (refl, refl))

  pub sources_found : (sources : List TokenSource)
      → (breaks : List BreakAt) × (trees : List Group) × SourcesFound files home sources breaks trees
  sources_found [] = ([], [], (refl, refl))
  sources_found (s ∷ ss) =
      let (b, t, here) = source_found s in
      let (bs, ts, later) = sources_found ss in
      (b ++ bs, t ++ ts, (b, bs, t, ts, here, later, refl, refl))

pub each_merge : EachFound
each_merge files home sources = sources_found files home sources

module _ (shapes : ShapesAreOrdered) (files : FilesData) (home : HomeAt) where
  shape_ordered : (file text : List ℕ) (answer : Answer) → All IsOrdered (answer_trees file text answer)
  shape_ordered file text (shows n) =
      All-cons IsOrdered (shape_of file text n) [] (shapes file text n) (All-nil IsOrdered)
  shape_ordered file text (flawed f) = All-nil IsOrdered
  shape_ordered file text (stops at) = All-nil IsOrdered

  text_ordered : (file text : List ℕ) (breaks : List BreakAt) (trees : List Group) → FoundIn file text breaks trees
      → All IsOrdered trees
  text_ordered file text breaks trees (answer, is, found, shown) =
      subst (All IsOrdered) (sym shown) (shape_ordered file text answer)

  file_ordered : (name : List ℕ) (start end : ℕ) (o : Option (List ℕ)) (breaks : List BreakAt) (trees : List Group)
      → MatchOption o ((breaks ≡ break_at Missing home.file start end ∷ []) × (trees ≡ []))
      (λ text. FoundIn name text breaks trees) → All IsOrdered trees
  file_ordered name start end None breaks trees found = subst (All IsOrdered) (sym found.1) (All-nil IsOrdered)
  file_ordered name start end (Some text) breaks trees found = text_ordered name text breaks trees found

  source_ordered : (source : TokenSource) (breaks : List BreakAt) (trees : List Group)
      → SourceFound files home source breaks trees → All IsOrdered trees
  source_ordered (perm.file name start end) breaks trees found =
      file_ordered name start end (finite.get files name) breaks trees found
  source_ordered (perm.inline n) breaks trees found =
      subst (All IsOrdered) (sym found.1)
      (All-cons IsOrdered (shape_of home.file home.text n) [] (shapes home.file home.text n) (All-nil IsOrdered))

  sources_ordered : (sources : List TokenSource) (breaks : List BreakAt) (trees : List Group)
      → SourcesFound files home sources breaks trees → All IsOrdered trees
  sources_ordered [] breaks trees found = subst (All IsOrdered) (sym found.1) (All-nil IsOrdered)
  sources_ordered (s ∷ ss) breaks trees (b, bs, t, ts, here, later, broken, shown) =
      subst (All IsOrdered) (sym shown)
      (All-append IsOrdered t ts (source_ordered s b t here) (sources_ordered ss bs ts later))

pub merged_is_ordered : ShapesAreOrdered → MergedAreOrdered → MergedIsOrdered
merged_is_ordered shapes merging files home sources breaks trees found =
    merging.1 trees (sources_ordered shapes files home sources breaks trees found)
