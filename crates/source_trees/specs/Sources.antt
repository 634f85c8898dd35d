-- What the sources of a permutation come to: their trees, and the rules that they break.
use Rattle.std.specs.Prelude.{◌≡◌, ℕ, List, [], ◌∷◌, ◌++◌, map, MatchOption}
use Rattle.std.specs.FinMap as finite
use Rattle.json_span.specs.Answer.{Answer, IsAnswer, shows, flawed, stops}
use Rattle.json_span.specs.Flaw.{Flaw, equal_names, too_deep}
use Rattle.permutations.specs.Permutation as perm
use Rattle.permutations.specs.Permutation.{TokenSource}
use Rattle.tk_io.specs.FilesData.{FilesData}
use Rattle.token_tree.specs.Shape.{Break as ShapeBreak, shape_breaks, shape_of}
use Rattle.token_tree.specs.Tree.{Group}
use Rattle.source_trees.specs.declared.source.SourceFault.{SourceFault}
use Rattle.source_trees.specs.declared.source.SourceFault.TheVariants.{Missing, Syntax, Duplicate, Depth, Shape}

-- the file that names the sources, and its text
pub record HomeAt : Type 0 where
  pub file : List ℕ
  pub text : List ℕ

-- a rule that is broken, and the file and the span where it is
pub record BreakAt : Type 0 where
  pub fault : SourceFault
  pub file : List ℕ
  pub start : ℕ
  pub end : ℕ

abbrev pub break_at : SourceFault → List ℕ → ℕ → ℕ → BreakAt
break_at fault file start end = record { fault = fault; file = file; start = start; end = end }

-- Of one file.

abbrev pub shape_break : List ℕ → ShapeBreak → BreakAt
shape_break file b = break_at (Shape b.rule) file b.start b.end

abbrev pub flaw_break : List ℕ → Flaw → BreakAt
flaw_break file (equal_names start end) = break_at Duplicate file start end
flaw_break file (too_deep start end) = break_at Depth file start end

-- the breaks by what reading the text answers
abbrev pub answer_breaks : List ℕ → Answer → List BreakAt
answer_breaks file (shows n) = map (shape_break file) (shape_breaks n)
answer_breaks file (flawed f) = flaw_break file f ∷ []
answer_breaks file (stops at) = break_at Syntax file at at ∷ []

-- the tree, which counts where there is no break
abbrev pub answer_trees : List ℕ → List ℕ → Answer → List Group
answer_trees file text (shows n) = shape_of file text n ∷ []
answer_trees file text (flawed f) = []
answer_trees file text (stops at) = []

-- Of one source: its breaks, and its tree.

abbrev pub FoundIn : List ℕ → List ℕ → List BreakAt → List Group → Type 0
FoundIn file text breaks trees =
    (answer : Answer) × IsAnswer text answer × (breaks ≡ answer_breaks file answer) × (trees ≡ answer_trees file text answer)

abbrev pub SourceFound : FilesData → HomeAt → TokenSource → List BreakAt → List Group → Type 0
SourceFound files home (perm.file name start end) breaks trees =
    MatchOption (finite.get files name) ((breaks ≡ break_at Missing home.file start end ∷ []) × (trees ≡ [])) (λ text. FoundIn name text breaks trees)
SourceFound files home (perm.inline n) breaks trees =
    (breaks ≡ map (shape_break home.file) (shape_breaks n)) × (trees ≡ shape_of home.file home.text n ∷ [])

-- Of all sources, in their order.

abbrev pub SourcesFound : FilesData → HomeAt → List TokenSource → List BreakAt → List Group → Type 0
SourcesFound files home [] breaks trees = (breaks ≡ []) × (trees ≡ [])
SourcesFound files home (s ∷ ss) breaks trees =
    (b bs : List BreakAt) × (t ts : List Group) × SourceFound files home s b t × SourcesFound files home ss bs ts × (breaks ≡ b ++ bs) × (trees ≡ t ++ ts)
