-- Sources that are laid over one another, one by one.
use Rattle.std.proofs.Common.{◌≡◌, ℕ, ◌+◌, ◌<◌, ◌≤◌, length, get_or, drop, List, [], ◌∷◌, ◌++◌, Option, Some, None, MatchOption, map, refl, sym, ap, ◌∙◌, subst}
use Rattle.std.proofs.lemmas.List.{drop_more, drop_all}
use Rattle.std.specs.FinMap as finite
use Rattle.std.specs.List.{slice_get}
use Rattle.std.specs.Prelude.{IfSome, IfNone}
use Rattle.tk_io.specs.FilesData.{FilesData}
use Rattle.tk_io.specs.Order.{text_cmp}
use Rattle.token_tree.specs.Shape.{Break as ShapeBreak, shape_breaks, shape_of}
use Rattle.token_tree.specs.View.{group_view}
use Rattle.token_tree.specs.Tree.{Group}
use Rattle.token_tree.specs.declared.tree.Group.{Group as GroupCode}
use Rattle.json_span.specs.View.{node_view}
use Rattle.json_span.specs.declared.node.Node.{Node}
use Rattle.group_inherit.specs.Merging.{over, merged_over}
use Rattle.source_trees.specs.declared.laying.Merged.{Merged}
use Rattle.source_trees.specs.declared.laying.Merged.TheVariants.{Tree, Broken}
use Rattle.source_trees.specs.declared.shape.FileShape.{FileShape}
use Rattle.file_plan.specs.declared.source.PlanSource.{PlanSource}
use Rattle.file_plan.specs.declared.source.PlanSource.TheVariants.{File, Inline}
use Rattle.source_trees.specs.declared.source.SourceBreak.{SourceBreak}
use Rattle.source_trees.specs.declared.source.SourceFault.TheVariants.{Missing}
use Rattle.source_trees.specs.Merging.{IsKnown, IsLaid, IsLaidOver}
use Rattle.source_trees.specs.inner.Laying.{Lays}
use Rattle.source_trees.specs.Sources.{HomeAt, BreakAt, break_at, shape_break, SourceFound, SourcesFound}
use Rattle.permutations.specs.Permutation as perm
use Rattle.permutations.specs.Permutation.{TokenSource}
use Rattle.source_trees.specs.Trees.{IsShapeFor}
use Rattle.source_trees.specs.View.{break_view}
use Rattle.file_plan.specs.View.{plan_source_view, plan_sources_view}
use Rattle.source_trees.proofs.EachMerge.{missing_found, sources_found}

pub merged_append : (before : Group) (xs ys : List Group) → merged_over (merged_over before xs) ys ≡ merged_over before (xs ++ ys)
merged_append before [] ys = refl
merged_append before (x ∷ xs) ys = merged_append (over x before) xs ys

pub nil_append : {A : Type 0} (xs ys : List A) → xs ≡ [] → xs ++ ys ≡ ys
nil_append xs ys e = ap (λ zs. zs ++ ys) e

-- a first source that breaks nothing, and the others over its tree
pub laid_next : (files : FilesData) (home : HomeAt) (s : TokenSource) (ss : List TokenSource) (before tree : Group) (bs : List BreakAt) (ts : List Group) (m : Merged)
    → SourceFound files home s bs ts → bs ≡ [] → tree ≡ merged_over before ts → IsLaidOver files home ss tree m → IsLaidOver files home (s ∷ ss) before m
laid_next files home s ss before tree bs ts m found none is (cs, us, rest, laid) =
    (bs ++ cs, ts ++ us, (bs, cs, ts, us, found, rest, refl, refl), at m laid)
  where
    at : (k : Merged) → IsLaid cs us tree k → IsLaid (bs ++ cs) (ts ++ us) before k
    at (Tree g) l = (nil_append bs cs none ∙ l.0, l.1 ∙ (ap (λ (x : Group). merged_over x us) is ∙ merged_append before ts us))
    at (Broken b) l = (l.0, nil_append bs cs none ∙ l.1)

-- a first source that breaks something
pub laid_broken : (files : FilesData) (home : HomeAt) (s : TokenSource) (ss : List TokenSource) (before : Group) (bs cs : List BreakAt) (ts us : List Group) (b : SourceBreak) (more : List BreakAt)
    → SourceFound files home s bs ts → bs ≡ break_view b ∷ more → SourcesFound files home ss cs us → IsLaidOver files home (s ∷ ss) before (Broken b)
laid_broken files home s ss before bs cs ts us b more found is rest =
    (bs ++ cs, ts ++ us, (bs, cs, ts, us, found, rest, refl, refl), (more ++ cs, ap (λ xs. xs ++ cs) is))

-- a file that is not there
pub missing_laid : (files : FilesData) (home : HomeAt) (name : List ℕ) (start end : ℕ) (before : Group) (b : SourceBreak) → finite.get files name ≡ None
    → break_view b ≡ break_at Missing home.file start end → Lays files home (perm.file name start end) before (Broken b)
missing_laid files home name start end before b e is =
    (break_at Missing home.file start end ∷ [], [], missing_found files home name start end e, ([], ap (λ x. x ∷ []) (sym is)))

-- what is known of a file whose shape is not there
pub known_none : (files : FilesData) (shapes : finite.FinMap text_cmp FileShape) (name : List ℕ) (start end : ℕ) → None ≡ finite.get shapes name
    → IsKnown files shapes (perm.file name start end) → finite.get files name ≡ None
known_none files shapes name start end e k =
    subst (λ (o : Option FileShape). MatchOption o (finite.get files name ≡ None) (λ x. (text : List ℕ) × (finite.get files name ≡ Some text) × IsShapeFor name text x)) (sym e) k

-- the first of breaks that are mapped
pub first_mapped : (file : List ℕ) (bs : List ShapeBreak) (b : ShapeBreak) → slice_get bs 0 ≡ Some b → (rest : List BreakAt) × (map (shape_break file) bs ≡ shape_break file b ∷ rest)
first_mapped file [] b e = absurd (cc)
first_mapped file (c ∷ cs) b e = (map (shape_break file) cs, ap (λ x. shape_break file x ∷ map (shape_break file) cs) (some_is e))
  where
    some_is : {A : Type 0} {x y : A} → Some x ≡ Some y → x ≡ y
    some_is h = cc

pub lay_none : (files : FilesData) (home : HomeAt) (shapes : finite.FinMap text_cmp FileShape) (s : PlanSource) (name : List ℕ) (start end : ℕ) (before : Group) (b : SourceBreak) → s ≡ File name start end
    → None ≡ finite.get shapes name → break_view b ≡ break_at Missing home.file start end → IsKnown files shapes (plan_source_view s) → Lays files home (plan_source_view s) before (Broken b)
lay_none files home shapes s name start end before b is e at k =
    subst (λ (x : PlanSource). Lays files home (plan_source_view x) before (Broken b)) (sym is)
    (missing_laid files home name start end before b (known_none files shapes name start end e (subst (λ (x : PlanSource). IsKnown files shapes (plan_source_view x)) is k)) at)

pub lay_inline : (files : FilesData) (home : HomeAt) (s : PlanSource) (node : Node) (before : Group) (m : Merged) → s ≡ Inline node
    → IsLaid (map (shape_break home.file) (shape_breaks (node_view node))) (shape_of home.file home.text (node_view node) ∷ []) before m → Lays files home (plan_source_view s) before m
lay_inline files home s node before m is l =
    subst (λ (x : PlanSource). Lays files home (plan_source_view x) before m) (sym is)
    (map (shape_break home.file) (shape_breaks (node_view node)), shape_of home.file home.text (node_view node) ∷ [], (refl, refl), l)

-- the first source, laid, and the others
pub lay_tree : (files : FilesData) (home : HomeAt) (s : TokenSource) (ss : List TokenSource) (before tree : Group) (g : GroupCode) (m : Merged) → tree ≡ group_view g
    → Lays files home s before (Tree g) → IsLaidOver files home ss tree m → IsLaidOver files home (s ∷ ss) before m
lay_tree files home s ss before tree g m is (bs, ts, found, (none, over_is)) rest = laid_next files home s ss before tree bs ts m found none (is ∙ over_is) rest

pub lay_broken : (files : FilesData) (home : HomeAt) (s : TokenSource) (ss : List TokenSource) (before : Group)
    (b : SourceBreak) → Lays files home s before (Broken b) → IsLaidOver files home (s ∷ ss) before (Broken b)
lay_broken files home s ss before b (bs, ts, found, (more, is)) =
    let (cs, us, rest) = sources_found files home ss in
    laid_broken files home s ss before bs cs ts us b more found is rest

pub lay_end : (files : FilesData) (home : HomeAt) (g : GroupCode) → IsLaidOver files home [] (group_view g) (Tree g)
lay_end files home g = ([], [], (refl, refl), (refl, refl))

-- what is known where there is something, and where there is nothing
pub some_case : {A : Type 0} (o : Option A) (x : A) (P : A → Type 0) → o ≡ Some x → IfSome o P → P x
some_case None x P e h = absurd (cc)
some_case (Some y) x P e h = let same : y ≡ x = cc in subst P same h

pub none_case : {A : Type 0} (o : Option A) (P : Type 0) → o ≡ None → IfNone o P → P
none_case None P e h = h
none_case (Some x) P e h = absurd (cc)

-- the sources from one on, and after the last
pub next_sources : (sources : List PlanSource) (i : ℕ) (x : PlanSource) → i < length sources → x ≡ get_or sources i x → plan_sources_view (drop i sources) ≡ plan_source_view x ∷ plan_sources_view (drop (i + 1) sources)
next_sources sources i x h is = ap plan_sources_view (drop_more sources i x h) ∙ ap (λ y. plan_source_view y ∷ plan_sources_view (drop (i + 1) sources)) (sym is)

pub no_sources : (sources : List PlanSource) (i : ℕ) → length sources ≤ i → plan_sources_view (drop i sources) ≡ []
no_sources sources i h = ap plan_sources_view (drop_all i sources h)
