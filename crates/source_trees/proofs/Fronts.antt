-- What sources begin with, and the others over its tree.
use Rattle.std.proofs.Common.{◌≡◌, ℕ, ◌+◌, ◌<◌, length, get_or, take, drop, List, [], ◌∷◌, ◌++◌, refl, sym, ap, ◌∙◌, subst}
use Rattle.std.proofs.lemmas.List.{append_assoc, map-append, take_more, take-append-drop}
use Rattle.std.specs.FinMap as finite
use Rattle.std.specs.List.{AllByRecursion}
use Rattle.tk_io.specs.FilesData.{FilesData}
use Rattle.tk_io.specs.Order.{text_cmp}
use Rattle.token_tree.specs.View.{group_view}
use Rattle.token_tree.specs.Tree.{Group}
use Rattle.token_tree.specs.declared.tree.Group.{Group as GroupCode}
use Rattle.file_plan.specs.View.{plan_source_view, plan_sources_view}
use Rattle.file_plan.specs.declared.source.PlanSource.{PlanSource}
use Rattle.group_inherit.specs.Merging.{empty_group, merged_over}
use Rattle.permutations.specs.Permutation.{TokenSource}
use Rattle.source_trees.specs.Merging.{AllInlineStand, AreKnown, InlineStands, IsKnown, IsLaid, IsLaidOver, IsMergedBy, IsMergedOf}
use Rattle.source_trees.specs.Sources.{BreakAt, HomeAt, SourcesFound}
use Rattle.source_trees.specs.inner.Laying.{LaysBy}
use Rattle.source_trees.specs.declared.laying.Merged.{Merged}
use Rattle.source_trees.specs.declared.laying.Merged.TheVariants.{Tree, Broken}
use Rattle.source_trees.specs.declared.shape.FileShape.{FileShape}
use Rattle.source_trees.specs.declared.source.SourceBreak.{SourceBreak}
use Rattle.source_trees.proofs.Laid.{lay_broken, lay_end, lay_tree, merged_append, nil_append, next_sources}

-- Lists of sources, and what is known of each.

all_left : {X : Type 0} (P : X → Type 0) (xs ys : List X) → AllByRecursion P (xs ++ ys) → AllByRecursion P xs
all_left P [] ys all = tt
all_left P (x ∷ xs) ys all = (all.0, all_left P xs ys all.1)

all_right : {X : Type 0} (P : X → Type 0) (xs ys : List X) → AllByRecursion P (xs ++ ys) → AllByRecursion P ys
all_right P [] ys all = all
all_right P (x ∷ xs) ys all = all_right P xs ys all.1

-- the sources before one, that one, and those behind it
parted : (sources : List PlanSource) (i : ℕ) (x : PlanSource) → i < length sources → x ≡ get_or sources i x
    → plan_sources_view sources ≡ plan_sources_view (take i sources) ++ (plan_source_view x ∷ plan_sources_view (drop (i + 1) sources))
parted sources i x within is =
    ap plan_sources_view (sym (take-append-drop i sources))
    ∙ (map-append plan_source_view (take i sources) (drop i sources)
    ∙ ap (λ ss. plan_sources_view (take i sources) ++ ss) (next_sources sources i x within is))

-- one more
longer : (sources : List PlanSource) (i : ℕ) (x : PlanSource) → i < length sources → x ≡ get_or sources i x
    → plan_sources_view (take (i + 1) sources) ≡ plan_sources_view (take i sources) ++ (plan_source_view x ∷ [])
longer sources i x within is =
    ap plan_sources_view (take_more sources i x within ∙ ap (λ y. take i sources ++ y ∷ []) (sym is))
    ∙ map-append plan_source_view (take i sources) (x ∷ [])

pub stands_at : (text : List ℕ) (sources : List PlanSource) (i : ℕ) (x : PlanSource) → i < length sources → x ≡ get_or sources i x
    → AllInlineStand text (plan_sources_view sources) → InlineStands text (plan_source_view x)
stands_at text sources i x within is all =
    (all_right (InlineStands text) (plan_sources_view (take i sources)) (plan_source_view x ∷ plan_sources_view (drop (i + 1) sources))
    (subst (AllInlineStand text) (parted sources i x within is) all)).0

-- Sources over the tree of those before them are laid as all are.

found_behind : (files : FilesData) (home : HomeAt) (front rest : List TokenSource) (bs cs : List BreakAt) (ts us : List Group) → SourcesFound files home front bs ts
    → SourcesFound files home rest cs us → SourcesFound files home (front ++ rest) (bs ++ cs) (ts ++ us)
found_behind files home [] rest bs cs ts us (none, no_trees) found =
    subst (λ (ds : List BreakAt). SourcesFound files home rest ds (ts ++ us)) (sym (nil_append bs cs none))
    (subst (λ (ws : List Group). SourcesFound files home rest cs ws) (sym (nil_append ts us no_trees)) found)
found_behind files home (s ∷ ss) rest bs cs ts us (b, ds, t, ws, first, others, breaks, trees) found = (
  b,
  ds ++ cs,
  t,
  ws ++ us,
  first,
  found_behind files home ss rest ds cs ws us others found,
  ap (λ xs. xs ++ cs) breaks ∙ append_assoc b ds cs,
  ap (λ xs. xs ++ us) trees ∙ append_assoc t ws us,
)

laid_behind : (files : FilesData) (home : HomeAt) (front rest : List TokenSource) (g : GroupCode) (m : Merged) → IsMergedOf files home front (Tree g)
    → IsLaidOver files home rest (group_view g) m → IsMergedOf files home (front ++ rest) m
laid_behind files home front rest g m (bs, ts, found, (none, is)) (cs, us, others, laid) =
    (bs ++ cs, ts ++ us, found_behind files home front rest bs cs ts us found others, at m laid)
  where
    at : (k : Merged) → IsLaid cs us (group_view g) k → IsLaid (bs ++ cs) (ts ++ us) empty_group k
    at (Tree h) l = (nil_append bs cs none ∙ l.0, l.1 ∙ (ap (λ (x : Group). merged_over x us) is ∙ merged_append empty_group ts us))
    at (Broken b) l = (l.0, nil_append bs cs none ∙ l.1)

module _ (shapes : finite.FinMap text_cmp FileShape) (home : HomeAt) (sources : List PlanSource) (i : ℕ) (x : PlanSource) (tree : GroupCode)
    (within : i < length sources) (is : x ≡ get_or sources i x) (before : IsMergedBy shapes home (plan_sources_view (take i sources)) (Tree tree)) where
  -- One more source is laid ..
  pub laid_one : (next : GroupCode) → LaysBy shapes home (plan_source_view x) (group_view tree) (Tree next)
      → IsMergedBy shapes home (plan_sources_view (take (i + 1) sources)) (Tree next)
  laid_one next lays files known =
      let front = plan_sources_view (take i sources) in
      let s = plan_source_view x in
      let k = subst (AreKnown files shapes) (longer sources i x within is) known in
      subst (λ (ss : List TokenSource). IsMergedOf files home ss (Tree next)) (sym (longer sources i x within is))
      (laid_behind files home front (s ∷ []) tree (Tree next) (before files (all_left (IsKnown files shapes) front (s ∷ []) k))
      (lay_tree files home s [] (group_view tree) (group_view next) next (Tree next) refl (lays files (all_right (IsKnown files shapes) front (s ∷ []) k).0)
      (lay_end files home next)))

  -- .. or it breaks a rule, and so do all.
  pub broken_one : (found : SourceBreak) → LaysBy shapes home (plan_source_view x) (group_view tree) (Broken found)
      → IsMergedBy shapes home (plan_sources_view sources) (Broken found)
  broken_one found lays files known =
      let front = plan_sources_view (take i sources) in
      let s = plan_source_view x in
      let rest = plan_sources_view (drop (i + 1) sources) in
      let k = subst (AreKnown files shapes) (parted sources i x within is) known in
      subst (λ (ss : List TokenSource). IsMergedOf files home ss (Broken found)) (sym (parted sources i x within is))
      (laid_behind files home front (s ∷ rest) tree (Broken found) (before files (all_left (IsKnown files shapes) front (s ∷ rest) k))
      (lay_broken files home s rest (group_view tree) found (lays files (all_right (IsKnown files shapes) front (s ∷ rest) k).0)))

-- no source
pub none_front : (shapes : finite.FinMap text_cmp FileShape) (home : HomeAt) (sources : List PlanSource) (tree : GroupCode) → sources ≡ [] → group_view tree ≡ empty_group
    → IsMergedBy shapes home (plan_sources_view sources) (Tree tree)
none_front shapes home sources tree none is files known =
    subst (λ (ss : List PlanSource). IsMergedOf files home (plan_sources_view ss) (Tree tree)) (sym none) ([], [], (refl, refl), (refl, is))

-- another tree that is seen as the same
pub same_tree : (shapes : finite.FinMap text_cmp FileShape) (home : HomeAt) (sources others : List TokenSource) (tree copy : GroupCode) → group_view copy ≡ group_view tree
    → sources ≡ others → IsMergedBy shapes home sources (Tree tree) → IsMergedBy shapes home others (Tree copy)
same_tree shapes home sources others tree copy is same merged files known =
    let (bs, ts, found, (none, laid)) = merged files (subst (AreKnown files shapes) (sym same) known) in
    subst (λ (ss : List TokenSource). IsMergedOf files home ss (Tree copy)) same (bs, ts, found, (none, is ∙ laid))
