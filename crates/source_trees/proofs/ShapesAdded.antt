-- Shapes that are put under the paths of files, one after another.
use Rattle.std.proofs.Common.{◌≡◌, ℕ, zero, suc, ◌+◌, ◌<◌, length, take, get_or, Bool, true, false, ◌&&◌, cond, T, Ordering, Less, Equal, Greater, List, [], ◌∷◌, ◌++◌, ◌⊎◌, inl, inr, Option, Some, None, option_map, refl, sym, ap, ◌∙◌, subst, arith}
use Rattle.std.proofs.lemmas.List.{map_more}
use Rattle.std.proofs.lemmas.Map.Text.{is_eq-slice_cmp}
use Rattle.std.proofs.lemmas.Slice.Eq.{bytes_eq-Decides}
use Rattle.std.specs.BTreeMap.{is_at}
use Rattle.std.specs.FinMap as finite
use Rattle.std.specs.FinMap.Entries.{find, is_sorted, below_all}
use Rattle.std.specs.Ordering.{eq_by_cmp, is_eq, is_lt}
use Rattle.ring.specs.Lists.{In}
use Rattle.ring.proofs.Ends.{in_cases, in_left, in_last}
use Rattle.tk_io.specs.FilesData.{FilesData}
use Rattle.tk_io.specs.Order.{text_cmp}
use Rattle.tk_io.specs.View.{entries_view}
use Rattle.file_plan.specs.InUse.{AreAmong}
use Rattle.file_plan.specs.Trees.{IsTreeOf, IsRead, AreTreesIn}
use Rattle.file_plan.specs.declared.tree.Tree.{Tree}
use Rattle.file_plan.proofs.FilesInUse.{some_none, some_is, is_key, key_is}
use Rattle.source_trees.specs.Trees.{IsShapeFor, IsShaped, AreShapesIn, AreTreesOfSome}
use Rattle.source_trees.specs.declared.shape.FileShape.{FileShape}
use Rattle.source_trees.specs.inner.Shapes.{AreShapesOf, AddsShape, AddsShapeOf}

abbrev Shapes : Type 0
Shapes = finite.FinMap text_cmp FileShape

abbrev Trees : Type 0
Trees = finite.FinMap text_cmp Tree

abbrev Entry : Type 0
Entry = List ℕ × Tree

abbrev pub entry : List ℕ → Tree → Entry
entry path tree = (path, tree)

same_path : (path q : List ℕ) → is_at (text_cmp path) q ≡ true → path ≡ q
same_path path q e = (bytes_eq-Decides path q).0 (sym (is_eq-slice_cmp path q) ∙ e)

at_itself : (q : List ℕ) → is_at (text_cmp q) q ≡ true
at_itself q = is_eq-slice_cmp q q ∙ (bytes_eq-Decides q q).1 refl

not_both : false ≡ true → ⊥
not_both e = cc

first : (a b : Bool) → T (a && b) → T a
first true b p = tt
first false b p = p

second : (a b : Bool) → T (a && b) → T b
second true b p = p
second false b p = absurd p

less_apart : (o : Ordering) → T (is_lt o) → is_eq o ≡ false
less_apart Less p = refl
less_apart Equal p = absurd p
less_apart Greater p = absurd p

-- Entries of a map.

-- what is found in a list is one of its entries
found_in : (es : List Entry) (q : List ℕ) (tree : Tree) → find text_cmp q es ≡ Some tree → In (entry q tree) es
found_in [] q tree e = absurd (some_none (sym e))
found_in (x ∷ es) q tree e = at (λ f. found_in es q tree f) (eq_by_cmp text_cmp q x.0) refl e
  where
    at : (find text_cmp q es ≡ Some tree → In (entry q tree) es) → (b : Bool) → eq_by_cmp text_cmp q x.0 ≡ b → cond b (Some x.1) (find text_cmp q es) ≡ Some tree
        → In (entry q tree) (x ∷ es)
    at rest true is f = inl (λ i. (is_key q x.0 is i, sym (some_is f) i))
    at rest false is f = inr (rest f)

-- a name below all of a list is not found there
none_below : (q : List ℕ) (es : List Entry) → T (below_all text_cmp q es) → find text_cmp q es ≡ None
none_below q [] h = refl
none_below q (x ∷ es) h =
    ap (λ b. cond b (Some x.1) (find text_cmp q es)) (less_apart (text_cmp q x.0) (first (is_lt (text_cmp q x.0)) (below_all text_cmp q es) h))
    ∙ none_below q es (second (is_lt (text_cmp q x.0)) (below_all text_cmp q es) h)

-- an entry of a list in order is found there
in_found : (es : List Entry) (q : List ℕ) (tree : Tree) → T (is_sorted text_cmp es) → In (entry q tree) es → find text_cmp q es ≡ Some tree
in_found [] q tree s i = absurd i
in_found (x ∷ es) q tree s (inl is) =
    ap (λ (y : Entry). find text_cmp q (y ∷ es)) (sym is) ∙ ap (λ b. cond b (Some tree) (find text_cmp q es)) (key_is q)
in_found (x ∷ es) q tree s (inr i) = at (in_found es q tree (second (below_all text_cmp x.0 es) (is_sorted text_cmp es) s) i) (eq_by_cmp text_cmp q x.0) refl
  where
    lacks : find text_cmp x.0 es ≡ None
    lacks = none_below x.0 es (first (below_all text_cmp x.0 es) (is_sorted text_cmp es) s)

    at : find text_cmp q es ≡ Some tree → (b : Bool) → eq_by_cmp text_cmp q x.0 ≡ b → cond b (Some x.1) (find text_cmp q es) ≡ Some tree
    at rest true is = absurd (some_none (sym rest ∙ (ap (λ k. find text_cmp k es) (is_key q x.0 is) ∙ lacks)))
    at rest false is = rest

pub entry_found : (trees : Trees) (q : List ℕ) (tree : Tree) → In (entry q tree) (finite.entries trees) → finite.get trees q ≡ Some tree
entry_found trees q tree i = finite.get-entries trees q ∙ in_found (finite.entries trees) q tree (finite.entries_sorted trees) i

entry_there : (trees : Trees) (q : List ℕ) (tree : Tree) → finite.get trees q ≡ Some tree → In (entry q tree) (finite.entries trees)
entry_there trees q tree e = found_in (finite.entries trees) q tree (sym (finite.get-entries trees q) ∙ e)

-- Shapes, one after another.

pub shapes_none : (files : FilesData) (shapes : Shapes) → shapes ≡ finite.empty → AreShapesOf files [] shapes
shapes_none files shapes e = record {
  found = λ q v f. absurd (some_none (sym f ∙ (ap (λ m. finite.get m q) e ∙ finite.get-empty text_cmp q)));
  missing = λ q text tree f i there. i;
}

module _ (files : FilesData) (trees : List Entry) (path : List ℕ) (tree : Tree) where
  more : List Entry
  more = trees ++ entry path tree ∷ []

  -- a file that is not there has no shape
  shapes_absent : (old new : Shapes) → AreShapesOf files trees old → finite.get files path ≡ None → new ≡ old → AreShapesOf files (trees ++ entry path tree ∷ []) new
  shapes_absent old new are none same = record {
    found = λ q v f.
        let (text, t, i, there, holds) = are.found q v (ap (λ m. finite.get m q) (sym same) ∙ f) in
        (text, t, in_left trees (entry path tree ∷ []) (entry q t) i, there, holds);
    missing = λ q text t f i there. at q text t (ap (λ m. finite.get m q) (sym same) ∙ f) there (in_cases trees (entry path tree ∷ []) (entry q t) i);
  }
    where
      at : (q text : List ℕ) (t : Tree) → finite.get old q ≡ None → finite.get files q ≡ Some text → In (entry q t) trees ⊎ In (entry q t) (entry path tree ∷ []) → ⊥
      at q text t f there (inl i) = are.missing q text t f i there
      at q text t f there (inr (inl is)) = some_none (sym there ∙ (ap (λ (x : Entry). finite.get files x.0) is ∙ none))
      at q text t f there (inr (inr none)) = none

  shapes_put : (text : List ℕ) (old new : Shapes) → AreShapesOf files trees old → finite.get files path ≡ Some text → AddsShape path text old new → AreShapesOf files (trees ++ entry path tree ∷ []) new
  shapes_put text old new are there adds = record {
    found = λ q v f. found_at q v (is_at (text_cmp path) q) refl (sym (adds.at q) ∙ f);
    missing = λ q t u f i here. missing_at q t u (is_at (text_cmp path) q) refl (sym (adds.at q) ∙ f) here (in_cases trees (entry path tree ∷ []) (entry q u) i);
  }
    where
      found_at : (q : List ℕ) (v : FileShape) (b : Bool) → is_at (text_cmp path) q ≡ b → cond b (Some adds.shape) (finite.get old q) ≡ Some v
          → (t : List ℕ) × (u : Tree) × In (entry q u) (trees ++ entry path tree ∷ []) × (finite.get files q ≡ Some t) × IsShapeFor q t v
      found_at q v true is e =
          let same = same_path path q is in (
            text,
            tree,
            subst (λ (p : List ℕ). In (entry p tree) (trees ++ entry path tree ∷ [])) same (in_last trees (entry path tree)),
            ap (λ p. finite.get files p) (sym same) ∙ there,
            subst (λ (p : List ℕ). IsShapeFor p text v) same (subst (IsShapeFor path text) (some_is e) adds.is),
          )
      found_at q v false is e = let (t, u, i, here, holds) = are.found q v e in (t, u, in_left trees (entry path tree ∷ []) (entry q u) i, here, holds)

      missing_at : (q t : List ℕ) (u : Tree) (b : Bool) → is_at (text_cmp path) q ≡ b → cond b (Some adds.shape) (finite.get old q) ≡ None → finite.get files q ≡ Some t
          → In (entry q u) trees ⊎ In (entry q u) (entry path tree ∷ []) → ⊥
      missing_at q t u true is e here i = some_none e
      missing_at q t u false is e here (inl i) = are.missing q t u e i here
      missing_at q t u false is e here (inr (inl same)) = not_both (sym is ∙ (ap (λ (x : Entry). is_at (text_cmp path) x.0) same ∙ at_itself path))
      missing_at q t u false is e here (inr (inr none)) = none

  pub shapes_more : (old new : Shapes) → AreShapesOf files trees old → AddsShapeOf path (finite.get files path) old new → AreShapesOf files (trees ++ entry path tree ∷ []) new
  shapes_more old new are adds = at (finite.get files path) refl adds
    where
      at : (o : Option (List ℕ)) → finite.get files path ≡ o → AddsShapeOf path o old new → AreShapesOf files (trees ++ entry path tree ∷ []) new
      at None e a = shapes_absent old new are e a
      at (Some text) e a = shapes_put text old new are e a

-- The tree of a file is that of its text.

tree_at : (files some : FilesData) (trees : Trees) → AreAmong some files → AreTreesIn some trees → (q : List ℕ) (tree : Tree) → finite.get trees q ≡ Some tree
    → (text : List ℕ) × (finite.get some q ≡ Some text) × IsTreeOf text tree
tree_at files some trees among are q tree e = at (finite.get some q) refl (subst (λ (o : Option Tree). IsRead (finite.get some q) o) e (are q))
  where
    at : (o : Option (List ℕ)) → finite.get some q ≡ o → IsRead o (Some tree) → (text : List ℕ) × (finite.get some q ≡ Some text) × IsTreeOf text tree
    at None f none = absurd none
    at (Some text) f is = (text, f, is)

pub tree_of_file : (files : FilesData) (trees : Trees) → AreTreesOfSome files trees → (q : List ℕ) (tree : Tree) → finite.get trees q ≡ Some tree
    → (text : List ℕ) → finite.get files q ≡ Some text → IsTreeOf text tree
tree_of_file files trees (some, among, are) q tree e text there =
    let (t, s, is) = tree_at files some trees among are q tree e in
    subst (λ (x : List ℕ). IsTreeOf x tree) (some_is (sym (among q t s) ∙ there)) is

-- All shapes.

pub shapes_all : (files : FilesData) (trees : Trees) (shapes : Shapes) → AreShapesOf files (finite.entries trees) shapes
    → (some : FilesData) → AreAmong some files → AreTreesIn some trees → AreShapesIn some shapes
shapes_all files trees shapes of some among are q = at (finite.get some q) (finite.get shapes q) refl refl
  where
    at : (o : Option (List ℕ)) (s : Option FileShape) → finite.get some q ≡ o → finite.get shapes q ≡ s → IsShaped q o s
    at None None f e = tt
    at None (Some shape) f e =
        let (text, tree, i, there, holds) = of.found q shape e in
        let (t, s, is) = tree_at files some trees among are q tree (entry_found trees q tree i) in
        some_none (sym s ∙ f)
    at (Some text) None f e = no (finite.get trees q) refl (subst (λ (o : Option (List ℕ)). IsRead o (finite.get trees q)) f (are q))
      where
        no : (o : Option Tree) → finite.get trees q ≡ o → IsRead (Some text) o → ⊥
        no None g none = none
        no (Some tree) g is = of.missing q text tree e (entry_there trees q tree g) (among q text f)
    at (Some text) (Some shape) f e =
        let (t, tree, i, there, holds) = of.found q shape e in
        subst (λ (x : List ℕ). IsShapeFor q x shape) (some_is (sym there ∙ among q text f)) holds

-- What is found of a file.

abbrev file_at : List ℕ → List ℕ → List ℕ × List ℕ
file_at path text = (path, text)

pub entry_is : (o : Option (List ℕ)) (path kept text : List ℕ) → Some (file_at kept text) ≡ option_map {U = List ℕ × List ℕ} (λ t. (path, t)) o → (o ≡ Some text) × (kept ≡ path)
entry_is None path kept text e = absurd (some_none e)
entry_is (Some t) path kept text e = (ap (λ (x : List ℕ × List ℕ). Some x.1) (sym (some_is e)), ap (λ (x : List ℕ × List ℕ). x.0) (some_is e))

pub no_entry : (o : Option (List ℕ)) (path : List ℕ) → None ≡ option_map {U = List ℕ × List ℕ} (λ t. (path, t)) o → o ≡ None
no_entry None path e = refl
no_entry (Some t) path e = absurd (some_none (sym e))

-- Entries of a map, under owned names.

module _ {K : Type 0} (name : K → List ℕ) where
  in_shown : (es : List (K × Tree)) (i : ℕ) (d : K × Tree) → i < length es → In (entry (name (get_or es i d).0) (get_or es i d).1) (entries_view name (λ v. v) es)
  in_shown [] i d h = absurd (omega (arith, h))
  in_shown (e ∷ es) zero d h = inl refl
  in_shown (e ∷ es) (suc i) d h = inr (in_shown es i d (omega (arith, h)))

  -- an entry's tree is that of its file
  pub tree_of_entry : (files : FilesData) (trees : Trees) → AreTreesOfSome files trees → (es : List (K × Tree)) → entries_view name (λ v. v) es ≡ finite.entries trees
      → (i : ℕ) (d : K × Tree) → i < length es → (path : List ℕ) → path ≡ name (get_or es i d).0 → (text : List ℕ) → finite.get files path ≡ Some text → IsTreeOf text (get_or es i d).1
  tree_of_entry files trees of es shown i d h path is text there =
      tree_of_file files trees of (name (get_or es i d).0) (get_or es i d).1
      (entry_found trees (name (get_or es i d).0) (get_or es i d).1 (subst (λ (l : List Entry). In (entry (name (get_or es i d).0) (get_or es i d).1) l) shown (in_shown es i d h)))
      text (ap (λ p. finite.get files p) (sym is) ∙ there)

  -- with the next entry's shape, those up to it
  pub next_shape : (files : FilesData) (es : List (K × Tree)) (i : ℕ) (d : K × Tree) → i < length es → (path : List ℕ) → path ≡ name (get_or es i d).0 → (old new : Shapes)
      → AreShapesOf files (entries_view name (λ v. v) (take i es)) old → AddsShapeOf path (finite.get files path) old new → AreShapesOf files (entries_view name (λ v. v) (take (i + 1) es)) new
  next_shape files es i d h path is old new are adds =
      subst (λ (l : List Entry). AreShapesOf files l new) (sym (map_more (λ (e : K × Tree). entry (name e.0) e.1) es i d h))
      (shapes_more files (entries_view name (λ v. v) (take i es)) (name (get_or es i d).0) (get_or es i d).1 old new are
      (subst (λ (p : List ℕ). AddsShapeOf p (finite.get files p) old new) is adds))
