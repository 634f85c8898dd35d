-- The tree of the resolver document among trees that are read.
use Rattle.std.proofs.Common.{◌≡◌, ℕ, ◌+◌, ◌≤◌, arith, Bool, true, false, cond, List, Option, Some, None, inl, refl, sym, ap, subst, ◌∙◌}
use Rattle.std.proofs.lemmas.Map.Text.{is_eq-slice_cmp}
use Rattle.std.proofs.lemmas.Slice.Eq.{bytes_eq-Decides}
use Rattle.std.specs.BTreeMap.{is_at}
use Rattle.std.specs.Cmp.Lexicographic.{nat_list_cmp_total}
use Rattle.std.specs.FinMap as finite
use Rattle.tk_io.specs.FilesData.{FilesData}
use Rattle.tk_io.specs.Order.{text_cmp}
use Rattle.tk_io.proofs.MapViews.{at_insert}
use Rattle.permutations.specs.Permutation.{Permutation}
use Rattle.file_plan.specs.InUse.{resolver_path, resolver_in, beside, files_in_use}
use Rattle.file_plan.specs.Laws.{OnePlan, WantedAreInUse}
use Rattle.file_plan.specs.Plan.{Planned, planned, refused, Plans, text_count}
use Rattle.file_plan.specs.Trees.{IsTreeOf, IsRead, AreTreesIn}
use Rattle.file_plan.specs.declared.tree.Tree.{Tree}
use Rattle.transforms.specs.Config.{Settings}
use Rattle.build_plain.specs.Parts.{ArePlanParts, AreParts}
use Rattle.build_plain.specs.declared.parts.Parts.{Parts}

abbrev TreesData : Type 0
TreesData = finite.FinMap text_cmp Tree

read_same : (x y : Option (List ℕ)) (u v : Option Tree) → x ≡ y → u ≡ v → IsRead y v → IsRead x u
read_same x y u v e f r = subst (λ o. IsRead o u) (sym e) (subst (λ (o : Option Tree). IsRead y o) (sym f) r)

abbrev no_files : FilesData
no_files = finite.empty

abbrev no_trees : TreesData
no_trees = finite.empty

-- The document alone is read.

no_read : (text : Option (List ℕ)) (trees : TreesData) → None ≡ text → trees ≡ finite.empty → AreTreesIn (beside finite.empty resolver_path text) trees
no_read text trees none is = λ q.
    subst (λ (o : Option (List ℕ)). IsRead (finite.get (beside finite.empty resolver_path o) q) (finite.get trees q)) none
    (read_same (finite.get no_files q) None (finite.get trees q) None (finite.get-empty text_cmp q) (ap (λ (m : TreesData). finite.get m q) is ∙ finite.get-empty text_cmp q) tt)

one_read : (text : Option (List ℕ)) (document : List ℕ) (tree : Tree) (old trees : TreesData) → Some document ≡ text → IsTreeOf document tree → old ≡ finite.empty
    → ((q : List ℕ) → finite.get trees q ≡ cond (is_at (text_cmp resolver_path) q) (Some tree) (finite.get old q)) → AreTreesIn (beside finite.empty resolver_path text) trees
one_read text document tree old trees there is none adds = λ q.
    subst (λ (o : Option (List ℕ)). IsRead (finite.get (beside finite.empty resolver_path o) q) (finite.get trees q)) there
    (read_same (finite.get (finite.insert no_files resolver_path document) q) (cond (is_at (text_cmp resolver_path) q) (Some document) None)
    (finite.get trees q) (cond (is_at (text_cmp resolver_path) q) (Some tree) None)
    (at_insert nat_list_cmp_total no_files resolver_path document q ∙ ap (λ (o : Option (List ℕ)). cond (is_at (text_cmp resolver_path) q) (Some document) o) (finite.get-empty text_cmp q))
    (adds q ∙ ap (λ (o : Option Tree). cond (is_at (text_cmp resolver_path) q) (Some tree) o) (ap (λ (m : TreesData). finite.get m q) none ∙ finite.get-empty text_cmp q))
    (by (is_at (text_cmp resolver_path) q)))
  where
    by : (b : Bool) → IsRead (cond b (Some document) None) (cond b (Some tree) None)
    by true = is
    by false = tt

pub none_there : (files : FilesData) (trees : TreesData) → None ≡ finite.get files resolver_path → trees ≡ finite.empty → AreTreesIn (resolver_in files) trees
none_there files trees none is = no_read (finite.get files resolver_path) trees none is

pub one_there : (files : FilesData) (document : List ℕ) (tree : Tree) (old trees : TreesData) → Some document ≡ finite.get files resolver_path → IsTreeOf document tree → old ≡ finite.empty
    → ((q : List ℕ) → finite.get trees q ≡ cond (is_at (text_cmp resolver_path) q) (Some tree) (finite.get old q)) → AreTreesIn (resolver_in files) trees
one_there files document tree old trees there is none adds = one_read (finite.get files resolver_path) document tree old trees there is none adds

-- .. in so many steps

pub counted_some : (text : Option (List ℕ)) (document : List ℕ) (m n : ℕ) → Some document ≡ text → n ≡ m + 1 → n ≡ m + text_count text
counted_some text document m n there step = subst (λ (o : Option (List ℕ)). n ≡ m + text_count o) there step

pub counted_none : (text : Option (List ℕ)) (m : ℕ) → None ≡ text → m ≡ m + text_count text
counted_none text m none = subst (λ (o : Option (List ℕ)). m ≡ m + text_count o) none (nothing m)
  where
    nothing : (k : ℕ) → k ≡ k + 0
    nothing k = omega arith

pub at_most_some : (text : Option (List ℕ)) (document : List ℕ) (m n : ℕ) → Some document ≡ text → n ≡ m + 1 → n ≤ m + text_count text
at_most_some text document m n there step = omega (arith, counted_some text document m n there step)

pub at_most_none : (text : Option (List ℕ)) (m : ℕ) → m ≤ m + text_count text
at_most_none text m = omega arith

-- It is read where more is read, too.

same_options : (x y : Option (List ℕ)) → ((t : List ℕ) → x ≡ Some t → y ≡ Some t) → ((t : List ℕ) → y ≡ Some t → x ≡ Some t) → x ≡ y
same_options None None f g = refl
same_options None (Some t) f g = g t refl
same_options (Some t) y f g = sym (f t refl)

resolver_at : (text : Option (List ℕ)) → finite.get (beside finite.empty resolver_path text) resolver_path ≡ text
resolver_at None = finite.get-empty text_cmp resolver_path
resolver_at (Some text) =
    at_insert nat_list_cmp_total no_files resolver_path text resolver_path
    ∙ ap (λ b. cond b (Some text) (finite.get no_files resolver_path)) (is_eq-slice_cmp resolver_path resolver_path ∙ (bytes_eq-Decides resolver_path resolver_path).1 refl)

pub document_read : (files : FilesData) (trees : TreesData) → AreTreesIn (resolver_in files) trees → IsRead (finite.get files resolver_path) (finite.get trees resolver_path)
document_read files trees are = subst (λ o. IsRead o (finite.get trees resolver_path)) (resolver_at (finite.get files resolver_path)) (are resolver_path)

resolver_in_use : (law : WantedAreInUse) (files : FilesData) (perms : List Permutation) → finite.get (files_in_use files perms) resolver_path ≡ finite.get files resolver_path
resolver_in_use law files perms =
    same_options _ _ (λ t e. (law files perms resolver_path t).there e) (λ t e. (law files perms resolver_path t).all e (inl refl))

-- Of parts.

module _ (files : FilesData) (settings : Settings) (parts : Parts) where
  pub parts_read : (law : WantedAreInUse) (p : Planned) → ArePlanParts settings files p parts → IsRead (finite.get files resolver_path) (finite.get parts.trees resolver_path)
  parts_read law (planned perms) are = subst (λ o. IsRead o (finite.get parts.trees resolver_path)) (resolver_in_use law files perms) (are.trees resolver_path)
  parts_read law (refused broken) are = document_read files parts.trees are.trees

  pub parts_of_plan : (one : OnePlan) (p : Planned) (perms : List Permutation) → Plans (finite.get files resolver_path) p → Plans (finite.get files resolver_path) (planned perms)
      → ArePlanParts settings files p parts → AreParts settings files perms parts
  parts_of_plan one p perms plans plans_too are = subst (λ x. ArePlanParts settings files x parts) (one (finite.get files resolver_path) p (planned perms) plans plans_too) are
