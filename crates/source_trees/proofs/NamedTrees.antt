-- Trees of the files of names, one name after another.
use Rattle.std.proofs.Common.{◌≡◌, ℕ, ◌+◌, ◌<◌, ◌≤◌, Bool, true, false, cond, List, [], ◌∷◌, ◌++◌, Option, Some, None, is_some, refl, sym, ap, ◌∙◌, subst, drop, length, get_or, arith, append_assoc, Result, Ok, Err, OnErr}
use Rattle.std.specs.BTreeMap.{is_at}
use Rattle.std.specs.Cmp.Lexicographic.{nat_list_cmp_total}
use Rattle.std.specs.FinMap as finite
use Rattle.std.proofs.lemmas.List.{drop_more, drop_all}
use Rattle.tk_io.specs.FilesData.{FilesData}
use Rattle.tk_io.specs.Order.{text_cmp}
use Rattle.tk_io.proofs.MapViews.{at_insert}
use Rattle.file_plan.specs.InUse.{AreAmong, with_named, in_use_by}
use Rattle.file_plan.specs.Trees.{IsTreeOf, IsRead, AreTreesIn}
use Rattle.file_plan.specs.View.{plan_perm_view, plan_view}
use Rattle.file_plan.specs.declared.source.PlanPerm.{PlanPerm}
use Rattle.file_plan.specs.declared.tree.Tree.{Tree}
use Rattle.file_plan.proofs.FilesInUse.{named_absent, named_seen, named_new, among_all, no_fewer, in_use_append}
use Rattle.source_trees.specs.Reading.{AddsFront, AddsTrees, CountsAdded, CountsAtMost}

abbrev Trees : Type 0
Trees = finite.FinMap text_cmp Tree

pub on_err : {T E P : Type 0} (r : Result T E) → P → OnErr r P
on_err (Ok x) p = tt
on_err (Err x) p = p

module _ (files : FilesData) where
  -- No name.

  pub adds_none : (old : Trees) → AddsTrees files [] old old
  adds_none old seen among are = are

  pub counts_none : (old : Trees) (n : ℕ) → CountsAdded files [] old n n
  counts_none old n seen among are = refl

  pub at_most : (names : List (List ℕ)) (old : Trees) (p q : ℕ) → CountsAdded files names old p q → CountsAtMost files names old p q
  at_most names old p q counts seen among are = omega (arith, counts seen among are)

  -- Names, and more names.

  pub adds_more : (xs ys : List (List ℕ)) (a b c : Trees) → AddsTrees files xs a b → AddsTrees files ys b c → AddsTrees files (xs ++ ys) a c
  adds_more xs ys a b c front back seen among are =
      subst (λ (m : FilesData). AreTreesIn m c) (sym (in_use_append files xs ys seen))
      (back (in_use_by files seen xs) (among_all files xs seen among) (front seen among are))

  pub counts_more : (xs ys : List (List ℕ)) (a b : Trees) (p q r : ℕ) → AddsTrees files xs a b → CountsAdded files xs a p q → CountsAdded files ys b q r → CountsAdded files (xs ++ ys) a p r
  counts_more xs ys a b p q r adds front back seen among are =
      omega (arith, front seen among are, back (in_use_by files seen xs) (among_all files xs seen among) (adds seen among are), ap finite.len (in_use_append files xs ys seen))

  pub most_more : (xs ys : List (List ℕ)) (a b : Trees) (p q r : ℕ) → AddsTrees files xs a b → CountsAdded files xs a p q → CountsAtMost files ys b q r → CountsAtMost files (xs ++ ys) a p r
  most_more xs ys a b p q r adds front back seen among are =
      omega (arith, front seen among are, back (in_use_by files seen xs) (among_all files xs seen among) (adds seen among are), ap finite.len (in_use_append files xs ys seen))

  pub most_first : (xs ys : List (List ℕ)) (a : Trees) (p q : ℕ) → CountsAtMost files xs a p q → CountsAtMost files (xs ++ ys) a p q
  most_first xs ys a p q front seen among are =
      omega (arith, front seen among are, no_fewer files ys (in_use_by files seen xs), ap finite.len (in_use_append files xs ys seen))

  -- The first of names.

  pub front_none : (names : List (List ℕ)) (old : Trees) → AddsFront files names old old
  front_none names old = record { front = []; rest = names; split = refl; adds = adds_none old }

  pub front_more : (xs ys : List (List ℕ)) (a b c : Trees) → AddsTrees files xs a b → AddsFront files ys b c → AddsFront files (xs ++ ys) a c
  front_more xs ys a b c adds behind = record {
    front = xs ++ behind.front;
    rest = behind.rest;
    split = ap (λ l. xs ++ l) behind.split ∙ sym (append_assoc xs behind.front behind.rest);
    adds = adds_more xs behind.front a b c adds behind.adds;
  }

  pub front_first : (xs ys : List (List ℕ)) (a b : Trees) → AddsFront files xs a b → AddsFront files (xs ++ ys) a b
  front_first xs ys a b first = record {
    front = first.front;
    rest = first.rest ++ ys;
    split = ap (λ l. l ++ ys) first.split ∙ append_assoc first.front first.rest ys;
    adds = first.adds;
  }

  -- .. where nothing changed, whatever the answer is
  pub front_same : {T E : Type 0} (r : Result T E) (names : List (List ℕ)) (old new : Trees) → OnErr r (new ≡ old) → OnErr r (AddsFront files names old new)
  front_same (Ok x) names old new e = tt
  front_same (Err x) names old new e = subst (λ (m : Trees). AddsFront files names old m) (sym e) (front_none names old)

  -- One name.

  -- a file that has a tree was seen
  has_tree : (seen : FilesData) (old : Trees) (name : List ℕ) (tree : Tree) → AreTreesIn seen old → finite.get old name ≡ Some tree → (text : List ℕ) × (finite.get seen name ≡ Some text)
  has_tree seen old name tree are e = at (finite.get seen name) refl (subst (λ (o : Option Tree). IsRead (finite.get seen name) o) e (are name))
    where
      at : (o : Option (List ℕ)) → finite.get seen name ≡ o → IsRead o (Some tree) → (text : List ℕ) × (finite.get seen name ≡ Some text)
      at None f none = absurd none
      at (Some text) f is = (text, f)

  seen_same : (seen : FilesData) (old : Trees) (name : List ℕ) (tree : Tree) → AreAmong seen files → AreTreesIn seen old → finite.get old name ≡ Some tree → with_named files seen name ≡ seen
  seen_same seen old name tree among are e = let (text, s) = has_tree seen old name tree are e in named_seen files seen name text (among name text s) s

  pub adds_seen : (old : Trees) (name : List ℕ) (tree : Tree) → finite.get old name ≡ Some tree → AddsTrees files (name ∷ []) old old
  adds_seen old name tree e seen among are = subst (λ (m : FilesData). AreTreesIn m old) (sym (seen_same seen old name tree among are e)) are

  pub counts_seen : (old : Trees) (name : List ℕ) (tree : Tree) (n : ℕ) → finite.get old name ≡ Some tree → CountsAdded files (name ∷ []) old n n
  counts_seen old name tree n e seen among are = ap (λ m. n + finite.len m) (sym (seen_same seen old name tree among are e))

  pub adds_absent : (old : Trees) (name : List ℕ) → finite.get files name ≡ None → AddsTrees files (name ∷ []) old old
  adds_absent old name e seen among are = subst (λ (m : FilesData). AreTreesIn m old) (sym (named_absent files seen name e)) are

  pub counts_absent : (old : Trees) (name : List ℕ) (n : ℕ) → finite.get files name ≡ None → CountsAdded files (name ∷ []) old n n
  counts_absent old name n e seen among are = ap (λ m. n + finite.len m) (sym (named_absent files seen name e))

  -- a file without a tree was not seen
  not_seen : (seen : FilesData) (old : Trees) (name : List ℕ) → AreTreesIn seen old → finite.get old name ≡ None → finite.get seen name ≡ None
  not_seen seen old name are e = at (finite.get seen name) refl (subst (λ (o : Option Tree). IsRead (finite.get seen name) o) e (are name))
    where
      at : (o : Option (List ℕ)) → finite.get seen name ≡ o → IsRead o None → finite.get seen name ≡ None
      at None f is = f
      at (Some text) f none = absurd none

  read_under : (b : Bool) (text : List ℕ) (tree : Tree) (o : Option (List ℕ)) (t : Option Tree) → IsTreeOf text tree → IsRead o t → IsRead (cond b (Some text) o) (cond b (Some tree) t)
  read_under true text tree o t is rest = is
  read_under false text tree o t is rest = rest

  pub adds_read : (old new : Trees) (name text : List ℕ) (tree : Tree) → finite.get files name ≡ Some text → IsTreeOf text tree
      → ((q : List ℕ) → finite.get new q ≡ cond (is_at (text_cmp name) q) (Some tree) (finite.get old q)) → AddsTrees files (name ∷ []) old new
  adds_read old new name text tree there is puts seen among are =
      subst (λ (m : FilesData). AreTreesIn m new) (sym (named_new files seen name text there))
      (λ q. subst (λ (o : Option (List ℕ)). IsRead o (finite.get new q)) (sym (at_insert nat_list_cmp_total seen name text q))
      (subst (λ (t : Option Tree). IsRead (cond (is_at (text_cmp name) q) (Some text) (finite.get seen q)) t) (sym (puts q))
      (read_under (is_at (text_cmp name) q) text tree (finite.get seen q) (finite.get old q) is (are q))))

  pub counts_read : (old : Trees) (name text : List ℕ) (n m : ℕ) → finite.get files name ≡ Some text → finite.get old name ≡ None → m ≡ n + 1 → CountsAdded files (name ∷ []) old n m
  counts_read old name text n m there e one seen among are =
      omega (
        arith,
        one,
        ap finite.len (named_new files seen name text there),
        finite.len-insert nat_list_cmp_total seen name text
            ∙ ap (λ (o : Option (List ℕ)). cond (is_some o) (finite.len seen) (finite.len seen + 1)) (not_seen seen old name are e),
      )

-- The permutations from one on, and after the last.

pub next_perms : (perms : List PlanPerm) (i : ℕ) (x : PlanPerm) → i < length perms → x ≡ get_or perms i x → plan_view (drop i perms) ≡ plan_perm_view x ∷ plan_view (drop (i + 1) perms)
next_perms perms i x h is = ap plan_view (drop_more perms i x h) ∙ ap (λ y. plan_perm_view y ∷ plan_view (drop (i + 1) perms)) (sym is)

pub no_perms : (perms : List PlanPerm) (i : ℕ) → length perms ≤ i → plan_view (drop i perms) ≡ []
no_perms perms i h = ap plan_view (drop_all i perms h)
