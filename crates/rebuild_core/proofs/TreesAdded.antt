-- The trees of the files in use, one after another.
use Rattle.std.proofs.Common.{arith, ◌≡◌, inl, inr, ℕ, zero, suc, ◌+◌, ◌<◌, ◌≤◌, Bool, true, false, cond, List, [], ◌∷◌, Option, Some, None, refl, sym, ap, subst, ◌∙◌, drop, length, get_or}
use Rattle.std.proofs.lemmas.List.{drop_more, drop_all}
use Rattle.std.specs.BTreeMap.{is_at}
use Rattle.std.specs.Borrow.{Bor}
use Rattle.std.specs.Cmp.Lexicographic.{nat_list_cmp_total}
use Rattle.std.specs.FinMap as finite
use Rattle.std.specs.Option.{option_copied}
use Rattle.std.specs.Prelude.{IfSome}
use Rattle.ring.specs.Lists.{In}
use Rattle.tk_io.specs.Entries.{PutsEntry}
use Rattle.tk_io.specs.FilesData.{FilesData}
use Rattle.tk_io.specs.Order.{text_cmp}
use Rattle.tk_io.specs.View.{entries_view}
use Rattle.tk_io.proofs.MapViews.{at_insert}
use Rattle.tk_io.proofs.TextMaps.{text_cmp-IsAntisymmetric}
use Rattle.file_plan.specs.InUse.{resolver_path, resolver_in, beside}
use Rattle.file_plan.proofs.FilesInUse.{some_none}
use Rattle.file_plan.specs.Trees.{IsTreeOf, IsRead, AreTreesIn}
use Rattle.file_plan.specs.declared.tree.Tree.{Tree}
use Rattle.rebuild_core.specs.inner.Reading.{TextAt, AddsOther}
use Rattle.rebuild_core.proofs.FilledMaps.{Filled, filled_next, put_here, put_other, at_key}

-- Entries from one on, and after the last.

module _ {K V : Type 0} (key : K → List ℕ) where
  abbrev Shown : List (K × V) → List (List ℕ × V)
  Shown es = entries_view key (λ v. v) es

  pub next_entry : (items : List (K × V)) (i : ℕ) (x : K × V) → i < length items → x ≡ get_or items i x → Shown (drop i items) ≡ (key x.0, x.1) ∷ Shown (drop (i + 1) items)
  next_entry items i x h is = ap Shown (drop_more items i x h) ∙ ap (λ (y : K × V). (key y.0, y.1) ∷ Shown (drop (i + 1) items)) (sym is)

  pub no_entries : (items : List (K × V)) (i : ℕ) → length items ≤ i → Shown (drop i items) ≡ []
  no_entries items i h = ap Shown (drop_all i items h)

  pub entry_in : (items : List (K × V)) (i : ℕ) (x : K × V) → i < length items → x ≡ get_or items i x → In (key x.0, x.1) (Shown items)
  entry_in [] i x h is = absurd (omega (arith, h))
  entry_in (y ∷ items) zero x h is = inl (ap (λ (z : K × V). (key z.0, z.1)) is)
  entry_in (y ∷ items) (suc i) x h is = inr (entry_in items i x (omega (arith, h)) is)

-- One file more.

abbrev TreesData : Type 0
TreesData = finite.FinMap text_cmp Tree

abbrev pub IsReadIn : FilesData → TreesData → List ℕ → Type 0
IsReadIn used trees q = IsRead (finite.get used q) (finite.get trees q)

module _ (used : FilesData) (old new : TreesData) (path text : List ℕ) (there : finite.get used path ≡ Some text) where
  read_here : (tree : Tree) → IsTreeOf text tree → PutsEntry old new path tree → IsReadIn used new path
  read_here tree is puts =
      subst (λ (o : Option (List ℕ)). IsRead o (finite.get new path)) (sym there)
      (subst (λ (o : Option Tree). IsRead (Some text) o) (sym (put_here nat_list_cmp_total text_cmp-IsAntisymmetric old new path tree puts)) is)

  read_other : (tree : Tree) (q : List ℕ) → PutsEntry old new path tree → is_at (text_cmp path) q ≡ false → IsReadIn used old q → IsReadIn used new q
  read_other tree q puts other is =
      subst (λ (o : Option Tree). IsRead (finite.get used q) o) (sym (put_other nat_list_cmp_total text_cmp-IsAntisymmetric old new path tree q puts other)) is

  same_read : (q : List ℕ) → new ≡ old → IsReadIn used old q → IsReadIn used new q
  same_read q same is = subst (λ (m : TreesData). IsReadIn used m q) (sym same) is

  pub first_next : AddsOther path text old new → IsReadIn used old resolver_path → IsReadIn used new resolver_path
  first_next (inl (is_first, same)) is = same_read resolver_path same is
  first_next (inr (is_other, (tree, of, puts))) is = go (is_at (text_cmp path) resolver_path) refl
    where
      go : (b : Bool) → is_at (text_cmp path) resolver_path ≡ b → IsReadIn used new resolver_path
      go true e = absurd (is_other (at_key nat_list_cmp_total text_cmp-IsAntisymmetric path resolver_path e))
      go false e = read_other tree resolver_path puts e is

  pub trees_next : (rest es : List TextAt) → rest ≡ (path, text) ∷ es → AddsOther path text old new → IsReadIn used old resolver_path
      → Filled nat_list_cmp_total text_cmp-IsAntisymmetric (IsReadIn used old) rest → Filled nat_list_cmp_total text_cmp-IsAntisymmetric (IsReadIn used new) es
  trees_next rest es is (inl (is_first, same)) first filled =
      filled_next nat_list_cmp_total text_cmp-IsAntisymmetric (IsReadIn used old) (IsReadIn used new) rest path text es is filled
      (subst (IsReadIn used new) (sym is_first) (same_read resolver_path same first)) (λ q other r. same_read q same r)
  trees_next rest es is (inr (is_other, (tree, of, puts))) first filled =
      filled_next nat_list_cmp_total text_cmp-IsAntisymmetric (IsReadIn used old) (IsReadIn used new) rest path text es is filled
      (read_here tree of puts) (λ q other r. read_other tree q puts other r)

-- files that are not in use have no tree
pub none_read : (used : FilesData) (trees : TreesData) → ((path : List ℕ) → finite.get used path ≡ None → finite.get trees path ≡ None)
    → (q : List ℕ) → finite.get used q ≡ None → IsReadIn used trees q
none_read used trees only q none =
    subst (λ (o : Option (List ℕ)). IsRead o (finite.get trees q)) (sym none) (subst (λ (o : Option Tree). IsRead None o) (sym (only q none)) tt)

-- only the resolver document is read
pub first_only : (files used : FilesData) (trees : TreesData) → AreTreesIn (resolver_in files) trees → finite.get used resolver_path ≡ finite.get files resolver_path
    → (path : List ℕ) → finite.get used path ≡ None → finite.get trees path ≡ None
first_only files used trees are same path none = bare (finite.get trees path) (subst (λ (o : Option (List ℕ)). IsRead o (finite.get trees path)) (nowhere (finite.get files resolver_path) refl) (are path))
  where
    bare : (t : Option Tree) → IsRead None t → t ≡ None
    bare None r = refl
    bare (Some tree) r = absurd r

    at : (text : List ℕ) → finite.get files resolver_path ≡ Some text → (b : Bool) → is_at (text_cmp resolver_path) path ≡ b
        → cond b (Some text) (finite.get {R = text_cmp} (finite.empty {X = List ℕ}) path) ≡ None
    at text there true e =
        let key = at_key nat_list_cmp_total text_cmp-IsAntisymmetric resolver_path path e in
        absurd (some_none (sym (ap (finite.get used) (sym key) ∙ (same ∙ there)) ∙ none))
    at text there false e = finite.get-empty text_cmp path

    nowhere : (o : Option (List ℕ)) → finite.get files resolver_path ≡ o → finite.get (resolver_in files) path ≡ None
    nowhere None there = ap (λ (x : Option (List ℕ)). finite.get (beside finite.empty resolver_path x) path) there ∙ finite.get-empty text_cmp path
    nowhere (Some text) there =
        ap (λ (x : Option (List ℕ)). finite.get (beside finite.empty resolver_path x) path) there
        ∙ (at_insert nat_list_cmp_total finite.empty resolver_path text path ∙ at text there (is_at (text_cmp resolver_path) path) refl)

-- a file that is in use has a tree
pub tree_there : (used : FilesData) (trees : TreesData) (path text : List ℕ) (tree : Tree) → AreTreesIn used trees → finite.get used path ≡ Some text → finite.get trees path ≡ Some tree → IsTreeOf text tree
tree_there used trees path text tree are there is =
    subst (λ (t : Option Tree). IsRead (Some text) t) is (subst (λ (o : Option (List ℕ)). IsRead o (finite.get trees path)) there (are path))

pub no_tree : (used : FilesData) (trees : TreesData) (path text : List ℕ) → AreTreesIn used trees → finite.get used path ≡ Some text → finite.get trees path ≡ None → ⊥
no_tree used trees path text are there none =
    subst (λ (t : Option Tree). IsRead (Some text) t) none (subst (λ (o : Option (List ℕ)). IsRead o (finite.get trees path)) there (are path))

-- the tree that is found is that of the text with which the file was in use
pub known_is : (used : FilesData) (trees : TreesData) (path text : List ℕ) (found : Option (Bor Tree)) → AreTreesIn used trees → finite.get used path ≡ Some text
    → option_copied found ≡ finite.get trees path → IfSome found (λ tree. IsTreeOf text tree.now × (finite.get used path ≡ Some text))
known_is used trees path text None are there is = tt
known_is used trees path text (Some tree) are there is = (tree_there used trees path text tree.now are there (sym is), there)
