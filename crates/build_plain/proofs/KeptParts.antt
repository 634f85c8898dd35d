-- Parts of files that are kept one permutation after another.
use Rattle.std.proofs.Common.{◌≡◌, ℕ, Bool, true, false, cond, List, [], ◌∷◌, Option, Some, None, Ok, inl, inr, refl, sym, ap, subst, ◌∙◌}
use Rattle.std.proofs.lemmas.Map.Text.{is_eq-slice_cmp}
use Rattle.std.proofs.lemmas.Slice.Eq.{bytes_eq-Decides}
use Rattle.std.specs.BTreeMap.{is_at}
use Rattle.std.specs.FinMap as finite
use Rattle.std.specs.Prelude.{is_some}
use Rattle.ring.specs.Lists.{In, AreApart}
use Rattle.tk_io.specs.FilesData.{FilesData}
use Rattle.tk_io.specs.Order.{text_cmp}
use Rattle.permutations.specs.Permutation.{Permutation}
use Rattle.file_plan.specs.InUse.{resolver_path, resolver_in, files_in_use}
use Rattle.file_plan.specs.Plan.{planned, refused, Plans}
use Rattle.file_plan.specs.Trees.{AreTreesIn, IsRead}
use Rattle.file_plan.specs.View.{IsPlanRefusal}
use Rattle.file_plan.specs.declared.refusal.PlanRefusal.{PlanRefusal}
use Rattle.file_plan.specs.declared.tree.Tree.{Tree as FileTree}
use Rattle.source_trees.specs.Sources.{BreakAt}
use Rattle.source_trees.specs.declared.merge.Merge.{Merge}
use Rattle.transforms.specs.Config.{Settings}
use Rattle.refusals.specs.Planning.{break_of}
use Rattle.token_cells.specs.TokenCell.{TokenCell}
use Rattle.build_plain.specs.Parts.{AreKept, AreKeptOf, AreTrees, ArePartsUnder}
use Rattle.build_plain.specs.declared.outcome.Outcome.{Outcome}
use Rattle.build_plain.specs.declared.outcome.Outcome.TheVariants.{Tokens, TreeBreak, SourceBreak}
use Rattle.build_plain.specs.declared.parts.Parts.{Parts}
use Rattle.build_plain.specs.inner.Keeping.{KeepsNothing, IsSameAt, Keeps, Keeping, names}
use Rattle.build_plain.specs.Outcomes.{IsOutcome, cells_in, merge_in}
use Rattle.build_plain.proofs.Planned.{some_break}

-- What is put under a name.

at_own : {X : Type 0} (name : List ℕ) (x y : Option X) → cond (is_at (text_cmp name) name) x y ≡ x
at_own name x y = ap (λ b. cond b x y) (is_eq-slice_cmp name name ∙ (bytes_eq-Decides name name).1 refl)

at_other : {X : Type 0} (name other : List ℕ) (x y : Option X) → (other ≡ name → ⊥) → cond (is_at (text_cmp name) other) x y ≡ y
at_other name other x y apart = by (is_at (text_cmp name) other) refl
  where
    by : (b : Bool) → is_at (text_cmp name) other ≡ b → cond b x y ≡ y
    by true e = absurd (apart (sym ((bytes_eq-Decides name other).0 (sym (is_eq-slice_cmp name other) ∙ e))))
    by false e = refl

module _ (name : List ℕ) (before after : Parts) (trees : after.trees ≡ before.trees) where
  abbrev PutsMerge : Merge → Type 0
  PutsMerge m = (q : List ℕ) → finite.get after.merges q ≡ cond (is_at (text_cmp name) q) (Some m) (finite.get before.merges q)

  abbrev PutsCells : List TokenCell → Type 0
  PutsCells cells = (q : List ℕ) → finite.get after.cells q ≡ cond (is_at (text_cmp name) q) (Some cells) (finite.get before.cells q)

  pub both_kept : (m : Merge) (cells : List TokenCell) → PutsCells cells → PutsMerge m → Keeps name (Some m) (Some cells) before after
  both_kept m cells puts puts_merge = record {
    trees = trees;
    merges = puts_merge name ∙ at_own name (Some m) (finite.get before.merges name);
    cells = puts name ∙ at_own name (Some cells) (finite.get before.cells name);
    others = λ other apart. record {
      merges = puts_merge other ∙ at_other name other (Some m) (finite.get before.merges other) apart;
      cells = puts other ∙ at_other name other (Some cells) (finite.get before.cells other) apart;
    };
  }

  pub merge_kept : (m : Merge) → KeepsNothing before name → after.cells ≡ before.cells → PutsMerge m → Keeps name (Some m) None before after
  merge_kept m bare same puts_merge =
      let cells_at : (q : List ℕ) → finite.get after.cells q ≡ finite.get before.cells q = λ q. ap (λ (m : finite.FinMap text_cmp (List TokenCell)). finite.get m q) same in
      record {
        trees = trees;
        merges = puts_merge name ∙ at_own name (Some m) (finite.get before.merges name);
        cells = cells_at name ∙ bare.cells;
        others = λ other apart. record {
          merges = puts_merge other ∙ at_other name other (Some m) (finite.get before.merges other) apart;
          cells = cells_at other;
        };
      }

pub nothing_kept : (name : List ℕ) (parts : Parts) → KeepsNothing parts name → Keeps name None None parts parts
nothing_kept name parts bare = record {
  trees = refl;
  merges = bare.merges;
  cells = bare.cells;
  others = λ other apart. record { merges = refl; cells = refl };
}

-- what a permutation comes to is what is kept of it
pub outcome_kept : (settings : Settings) (files : FilesData) (p : Permutation) (o : Outcome) → IsOutcome settings files p o → AreKeptOf settings files p (merge_in o) (cells_in o)
outcome_kept settings files p (Tokens tree) is = is
outcome_kept settings files p (TreeBreak fault) is = is
outcome_kept settings files p (SourceBreak b) (bs, ts, found, (rest, is)) =
    (bs, ts, found, subst (λ (xs : List BreakAt). AreKept settings xs ts None None) (sym is) (refl, refl))

-- Of a plan, one permutation after another.

module _ (settings : Settings) (files : FilesData) (all : List Permutation) where
  bare_all : (parts : Parts) → parts.merges ≡ finite.empty → parts.cells ≡ finite.empty → (name : List ℕ) → KeepsNothing parts name
  bare_all parts merges cells name = record {
    merges = ap (λ (m : finite.FinMap text_cmp Merge). finite.get m name) merges ∙ finite.get-empty text_cmp name;
    cells = ap (λ (m : finite.FinMap text_cmp (List TokenCell)). finite.get m name) cells ∙ finite.get-empty text_cmp name;
  }

  pub keeping_start : (trees : finite.FinMap text_cmp FileTree) (parts : Parts) → AreTreesIn (files_in_use files all) trees → AreApart (names all)
      → parts.trees ≡ trees → parts.merges ≡ finite.empty → parts.cells ≡ finite.empty → Keeping settings files all all parts
  keeping_start trees parts are apart same merges cells = record {
    trees = subst (AreTreesIn (files_in_use files all)) (sym same) are;
    apart = apart;
    bare = λ name i. bare_all parts merges cells name;
    no_other = λ name other. (other, bare_all parts merges cells name);
    each = λ out same each. each;
  }

  still_bare : (now next : Parts) (name : List ℕ) → IsSameAt now next name → KeepsNothing now name → KeepsNothing next name
  still_bare now next name same bare = record { merges = same.merges ∙ bare.merges; cells = same.cells ∙ bare.cells }

  same_twice : (a b c : Parts) (name : List ℕ) → IsSameAt a b name → IsSameAt b c name → IsSameAt a c name
  same_twice a b c name i j = record { merges = j.merges ∙ i.merges; cells = j.cells ∙ i.cells }

  kept_still : (p : Permutation) (m : Option Merge) (cells : Option (List TokenCell)) (before next out : Parts) → IsSameAt next out p.name → Keeps p.name m cells before next
      → AreKeptOf settings files p m cells → AreKeptOf settings files p (finite.get out.merges p.name) (finite.get out.cells p.name)
  kept_still p m cells before next out same new kept =
      subst (λ (x : Option Merge). AreKeptOf settings files p x (finite.get out.cells p.name)) (sym (same.merges ∙ new.merges))
      (subst (λ (x : Option (List TokenCell)). AreKeptOf settings files p m x) (sym (same.cells ∙ new.cells)) kept)

  pub keeping_more : (p : Permutation) (ps : List Permutation) (o : Outcome) (now next : Parts) → IsOutcome settings files p o → Keeping settings files all (p ∷ ps) now
      → Keeps p.name (merge_in o) (cells_in o) now next → Keeping settings files all ps next
  keeping_more p ps o now next is k new =
      let others : (name : List ℕ) → (name ≡ p.name → ⊥) → IsSameAt now next name = new.others in
      let not_own : (name : List ℕ) → In name (names ps) → name ≡ p.name → ⊥ = λ name i e. k.apart.0 (subst (λ (n : List ℕ). In n (names ps)) e i) in
      record {
        trees = subst (AreTreesIn (files_in_use files all)) (sym new.trees) k.trees;
        apart = k.apart.1;
        bare = λ name i. still_bare now next name (others name (not_own name i)) (k.bare name (inr i));
        no_other = λ name other.
            let (not_rest, bare) = k.no_other name other in
            ((λ i. not_rest (inr i)), still_bare now next name (others name (λ e. not_rest (inl e))) bare);
        each = λ out same each.
            k.each out (λ name other. same_twice now next out name (others name (λ e. other (inl e))) (same name (λ i. other (inr i))))
            (kept_still p (merge_in o) (cells_in o) now next out (same p.name k.apart.0) new (outcome_kept settings files p o is), each);
      }

-- where none is left, these are the parts of the plan
pub keeping_ends : (settings : Settings) (files : FilesData) (perms : List Permutation) (parts : Parts)
    → Plans (finite.get files resolver_path) (planned perms) → Keeping settings files perms [] parts → ArePartsUnder files (Ok settings) parts
keeping_ends settings files perms parts plans k = (
  planned perms,
  plans,
  record {
    trees = k.trees;
    each = k.each parts (λ name other. record { merges = refl; cells = refl }) tt;
    no_other = λ name other. let (not_rest, bare) = k.no_other name other in (bare.merges, bare.cells);
  },
)

-- Of a plan that is refused.

module _ (files : FilesData) (settings : Settings) (r : PlanRefusal) (is : IsPlanRefusal (Plans (finite.get files resolver_path)) r) where
  pub refused_kept : (trees : finite.FinMap text_cmp FileTree) (parts : Parts) → AreTreesIn (resolver_in files) trees → is_some (break_of r) ≡ true → parts.trees ≡ trees
      → parts.merges ≡ finite.empty → parts.cells ≡ finite.empty → ArePartsUnder files (Ok settings) parts
  refused_kept trees parts are some same merges cells =
      let b = some_break (finite.get files resolver_path) r is some in
      (refused b.broken, b.is, record { trees = subst (AreTreesIn (resolver_in files)) (sym same) are; no_merges = merges; no_cells = cells })

-- Of a configuration that is refused.

no_file_read : (trees : finite.FinMap text_cmp FileTree) → trees ≡ finite.empty → AreTreesIn finite.empty trees
no_file_read trees none = λ q.
    neither (finite.get (finite.empty {X = List ℕ} {R = text_cmp}) q) (finite.get trees q) (finite.get-empty text_cmp q)
    (ap (λ (m : finite.FinMap text_cmp FileTree). finite.get m q) none ∙ finite.get-empty text_cmp q)
  where
    neither : (x : Option (List ℕ)) (u : Option FileTree) → x ≡ None → u ≡ None → IsRead x u
    neither x u e f = subst (λ (o : Option (List ℕ)). IsRead o u) (sym e) (subst (λ (o : Option FileTree). IsRead None o) (sym f) tt)

pub unconfigured : (parts : Parts) → parts.trees ≡ finite.empty → parts.merges ≡ finite.empty → parts.cells ≡ finite.empty → AreTrees finite.empty parts
unconfigured parts trees merges cells = record { trees = no_file_read parts.trees trees; no_merges = merges; no_cells = cells }
