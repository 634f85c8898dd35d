-- Each permutation of a plan has four files that denote its tokens' values, or the refusal that tells its first break; and nothing else stands in the outputs.
use Rattle.std.proofs.Common.{arith, ◌≡◌, ◌≢◌, ◌<◌, ◌^◌, ℕ, List, [], ◌∷◌, ◌++◌, Some, None, Result, Ok, inl, inr, refl, sym, subst, ◌∙◌, codes}
use Rattle.std.specs.FinMap as finite
use Rattle.std.specs.List.{AllByRecursion}
use Rattle.std.specs.Prelude.{◌⊎◌}
use Rattle.ring.specs.Lists.{In}
use Rattle.tk_io.specs.FilesData.{FilesData}
use Rattle.tk_io.specs.Order.{text_cmp}
use Rattle.token_tree.specs.Tree.{Group}
use Rattle.group_inherit.specs.Merging.{merged_over, empty_group}
use Rattle.group_inherit.specs.declared.fault.TreeFault.{TreeFault}
use Rattle.group_inherit.specs.declared.fault.TreeFault.TheVariants as fault
use Rattle.alias_ref.specs.Laws.{Flat}
use Rattle.permutations.specs.Permutation.{Permutation}
use Rattle.file_plan.specs.InUse.{resolver_path}
use Rattle.file_plan.specs.Laws.{InlinesStand, NamesAreApart, OnePlan}
use Rattle.file_plan.specs.Plan.{PlanBreak, Planned, planned, refused}
use Rattle.source_trees.specs.MergedTokens.{IsFlatOf, PathsAreOfTokens, TokensAreDefinitions}
use Rattle.source_trees.specs.Merging.{AllInlineStand}
use Rattle.source_trees.specs.Sources.{BreakAt, SourcesFound}
use Rattle.transforms.specs.Config.{Settings}
use Rattle.transforms.specs.declared.config.ConfigFault.{ConfigFault}
use Rattle.refusals.specs.Refusal.{Report, report_text}
use Rattle.token_cells.specs.Breaks.{verdict}
use Rattle.token_cells.specs.Denotes.{SheetDenotes, CellsDenote}
use Rattle.token_cells.specs.Laws.{OneCells}
use Rattle.token_cells.specs.OtherSheets.{AndroidDenotes, SwiftDenotes, JsonDenotes, AndroidCellsDenote, SwiftCellsDenote, JsonCellsDenote, AreTokenPaths}
use Rattle.token_cells.specs.Sheets.{sheet_for}
use Rattle.token_cells.specs.declared.format.Format.TheVariants.{Css, Android, Swift, Json}
use Rattle.token_cells.specs.TokenCell.{TokenCell}
use Rattle.build_plain.specs.Breaks.{home_of, first_file, tree_reports, InTokens, InTree, InTrees, Finds}
use Rattle.build_plain.specs.Denotes.{IsAccepted, IsRefused, AreOutputsOf, IsOfOne, EachIsAnswered, NeverBoth, NoOtherStands}
use Rattle.build_plain.specs.Out.{perm_outputs, OfPlan, GivesFrom, BuildsUnder, settings_of}
use Rattle.build_plain.proofs.OneOutputs.{TreeLaws, one_finding}
use Rattle.build_plain.proofs.OutputsStand.{Stands, each_stands, only_own}
use Rattle.build_plain.proofs.SettingsAllowed.{ConfigLaws, settings_allowed}
use Rattle.build_plain.proofs.Stands.{all_stand}

-- the laws of the layers below that are needed
pub record Laws : Type 0 where
  pub plan : OnePlan
  pub stand : InlinesStand
  pub apart : NamesAreApart
  pub paths : PathsAreOfTokens
  pub definitions : TokensAreDefinitions
  pub config : ConfigLaws
  pub css : CellsDenote
  pub android : AndroidCellsDenote
  pub swift : SwiftCellsDenote
  pub json : JsonCellsDenote

no_report : (r : Report) (rs : List Report) → [] ≡ r ∷ rs → ⊥
no_report r rs e = cc

tree_reported : (first : List ℕ) (broken : TreeFault) → broken ≢ fault.NoMemory → [] ≡ tree_reports first broken → ⊥
tree_reported first (fault.ExtendsTarget group span) some e = no_report _ _ e
tree_reported first (fault.ExtendsCycle ring span) some e = no_report _ _ e
tree_reported first (fault.TooManyTokens n) some e = no_report _ _ e
tree_reported first (fault.TooHigh n) some e = no_report _ _ e
tree_reported first fault.NoMemory some e = some refl

-- what holds of all holds of each
pub each_of : (holds : Permutation → Type 0) (ps : List Permutation) (p : Permutation) → AllByRecursion holds ps → In p ps → holds p
each_of holds [] p all i = absurd i
each_of holds (q ∷ qs) p all (inl same) = subst holds (sym same) all.0
each_of holds (q ∷ qs) p all (inr i) = each_of holds qs p all.1 i

-- what is found without a break
record IsUnbroken (settings : Settings) (files : FilesData) (p : Permutation) (cells : List TokenCell) : Type 0 where
  flat : Flat
  is_flat : IsFlatOf files (home_of files) p.sources flat
  tokens : InTokens settings flat cells []

module _ (settings : Settings) (files : FilesData) (p : Permutation) (cells : List TokenCell) (stand : AllInlineStand (home_of files).text p.sources) where
  of_tree : (trees : List Group) → SourcesFound files (home_of files) p.sources [] trees → InTree settings (first_file (home_of files) p.sources) (merged_over empty_group trees) cells []
      → IsUnbroken settings files p cells
  of_tree trees sources (inl (broken, some, is, empty, breaks)) = absurd (tree_reported (first_file (home_of files) p.sources) broken some breaks)
  of_tree trees sources (inr (flat, sound, is, found)) =
      record { flat = flat; is_flat = record { trees = trees; unbroken = sources; inline = stand; is_flat = is }; tokens = found }

  of_trees : (bs : List BreakAt) (trees : List Group) → SourcesFound files (home_of files) p.sources bs trees → InTrees settings (first_file (home_of files) p.sources) bs trees cells []
      → IsUnbroken settings files p cells
  of_trees [] trees sources found = of_tree trees sources found
  of_trees (b ∷ bs) trees sources found = absurd (no_report _ _ found.1)

  of_finding : Finds settings files p cells [] → IsUnbroken settings files p cells
  of_finding (bs, trees, sources, found) = of_trees bs trees sources found

module _ (laws : Laws) (settings : Settings) (files : FilesData) (configured : settings_of files ≡ Ok settings) (p : Permutation) (stand : AllInlineStand (home_of files).text p.sources) (out : FilesData) where
  abbrev Answer : Type 0
  Answer = IsAccepted settings files p out ⊎ IsRefused settings files p out

  accepted : (cells : List TokenCell) → Finds settings files p cells [] → (css android swift json : List ℕ) → css ≡ sheet_for Css cells → android ≡ sheet_for Android cells → swift ≡ sheet_for Swift cells → json ≡ sheet_for Json cells
      → finite.get out (p.name ++ codes "/tokens.css") ≡ Some css → finite.get out (p.name ++ codes "/tokens.xml") ≡ Some android
      → finite.get out (p.name ++ codes "/Tokens.swift") ≡ Some swift → finite.get out (p.name ++ codes "/tokens.json") ≡ Some json → IsAccepted settings files p out
  accepted cells found css android swift json is_css is_android is_swift is_json css_there android_there swift_there json_there =
      let u = of_finding settings files p cells stand found in
      let flat = u.flat in
      let tokens = u.tokens in
      let allowed = settings_allowed laws.config files settings configured in
      let small : settings.rem_base < 2 ^ 8 = omega (arith, allowed.most) in
      let paths : AreTokenPaths flat = λ token i. laws.paths files (home_of files) p.sources flat u.is_flat token i in
      record {
        cells = cells;
        unbroken = found;
        flat = flat;
        is_flat = u.is_flat;
        css = record { bytes = css; there = css_there; so = subst (SheetDenotes flat settings) (sym is_css) (laws.css flat settings cells tokens.0 (sym tokens.1) paths) };
        android = record { bytes = android; there = android_there; so = subst (AndroidDenotes flat settings) (sym is_android) (laws.android flat settings cells small (tokens.0, sym tokens.1) paths) };
        swift = record { bytes = swift; there = swift_there; so = subst (SwiftDenotes flat settings) (sym is_swift) (laws.swift flat settings cells small (tokens.0, sym tokens.1) paths) };
        json = record {
          bytes = json;
          there = json_there;
          so = subst (JsonDenotes flat settings) (sym is_json)
              (laws.json flat settings cells (tokens.0, sym tokens.1) (laws.definitions files (home_of files) p.sources flat u.is_flat));
        };
      }

  by_breaks : (cells : List TokenCell) (breaks : List Report) → Finds settings files p cells breaks
      → ((o : List ℕ × List ℕ) → In o (perm_outputs files p.name cells (verdict breaks)) → finite.get out o.0 ≡ Some o.1) → Answer
  by_breaks cells [] found there =
      inl (accepted cells found (sheet_for Css cells) (sheet_for Android cells) (sheet_for Swift cells) (sheet_for Json cells) refl refl refl refl
      (there (p.name ++ codes "/tokens.css", sheet_for Css cells) (inr (inl refl)))
      (there (p.name ++ codes "/tokens.xml", sheet_for Android cells) (inr (inr (inr (inl refl)))))
      (there (p.name ++ codes "/Tokens.swift", sheet_for Swift cells) (inl refl))
      (there (p.name ++ codes "/tokens.json", sheet_for Json cells) (inr (inr (inl refl)))))
  by_breaks cells (r ∷ rs) found there =
      inr (record { cells = cells; first = r; others = rs; broken = found; told = there (p.name ++ codes "/REFUSED", report_text files r) (inl refl) })

  answered : Stands settings files p out → Answer
  answered s = by_breaks s.cells s.breaks s.found s.there

-- the outputs are those of the plan's permutations

module _ (plan : OnePlan) (files : FilesData) (settings : Settings) (perms : List Permutation) (out : FilesData) where
  planned_same : (ps qs : List Permutation) → planned ps ≡ planned qs → ps ≡ qs
  planned_same ps qs e = cc

  other_plan : (ps : List Permutation) (b : PlanBreak) → planned ps ≡ refused b → ⊥
  other_plan ps b e = cc

  of_plan : (q : Planned) → planned perms ≡ q → OfPlan settings files q out → GivesFrom settings files perms finite.empty out
  of_plan (planned ps) same given = subst (λ (l : List Permutation). GivesFrom settings files l finite.empty out) (sym (planned_same perms ps same)) given
  of_plan (refused b) same given = absurd (other_plan perms b same)

  pub given : AreOutputsOf files settings perms out → GivesFrom settings files perms finite.empty out
  given are =
      let (q, plans, of) : BuildsUnder files (Ok settings) out = subst (λ (r : Result Settings ConfigFault). BuildsUnder files r out) are.configured are.outputs in
      of_plan q (plan (finite.get files resolver_path) (planned perms) q are.plan plans) of

pub each_is_answered : Laws → EachIsAnswered
each_is_answered laws files settings perms out are p i =
    answered laws settings files are.configured p (each_of (λ (q : Permutation). AllInlineStand (home_of files).text q.sources) perms p (all_stand files perms laws.stand are.plan) i) out
    (each_stands settings files perms finite.empty out (given laws.plan files settings perms out are) (laws.apart (finite.get files resolver_path) perms are.plan) p i)

none_in_empty : (path bytes : List ℕ) → finite.get (finite.empty {X = List ℕ} {R = text_cmp}) path ≡ Some bytes → ⊥
none_in_empty path bytes is = absurd (some_none (sym (finite.get-empty text_cmp path) ∙ is))
  where
    some_none : None ≡ Some bytes → ⊥
    some_none e = cc

pub no_other_stands : OnePlan → NoOtherStands
no_other_stands plan files settings perms out are path bytes is =
    elim (only_own settings files perms finite.empty out path bytes (given plan files settings perms out are) is) as (λ _. IsOfOne settings files perms path) [
      | inl h ↦ h
      | inr was ↦ absurd (none_in_empty path bytes was)
    ]

pub never_both : TreeLaws → OneCells → NeverBoth
never_both trees cells settings files p out a r =
    no_report _ _ (one_finding trees cells settings files p.sources a.cells r.cells [] (r.first ∷ r.others) a.unbroken r.broken).1
