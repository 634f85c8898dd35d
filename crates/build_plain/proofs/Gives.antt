-- What is found gives outputs, by what the code finds in tokens, in a tree and in sources.
use Rattle.std.proofs.Common.{◌≡◌, ◌≢◌, ℕ, List, [], ◌∷◌, ◌++◌, Option, Some, None, option_map, inl, inr, refl, sym, ap, subst, ◌∙◌, codes, map}
use Rattle.std.specs.FinMap as finite
use Rattle.std.specs.List.{zip}
use Rattle.token_tree.specs.View.{group_view}
use Rattle.token_tree.specs.Tree.{Group}
use Rattle.token_tree.specs.declared.tree.Group.{Group as GroupCode}
use Rattle.group_inherit.specs.Answer.{IsSound, IsFlat, IsTreeBreak}
use Rattle.group_inherit.specs.Merging.{merged_over, empty_group}
use Rattle.group_inherit.specs.declared.fault.TreeFault.{TreeFault}
use Rattle.group_inherit.specs.declared.fault.TreeFault.TheVariants as fault
use Rattle.alias_ref.specs.Laws.{Flat}
use Rattle.permutations.specs.Permutation.{TokenSource}
use Rattle.source_trees.specs.Merging.{IsMergedOf}
use Rattle.source_trees.specs.Sources.{HomeAt, BreakAt, SourcesFound}
use Rattle.source_trees.specs.View.{break_view}
use Rattle.source_trees.specs.declared.laying.Merged.TheVariants.{Tree, Broken}
use Rattle.source_trees.specs.declared.source.SourceBreak.{SourceBreak}
use Rattle.transforms.specs.Config.{Settings}
use Rattle.tk_io.specs.FilesData.{FilesData}
use Rattle.refusals.specs.Refusal.{Report, report_text}
use Rattle.token_cells.specs.Breaks.{token_reports, verdict}
use Rattle.token_cells.specs.Cell.{AreCells}
use Rattle.token_cells.specs.Sheets.{sheet_for}
use Rattle.token_cells.specs.declared.format.Format.TheVariants.{Css, Android, Swift, Json}
use Rattle.token_cells.specs.TokenCell.{TokenCell}
use Rattle.build_plain.specs.Breaks.{home_of, first_file, source_report, tree_reports, InTokens, InTree, InTrees, InSources}
use Rattle.build_plain.specs.Out.{four_outputs, perm_outputs, put_beside, Gives}

some_same : (x y : List ℕ) → Some x ≡ Some y → x ≡ y
some_same x y e = cc

module _ (files : FilesData) (name : List ℕ) (cells : List TokenCell) (before out : FilesData) where
  -- the refusal of a verdict
  pub refusal_put : (v : Option Report) (b : List ℕ) → option_map (report_text files) v ≡ Some b → out ≡ finite.insert before (name ++ codes "/REFUSED") b
      → out ≡ put_beside before (perm_outputs files name cells v)
  refusal_put None b told is = cc
  refusal_put (Some r) b told is = is ∙ ap (λ x. finite.insert before (name ++ codes "/REFUSED") x) (sym (some_same _ _ told))

  -- the files where there is none
  pub files_put : (v : Option Report) → None ≡ option_map (report_text files) v → out ≡ put_beside before (four_outputs name cells)
      → out ≡ put_beside before (perm_outputs files name cells v)
  files_put None none is = is
  files_put (Some r) none is = cc

-- the four files, one after another

abbrev four : FilesData → List ℕ → List ℕ → List ℕ → List ℕ → List ℕ → FilesData
four before name swift css json android =
    finite.insert (finite.insert (finite.insert (finite.insert before (name ++ codes "/Tokens.swift") swift) (name ++ codes "/tokens.css") css)
    (name ++ codes "/tokens.json") json) (name ++ codes "/tokens.xml") android

four_same : (before : FilesData) (name a b c d v w x y : List ℕ) → a ≡ v → b ≡ w → c ≡ x → d ≡ y → four before name a b c d ≡ four before name v w x y
four_same before name a b c d v w x y i j k l =
    ap (λ s. four before name s b c d) i ∙ (ap (λ s. four before name v s c d) j ∙ (ap (λ s. four before name v w s d) k ∙ ap (λ s. four before name v w x s) l))

pub four_put : (name : List ℕ) (cells : List TokenCell) (swift css json android : List ℕ) (before one two three out : FilesData)
    → swift ≡ sheet_for Swift cells → css ≡ sheet_for Css cells → json ≡ sheet_for Json cells → android ≡ sheet_for Android cells
    → one ≡ finite.insert before (name ++ codes "/Tokens.swift") swift → two ≡ finite.insert one (name ++ codes "/tokens.css") css
    → three ≡ finite.insert two (name ++ codes "/tokens.json") json → out ≡ finite.insert three (name ++ codes "/tokens.xml") android
    → out ≡ put_beside before (four_outputs name cells)
four_put name cells swift css json android before one two three out i j k l first second third last =
    last ∙ (ap (λ (m : FilesData). finite.insert m (name ++ codes "/tokens.xml") android)
    (third ∙ ap (λ (m : FilesData). finite.insert m (name ++ codes "/tokens.json") json)
    (second ∙ ap (λ (m : FilesData). finite.insert m (name ++ codes "/tokens.css") css) first))
    ∙ four_same before name swift css json android (sheet_for Swift cells) (sheet_for Css cells) (sheet_for Json cells) (sheet_for Android cells) i j k l)

module _ (files : FilesData) (settings : Settings) (name : List ℕ) (before out : FilesData) where
  -- tokens
  pub gives_tokens : (flat : Flat) (cells slice : List TokenCell) → AreCells flat settings (finite.entries flat) cells → slice ≡ cells
      → out ≡ put_beside before (perm_outputs files name slice (verdict (token_reports flat (zip (finite.entries flat) slice))))
      → Gives files name (InTokens settings flat) before out
  gives_tokens flat cells slice found same is = (
    cells,
    token_reports flat (zip (finite.entries flat) cells),
    (found, refl),
    is ∙ ap (λ cs. put_beside before (perm_outputs files name cs (verdict (token_reports flat (zip (finite.entries flat) cs))))) same,
  )

  -- a tree: a flat one, or a break
  pub gives_flat : (first : List ℕ) (tree : Group) (flat : Flat) → IsSound tree → IsFlat tree flat → Gives files name (InTokens settings flat) before out
      → Gives files name (InTree settings first tree) before out
  gives_flat first tree flat sound is (cells, breaks, found, made) = (cells, breaks, inr (flat, sound, is, found), made)

  pub gives_broken : (first : List ℕ) (tree : Group) (broken : TreeFault) → broken ≢ fault.NoMemory → IsTreeBreak tree broken
      → out ≡ put_beside before (perm_outputs files name [] (verdict (tree_reports first broken))) → Gives files name (InTree settings first tree) before out
  gives_broken first tree broken some is made = ([], tree_reports first broken, inl (broken, some, is, refl, refl), made)

  -- sources: a merged tree, or a break

  abbrev at_home : HomeAt → List TokenSource → List TokenCell → List Report → Type 0
  at_home h sources cells breaks = (bs : List BreakAt) × (ts : List Group) × SourcesFound files h sources bs ts × InTrees settings (first_file h sources) bs ts cells breaks

  pub gives_merged : (home : HomeAt) (sources : List TokenSource) (g : GroupCode) → home ≡ home_of files → IsMergedOf files home sources (Tree g)
      → Gives files name (InTree settings (first_file home sources) (group_view g)) before out → Gives files name (InSources settings files sources) before out
  gives_merged home sources g is_home (bs, ts, found, (none, is)) (cells, breaks, in_tree, made) =
      let first = first_file home sources in
      let in_merged : InTree settings first (merged_over empty_group ts) cells breaks = subst (λ t. InTree settings first t cells breaks) is in_tree in
      let in_trees : InTrees settings first bs ts cells breaks = subst (λ (xs : List BreakAt). InTrees settings first xs ts cells breaks) (sym none) in_merged in
      subst (λ (h : HomeAt). Gives files name (at_home h sources) before out) is_home (cells, breaks, (bs, ts, found, in_trees), made)

  pub gives_source_break : (home : HomeAt) (sources : List TokenSource) (b : SourceBreak) → home ≡ home_of files → IsMergedOf files home sources (Broken b)
      → out ≡ put_beside before (perm_outputs files name [] (Some (source_report (break_view b)))) → Gives files name (InSources settings files sources) before out
  gives_source_break home sources b is_home (bs, ts, found, (rest, is)) made =
      let first = first_file home sources in
      let reports = map source_report (break_view b ∷ rest) in
      let in_trees : InTrees settings first bs ts [] reports = subst (λ (xs : List BreakAt). InTrees settings first xs ts [] reports) (sym is) (refl, refl) in
      subst (λ (h : HomeAt). Gives files name (at_home h sources) before out) is_home ([], reports, (bs, ts, found, in_trees), made)
