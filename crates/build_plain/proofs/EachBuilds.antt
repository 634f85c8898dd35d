-- Files that are texts in memory have outputs, and any files have an amount of work.
use Rattle.std.proofs.Common.{arith, ◌≡◌, ℕ, List, [], ◌∷◌, Option, Some, None, Result, Ok, Err, inl, inr, refl, codes, length, map}
use Rattle.std.proofs.lemmas.Str.{IsUtf8-nil}
use Rattle.std.specs.FinMap as finite
use Rattle.std.specs.List.{AllByRecursion, zip}
use Rattle.std.specs.Prelude.{◌⊎◌, true, unwrap_or}
use Rattle.std.specs.Str.{IsUtf8}
use Rattle.json_span.specs.Spelling.{are_bytes}
use Rattle.json_span.proofs.Utf8.{utf8_bytes}
use Rattle.tk_io.specs.FilesData.{FilesData}
use Rattle.token_tree.specs.Tree.{Group}
use Rattle.token_tree.specs.declared.mark.Mark.{Mark}
use Rattle.token_tree.specs.declared.mark.Mark.TheVariants.{No, Yes, Because}
use Rattle.group_inherit.specs.Laws.{HasBreak, HasFlat, EachTreeAnswers}
use Rattle.group_inherit.specs.Merging.{merged}
use Rattle.alias_ref.specs.Laws.{Flat}
use Rattle.permutations.specs.Permutation.{TokenSource, Permutation}
use Rattle.file_plan.specs.InUse.{resolver_path, files_in_use}
use Rattle.file_plan.specs.Laws.{EachPlan, InlinesStand}
use Rattle.file_plan.specs.Plan.{Planned, planned, refused, Plans, text_count}
use Rattle.source_trees.specs.Laws.{EachFound, MergedIsOrdered}
use Rattle.source_trees.specs.MergedTokens.{IsFlatOf, TokensAreDefinitions, TokensAreOfTexts}
use Rattle.source_trees.specs.Merging.{AllInlineStand}
use Rattle.source_trees.specs.Sources.{BreakAt, SourcesFound}
use Rattle.source_trees.specs.Texts.{IsText, AreTexts}
use Rattle.json_out.specs.Sheets.{reason_of}
use Rattle.transforms.specs.Config.{Settings, AreAllowed, first_refused, settings_in, unless_refused, config_in}
use Rattle.transforms.specs.declared.config.ConfigFault.{ConfigFault}
use Rattle.transforms.specs.declared.config.ConfigFault.TheVariants as config
use Rattle.toml.specs.Data.{Members}
use Rattle.toml.specs.Parse.{parse_document}
use Rattle.refusals.specs.Planning.{plan_report}
use Rattle.refusals.specs.Refusal.{Report, report_text, file_text}
use Rattle.token_cells.specs.Breaks.{token_reports, verdict}
use Rattle.token_cells.specs.Existence.{AreDefined, EachCells}
use Rattle.token_cells.specs.TokenCell.{TokenCell}
use Rattle.build_plain.specs.Breaks.{tokens_path, home_by, home_of, first_file, source_report, tree_reports, Finding, InTokens, InTree, InTrees, Finds}
use Rattle.build_plain.specs.Laws.{EachBuilds, EachWorks}
use Rattle.build_plain.specs.Out.{one_output, put_beside, perm_outputs, GivesFrom, OfPlan, config_path, settings_by, settings_of, config_reports, refused_config, BuildsUnder}
use Rattle.build_plain.specs.Work.{Work, work, added, TreeWork, TreesWork, PermWork, PermsWork, PlanWork, WorkUnder}
use Rattle.build_plain.proofs.SettingsAllowed.{ConfigLaws, settings_allowed}
use Rattle.build_plain.proofs.Stands.{all_stand}

-- the laws of the layers below that are needed
pub record BuildLaws : Type 0 where
  pub plan : EachPlan
  pub stand : InlinesStand
  pub merge : EachFound
  pub ordered : MergedIsOrdered
  pub tree : EachTreeAnswers
  pub definitions : TokensAreDefinitions
  pub texts : TokensAreOfTexts
  pub cells : EachCells
  pub config : ConfigLaws

-- The file that names the sources is a text.

unwrapped_text : (o : Option (List ℕ)) → ((text : List ℕ) → o ≡ Some text → IsText text) → IsText (unwrap_or o [])
unwrapped_text None texts = record { utf8 = IsUtf8-nil; fits = omega arith }
unwrapped_text (Some text) texts = texts text refl

home_text_by : (files : FilesData) → AreTexts files → (o : Option (List ℕ)) → finite.get files resolver_path ≡ o
    → IsText (home_by files o).text
home_text_by files texts None is = unwrapped_text (finite.get files tokens_path) (texts tokens_path)
home_text_by files texts (Some document) is = texts resolver_path document is

home_text : (files : FilesData) → AreTexts files → IsText (home_of files).text
home_text files texts = home_text_by files texts (finite.get files resolver_path) refl

-- a mark whose reason is a text
reason_bytes : (mark : Option Mark) → ((reason : List ℕ) → mark ≡ Some (Because reason) → IsUtf8 reason)
    → are_bytes (reason_of (unwrap_or mark No)) ≡ true
reason_bytes None texts = refl
reason_bytes (Some No) texts = refl
reason_bytes (Some Yes) texts = refl
reason_bytes (Some (Because reason)) texts = utf8_bytes reason (texts reason refl)

-- what is found gives something
abbrev IsFound : Finding → Type 0
IsFound found = (cells : List TokenCell) × (breaks : List Report) × found cells breaks

module _ (laws : BuildLaws) (files : FilesData) (texts : AreTexts files) (settings : Settings) (allowed : AreAllowed settings) where
  defined : (sources : List TokenSource) (flat : Flat) → IsFlatOf files (home_of files) sources flat → AreDefined flat
  defined sources flat is path f at =
      let of_texts = laws.texts files (home_of files) sources flat is texts (home_text files texts) path f at in
      record {
        definition = laws.definitions files (home_of files) sources flat is path f at;
        utf8 = of_texts.source.utf8;
        fits = of_texts.source.fits;
        names = of_texts.names;
        mark = reason_bytes f.group_mark of_texts.mark;
      }

  module _ (p : Permutation) (stand : AllInlineStand (home_of files).text p.sources) where
    abbrev first : List ℕ
    first = first_file (home_of files) p.sources

    in_tokens : (flat : Flat) → IsFlatOf files (home_of files) p.sources flat → IsFound (InTokens settings flat)
    in_tokens flat is =
        let (cells, are) = laws.cells flat settings (defined p.sources flat is) allowed in
        (cells, token_reports flat (zip (finite.entries flat) cells), (are, refl))

    in_tree : (trees : List Group) → SourcesFound files (home_of files) p.sources [] trees
        → HasBreak (merged trees) ⊎ HasFlat (merged trees) → IsFound (InTree settings first (merged trees))
    in_tree trees found (inl (broken, some, is)) = ([], tree_reports first broken, inl (broken, some, is, refl, refl))
    in_tree trees found (inr (flat, sound, is)) =
        let (cells, breaks, tokens) =
        in_tokens flat (record { trees = trees; unbroken = found; inline = stand; is_flat = is }) in
        (cells, breaks, inr (flat, sound, is, tokens))

    in_trees : (bs : List BreakAt) (trees : List Group) → SourcesFound files (home_of files) p.sources bs trees
        → IsFound (InTrees settings first bs trees)
    in_trees [] trees found =
        in_tree trees found (laws.tree (merged trees) (laws.ordered files (home_of files) p.sources [] trees found))
    in_trees (b ∷ bs) trees found = ([], map source_report (b ∷ bs), (refl, refl))

    is_found : IsFound (Finds settings files p)
    is_found =
        let (bs, trees, found) = laws.merge files (home_of files) p.sources in
        let (cells, breaks, gives) = in_trees bs trees found in
        (cells, breaks, (bs, trees, found, gives))

  gives_from : (perms : List Permutation) → AllByRecursion (λ p. AllInlineStand (home_of files).text p.sources) perms
      → (before : FilesData) → (out : FilesData) × GivesFrom settings files perms before out
  gives_from [] stand before = (before, refl)
  gives_from (p ∷ ps) stand before =
      let (cells, breaks, found) = is_found p stand.0 in
      let next = put_beside before (perm_outputs files p.name cells (verdict breaks)) in
      let (out, later) = gives_from ps stand.1 next in
      (out, (next, (cells, breaks, found, refl), later))

  of_plan : (plan : Planned) → Plans (finite.get files resolver_path) plan → (out : FilesData) × OfPlan settings files plan out
  of_plan (planned perms) plans = gives_from perms (all_stand files perms laws.stand plans) finite.empty
  of_plan (refused broken) plans = (one_output (codes "REFUSED") (report_text files (plan_report broken)), refl)

-- A configuration that is refused is told: its fault is never that memory ran out.

unrefused : (key : Option (List ℕ)) (settings : Settings) → unless_refused key settings ≡ Err config.NoMemory → ⊥
unrefused None settings is = cc
unrefused (Some key) settings is = cc

table_refused : (table : Option Members) → config_in table ≡ Err config.NoMemory → ⊥
table_refused None is = cc
table_refused (Some table) is = unrefused (first_refused table) (settings_in table) is

text_refused : (text : Option (List ℕ)) → settings_by text ≡ Err config.NoMemory → ⊥
text_refused None is = cc
text_refused (Some text) is = table_refused (parse_document text) is

config_told : (files : FilesData) (end : ℕ) (broken : ConfigFault) → settings_of files ≡ Err broken
    → (out : FilesData) × refused_config files (config_reports end broken) out
config_told files end config.Toml is = (_, refl)
config_told files end (config.Key key) is = (_, refl)
config_told files end config.NoMemory is = absurd (text_refused (finite.get files config_path) is)

module _ (laws : BuildLaws) (files : FilesData) where
  builds_under : AreTexts files → (r : Result Settings ConfigFault) → settings_of files ≡ r
      → (out : FilesData) × BuildsUnder files r out
  builds_under texts (Ok settings) is =
      let (plan, plans) = laws.plan (finite.get files resolver_path) in
      let (out, of) = of_plan laws files texts settings (settings_allowed laws.config files settings is) plan plans in
      (out, (plan, plans, of))
  builds_under texts (Err broken) is = config_told files (length (file_text files config_path)) broken is

  -- How much is done.

  tree_work : (tree : Group) → HasBreak tree ⊎ HasFlat tree → (w : Work) × TreeWork tree w
  tree_work tree (inl (broken, some, is)) = (work 0 1 0, inl (broken, some, is, refl))
  tree_work tree (inr (flat, sound, is)) = (work 0 1 (length (finite.entries flat)), inr (flat, sound, is, refl))

  trees_work : (p : Permutation) (bs : List BreakAt) (trees : List Group)
      → SourcesFound files (home_of files) p.sources bs trees → (w : Work) × TreesWork bs trees w
  trees_work p [] trees found =
      tree_work (merged trees) (laws.tree (merged trees) (laws.ordered files (home_of files) p.sources [] trees found))
  trees_work p (b ∷ bs) trees found = (work 0 0 0, refl)

  perm_work : (p : Permutation) → (w : Work) × PermWork files p w
  perm_work p =
      let (bs, trees, found) = laws.merge files (home_of files) p.sources in
      let (w, is) = trees_work p bs trees found in
      (w, (bs, trees, found, is))

  perms_work : (perms : List Permutation) → (w : Work) × PermsWork files perms w
  perms_work [] = (work 0 0 0, refl)
  perms_work (p ∷ ps) =
      let (v, here) = perm_work p in
      let (vs, later) = perms_work ps in
      (added v vs, (v, vs, here, later, refl))

  plan_work : (plan : Planned) → (w : Work) × PlanWork files plan w
  plan_work (planned perms) =
      let (v, is) = perms_work perms in
      (added (work (finite.len (files_in_use files perms)) 0 0) v, (v, is, refl))
  plan_work (refused broken) = (work (text_count (finite.get files resolver_path)) 0 0, refl)

  work_under : (r : Result Settings ConfigFault) → (w : Work) × WorkUnder files r w
  work_under (Ok settings) =
      let (plan, plans) = laws.plan (finite.get files resolver_path) in
      let (w, is) = plan_work plan in
      (w, (plan, plans, is))
  work_under (Err broken) = (work 0 0 0, refl)

pub each_builds : BuildLaws → EachBuilds
each_builds laws files texts = builds_under laws files texts (settings_of files) refl

pub each_works : BuildLaws → EachWorks
each_works laws files = work_under laws files (settings_of files)
