-- Trees of permutations that are accepted, and what is known of them.
use Rattle.std.proofs.Common.{◌≡◌, ◌≢◌, ◌<◌, ◌≤◌, ◌∙◌, inl, inr, map, ℕ, true, false, List, [], ◌∷◌, ◌++◌, length, Option, Some, None, Result, Ok, Err, refl, sym, ap, subst, arith}
use Rattle.std.specs.Cmp.Lexicographic.{nat_list_cmp_total}
use Rattle.std.specs.FinMap as finite
use Rattle.std.specs.FinMap.{slice_cmp-IsAntisymmetric, nat_cmp-IsAntisymmetric}
use Rattle.std.specs.List.{AllZip, flat_map, zip}
use Rattle.std.specs.Prelude.{option_and_then, option_map, unwrap_or}
use Rattle.std.proofs.lemmas.Cmp.{lists_total}
use Rattle.ring.specs.Lists.{In}
use Rattle.tk_io.specs.FilesData.{FilesData}
use Rattle.edit_script.specs.Script.{is_path}
use Rattle.name_path.specs.declared.place.Place.{Place}
use Rattle.token_tree.specs.Tree.{Group}
use Rattle.group_inherit.specs.Answer.{IsTreeBreak}
use Rattle.group_inherit.specs.Flattening.{Flattened, TokenAt}
use Rattle.group_inherit.specs.Merging.{merged}
use Rattle.group_inherit.specs.declared.fault.TreeFault.{TreeFault}
use Rattle.group_inherit.specs.declared.fault.TreeFault.TheVariants as fault
use Rattle.group_inherit.specs.Span.{span_at}
use Rattle.alias_ref.specs.Laws.{Flat}
use Rattle.alias_ref.specs.Span.{span_below, span_in}
use Rattle.alias_ref.specs.Visits.{walk_break}
use Rattle.alias_ref.specs.Written.{Step, is_written, role_at, whole, written_at, written_in}
use Rattle.certificates.specs.Certificate.{is_permutation_name, most_offsets}
use Rattle.explain.specs.Laws.{HasLines}
use Rattle.explain.specs.Needs.{AreUnbroken}
use Rattle.permutations.specs.Permutation.{Permutation, TokenSource}
use Rattle.file_plan.specs.InUse.{resolver_path}
use Rattle.file_plan.specs.Plan.{Planned, planned, refused, Plans}
use Rattle.source_trees.specs.MergedTokens.{IsFlatOf, IsTextOfFile, PathsAreOfTokens, TokensStandInFiles}
use Rattle.source_trees.specs.Sources.{SourcesFound}
use Rattle.transforms.specs.Config.{Settings}
use Rattle.transforms.specs.declared.config.ConfigFault.{ConfigFault}
use Rattle.refusals.specs.Refusal.{Report}
use Rattle.token_cells.specs.Breaks.{Celled, cell_reports, name_clashes, place_in}
use Rattle.token_cells.specs.Cell.{IsCell}
use Rattle.token_cells.specs.TokenCell.{TokenCell, Made, Refused}
use Rattle.tree_changes.proofs.MapEntries.{entry_there}
use Rattle.build_plain.specs.Breaks.{Finds, InTokens, home_by, home_of, source_report, tokens_path}
use Rattle.build_plain.specs.Names.{HaveUtf8Resolver, PermutationsAreNamed}
use Rattle.build_plain.specs.OneTree.{ComesTo, ComesToBy, ComesToUnder, HasTree, LacksTree, by_source, by_tree, has_tree, no_tree}
use Rattle.build_plain.specs.Out.{settings_of}
use Rattle.build_plain.specs.Printed.{LiesInToken, PlacesLieInTokens}
use Rattle.explain_cli.specs.Answered.{HasBreak, IsAccepted, IsPlanned}
use Rattle.explain_cli.specs.inner.Judging.{AreShort, IsFit, IsWeighed}

some_same : {X : Type 0} {x y : X} → Some x ≡ Some y → x ≡ y
some_same e = cc

none_some : {X P : Type 0} {x : X} → None ≡ Some x → P
none_some e = absurd (cc)

-- The permutation of a name.

-- the permutation of the name, and what holds of it
record Chosen (files : FilesData) (name : List ℕ) (claim : Permutation → Type 0) : Type 0 where
  settings : Settings
  perm : Permutation
  is_planned : IsPlanned files settings name perm
  holds : claim perm

module _ (files : FilesData) (name : List ℕ) where
  tree_planned : (settings : Settings) (flat : Flat) → settings_of files ≡ Ok settings → (p : Planned) → Plans (finite.get files resolver_path) p → ComesToBy files p name (has_tree flat)
      → Chosen files name (λ p. HasTree files p flat)
  tree_planned settings flat configured (planned perms) plans (p, named, has) =
      record { settings = settings; perm = p; is_planned = record { configured = configured; perms = perms; plan = plans; named = named }; holds = has }
  tree_planned settings flat configured (refused broken) plans what = absurd (cc)

  tree_under : (flat : Flat) (s : Result Settings ConfigFault) → settings_of files ≡ s → ComesToUnder files s name (has_tree flat) → Chosen files name (λ p. HasTree files p flat)
  tree_under flat (Ok settings) configured (p, plans, by) = tree_planned settings flat configured p plans by
  tree_under flat (Err broken) configured what = absurd (cc)

  tree_chosen : (flat : Flat) → ComesTo files name (has_tree flat) → Chosen files name (λ p. HasTree files p flat)
  tree_chosen flat what = tree_under flat (settings_of files) refl what

  pub has_settings : (flat : Flat) → ComesTo files name (has_tree flat) → (settings : Settings) × (settings_of files ≡ Ok settings)
  has_settings flat what = let c = tree_chosen flat what in (c.settings, c.is_planned.configured)

  -- what is found where the tree has these cells
  found_in : (settings : Settings) (p : Permutation) (flat : Flat) → HasTree files p flat → (cells : List TokenCell) (breaks : List Report) → InTokens settings flat cells breaks → Finds settings files p cells breaks
  found_in settings p flat has cells breaks tokens =
      ([], has.is_flat.trees, has.is_flat.unbroken, inr (flat, has.sound, has.is_flat.is_flat, tokens))

  pub accepted : (flat same : Flat) → ComesTo files name (has_tree flat) → ((settings : Settings) → settings_of files ≡ Ok settings → IsWeighed settings flat (Some same)) → IsAccepted files name same
  accepted flat same what weighed =
      let c = tree_chosen flat what in
      let w = weighed c.settings c.is_planned.configured in
      subst (IsAccepted files name) (sym w.0)
      (record {
        settings = c.settings;
        perm = c.perm;
        is_planned = c.is_planned;
        cells = w.1.0;
        unbroken = found_in c.settings c.perm flat c.holds w.1.0 [] w.1.1;
        is_flat = c.holds.is_flat;
      })

  pub token_breaks : (flat : Flat) → ComesTo files name (has_tree flat) → ((settings : Settings) → settings_of files ≡ Ok settings → IsWeighed settings flat None) → HasBreak files name
  token_breaks flat what weighed =
      let c = tree_chosen flat what in
      let (cells, first, others, tokens) = weighed c.settings c.is_planned.configured in
      record {
        settings = c.settings;
        perm = c.perm;
        is_planned = c.is_planned;
        cells = cells;
        first = first;
        others = others;
        broken = found_in c.settings c.perm flat c.holds cells (first ∷ others) tokens;
      }

  -- A permutation without a flat tree has a break.

  lack_planned : (settings : Settings) → settings_of files ≡ Ok settings → (p : Planned) → Plans (finite.get files resolver_path) p → ComesToBy files p name no_tree → Chosen files name (LacksTree files)
  lack_planned settings configured (planned perms) plans (p, named, lacks) =
      record { settings = settings; perm = p; is_planned = record { configured = configured; perms = perms; plan = plans; named = named }; holds = lacks }
  lack_planned settings configured (refused broken) plans what = absurd (cc)

  lack_under : (s : Result Settings ConfigFault) → settings_of files ≡ s → ComesToUnder files s name no_tree → Chosen files name (LacksTree files)
  lack_under (Ok settings) configured (p, plans, by) = lack_planned settings configured p plans by
  lack_under (Err broken) configured what = absurd (cc)

  told : (settings : Settings) (p : Permutation) → IsPlanned files settings name p → (first : Report) (others : List Report) → Finds settings files p [] (first ∷ others) → HasBreak files name
  told settings p is_planned first others found =
      record { settings = settings; perm = p; is_planned = is_planned; cells = []; first = first; others = others; broken = found }

  tree_told : (settings : Settings) (p : Permutation) → IsPlanned files settings name p → (trees : List Group) → SourcesFound files (home_of files) p.sources [] trees
      → (broken : TreeFault) → broken ≢ fault.NoMemory → IsTreeBreak (merged trees) broken → HasBreak files name
  tree_told settings p is_planned trees found (fault.ExtendsTarget group span) some is =
      told settings p is_planned _ [] ([], trees, found, inl (fault.ExtendsTarget group span, some, is, refl, refl))
  tree_told settings p is_planned trees found (fault.ExtendsCycle ring span) some is =
      told settings p is_planned _ [] ([], trees, found, inl (fault.ExtendsCycle ring span, some, is, refl, refl))
  tree_told settings p is_planned trees found (fault.TooManyTokens n) some is =
      told settings p is_planned _ [] ([], trees, found, inl (fault.TooManyTokens n, some, is, refl, refl))
  tree_told settings p is_planned trees found (fault.TooHigh n) some is =
      told settings p is_planned _ [] ([], trees, found, inl (fault.TooHigh n, some, is, refl, refl))
  tree_told settings p is_planned trees found fault.NoMemory some is = absurd (some refl)

  lack_told : (settings : Settings) (p : Permutation) → IsPlanned files settings name p → LacksTree files p → HasBreak files name
  lack_told settings p is_planned (by_source b bs trees found) = told settings p is_planned (source_report b) (map source_report bs) (b ∷ bs, trees, found, (refl, refl))
  lack_told settings p is_planned (by_tree broken trees found some is) = tree_told settings p is_planned trees found broken some is

  pub tree_breaks : ComesTo files name no_tree → HasBreak files name
  tree_breaks what = let c = lack_under (settings_of files) refl what in lack_told c.settings c.perm c.is_planned c.holds

-- No token of a tree without a break breaks a rule of references.

-- where no token is, nothing is written
none_there : (flat : Flat) (p : Place) → finite.get flat p.token ≡ None → written_in flat p ≡ None
unfolding written_in
none_there flat p e = ap (option_and_then (λ (f : Flattened). written_at f.def p.trail)) e

nothing_joined : (xs ys : List Report) → xs ++ ys ≡ [] → (xs ≡ []) × (ys ≡ [])
nothing_joined [] ys e = (refl, e)
nothing_joined (x ∷ xs) ys e = absurd (cc)

module _ (settings : Settings) (flat : Flat) where
  cell_walks : (token : TokenAt) (cell : TokenCell) → IsCell flat settings token.0 cell → cell_reports flat (token, cell) ≡ [] → walk_break (written_in flat) token.0 ≡ None
  cell_walks token (Refused rule place ring) is e = absurd (cc)
  cell_walks token (Made css android ios json) is e = is.value.meant.unbroken

  all_walk : (ts : List TokenAt) (cs : List TokenCell) → AllZip (λ token cell. IsCell flat settings token.0 cell) ts cs → flat_map (cell_reports flat) (zip ts cs) ≡ []
      → (token : TokenAt) → In token ts → walk_break (written_in flat) token.0 ≡ None
  all_walk [] cs all e token i = absurd i
  all_walk (t ∷ ts) [] all e token i = absurd all
  all_walk (t ∷ ts) (c ∷ cs) all e token (inl same) =
      subst (λ (x : TokenAt). walk_break (written_in flat) x.0 ≡ None) (sym same)
      (cell_walks t c all.0 (nothing_joined (cell_reports flat (t, c)) (flat_map (cell_reports flat) (zip ts cs)) e).0)
  all_walk (t ∷ ts) (c ∷ cs) all e token (inr i) =
      all_walk ts cs all.1 (nothing_joined (cell_reports flat (t, c)) (flat_map (cell_reports flat) (zip ts cs)) e).1 token i

  unbroken : (cells : List TokenCell) → InTokens settings flat cells [] → AreUnbroken flat
  unbroken cells (are, none) token written = at (finite.get flat token) refl
    where
      es : List Celled
      es = zip (finite.entries flat) cells

      at : (o : Option Flattened) → finite.get flat token ≡ o → walk_break (written_in flat) token ≡ None
      at None e = absurd (not_written (ap is_written (none_there flat (whole token) e)))
        where
          not_written : is_written (written_in flat (whole token)) ≡ false → ⊥
          not_written f = cc
      at (Some f) e =
          all_walk (finite.entries flat) cells are (nothing_joined (flat_map (cell_reports flat) es) (name_clashes es) (sym none)).0 (token, f)
          (entry_there (lists_total nat_list_cmp_total) (slice_cmp-IsAntisymmetric (slice_cmp-IsAntisymmetric nat_cmp-IsAntisymmetric)) flat token f e)

-- The tokens of short files have a place in lines.

-- the laws of the layers below that are needed
pub record Laws : Type 0 where
  pub paths : PathsAreOfTokens
  pub in_files : TokensStandInFiles
  pub places : PlacesLieInTokens
  pub names : PermutationsAreNamed

abbrev IsShort : List ℕ → List ℕ → Type 0
IsShort path text = (is_path path ≡ true) × (length text < most_offsets)

short_nothing : 0 < most_offsets
short_nothing = let m : most_offsets ≡ 4294967296 = refl in omega (arith, m)

module _ (files : FilesData) (short : AreShort files) where
  text_short : (o : Option (List ℕ)) → finite.get files tokens_path ≡ o → length (unwrap_or o []) < most_offsets
  text_short None e = short_nothing
  text_short (Some text) e = (short tokens_path text e).1

  home_short : (o : Option (List ℕ)) → finite.get files resolver_path ≡ o → IsShort (home_by files o).file (home_by files o).text
  home_short None e = (refl, text_short (finite.get files tokens_path) refl)
  home_short (Some text) e = (refl, (short resolver_path text e).1)

  file_short : (file text : List ℕ) → IsTextOfFile files (home_of files) file text → IsShort file text
  file_short file text (inl there) = short file text there
  file_short file text (inr (same, same_text)) =
      let home = home_short (finite.get files resolver_path) refl in
      (subst (λ f. is_path f ≡ true) (sym same) home.0, subst (λ (t : List ℕ). length t < most_offsets) (sym same_text) home.1)

  module _ (laws : Laws) (sources : List TokenSource) (flat : Flat) (is_flat : IsFlatOf files (home_of files) sources flat) where
    def_short : (path : List Step) (f : Flattened) → finite.get flat path ≡ Some f → (is_path f.def.file ≡ true) × (f.def.end < most_offsets)
    def_short path f e =
        let stands = laws.in_files files (home_of files) sources flat is_flat path f e in
        let is = file_short f.def.file stands.text stands.of_file in
        (is.0, omega (arith, stands.within, is.1))

    offsets_short : (p : Place) (start end : ℕ) → span_in flat p ≡ Some (start, end) → (start < most_offsets) × (end < most_offsets)
    offsets_short p start end h = at (finite.get flat p.token) refl
      where
        span_of : Flattened → ℕ × ℕ
        span_of f = span_below (role_at f.def.by_ref []) f.def.value p.trail

        at : (o : Option Flattened) → finite.get flat p.token ≡ o → (start < most_offsets) × (end < most_offsets)
        at None e = none_some (sym (ap (option_map span_of) e) ∙ h)
        at (Some f) e =
            let lies = subst (LiesInToken f) (ap (λ (o : Option Flattened). unwrap_or (option_map (λ x. place_in x p) o) (span_at [] 0 0)) e) (laws.places files (home_of files) sources flat is_flat p f e) in
            let pair : ℕ × ℕ = (start, end) in
            let same : span_of f ≡ pair = some_same (sym (ap (option_map span_of) e) ∙ h) in
            let is_start : (span_of f).0 ≡ start = ap (λ (s : ℕ × ℕ). s.0) same in
            let is_end : (span_of f).1 ≡ end = ap (λ (s : ℕ × ℕ). s.1) same in
            let rises : (span_of f).0 ≤ (span_of f).1 = lies.rises in
            let ends : (span_of f).1 ≤ f.def.end = lies.ends in
            let below = (def_short p.token f e).1 in
            (omega (arith, is_start, is_end, rises, ends, below), omega (arith, is_end, ends, below))

    has_lines : HasLines flat
    has_lines = record {
      tokens = λ path f e. laws.paths files (home_of files) sources flat is_flat (path, f)
          (entry_there (lists_total nat_list_cmp_total) (slice_cmp-IsAntisymmetric (slice_cmp-IsAntisymmetric nat_cmp-IsAntisymmetric)) flat path f e);
      files = λ path f e. (def_short path f e).0;
      offsets = offsets_short;
    }

-- what is known of a tree that is accepted
pub is_fit : Laws → (files : FilesData) → AreShort files → HaveUtf8Resolver files → (name : List ℕ) (flat same : Flat) → ComesTo files name (has_tree flat)
    → ((settings : Settings) → settings_of files ≡ Ok settings → IsWeighed settings flat (Some same)) → IsFit name same
is_fit laws files short utf8 name flat same what weighed =
    let c = tree_chosen files name flat what in
    let w = weighed c.settings c.is_planned.configured in
    let plan = c.is_planned in
    subst (IsFit name) (sym w.0)
    (record {
      unbroken = unbroken c.settings flat w.1.0 w.1.1;
      lines = has_lines files short laws c.perm.sources flat c.holds.is_flat;
      named = subst (λ n. is_permutation_name n ≡ true) plan.named.same (laws.names files plan.perms utf8 plan.plan c.perm plan.named.among);
    })
