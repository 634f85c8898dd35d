-- Each break of files lies in the text of the file that is named.
use Rattle.std.proofs.Common.{arith, ◌≡◌, ◌⊎◌, ◌≤◌, ℕ, ◌+◌, Bool, true, false, List, [], ◌∷◌, ◌++◌, map, Option, Some, None, Ok, Err, MatchOption, if◌then◌else◌, option_map, unwrap_or, length, codes, inl, inr, refl, sym, ap, ap₂, subst, ◌∙◌}
use Rattle.std.proofs.lemmas.Cmp.{lists_total}
use Rattle.std.specs.Cmp.Lexicographic.{nat_list_cmp_total}
use Rattle.std.specs.FinMap as finite
use Rattle.std.specs.FinMap.{slice_cmp-IsAntisymmetric, nat_cmp-IsAntisymmetric}
use Rattle.std.specs.List.{AllZip, AllByRecursion, flat_map, zip}
use Rattle.std.specs.Str.{bytes_eq}
use Rattle.ring.specs.Lists.{In}
use Rattle.ring.proofs.Ends.{in_cases}
use Rattle.json_span.specs.Answer.{Answer, IsAnswer, shows, flawed, stops}
use Rattle.json_span.specs.Flaw.{Flaw, equal_names, too_deep}
use Rattle.json_span.specs.FlawLaws.{FirstIsLeast}
use Rattle.json_span.specs.Parts.{moved}
use Rattle.json_span.specs.Reading.{Shows}
use Rattle.json_span.specs.Tree.{a_null, a_boolean, a_number, a_string, an_array, an_object, Placed, placed, Entry, tree_of, start_of, end_of, elements_in, entries_in, value_of_name}
use Rattle.name_path.specs.declared.place.Place.{Place}
use Rattle.resolver_doc.specs.Form.{entries_at}
use Rattle.permutations.specs.Laws.{IsNamedBy, FilesAreNamed}
use Rattle.permutations.specs.Permutation as perm
use Rattle.permutations.specs.Permutation.{TokenSource, Permutation, permutations}
use Rattle.file_plan.specs.InUse.{resolver_path}
use Rattle.file_plan.specs.Laws.{InlinesStand, IsTold, told_stop, told_flaw, told_rule, told_many, told_long, RefusalsTell, PlannedBreakNone}
use Rattle.file_plan.specs.Plan.{PlanBreak, planned, refused, default_plan, order_start, order_end, Plans}
use Rattle.token_tree.specs.Promise.{IsDefinition, StandsIn}
use Rattle.token_tree.specs.Shape as shape
use Rattle.token_tree.specs.Shape.{shape_breaks, shape_of, token_value, extension_at, target_in}
use Rattle.token_tree.specs.Tree.{Definition, Extension, Group}
use Rattle.group_inherit.specs.Answer.{IsTreeBreak}
use Rattle.group_inherit.specs.Flattening.{Flattened, TokenAt}
use Rattle.group_inherit.specs.Merging.{merged_over, empty_group}
use Rattle.group_inherit.specs.Span.{Span, span_at, span_of}
use Rattle.group_inherit.specs.declared.fault.TreeFault.{TreeFault}
use Rattle.group_inherit.specs.declared.fault.TreeFault.TheVariants as fault
use Rattle.alias_ref.specs.Laws.{Flat}
use Rattle.alias_ref.specs.Span.{span_of_value, span_below}
use Rattle.alias_ref.specs.Written.{Step, Role, written_as, role_behind, role_at, is_reference, Parts, parts_by_index, parts_by_name, parts_of, part_under, part_behind}
use Rattle.tree_changes.proofs.MapEntries.{entry_found}
use Rattle.transforms.proofs.NamesApart.{from_flat}
use Rattle.tk_io.specs.FilesData.{FilesData}
use Rattle.source_trees.specs.MergedTokens.{IsFlatOf, IsTextOfFile, TokensAreDefinitions, TokensStandInFiles}
use Rattle.source_trees.specs.Merging.{InlineStands, AllInlineStand}
use Rattle.source_trees.specs.Sources.{HomeAt, BreakAt, break_at, shape_break, flaw_break, answer_breaks, answer_trees, FoundIn, SourceFound, SourcesFound}
use Rattle.source_trees.specs.declared.source.SourceFault.TheVariants.{Missing, Syntax, Shape}
use Rattle.transforms.specs.Clash.{Taken, first_taken}
use Rattle.transforms.specs.Config.{Settings}
use Rattle.transforms.specs.declared.config.ConfigFault.{ConfigFault}
use Rattle.transforms.specs.declared.config.ConfigFault.TheVariants as config
use Rattle.transforms.specs.declared.platform.Platform.{Platform}
use Rattle.transforms.specs.declared.platform.Platform.TheVariants.{Css, Android, Swift}
use Rattle.refusals.specs.Planning.{flaw_report, plan_report}
use Rattle.refusals.specs.Refusal.{Report, report, file_text, refusal_text, detail_lines, report_text, of_key}
use Rattle.refusals.specs.declared.rule.Rule.TheVariants as rule
use Rattle.token_cells.specs.Breaks.{place_in, place_span, token_report, Celled, cell_reports, names_on, clash_report, clash_reports, taken_behind, clashes_from, clashes_on, name_clashes}
use Rattle.token_cells.specs.Cell.{TokenPath, token_break, IsCell}
use Rattle.token_cells.specs.Laws.{BreaksHavePlaces}
use Rattle.token_cells.specs.TokenCell.{TokenCell, Refused, Made}
use Rattle.build_plain.specs.Breaks.{tokens_path, home_by, home_of, source_report, first_file, tree_reports, InTokens, InTree, InTrees, Finds}
use Rattle.build_plain.specs.Out.{config_path, config_reports, settings_by, settings_of}
use Rattle.build_plain.specs.inner.Making.{AllStand}
use Rattle.build_plain.specs.Printed.{SpanLies, ReportLies, LacksTokens, IsBreakOf, of_config, of_plan, of_permutation, BreaksLieInFiles, LinesAreOfFiles, LiesInToken, PlacesLieInTokens}
use Rattle.build_plain.proofs.ExtensionsStand.{Extend, merged_in, lost_holds, ring_holds, shape_extends}
use Rattle.build_plain.proofs.SpansInText.{IsWithin, SpansIn, shown_in, moved_in, span_within, part_in, elements_all, entries_all, under_name, at_entries, FlawIn, flaw_in}
use Rattle.build_plain.proofs.SpansOfDocuments.{told_in}
use Rattle.build_plain.proofs.SpansOfShapes.{all_entries, shape_in}
use Rattle.build_plain.proofs.Stands.{all_stand}

-- Places in a token.

module _ (low high : ℕ) where
  abbrev PartIn : Step × Placed → Type 0
  PartIn p = SpansIn low high p.1

  items_in : (i : ℕ) (ns : List Placed) → ((m : Placed) → In m ns → SpansIn low high m) → AllByRecursion PartIn (parts_by_index i ns)
  items_in i [] all = tt
  items_in i (n ∷ ns) all = (all n (inl refl), items_in (i + 1) ns (λ m j. all m (inr j)))

  values_in : (es : List Entry) → ((e : Entry) → In e es → SpansIn low high e.value) → AllByRecursion PartIn (parts_by_name es)
  values_in [] all = tt
  values_in (e ∷ es) all = (all e (inl refl), values_in es (λ x j. all x (inr j)))

  parts_in : (n : Placed) → SpansIn low high n → AllByRecursion PartIn (parts_of (tree_of n))
  parts_in (placed a_null start end) s = tt
  parts_in (placed (a_boolean b) start end) s = tt
  parts_in (placed (a_number k) start end) s = tt
  parts_in (placed (a_string t) start end) s = tt
  parts_in (placed (an_array ns) start end) s = items_in 0 (elements_in ns) (elements_all low high ns s.3)
  parts_in (placed (an_object ms) start end) s = values_in (entries_in ms) (λ e i. (entries_all low high ms s.3 e i).value)

  under_in : (s : Step) (ps : Parts) (m : Placed) → AllByRecursion PartIn ps → part_under s ps ≡ Some m → SpansIn low high m
  under_in s [] m all e = cc
  under_in s (p ∷ ps) m all e = go (bytes_eq p.0 s) e (under_in s ps m all.1)
    where
      go : (b : Bool) → (if b then Some p.1 else part_under s ps) ≡ Some m → (part_under s ps ≡ Some m → SpansIn low high m) → SpansIn low high m
      go true k later = (let same : p.1 ≡ m = cc in subst (SpansIn low high) same all.0)
      go false k later = later k

  abbrev PairIn : ℕ × ℕ → Type 0
  PairIn p = IsWithin low high p.0 p.1

  below_in : (role : Role) (n : Placed) (trail : List Step) → SpansIn low high n → PairIn (span_below role n trail)
  unfolding span_below
  below_in role n [] p = span_within low high n p
  below_in role n (s ∷ trail) p =
      go (is_reference (Some (written_as role (tree_of n)))) (part_behind n s) (λ m e. below_in (role_behind s) m trail (under_in s (parts_of (tree_of n)) m (parts_in n p) e))
    where
      go : (b : Bool) (o : Option Placed) → ((m : Placed) → o ≡ Some m → PairIn (span_below (role_behind s) m trail))
          → PairIn (if b then span_of_value n else unwrap_or (option_map (λ m. span_below (role_behind s) m trail) o) (span_of_value n))
      go true o later = span_within low high n p
      go false None later = span_within low high n p
      go false (Some m) later = later m refl

-- a definition's value stands in it
value_stands : (def : Definition) → IsDefinition def → SpansIn def.start def.end def.value
value_stands def is =
    let value : SpansIn 0 (length def.source) (token_value is.object) = of_ref (value_of_name (codes "$ref") (shape.entries_at is.object)) refl in
    let away : SpansIn (def.start + 0) (def.start + length def.source) (moved def.start (token_value is.object)) = moved_in def.start 0 (length def.source) (token_value is.object) value in
    let low : def.start + 0 ≡ def.start = omega arith in
    subst (SpansIn def.start def.end) (sym (ap (λ (d : Definition). d.value) is.same))
    (subst (λ k. SpansIn def.start k (moved def.start (token_value is.object))) (sym is.long)
    (subst (λ k. SpansIn k (def.start + length def.source) (moved def.start (token_value is.object))) low away))
  where
    inner_in : SpansIn 0 (length def.source) is.object
    inner_in = shown_in def.source is.object is.shown

    named : (name : List ℕ) (n : Placed) → value_of_name name (shape.entries_at is.object) ≡ Some n → SpansIn 0 (length def.source) n
    named name n e = under_name 0 (length def.source) name (shape.entries_at is.object) n (all_entries 0 (length def.source) is.object inner_in) e

    of_value : (o : Option Placed) → value_of_name (codes "$value") (shape.entries_at is.object) ≡ o → SpansIn 0 (length def.source) (unwrap_or o is.object)
    of_value None e = inner_in
    of_value (Some n) e = named (codes "$value") n e

    of_ref : (o : Option Placed) → value_of_name (codes "$ref") (shape.entries_at is.object) ≡ o
        → SpansIn 0 (length def.source) (unwrap_or o (unwrap_or (value_of_name (codes "$value") (shape.entries_at is.object)) is.object))
    of_ref None e = of_value (value_of_name (codes "$value") (shape.entries_at is.object)) refl
    of_ref (Some n) e = named (codes "$ref") n e

-- what is told of a place of a token that is there
place_lies : (flat : Flat) (place : Place) (f : Flattened) → IsDefinition f.def → finite.get flat place.token ≡ Some f → LiesInToken f (place_span flat place)
place_lies flat place f is there =
    let span = span_below (role_at f.def.by_ref []) f.def.value place.trail in
    let w : IsWithin f.def.start f.def.end span.0 span.1 = below_in f.def.start f.def.end (role_at f.def.by_ref []) f.def.value place.trail (value_stands f.def is) in
    subst (LiesInToken f) (sym (ap (λ (o : Option Flattened). unwrap_or (option_map (λ x. place_in x place) o) (span_at [] 0 0)) there))
    (record { file = refl; begins = w.low_is; rises = w.rises; ends = w.high_is })

pub places_lie_in_tokens : TokensAreDefinitions → PlacesLieInTokens
places_lie_in_tokens definitions files home sources flat is place f there = place_lies flat place f (definitions files home sources flat is place.token f there) there

-- What is printed.

pub lines_are_of_files : LinesAreOfFiles
unfolding report_text
lines_are_of_files files r lies =
    ap (λ (o : Option (List ℕ)). refusal_text r.rule r.file (unwrap_or o []) r.start r.end ++ detail_lines r.details) lies.there

-- the laws of the layers below that are needed
pub record SpanLaws : Type 0 where
  pub flaws : FirstIsLeast
  pub tell : RefusalsTell
  pub planned : PlannedBreakNone
  pub named : FilesAreNamed
  pub stand : InlinesStand
  pub definitions : TokensAreDefinitions
  pub in_files : TokensStandInFiles
  pub places : BreaksHavePlaces

-- spans of a text that is there
lies : (files : FilesData) (file text : List ℕ) → finite.get files file ≡ Some text → (start end : ℕ) → IsWithin 0 (length text) start end → SpanLies files file start end
lies files file text there start end w = record { text = text; there = there; rises = w.rises; within = w.high_is }

begins : (files : FilesData) (file text : List ℕ) → finite.get files file ≡ Some text → SpanLies files file 0 0
begins files file text there = record { text = text; there = there; rises = omega arith; within = omega arith }

in_one : {A : Type 0} (holds : A → Type 0) (x y : A) → In x (y ∷ []) → holds y → holds x
in_one holds x y (inl same) h = subst holds (sym same) h
in_one holds x y (inr i) h = absurd i

-- Of the configuration.

module _ (files : FilesData) where
  ok_err : {A B : Type 0} {x : A} {e : B} → Ok x ≡ Err e → ⊥
  ok_err e = cc

  config_there : (broken : ConfigFault) (o : Option (List ℕ)) → finite.get files config_path ≡ o → settings_by o ≡ Err broken → (text : List ℕ) × (finite.get files config_path ≡ Some text)
  config_there broken None there e = absurd (ok_err e)
  config_there broken (Some text) there e = (text, there)

  whole_lies : (text : List ℕ) → finite.get files config_path ≡ Some text → SpanLies files config_path 0 (length (file_text files config_path))
  whole_lies text there =
      let same : file_text files config_path ≡ text = ap (λ (o : Option (List ℕ)). unwrap_or o []) there in
      let size : length (file_text files config_path) ≡ length text = ap (λ (t : List ℕ). length t) same in
      record { text = text; there = there; rises = omega arith; within = omega (arith, size) }

  config_lies : (broken : ConfigFault) (r : Report) → settings_of files ≡ Err broken → In r (config_reports (length (file_text files config_path)) broken) → ReportLies files r
  config_lies config.Toml r e i =
      let there = config_there config.Toml (finite.get files config_path) refl e in
      in_one (ReportLies files) r (report rule.ConfigToml config_path 0 (length (file_text files config_path)) []) i (whole_lies there.0 there.1)
  config_lies (config.Key key) r e i =
      let there = config_there (config.Key key) (finite.get files config_path) refl e in
      in_one (ReportLies files) r (report rule.ConfigKey config_path 0 (length (file_text files config_path)) (of_key key ∷ [])) i (whole_lies there.0 there.1)
  config_lies config.NoMemory r e i = absurd i

  -- Of a text.

  flaw_within : FirstIsLeast → (text : List ℕ) (f : Flaw) → IsAnswer text (flawed f) → FlawIn 0 (length text) f
  flaw_within first text f (n, shown, is) = flaw_in 0 (length text) (first text n f shown is).0 (shown_in text n shown)

  -- Of the plan.

  module _ (laws : SpanLaws) where
    flaw_lies : (text : List ℕ) (f : Flaw) → finite.get files resolver_path ≡ Some text → FlawIn 0 (length text) f → ReportLies files (flaw_report f)
    flaw_lies text (equal_names start end) there w = lies files resolver_path text there start end w
    flaw_lies text (too_deep start end) there w = lies files resolver_path text there start end w

    order_within : (text : List ℕ) (root : Placed) → Shows text root → IsWithin 0 (length text) (order_start root) (order_end root)
    order_within text root shown =
        go (value_of_name (codes "resolutionOrder") (entries_at root))
        (λ n e. span_within 0 (length text) n (under_name 0 (length text) (codes "resolutionOrder") (entries_at root) n (at_entries 0 (length text) root (shown_in text root shown)) e))
      where
        go : (o : Option Placed) → ((n : Placed) → o ≡ Some n → IsWithin 0 (length text) (start_of n) (end_of n))
            → IsWithin 0 (length text) (unwrap_or (option_map start_of o) 0) (unwrap_or (option_map end_of o) 0)
        go None h = record { low_is = omega arith; rises = omega arith; high_is = omega arith }
        go (Some n) h = h n refl

    told_lies : (text : List ℕ) (b : PlanBreak) → finite.get files resolver_path ≡ Some text → IsTold text b → ReportLies files (plan_report b)
    told_lies text b there (told_stop {at} is) = (let inner = is.stop.within_text in record { text = text; there = there; rises = omega arith; within = inner })
    told_lies text b there (told_flaw {f} is) = flaw_lies text f there (flaw_within laws.flaws text f is)
    told_lies text b there (told_rule {root = root} {b = told} {ring = ring} is first) =
        lies files resolver_path text there told.start told.end (told_in 0 (length text) root (shown_in text root is.0) told ring first)
    told_lies text b there (told_many {root} {n} is none many) = lies files resolver_path text there (order_start root) (order_end root) (order_within text root is.0)
    told_lies text b there (told_long {root} {n} is none many) = lies files resolver_path text there (order_start root) (order_end root) (order_within text root is.0)

    plan_lies : (b : PlanBreak) (o : Option (List ℕ)) → finite.get files resolver_path ≡ o → Plans o (refused b) → ReportLies files (plan_report b)
    plan_lies b None there is = absurd (unlike is)
      where
        unlike : refused b ≡ planned default_plan → ⊥
        unlike e = cc
    plan_lies b (Some text) there is = told_lies text b there (laws.tell text b is)

    -- Of a permutation.

    abbrev Lies : Report → Type 0
    Lies r = ReportLies files r ⊎ LacksTokens files r

    -- the files of a permutation's sources: they are named in a document that is there, or there is none
    data IsHome (p : Permutation) : Type 0 where
      in_document : {document : List ℕ} {root : Placed} → finite.get files resolver_path ≡ Some document → Shows document root
          → ((name : List ℕ) (start end : ℕ) → In (perm.file name start end) p.sources → IsNamedBy root name start end) → IsHome p
      without : finite.get files resolver_path ≡ None → p.sources ≡ perm.file tokens_path 0 0 ∷ [] → IsHome p

    home_is : (perms : List Permutation) (p : Permutation) (o : Option (List ℕ)) → finite.get files resolver_path ≡ o → Plans o (planned perms) → In p perms → IsHome p
    home_is perms p None there is i =
        without there (sources (subst (λ (ps : List Permutation). In p ps) (same is) i))
      where
        same : planned perms ≡ planned default_plan → perms ≡ default_plan
        same e = cc

        sources : In p default_plan → p.sources ≡ perm.file tokens_path 0 0 ∷ []
        sources (inl e) = ap (λ (q : Permutation). q.sources) e
        sources (inr j) = absurd j
    home_is perms p (Some document) there is i =
        let plan = laws.planned document perms is in
        in_document there plan.shown.0 (λ name start end j. laws.named plan.root p (subst (λ (ps : List Permutation). In p ps) plan.planned_so i) name start end j)

    -- the breaks of one file
    mapped : {A B : Type 0} (f : A → B) (xs : List A) (y : B) → In y (map f xs) → (x : A) × In x xs × (y ≡ f x)
    mapped f [] y i = absurd i
    mapped f (x ∷ xs) y (inl e) = (x, inl refl, e)
    mapped f (x ∷ xs) y (inr i) = (let r = mapped f xs y i in (r.0, inr r.1, r.2))

    abbrev BreakLies : BreakAt → Type 0
    BreakLies b = SpanLies files b.file b.start b.end

    shapes_lie : (file text : List ℕ) (n : Placed) → finite.get files file ≡ Some text → SpansIn 0 (length text) n → (b : BreakAt) → In b (map (shape_break file) (shape_breaks n)) → BreakLies b
    shapes_lie file text n there s b i =
        let r = mapped (shape_break file) (shape_breaks n) b i in
        subst BreakLies (sym r.2) (lies files file text there r.0.start r.0.end (shape_in 0 (length text) n s r.0 r.1))

    flaws_lie : (file text : List ℕ) (f : Flaw) → finite.get files file ≡ Some text → FlawIn 0 (length text) f → BreakLies (flaw_break file f)
    flaws_lie file text (equal_names start end) there w = lies files file text there start end w
    flaws_lie file text (too_deep start end) there w = lies files file text there start end w

    answers_lie : (file text : List ℕ) (answer : Answer) → finite.get files file ≡ Some text → IsAnswer text answer → (b : BreakAt) → In b (answer_breaks file answer) → BreakLies b
    answers_lie file text (shows n) there is b i = shapes_lie file text n there (shown_in text n is.0) b i
    answers_lie file text (flawed f) there is b i = in_one BreakLies b (flaw_break file f) i (flaws_lie file text f there (flaw_within laws.flaws text f is))
    answers_lie file text (stops at) there is b i =
        let inner = is.stop.within_text in
        in_one BreakLies b (break_at Syntax file at at) i (record { text = text; there = there; rises = omega arith; within = inner })

    -- the file that names the sources
    home_document : (document : List ℕ) → finite.get files resolver_path ≡ Some document → home_of files ≡ record { file = resolver_path; text = document }
    home_document document there = ap (home_by files) there

    home_default : finite.get files resolver_path ≡ None → home_of files ≡ record { file = tokens_path; text = file_text files tokens_path }
    home_default none = ap (home_by files) none

    abbrev SourceLies : BreakAt → Type 0
    SourceLies b = Lies (source_report b)

    module _ (p : Permutation) (is_home : IsHome p) (stand : AllInlineStand (home_of files).text p.sources) where
      missing_lies : (name : List ℕ) (start end : ℕ) → In (perm.file name start end) p.sources → finite.get files name ≡ None → SourceLies (break_at Missing (home_of files).file start end)
      missing_lies name start end i none = by_home is_home
        where
          only : p.sources ≡ perm.file tokens_path 0 0 ∷ [] → (name ≡ tokens_path) × (start ≡ 0) × (end ≡ 0)
          only e = one (subst (λ (ss : List TokenSource). In (perm.file name start end) ss) e i)
            where
              one : In (perm.file name start end) (perm.file tokens_path 0 0 ∷ []) → (name ≡ tokens_path) × (start ≡ 0) × (end ≡ 0)
              one (inl same) = (cc, cc, cc)
              one (inr j) = absurd j

          by_home : IsHome p → SourceLies (break_at Missing (home_of files).file start end)
          by_home (in_document {document} {root} there shown named) =
              let is = named name start end i in
              let w = span_within 0 (length document) is.string (part_in 0 (length document) is.part (shown_in document root shown)) in
              let span : IsWithin 0 (length document) start end = subst (λ k. IsWithin 0 (length document) k end) (sym is.start_is) (subst (λ k. IsWithin 0 (length document) (start_of is.string) k) (sym is.end_is) w) in
              inl (subst (λ (h : HomeAt). ReportLies files (source_report (break_at Missing h.file start end))) (sym (home_document document there)) (lies files resolver_path document there start end span))
          by_home (without no_document sources) =
              let r = only sources in
              inr (record {
                no_document = no_document;
                no_tokens = subst (λ (n : List ℕ). finite.get files n ≡ None) r.0 none;
                told = ap (λ (h : HomeAt). source_report (break_at Missing h.file start end)) (home_default no_document)
                    ∙ ap₂ (λ s e. source_report (break_at Missing tokens_path s e)) r.1 r.2;
              })

      source_lies : (s : TokenSource) → In s p.sources → InlineStands (home_of files).text s → (breaks : List BreakAt) (trees : List Group) → SourceFound files (home_of files) s breaks trees
          → (b : BreakAt) → In b breaks → SourceLies b
      source_lies (perm.file name start end) i stands breaks trees found b j = by_file (finite.get files name) refl found
        where
          by_file : (o : Option (List ℕ)) → finite.get files name ≡ o → MatchOption o ((breaks ≡ break_at Missing (home_of files).file start end ∷ []) × (trees ≡ [])) (λ text. FoundIn name text breaks trees) → SourceLies b
          by_file None none m =
              in_one SourceLies b (break_at Missing (home_of files).file start end) (subst (λ (bs : List BreakAt). In b bs) m.0 j) (missing_lies name start end i none)
          by_file (Some text) there (answer, is, broken, shown) = inl (answers_lie name text answer there is b (subst (λ (bs : List BreakAt). In b bs) broken j))
      source_lies (perm.inline n) i stands breaks trees found b j = by_home is_home
        where
          by_home : IsHome p → SourceLies b
          by_home (in_document {document} {root} there shown named) =
              let home = home_document document there in
              let at : StandsIn document n = subst (λ (h : HomeAt). StandsIn h.text n) home stands in
              let breaks_in : In b (map (shape_break resolver_path) (shape_breaks n)) =
              subst (λ (h : HomeAt). In b (map (shape_break h.file) (shape_breaks n))) home (subst (λ (bs : List BreakAt). In b bs) found.0 j) in
              inl (shapes_lie resolver_path document n there (part_in 0 (length document) at.part (shown_in document at.root at.shown)) b breaks_in)
          by_home (without none sources) = absurd (no_inline (subst (λ (ss : List TokenSource). In (perm.inline n) ss) sources i))
            where
              no_inline : In (perm.inline n) (perm.file tokens_path 0 0 ∷ []) → ⊥
              no_inline (inl e) = cc
              no_inline (inr k) = k

      sources_lie : (ss : List TokenSource) → ((s : TokenSource) → In s ss → In s p.sources) → AllInlineStand (home_of files).text ss → (breaks : List BreakAt) (trees : List Group)
          → SourcesFound files (home_of files) ss breaks trees → (b : BreakAt) → In b breaks → SourceLies b
      sources_lie [] into all breaks trees found b i = absurd (subst (λ (bs : List BreakAt). In b bs) found.0 i)
      sources_lie (s ∷ ss) into all breaks trees (bs, cs, ts, us, here, later, broken, shown) b i =
          go (λ j. sources_lie ss (λ x k. into x (inr k)) all.1 cs us later b j) (in_cases bs cs b (subst (λ (xs : List BreakAt). In b xs) broken i))
        where
          go : (In b cs → SourceLies b) → In b bs ⊎ In b cs → SourceLies b
          go later_lies (inl j) = source_lies s (into s (inl refl)) all.0 bs ts here b j
          go later_lies (inr j) = later_lies j

      -- what groups say of their targets
      abbrev StringLies : Extension → Type 0
      StringLies e = SpanLies files e.file e.start e.end

      string_lies : (file text : List ℕ) → finite.get files file ≡ Some text → (n : Placed) → SpansIn 0 (length text) n → (e : Extension) → extension_at file n ≡ Some e → StringLies e
      string_lies file text there n s e is = go (target_in (tree_of n)) is
        where
          go : (o : Option (List (List ℕ))) → option_map (λ path. record { target = path; file = file; start = start_of n; end = end_of n }) o ≡ Some e → StringLies e
          go None k = cc
          go (Some path) k = subst StringLies (same k) (lies files file text there (start_of n) (end_of n) (span_within 0 (length text) n s))
            where
              same : {x : Extension} → Some x ≡ Some e → x ≡ e
              same h = cc

      extends : (file text : List ℕ) (n : Placed) → finite.get files file ≡ Some text → SpansIn 0 (length text) n → Extend StringLies (shape_of file text n)
      extends file text n there s = shape_extends StringLies file text 0 (length text) (string_lies file text there) n s

      abbrev AllExtend : List Group → Type 0
      AllExtend trees = AllByRecursion (Extend StringLies) trees

      answer_extends : (file text : List ℕ) (answer : Answer) → finite.get files file ≡ Some text → IsAnswer text answer → AllExtend (answer_trees file text answer)
      answer_extends file text (shows n) there is = (extends file text n there (shown_in text n is.0), tt)
      answer_extends file text (flawed f) there is = tt
      answer_extends file text (stops at) there is = tt

      source_extends : (s : TokenSource) → In s p.sources → InlineStands (home_of files).text s → (breaks : List BreakAt) (trees : List Group) → SourceFound files (home_of files) s breaks trees → AllExtend trees
      source_extends (perm.file name start end) i stands breaks trees found = by_file (finite.get files name) refl found
        where
          by_file : (o : Option (List ℕ)) → finite.get files name ≡ o → MatchOption o ((breaks ≡ break_at Missing (home_of files).file start end ∷ []) × (trees ≡ [])) (λ text. FoundIn name text breaks trees) → AllExtend trees
          by_file None none m = subst AllExtend (sym m.1) tt
          by_file (Some text) there (answer, is, broken, shown) = subst AllExtend (sym shown) (answer_extends name text answer there is)
      source_extends (perm.inline n) i stands breaks trees found = by_home is_home
        where
          by_home : IsHome p → AllExtend trees
          by_home (in_document {document} {root} there shown named) =
              let home = home_document document there in
              let at : StandsIn document n = subst (λ (h : HomeAt). StandsIn h.text n) home stands in
              let tree : trees ≡ shape_of resolver_path document n ∷ [] = found.1 ∙ ap (λ (h : HomeAt). shape_of h.file h.text n ∷ []) home in
              subst AllExtend (sym tree) (extends resolver_path document n there (part_in 0 (length document) at.part (shown_in document at.root at.shown)), tt)
          by_home (without none sources) = absurd (no_inline (subst (λ (ss : List TokenSource). In (perm.inline n) ss) sources i))
            where
              no_inline : In (perm.inline n) (perm.file tokens_path 0 0 ∷ []) → ⊥
              no_inline (inl e) = cc
              no_inline (inr k) = k

      both_extend : (gs hs : List Group) → AllExtend gs → AllExtend hs → AllExtend (gs ++ hs)
      both_extend [] hs a b = b
      both_extend (g ∷ gs) hs a b = (a.0, both_extend gs hs a.1 b)

      sources_extend : (ss : List TokenSource) → ((s : TokenSource) → In s ss → In s p.sources) → AllInlineStand (home_of files).text ss → (breaks : List BreakAt) (trees : List Group)
          → SourcesFound files (home_of files) ss breaks trees → AllExtend trees
      sources_extend [] into all breaks trees found = subst AllExtend (sym found.1) tt
      sources_extend (s ∷ ss) into all breaks trees (bs, cs, ts, us, here, later, broken, shown) =
          subst AllExtend (sym shown) (both_extend ts us (source_extends s (into s (inl refl)) all.0 bs ts here) (sources_extend ss (λ x k. into x (inr k)) all.1 cs us later))

      -- where no source has a break

      none_first : (bs cs : List BreakAt) → [] ≡ bs ++ cs → bs ≡ []
      none_first [] cs e = refl
      none_first (b ∷ bs) cs e = cc

      found_there : (name : List ℕ) (start end : ℕ) (bs : List BreakAt) (ts : List Group) → bs ≡ [] → SourceFound files (home_of files) (perm.file name start end) bs ts → (text : List ℕ) × (finite.get files name ≡ Some text)
      found_there name start end bs ts none found = go (finite.get files name) refl found
        where
          go : (o : Option (List ℕ)) → finite.get files name ≡ o → MatchOption o ((bs ≡ break_at Missing (home_of files).file start end ∷ []) × (ts ≡ [])) (λ text. FoundIn name text bs ts)
              → (text : List ℕ) × (finite.get files name ≡ Some text)
          go None there m = absurd (some (sym none ∙ m.0))
            where
              some : {b : BreakAt} → [] ≡ b ∷ [] → ⊥
              some e = cc
          go (Some text) there m = (text, there)

      module _ (trees : List Group) (unbroken : SourcesFound files (home_of files) p.sources [] trees) where
        -- the file that names the sources is there
        home_there : finite.get files (home_of files).file ≡ Some (home_of files).text
        home_there = by_home is_home
          where
            text_there : (text : List ℕ) → finite.get files tokens_path ≡ Some text → finite.get files tokens_path ≡ Some (file_text files tokens_path)
            text_there text there = there ∙ ap Some (sym (ap (λ (o : Option (List ℕ)). unwrap_or o []) there))

            tokens_there : SourcesFound files (home_of files) (perm.file tokens_path 0 0 ∷ []) [] trees → (text : List ℕ) × (finite.get files tokens_path ≡ Some text)
            tokens_there (bs, cs, ts, us, here, later, broken, shown) = found_there tokens_path 0 0 bs ts (none_first bs cs broken) here

            by_home : IsHome p → finite.get files (home_of files).file ≡ Some (home_of files).text
            by_home (in_document {document} {root} there shown named) =
                subst (λ (h : HomeAt). finite.get files h.file ≡ Some h.text) (sym (home_document document there)) there
            by_home (without none sources) =
                let t = tokens_there (subst (λ (ss : List TokenSource). SourcesFound files (home_of files) ss [] trees) sources unbroken) in
                subst (λ (h : HomeAt). finite.get files h.file ≡ Some h.text) (sym (home_default none)) (text_there t.0 t.1)

        first_lies : SpanLies files (first_file (home_of files) p.sources) 0 0
        first_lies = go p.sources unbroken
          where
            go : (ss : List TokenSource) → SourcesFound files (home_of files) ss [] trees → SpanLies files (first_file (home_of files) ss) 0 0
            go [] found = begins files (home_of files).file (home_of files).text home_there
            go (perm.file name start end ∷ ss) (bs, cs, ts, us, here, later, broken, shown) =
                (let t = found_there name start end bs ts (none_first bs cs broken) here in begins files name t.0 t.1)
            go (perm.inline n ∷ ss) found = begins files (home_of files).file (home_of files).text home_there

        -- of the merged tree
        abbrev tree : Group
        tree = merged_over empty_group trees

        tree_extends : Extend StringLies tree
        tree_extends = merged_in StringLies empty_group trees (tt, tt) (sources_extend p.sources (λ s i. i) stand [] trees unbroken)

        span_lies : (span : Span) (e : Extension) → span ≡ span_of e → StringLies e → SpanLies files span.file span.start span.end
        span_lies span e same h = subst (λ (s : Span). SpanLies files s.file s.start s.end) (sym same) h

        tree_lies : (broken : TreeFault) → IsTreeBreak tree broken → (r : Report) → In r (tree_reports (first_file (home_of files) p.sources) broken) → ReportLies files r
        tree_lies (fault.ExtendsTarget group span) (e, is, same) r i =
            let told = span_lies span e same (lost_holds StringLies tree tree_extends (record { path = group; extension = e }) 0 is) in
            in_one (ReportLies files) r _ i told
        tree_lies (fault.ExtendsCycle ring span) (none, (is_ring, (e, is, same))) r i =
            let told = span_lies span e same (ring_holds StringLies tree tree_extends ring e is) in
            in_one (ReportLies files) r _ i told
        tree_lies (fault.TooManyTokens n) is r i = in_one (ReportLies files) r _ i first_lies
        tree_lies (fault.TooHigh n) is r i = in_one (ReportLies files) r _ i first_lies
        tree_lies fault.NoMemory is r i = absurd i

        -- of tokens
        module _ (settings : Settings) (flat : Flat) (is_flat : IsFlatOf files (home_of files) p.sources flat) where
          file_there : (file text : List ℕ) → IsTextOfFile files (home_of files) file text → finite.get files file ≡ Some text
          file_there file text (inl there) = there
          file_there file text (inr (file_is, text_is)) =
              subst (λ (f : List ℕ). finite.get files f ≡ Some text) (sym file_is) (home_there ∙ ap Some (sym text_is))

          def_lies : (path : TokenPath) (f : Flattened) → finite.get flat path ≡ Some f → SpanLies files f.def.file f.def.start f.def.end
          def_lies path f there =
              let stands = laws.in_files files (home_of files) p.sources flat is_flat path f there in
              let def = laws.definitions files (home_of files) p.sources flat is_flat path f there in
              let long = def.long in
              let inner = stands.within in
              record { text = stands.text; there = file_there f.def.file stands.text stands.of_file; rises = omega (arith, long); within = inner }

          in_def : (f : Flattened) (span : Span) → SpanLies files f.def.file f.def.start f.def.end → LiesInToken f span → SpanLies files span.file span.start span.end
          in_def f span d l =
              let rises = l.rises in
              let ends = l.ends in
              let inner = d.within in
              record { text = d.text; there = ap (finite.get files) l.file ∙ d.there; rises = rises; within = omega (arith, ends, inner) }

          found_entry : (token : TokenAt) → In token (finite.entries flat) → finite.get flat token.0 ≡ Some token.1
          found_entry token i =
              entry_found (lists_total nat_list_cmp_total) (slice_cmp-IsAntisymmetric (slice_cmp-IsAntisymmetric nat_cmp-IsAntisymmetric)) flat token.0 token.1 i

          zipped : (ts : List TokenAt) (cs : List TokenCell) → AllZip (λ token cell. IsCell flat settings token.0 cell) ts cs → (e : Celled) → In e (zip ts cs) → In e.0 ts × IsCell flat settings e.0.0 e.1
          zipped [] cs all e i = absurd i
          zipped (t ∷ ts) [] all e i = absurd i
          zipped (t ∷ ts) (c ∷ cs) all e (inl same) = (inl (ap (λ (x : Celled). x.0) same), subst (λ (x : Celled). IsCell flat settings x.0.0 x.1) (sym same) all.0)
          zipped (t ∷ ts) (c ∷ cs) all e (inr i) = (let r = zipped ts cs all.1 e i in (inr r.0, r.1))

          cell_lies : (token : TokenAt) (cell : TokenCell) → In token (finite.entries flat) → IsCell flat settings token.0 cell → (r : Report) → In r (cell_reports flat (token, cell)) → ReportLies files r
          cell_lies token (Refused broken place ring) i is r j =
              let b = token_break broken place ring in
              let at = laws.places flat settings token.0 token.1 b (found_entry token i) is in
              let lies_there = place_lies flat place at.0 (laws.definitions files (home_of files) p.sources flat is_flat place.token at.0 at.1) at.1 in
              in_one (ReportLies files) r (token_report flat token.0 b) j (in_def at.0 (place_span flat place) (def_lies place.token at.0 at.1) lies_there)
          cell_lies token (Made css android ios json) i is r j = absurd j

          clash_lies : (platform : Platform) (names : TokenCell → List (List ℕ)) (taken : Taken) (es : List Celled) → ((e : Celled) → In e es → In e.0 (finite.entries flat))
              → (r : Report) → In r (clashes_from platform names taken es) → ReportLies files r
          clash_lies platform names taken [] all r i = absurd i
          clash_lies platform names taken (e ∷ es) all r i =
              go (λ j. clash_lies platform names (taken_behind taken (names e.1) e.0.0 (first_taken taken (names e.1))) es (λ x k. all x (inr k)) r j)
              (in_cases (clash_reports platform e.0 (first_taken taken (names e.1))) (clashes_from platform names (taken_behind taken (names e.1) e.0.0 (first_taken taken (names e.1))) es) r i)
            where
              here : (o : Option TokenPath) → In r (clash_reports platform e.0 o) → ReportLies files r
              here None j = absurd j
              here (Some earlier) j = in_one (ReportLies files) r (clash_report platform e.0 earlier) j (def_lies e.0.0 e.0.1 (found_entry e.0 (all e (inl refl))))

              go : (In r (clashes_from platform names (taken_behind taken (names e.1) e.0.0 (first_taken taken (names e.1))) es) → ReportLies files r)
                  → In r (clash_reports platform e.0 (first_taken taken (names e.1))) ⊎ In r (clashes_from platform names (taken_behind taken (names e.1) e.0.0 (first_taken taken (names e.1))) es) → ReportLies files r
              go later (inl j) = here (first_taken taken (names e.1)) j
              go later (inr j) = later j

          on_lies : (platform : Platform) (es : List Celled) → ((e : Celled) → In e es → In e.0 (finite.entries flat)) → (r : Report) → In r (clashes_on platform es) → ReportLies files r
          on_lies platform es all r i = clash_lies platform (names_on platform) finite.empty es all r i

          names_lie : (es : List Celled) → ((e : Celled) → In e es → In e.0 (finite.entries flat)) → (r : Report) → In r (name_clashes es) → ReportLies files r
          names_lie es all r i = first (in_cases (clashes_on Css es) (clashes_on Android es ++ clashes_on Swift es) r i)
            where
              second : In r (clashes_on Android es) ⊎ In r (clashes_on Swift es) → ReportLies files r
              second (inl j) = on_lies Android es all r j
              second (inr j) = on_lies Swift es all r j

              first : In r (clashes_on Css es) ⊎ In r (clashes_on Android es ++ clashes_on Swift es) → ReportLies files r
              first (inl j) = on_lies Css es all r j
              first (inr j) = second (in_cases (clashes_on Android es) (clashes_on Swift es) r j)

          tokens_lie : (cells : List TokenCell) (breaks : List Report) → InTokens settings flat cells breaks → (r : Report) → In r breaks → ReportLies files r
          tokens_lie cells breaks (are, same) r i =
              go (in_cases (flat_map (cell_reports flat) (zip (finite.entries flat) cells)) (name_clashes (zip (finite.entries flat) cells)) r (subst (λ (rs : List Report). In r rs) same i))
            where
              of_cell : (e : Celled) × In e (zip (finite.entries flat) cells) × In r (cell_reports flat e) → ReportLies files r
              of_cell (e, j, k) = (let z = zipped (finite.entries flat) cells are e j in cell_lies e.0 e.1 z.0 z.1 r k)

              go : In r (flat_map (cell_reports flat) (zip (finite.entries flat) cells)) ⊎ In r (name_clashes (zip (finite.entries flat) cells)) → ReportLies files r
              go (inl j) = of_cell (from_flat (cell_reports flat) r (zip (finite.entries flat) cells) j)
              go (inr j) = names_lie (zip (finite.entries flat) cells) (λ e k. (zipped (finite.entries flat) cells are e k).0) r j

        in_tree_lies : (settings : Settings) (cells : List TokenCell) (breaks : List Report) → InTree settings (first_file (home_of files) p.sources) tree cells breaks → (r : Report) → In r breaks → ReportLies files r
        in_tree_lies settings cells breaks (inl (broken, some, is, empty, same)) r i = tree_lies broken is r (subst (λ (rs : List Report). In r rs) same i)
        in_tree_lies settings cells breaks (inr (flat, sound, is, found)) r i =
            tokens_lie settings flat (record { trees = trees; unbroken = unbroken; inline = stand; is_flat = is }) cells breaks found r i

      in_trees_lie : (settings : Settings) (bs : List BreakAt) (trees : List Group) (cells : List TokenCell) (breaks : List Report) → SourcesFound files (home_of files) p.sources bs trees
          → InTrees settings (first_file (home_of files) p.sources) bs trees cells breaks → (r : Report) → In r breaks → Lies r
      in_trees_lie settings [] trees cells breaks sources found r i = inl (in_tree_lies trees sources settings cells breaks found r i)
      in_trees_lie settings (b ∷ bs) trees cells breaks sources found r i =
          let m = mapped source_report (b ∷ bs) r (subst (λ (rs : List Report). In r rs) found.1 i) in
          subst Lies (sym m.2) (sources_lie p.sources (λ s k. k) stand (b ∷ bs) trees sources m.0 m.1)

      permutation_lies : (settings : Settings) (cells : List TokenCell) (breaks : List Report) → Finds settings files p cells breaks → (r : Report) → In r breaks → Lies r
      permutation_lies settings cells breaks (bs, trees, sources, found) r i = in_trees_lie settings bs trees cells breaks sources found r i

    all_of : (perms : List Permutation) (p : Permutation) → AllStand files perms → In p perms → AllInlineStand (home_of files).text p.sources
    all_of [] p all i = absurd i
    all_of (q ∷ qs) p all (inl same) = subst (λ (x : Permutation). AllInlineStand (home_of files).text x.sources) (sym same) all.0
    all_of (q ∷ qs) p all (inr i) = all_of qs p all.1 i

    each_lies : (r : Report) → IsBreakOf files r → Lies r
    each_lies r (of_config broken e i) = inl (config_lies broken r e i)
    each_lies r (of_plan b is) = inl (plan_lies b (finite.get files resolver_path) refl is)
    each_lies r (of_permutation settings perms p cells breaks plans i found j) =
        permutation_lies p (home_is perms p (finite.get files resolver_path) refl plans i) (all_of perms p (all_stand files perms laws.stand plans) i) settings cells breaks found r j

pub breaks_lie_in_files : SpanLaws → BreaksLieInFiles
breaks_lie_in_files laws files r is = each_lies files laws r is
