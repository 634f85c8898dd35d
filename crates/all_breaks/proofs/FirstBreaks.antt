-- The first breaks of sources.
use Rattle.std.proofs.Common.{◌≡◌, ◌+◌, ◌<◌, ◌≤◌, ℕ, List, [], ◌∷◌, ◌++◌, map, take, drop, get_or, length, refl, sym, ap, ap₂, subst, ◌∙◌}
use Rattle.std.proofs.lemmas.List.{append-nil, append_assoc, drop_all, drop_more, map-append}
use Rattle.std.specs.FinMap as finite
use Rattle.tk_io.specs.Order.{text_cmp}
use Rattle.token_tree.specs.Tree.{Group}
use Rattle.token_tree.specs.declared.tree.Group.{Group as GroupCode}
use Rattle.permutations.specs.Permutation.{TokenSource}
use Rattle.file_plan.specs.View.{plan_source_view, plan_sources_view}
use Rattle.file_plan.specs.declared.source.PlanSource.{PlanSource}
use Rattle.source_trees.specs.Laws.{OneFound}
use Rattle.source_trees.specs.Merging.{AreKnown, IsKnown, IsMergedBy, IsMergedOf}
use Rattle.source_trees.specs.Sources.{HomeAt, BreakAt, SourceFound, SourcesFound}
use Rattle.source_trees.specs.View.{break_view}
use Rattle.source_trees.specs.declared.laying.Merged.{Merged}
use Rattle.source_trees.specs.declared.laying.Merged.TheVariants.{Tree, Broken}
use Rattle.source_trees.specs.declared.shape.FileShape.{FileShape}
use Rattle.source_trees.specs.declared.source.SourceBreak.{SourceBreak}
use Rattle.tk_io.specs.FilesData.{FilesData}
use Rattle.refusals.specs.Refusal.{report_text}
use Rattle.build_plain.specs.Breaks.{home_of, source_report}
use Rattle.all_breaks.specs.Telling.{FirstsFound}
use Rattle.all_breaks.specs.inner.Making.{AreFirstTexts, first_text}

-- Of one source.

-- what is found of a source, of which these are the first breaks
abbrev pub HasFirst : FilesData → HomeAt → TokenSource → List BreakAt → Type 0
HasFirst files home s firsts = (b : List BreakAt) × (t : List Group) × SourceFound files home s b t × (firsts ≡ take 1 b)

module _ (files : FilesData) (home : HomeAt) (s : TokenSource) where
  pub first_none : (g : GroupCode) → IsMergedOf files home (s ∷ []) (Tree g) → HasFirst files home s []
  first_none g (bs, ts, (b, others, t, more, found, none, all, trees), (unbroken, is)) =
      (b, t, found, ap (take 1) (sym unbroken ∙ (all ∙ (ap (λ x. b ++ x) none.0 ∙ append-nil b))))

  pub first_broken : (x : SourceBreak) → IsMergedOf files home (s ∷ []) (Broken x) → HasFirst files home s (break_view x ∷ [])
  first_broken x (bs, ts, (b, others, t, more, found, none, all, trees), (rest, is)) =
      (b, t, found, ap (take 1) (sym is ∙ (all ∙ (ap (λ x. b ++ x) none.0 ∙ append-nil b))))

-- what is printed of the first break of the source is added
abbrev pub IsAdded : FilesData → TokenSource → List (List ℕ) → List (List ℕ) → Type 0
IsAdded files s texts next = (b : List BreakAt) × (t : List Group) × SourceFound files (home_of files) s b t × (next ≡ texts ++ map (first_text files) (take 1 b))

module _ (files : FilesData) (home : HomeAt) (is_home : home ≡ home_of files) (shapes : finite.FinMap text_cmp FileShape) (slice : List PlanSource) (s : PlanSource) (alone : slice ≡ s ∷ [])
    (known : IsKnown files shapes (plan_source_view s)) (m : Merged) (comes : IsMergedBy shapes home (plan_sources_view slice) m) where
  merged : (k : Merged) → m ≡ k → IsMergedOf files (home_of files) (plan_source_view s ∷ []) k
  merged k is =
      subst (λ (h : HomeAt). IsMergedOf files h (plan_source_view s ∷ []) k) is_home
      (subst (λ (x : Merged). IsMergedOf files home (plan_source_view s ∷ []) x) is
      (subst (λ (l : List PlanSource). AreKnown files shapes (plan_sources_view l) → IsMergedOf files home (plan_sources_view l) m) alone (comes files) (known, tt)))

  pub none_added : (g : GroupCode) → m ≡ Tree g → (texts : List (List ℕ)) → IsAdded files (plan_source_view s) texts texts
  none_added g is texts =
      let (b, t, found, none) = first_none files (home_of files) (plan_source_view s) g (merged (Tree g) is) in
      (b, t, found, sym (append-nil texts) ∙ ap (λ bs. texts ++ map (first_text files) bs) none)

  pub one_added : (x : SourceBreak) → m ≡ Broken x → (text : List ℕ) → text ≡ report_text files (source_report (break_view x)) → (texts next : List (List ℕ)) → next ≡ texts ++ text ∷ []
      → IsAdded files (plan_source_view s) texts next
  one_added x is text printed texts next more =
      let (b, t, found, first) = first_broken files (home_of files) (plan_source_view s) x (merged (Broken x) is) in
      (b, t, found, more ∙ (ap (λ y. texts ++ y ∷ []) printed ∙ ap (λ bs. texts ++ map (first_text files) bs) first))

-- Of all, one after another.

pub next_sources : (sources : List PlanSource) (i : ℕ) (x : PlanSource) → i < length sources → x ≡ get_or sources i x
    → plan_sources_view (drop i sources) ≡ plan_source_view x ∷ plan_sources_view (drop (i + 1) sources)
next_sources sources i x h is = ap plan_sources_view (drop_more sources i x h) ∙ ap (λ y. plan_source_view y ∷ plan_sources_view (drop (i + 1) sources)) (sym is)

pub no_sources : (sources : List PlanSource) (i : ℕ) → length sources ≤ i → plan_sources_view (drop i sources) ≡ []
no_sources sources i h = ap plan_sources_view (drop_all i sources h)

-- with those of the rest, the texts are those of all
abbrev pub Ahead : FilesData → List TokenSource → List TokenSource → List (List ℕ) → Type 0
Ahead files all rest texts = (bs : List BreakAt) → FirstsFound files (home_of files) rest bs
    → (firsts : List BreakAt) × FirstsFound files (home_of files) all firsts × (map (first_text files) firsts ≡ texts ++ map (first_text files) bs)

module _ (files : FilesData) (all : List TokenSource) where
  pub ahead_start : (texts : List (List ℕ)) → texts ≡ [] → Ahead files all all texts
  ahead_start texts none = λ bs found. (bs, found, ap (λ ts. ts ++ map (first_text files) bs) (sym none))

  pub ahead_next : (s : TokenSource) (ss rest : List TokenSource) (texts next : List (List ℕ)) → rest ≡ s ∷ ss
      → (b : List BreakAt) (t : List Group) → SourceFound files (home_of files) s b t → next ≡ texts ++ map (first_text files) (take 1 b)
      → Ahead files all rest texts → Ahead files all ss next
  ahead_next s ss rest texts next is b t found told ahead = λ bs firsts_found.
      let f = first_text files in
      let (firsts, are, same) = ahead (take 1 b ++ bs) (subst (λ (r : List TokenSource). FirstsFound files (home_of files) r (take 1 b ++ bs)) (sym is) (b, bs, t, found, firsts_found, refl)) in
      (firsts, are, same ∙ (ap (λ x. texts ++ x) (map-append f (take 1 b) bs) ∙ (sym (append_assoc texts (map f (take 1 b)) (map f bs)) ∙ ap (λ x. x ++ map f bs) (sym told))))

  pub ahead_end : (rest : List TokenSource) (texts : List (List ℕ)) → rest ≡ [] → Ahead files all rest texts → AreFirstTexts files all texts
  ahead_end rest texts none ahead =
      let (firsts, are, same) = ahead [] (subst (λ (r : List TokenSource). FirstsFound files (home_of files) r []) (sym none) refl) in
      (firsts, are, sym (append-nil texts) ∙ sym same)

-- Beside all breaks.

module _ (one : OneFound) (files : FilesData) (home : HomeAt) where
  -- a source has one list of breaks
  one_source : (s : TokenSource) (b c : List BreakAt) (t u : List Group) → SourceFound files home s b t → SourceFound files home s c u → b ≡ c
  one_source s b c t u f g =
      sym (append-nil b)
      ∙ ((one files home (s ∷ []) (b ++ []) (c ++ []) (t ++ []) (u ++ []) (b, [], t, [], f, (refl, refl), refl, refl) (c, [], u, [], g, (refl, refl), refl, refl)).0
      ∙ append-nil c)

  heads : (b bs fs : List BreakAt) → take 1 fs ≡ take 1 bs → take 1 (take 1 b ++ fs) ≡ take 1 (b ++ bs)
  heads [] bs fs same = same
  heads (x ∷ b) bs fs same = refl

  -- the first of the first breaks is that of all
  pub same_first : (ss : List TokenSource) (firsts bs : List BreakAt) (ts : List Group) → FirstsFound files home ss firsts → SourcesFound files home ss bs ts → take 1 firsts ≡ take 1 bs
  same_first [] firsts bs ts f g = ap (take 1) (f ∙ sym g.0)
  same_first (s ∷ ss) firsts bs ts (b, fs, t, found, rest, is) (c, cs, u, us, found_too, rest_too, all, trees) =
      ap (take 1) is ∙ (heads b cs fs (same_first ss fs cs us rest rest_too)
      ∙ (ap (λ x. take 1 (x ++ cs)) (one_source s b c t u found found_too) ∙ ap (take 1) (sym all)))

  pub one_firsts : (ss : List TokenSource) (firsts others : List BreakAt) → FirstsFound files home ss firsts → FirstsFound files home ss others → firsts ≡ others
  one_firsts [] firsts others f g = f ∙ sym g
  one_firsts (s ∷ ss) firsts others (b, fs, t, found, rest, is) (c, gs, u, found_too, rest_too, is_too) =
      is ∙ (ap₂ (λ (x y : List BreakAt). take 1 x ++ y) (one_source s b c t u found found_too) (one_firsts ss fs gs rest rest_too) ∙ sym is_too)

-- sources of which breaks are found have first breaks
pub each_firsts : (files : FilesData) (home : HomeAt) (ss : List TokenSource) (bs : List BreakAt) (ts : List Group) → SourcesFound files home ss bs ts
    → (firsts : List BreakAt) × FirstsFound files home ss firsts
each_firsts files home [] bs ts found = ([], refl)
each_firsts files home (s ∷ ss) bs ts (b, others, t, more, found, rest, all, trees) =
    let (firsts, are) = each_firsts files home ss others more rest in
    (take 1 b ++ firsts, (b, firsts, t, found, are, refl))
