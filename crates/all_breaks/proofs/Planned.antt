-- What is told of files by their plan and by their configuration.
use Rattle.std.proofs.Common.{◌≡◌, ◌≢◌, ℕ, List, [], ◌∷◌, map, Option, Some, None, option_map, Result, Ok, Err, refl, sym, ap, subst, ◌∙◌}
use Rattle.std.specs.FinMap as finite
use Rattle.std.specs.Prelude.{length, is_some, true}
use Rattle.permutations.specs.Permutation.{Permutation}
use Rattle.file_plan.specs.InUse.{resolver_path}
use Rattle.file_plan.specs.Laws.{OnePlan}
use Rattle.file_plan.specs.Plan.{PlanBreak, Planned, planned, refused, Plans}
use Rattle.file_plan.specs.View.{IsPlanRefusal}
use Rattle.file_plan.specs.declared.refusal.PlanRefusal.{PlanRefusal}
use Rattle.group_inherit.specs.declared.fault.TreeFault.{TreeFault}
use Rattle.group_inherit.specs.declared.fault.TreeFault.TheVariants as fault
use Rattle.transforms.specs.Config.{Settings}
use Rattle.transforms.specs.declared.config.ConfigFault.{ConfigFault}
use Rattle.transforms.specs.declared.config.ConfigFault.TheVariants.{Toml, Key, NoMemory}
use Rattle.tk_io.specs.FilesData.{FilesData}
use Rattle.refusals.specs.Planning.{break_of, plan_report}
use Rattle.refusals.specs.Refusal.{Report, report_text, file_text}
use Rattle.token_cells.specs.Breaks.{verdict}
use Rattle.token_cells.specs.Laws.{OneCells}
use Rattle.build_plain.specs.Breaks.{tree_reports}
use Rattle.build_plain.specs.Out.{config_path, config_reports, settings_of}
use Rattle.build_plain.proofs.OneOutputs.{TreeLaws}
use Rattle.build_plain.proofs.Planned.{some_break}
use Rattle.all_breaks.specs.All.{bare, TellsFrom, PlanTold, ToldUnder, AllTold}
use Rattle.all_breaks.specs.Telling.{Tells}
use Rattle.all_breaks.specs.Told.{ToldBreak, told_break, with_breaks}
use Rattle.all_breaks.specs.inner.Making.{AddsPerm, Given}
use Rattle.all_breaks.proofs.Tellings.{one_telling}

text_same : {x y : List ℕ} → Some x ≡ Some y → x ≡ y
text_same e = cc

-- Of a configuration that is refused.

module _ (files : FilesData) (end : ℕ) where
  pub config_told : (broken : ConfigFault) (b : List ℕ) → option_map (report_text files) (verdict (config_reports end broken)) ≡ Some b
      → told_break b [] ∷ [] ≡ map (bare files) (config_reports end broken)
  config_told Toml b text = ap (λ x. told_break x [] ∷ []) (sym (text_same text))
  config_told (Key key) b text = ap (λ x. told_break x [] ∷ []) (sym (text_same text))
  config_told NoMemory b text = absurd (cc)

  pub has_fault : (broken : ConfigFault) (b : List ℕ) → option_map (report_text files) (verdict (config_reports end broken)) ≡ Some b → broken ≢ NoMemory
  has_fault Toml b text e = cc
  has_fault (Key key) b text e = cc
  has_fault NoMemory b text e = cc

-- Of a tree that breaks a rule.
pub tree_told : (files : FilesData) (first : List ℕ) (broken : TreeFault) (b : List ℕ) (texts : List (List ℕ)) → option_map (report_text files) (verdict (tree_reports first broken)) ≡ Some b
    → texts ≡ b ∷ [] → texts ≡ map (report_text files) (tree_reports first broken)
tree_told files first (fault.ExtendsTarget group span) b texts text is = is ∙ ap (λ x. x ∷ []) (sym (text_same text))
tree_told files first (fault.ExtendsCycle ring span) b texts text is = is ∙ ap (λ x. x ∷ []) (sym (text_same text))
tree_told files first (fault.TooManyTokens count) b texts text is = is ∙ ap (λ x. x ∷ []) (sym (text_same text))
tree_told files first (fault.TooHigh height) b texts text is = is ∙ ap (λ x. x ∷ []) (sym (text_same text))
tree_told files first fault.NoMemory b texts text is = absurd (cc)

-- Of a plan that is refused.

abbrev plan_text : FilesData → PlanBreak → List ℕ
plan_text files k = report_text files (plan_report k)

pub has_break : (files : FilesData) (r : PlanRefusal) (b : List ℕ) → option_map (plan_text files) (break_of r) ≡ Some b → is_some (break_of r) ≡ true
has_break files r b is = at (break_of r) is
  where
    at : (o : Option PlanBreak) → option_map (plan_text files) o ≡ Some b → is_some o ≡ true
    at None e = cc
    at (Some k) e = refl

pub plan_told : (files : FilesData) (settings : Settings) (r : PlanRefusal) (b : List ℕ) → IsPlanRefusal (Plans (finite.get files resolver_path)) r
    → option_map (plan_text files) (break_of r) ≡ Some b → ToldUnder files (Ok settings) (told_break b [] ∷ [])
plan_told files settings r b plans text =
    let k = some_break (finite.get files resolver_path) r plans (has_break files r b text) in
    (refused k.broken, k.is, ap (λ x. told_break x [] ∷ []) (text_same (sym text ∙ ap (option_map (plan_text files)) k.same)))

-- Of one that is not: the permutations, one after another.

module _ (settings : Settings) (files : FilesData) (all : List Permutation) where
  pub given_start : (now : List ToldBreak) → now ≡ [] → Given settings files all all now
  given_start now none = λ told i. subst (λ (ts : List ToldBreak). TellsFrom settings files all ts told) none i

  pub given_more : (p : Permutation) (ps : List Permutation) (now next : List ToldBreak) → Given settings files all (p ∷ ps) now → AddsPerm settings files p now next → Given settings files all ps next
  given_more p ps now next given (texts, (reports, tells, same), is) = λ told i.
      given told (reports, tells, subst (λ (ts : List ToldBreak). TellsFrom settings files ps ts told) (is ∙ ap (with_breaks now p.name) same) i)

pub given_ends : (settings : Settings) (files : FilesData) (perms : List Permutation) (told : List ToldBreak)
    → Plans (finite.get files resolver_path) (planned perms) → Given settings files perms [] told → ToldUnder files (Ok settings) told
given_ends settings files perms told plans given = (planned perms, plans, given told refl)

-- One list.

module _ (trees : TreeLaws) (cells : OneCells) where
  one_from : (settings : Settings) (files : FilesData) (ps : List Permutation) (before a b : List ToldBreak) → TellsFrom settings files ps before a → TellsFrom settings files ps before b → a ≡ b
  one_from settings files [] before a b i j = i ∙ sym j
  one_from settings files (p ∷ ps) before a b (rs, tells, rest) (ss, tells_too, rest_too) =
      let same = one_telling trees cells settings files p rs ss tells tells_too in
      one_from settings files ps (with_breaks before p.name (map (report_text files) ss)) a b
      (subst (λ (xs : List Report). TellsFrom settings files ps (with_breaks before p.name (map (report_text files) xs)) a) same rest) rest_too

  one_of_plan : (settings : Settings) (files : FilesData) (p : Planned) (a b : List ToldBreak) → PlanTold settings files p a → PlanTold settings files p b → a ≡ b
  one_of_plan settings files (planned perms) a b i j = one_from settings files perms [] a b i j
  one_of_plan settings files (refused broken) a b i j = i ∙ sym j

  one_under : OnePlan → (files : FilesData) (settings : Result Settings ConfigFault) (a b : List ToldBreak) → ToldUnder files settings a → ToldUnder files settings b → a ≡ b
  one_under plan files (Ok settings) a b (p, is, i) (q, is_too, j) =
      one_of_plan settings files q a b (subst (λ x. PlanTold settings files x a) (plan (finite.get files resolver_path) p q is is_too) i) j
  one_under plan files (Err broken) a b i j = i ∙ sym j

  pub one_told : OnePlan → (files : FilesData) (a b : List ToldBreak) → AllTold files a → AllTold files b → a ≡ b
  one_told plan files a b i j = one_under plan files (settings_of files) a b i j
