-- What is built of files by their plan and by their configuration.
use Rattle.std.proofs.Common.{◌≡◌, ◌≢◌, ℕ, ◌+◌, ◌≤◌, Bool, true, false, cond, List, [], ◌∷◌, Option, Some, None, option_map, Result, Ok, Err, refl, sym, subst, ap, ◌∙◌, arith, codes}
use Rattle.std.specs.Cmp.Lexicographic.{nat_list_cmp_total}
use Rattle.std.specs.FinMap as finite
use Rattle.std.specs.Prelude.{length, is_some}
use Rattle.tk_io.specs.Order.{text_cmp}
use Rattle.json_span.specs.Flaw.{equal_names, too_deep}
use Rattle.permutations.specs.Permutation.{Permutation}
use Rattle.file_plan.specs.InUse.{resolver_path, resolver_in, beside, with_named, in_use_by, file_names, files_in_use}
use Rattle.file_plan.specs.Laws.{OnePlan}
use Rattle.file_plan.specs.Plan.{PlanBreak, planned, refused, Plans, stopped, has_flaw, breaks, too_many, too_many_sources, text_count}
use Rattle.file_plan.specs.View.{IsPlanRefusal}
use Rattle.file_plan.specs.declared.refusal.PlanRefusal.{PlanRefusal}
use Rattle.file_plan.specs.declared.refusal.PlanRefusal.TheVariants as refusal
use Rattle.transforms.specs.Config.{Settings}
use Rattle.transforms.specs.declared.config.ConfigFault.{ConfigFault}
use Rattle.transforms.specs.declared.config.ConfigFault.TheVariants.{Toml, Key, NoMemory}
use Rattle.tk_io.specs.FilesData.{FilesData}
use Rattle.refusals.specs.Planning.{break_of, plan_report}
use Rattle.refusals.specs.Refusal.{report_text, file_text}
use Rattle.token_cells.specs.Breaks.{verdict}
use Rattle.build_plain.specs.Out.{one_output, GivesFrom, Builds, BuildsUnder, config_path, config_reports, refused_config, settings_of}
use Rattle.build_plain.specs.Work.{Work, work, added, PermsWork, PlanWork, WorkUnder, IsWork, RiseBy, RiseWithin, IsAtMost}
use Rattle.build_plain.specs.Out.{IsConfigFault}
use Rattle.build_plain.proofs.Works.{work_same, at_rest, rise_so, within_so}

abbrev Config : Type 0
Config = Result Settings ConfigFault

some_same : (x y : FilesData) → Some x ≡ Some y → x ≡ y
some_same x y e = cc

text_same : {x y : List ℕ} → Some x ≡ Some y → x ≡ y
text_same e = cc

-- Of a configuration that is refused: the one output is what is printed of it.
pub config_told : (files : FilesData) (end : ℕ) (broken : ConfigFault) (b : List ℕ) (o : FilesData)
    → option_map (report_text files) (verdict (config_reports end broken)) ≡ Some b → o ≡ one_output (codes "REFUSED") b → refused_config files (config_reports end broken) o
config_told files end Toml b o text is = is ∙ ap (one_output (codes "REFUSED")) (sym (text_same text))
config_told files end (Key key) b o text is = is ∙ ap (one_output (codes "REFUSED")) (sym (text_same text))
config_told files end NoMemory b o text is = absurd (cc)

-- Of a plan that is refused.

-- the rule that it breaks, where memory does not run out
pub record IsBreak (claim : PlanBreak → Type 0) (found : Option PlanBreak) : Type 0 where
  pub broken : PlanBreak
  pub is : claim broken
  pub same : found ≡ Some broken

pub some_break : (text : Option (List ℕ)) (r : PlanRefusal) → IsPlanRefusal (Plans text) r → is_some (break_of r) ≡ true → IsBreak (λ b. Plans text (refused b)) (break_of r)
some_break text (refusal.Syntax at) plans some = record { broken = stopped at; is = plans; same = refl }
some_break text (refusal.Duplicate start end) plans some = record { broken = has_flaw (equal_names start end); is = plans; same = refl }
some_break text (refusal.Depth start end) plans some = record { broken = has_flaw (too_deep start end); is = plans; same = refl }
some_break text (refusal.Broken rule start end ring) plans some = record { broken = breaks (record { rule = rule; start = start; end = end }) ring; is = plans; same = refl }
some_break text (refusal.TooMany start end count) plans some = record { broken = too_many start end count; is = plans; same = refl }
some_break text (refusal.TooManySources start end count) plans some = record { broken = too_many_sources start end count; is = plans; same = refl }
some_break text refusal.NoMemory plans some = cc

abbrev told : FilesData → PlanBreak → FilesData
told files broken = one_output (codes "REFUSED") (report_text files (plan_report broken))

pub has_break : (files : FilesData) (r : PlanRefusal) (o : FilesData) → option_map (told files) (break_of r) ≡ Some o → is_some (break_of r) ≡ true
has_break files r o is = some_of (break_of r) is
  where
    some_of : (b : Option PlanBreak) → option_map (told files) b ≡ Some o → is_some b ≡ true
    some_of None e = cc
    some_of (Some b) e = refl

module _ (files : FilesData) (settings : Settings) where
  pub under_refusal : (r : PlanRefusal) (o : FilesData) → IsPlanRefusal (Plans (finite.get files resolver_path)) r → option_map (told files) (break_of r) ≡ Some o → BuildsUnder files (Ok settings) o
  under_refusal r o plans is =
      let b = some_break (finite.get files resolver_path) r plans (has_break files r o is) in
      (refused b.broken, b.is, some_same o (told files b.broken) (sym is ∙ ap (option_map (told files)) b.same))

  pub under_plan : (perms : List Permutation) (o : FilesData) → Plans (finite.get files resolver_path) (planned perms) → GivesFrom settings files perms finite.empty o → BuildsUnder files (Ok settings) o
  under_plan perms o plans gives = (planned perms, plans, gives)

  -- .. whose document alone is read

  refused_work : (broken : PlanBreak) (m n merges e : ℕ) → Plans (finite.get files resolver_path) (refused broken) → n ≡ m + text_count (finite.get files resolver_path)
      → RiseBy (WorkUnder files (Ok settings)) (work m merges e) (work n merges e)
  refused_work broken m n merges e plans step =
      (work (text_count (finite.get files resolver_path)) 0 0, (refused broken, plans, refl), work_same step (omega arith) (omega arith))

  pub refusal_work : (r : PlanRefusal) → IsPlanRefusal (Plans (finite.get files resolver_path)) r → (m n merges e : ℕ) → is_some (break_of r) ≡ true
      → n ≡ m + text_count (finite.get files resolver_path) → RiseBy (WorkUnder files (Ok settings)) (work m merges e) (work n merges e)
  refusal_work r is m n merges e some step =
      let b = some_break (finite.get files resolver_path) r is some in
      refused_work b.broken m n merges e b.is step

  -- Of one that is not: each file in use is read.

  pub planned_work : (perms : List Permutation) (p r q m n e f : ℕ) → Plans (finite.get files resolver_path) (planned perms)
      → r ≡ p + text_count (finite.get files resolver_path) → q + text_count (finite.get files resolver_path) ≡ r + finite.len (files_in_use files perms)
      → RiseBy (PermsWork files perms) (work 0 m e) (work 0 n f) → RiseBy (WorkUnder files (Ok settings)) (work p m e) (work q n f)
  planned_work perms p r q m n e f plans first steps (w, is, same) =
      let all = finite.len (files_in_use files perms) in
      let read : 0 ≡ 0 + w.parses = ap (λ x. x.parses) same in
      let merged : n ≡ m + w.merges = ap (λ x. x.merges) same in
      let evaluated : f ≡ e + w.evals = ap (λ x. x.evals) same in (
        added (work all 0 0) w,
        (planned perms, plans, (w, is, refl)),
        work_same (omega (arith, first, steps, read)) (omega (arith, merged)) (omega (arith, evaluated)),
      )

  pub planned_within : (one : OnePlan) (perms : List Permutation) (p r q m n e f : ℕ) → Plans (finite.get files resolver_path) (planned perms)
      → r ≡ p + text_count (finite.get files resolver_path) → q + text_count (finite.get files resolver_path) ≤ r + finite.len (files_in_use files perms)
      → RiseWithin (PermsWork files perms) (work 0 m e) (work 0 n f) → RiseWithin (WorkUnder files (Ok settings)) (work p m e) (work q n f)
  planned_within one perms p r q m n e f plans first steps most w (other, plans_too, is) =
      of_plan (subst (λ x. PlanWork files x w) (one (finite.get files resolver_path) other (planned perms) plans_too plans) is)
    where
      of_plan : PlanWork files (planned perms) w → IsAtMost (work q n f) (added (work p m e) w)
      of_plan (v, is_v, same) =
          let within = most v is_v in
          let all = finite.len (files_in_use files perms) in
          let parses : w.parses ≡ all + v.parses = ap (λ x. x.parses) same in
          let merges : w.merges ≡ 0 + v.merges = ap (λ x. x.merges) same in
          let evals : w.evals ≡ 0 + v.evals = ap (λ x. x.evals) same in
          record {
            parses = omega (arith, first, steps, parses);
            merges = omega (arith, within.merges, merges);
            evals = omega (arith, within.evals, evals);
          }

-- The resolver document is one of the files in use.

get_empty : (path : List ℕ) → finite.get (finite.empty {X = List ℕ} {R = text_cmp}) path ≡ None
get_empty path = finite.get-empty text_cmp path

len_more : (m : FilesData) (k v : List ℕ) → finite.len m ≤ finite.len (finite.insert m k v)
len_more m k v = at (finite.contains_key m k) (finite.len-insert nat_list_cmp_total m k v)
  where
    at : (b : Bool) → finite.len (finite.insert m k v) ≡ cond b (finite.len m) (finite.len m + 1) → finite.len m ≤ finite.len (finite.insert m k v)
    at true e = omega (arith, e)
    at false e = omega (arith, e)

beside_more : (seen : FilesData) (name : List ℕ) (o : Option (List ℕ)) → finite.len seen ≤ finite.len (beside seen name o)
beside_more seen name None = omega arith
beside_more seen name (Some text) = len_more seen name text

in_use_more : (files seen : FilesData) (names : List (List ℕ)) → finite.len seen ≤ finite.len (in_use_by files seen names)
in_use_more files seen [] = omega arith
in_use_more files seen (name ∷ names) =
    omega (arith, beside_more seen name (finite.get files name), in_use_more files (with_named files seen name) names)

abbrev none_yet : FilesData
none_yet = finite.empty

resolver_len : (o : Option (List ℕ)) → finite.len (beside finite.empty resolver_path o) ≡ text_count o
resolver_len None = finite.len-empty text_cmp (List ℕ)
resolver_len (Some text) =
    finite.len-insert nat_list_cmp_total finite.empty resolver_path text
    ∙ (ap (λ b. cond b (finite.len none_yet) (finite.len none_yet + 1)) (ap is_some (get_empty resolver_path)) ∙ ap (λ n. n + 1) (finite.len-empty text_cmp (List ℕ)))

pub resolver_count : (files : FilesData) → finite.len (resolver_in files) ≡ text_count (finite.get files resolver_path)
resolver_count files = resolver_len (finite.get files resolver_path)

-- the files in use, counted beside the resolver document
pub steps_counted : (files : FilesData) (p q n : ℕ) → q + finite.len (resolver_in files) ≡ p + n → q + text_count (finite.get files resolver_path) ≡ p + n
steps_counted files p q n steps = omega (arith, steps, resolver_count files)

pub steps_at_most : (files : FilesData) (p q n : ℕ) → q + finite.len (resolver_in files) ≤ p + n → q + text_count (finite.get files resolver_path) ≤ p + n
steps_at_most files p q n steps = omega (arith, steps, resolver_count files)

-- so many files are read at least
pub counted_first : (files : FilesData) (perms : List Permutation) → text_count (finite.get files resolver_path) ≤ finite.len (files_in_use files perms)
counted_first files perms = omega (arith, resolver_count files, in_use_more files (resolver_in files) (file_names perms))

-- where memory runs out at the resolver document
pub resolver_within : (files : FilesData) (settings : Settings) (p q m e : ℕ) → q ≤ p + text_count (finite.get files resolver_path)
    → RiseWithin (WorkUnder files (Ok settings)) (work p m e) (work q m e)
resolver_within files settings p q m e most w (planned perms, plans, (v, is, same)) =
    record {
      parses = omega (arith, most, counted_first files perms, ap (λ x. x.parses) same);
      merges = omega arith;
      evals = omega arith;
    }
resolver_within files settings p q m e most w (refused broken, plans, same) =
    record { parses = omega (arith, most, ap (λ x. x.parses) same); merges = omega arith; evals = omega arith }

-- By the configuration.

module _ (files : FilesData) where
  of_config : (config : Config) (o : FilesData) → settings_of files ≡ config → BuildsUnder files config o → Builds files o
  of_config config o same made = subst (λ (r : Config). BuildsUnder files r o) (sym same) made

  pub built : (settings : Settings) (o : FilesData) → settings_of files ≡ Ok settings → BuildsUnder files (Ok settings) o → Builds files o
  built settings o same made = of_config (Ok settings) o same made

  pub built_config : (broken : ConfigFault) (o : FilesData) → IsConfigFault files broken → refused_config files (config_reports (length (file_text files config_path)) broken) o → Builds files o
  built_config Toml o is made = of_config (Err Toml) o is made
  built_config (Key key) o is made = of_config (Err (Key key)) o is made
  built_config NoMemory o is made = absurd made

  work_of : (config : Config) (w : Work) → settings_of files ≡ config → WorkUnder files config w → IsWork files w
  work_of config w same is = subst (λ (r : Config). WorkUnder files r w) (sym same) is

  of_work : (config : Config) (w : Work) → settings_of files ≡ config → IsWork files w → WorkUnder files config w
  of_work config w same is = subst (λ (r : Config). WorkUnder files r w) same is

  pub worked : (settings : Settings) (a b : Work) → settings_of files ≡ Ok settings → RiseBy (WorkUnder files (Ok settings)) a b → RiseBy (IsWork files) a b
  worked settings a b same r = rise_so (WorkUnder files (Ok settings)) (IsWork files) a b (λ w. work_of (Ok settings) w same) r

  pub worked_within : (settings : Settings) (a b : Work) → settings_of files ≡ Ok settings → RiseWithin (WorkUnder files (Ok settings)) a b → RiseWithin (IsWork files) a b
  worked_within settings a b same r = within_so (WorkUnder files (Ok settings)) (IsWork files) a b (λ w. of_work (Ok settings) w same) r

  pub is_refused : (broken : ConfigFault) → IsConfigFault files broken → broken ≢ NoMemory → settings_of files ≡ Err broken
  is_refused Toml is some = is
  is_refused (Key key) is some = is
  is_refused NoMemory is some = absurd (some refl)

  pub nothing_done : (broken : ConfigFault) (v : Work) → IsConfigFault files broken → broken ≢ NoMemory → RiseBy (IsWork files) v v
  nothing_done broken v is some = at_rest (IsWork files) v (work_of (Err broken) (work 0 0 0) (is_refused broken is some) refl)

  pub told_fault : (broken : ConfigFault) (o : FilesData) → refused_config files (config_reports (length (file_text files config_path)) broken) o → broken ≢ NoMemory
  told_fault Toml o told = λ e. cc
  told_fault (Key key) o told = λ e. cc
  told_fault NoMemory o told = absurd told
