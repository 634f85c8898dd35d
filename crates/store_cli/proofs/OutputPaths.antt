-- Outputs stand at output paths alone.
use Rattle.std.proofs.Common.{◌≡◌, inl, inr, ℕ, Bool, true, false, cond, List, [], ◌∷◌, ◌++◌, length, codes, Option, Some, None, Result, Ok, Err, is_some, ap, sym, subst, refl, ◌∙◌, arith}
use Rattle.std.specs.Cmp.Lexicographic.{nat_list_cmp_total}
use Rattle.std.specs.FinMap as finite
use Rattle.std.specs.Ordering.{eq_by_cmp}
use Rattle.ring.specs.Lists.{In}
use Rattle.tk_io.specs.FilesData.{FilesData}
use Rattle.tk_io.specs.Order.{text_cmp}
use Rattle.permutations.specs.Permutation.{Permutation}
use Rattle.file_plan.specs.InUse.{resolver_path}
use Rattle.file_plan.specs.Plan.{Planned, planned, refused, Plans}
use Rattle.transforms.specs.Config.{Settings}
use Rattle.transforms.specs.declared.config.ConfigFault.{ConfigFault}
use Rattle.refusals.specs.Planning.{plan_report}
use Rattle.refusals.specs.Refusal.{Report, file_text, report_text}
use Rattle.build_plain.specs.Denotes.{IsOfOne, NoOtherStands, names_by}
use Rattle.build_plain.specs.Names.{HaveUtf8Resolver, PermutationsAreNamed}
use Rattle.build_plain.specs.Out.{Builds, BuildsUnder, OfPlan, config_path, config_reports, one_output, refused_config, settings_of}
use Rattle.out_store.specs.Paths.{IsFileOf, IsOutputPath, is_name}
use Rattle.out_store.proofs.Places.{same_key}
use Rattle.store_cli.specs.Fitting.{OutputsFit}

-- The files of a permutation.

module _ (name path : List ℕ) (named : is_name name ≡ true) where
  file_of : (file ending : List ℕ) → ending ≡ file → path ≡ name ++ ending → IsFileOf file path
  file_of file ending same joined = (name, named, joined ∙ ap (λ e. name ++ e) same)

  ending_fits : (breaks : List Report) (ending : List ℕ) → In ending (names_by breaks) → path ≡ name ++ ending → IsOutputPath path
  ending_fits [] ending (inl swift) joined = inr (inl (file_of (codes "/Tokens.swift") ending swift joined))
  ending_fits [] ending (inr (inl css)) joined = inr (inr (inl (file_of (codes "/tokens.css") ending css joined)))
  ending_fits [] ending (inr (inr (inl json))) joined = inr (inr (inr (inl (file_of (codes "/tokens.json") ending json joined))))
  ending_fits [] ending (inr (inr (inr (inl xml)))) joined = inr (inr (inr (inr (inl (file_of (codes "/tokens.xml") ending xml joined)))))
  ending_fits [] ending (inr (inr (inr (inr none)))) joined = absurd none
  ending_fits (r ∷ rs) ending (inl refusal) joined = inr (inr (inr (inr (inr (file_of (codes "/REFUSED") ending refusal joined)))))
  ending_fits (r ∷ rs) ending (inr none) joined = absurd none

-- The one output of files whose plan or configuration is refused.

only_key : (k v q : List ℕ) (b : Bool) → eq_by_cmp text_cmp q k ≡ b → is_some (cond b (Some v) (finite.get (finite.empty {X = List ℕ} {R = text_cmp}) q)) ≡ true → q ≡ k
only_key k v q true same h = same_key q k same
only_key k v q false other h = let none = finite.get-empty text_cmp q in absurd (not_held (finite.get (finite.empty {X = List ℕ} {R = text_cmp}) q) none h)
  where
    not_held : (o : Option (List ℕ)) → o ≡ None → is_some o ≡ true → ⊥
    not_held None e held = cc
    not_held (Some x) e held = cc

alone : (k v path : List ℕ) (out : FilesData) → out ≡ one_output k v → finite.contains_key out path ≡ true → path ≡ k
alone k v path out is held =
    let there : finite.contains_key (one_output k v) path ≡ true = subst (λ m. finite.contains_key m path ≡ true) is held in
    only_key k v path (eq_by_cmp text_cmp path k) refl (sym (ap is_some (finite.get-insert nat_list_cmp_total finite.empty k v path)) ∙ there)

held_bytes : (o : Option (List ℕ)) → is_some o ≡ true → (bytes : List ℕ) × (o ≡ Some bytes)
held_bytes None h = cc
held_bytes (Some bytes) h = (bytes, refl)

module _ (named : PermutationsAreNamed) (others : NoOtherStands) (files out : FilesData) (utf8 : HaveUtf8Resolver files) (builds : Builds files out) (path : List ℕ) (held : finite.contains_key out path ≡ true) where
  of_one : (perms : List Permutation) (settings : Settings) → Plans (finite.get files resolver_path) (planned perms) → IsOfOne settings files perms path → IsOutputPath path
  of_one perms settings plan one = ending_fits one.perm.name path (named files perms utf8 plan one.perm one.among) one.own.breaks one.own.ending one.own.among one.own.joined

  of_plan : (settings : Settings) (p : Planned) → settings_of files ≡ Ok settings → Plans (finite.get files resolver_path) p → OfPlan settings files p out → IsOutputPath path
  of_plan settings (planned perms) configured plan made =
      let bytes = held_bytes (finite.get out path) held in
      of_one perms settings plan (others files settings perms out (record { configured = configured; plan = plan; outputs = builds }) path bytes.0 bytes.1)
  of_plan settings (refused told) configured plan made = inl (alone (codes "REFUSED") (report_text files (plan_report told)) path out made held)

  of_config : (rs : List Report) → refused_config files rs out → IsOutputPath path
  of_config [] made = absurd made
  of_config (r ∷ rs) made = inl (alone (codes "REFUSED") (report_text files r) path out made held)

  of_settings : (settings : Result Settings ConfigFault) → settings_of files ≡ settings → BuildsUnder files settings out → IsOutputPath path
  of_settings (Ok settings) is made = of_plan settings made.0 is made.1 made.2
  of_settings (Err told) is made = of_config (config_reports (length (file_text files config_path)) told) made

pub outputs_fit : PermutationsAreNamed → NoOtherStands → OutputsFit
outputs_fit named others files out utf8 builds path held = of_settings named others files out utf8 builds path held (settings_of files) refl builds
