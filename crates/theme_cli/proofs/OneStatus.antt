-- Files have a sheet, or a refusal, or a name that no selector can hold, and not two of these.
use Rattle.std.proofs.Common.{◌≡◌, ◌∙◌, ℕ, List, Option, Some, None, ap, sym, refl}
use Rattle.std.proofs.lemmas.Option.{none-some}
use Rattle.std.specs.FinMap as finite
use Rattle.tk_io.specs.FilesData.{FilesData}
use Rattle.json_span.specs.Answer.{Answer, flawed, shows, stops}
use Rattle.json_span.specs.Laws.{OneAnswer}
use Rattle.json_span.specs.Tree.{Placed}
use Rattle.resolver_doc.specs.Document.{ItemData, resolver_of}
use Rattle.file_plan.specs.InUse.{resolver_path}
use Rattle.build_plain.specs.Laws.{OneBuild}
use Rattle.build_plain.specs.Out.{Builds}
use Rattle.theme_css.specs.Themes.{HasBadName, HasRefusal, IsThemeSheet, Resolves, first_bad, first_refused}
use Rattle.theme_cli.specs.Themed.{OneThemeStatus}
use Rattle.theme_cli.specs.declared.status.ThemeStatus.TheVariants as status

module _ (one : OneBuild) (once : OneAnswer) where
  abbrev shown : Placed → Answer → Placed
  shown root (shows n) = n
  shown root (flawed f) = root
  shown root (stops at) = root

  one_order : (text : Option (List ℕ)) (a b : List ItemData) → Resolves text a → Resolves text b → a ≡ b
  one_order None a b h k = h ∙ sym k
  one_order (Some text) a b (root, is, unbroken, e) (other, is_too, unbroken_too, f) =
      let same : root ≡ other = ap (shown root) (once text (shows root) (shows other) is is_too) in
      e ∙ (ap (λ n. (resolver_of n).order) same ∙ sym f)

  not_refused : {P : Type 0} (files out other : FilesData) (path : List ℕ) → Builds files out → first_refused out ≡ None → Builds files other → first_refused other ≡ Some path → P
  not_refused files out other path built none built_too some =
      absurd (none-some path (sym none ∙ (ap first_refused (one files out other built built_too) ∙ some)))

  not_named : {P : Type 0} (text : Option (List ℕ)) (a b : List ItemData) (name : List ℕ) → Resolves text a → first_bad a ≡ None → Resolves text b → first_bad b ≡ Some name → P
  not_named text a b name h none k some = absurd (none-some name (sym none ∙ (ap first_bad (one_order text a b h k) ∙ some)))

  sheet_refused : {P : Type 0} (files : FilesData) (sheet path : List ℕ) → IsThemeSheet files sheet → HasRefusal files path → P
  sheet_refused files sheet path is (out, built, some) = not_refused files is.out out path is.builds is.unrefused built some

  named_refused : {P : Type 0} (files : FilesData) (name path : List ℕ) → HasBadName files name → HasRefusal files path → P
  named_refused files name path is (out, built, some) = not_refused files is.out out path is.builds is.unrefused built some

  sheet_named : {P : Type 0} (files : FilesData) (sheet name : List ℕ) → IsThemeSheet files sheet → HasBadName files name → P
  sheet_named files sheet name is bad = not_named (finite.get files resolver_path) is.order bad.order name is.resolves is.named bad.resolves bad.named

  pub one_theme_status : OneThemeStatus
  one_theme_status files status.Done status.Done a b = refl
  one_theme_status files status.Done status.Refused a b = sheet_refused files a.0 b.0 a.1 b.1
  one_theme_status files status.Done status.Name a b = sheet_named files a.0 b.0 a.1 b.1
  one_theme_status files status.Done status.Usage a b = absurd b
  one_theme_status files status.Done status.BadScript a b = absurd b
  one_theme_status files status.Done status.ReadFault a b = absurd b
  one_theme_status files status.Done status.WriteFault a b = absurd b
  one_theme_status files status.Done status.NoMemory a b = absurd b
  one_theme_status files status.Done status.TooLong a b = absurd b
  one_theme_status files status.Done status.BadEvent a b = absurd b
  one_theme_status files status.Refused status.Done a b = sheet_refused files b.0 a.0 b.1 a.1
  one_theme_status files status.Refused status.Refused a b = refl
  one_theme_status files status.Refused status.Name a b = named_refused files b.0 a.0 b.1 a.1
  one_theme_status files status.Refused status.Usage a b = absurd b
  one_theme_status files status.Refused status.BadScript a b = absurd b
  one_theme_status files status.Refused status.ReadFault a b = absurd b
  one_theme_status files status.Refused status.WriteFault a b = absurd b
  one_theme_status files status.Refused status.NoMemory a b = absurd b
  one_theme_status files status.Refused status.TooLong a b = absurd b
  one_theme_status files status.Refused status.BadEvent a b = absurd b
  one_theme_status files status.Name status.Done a b = sheet_named files b.0 a.0 b.1 a.1
  one_theme_status files status.Name status.Refused a b = named_refused files a.0 b.0 a.1 b.1
  one_theme_status files status.Name status.Name a b = refl
  one_theme_status files status.Name status.Usage a b = absurd b
  one_theme_status files status.Name status.BadScript a b = absurd b
  one_theme_status files status.Name status.ReadFault a b = absurd b
  one_theme_status files status.Name status.WriteFault a b = absurd b
  one_theme_status files status.Name status.NoMemory a b = absurd b
  one_theme_status files status.Name status.TooLong a b = absurd b
  one_theme_status files status.Name status.BadEvent a b = absurd b
  one_theme_status files status.Usage t a b = absurd a
  one_theme_status files status.BadScript t a b = absurd a
  one_theme_status files status.ReadFault t a b = absurd a
  one_theme_status files status.WriteFault t a b = absurd a
  one_theme_status files status.NoMemory t a b = absurd a
  one_theme_status files status.TooLong t a b = absurd a
  one_theme_status files status.BadEvent t a b = absurd a
