-- The files after the events of a script stand at paths, and their texts are shorter than offsets of certificates reach.
use Rattle.std.proofs.Common.{◌≡◌, ◌<◌, ◌≤◌, ◌+◌, ◌∙◌, ℕ, zero, suc, Bool, true, false, List, [], ◌∷◌, length, Option, Some, None, refl, sym, subst, arith}
use Rattle.std.specs.List.{AllByRecursion, slice_get}
use Rattle.std.specs.Prelude.{IfSome, IsSomeAnd, option_map, if◌then◌else◌}
use Rattle.std.specs.Str.{bytes_eq}
use Rattle.std.proofs.lemmas.Slice.Eq.{bytes_eq-Decides}
use Rattle.tk_io.specs.FilesData.{FilesData}
use Rattle.edit_script.specs.Files.{AreFilesAfter, EveryFits, Fits, FitsText, Texts, made_at, most_patched, patched, present_of, text_at, text_by, text_next}
use Rattle.edit_script.specs.Script.{EventData, put, del, move, patch, commit, HasSpelling, IsScript, IsSpellable, is_path}
use Rattle.edit_script.specs.declared.version.Version.{Version}
use Rattle.certificates.specs.Certificate.{most_offsets}
use Rattle.explain_cli.specs.inner.Judging.{AreShort}

-- what is to be shown of a file
abbrev IsShort : List ℕ → List ℕ → Type 0
IsShort path text = (is_path path ≡ true) × (length text < most_offsets)

some_same : {X : Type 0} {x y : X} → Some x ≡ Some y → x ≡ y
some_same e = cc

none_some : {X P : Type 0} {x : X} → None ≡ Some x → P
none_some e = absurd (cc)

-- a text whose number of bytes a script spells
put_short : (n : ℕ) → n < 100000000 → n < most_offsets
put_short n h = let m : most_offsets ≡ 4294967296 = refl in omega (arith, h, m)

patch_short : (made n : ℕ) → made + n ≤ most_patched → n < most_offsets
patch_short made n h =
    let m : most_offsets ≡ 4294967296 = refl in
    let p : most_patched ≡ 1073741824 = refl in
    omega (arith, h, m, p)

event_at : (version : Version) (es : List EventData) (n : ℕ) (event : EventData) → AllByRecursion (HasSpelling version) es → slice_get es n ≡ Some event → HasSpelling version event
event_at version [] n event h e = none_some e
event_at version (x ∷ es) zero event h e = subst (HasSpelling version) (some_same e) h.0
event_at version (x ∷ es) (suc n) event h e = event_at version es n event h.1 e

module _ (made : ℕ) (texts : Texts) (short : (path text : List ℕ) → texts path ≡ Some text → IsShort path text) where
  -- what an event leaves at a path
  by_event : (event : EventData) → IsSpellable event → Fits event (present_of event texts) made → (path text : List ℕ) → text_by event texts path ≡ Some text → IsShort path text
  by_event (put p given) (is, utf8, long) fits path text e = at (bytes_eq p path) refl e
    where
      at : (b : Bool) → bytes_eq p path ≡ b → (if b then Some given else texts path) ≡ Some text → IsShort path text
      at true same f = (
        subst (λ (q : List ℕ). is_path q ≡ true) ((bytes_eq-Decides p path).0 same) is,
        subst (λ (t : List ℕ). length t < most_offsets) (some_same f) (put_short (length given) long),
      )
      at false other f = short path text f
  by_event (del p) is fits path text e = at (bytes_eq p path) e
    where
      at : (b : Bool) → (if b then None else texts path) ≡ Some text → IsShort path text
      at true f = none_some f
      at false f = short path text f
  by_event (move first second) (is, is_too) fits path text e = at (bytes_eq second path) refl e
    where
      from : (b : Bool) → (if b then None else texts path) ≡ Some text → IsShort path text
      from true f = none_some f
      from false f = short path text f

      at : (b : Bool) → bytes_eq second path ≡ b → (if b then texts first else (if bytes_eq first path then None else texts path)) ≡ Some text → IsShort path text
      at true same f = (subst (λ (q : List ℕ). is_path q ≡ true) ((bytes_eq-Decides second path).0 same) is_too, (short first text f).1)
      at false other f = from (bytes_eq first path) f
  by_event (patch p start end bytes) (is, low, high, utf8, long) fits path text e = at (bytes_eq p path) refl e
    where
      fitted : (o : Option (List ℕ)) → IsSomeAnd o (FitsText start end bytes made) → option_map (λ t. patched t start end bytes) o ≡ Some text → length text < most_offsets
      fitted None none f = absurd none
      fitted (Some old) fits_old f = subst (λ (t : List ℕ). length t < most_offsets) (some_same f) (patch_short made (length (patched old start end bytes)) fits_old.3)

      at : (b : Bool) → bytes_eq p path ≡ b → (if b then option_map (λ t. patched t start end bytes) (texts path) else texts path) ≡ Some text → IsShort path text
      at true same f =
          let is_here = (bytes_eq-Decides p path).0 same in (
            subst (λ (q : List ℕ). is_path q ≡ true) is_here is,
            fitted (texts path) (subst (λ (q : List ℕ). IsSomeAnd (texts q) (FitsText start end bytes made)) is_here fits) f,
          )
      at false other f = short path text f
  by_event commit is fits path text e = short path text e

  by_next : (version : Version) (o : Option EventData) → IfSome o (HasSpelling version) → IfSome o (λ event. Fits event (present_of event texts) made)
      → (path text : List ℕ) → text_next o texts path ≡ Some text → IsShort path text
  by_next version None spelled fits path text e = short path text e
  by_next version (Some event) spelled fits path text e = by_event event spelled.1 fits path text e

module _ (version : Version) (es : List EventData) (spelled : AllByRecursion (HasSpelling version) es) (fits : EveryFits es) where
  spelled_at : (n : ℕ) (o : Option EventData) → slice_get es n ≡ o → IfSome o (HasSpelling version)
  spelled_at n None e = tt
  spelled_at n (Some event) e = event_at version es n event spelled e

  short_at : (n : ℕ) (path text : List ℕ) → text_at es n path ≡ Some text → IsShort path text
  short_at zero path text e = none_some e
  short_at (suc n) path text e =
      by_next (made_at es n) (λ other. text_at es n other) (λ p t f. short_at n p t f) version (slice_get es n) (spelled_at n (slice_get es n) refl) (fits n) path text e

pub files_short : (script : List ℕ) (es : List EventData) (files : FilesData) → IsScript script es → EveryFits es → AreFilesAfter es files → AreShort files
files_short script es files (version, (is, spelled)) fits after path text e = short_at version es spelled fits (length es) path text (sym (after path) ∙ e)
