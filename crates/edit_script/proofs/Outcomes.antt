-- What an outcome says of its event, and of what stands behind it.
use Rattle.std.proofs.Common.{◌≡◌, ◌+◌, ℕ, List, [], ◌∷◌, ◌++◌, Option, refl, sym, ap, subst, ◌∙◌}
use Rattle.std.specs.FinMap as map
use Rattle.tk_io.specs.FilesData.{FilesData}
use Rattle.edit_script.specs.Effect.{OutcomeData, given, gone, moved, committed, unfit, IsOutcome, files_by, made_with, outcome_of}
use Rattle.edit_script.specs.Files.{AreFilesAfter, Fits, FitsAfter, made_after, present_of}
use Rattle.edit_script.specs.Script.{EventData}
use Rattle.edit_script.proofs.Standing.{outcome_files, present_same}
use Rattle.edit_script.proofs.UnfitEvents.{outcome_made}

-- an outcome is that of an event that fits, unless it says that it does not
fitting : (e : EventData) (present : Option (List ℕ)) (made : ℕ) (o : OutcomeData) → IsOutcome e present made o → (o ≡ unfit → ⊥) → Fits e present made × (o ≡ outcome_of e present)
fitting e present made (given path text) h some = h
fitting e present made (gone path) h some = h
fitting e present made (moved first second text) h some = h
fitting e present made committed h some = h
fitting e present made unfit h some = absurd (some refl)

pub outcome_fits : (es : List EventData) (files : FilesData) (e : EventData) (o : OutcomeData) → AreFilesAfter es files → IsOutcome e (present_of e (map.get files)) (made_after es) o → (o ≡ unfit → ⊥) → FitsAfter es e
outcome_fits es files e o h is some = subst (λ p. Fits e p (made_after es)) (present_same es files e h) (fitting e (present_of e (map.get files)) (made_after es) o is some).0

pub outcome_leaves : (es : List EventData) (files : FilesData) (e : EventData) (o : OutcomeData) → AreFilesAfter es files → IsOutcome e (present_of e (map.get files)) (made_after es) o → (o ≡ unfit → ⊥) → AreFilesAfter (es ++ e ∷ []) (files_by o files)
outcome_leaves es files e o h is some =
    let what = (fitting e (present_of e (map.get files)) (made_after es) o is some).1 in
    subst (λ x. AreFilesAfter (es ++ e ∷ []) (files_by x files)) (sym what) (outcome_files es files e h (outcome_fits es files e o h is some))

pub outcome_makes : (es : List EventData) (files : FilesData) (e : EventData) (o : OutcomeData) → AreFilesAfter es files → IsOutcome e (present_of e (map.get files)) (made_after es) o → (o ≡ unfit → ⊥) → made_after (es ++ e ∷ []) ≡ made_after es + made_with e o
outcome_makes es files e o h is some =
    let what = (fitting e (present_of e (map.get files)) (made_after es) o is some).1 in
    outcome_made es e ∙ ap (λ x. made_after es + made_with e x) (ap (outcome_of e) (sym (present_same es files e h)) ∙ sym what)

pub outcome_unfit : (es : List EventData) (files : FilesData) (e : EventData) → AreFilesAfter es files → IsOutcome e (present_of e (map.get files)) (made_after es) unfit → FitsAfter es e → ⊥
outcome_unfit es files e h is fits = is (subst (λ p. Fits e p (made_after es)) (sym (present_same es files e h)) fits)
