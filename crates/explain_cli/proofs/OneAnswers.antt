-- Files answer a question in one way.
use Rattle.std.proofs.Common.{◌≡◌, ◌⊎◌, inl, inr, ℕ, Bool, true, false, List, [], ◌∷◌, Option, Some, None, Result, Ok, Err, refl, sym, ap, subst, ◌∙◌}
use Rattle.std.specs.FinMap as finite
use Rattle.ring.specs.Lists.{In}
use Rattle.tk_io.specs.FilesData.{FilesData}
use Rattle.name_path.specs.declared.place.Place.{Place}
use Rattle.alias_ref.specs.Laws.{Flat}
use Rattle.alias_ref.specs.Written.{is_written, written_in}
use Rattle.certificates.specs.declared.certificate.Cert.{Cert}
use Rattle.explain.specs.Validity.{Valid}
use Rattle.permutations.specs.Permutation.{Permutation}
use Rattle.file_plan.specs.InUse.{resolver_path}
use Rattle.file_plan.specs.Laws.{NamesAreApart, OnePlan}
use Rattle.file_plan.specs.Plan.{Planned, planned, refused, Plans}
use Rattle.source_trees.specs.Laws.{OneFlatOf}
use Rattle.source_trees.specs.MergedTokens.{IsFlatOf}
use Rattle.transforms.specs.Config.{Settings}
use Rattle.transforms.specs.declared.config.ConfigFault.{ConfigFault}
use Rattle.refusals.specs.Refusal.{Report}
use Rattle.build_plain.specs.Breaks.{Finds, home_of}
use Rattle.build_plain.specs.Laws.{OneFinding}
use Rattle.build_plain.specs.OneTree.{ComesTo, ComesToBy, ComesToUnder, OneOfName, no_name, no_plan}
use Rattle.build_plain.specs.Out.{settings_of}
use Rattle.build_plain.proofs.NamedTree.{in_names, once}
use Rattle.explain_cli.specs.Answered.{IsAccepted, IsChecking, IsInvalidIn, IsNoCertificate, IsOfName, IsOnlyOf, IsPlanned, IsRefused, IsShowing, IsShown, IsValidIn, OneAnswer, refusal_in}
use Rattle.explain_cli.specs.declared.answer.Refusal.{Refusal}
use Rattle.explain_cli.specs.declared.answer.Refusal.TheVariants as refusal
use Rattle.explain_cli.specs.declared.asking.Question.TheVariants.{Show, Check}

-- the laws of the layers below that are needed
pub record Laws : Type 0 where
  pub plan : OnePlan
  pub apart : NamesAreApart
  pub flat : OneFlatOf
  pub found : OneFinding
  pub name : OneOfName

ok_same : (r : Result Settings ConfigFault) (s t : Settings) → r ≡ Ok s → r ≡ Ok t → s ≡ t
ok_same r s t e f = cc

planned_same : (ps qs : List Permutation) → planned ps ≡ planned qs → ps ≡ qs
planned_same ps qs e = cc

nothing_more : (r : Report) (rs : List Report) → [] ≡ r ∷ rs → ⊥
nothing_more r rs e = cc

true_false : {b : Bool} → b ≡ true → b ≡ false → ⊥
true_false e f = cc

module _ (laws : Laws) (files : FilesData) where
  -- One permutation has a name.
  module _ (name : List ℕ) (s t : Settings) (p q : Permutation) (one : IsPlanned files s name p) (other : IsPlanned files t name q) where
    same_settings : s ≡ t
    same_settings = ok_same (settings_of files) s t one.configured other.configured

    same_perm : p ≡ q
    same_perm =
        let same : one.perms ≡ other.perms = planned_same one.perms other.perms (laws.plan (finite.get files resolver_path) (planned one.perms) (planned other.perms) one.plan other.plan) in
        once other.perms name p q (laws.apart (finite.get files resolver_path) other.perms other.plan)
        (subst (In p) same one.named.among) one.named.same other.named.among other.named.same

  -- .. so its plan is not refused, and it is in the plan
  module _ (name : List ℕ) (s : Settings) (p : Permutation) (one : IsPlanned files s name p) where
    in_plan : (q : Planned) → Plans (finite.get files resolver_path) q → ComesToBy files q name no_plan → ⊥
    in_plan (planned perms) plans what = what
    in_plan (refused broken) plans what = other (laws.plan (finite.get files resolver_path) (planned one.perms) (refused broken) one.plan plans)
      where
        other : planned one.perms ≡ refused broken → ⊥
        other e = cc

    has_plan : ComesTo files name no_plan → ⊥
    has_plan what =
        let (q, plans, by) : ComesToUnder files (Ok s) name no_plan = subst (λ (r : Result Settings ConfigFault). ComesToUnder files r name no_plan) one.configured what in
        in_plan q plans by

    in_named : (q : Planned) → Plans (finite.get files resolver_path) q → ComesToBy files q name no_name → ⊥
    in_named (planned perms) plans what =
        let same : one.perms ≡ perms = planned_same one.perms perms (laws.plan (finite.get files resolver_path) (planned one.perms) (planned perms) one.plan plans) in
        what (in_names perms name p (subst (In p) same one.named.among) one.named.same)
    in_named (refused broken) plans what = other what
      where
        other : no_name ≡ no_plan → ⊥
        other e = cc

    has_name : ComesTo files name no_name → ⊥
    has_name what =
        let (q, plans, by) : ComesToUnder files (Ok s) name no_name = subst (λ (r : Result Settings ConfigFault). ComesToUnder files r name no_name) one.configured what in
        in_named q plans by

  -- A name is accepted, refused, or not there.
  module _ (name : List ℕ) where
    not_refused : (flat : Flat) → IsAccepted files name flat → IsRefused files name → ⊥
    not_refused flat a (inl what) = has_plan name a.settings a.perm a.is_planned what
    not_refused flat a (inr b) =
        let settings = same_settings name a.settings b.settings a.perm b.perm a.is_planned b.is_planned in
        let perm = same_perm name a.settings b.settings a.perm b.perm a.is_planned b.is_planned in
        let found : Finds b.settings files b.perm a.cells [] = subst (λ p. Finds b.settings files p a.cells []) perm (subst (λ s. Finds s files a.perm a.cells []) settings a.unbroken) in
        nothing_more b.first b.others (laws.found b.settings files b.perm a.cells b.cells [] (b.first ∷ b.others) found b.broken).1

    accepted_there : (flat : Flat) → IsAccepted files name flat → ComesTo files name no_name → ⊥
    accepted_there flat a what = has_name name a.settings a.perm a.is_planned what

    refused_there : IsRefused files name → ComesTo files name no_name → ⊥
    refused_there (inl what) none = other (laws.name files name no_plan no_name what none)
      where
        other : no_plan ≡ no_name → ⊥
        other e = cc
    refused_there (inr b) none = has_name name b.settings b.perm b.is_planned none

    same_flat : (f g : Flat) → IsAccepted files name f → IsAccepted files name g → f ≡ g
    same_flat f g a b =
        let perm = same_perm name a.settings b.settings a.perm b.perm a.is_planned b.is_planned in
        laws.flat files (home_of files) b.perm.sources f g (subst (λ (p : Permutation). IsFlatOf files (home_of files) p.sources f) perm a.is_flat) b.is_flat

  module _ (name : List ℕ) (place : Place) where
    abbrev Answer : Type 0
    Answer = Result (List ℕ) Refusal

    shown_written : (f g : Flat) (text : List ℕ) → IsAccepted files name f → IsShown f name place text → IsAccepted files name g → is_written (written_in g place) ≡ false → ⊥
    shown_written f g text a s b none =
        let origin = subst (λ p. is_written (written_in f p) ≡ true) s.from s.explains.valid.origin in
        true_false (subst (λ (h : Flat). is_written (written_in h place) ≡ true) (same_flat name f g a b) origin) none

    one_showing : (a b : Answer) → IsShowing files name place a → IsShowing files name place b → refusal_in a ≡ refusal_in b
    one_showing (Ok t) (Ok u) i j = refl
    one_showing (Ok t) (Err refusal.Refused) (f, a, s) j = absurd (not_refused name f a j)
    one_showing (Ok t) (Err refusal.NoPermutation) (f, a, s) j = absurd (accepted_there name f a j)
    one_showing (Ok t) (Err refusal.NoPlace) (f, a, s) (g, b, none) = absurd (shown_written f g t a s b none)
    one_showing (Ok t) (Err refusal.NoFile) i j = absurd j
    one_showing (Ok t) (Err refusal.BadCertificate) i j = absurd j
    one_showing (Err refusal.Refused) (Ok u) i (g, b, s) = absurd (not_refused name g b i)
    one_showing (Err refusal.Refused) (Err refusal.Refused) i j = refl
    one_showing (Err refusal.Refused) (Err refusal.NoPermutation) i j = absurd (refused_there name i j)
    one_showing (Err refusal.Refused) (Err refusal.NoPlace) i (g, b, none) = absurd (not_refused name g b i)
    one_showing (Err refusal.Refused) (Err refusal.NoFile) i j = absurd j
    one_showing (Err refusal.Refused) (Err refusal.BadCertificate) i j = absurd j
    one_showing (Err refusal.NoPermutation) (Ok u) i (g, b, s) = absurd (accepted_there name g b i)
    one_showing (Err refusal.NoPermutation) (Err refusal.Refused) i j = absurd (refused_there name j i)
    one_showing (Err refusal.NoPermutation) (Err refusal.NoPermutation) i j = refl
    one_showing (Err refusal.NoPermutation) (Err refusal.NoPlace) i (g, b, none) = absurd (accepted_there name g b i)
    one_showing (Err refusal.NoPermutation) (Err refusal.NoFile) i j = absurd j
    one_showing (Err refusal.NoPermutation) (Err refusal.BadCertificate) i j = absurd j
    one_showing (Err refusal.NoPlace) (Ok u) (f, a, none) (g, b, s) = absurd (shown_written g f u b s a none)
    one_showing (Err refusal.NoPlace) (Err refusal.Refused) (f, a, none) j = absurd (not_refused name f a j)
    one_showing (Err refusal.NoPlace) (Err refusal.NoPermutation) (f, a, none) j = absurd (accepted_there name f a j)
    one_showing (Err refusal.NoPlace) (Err refusal.NoPlace) i j = refl
    one_showing (Err refusal.NoPlace) (Err refusal.NoFile) i j = absurd j
    one_showing (Err refusal.NoPlace) (Err refusal.BadCertificate) i j = absurd j
    one_showing (Err refusal.NoFile) b i j = absurd i
    one_showing (Err refusal.BadCertificate) b i j = absurd i

  module _ (text : List ℕ) where
    -- what is said of a certificate's permutation is said of another's
    moved : (claim : List ℕ → Type 0) (p q : List ℕ) (c d : Cert) → IsOnlyOf text p c → IsOnlyOf text q d → claim q → claim p
    moved claim p q c d one other h = subst claim (sym (one.alone q d other.spelled).0) h

    abbrev Names : (List ℕ → Type 0) → Type 0
    Names claim = IsOfName text claim

    not_bad : IsValidIn files text → IsNoCertificate text ⊎ IsInvalidIn files text → ⊥
    not_bad v (inl none) = none v.perm v.cert v.is_of.spelled
    not_bad v (inr w) =
        let same = v.is_of.alone w.perm w.cert w.is_of.spelled in
        let accepted : IsAccepted files v.perm w.flat = subst (λ n. IsAccepted files n w.flat) (sym same.0) w.accepted in
        let valid : Valid w.flat v.cert = subst (λ f. Valid f v.cert) (same_flat v.perm v.flat w.flat v.accepted accepted) v.explains.valid in
        w.invalid (subst (Valid w.flat) same.1 valid)

    valid_refused : IsValidIn files text → Names (IsRefused files) → ⊥
    valid_refused v (perm, cert, one, h) = not_refused v.perm v.flat v.accepted (moved (IsRefused files) v.perm perm v.cert cert v.is_of one h)

    valid_there : IsValidIn files text → Names (λ n. ComesTo files n no_name) → ⊥
    valid_there v (perm, cert, one, h) = accepted_there v.perm v.flat v.accepted (moved (λ n. ComesTo files n no_name) v.perm perm v.cert cert v.is_of one h)

    bad_refused : IsNoCertificate text ⊎ IsInvalidIn files text → Names (IsRefused files) → ⊥
    bad_refused (inl none) (perm, cert, one, h) = none perm cert one.spelled
    bad_refused (inr w) (perm, cert, one, h) = not_refused w.perm w.flat w.accepted (moved (IsRefused files) w.perm perm w.cert cert w.is_of one h)

    bad_there : IsNoCertificate text ⊎ IsInvalidIn files text → Names (λ n. ComesTo files n no_name) → ⊥
    bad_there (inl none) (perm, cert, one, h) = none perm cert one.spelled
    bad_there (inr w) (perm, cert, one, h) = accepted_there w.perm w.flat w.accepted (moved (λ n. ComesTo files n no_name) w.perm perm w.cert cert w.is_of one h)

    names_apart : Names (IsRefused files) → Names (λ n. ComesTo files n no_name) → ⊥
    names_apart (perm, cert, one, h) (name, other, one_too, k) = refused_there perm h (moved (λ n. ComesTo files n no_name) perm name cert other one one_too k)

    one_checking : (a b : Result (List ℕ) Refusal) → IsChecking files (Some text) a → IsChecking files (Some text) b → refusal_in a ≡ refusal_in b
    one_checking (Ok t) (Ok u) i j = refl
    one_checking (Ok t) (Err refusal.BadCertificate) i j = absurd (not_bad i.1 j)
    one_checking (Ok t) (Err refusal.Refused) i j = absurd (valid_refused i.1 j)
    one_checking (Ok t) (Err refusal.NoPermutation) i j = absurd (valid_there i.1 j)
    one_checking (Ok t) (Err refusal.NoFile) i j = absurd j
    one_checking (Ok t) (Err refusal.NoPlace) i j = absurd j
    one_checking (Err refusal.BadCertificate) (Ok u) i j = absurd (not_bad j.1 i)
    one_checking (Err refusal.BadCertificate) (Err refusal.BadCertificate) i j = refl
    one_checking (Err refusal.BadCertificate) (Err refusal.Refused) i j = absurd (bad_refused i j)
    one_checking (Err refusal.BadCertificate) (Err refusal.NoPermutation) i j = absurd (bad_there i j)
    one_checking (Err refusal.BadCertificate) (Err refusal.NoFile) i j = absurd j
    one_checking (Err refusal.BadCertificate) (Err refusal.NoPlace) i j = absurd j
    one_checking (Err refusal.Refused) (Ok u) i j = absurd (valid_refused j.1 i)
    one_checking (Err refusal.Refused) (Err refusal.BadCertificate) i j = absurd (bad_refused j i)
    one_checking (Err refusal.Refused) (Err refusal.Refused) i j = refl
    one_checking (Err refusal.Refused) (Err refusal.NoPermutation) i j = absurd (names_apart i j)
    one_checking (Err refusal.Refused) (Err refusal.NoFile) i j = absurd j
    one_checking (Err refusal.Refused) (Err refusal.NoPlace) i j = absurd j
    one_checking (Err refusal.NoPermutation) (Ok u) i j = absurd (valid_there j.1 i)
    one_checking (Err refusal.NoPermutation) (Err refusal.BadCertificate) i j = absurd (bad_there j i)
    one_checking (Err refusal.NoPermutation) (Err refusal.Refused) i j = absurd (names_apart j i)
    one_checking (Err refusal.NoPermutation) (Err refusal.NoPermutation) i j = refl
    one_checking (Err refusal.NoPermutation) (Err refusal.NoFile) i j = absurd j
    one_checking (Err refusal.NoPermutation) (Err refusal.NoPlace) i j = absurd j
    one_checking (Err refusal.NoFile) b i j = absurd i
    one_checking (Err refusal.NoPlace) b i j = absurd i

  one_at : (o : Option (List ℕ)) (a b : Result (List ℕ) Refusal) → IsChecking files o a → IsChecking files o b → refusal_in a ≡ refusal_in b
  one_at None a b i j = ap refusal_in (i ∙ sym j)
  one_at (Some text) a b i j = one_checking text a b i j

pub one_answer : Laws → OneAnswer
one_answer laws files (Show perm place) a b i j = one_showing laws files perm place a b i j
one_answer laws files (Check path) a b i j = one_at laws files (finite.get files path) a b i j
