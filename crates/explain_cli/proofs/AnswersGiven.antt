-- What is answered of a permutation's tree is the answer to a question.
use Rattle.std.proofs.Common.{◌≡◌, inr, ℕ, List, Some, Result, Ok, Err, subst}
use Rattle.std.specs.Prelude.{IfOk}
use Rattle.tk_io.specs.FilesData.{FilesData}
use Rattle.name_path.specs.declared.place.Place.{Place}
use Rattle.alias_ref.specs.Laws.{Flat}
use Rattle.certificates.specs.declared.certificate.Cert.{Cert}
use Rattle.explain_cli.specs.Answered.{IsAccepted, IsChecking, IsOnlyOf, IsShowing}
use Rattle.explain_cli.specs.declared.answer.Refusal.{Refusal}
use Rattle.explain_cli.specs.declared.answer.Refusal.TheVariants as refusal
use Rattle.explain_cli.specs.inner.Judging.{IsJudged, IsShownIn, IsVerified}

-- a tree that is judged to be accepted
accepted_in : (files : FilesData) (name : List ℕ) (flat : Flat) (judged : Result Flat Refusal) → IsJudged files name judged → judged ≡ Ok flat → IsAccepted files name flat
accepted_in files name flat judged h e = subst (IsJudged files name) e h

module _ (files : FilesData) (flat : Flat) (perm : List ℕ) (accepted : IsAccepted files perm flat) where
  -- a place of it is shown
  showing : (place : Place) (a : Result (List ℕ) Refusal) → IsShownIn flat perm place a → IsShowing files perm place a
  showing place (Ok text) is = (flat, accepted, is)
  showing place (Err refusal.NoPlace) is = (flat, accepted, is)
  showing place (Err refusal.Refused) is = absurd is
  showing place (Err refusal.NoPermutation) is = absurd is
  showing place (Err refusal.NoFile) is = absurd is
  showing place (Err refusal.BadCertificate) is = absurd is

  -- .. and a certificate of it is checked
  checking : (text : List ℕ) (cert : Cert) → IsOnlyOf text perm cert → (a : Result (List ℕ) Refusal) → IsVerified flat cert a → IsChecking files (Some text) a
  checking text cert one (Ok line) (same, explains) =
      (same, record { perm = perm; cert = cert; is_of = one; flat = flat; accepted = accepted; explains = explains })
  checking text cert one (Err refusal.BadCertificate) invalid =
      inr (record { perm = perm; cert = cert; is_of = one; flat = flat; accepted = accepted; invalid = invalid })
  checking text cert one (Err refusal.NoPlace) is = absurd is
  checking text cert one (Err refusal.Refused) is = absurd is
  checking text cert one (Err refusal.NoPermutation) is = absurd is
  checking text cert one (Err refusal.NoFile) is = absurd is

if_shown : {E : Type 0} (files : FilesData) (flat : Flat) (perm : List ℕ) (place : Place) → IsAccepted files perm flat → (r : Result (Result (List ℕ) Refusal) E)
    → IfOk r (IsShownIn flat perm place) → IfOk r (IsShowing files perm place)
if_shown files flat perm place accepted (Ok a) is = showing files flat perm accepted place a is
if_shown files flat perm place accepted (Err e) is = tt

if_verified : {E : Type 0} (files : FilesData) (flat : Flat) (perm text : List ℕ) (cert : Cert) → IsAccepted files perm flat → IsOnlyOf text perm cert → (r : Result (Result (List ℕ) Refusal) E)
    → IfOk r (IsVerified flat cert) → IfOk r (IsChecking files (Some text))
if_verified files flat perm text cert accepted one (Ok a) is = checking files flat perm accepted text cert one a is
if_verified files flat perm text cert accepted one (Err e) is = tt

pub shown_so : {E : Type 0} (files : FilesData) (flat : Flat) (perm : List ℕ) (place : Place) (judged : Result Flat Refusal) → IsJudged files perm judged → judged ≡ Ok flat → (r : Result (Result (List ℕ) Refusal) E)
    → IfOk r (IsShownIn flat perm place) → IfOk r (IsShowing files perm place)
shown_so files flat perm place judged h e r is = if_shown files flat perm place (accepted_in files perm flat judged h e) r is

pub checked_so : {E : Type 0} (files : FilesData) (flat : Flat) (name perm text : List ℕ) (cert : Cert) (judged : Result Flat Refusal) → IsJudged files name judged → judged ≡ Ok flat → name ≡ perm → IsOnlyOf text perm cert
    → (r : Result (Result (List ℕ) Refusal) E) → IfOk r (IsVerified flat cert) → IfOk r (IsChecking files (Some text))
checked_so files flat name perm text cert judged h e same one r is =
    if_verified files flat perm text cert (subst (λ (n : List ℕ). IsAccepted files n flat) same (accepted_in files name flat judged h e)) one r is
