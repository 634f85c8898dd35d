-- How files answer what is asked of them.
use Rattle.std.specs.Prelude.{◌≡◌, ◌⊎◌, ℕ, false, List, [], ◌∷◌, codes, Option, None, Some, Result, Ok, Err}
use Rattle.std.specs.FinMap as finite
use Rattle.ring.specs.Lists.{In}
use Rattle.tk_io.specs.FilesData.{FilesData}
use Rattle.name_path.specs.declared.place.Place.{Place}
use Rattle.alias_ref.specs.Laws.{Flat}
use Rattle.alias_ref.specs.Meaning.{Leads, Settles}
use Rattle.alias_ref.specs.Written.{is_reference, is_written, written_in}
use Rattle.certificates.specs.Certificate.{IsCertificate, cert_text}
use Rattle.certificates.specs.declared.certificate.Cert.{Cert}
use Rattle.certificates.specs.declared.certificate.Hop.{Hop}
use Rattle.explain.specs.Needs.{AreHopsOf}
use Rattle.explain.specs.Validity.{Valid}
use Rattle.permutations.specs.Permutation.{Permutation}
use Rattle.file_plan.specs.InUse.{resolver_path}
use Rattle.file_plan.specs.Plan.{planned, Plans}
use Rattle.source_trees.specs.MergedTokens.{IsFlatOf}
use Rattle.transforms.specs.Config.{Settings}
use Rattle.refusals.specs.Refusal.{Report}
use Rattle.token_cells.specs.TokenCell.{TokenCell}
use Rattle.build_plain.specs.Breaks.{Finds, home_of}
use Rattle.build_plain.specs.OneTree.{ComesTo, IsNamed, no_name, no_plan}
use Rattle.build_plain.specs.Out.{settings_of}
use Rattle.explain_cli.specs.declared.answer.Refusal.{Refusal}
use Rattle.explain_cli.specs.declared.answer.Refusal.TheVariants as refusal
use Rattle.explain_cli.specs.declared.asking.Question.{Question}
use Rattle.explain_cli.specs.declared.asking.Question.TheVariants.{Show, Check}

-- Of a permutation's name.

-- neither the configuration of the files nor their plan breaks a rule, and the permutation of this name is this one
pub record IsPlanned (files : FilesData) (settings : Settings) (name : List ℕ) (p : Permutation) : Type 0 where
  pub configured : settings_of files ≡ Ok settings
  pub perms : List Permutation
  pub plan : Plans (finite.get files resolver_path) (planned perms)
  pub named : IsNamed perms name p

-- .. it breaks no rule, and has this flat tree
pub record IsAccepted (files : FilesData) (name : List ℕ) (flat : Flat) : Type 0 where
  pub settings : Settings
  pub perm : Permutation
  pub is_planned : IsPlanned files settings name perm
  pub cells : List TokenCell
  pub unbroken : Finds settings files perm cells []
  pub is_flat : IsFlatOf files (home_of files) perm.sources flat

-- .. or it breaks one
pub record HasBreak (files : FilesData) (name : List ℕ) : Type 0 where
  pub settings : Settings
  pub perm : Permutation
  pub is_planned : IsPlanned files settings name perm
  pub cells : List TokenCell
  pub first : Report
  pub others : List Report
  pub broken : Finds settings files perm cells (first ∷ others)

-- the plan is refused, or the permutation is
abbrev pub IsRefused : FilesData → List ℕ → Type 0
IsRefused files name = ComesTo files name no_plan ⊎ HasBreak files name

-- Of a certificate.

-- It holds of the tree: each hop leads from its place to its target, the place that is explained settles at the end, and the
-- end is no reference.
pub record Explains (flat : Flat) (cert : Cert) : Type 0 where
  pub valid : Valid flat cert
  pub leads : (hop : Hop) → In hop cert.hops → Leads (written_in flat) hop.spot.place hop.target
  pub settles : Settles (written_in flat) cert.from cert.last.place
  pub end : is_reference (written_in flat cert.last.place) ≡ false

-- the text is that of the certificate of this place, and is read as it: it holds of the tree, and its hops are those that
-- explain the place
pub record IsShown (flat : Flat) (perm : List ℕ) (place : Place) (text : List ℕ) : Type 0 where
  pub cert : Cert
  pub from : cert.from ≡ place
  pub printed : text ≡ cert_text perm cert
  pub read_back : IsCertificate text perm cert
  pub explains : Explains flat cert
  pub hops : AreHopsOf (written_in flat) place cert.hops

-- The answer to a question: what is written, or the first reason for which nothing is.

abbrev pub IsShowing : FilesData → List ℕ → Place → Result (List ℕ) Refusal → Type 0
IsShowing files perm place (Ok text) = (flat : Flat) × IsAccepted files perm flat × IsShown flat perm place text
IsShowing files perm place (Err refusal.Refused) = IsRefused files perm
IsShowing files perm place (Err refusal.NoPermutation) = ComesTo files perm no_name
IsShowing files perm place (Err refusal.NoPlace) = (flat : Flat) × IsAccepted files perm flat × (is_written (written_in flat place) ≡ false)
IsShowing files perm place (Err refusal.NoFile) = ⊥
IsShowing files perm place (Err refusal.BadCertificate) = ⊥

-- .. of a text as a certificate: it is that of this one of this permutation, and of no other
pub record IsOnlyOf (text perm : List ℕ) (cert : Cert) : Type 0 where
  pub spelled : IsCertificate text perm cert
  pub alone : (name : List ℕ) (other : Cert) → IsCertificate text name other → (perm ≡ name) × (cert ≡ other)

-- .. of a permutation that is accepted, in whose tree it holds
pub record IsValidIn (files : FilesData) (text : List ℕ) : Type 0 where
  pub perm : List ℕ
  pub cert : Cert
  pub is_of : IsOnlyOf text perm cert
  pub flat : Flat
  pub accepted : IsAccepted files perm flat
  pub explains : Explains flat cert

-- .. or does not
pub record IsInvalidIn (files : FilesData) (text : List ℕ) : Type 0 where
  pub perm : List ℕ
  pub cert : Cert
  pub is_of : IsOnlyOf text perm cert
  pub flat : Flat
  pub accepted : IsAccepted files perm flat
  pub invalid : Valid flat cert → ⊥

-- .. of a permutation of which this holds
abbrev pub IsOfName : List ℕ → (List ℕ → Type 0) → Type 0
IsOfName text claim = (perm : List ℕ) × (cert : Cert) × IsOnlyOf text perm cert × claim perm

abbrev pub IsNoCertificate : List ℕ → Type 0
IsNoCertificate text = (perm : List ℕ) (cert : Cert) → IsCertificate text perm cert → ⊥

abbrev pub IsChecking : FilesData → Option (List ℕ) → Result (List ℕ) Refusal → Type 0
IsChecking files None answer = answer ≡ Err refusal.NoFile
IsChecking files (Some text) (Ok written) = (written ≡ codes "valid\n") × IsValidIn files text
IsChecking files (Some text) (Err refusal.NoFile) = ⊥
IsChecking files (Some text) (Err refusal.BadCertificate) = IsNoCertificate text ⊎ IsInvalidIn files text
IsChecking files (Some text) (Err refusal.Refused) = IsOfName text (IsRefused files)
IsChecking files (Some text) (Err refusal.NoPermutation) = IsOfName text (λ perm. ComesTo files perm no_name)
IsChecking files (Some text) (Err refusal.NoPlace) = ⊥

abbrev pub IsAnswer : FilesData → Question → Result (List ℕ) Refusal → Type 0
IsAnswer files (Show perm place) answer = IsShowing files perm place answer
IsAnswer files (Check path) answer = IsChecking files (finite.get files path) answer

-- whether something is written
abbrev pub refusal_in : Result (List ℕ) Refusal → Option Refusal
refusal_in (Ok text) = None
refusal_in (Err why) = Some why

-- files give one answer to a question, but that a certificate may be another one
abbrev pub OneAnswer : Type 0
OneAnswer = (files : FilesData) (q : Question) (a b : Result (List ℕ) Refusal) → IsAnswer files q a → IsAnswer files q b → refusal_in a ≡ refusal_in b
