-- What a permutation's name comes to, and what is known of the files of a script.
use Rattle.std.specs.Prelude.{◌≡◌, ◌<◌, ℕ, true, false, List, [], ◌∷◌, codes, Option, None, Some, Result, Ok, Err, length}
use Rattle.std.specs.FinMap as finite
use Rattle.tk_io.specs.FilesData.{FilesData}
use Rattle.edit_script.specs.Script.{is_path}
use Rattle.name_path.specs.declared.place.Place.{Place}
use Rattle.alias_ref.specs.Laws.{Flat}
use Rattle.alias_ref.specs.Written.{is_written, written_in}
use Rattle.certificates.specs.Certificate.{is_permutation_name, most_offsets}
use Rattle.certificates.specs.declared.certificate.Cert.{Cert}
use Rattle.explain.specs.Laws.{HasLines}
use Rattle.explain.specs.Needs.{AreUnbroken}
use Rattle.explain.specs.Validity.{Valid}
use Rattle.transforms.specs.Config.{Settings}
use Rattle.refusals.specs.Refusal.{Report}
use Rattle.token_cells.specs.TokenCell.{TokenCell}
use Rattle.build_plain.specs.Breaks.{InTokens}
use Rattle.build_plain.specs.OneTree.{ComesTo, no_name}
use Rattle.explain_cli.specs.Answered.{Explains, IsAccepted, IsRefused, IsShown}
use Rattle.explain_cli.specs.declared.answer.Refusal.{Refusal}
use Rattle.explain_cli.specs.declared.answer.Refusal.TheVariants as refusal

-- each file stands at a path, and its text is no longer than the offsets of certificates reach
abbrev pub AreShort : FilesData → Type 0
AreShort files = (path text : List ℕ) → finite.get files path ≡ Some text → (is_path path ≡ true) × (length text < most_offsets)

-- the flat tree of a permutation that is accepted, or why there is none
abbrev pub IsJudged : FilesData → List ℕ → Result Flat Refusal → Type 0
IsJudged files name (Ok flat) = IsAccepted files name flat
IsJudged files name (Err refusal.Refused) = IsRefused files name
IsJudged files name (Err refusal.NoPermutation) = ComesTo files name no_name
IsJudged files name (Err refusal.NoPlace) = ⊥
IsJudged files name (Err refusal.NoFile) = ⊥
IsJudged files name (Err refusal.BadCertificate) = ⊥

-- a flat tree whose tokens break no rule is handed on, where these are the settings
abbrev pub IsWeighed : Settings → Flat → Option Flat → Type 0
IsWeighed settings flat (Some same) = (same ≡ flat) × ((cells : List TokenCell) × InTokens settings flat cells [])
IsWeighed settings flat None = (cells : List TokenCell) × (first : Report) × (others : List Report) × InTokens settings flat cells (first ∷ others)

-- what is answered of a place of a tree, and of a certificate

abbrev pub IsShownIn : Flat → List ℕ → Place → Result (List ℕ) Refusal → Type 0
IsShownIn flat name place (Ok text) = IsShown flat name place text
IsShownIn flat name place (Err refusal.NoPlace) = is_written (written_in flat place) ≡ false
IsShownIn flat name place (Err refusal.Refused) = ⊥
IsShownIn flat name place (Err refusal.NoPermutation) = ⊥
IsShownIn flat name place (Err refusal.NoFile) = ⊥
IsShownIn flat name place (Err refusal.BadCertificate) = ⊥

abbrev pub IsVerified : Flat → Cert → Result (List ℕ) Refusal → Type 0
IsVerified flat cert (Ok text) = (text ≡ codes "valid\n") × Explains flat cert
IsVerified flat cert (Err refusal.BadCertificate) = Valid flat cert → ⊥
IsVerified flat cert (Err refusal.NoPlace) = ⊥
IsVerified flat cert (Err refusal.Refused) = ⊥
IsVerified flat cert (Err refusal.NoPermutation) = ⊥
IsVerified flat cert (Err refusal.NoFile) = ⊥

-- what is known of a tree that is accepted: certificates of it can be made, and have lines
pub record IsFit (name : List ℕ) (flat : Flat) : Type 0 where
  pub unbroken : AreUnbroken flat
  pub lines : HasLines flat
  pub named : is_permutation_name name ≡ true
