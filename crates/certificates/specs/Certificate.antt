-- What a certificate's text is.
use Rattle.std.specs.Prelude.{◌≡◌, ℕ, ◌<◌, ◌^◌, Bool, true, ◌&&◌, ◌||◌, ◌==◌, not, List, ◌++◌, length, codes}
use Rattle.std.specs.Char.{is_ascii_alphanumeric}
use Rattle.std.specs.Fmt.{decimal}
use Rattle.std.specs.List.{AllByRecursion, flat_map, list_all}
use Rattle.tk_io.specs.Characters.{percent_sign, plus_sign, hyphen, low_line}
use Rattle.edit_script.specs.Script.{is_path}
use Rattle.json_span.specs.Spelling.{string_text}
use Rattle.name_path.specs.Names.{IsTokenPath}
use Rattle.name_path.specs.Reference.{place_text}
use Rattle.name_path.specs.declared.place.Place.{Place}
use Rattle.certificates.specs.declared.certificate.Spot.{Spot}
use Rattle.certificates.specs.declared.certificate.Hop.{Hop}
use Rattle.certificates.specs.declared.certificate.Cert.{Cert}

abbrev pub equals_sign : ℕ
equals_sign = 61

abbrev pub is_permutation_byte : ℕ → Bool
is_permutation_byte b = is_ascii_alphanumeric b || ((b == low_line) || ((b == hyphen) || ((b == percent_sign) || ((b == equals_sign) || (b == plus_sign)))))

-- one or more ASCII letters, digits, `_`, `-`, `%`, `=` and `+`
abbrev pub is_permutation_name : List ℕ → Bool
is_permutation_name name = not (length name == 0) && list_all is_permutation_byte name

-- a place as a JSON string of its pointer
abbrev pub place_string : Place → List ℕ
place_string place = string_text (place_text place)

-- the file, the start and the end
abbrev pub span_words : Spot → List ℕ
span_words spot = spot.file ++ codes " " ++ decimal spot.start ++ codes " " ++ decimal spot.end

-- what follows the first word of a hop's line, and of the end's
abbrev pub hop_words : Hop → List ℕ
hop_words hop = place_string hop.spot.place ++ codes " " ++ place_string hop.target ++ codes " " ++ span_words hop.spot ++ codes "\n"

abbrev pub end_words : Spot → List ℕ
end_words last = place_string last.place ++ codes " " ++ span_words last ++ codes "\n"

abbrev pub hop_line : Hop → List ℕ
hop_line hop = codes "hop " ++ hop_words hop

abbrev pub end_line : Spot → List ℕ
end_line last = codes "end " ++ end_words last

-- the lines of hops and of the end
abbrev pub way_text : Cert → List ℕ
way_text cert = flat_map hop_line cert.hops ++ end_line cert.last

-- the lines of a certificate that speaks of a permutation
abbrev pub cert_text : List ℕ → Cert → List ℕ
cert_text perm cert = codes "tokc-explain 1\n" ++ codes "permutation " ++ perm ++ codes "\n" ++ codes "from " ++ place_string cert.from ++ codes "\n" ++ way_text cert

-- one more than the greatest offset
abbrev pub most_offsets : ℕ
most_offsets = 2 ^ 32

-- what has a place in a line
pub record SpotFits (spot : Spot) : Type 0 where
  pub token : IsTokenPath spot.place.token
  pub file : is_path spot.file ≡ true
  pub start : spot.start < most_offsets
  pub end : spot.end < most_offsets

pub record HopFits (hop : Hop) : Type 0 where
  pub spot : SpotFits hop.spot
  pub target : IsTokenPath hop.target.token

pub record CertFits (cert : Cert) : Type 0 where
  pub origin : IsTokenPath cert.from.token
  pub hops : AllByRecursion HopFits cert.hops
  pub last : SpotFits cert.last

-- the text spells this certificate of this permutation
abbrev pub IsCertificate : List ℕ → List ℕ → Cert → Type 0
IsCertificate text perm cert = (text ≡ cert_text perm cert) × (is_permutation_name perm ≡ true) × CertFits cert
