-- What a valid certificate shows, and that its lines spell it.
use Rattle.std.specs.Prelude.{◌≡◌, ◌<◌, ℕ, List, true, false, Some}
use Rattle.std.specs.FinMap as flat_map
use Rattle.edit_script.specs.Script.{is_path}
use Rattle.json_span.specs.PlainView.{Value}
use Rattle.name_path.specs.Names.{IsTokenPath}
use Rattle.name_path.specs.declared.place.Place.{Place}
use Rattle.group_inherit.specs.Flattening.{Flattened}
use Rattle.alias_ref.specs.Span.{span_in}
use Rattle.alias_ref.specs.Written.{Step, written_in, is_reference}
use Rattle.alias_ref.specs.Meaning.{Leads, Settles, Means}
use Rattle.alias_ref.specs.Laws.{Flat}
use Rattle.ring.specs.Lists.{In}
use Rattle.certificates.specs.Certificate.{IsCertificate, cert_text, is_permutation_name, most_offsets}
use Rattle.certificates.specs.declared.certificate.Hop.{Hop}
use Rattle.certificates.specs.declared.certificate.Cert.{Cert}
use Rattle.explain.specs.Validity.{Valid}

-- each hop is a reference of the tree, and leads to its target
abbrev pub HopsLead : Type 0
HopsLead = (flat : Flat) (cert : Cert) → Valid flat cert → (hop : Hop) → In hop cert.hops → Leads (written_in flat) hop.spot.place hop.target

-- the place that is explained settles at the end
abbrev pub OriginSettles : Type 0
OriginSettles = (flat : Flat) (cert : Cert) → Valid flat cert → Settles (written_in flat) cert.from cert.last.place

-- which is no reference
abbrev pub EndStays : Type 0
EndStays = (flat : Flat) (cert : Cert) → Valid flat cert → is_reference (written_in flat cert.last.place) ≡ false

-- what the end means, the place that is explained means
abbrev pub EndMeans : Type 0
EndMeans = (flat : Flat) (cert : Cert) (v : Value) → Valid flat cert → Means (written_in flat) cert.last.place v → Means (written_in flat) cert.from v

-- certificates of one place have one end
abbrev pub OneEnd : Type 0
OneEnd = (flat : Flat) (cert other : Cert) → Valid flat cert → Valid flat other → cert.from ≡ other.from → cert.last.place ≡ other.last.place

-- what is said of the tree's tokens has a place in the lines of certificates: their paths, the paths of their files, and the
-- offsets of their places
pub record HasLines (flat : Flat) : Type 0 where
  pub tokens : (path : List Step) (f : Flattened) → flat_map.get flat path ≡ Some f → IsTokenPath path
  pub files : (path : List Step) (f : Flattened) → flat_map.get flat path ≡ Some f → is_path f.def.file ≡ true
  pub offsets : (p : Place) (start end : ℕ) → span_in flat p ≡ Some (start, end) → (start < most_offsets) × (end < most_offsets)

-- a certificate that is valid there is spelled by its lines
abbrev pub ValidIsSpelled : Type 0
ValidIsSpelled = (flat : Flat) (cert : Cert) (perm : List ℕ) → HasLines flat → Valid flat cert → is_permutation_name perm ≡ true
    → IsCertificate (cert_text perm cert) perm cert
