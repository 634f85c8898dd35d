-- What a valid certificate says has a place in its lines.
use Rattle.std.proofs.Common.{◌≡◌, List, [], ◌∷◌, ◌++◌, true, Option, Some, None, refl, sym, ap, ◌∙◌, subst}
use Rattle.std.specs.FinMap as map
use Rattle.std.specs.List.{AllByRecursion}
use Rattle.edit_script.specs.Script.{is_path}
use Rattle.name_path.specs.Names.{IsTokenPath}
use Rattle.name_path.specs.declared.place.Place.{Place}
use Rattle.group_inherit.specs.Flattening.{Flattened}
use Rattle.alias_ref.specs.Written.{Step, written_in, is_written}
use Rattle.alias_ref.specs.Laws.{Flat}
use Rattle.certificates.specs.Certificate.{SpotFits, HopFits, CertFits}
use Rattle.certificates.specs.declared.certificate.Spot.{Spot}
use Rattle.certificates.specs.declared.certificate.Hop.{Hop}
use Rattle.certificates.specs.declared.certificate.Cert.{Cert}
use Rattle.explain.specs.Laws.{HasLines, ValidIsSpelled}
use Rattle.explain.specs.Validity.{GoesBy, arrived, onward, LeadsBy, leads, EachLeads, IsSpotIn, Valid}
use Rattle.explain.proofs.HopsHold.{true_false}
use Rattle.explain.proofs.PlacesWritten.{none_there}

module _ (flat : Flat) (lines : HasLines flat) where
  token_fits : (p : Place) → is_written (written_in flat p) ≡ true → IsTokenPath p.token
  token_fits p w = at (map.get flat p.token) refl
    where
      at : (o : Option Flattened) → map.get flat p.token ≡ o → IsTokenPath p.token
      at None e = true_false (sym w ∙ ap is_written (none_there flat p e))
      at (Some f) e = lines.tokens p.token f e

  spot_fits : (s : Spot) → IsSpotIn flat s → SpotFits s
  spot_fits s is =
      let offsets = lines.offsets s.place s.start s.end is.span in
      record {
        token = token_fits s.place is.written;
        file = subst (λ file. is_path file ≡ true) (sym is.file) (lines.files s.place.token is.found is.token);
        start = offsets.0;
        end = offsets.1;
      }

  -- where the steps end is written
  goes_written : {hops : List Hop} {p q : Place} {steps : List Step} → GoesBy (written_in flat) hops p steps q → is_written (written_in flat p) ≡ true → is_written (written_in flat q) ≡ true
  goes_written arrived w = w
  goes_written (onward s v more) w = goes_written more v

  target_written : {hops : List Hop} {p q : Place} → LeadsBy (written_in flat) hops p q → is_written (written_in flat q) ≡ true
  target_written (leads e w way) = goes_written way w

  hops_fit : (before hops : List Hop) → EachLeads (written_in flat) before hops → AllByRecursion (λ h. IsSpotIn flat h.spot) hops → AllByRecursion HopFits hops
  hops_fit before [] e s = tt
  hops_fit before (h ∷ hops) e s = (
    record { spot = spot_fits h.spot s.0; target = token_fits h.target (target_written e.0) },
    hops_fit (before ++ h ∷ []) hops e.1 s.1,
  )

  pub valid_fits : (cert : Cert) → Valid flat cert → CertFits cert
  valid_fits cert v = record {
    origin = token_fits cert.from v.origin;
    hops = hops_fit [] cert.hops v.hops v.spots;
    last = spot_fits cert.last v.last;
  }

pub valid_spelled : ValidIsSpelled
valid_spelled flat cert perm lines v named = (refl, named, valid_fits flat lines cert v)
