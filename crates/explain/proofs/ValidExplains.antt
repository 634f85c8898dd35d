-- A valid certificate shows where its place settles.
use Rattle.std.proofs.Common.{◌≡◌, List, [], ◌∷◌, ◌++◌, inl, inr, false, sym, subst}
use Rattle.name_path.specs.declared.place.Place.{Place}
use Rattle.json_span.specs.PlainView.{Value}
use Rattle.ring.specs.Lists.{In}
use Rattle.alias_ref.specs.Written.{Step, WrittenPlaces, written_in, is_reference}
use Rattle.alias_ref.specs.Meaning.{Leads, Goes, Settles, Means}
use Rattle.alias_ref.specs.Meaning as meaning
use Rattle.alias_ref.specs.Laws.{Flat}
use Rattle.certificates.specs.declared.certificate.Hop.{Hop}
use Rattle.certificates.specs.declared.certificate.Cert.{Cert}
use Rattle.explain.specs.Following.{Reaches, stays, follows}
use Rattle.explain.specs.Validity.{GoesBy, arrived, onward, LeadsBy, leads, EachLeads, Valid}

-- each of these hops leads to its target
abbrev pub AllLead : WrittenPlaces → List Hop → Type 0
AllLead T hops = (hop : Hop) → In hop hops → Leads T hop.spot.place hop.target

module _ (T : WrittenPlaces) where
  pub settled : {hops : List Hop} {p q : Place} → AllLead T hops → is_reference (T q) ≡ false → Reaches hops p q → Settles T p q
  settled all stop (stays none) = meaning.stays stop
  settled all stop (follows hop is starts more) = meaning.follows (subst (λ (x : Place). Leads T x hop.target) starts (all hop is)) (settled all stop more)

  pub goes : {hops : List Hop} {p q : Place} {steps : List Step} → AllLead T hops → GoesBy T hops p steps q → Goes T p steps q
  goes all arrived = meaning.arrived
  goes all (onward s w more) = meaning.onward (settled all s.no_reference s.reached) w (goes all more)

  pub led : {hops : List Hop} {p q : Place} → AllLead T hops → LeadsBy T hops p q → Leads T p q
  led all (leads reads there way) = meaning.leads reads there (goes all way)

  with_one : (before : List Hop) (h : Hop) → AllLead T before → Leads T h.spot.place h.target → AllLead T (before ++ h ∷ [])
  with_one [] h all l hop (inl e) = subst (λ (x : Hop). Leads T x.spot.place x.target) (sym e) l
  with_one [] h all l hop (inr none) = absurd none
  with_one (b ∷ bs) h all l hop (inl e) = all hop (inl e)
  with_one (b ∷ bs) h all l hop (inr more) = with_one bs h (λ k is. all k (inr is)) l hop more

  pub each : (before hops : List Hop) → AllLead T before → EachLeads T before hops → AllLead T hops
  each before [] all e hop none = absurd none
  each before (h ∷ hops) all e hop (inl same) = subst (λ (x : Hop). Leads T x.spot.place x.target) (sym same) (led all e.0)
  each before (h ∷ hops) all e hop (inr more) = each (before ++ h ∷ []) hops (with_one before h all (led all e.0)) e.1 hop more

  pub means_from : {p q : Place} {v : Value} → Settles T p q → Means T q v → Means T p v
  means_from (meaning.stays stop) m = m
  means_from (meaning.follows lead more) m = meaning.means_target lead (means_from more m)

pub hops_lead : (flat : Flat) (cert : Cert) → Valid flat cert → AllLead (written_in flat) cert.hops
hops_lead flat cert v = each (written_in flat) [] cert.hops (λ hop none. absurd none) v.hops

pub origin_settles : (flat : Flat) (cert : Cert) → Valid flat cert → Settles (written_in flat) cert.from cert.last.place
origin_settles flat cert v = settled (written_in flat) (hops_lead flat cert v) v.end.no_reference v.end.reached
