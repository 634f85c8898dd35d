-- A token comes to one thing, or breaks one rule first; never both.
use Rattle.std.proofs.Common.{◌≡◌, ℕ, List, [], Some, None, length, arith, sym, ap, ◌∙◌, subst}
use Rattle.std.specs.Prelude.{Result, Ok, Err, OnOk, IfErr}
use Rattle.json_span.specs.PlainView.{plain_view}
use Rattle.alias_ref.specs.Written.{Step, whole, written_in}
use Rattle.name_path.specs.declared.place.Place.{Place}
use Rattle.alias_ref.specs.Visits.{RefBreak, ref_break, walked, walk_break}
use Rattle.alias_ref.specs.Kinds.{KindOf, own_in, group_in}
use Rattle.alias_ref.specs.Answer.{IsResolved, IsFirstBreak, in_walk, kind_missing, IsRefBreak, HasRealRing}
use Rattle.alias_ref.specs.Laws.{Flat}
use Rattle.alias_ref.specs.inner.Seen.{IsFault, Sees}
use Rattle.alias_ref.specs.declared.fault.RefFault.{RefFault}
use Rattle.alias_ref.specs.declared.fault.RefFault.TheVariants as faults
use Rattle.alias_ref.specs.declared.fault.RefRule.TheVariants as rule
use Rattle.alias_ref.specs.declared.resolved.Resolved.{Resolved}
use Rattle.alias_ref.proofs.BreaksAreReal.{got, break_tells}
use Rattle.alias_ref.proofs.LinksOfParts.{kind_once, links_once}
use Rattle.alias_ref.proofs.OneMeaning.{means_once}
use Rattle.alias_ref.proofs.RingsAreReal.{walk_break-ring}

module _ (flat : Flat) (token : List Step) where
  pub one_resolved : (r s : Resolved) → IsResolved flat token r → IsResolved flat token s → (r.kind ≡ s.kind) × (plain_view r.plain.value ≡ plain_view s.plain.value) × (r.links ≡ s.links)
  one_resolved r s k l =
      let same : Some r.kind ≡ Some s.kind = kind_once (written_in flat) (own_in flat) (group_in flat) k.kind l.kind in
      (cc, means_once (written_in flat) k.meaning l.meaning, links_once (written_in flat) (own_in flat) (group_in flat) k.links l.links)

  some_same : {b c : RefBreak} → Some b ≡ Some c → b ≡ c
  some_same {b} {c} e = ap (got b) e

  pub one_break : (b c : RefBreak) → IsFirstBreak flat token b → IsFirstBreak flat token c → b ≡ c
  one_break b c (in_walk e) (in_walk f) = some_same (sym e ∙ f)
  one_break b c (in_walk e) (kind_missing f k is) = let h = sym e ∙ f in absurd (cc)
  one_break b c (kind_missing e k is) (in_walk f) = let h = sym f ∙ e in absurd (cc)
  one_break b c (kind_missing e k is) (kind_missing f l is') = is ∙ sym is'

  pub never_both : (r : Resolved) (b : RefBreak) → IsResolved flat token r → IsFirstBreak flat token b → ⊥
  never_both r b k (in_walk e) = let h = sym e ∙ k.unbroken in cc
  never_both r b k (kind_missing e l is) = let h = kind_once (written_in flat) (own_in flat) (group_in flat) k.kind l in cc

  -- what a walk of the whole value saw
  pub fault_broken : (f : RefFault) → IsFault f (walk_break (written_in flat) token) → IsRefBreak flat token f
  fault_broken (faults.Broken r p ring) h = in_walk h
  fault_broken faults.NoMemory h = tt

  pub fault_ring : (f : RefFault) → IsFault f (walk_break (written_in flat) token) → HasRealRing (written_in flat) f
  fault_ring (faults.Broken r p ring) h = (
    λ e. walk_break-ring (written_in flat) token p ring (h ∙ ap (λ x. Some (record { rule = x; place = p; ring = ring })) e),
    λ n. (break_tells (written_in flat) token (record { rule = r; place = p; ring = ring }) h).2 n,
  )
  fault_ring faults.NoMemory h = tt

  pub missing_broken : (f : RefFault) → IsFault f (Some (ref_break rule.NoType (whole token))) → walk_break (written_in flat) token ≡ None → KindOf (written_in flat) (own_in flat) (group_in flat) token None → IsRefBreak flat token f
  missing_broken (faults.Broken r p ring) h u k = kind_missing u k (some_same (sym h))
  missing_broken faults.NoMemory h u k = tt

  -- what a walk of the whole value saw says of its first break
  abbrev SeenWhole : {X : Type 0} → Result X RefFault → ℕ → Type 0
  SeenWhole r m = Sees (written_in flat) (walked (written_in flat) [] (whole token)) 0 m r

  clean_seen : {X : Type 0} (r : Result X RefFault) (m : ℕ) → SeenWhole r m → OnOk r (walk_break (written_in flat) token ≡ None)
  clean_seen (Ok x) m h = h.unbroken
  clean_seen (Err f) m h = tt

  fault_seen : {X : Type 0} (r : Result X RefFault) (m : ℕ) → SeenWhole r m → IfErr r (λ f. IsFault f (walk_break (written_in flat) token))
  fault_seen (Ok x) m h = tt
  fault_seen (Err f) m h = h

  count_seen : {X : Type 0} (r : Result X RefFault) (m : ℕ) → SeenWhole r m → OnOk r (length (walked (written_in flat) [] (whole token)) ≡ m)
  count_seen (Ok x) m h = omega (arith, h.counted)
  count_seen (Err f) m h = tt

  -- a walk below no branch is that of the definition
  module _ {X : Type 0} (r : Result X RefFault) (b : List Place) (p : Place) (n m : ℕ) (e : b ≡ []) (g : p ≡ whole token) (z : n ≡ 0) where
    whole_seen : Sees (written_in flat) (walked (written_in flat) b p) n m r → SeenWhole r m
    whole_seen h =
        let T = written_in flat in
        subst (λ k. Sees T (walked T [] (whole token)) k m r) z (subst (λ x. Sees T (walked T [] x) n m r) g (subst (λ x. Sees T (walked T x p) n m r) e h))

    pub whole_clean : Sees (written_in flat) (walked (written_in flat) b p) n m r → OnOk r (walk_break (written_in flat) token ≡ None)
    whole_clean h = clean_seen r m (whole_seen h)

    pub whole_fault : Sees (written_in flat) (walked (written_in flat) b p) n m r → IfErr r (λ f. IsFault f (walk_break (written_in flat) token))
    whole_fault h = fault_seen r m (whole_seen h)

    pub whole_count : Sees (written_in flat) (walked (written_in flat) b p) n m r → OnOk r (length (walked (written_in flat) [] (whole token)) ≡ m)
    whole_count h = count_seen r m (whole_seen h)
