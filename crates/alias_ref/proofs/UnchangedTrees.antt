-- Flat trees with the same raw entries where references lead have the same walks, meanings, kinds and links there.
use Rattle.std.proofs.Common.{◌≡◌, List, Option, Some, None, refl, sym, ap, ◌∙◌, option_map}
use Rattle.std.specs.Prelude.{option_and_then}
use Rattle.std.specs.FinMap as flat_map
use Rattle.name_path.specs.declared.place.Place.{Place}
use Rattle.group_inherit.specs.Flattening.{Flattened}
use Rattle.alias_ref.specs.Written.{Step, refers, WrittenPlaces, written_at, written_in}
use Rattle.alias_ref.specs.Kinds.{own_in, group_in}
use Rattle.alias_ref.specs.Unchanged.{raw_of, Reaches, at_start, by_reference, Unchanged, AreDefinedAlong}
use Rattle.alias_ref.specs.Laws.{Flat, AreAlike}
use Rattle.alias_ref.proofs.MovedValues.{source_decides, kind_of_source}
use Rattle.alias_ref.proofs.RefsAreWritten.{reference_listed}
use Rattle.alias_ref.proofs.SameWalks.{means_same, walk_break_same}
use Rattle.alias_ref.proofs.SameLinks.{kind_same, links_same}

module _ (old new : Flat) (token : List Step) (defs : AreDefinedAlong old new token) (defs' : AreDefinedAlong new new token) (un : Unchanged old new token) where
  abbrev In : List Step → Type 0
  In = Reaches new token

  -- a fact of both entries, where the raw ones are the same
  both : {X : Type 0} (view : Flattened → Option X) (path : List Step) → ((f g : Flattened) → flat_map.get old path ≡ Some f → flat_map.get new path ≡ Some g → raw_of f ≡ raw_of g → view f ≡ view g) → In path
      → option_and_then view (flat_map.get old path) ≡ option_and_then view (flat_map.get new path)
  both {X} view path same h = go (flat_map.get old path) (flat_map.get new path) refl refl (un path h)
    where
      go : (o p : Option Flattened) → flat_map.get old path ≡ o → flat_map.get new path ≡ p → option_map raw_of o ≡ option_map raw_of p → option_and_then view o ≡ option_and_then view p
      go None None e k i = refl
      go None (Some g) e k i = absurd (cc)
      go (Some f) None e k i = absurd (cc)
      go (Some f) (Some g) e k i = same f g e k (cc)

  agree : (p : Place) → In p.token → written_in old p ≡ written_in new p
  unfolding written_in
  agree p h = both (λ f. written_at f.def p.trail) p.token (λ f g e k r. source_decides f.def g.def (defs p.token f h e) (defs' p.token g h k) (ap (λ x. x.source) r) p.trail) h

  own_same : (path : List Step) → In path → own_in old path ≡ own_in new path
  own_same path h = both (λ f. f.def.kind) path (λ f g e k r. kind_of_source f.def g.def (defs path f h e) (defs' path g h k) (ap (λ x. x.source) r)) h

  group_same : (path : List Step) → In path → group_in old path ≡ group_in new path
  group_same path h = both (λ f. f.group_kind) path (λ f g e k r. ap (λ x. x.group_kind) r) h

  disagree : (p : Place) → In p.token → written_in new p ≡ written_in old p
  disagree p h = sym (agree p h)

  closed : (p : Place) (u steps : List Step) → In p.token → written_in new p ≡ Some (refers u steps) → In u
  closed p u steps h e = let k = reference_listed new p u steps e in by_reference u h k.1 k.2

  closed_old : (p : Place) (u steps : List Step) → In p.token → written_in old p ≡ Some (refers u steps) → In u
  closed_old p u steps h e = closed p u steps h (disagree p h ∙ e)

  pub alike : AreAlike old new token
  alike =
      let T : WrittenPlaces = written_in old in
      let T' : WrittenPlaces = written_in new in
      record {
        broken = walk_break_same T T' In agree closed token at_start;
        meaning = λ v. (λ m. means_same T T' In agree closed m at_start, λ m. means_same T' T In disagree closed_old m at_start);
        kind = λ k. (
          λ m. kind_same T T' (own_in old) (own_in new) (group_in old) (group_in new) In agree own_same group_same closed m at_start,
          λ m. kind_same T' T (own_in new) (own_in old) (group_in new) (group_in old) In disagree (λ u h. sym (own_same u h)) (λ u h. sym (group_same u h)) closed_old m at_start,
        );
        links = λ ls. (
          λ m. links_same T T' (own_in old) (own_in new) (group_in old) (group_in new) In agree own_same group_same closed m at_start,
          λ m. links_same T' T (own_in new) (own_in old) (group_in new) (group_in old) In disagree (λ u h. sym (own_same u h)) (λ u h. sym (group_same u h)) closed_old m at_start,
        );
      }
