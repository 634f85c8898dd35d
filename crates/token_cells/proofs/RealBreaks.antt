-- What is told of a token's break holds.
use Rattle.std.proofs.Common.{◌≡◌, [], Some, None, Err, refl, sym, ap, subst, ◌∙◌}
use Rattle.std.specs.Prelude.{option_map, unwrap_or}
use Rattle.std.specs.FinMap as finite
use Rattle.name_path.specs.declared.place.Place.{Place}
use Rattle.group_inherit.specs.Flattening.{Flattened}
use Rattle.group_inherit.specs.Span.{span_at}
use Rattle.alias_ref.specs.Answer.{IsFirstBreak, in_walk, kind_missing}
use Rattle.alias_ref.specs.Kinds.{KindOf, own_in, group_in}
use Rattle.alias_ref.specs.Laws.{Flat, HasToken, PlacesAreThere, RingsAreReal, BreaksAreReal as RefBreaksAreReal}
use Rattle.alias_ref.specs.Visits.{RefBreak, walk_break, ref_break}
use Rattle.alias_ref.specs.Written.{whole, written_in}
use Rattle.alias_ref.specs.declared.fault.RefRule.{RefRule}
use Rattle.alias_ref.specs.declared.fault.RefRule.TheVariants as reference
use Rattle.type_rules.specs.declared.fault.ValueRule.{ValueRule}
use Rattle.transforms.specs.Config.{Settings}
use Rattle.token_cells.specs.Cell.{TokenPath, TokenBreak, of_reference, IsTokenBreak, by_reference, by_value}
use Rattle.token_cells.specs.Breaks.{place_in, place_span}
use Rattle.token_cells.specs.Laws.{IsReal}
use Rattle.refusals.specs.declared.rule.CellRule.{CellRule}
use Rattle.refusals.specs.declared.rule.CellRule.TheVariants.{Ref, Value}

same_ref : (r s : RefRule) → ◌≡◌ {A = CellRule} (Ref r) (Ref s) → r ≡ s
same_ref r s e = cc

same_value : (r s : ValueRule) → ◌≡◌ {A = CellRule} (Value r) (Value s) → r ≡ s
same_value r s e = cc

module _ (rings : RingsAreReal) (told : RefBreaksAreReal) (flat : Flat) (settings : Settings) (path : TokenPath) where
  walk_real : (b : RefBreak) → walk_break (written_in flat) path ≡ Some b → IsReal flat settings path (of_reference b)
  walk_real b e = record {
    cycle = λ is. rings (written_in flat) path b.place b.ring (e ∙ ap (λ r. Some (record { rule = r; place = b.place; ring = b.ring })) (same_ref b.rule reference.Cycle is));
    syntax = λ is. (told (written_in flat) path b e).syntax (same_ref b.rule reference.RefSyntax is);
    target = λ is. (told (written_in flat) path b e).target (same_ref b.rule reference.RefTarget is);
    deep = λ is. (told (written_in flat) path b e).deep (same_ref b.rule reference.Deep is);
    big = λ is. (told (written_in flat) path b e).big (same_ref b.rule reference.Big is);
    missing = λ is. absurd ((told (written_in flat) path b e).of_walk (same_ref b.rule reference.NoType is));
    value = λ r is. cc;
  }

  missing_real : walk_break (written_in flat) path ≡ None → KindOf (written_in flat) (own_in flat) (group_in flat) path None → IsReal flat settings path (of_reference (ref_break reference.NoType (whole path)))
  missing_real unbroken none = record {
    cycle = λ is. cc;
    syntax = λ is. cc;
    target = λ is. cc;
    deep = λ is. cc;
    big = λ is. cc;
    missing = λ is. record { at = refl; unbroken = unbroken; missing = none };
    value = λ r is. cc;
  }

  ref_real : (b : RefBreak) → IsFirstBreak flat path b → IsReal flat settings path (of_reference b)
  ref_real b (in_walk e) = walk_real b e
  ref_real b (kind_missing u k is) = subst (λ x. IsReal flat settings path (of_reference x)) (sym is) (missing_real u k)

  pub break_real : (t : TokenBreak) → IsTokenBreak flat settings path t → IsReal flat settings path t
  break_real t (by_reference b is e) = subst (IsReal flat settings path) (sym e) (ref_real b is)
  break_real t (by_value kind meaning b meant found e) = subst (IsReal flat settings path) (sym e) (record {
    cycle = λ is. cc;
    syntax = λ is. cc;
    target = λ is. cc;
    deep = λ is. cc;
    big = λ is. cc;
    missing = λ is. cc;
    value = λ r is. record { kind = kind; meaning = meaning; meant = meant; token = refl; broken = found ∙ ap (λ x. Err (record { rule = x; trail = b.trail })) (same_value b.rule r is) };
  })

-- Where what is told of a break stands.
module _ (there : PlacesAreThere) (flat : Flat) (settings : Settings) (path : TokenPath) (entry : Flattened) (at : finite.get flat path ≡ Some entry) where
  span_is : (place : Place) → HasToken flat place → (f : Flattened) × (finite.get flat place.token ≡ Some f) × (place_span flat place ≡ place_in f place)
  span_is place (f, is) = (f, is, ap (λ o. unwrap_or (option_map (λ g. place_in g place) o) (span_at [] 0 0)) is)

  ref_place : (b : RefBreak) → IsFirstBreak flat path b → HasToken flat b.place
  ref_place b (in_walk e) = there flat path entry b at e
  ref_place b (kind_missing u k is) = subst (λ x. HasToken flat x.place) (sym is) (entry, at)

  pub break_place : (t : TokenBreak) → IsTokenBreak flat settings path t → (f : Flattened) × (finite.get flat t.place.token ≡ Some f) × (place_span flat t.place ≡ place_in f t.place)
  break_place t (by_reference b is e) = span_is t.place (subst (λ x. HasToken flat x.place) (sym e) (ref_place b is))
  break_place t (by_value kind meaning b meant found e) = span_is t.place (subst (λ x. HasToken flat x.place) (sym e) (entry, at))
