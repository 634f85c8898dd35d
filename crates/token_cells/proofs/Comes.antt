-- What a token comes to, by what its evaluation and its value answer.
use Rattle.std.specs.FinMap as finite
use Rattle.std.proofs.Common.{◌≡◌, ℕ, List, [], Ok, refl, sym, subst, Some}
use Rattle.json_span.specs.PlainView.{plain_view}
use Rattle.name_path.specs.declared.place.Place.{Place}
use Rattle.group_inherit.specs.Flattening.{Flattened}
use Rattle.alias_ref.specs.Answer.{IsResolved, IsRefBreak}
use Rattle.alias_ref.specs.Laws.{Flat}
use Rattle.alias_ref.specs.declared.fault.RefFault.{RefFault}
use Rattle.alias_ref.specs.declared.fault.RefFault.TheVariants as faults
use Rattle.alias_ref.specs.declared.fault.RefRule.{RefRule}
use Rattle.alias_ref.specs.declared.resolved.Resolved.{Resolved}
use Rattle.type_rules.specs.Answer.{IsBreak}
use Rattle.type_rules.specs.declared.fault.ValueFault.{ValueFault}
use Rattle.type_rules.specs.declared.fault.ValueFault.TheVariants.{Broken}
use Rattle.type_rules.specs.declared.fault.ValueRule.{ValueRule}
use Rattle.composite_rules.specs.Value.{value_of}
use Rattle.composite_rules.specs.declared.typed.Typed.{Typed}
use Rattle.transforms.specs.Config.{Settings}
use Rattle.token_cells.specs.Cell.{TokenPath, IsMeant, token_break, IsTokenBreak, by_reference, by_value, IsCell}
use Rattle.refusals.specs.declared.rule.CellRule.TheVariants.{Ref, Value}
use Rattle.token_cells.specs.TokenCell.{TokenCell, Refused, Made}
use Rattle.token_cells.specs.inner.Making.{IsMadeOf}

-- a break of references
pub broken_reference : (flat : Flat) (settings : Settings) (path : TokenPath) (fault : RefFault) (r : RefRule) (p : Place) (ring : List Place) → fault ≡ faults.Broken r p ring
    → IsRefBreak flat path fault → IsTokenBreak flat settings path (token_break (Ref r) p ring)
broken_reference flat settings path fault r p ring is h = by_reference (record { rule = r; place = p; ring = ring }) (subst (IsRefBreak flat path) is h) refl

meant : (flat : Flat) (path : TokenPath) (r : Resolved) → IsResolved flat path r → IsMeant flat path r.kind (plain_view r.plain.value)
meant flat path r h = record { unbroken = h.unbroken; kind_of = h.kind; means = h.meaning }

-- a break of a value
pub broken_value : (flat : Flat) (settings : Settings) (path : TokenPath) (r : Resolved) (fault : ValueFault) (rule : ValueRule) (trail : List (List ℕ)) → fault ≡ Broken rule trail
    → IsBreak (value_of settings.legacy r.kind (plain_view r.plain.value)) fault → IsResolved flat path r
    → IsTokenBreak flat settings path (token_break (Value rule) (record { token = path; trail = trail }) [])
broken_value flat settings path r fault rule trail is found h =
    by_value r.kind (plain_view r.plain.value) (record { rule = rule; trail = trail }) (meant flat path r h) (subst (IsBreak (value_of settings.legacy r.kind (plain_view r.plain.value))) is found) refl

-- .. of what the code makes of it
pub refused_cell : (flat : Flat) (settings : Settings) (path : TokenPath) (r : Resolved) (fault : ValueFault) (rule : ValueRule) (trail : List (List ℕ)) (c : TokenCell) → fault ≡ Broken rule trail
    → IsBreak (value_of settings.legacy r.kind (plain_view r.plain.value)) fault → c ≡ Refused (Value rule) (record { token = path; trail = trail }) [] → IsResolved flat path r → IsCell flat settings path c
refused_cell flat settings path r fault rule trail c is found made h = subst (IsCell flat settings path) (sym made) (broken_value flat settings path r fault rule trail is found h)

-- a value
pub made_cell : (flat : Flat) (settings : Settings) (path : TokenPath) (entry : Flattened) (r : Resolved) (typed : Typed) (c : TokenCell) → finite.get flat path ≡ Some entry
    → value_of settings.legacy r.kind (plain_view r.plain.value) ≡ Ok typed → IsMadeOf settings path entry r.links typed c → IsResolved flat path r → IsCell flat settings path c
made_cell flat settings path entry r typed (Refused rule place ring) there is made h = absurd made
made_cell flat settings path entry r typed (Made css android ios json) there is made h = record {
  typed = typed;
  links = r.links;
  value = record { kind = r.kind; meaning = plain_view r.plain.value; meant = meant flat path r h; is_typed = is; are_links = h.links };
  entry = entry;
  there = there;
  gives = made;
}
