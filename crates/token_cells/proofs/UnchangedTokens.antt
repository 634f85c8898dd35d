-- A token from which no references lead to a change comes to what it came to.
use Rattle.std.specs.FinMap as finite
use Rattle.std.proofs.Common.{◌≡◌, ℕ, List, Option, Some, None, refl, sym, ap, ap₂, ◌∙◌, subst, option_map}
use Rattle.std.specs.Prelude.{unwrap_or}
use Rattle.json_span.specs.PlainView.{Value as Plain}
use Rattle.name_path.specs.declared.kind.Kind.{Kind}
use Rattle.token_tree.specs.declared.mark.Mark.{Mark}
use Rattle.token_tree.specs.declared.mark.Mark.TheVariants.{No}
use Rattle.group_inherit.specs.Flattening.{Flattened}
use Rattle.group_inherit.specs.Merging.{either}
use Rattle.json_out.specs.Properties.{ExtrasData}
use Rattle.alias_ref.specs.Answer.{IsFirstBreak, in_walk, kind_missing}
use Rattle.alias_ref.specs.Laws.{Flat, AreAlike, ShownBySource, UnchangedIsAlike}
use Rattle.alias_ref.specs.Unchanged.{raw_of, at_start, Unchanged, AreDefinedAlong}
use Rattle.alias_ref.specs.Visits.{RefBreak}
use Rattle.transforms.specs.Config.{Settings}
use Rattle.token_cells.specs.Cell.{TokenPath, IsMeant, TokenBreak, token_break, IsTokenBreak, by_reference, by_value, IsJsonOf, IsCell, extras_of}
use Rattle.token_cells.specs.TokenCell.{TokenCell, Refused, Made}

abbrev shown_extras : Option (List ℕ) → Option (List ℕ) → Option Mark → ExtrasData
shown_extras description extensions mark = record { description = description; extensions = extensions; mark = unwrap_or mark No }

module _ (alike : UnchangedIsAlike) (shown : ShownBySource) where
  module _ (old new : Flat) (path : TokenPath) (defs : AreDefinedAlong old new path) (of_new : AreDefinedAlong new new path) (un : Unchanged old new path) where
    same : AreAlike old new path
    same = alike old new path defs of_new un

    meant : (kind : Kind) (meaning : Plain) → IsMeant old path kind meaning → IsMeant new path kind meaning
    meant kind meaning m = record { unbroken = sym same.broken ∙ m.unbroken; kind_of = (same.kind (Some kind)).0 m.kind_of; means = (same.meaning meaning).0 m.means }

    broken : (b : RefBreak) → IsFirstBreak old path b → IsFirstBreak new path b
    broken b (in_walk e) = in_walk (sym same.broken ∙ e)
    broken b (kind_missing u n is) = kind_missing (sym same.broken ∙ u) ((same.kind None).0 n) is

    breaks : (settings : Settings) (t : TokenBreak) → IsTokenBreak old settings path t → IsTokenBreak new settings path t
    breaks settings t (by_reference b is e) = by_reference b (broken b is) e
    breaks settings t (by_value k v b m r e) = by_value k v b (meant k v m) r e

    still_there : (f : Flattened) → finite.get old path ≡ Some f → (g : Flattened) × (finite.get new path ≡ Some g) × (raw_of f ≡ raw_of g)
    still_there f e = go (finite.get new path) refl (sym (ap (option_map raw_of) e) ∙ un path at_start)
      where
        go : (o : Option Flattened) → finite.get new path ≡ o → Some (raw_of f) ≡ option_map raw_of o → (g : Flattened) × (finite.get new path ≡ Some g) × (raw_of f ≡ raw_of g)
        go None k i = absurd (cc)
        go (Some g) k i = (g, k, cc)

    same_extras : (f g : Flattened) → finite.get old path ≡ Some f → finite.get new path ≡ Some g → raw_of f ≡ raw_of g → extras_of f ≡ extras_of g
    same_extras f g e k r =
        let s = shown f.def g.def (defs path f at_start e) (of_new path g at_start k) (ap (λ x. x.source) r) in
        let mark : either f.def.deprecated f.group_mark ≡ either g.def.deprecated g.group_mark = ap₂ (λ m n. either m n) s.deprecated (ap (λ x. x.group_mark) r) in
        ap₂ (λ d x. shown_extras d x (either f.def.deprecated f.group_mark)) s.description s.extensions ∙ ap (shown_extras g.def.description g.def.extensions) mark

    pub same_cell : (settings : Settings) (c : TokenCell) → IsCell old settings path c → IsCell new settings path c
    same_cell settings (Refused rule place ring) h = breaks settings (token_break rule place ring) h
    same_cell settings (Made css android ios json) h =
        let g = still_there h.entry h.there in
        record {
          typed = h.typed;
          links = h.links;
          value = record {
            kind = h.value.kind;
            meaning = h.value.meaning;
            meant = meant h.value.kind h.value.meaning h.value.meant;
            is_typed = h.value.is_typed;
            are_links = (same.links h.links).0 h.value.are_links;
          };
          entry = g.0;
          there = g.1;
          gives = record {
            css_of = h.gives.css_of;
            android_of = h.gives.android_of;
            ios_of = h.gives.ios_of;
            json_of = subst (λ x. IsJsonOf path h.typed x json) (same_extras h.entry g.0 h.there g.1 g.2) h.gives.json_of;
          };
        }
