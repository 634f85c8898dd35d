-- What an alias comes to, by what is remembered of the token that it names.
use Rattle.std.proofs.Common.{◌≡◌, ℕ, ◌+◌, ◌≤◌, true, List, [], ◌∷◌, length, Option, Some, None, refl, sym, ap, ◌∙◌, subst, arith}
use Rattle.std.specs.Prelude.{unwrap_or}
use Rattle.std.specs.FinMap as flat_map
use Rattle.std.specs.List.{slice_get}
use Rattle.name_path.specs.declared.kind.Kind.{Kind}
use Rattle.name_path.specs.declared.place.Place.{Place}
use Rattle.group_inherit.specs.Flattening.{TokenAt}
use Rattle.group_inherit.specs.Merging.{either}
use Rattle.alias_ref.specs.Written.{refers, whole, is_written, is_misspelled, written_in}
use Rattle.alias_ref.specs.Meaning.{Means, leads, arrived, means_target}
use Rattle.alias_ref.specs.Kinds.{own_in, group_in, link_token, kind_linked, links_one}
use Rattle.alias_ref.specs.Visits.{Way, visit, ends_at, way_of, settle_by, passed, walked, own_break, most_on_branch}
use Rattle.alias_ref.specs.Laws.{Flat}
use Rattle.alias_ref.specs.Answer.{IsResolved}
use Rattle.alias_ref.specs.declared.memory.Known.{Known}
use Rattle.alias_ref.specs.declared.resolved.Resolved.{Resolved}
use Rattle.alias_ref.specs.inner.Seen.{Clean}
use Rattle.alias_ref.specs.inner.Remembering.{Memories, known_at, Remembers}
use Rattle.alias_ref.specs.inner.Chains.{IsAlias, IsShared}
use Rattle.alias_ref.proofs.FirstBreaks.{clean_nil, unbroken}
use Rattle.alias_ref.proofs.RememberedTokens.{entry_there, new_serves, longer, known_clean}
use Rattle.alias_ref.proofs.SpotsStand.{own_is}
use Rattle.alias_ref.proofs.WalksInTurns.{way_here, walk_clean, target_clean}
use Rattle.alias_ref.proofs.WrittenParts.{written_stands, whole_stands}

own_first : (o g : Option Kind) (l : Kind) → Some (unwrap_or o l) ≡ either o (either (Some l) g)
own_first None g l = refl
own_first (Some k) g l = refl

module _ (flat : Flat) (m : Memories) (i j : ℕ) (token : TokenAt) (k : Known) (right : Remembers flat m) (at : slice_get (flat_map.entries flat) i ≡ Some token) (none : known_at m i ≡ None) (a : IsAlias flat token.0 j) (is : known_at m j ≡ Some k) (room : 1 + k.visits ≤ most_on_branch) where
  alias_clean : Clean (written_in flat) 0 (1 + k.visits) (walked (written_in flat) [] (whole token.0))
  alias_clean =
      let T = written_in flat in
      let p = whole token.0 in
      let b : List Place = p ∷ [] in
      let q = whole a.named in
      let own : own_break T 0 (visit [] p) ≡ None = unbroken T 0 [] p refl (omega arith) (omega arith) (ap is_misspelled a.written) in
      let serves = longer flat m [] p (new_serves flat m i token right at none) in
      let clean = known_clean flat m b token.0 1 j a.stands.0 k a.named serves a.stands.1 is room (omega (arith, room)) in
      let stands = whole_stands flat a.named a.stands.0 (entry_there flat j (a.named, a.stands.0) a.stands.1) in
      let written : is_written (T q) ≡ true = ap is_written (written_stands flat q a.stands.0 a.stands.0.def.value stands) in
      let settle = settle_by T (passed T b) in
      let way : way_of T settle p a.named [] ≡ ends_at q = way_here T settle p a.named [] refl written in
      let nothing : Clean T 1 1 (way_of T settle p a.named []).seen = subst (λ (w : Way). Clean T 1 1 w.seen) (sym way) (clean_nil T 1) in
      walk_clean T 0 [] b p (refers a.named []) a.written own refl refl (target_clean T settle (walked T b) p q a.named [] (ap (λ w. w.ends) way) nothing clean)

  pub alias_counted : length (walked (written_in flat) [] (whole token.0)) ≡ k.visits + 1
  alias_counted = omega (arith, alias_clean.counted)

  pub alias_resolved : (r : Resolved) → IsShared a.named token.1 k.resolved r → IsResolved flat token.0 r
  alias_resolved r s =
      let T = written_in flat in
      let x = right j (a.named, a.stands.0) k a.stands.1 is in
      let here = whole_stands flat token.0 token.1 (entry_there flat i token at) in
      let stands = whole_stands flat a.named a.stands.0 (entry_there flat j (a.named, a.stands.0) a.stands.1) in
      let written : is_written (T (whole a.named)) ≡ true = ap is_written (written_stands flat (whole a.named) a.stands.0 a.stands.0.def.value stands) in
      let own : own_in flat token.0 ≡ token.1.def.kind = own_is flat (whole token.0) token.1 token.1.def.value here in
      record {
        unbroken = alias_clean.unbroken;
        meaning = subst (Means T (whole token.0)) (sym s.plain) (means_target (leads a.written written arrived) x.resolved.meaning);
        kind = kind_linked (ap link_token a.written) x.resolved.kind
            (ap Some s.kind ∙ own_first token.1.def.kind (group_in flat token.0) k.resolved.kind ∙ ap (λ o. either o (either (Some k.resolved.kind) (group_in flat token.0))) (sym own));
        links = links_one a.written x.resolved.kind s.links;
      }
