use Rattle.std.proofs.Common.{ℕ, List, [], Option, None, get_or, length, refl, sym, ap, subst, ◌∙◌}
use Rattle.std.proofs.lemmas.List.{take_all}
use Rattle.std.proofs.lemmas.List.Elements.{All-get_or}
use Rattle.std.specs.List.{AllZip}
use Rattle.std.specs.Option.{is_none}
use Rattle.std.specs.Prelude.{map}
use Rattle.token_cells.specs.declared.keeping.Kept.{Kept}
use Rattle.token_cells.specs.inner.Earlier.{IsKeptOf, IsWithin}
use Rattle.token_cells.specs.inner.Kept.{texts_of}
use Rattle.token_cells.proofs.KeptRows.{one_kept, one_none}
use Rattle.token_cells.proofs.earlier.kept_rows.Goals as goal

pub loop-place-init : goal.loop-place-init
loop-place-init c = (
  subst (λ (ks : List (Option Kept)). AllZip (IsKeptOf (texts_of c.args.pages.now) c.args.rows.now) [] ks) (sym c.in_ok-kepts.ensures.items) tt,
  ap (λ (ks : List (Option Kept)). map is_none ks) c.in_ok-kepts.ensures.items,
)

pub kept_at-requires : goal.kept_at-requires
kept_at-requires c = All-get_or (IsWithin (length c.args.rows.now)) c.args.places.now c.loop-place.place-index None c.loop-place-test.true c.requires

pub loop-place-preserved : goal.loop-place-preserved
loop-place-preserved c = (
  one_kept (texts_of c.args.pages.now) c.args.rows.now c.args.places.now c.loop-place.place-index (get_or c.args.places.now c.loop-place.place-index None) c.loop-place.kepts.items c.push.new.self.items
      c.kept_at.result c.loop-place.invariant.0 c.loop-place-test.true refl c.kept_at.ensures.kept c.in_ok-push.ensures.items,
  one_none c.args.places.now c.loop-place.place-index (get_or c.args.places.now c.loop-place.place-index None) c.loop-place.kepts.items c.push.new.self.items
      c.kept_at.result c.loop-place.invariant.1 c.loop-place-test.true refl c.kept_at.ensures.none c.in_ok-push.ensures.items,
)

pub returns : goal.returns
returns c =
    let all = take_all c.loop-place.place-index c.args.places.now c.loop-place-test.false in
    record {
      kept = subst (λ (ps : List (Option ℕ)). AllZip (IsKeptOf (texts_of c.args.pages.now) c.args.rows.now) ps c.loop-place.kepts.items) all c.loop-place.invariant.0;
      none = c.loop-place.invariant.1 ∙ ap (λ (ps : List (Option ℕ)). map is_none ps) all;
    }
