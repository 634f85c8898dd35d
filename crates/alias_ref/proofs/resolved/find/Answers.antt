use Rattle.std.proofs.Common.{◌≡◌, [], true, length, map, arith, sym, ap, ◌∙◌, subst}
use Rattle.alias_ref.specs.Visits.{walked}
use Rattle.alias_ref.specs.Written.{whole, written_in}
use Rattle.std.specs.Prelude.{IfOk, OnOk}
use Rattle.alias_ref.specs.inner.Remembering.{Serves}
use Rattle.alias_ref.specs.inner.Spots.{start_in}
use Rattle.alias_ref.specs.inner.Walks.{IsMeantAt, IsKindAt, HasLinks}
use Rattle.alias_ref.proofs.AnswersAreOne.{whole_clean, whole_fault, whole_count}
use Rattle.alias_ref.proofs.resolved.find.Goals as goal

pub returns : goal.returns
returns c =
    let flat = c.args.flat.now in
    let token = c.args.path.now in
    let p = c.in_ok-spot.spot.place in
    let at = c.in_ok-spot.ensures.place in
    let new = c.new-trace.ensures in
    let r = c.walk-found.result in
    let walk = c.walk-found.ensures in
    record {
      unbroken = whole_clean flat token r c.new-trace.result.places.items p c.new-trace.result.visits c.walk-found.new.trace.visits new.places at new.visits walk.seen;
      broken = whole_fault flat token r c.new-trace.result.places.items p c.new-trace.result.visits c.walk-found.new.trace.visits new.places at new.visits walk.seen;
      means = subst (λ q. IfOk r (λ f. IsMeantAt flat q f.plain)) at walk.means;
      kind = subst (λ q. IfOk r (λ f. IsKindAt flat q f.kind)) at walk.kind;
      links = subst (λ q. OnOk r (HasLinks true flat q c.args.links.now c.walk-found.new.links)) at walk.links;
      counted = subst (λ n. OnOk r (length (walked (written_in flat) [] (whole token)) ≡ n)) (sym c.count.ensures)
          (whole_count flat token r c.new-trace.result.places.items p c.new-trace.result.visits c.walk-found.new.trace.visits new.places at new.visits walk.seen);
    }

pub walk-found-requires : goal.walk-found-requires
walk-found-requires c =
    let flat = c.args.flat.now in
    let m = c.args.memory.now.known.items in
    let none = c.new-trace.ensures.places in
    record {
      at = c.in_ok-spot.ensures.at flat c.requires.token;
      room = omega (arith, ap length none);
      starts = c.new-trace.ensures.starts ∙ ap (map (start_in flat)) (sym none);
      home = subst (λ b. Serves flat m b c.in_ok-spot.spot.place.token) (sym none) (subst (Serves flat m []) (sym (ap (λ q. q.token) c.in_ok-spot.ensures.place)) c.requires.home);
    }
