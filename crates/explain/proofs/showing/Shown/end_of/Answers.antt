use Rattle.std.proofs.Common.{subst}
use Rattle.std.specs.Prelude.{IfNone, IfSome}
use Rattle.name_path.specs.declared.place.Place.{Place}
use Rattle.explain.specs.Following.{Reaches}
use Rattle.explain.proofs.showing.Shown.end_of.Goals as goal

pub unreachable-requires : goal.unreachable-requires
unreachable-requires c =
    let hops = c.args.self.now.hops in
    let p = c.args.place.now in
    subst (λ o. IfNone o ((q : Place) → Reaches hops p q → ⊥)) c.in-Ok-None.field-0-is (c.in-Ok-None.ensures.ring hops c.requires.0) c.requires.1.0 c.requires.1.1

pub returns-in-Ok-Some-clause-knows : goal.returns-in-Ok-Some-clause-knows
returns-in-Ok-Some-clause-knows c = c.in-Ok-Some.ensures.knows c.args.self.now.hops c.requires.0

pub returns-in-Ok-Some-clause-end : goal.returns-in-Ok-Some-clause-end
returns-in-Ok-Some-clause-end c =
    let hops = c.args.self.now.hops in
    subst (λ o. IfSome o (λ q. Reaches hops c.args.place.now q)) c.in-Ok-Some.field-0-is (c.in-Ok-Some.ensures.end hops c.requires.0)
