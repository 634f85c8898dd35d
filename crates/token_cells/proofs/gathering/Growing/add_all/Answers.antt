use Rattle.std.proofs.Common.{◌≡◌, ◌+◌, List, length, take, sym, ap, subst, arith, ◌∙◌}
use Rattle.std.specs.FinMap as map
use Rattle.std.proofs.lemmas.List.{take_all}
use Rattle.group_inherit.specs.Flattening.{TokenAt}
use Rattle.alias_ref.specs.Laws.{Flat}
use Rattle.token_cells.specs.inner.Earlier.{AreKept}
use Rattle.token_cells.specs.inner.Turns.{HasAdded}
use Rattle.token_cells.proofs.gathering.Growing.add_all.Goals as goal

pub loop-i-init : goal.loop-i-init
loop-i-init g c = (c.requires.none, c.in_ok-evaluator.ensures, omega arith, omega arith)

pub add_next-requires : goal.add_next-requires
add_next-requires g c =
    let same = sym c.loop-i.invariant.1 in
    record {
      tokens = c.as_slice-tokens.ensures.entries ∙ ap (λ (f : Flat). map.entries f) same;
      within = c.loop-i-test.true;
      kept = subst (λ (f : Flat). AreKept f c.args.cfg.now c.args.kepts.now) same c.requires.kept;
      added = subst (λ (f : Flat). HasAdded f c.args.cfg.now (take c.loop-i.i c.as_slice-tokens.result.now) c.loop-i.self) same c.loop-i.invariant.0;
    }

pub loop-i-preserved : goal.loop-i-preserved
loop-i-preserved g c = (
  subst (λ (f : Flat). HasAdded f c.args.cfg.now (take c.in_ok-i.i c.as_slice-tokens.result.now) c.add_next.new.self) c.loop-i.invariant.1 c.in_ok-i.ensures.added,
  c.add_next.ensures.tree ∙ c.loop-i.invariant.1,
  omega (arith, c.in_ok-i.ensures.steps, c.loop-i.invariant.2),
  c.in_ok-i.ensures.next.1,
)

pub loop-i-smaller : goal.loop-i-smaller
loop-i-smaller g c = omega (arith, c.in_ok-i.ensures.next.0, c.in_ok-i.ensures.next.1)

pub returns-in_err-i-clause-at_most : goal.returns-in_err-i-clause-at_most
returns-in_err-i-clause-at_most g c =
    omega (arith, c.loop-i.invariant.2, c.loop-i-test.true, c.add_next.ensures.at_most, ap (λ (ts : List TokenAt). length ts) c.as_slice-tokens.ensures.entries)

pub returns : goal.returns
returns g c =
    let tokens : List TokenAt = c.as_slice-tokens.result.now in
    let all : take c.loop-i.i tokens ≡ map.entries c.args.flat.now = take_all c.loop-i.i tokens c.loop-i-test.false ∙ c.as_slice-tokens.ensures.entries in
    let many = ap (λ (ts : List TokenAt). length ts) c.as_slice-tokens.ensures.entries in
    record {
      added = subst (λ (ts : List TokenAt). HasAdded c.args.flat.now c.args.cfg.now ts c.loop-i.self) all c.loop-i.invariant.0;
      steps = omega (arith, c.loop-i.invariant.2, c.loop-i.invariant.3, c.loop-i-test.false, many);
      at_most = omega (arith, c.loop-i.invariant.2, c.loop-i.invariant.3, c.loop-i-test.false, many);
    }
