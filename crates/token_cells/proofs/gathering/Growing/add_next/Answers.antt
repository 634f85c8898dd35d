use Rattle.std.proofs.Common.{◌≡◌, ◌≤◌, List, Some, arith, sym, ap, subst, take, length, ◌∙◌}
use Rattle.std.specs.FinMap as map
use Rattle.std.specs.List.{slice_get, slice_range}
use Rattle.std.proofs.lemmas.Option.{slice_get-get_or}
use Rattle.group_inherit.specs.Flattening.{TokenAt}
use Rattle.token_cells.specs.inner.Turns.{HasAdded}
use Rattle.token_cells.proofs.KeptRows.{kept_if, part_comes}
use Rattle.token_cells.proofs.Parts.{front_and_part}
use Rattle.token_cells.proofs.gathering.Growing.add_next.Goals as goal

pub returns-in-Some-clause-added : goal.returns-in-Some-clause-added
returns-in-Some-clause-added g c =
    let flat = c.args.evaluator.now in
    let tokens = c.args.tokens.now in
    let found = c.in-Some.ensures in
    let end = c.in-Some.found.end in
    let behind : c.args.i ≤ end = omega (arith, found.after) in
    let comes = part_comes flat c.args.cfg.now tokens c.args.kepts.now c.args.i end c.requires.tokens c.requires.kept found.within found.long in
    subst (λ (ts : List TokenAt). HasAdded flat c.args.cfg.now ts c.add_block.new.self) (sym (front_and_part tokens c.args.i end behind))
    (c.in_ok-add_block.ensures flat c.args.cfg.now (take c.args.i tokens) (slice_range tokens c.args.i end) comes c.requires.added)

pub add-requires-clause-token : goal.add-requires-clause-token
add-requires-clause-token g c =
    let tokens = c.args.tokens.now in
    let token : TokenAt = c.index-tokens-i.result in
    let there : slice_get tokens c.args.i ≡ Some token = slice_get-get_or tokens c.args.i token c.requires.within ∙ ap Some (sym c.index-tokens-i.is) in
    subst (λ (ts : List TokenAt). slice_get ts c.args.i ≡ Some token) c.requires.tokens there

pub add-requires-clause-kept : goal.add-requires-clause-kept
add-requires-clause-kept g c =
    let tokens = c.args.tokens.now in
    let token : TokenAt = c.index-tokens-i.result in
    let there : slice_get tokens c.args.i ≡ Some token = slice_get-get_or tokens c.args.i token c.requires.within ∙ ap Some (sym c.index-tokens-i.is) in
    let at : slice_get (map.entries c.args.evaluator.now) c.args.i ≡ Some token = subst (λ (ts : List TokenAt). slice_get ts c.args.i ≡ Some token) c.requires.tokens there in
    kept_if c.args.evaluator.now c.args.cfg.now c.args.kepts.now c.args.i token c.kept_of-kept.result c.requires.kept at c.kept_of-kept.ensures
