use Rattle.std.proofs.Common.{◌≡◌, ◌+◌, ◌<◌, ◌≤◌, ℕ, List, Some, arith, sym, ap, subst, take, length, ◌∙◌}
use Rattle.std.specs.FinMap as map
use Rattle.std.specs.List.{slice_get, slice_range}
use Rattle.std.specs.Option.{is_none}
use Rattle.std.proofs.lemmas.Option.{slice_get-get_or}
use Rattle.group_inherit.specs.Flattening.{TokenAt}
use Rattle.token_cells.specs.inner.Kept.{texts_of}
use Rattle.token_cells.specs.inner.Turns.{HasAdded}
use Rattle.token_cells.proofs.KeptRows.{count_front, count_next, count_shown, kept_if, part_comes}
use Rattle.token_cells.proofs.Parts.{front_and_part}
use Rattle.token_cells.proofs.gathering.Growing.add_next_since.Goals as goal

pub returns-in-Some-clause-added : goal.returns-in-Some-clause-added
returns-in-Some-clause-added g c =
    let flat = c.args.evaluator.now in
    let tokens = c.args.tokens.now in
    let found = c.in-Some.ensures in
    let end = c.in-Some.found.end in
    let behind : c.args.i ≤ end = omega (arith, found.after) in
    let comes = part_comes flat c.args.cfg.now tokens c.args.kepts.now c.args.i end c.requires.tokens c.requires.kept found.within found.long in
    subst (λ (ts : List TokenAt). HasAdded flat c.args.cfg.now ts c.add_block.new.self) (sym (front_and_part tokens c.args.i end behind))
    (c.in_ok-add_block.ensures flat c.args.cfg.now (take c.args.i tokens) (slice_range tokens c.args.i end) comes c.requires.added)

pub returns-in-Some-clause-steps : goal.returns-in-Some-clause-steps
returns-in-Some-clause-steps g c =
    let found = c.in-Some.ensures in
    let end = c.in-Some.found.end in
    let behind : c.args.i ≤ end = omega (arith, found.after) in
    ap (λ (n : ℕ). c.args.evals.now + n) (sym (count_shown (texts_of c.in-Some.found.pages.now) found.run.fs c.args.kepts.now c.args.i end behind found.run.shows))

pub add_since-requires-clause-token : goal.add_since-requires-clause-token
add_since-requires-clause-token g c =
    let tokens = c.args.tokens.now in
    let token : TokenAt = c.index-tokens-i.result in
    let there : slice_get tokens c.args.i ≡ Some token = slice_get-get_or tokens c.args.i token c.requires.within ∙ ap Some (sym c.index-tokens-i.is) in
    subst (λ (ts : List TokenAt). slice_get ts c.args.i ≡ Some token) c.requires.tokens there

pub add_since-requires-clause-kept : goal.add_since-requires-clause-kept
add_since-requires-clause-kept g c =
    let i = c.args.i in
    let tokens = c.args.tokens.now in
    let kepts = c.args.kepts.now in
    let token : TokenAt = c.index-tokens-i.result in
    let kept = c.index-kepts-i.result in
    let there : slice_get tokens i ≡ Some token = slice_get-get_or tokens i token c.requires.within ∙ ap Some (sym c.index-tokens-i.is) in
    let at : slice_get (map.entries c.args.evaluator.now) i ≡ Some token = subst (λ (ts : List TokenAt). slice_get ts i ≡ Some token) c.requires.tokens there in
    let within : c.args.i < length c.args.kepts.now = omega (arith, c.requires.within, c.requires.long) in
    kept_if c.args.evaluator.now c.args.cfg.now kepts i token kept c.requires.kept at (λ k e. slice_get-get_or kepts i kept within ∙ ap Some (sym c.index-kepts-i.is ∙ e))

pub returns-in_err-add_since-clause-at_most : goal.returns-in_err-add_since-clause-at_most
returns-in_err-add_since-clause-at_most g c =
    let within : c.args.i < length c.args.kepts.now = omega (arith, c.requires.within, c.requires.long) in
    let next = count_next c.args.kepts.now c.args.i c.index-kepts-i.result within c.index-kepts-i.is in
    omega (arith, c.add_since.ensures.step, next, count_front is_none c.args.kepts.now (c.args.i + 1))

pub returns-clause-at_most : goal.returns-clause-at_most
returns-clause-at_most g c =
    let within : c.args.i < length c.args.kepts.now = omega (arith, c.requires.within, c.requires.long) in
    let next = count_next c.args.kepts.now c.args.i c.index-kepts-i.result within c.index-kepts-i.is in
    omega (arith, c.add_since.ensures.step, next, count_front is_none c.args.kepts.now (c.args.i + 1))
