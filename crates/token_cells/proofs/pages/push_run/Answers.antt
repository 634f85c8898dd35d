use Rattle.std.proofs.Common.{◌+◌, ◌++◌, ◌∷◌, [], ℕ, List, Bor, map, sym, ap, ◌∙◌}
use Rattle.std.proofs.lemmas.List.{map-append}
use Rattle.std.specs.List.{slice_range}
use Rattle.token_cells.proofs.Runs.{one_pushed, none_pushed}
use Rattle.token_cells.proofs.pages.push_run.Goals as goal

pub returns-in_default : goal.returns-in_default
returns-in_default c = none_pushed _ c.args.texts.now _ c.loop-i.i c.args.run.end (sym c.in_default.ensures) c.loop-i.invariant

pub loop-i-preserved : goal.loop-i-preserved
loop-i-preserved c =
    let rest = slice_range c.args.texts.now (c.loop-i.i + 1) c.args.run.end in
    ap (λ (names : List (Bor (List ℕ))). map (λ name. name.now) names ++ rest) c.in_ok-push.ensures.items
    ∙ (ap (λ names. names ++ rest) (map-append (λ (name : Bor (List ℕ)). name.now) c.loop-i.names.items (c.in-Some.name ∷ []))
    ∙ one_pushed _ c.args.texts.now _ c.loop-i.i c.args.run.end c.in-Some.name.now c.loop-i-test.true (sym c.in-Some.ensures) c.loop-i.invariant)
