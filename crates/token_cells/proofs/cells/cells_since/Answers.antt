use Rattle.std.proofs.Common.{◌+◌, List, Option, length, sym, ap, arith, ◌∙◌}
use Rattle.std.proofs.lemmas.List.{length-map}
use Rattle.std.proofs.lemmas.Slice.Zip.{AllZip-long}
use Rattle.std.specs.FinMap as map
use Rattle.std.specs.List.{count_by}
use Rattle.std.specs.Option.{is_none}
use Rattle.tree_changes.specs.Standing.{KeepsAt}
use Rattle.token_cells.specs.declared.keeping.Kept.{Kept}
use Rattle.token_cells.proofs.KeptRows.{any_ok, same_count}
use Rattle.token_cells.proofs.cells.cells_since.Goals as goal

pub grown_since-requires-clause-long : goal.grown_since-requires-clause-long
grown_since-requires-clause-long g c =
    ap (λ (ks : List (Option Kept)). length ks) c.as_slice.ensures.value
    ∙ (sym (length-map c.in_ok-rows.rows.items is_none) ∙ (ap length c.in_ok-rows.ensures.none ∙ length-map c.args.places.now is_none)
    ∙ AllZip-long (KeepsAt c.args.old.now.tokens c.args.flat) (map.entries c.args.flat) c.args.places.now c.requires.places)

pub returns-in_err-growing-clause-at_most : goal.returns-in_err-growing-clause-at_most
returns-in_err-growing-clause-at_most g c =
    let same = ap (λ (ks : List (Option Kept)). count_by is_none ks) c.as_slice.ensures.value ∙ same_count is_none is_none c.in_ok-rows.rows.items c.args.places.now c.in_ok-rows.ensures.none in
    omega (arith, c.grown_since.ensures.at_most, same)

pub returns : goal.returns
returns g c =
    let same = ap (λ (ks : List (Option Kept)). count_by is_none ks) c.as_slice.ensures.value ∙ same_count is_none is_none c.in_ok-rows.rows.items c.args.places.now c.in_ok-rows.ensures.none in
    record {
      tokens = c.end.ensures.tokens;
      ok = c.end.ensures.cells;
      steps = any_ok c.end.result (c.in_ok-growing.ensures.steps ∙ ap (λ n. c.args.evals.now + n) same);
      at_most = omega (arith, c.grown_since.ensures.at_most, same);
    }
