use Rattle.std.proofs.Common.{ℕ, List, Some, ap, sym, ◌∙◌}
use Rattle.std.proofs.lemmas.Option.{slice_get-get_or, slice_get_past}
use Rattle.std.specs.List.{slice_get}
use Rattle.group_inherit.specs.Flattening.{Flattened}
use Rattle.group_inherit.proofs.flat_tree.Flat.at.Goals as goal

abbrev Token : Type 0
Token = List (List ℕ) × Flattened

pub returns-in-Some : goal.returns-in-Some
returns-in-Some c =
    let x : Token = c.in-Some.token.now in
    ap (λ (e : Token). Some e) c.in-Some.ensures.lookup.1
    ∙ (sym (slice_get-get_or c.as_slice.result.now c.args.i x c.in-Some.ensures.lookup.3.0) ∙ ap (λ (l : List Token). slice_get l c.args.i) c.as_slice.ensures.entries)

pub returns-in-None : goal.returns-in-None
returns-in-None c =
    sym (slice_get_past c.as_slice.result.now c.args.i c.in-None.ensures.lookup.3) ∙ ap (λ (l : List Token). slice_get l c.args.i) c.as_slice.ensures.entries
