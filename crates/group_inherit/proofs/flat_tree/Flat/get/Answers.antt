use Rattle.std.proofs.Common.{ℕ, List, Some, sym, ap, ◌∙◌}
use Rattle.std.specs.FinMap as map
use Rattle.std.specs.FinMap.Entries.{find}
use Rattle.std.specs.Cmp.Lexicographic.{lists_total, nat_list_cmp_total}
use Rattle.tk_io.specs.Order.{names_cmp}
use Rattle.group_inherit.specs.Flattening.{Flattened}
use Rattle.group_inherit.specs.inner.Halves.{IsPlace}
use Rattle.group_inherit.proofs.Halves.{find_here, find_none}
use Rattle.group_inherit.proofs.flat_tree.Flat.get.Goals as goal

abbrev Token : Type 0
Token = List (List ℕ) × Flattened

pub returns-in-Ok : goal.returns-in-Ok
returns-in-Ok c =
    let tokens : List Token = c.as_slice-tokens.result.now in
    let x : Token = c.index-tokens-i.result in
    let p : IsPlace names_cmp c.args.path.now tokens c.in-Ok.i = c.in-Ok.ensures.place in
    ap (λ (e : Token). Some e.1) (sym c.index-tokens-i.is)
    ∙ (sym (find_here (lists_total nat_list_cmp_total) c.args.path.now c.in-Ok.i tokens x p.passed p.within c.index-tokens-i.is (ap (λ (e : Token). names_cmp c.args.path.now e.0) c.index-tokens-i.is ∙ p.same x))
    ∙ (ap (find names_cmp c.args.path.now) c.as_slice-tokens.ensures.entries ∙ sym (map.get-entries c.args.self.now c.args.path.now)))

pub returns-in-Err : goal.returns-in-Err
returns-in-Err c =
    let g = c.in-Err.ensures.gap in
    sym (find_none (lists_total nat_list_cmp_total) c.args.path.now c.in-Err.field-0 c.as_slice-tokens.result.now g.passed g.ahead)
    ∙ (ap (find names_cmp c.args.path.now) c.as_slice-tokens.ensures.entries ∙ sym (map.get-entries c.args.self.now c.args.path.now))
