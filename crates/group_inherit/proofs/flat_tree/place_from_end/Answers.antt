use Rattle.std.proofs.Common.{◌≡◌, ℕ, ◌+◌, ◌-◌, ◌<◌, List, Greater, length, get_or, arith, rules, sym, ◌∙◌, subst, take}
use Rattle.std.proofs.lemmas.List.{drop_all}
use Rattle.std.specs.Cmp.Lexicographic.{lists_total, nat_list_cmp_total}
use Rattle.tk_io.specs.Order.{names_cmp}
use Rattle.group_inherit.specs.Flattening.{Flattened}
use Rattle.group_inherit.specs.inner.Halves.{IsBehindAll, IsBeforeAll}
use Rattle.group_inherit.proofs.Halves.{passes_one}
use Rattle.group_inherit.proofs.flat_tree.place_from_end.Goals as goal

abbrev Token : Type 0
Token = List (List ℕ) × Flattened

pub returns-in-Greater-clause-gap : goal.returns-in-Greater-clause-gap
returns-in-Greater-clause-gap c =
    let tokens : List Token = c.args.tokens.now in
    let path : List (List ℕ) = c.args.path.now in
    let last : Token = c.in-Some.field-0.now in
    let some : 0 < length tokens = search rules in
    let there : last ≡ get_or tokens (length tokens - 1) last = search rules in
    let behind : names_cmp path last.0 ≡ Greater = sym c.cmp.ensures ∙ c.in-Greater.is in
    let whole : (length tokens - 1) + 1 ≡ length tokens = omega (arith, some) in
    let passed : IsBehindAll names_cmp path (take ((length tokens - 1) + 1) tokens) = passes_one (lists_total nat_list_cmp_total) path tokens (length tokens - 1) last c.requires (omega (arith, some)) there behind in
    record {
      within = omega arith;
      passed = subst (λ (n : ℕ). IsBehindAll names_cmp path (take n tokens)) whole passed;
      ahead = subst (IsBeforeAll names_cmp path) (sym (drop_all (length tokens) tokens (omega arith))) tt;
    }
