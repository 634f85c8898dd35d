use Rattle.std.proofs.Common.{◌≡◌, ◌≢◌, arith, ℕ, List, Bool, true, false, inl, inr, option_map, refl, sym, ap, subst, ◌∙◌}
use Rattle.std.specs.Str.{bytes_eq}
use Rattle.std.proofs.lemmas.Slice.Eq.{bytes_eq-Decides}
use Rattle.file_plan.specs.InUse.{resolver_path}
use Rattle.file_plan.specs.Trees.{IsTreeOf}
use Rattle.file_plan.proofs.FilesInUse.{some_none, some_is}
use Rattle.rebuild_core.specs.inner.Reading.{ReadsOne}
use Rattle.rebuild_core.proofs.FilesRead.{reads_other}
use Rattle.rebuild_core.proofs.reading.add_tree.Goals as goal

is_resolver : (path : List ℕ) (b : Bool) → b ≡ bytes_eq path resolver_path → b ≡ true → path ≡ resolver_path
is_resolver path b e is = (bytes_eq-Decides path resolver_path).0 (sym e ∙ is)

no_resolver : (path : List ℕ) (b : Bool) → b ≡ bytes_eq path resolver_path → b ≡ false → path ≢ resolver_path
no_resolver path b e not same =
    let yes : bytes_eq path resolver_path ≡ true = (bytes_eq-Decides path resolver_path).1 same in
    let no : bytes_eq path resolver_path ≡ false = sym e ∙ not in
    cc

pub returns-then-is_first-clause-tree : goal.returns-then-is_first-clause-tree
returns-then-is_first-clause-tree g c = λ text there. inl (is_resolver c.args.path.now c.eq-is_first.result c.eq-is_first.ensures c.if-is_first.true, refl)

pub returns-then-is_first-clause-count : goal.returns-then-is_first-clause-count
returns-then-is_first-clause-count g c = λ text there. inl (is_resolver c.args.path.now c.eq-is_first.result c.eq-is_first.ensures c.if-is_first.true, refl)

pub returns-in_ok-put-in-Some-clause-tree : goal.returns-in_ok-put-in-Some-clause-tree
returns-in_ok-put-in-Some-clause-tree g c = λ text there.
    let same = some_is (ap (option_map (λ t. t.now)) (sym c.in-Some.is) ∙ (c.get.ensures ∙ there)) in
    inr (
      no_resolver c.args.path.now c.eq-is_first.result c.eq-is_first.ensures c.if-is_first.false,
      (c.in_ok-made-in-Some.made.0, subst (λ (t : List ℕ). IsTreeOf t c.in_ok-made-in-Some.made.0) same c.in_ok-made-in-Some.ensures.tree, c.in_ok-put-in-Some.ensures.at),
    )

pub returns-in_ok-put-in-Some-clause-count : goal.returns-in_ok-put-in-Some-clause-count
returns-in_ok-put-in-Some-clause-count g c = λ text there.
    let same = some_is (ap (option_map (λ t. t.now)) (sym c.in-Some.is) ∙ (c.get.ensures ∙ there)) in
    inr (
      no_resolver c.args.path.now c.eq-is_first.result c.eq-is_first.ensures c.if-is_first.false,
      subst (λ (t : List ℕ). ReadsOne c.args.past.now.used (c.args.path.now, t) c.in_ok-made-in-Some.made.1) same c.in_ok-made-in-Some.ensures.count,
    )

pub returns-in_ok-put-in-Some-clause-at_most : goal.returns-in_ok-put-in-Some-clause-at_most
returns-in_ok-put-in-Some-clause-at_most g c = λ n text there reads.
    let same = some_is (ap (option_map (λ t. t.now)) (sym c.in-Some.is) ∙ (c.get.ensures ∙ there)) in
    let other = no_resolver c.args.path.now c.eq-is_first.result c.eq-is_first.ensures c.if-is_first.false in
    c.tree_of.ensures.at_most n (subst (λ (t : List ℕ). ReadsOne c.args.past.now.used (c.args.path.now, t) n) (sym same) (reads_other c.args.past.now.used (c.args.path.now, text) n other reads))

pub returns-in_err-put-in-Some-clause-at_most : goal.returns-in_err-put-in-Some-clause-at_most
returns-in_err-put-in-Some-clause-at_most g c = λ n text there reads.
    let same = some_is (ap (option_map (λ t. t.now)) (sym c.in-Some.is) ∙ (c.get.ensures ∙ there)) in
    let other = no_resolver c.args.path.now c.eq-is_first.result c.eq-is_first.ensures c.if-is_first.false in
    c.tree_of.ensures.at_most n (subst (λ (t : List ℕ). ReadsOne c.args.past.now.used (c.args.path.now, t) n) (sym same) (reads_other c.args.past.now.used (c.args.path.now, text) n other reads))

pub returns-in_err-made-in-Some-clause-at_most : goal.returns-in_err-made-in-Some-clause-at_most
returns-in_err-made-in-Some-clause-at_most g c = λ n text there reads.
    let same = some_is (ap (option_map (λ t. t.now)) (sym c.in-Some.is) ∙ (c.get.ensures ∙ there)) in
    let other = no_resolver c.args.path.now c.eq-is_first.result c.eq-is_first.ensures c.if-is_first.false in
    c.tree_of.ensures.at_most n (subst (λ (t : List ℕ). ReadsOne c.args.past.now.used (c.args.path.now, t) n) (sym same) (reads_other c.args.past.now.used (c.args.path.now, text) n other reads))

pub returns-in-None-clause-tree : goal.returns-in-None-clause-tree
returns-in-None-clause-tree g c = λ text there. absurd (some_none (sym there ∙ (sym c.get.ensures ∙ ap (option_map (λ t. t.now)) c.in-None.is)))

pub returns-in-None-clause-count : goal.returns-in-None-clause-count
returns-in-None-clause-count g c = λ text there. absurd (some_none (sym there ∙ (sym c.get.ensures ∙ ap (option_map (λ t. t.now)) c.in-None.is)))

pub returns-then-is_first-clause-at_most : goal.returns-then-is_first-clause-at_most
returns-then-is_first-clause-at_most g c = λ n text there reads. omega arith

pub returns-in-None-clause-at_most : goal.returns-in-None-clause-at_most
returns-in-None-clause-at_most g c = λ n text there reads. omega arith
