use Rattle.std.proofs.Common.{◌≡◌, ◌+◌, ◌≤◌, ℕ, List, drop, refl, sym, ap, subst, ◌∙◌, arith}
use Rattle.std.specs.Cmp.Lexicographic.{nat_list_cmp_total}
use Rattle.std.specs.FinMap as finite
use Rattle.std.specs.String.{string_bytes}
use Rattle.ring.specs.Lists.{In}
use Rattle.tk_io.specs.View.{entries_view}
use Rattle.tk_io.proofs.TextMaps.{text_cmp-IsAntisymmetric}
use Rattle.tree_changes.proofs.MapEntries.{entry_found}
use Rattle.rebuild_core.specs.Sums.{IsSum}
use Rattle.rebuild_core.specs.inner.Reading.{TextAt, ReadsOther, AddsOther}
use Rattle.rebuild_core.proofs.FilledMaps.{Filled, filled_start, filled_end}
use Rattle.rebuild_core.proofs.Summing.{sum_start, sum_next, sum_end, most_start, most_next, most_end}
use Rattle.rebuild_core.proofs.FilesRead.{reads_few}
use Rattle.rebuild_core.proofs.TreesAdded.{IsReadIn, next_entry, no_entries, entry_in, first_next, trees_next, none_read}
use Rattle.rebuild_core.proofs.reading.add_trees.Goals as goal

pub loop-path-init : goal.loop-path-init
loop-path-init g c =
    let es = entries_view string_bytes (λ v. v) c.entries-path-items.result.now in
    let start = filled_start nat_list_cmp_total text_cmp-IsAntisymmetric c.args.used.now (IsReadIn c.args.used.now c.args.trees.now) (none_read c.args.used.now c.args.trees.now c.requires.only) in
    record {
      trees = subst (λ (l : List TextAt). Filled nat_list_cmp_total text_cmp-IsAntisymmetric (IsReadIn c.args.used.now c.args.trees.now) l) (sym c.entries-path-items.ensures) start;
      first = c.requires.first;
      done = sum_start (ReadsOther c.args.past.now.used) es;
      counted = omega arith;
      most = most_start (ReadsOther c.args.past.now.used) es c.args.parses.now;
      few = omega arith;
    }

pub loop-path-preserved : goal.loop-path-preserved
loop-path-preserved g c =
    let used = c.args.used.now in
    let items = c.entries-path-items.result.now in
    let i = c.loop-path.path-index in
    let x = c.loop-path-item.result in
    let path = string_bytes x.0 in
    let es = entries_view string_bytes (λ v. v) items in
    let rest = entries_view string_bytes (λ v. v) (drop i items) in
    let more = entries_view string_bytes (λ v. v) (drop (i + 1) items) in
    let next = next_entry string_bytes items i x c.loop-path-test.true c.loop-path-item.is in
    let inside = subst (λ (l : List TextAt). In (path, x.1) l) c.entries-path-items.ensures (entry_in string_bytes items i x c.loop-path-test.true c.loop-path-item.is) in
    let there = entry_found nat_list_cmp_total text_cmp-IsAntisymmetric used path x.1 inside in
    let of_file = c.requires.used path x.1 there in
    let same : c.as_str.result.now ≡ path = c.as_str.ensures.value in
    let adds = subst (λ (p : List ℕ). AddsOther p x.1 c.loop-path.trees c.add_tree.new.trees) same (c.in_ok-more.ensures.tree x.1 (ap (finite.get c.args.files.now) same ∙ of_file)) in
    let reads = subst (λ (p : List ℕ). ReadsOther c.args.past.now.used (p, x.1) c.in_ok-more.more) same (c.in_ok-more.ensures.count x.1 (ap (finite.get c.args.files.now) same ∙ of_file)) in
    let claim = ReadsOther c.args.past.now.used in
    record {
      trees = trees_next used c.loop-path.trees c.add_tree.new.trees path x.1 there rest more next adds c.loop-path.invariant.first c.loop-path.invariant.trees;
      first = first_next used c.loop-path.trees c.add_tree.new.trees path x.1 there adds c.loop-path.invariant.first;
      done = sum_next claim es rest (path, x.1) more c.loop-path.read _ c.in_ok-more.more next c.loop-path.invariant.done reads refl;
      counted = omega (arith, c.loop-path.invariant.counted, c.in_ok-more.ensures.step);
      most = most_next claim es c.args.parses.now rest (path, x.1) more c.loop-path.parses c.add_tree.new.parses next c.loop-path.invariant.most
          (λ k reads_k. c.add_tree.ensures.at_most k x.1 (ap (finite.get c.args.files.now) same ∙ of_file) (subst (λ (p : List ℕ). claim (p, x.1) k) (sym same) reads_k));
      few = omega (arith, c.loop-path.invariant.few, reads_few c.args.past.now.used (path, x.1) c.in_ok-more.more reads);
    }

pub overflow_add-read : goal.overflow_add-read
overflow_add-read g c =
    let items = c.entries-path-items.result.now in
    let x = c.loop-path-item.result in
    let path = string_bytes x.0 in
    let inside = subst (λ (l : List TextAt). In (path, x.1) l) c.entries-path-items.ensures (entry_in string_bytes items c.loop-path.path-index x c.loop-path-test.true c.loop-path-item.is) in
    let of_file = c.requires.used path x.1 (entry_found nat_list_cmp_total text_cmp-IsAntisymmetric c.args.used.now path x.1 inside) in
    let same : c.as_str.result.now ≡ path = c.as_str.ensures.value in
    let reads = c.in_ok-more.ensures.count x.1 (ap (finite.get c.args.files.now) same ∙ of_file) in
    let few : c.in_ok-more.more ≤ 1 = reads_few c.args.past.now.used (c.as_str.result.now, x.1) c.in_ok-more.more reads in
    omega (arith, few, c.loop-path.invariant.few, c.loop-path-test.true)

pub returns-in_err-more-clause-at_most : goal.returns-in_err-more-clause-at_most
returns-in_err-more-clause-at_most g c = λ n is.
    let used = c.args.used.now in
    let items = c.entries-path-items.result.now in
    let i = c.loop-path.path-index in
    let x = c.loop-path-item.result in
    let path = string_bytes x.0 in
    let es = entries_view string_bytes (λ v. v) items in
    let rest = entries_view string_bytes (λ v. v) (drop i items) in
    let more = entries_view string_bytes (λ v. v) (drop (i + 1) items) in
    let next = next_entry string_bytes items i x c.loop-path-test.true c.loop-path-item.is in
    let inside = subst (λ (l : List TextAt). In (path, x.1) l) c.entries-path-items.ensures (entry_in string_bytes items i x c.loop-path-test.true c.loop-path-item.is) in
    let of_file = c.requires.used path x.1 (entry_found nat_list_cmp_total text_cmp-IsAntisymmetric used path x.1 inside) in
    let same : c.as_str.result.now ≡ path = c.as_str.ensures.value in
    let claim = ReadsOther c.args.past.now.used in
    let most = most_next claim es c.args.parses.now rest (path, x.1) more c.loop-path.parses c.add_tree.new.parses next c.loop-path.invariant.most
    (λ k reads_k. c.add_tree.ensures.at_most k x.1 (ap (finite.get c.args.files.now) same ∙ of_file) (subst (λ (p : List ℕ). claim (p, x.1) k) (sym same) reads_k)) in
    most_end claim es c.args.parses.now more c.add_tree.new.parses most n (subst (λ (l : List TextAt). IsSum claim l n) (sym c.entries-path-items.ensures) is)

pub returns : goal.returns
returns g c =
    let items = c.entries-path-items.result.now in
    let i = c.loop-path.path-index in
    let es = entries_view string_bytes (λ v. v) items in
    let rest = entries_view string_bytes (λ v. v) (drop i items) in
    let none = no_entries string_bytes items i c.loop-path-test.false in
    let claim = ReadsOther c.args.past.now.used in
    record {
      trees = filled_end nat_list_cmp_total text_cmp-IsAntisymmetric (IsReadIn c.args.used.now c.loop-path.trees) rest none c.loop-path.invariant.trees;
      count = subst (λ (l : List TextAt). IsSum claim l c.loop-path.read) c.entries-path-items.ensures (sum_end claim es rest c.loop-path.read none c.loop-path.invariant.done);
      step = c.loop-path.invariant.counted;
      at_most = λ n is. most_end claim es c.args.parses.now rest c.loop-path.parses c.loop-path.invariant.most n (subst (λ (l : List TextAt). IsSum claim l n) (sym c.entries-path-items.ensures) is);
    }
