-- What is on the stack comes to the sources that are left, and it has no part that is empty.
use Rattle.std.proofs.Common.{◌≡◌, ◌++◌, ◌<◌, length, reverse}
use Rattle.std.specs.List.{flat_map}
use Rattle.resolver_doc.specs.View.{sets_view, sources_view as written_list}
use Rattle.permutations.specs.Permutation.{set_sources, sources_from}
use Rattle.permutations.specs.View.{token_sources_view}
use Rattle.permutations.specs.inner.Parts.{part_sources, parts_view, rows_view, AreSolid}
use Rattle.permutations.proofs.Stacks.{weight}
use Rattle.permutations.proofs.expanding.append_sources.Given as goal

abbrev pub invariant-loop-part : goal.invariant-loop-part
invariant-loop-part l = record {
  whole : token_sources_view l.out ++ flat_map (part_sources (set_sources (sets_view l.table.sets.now))) (reverse (parts_view l.stack.items))
      ≡ token_sources_view l.fn.out ++ sources_from (sets_view l.table.sets.now) (written_list l.fn.written);
  solid : AreSolid (set_sources (sets_view l.table.sets.now)) (rows_view l.table.rows.items) (λ w. w < length (sets_view l.table.sets.now)) (reverse (parts_view l.stack.items));
}

abbrev pub decreases-loop-part : goal.decreases-loop-part
decreases-loop-part l = weight (set_sources (sets_view l.table.sets.now)) (reverse (parts_view l.stack.items))
