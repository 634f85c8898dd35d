use Rattle.std.proofs.Common.{◌≡◌, ◌++◌, ◌<◌, ◌∙◌, ℕ, length, reverse, refl, ap, sym, inl, subst}
use Rattle.std.proofs.lemmas.List.{length-map}
use Rattle.std.specs.List.{flat_map}
use Rattle.resolver_doc.specs.View.{sets_view, sources_view as written_list}
use Rattle.permutations.specs.Permutation.{set_sources}
use Rattle.permutations.specs.View.{token_sources_view}
use Rattle.permutations.specs.inner.Parts.{part_view, parts_view, parts_in, row_view, rows_view, part_sources, HaveRows, AreSolid}
use Rattle.permutations.specs.inner.Expanding.{parts_left}
use Rattle.permutations.proofs.Known.{named_known}
use Rattle.permutations.proofs.Stacks.{popped, popped_solid, put_back, begun, after, weight, kept, solid_after, lighter, placed, all_tell}
use Rattle.permutations.proofs.expanding.append_sources.Goals as goal

pub loop-part-init : goal.loop-part-init
loop-part-init c =
    let sets = sets_view c.args.table.now.sets.now in
    let f = set_sources sets in
    let n = length sets in
    let rows = rows_view c.args.table.now.rows.items in
    let has_rows : length c.args.table.now.rows.items ≡ n = sym (length-map c.args.table.now.rows.items row_view) ∙ c.requires.tells.long in
    let known = subst (λ (m : ℕ). HaveRows m c.args.written.now) has_rows c.requires.known in
    let tells = all_tell f n rows c.requires.tells (written_list c.args.written.now) (named_known n c.args.written.now known) in
    let parts : parts_view c.as_slice-2.result.now ≡ parts_in rows (written_list c.args.written.now) =
    ap parts_view c.as_slice-2.ensures.value ∙ (c.in_ok-parts.ensures ∙ ap (λ rs. parts_in (rows_view rs) (written_list c.args.written.now)) c.as_slice.ensures.value) in
    let stack : reverse (parts_view c.push_reversed.new.stack.items) ≡ parts_in rows (written_list c.args.written.now) =
    begun (parts_view c.push_reversed.new.stack.items) (parts_view c.as_slice-2.result.now)
    (c.in_ok-push_reversed.ensures ∙ ap (λ ps. parts_view ps ++ reverse (parts_view c.as_slice-2.result.now)) c.new-stack.ensures.items) ∙ parts in
    record {
      whole = ap (λ ps. token_sources_view c.args.out.now ++ flat_map (part_sources f) ps) stack ∙ ap (λ xs. token_sources_view c.args.out.now ++ xs) tells.whole;
      solid = subst (λ ps. AreSolid f rows (λ w. w < n) ps) (sym stack) tells.solid;
    }

pub expand-requires : goal.expand-requires
expand-requires c =
    let sets = sets_view c.args.table.now.sets.now in
    let rows = rows_view c.args.table.now.rows.items in
    let solid = popped_solid (set_sources sets) rows (λ w. w < length sets) c.loop-part.stack.items c.pop.new.self.items c.in-Some.part c.in-Some.ensures.items c.loop-part.invariant.solid in
    let has_rows : length c.as_slice-in-Some.result.now ≡ length sets =
    ap length c.as_slice-in-Some.ensures.value ∙ (sym (length-map c.args.table.now.rows.items row_view) ∙ c.requires.tells.long) in
    placed (set_sources sets) (length sets) rows c.requires.tells (part_view c.in-Some.part) (length c.as_slice-in-Some.result.now) has_rows (solid (part_view c.in-Some.part) (inl refl))

pub loop-part-smaller : goal.loop-part-smaller
loop-part-smaller c =
    let sets = sets_view c.args.table.now.sets.now in
    let f = set_sources sets in
    let rows = rows_view c.args.table.now.rows.items in
    let part = part_view c.in-Some.part in
    let rest = parts_view c.pop.new.self.items in
    let top = popped c.loop-part.stack.items c.pop.new.self.items c.in-Some.part c.in-Some.ensures.items in
    let solid = popped_solid f rows (λ w. w < length sets) c.loop-part.stack.items c.pop.new.self.items c.in-Some.part c.in-Some.ensures.items c.loop-part.invariant.solid in
    let next : reverse (parts_view c.expand.new.stack.items) ≡ after rows part (reverse rest) =
    put_back rows (parts_view c.expand.new.stack.items) rest part
    (c.in_ok-expand.ensures.left ∙ ap (λ rs. rest ++ parts_left (rows_view rs) part) c.as_slice-in-Some.ensures.value) in
    subst (λ ps. weight f ps < weight f (reverse (parts_view c.loop-part.stack.items))) (sym next)
    (subst (λ ps. weight f (after rows part (reverse rest)) < weight f ps) (sym top)
    (lighter f (length sets) rows c.requires.tells part (reverse rest) solid))

pub loop-part-preserved : goal.loop-part-preserved
loop-part-preserved c =
    let sets = sets_view c.args.table.now.sets.now in
    let f = set_sources sets in
    let rows = rows_view c.args.table.now.rows.items in
    let part = part_view c.in-Some.part in
    let rest = parts_view c.pop.new.self.items in
    let out = token_sources_view c.loop-part.out in
    let top = popped c.loop-part.stack.items c.pop.new.self.items c.in-Some.part c.in-Some.ensures.items in
    let solid = popped_solid f rows (λ w. w < length sets) c.loop-part.stack.items c.pop.new.self.items c.in-Some.part c.in-Some.ensures.items c.loop-part.invariant.solid in
    let next : reverse (parts_view c.expand.new.stack.items) ≡ after rows part (reverse rest) =
    put_back rows (parts_view c.expand.new.stack.items) rest part
    (c.in_ok-expand.ensures.left ∙ ap (λ rs. rest ++ parts_left (rows_view rs) part) c.as_slice-in-Some.ensures.value) in
    record {
      whole =
          ap (λ ps. token_sources_view c.expand.new.out ++ flat_map (part_sources f) ps) next
          ∙ (ap (λ xs. xs ++ flat_map (part_sources f) (after rows part (reverse rest))) c.in_ok-expand.ensures.added
          ∙ (kept f (length sets) rows c.requires.tells out part (reverse rest) solid
          ∙ (ap (λ ps. out ++ flat_map (part_sources f) ps) (sym top) ∙ c.loop-part.invariant.whole)));
      solid = subst (λ ps. AreSolid f rows (λ w. w < length sets) ps) (sym next) (solid_after f (length sets) rows c.requires.tells part (reverse rest) solid);
    }
