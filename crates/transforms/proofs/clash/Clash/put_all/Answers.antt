use Rattle.std.proofs.Common.{List, ℕ, Bor, [], Some, cond, ap, drop, map, ◌+◌, sym, ◌∙◌}
use Rattle.std.proofs.lemmas.List.{at_drop_more}
use Rattle.std.specs.FinMap as finite
use Rattle.transforms.specs.Clash.{with_names}
use Rattle.transforms.proofs.Taken.{elsewhere}
use Rattle.transforms.proofs.clash.Clash.put_all.Goals as goal

pub loop-name-preserved : goal.loop-name-preserved
loop-name-preserved c =
    let names = c.args.names.now in
    let i = c.loop-name.name-index in
    let taken = c.loop-name.self in
    let path = c.args.path.now in
    let none : Bor (List ℕ) = record { ref_ptr = (0, 0); now = [] } in (
      ap (λ m. with_names m (map (λ (name : Bor (List ℕ)). name.now) (drop (i + 1) names)) path) c.in_ok-put.ensures.ok
          ∙ (sym (at_drop_more (λ ns. with_names taken (map (λ (name : Bor (List ℕ)). name.now) ns) path) names i none c.loop-name-test.true) ∙ c.loop-name.invariant.0),
      λ q among. c.in_ok-put.ensures.at q ∙ (ap (λ b. cond b (Some path) (finite.get taken q)) (elsewhere names i none q c.loop-name-test.true among) ∙ c.loop-name.invariant.1 q among),
    )
