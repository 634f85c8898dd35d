use Rattle.std.proofs.Common.{◌≡◌, ◌+◌, ◌*◌, ◌<◌, ℕ, min, length, drop, ap, sym, ◌∙◌, arith}
use Rattle.permutations.specs.Answer.{told_number, last_number}
use Rattle.resolver_doc.specs.View.{item_view, order_view}
use Rattle.permutations.specs.Permutation.{picks, choices}
use Rattle.permutations.proofs.Counts.{told_product}
use Rattle.permutations.proofs.CountSteps.{ways_more}
use Rattle.permutations.proofs.counting.permutation_count.Goals as goal

pub loop-item-preserved : goal.loop-item-preserved
loop-item-preserved c =
    let order = c.args.order.now in
    let i = c.loop-item.item-index in
    let within : i < length order = omega arith in
    let options = length (picks (item_view c.item-item.result)) in
    let left = length (choices (order_view (drop (i + 1) order))) in
    let count : c.min-count.result ≡ min (c.loop-item.count * options) last_number =
    (let product : c.loop-item.count * c.option_count.result ≡ c.loop-item.count * options = ap (λ (n : ℕ). c.loop-item.count * n) c.option_count.ensures in
    omega (arith, c.saturating_mul.ensures, c.min-count.ensures)) in
    record {
      ways =
          ap (λ (n : ℕ). told_number (n * left)) count
          ∙ (told_product c.loop-item.count options left last_number
          ∙ (ap (λ (n : ℕ). told_number (c.loop-item.count * n)) (sym (ways_more order i c.item-item.result within c.item-item.is)) ∙ c.loop-item.invariant.ways));
      small = omega arith;
    }
