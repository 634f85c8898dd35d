use Rattle.std.proofs.Common.{◌<◌, length, get_or, ap, sym, ◌∙◌, arith}
use Rattle.std.proofs.lemmas.List.Sums.{fold_more}
use Rattle.resolver_doc.specs.View.{sets_view}
use Rattle.permutations.specs.inner.Parts.{rows_view, with_row}
use Rattle.permutations.proofs.table.fill.Goals as goal

pub loop-number-preserved : goal.loop-number-preserved
loop-number-preserved c =
    let within : c.loop-number.number-index < length c.args.order.now = omega arith in
    record {
      long = c.in_ok-put_row.ensures.long ∙ c.loop-number.invariant.long;
      filled =
          c.in_ok-put_row.ensures.row
          ∙ (ap (λ rows. with_row (sets_view c.args.sets.now) rows (get_or c.args.order.now c.loop-number.number-index 0)) c.loop-number.invariant.filled
          ∙ sym (fold_more (with_row (sets_view c.args.sets.now)) (rows_view c.args.rows.now.items) c.args.order.now c.loop-number.number-index 0 within));
    }
