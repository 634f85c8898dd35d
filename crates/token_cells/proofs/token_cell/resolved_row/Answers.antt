use Rattle.std.proofs.Common.{ℕ, Option, subst}
use Rattle.std.specs.Prelude.{IfSome}
use Rattle.alias_ref.specs.Answer.{MeansAsAt}
use Rattle.token_cells.proofs.token_cell.resolved_row.Goals as goal

pub shared_row-requires : goal.shared_row-requires
shared_row-requires c =
    let r = c.requires in
    (r.0, r.1, subst (λ (o : Option ℕ). IfSome o (MeansAsAt r.0 c.args.path.now)) c.in-Some.is r.2, r.3)
