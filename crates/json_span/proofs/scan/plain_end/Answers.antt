use Rattle.std.proofs.Common.{ℕ, arith}
use Rattle.json_span.proofs.Runs.{plain_in}
use Rattle.json_span.proofs.scan.plain_end.Goals as goal

pub returns-clause-plain : goal.returns-clause-plain
returns-clause-plain c = plain_in c.args.text.now c.as_bytes.result.now c.args.at c.first_special.result c.as_bytes.ensures.value (λ (i : ℕ). omega (arith, c.type_inv.text i)) c.first_special.ensures.first c.first_special.ensures.within
