use Rattle.std.proofs.Common.{◌≤◌, ◌^◌, rules}
use Rattle.std.specs.Prelude.{unsigned_abs}
use Rattle.dec_fix.proofs.Range.{part_size}
use Rattle.dec_fix.proofs.decimal.Dec.to_byte.Goals as goal

pub overflow_cast-result : goal.overflow_cast-result
overflow_cast-result c =
    let size : unsigned_abs c.args.self.now.c ≤ 10 ^ c.args.self.now.s = part_size c.args.self.now c.requires in
    search rules
