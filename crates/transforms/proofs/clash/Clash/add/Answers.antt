use Rattle.std.proofs.Common.{ap, map, sym, ◌∙◌}
use Rattle.std.specs.FinMap as finite
use Rattle.transforms.proofs.Taken.{get-with_names, taken_away}
use Rattle.transforms.proofs.clash.Clash.add.Goals as goal

pub returns-in-Ok-clause-leaves : goal.returns-in-Ok-clause-leaves
returns-in-Ok-clause-leaves c =
    let is = c.in-Ok.ensures.ok in
    record { is = is; at = λ q. ap (λ m. finite.get m q) is ∙ get-with_names c.args.self.now (map (λ name. name.now) c.args.names.now) c.args.path.now q }

pub returns-in-Err-clause-err : goal.returns-in-Err-clause-err
returns-in-Err-clause-err c =
    taken_away c.args.self.now c.put_all.new.self c.remove_all.new.self (map (λ name. name.now) c.args.names.now) (sym c.in_default.ensures) c.in-Err.ensures.err c.remove_all.ensures
