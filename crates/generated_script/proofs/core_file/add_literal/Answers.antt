use Rattle.std.proofs.Common.{codes, decimal}
use Rattle.generated_script.proofs.AppendsRegroup.{three}
use Rattle.generated_script.proofs.core_file.add_literal.Goals as goal

pub returns : goal.returns
returns c =
    three c.args.out.now (codes "{\"value\":") (decimal c.args.number) (codes ",\"unit\":\"px\"}")
    c.append.new.self c.add_number.new.out c.append-2.new.self
    c.in_ok-append.ensures.ok c.in_ok-add_number.ensures c.in_ok-append-2.ensures.ok
