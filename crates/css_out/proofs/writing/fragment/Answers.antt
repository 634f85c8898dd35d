use Rattle.css_out.proofs.FragmentsRead.{read_under}
use Rattle.css_out.proofs.writing.fragment.Goals as goal

pub returns-in-Ok-clause-reads : goal.returns-in-Ok-clause-reads
returns-in-Ok-clause-reads c =
    read_under c.args.cfg.now c.args.name.now c.args.links.now c.args.typed.now c.written.new.draft c.requires.typed c.in-Ok.ensures.body
