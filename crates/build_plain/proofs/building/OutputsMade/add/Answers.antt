use Rattle.file_plan.specs.View.{plan_perm_view}
use Rattle.build_plain.proofs.Kept.{holds_cells}
use Rattle.build_plain.proofs.Perms.{given_more}
use Rattle.build_plain.proofs.Works.{any_ok}
use Rattle.build_plain.proofs.building.OutputsMade.add.Goals as goal

pub keep_tokens-requires : goal.keep_tokens-requires
keep_tokens-requires c = holds_cells c.args.cfg.now c.args.files.now (plan_perm_view c.args.perm.now) c.args.outcome c.requires.outcome

pub returns : goal.returns
returns c = λ all others given.
    any_ok c.keep_tokens.result (given_more c.args.cfg.now c.args.files.now all (plan_perm_view c.args.perm.now) others c.args.self.now c.put_outcome.new.outputs given c.in_ok-put_outcome.ensures)
