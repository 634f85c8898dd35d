use Rattle.file_plan.specs.View.{plan_perm_view}
use Rattle.build_plain.proofs.Kept.{holds_cells}
use Rattle.build_plain.proofs.Works.{any_ok}
use Rattle.all_breaks.proofs.Planned.{given_more}
use Rattle.all_breaks.proofs.perm.ToldMade.add.Goals as goal

pub keep_tokens-requires : goal.keep_tokens-requires
keep_tokens-requires c = holds_cells c.args.cfg.now c.args.files.now (plan_perm_view c.args.perm.now) c.args.outcome c.requires.outcome

pub returns : goal.returns
returns c = λ all others given.
    any_ok c.keep_tokens.result
    (given_more c.args.cfg.now c.args.files.now all (plan_perm_view c.args.perm.now) others c.args.self.now c.add_perm.new.told given c.in_ok-add_perm.ensures)
