use Rattle.store_cli.proofs.building.outputs_after.Goals as goal

pub returns-clause-built : goal.returns-clause-built
returns-clause-built c = (c.in_ok-files.files, c.in_ok-files.ensures.files, c.in_ok-build_anew.ensures)

pub returns-clause-fit : goal.returns-clause-fit
returns-clause-fit c = c.outputs_fit.ensures c.in_ok-files.files c.in_ok-build_anew.field-0 c.resolver_is_utf8.ensures c.in_ok-build_anew.ensures
