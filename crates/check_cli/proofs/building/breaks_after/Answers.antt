use Rattle.check_cli.proofs.building.breaks_after.Goals as goal

pub returns-clause-told : goal.returns-clause-told
returns-clause-told c = (c.in_ok-files.ensures.fits, (c.in_ok-files.files, c.in_ok-files.ensures.files, c.in_ok-breaks_of.ensures))
