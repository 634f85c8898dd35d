use Rattle.json_span.proofs.Runs.{blanks_in}
use Rattle.json_span.proofs.scan.blanks_end.Goals as goal

pub returns : goal.returns
returns c = blanks_in c.args.text.now c.as_bytes.result.now c.args.at c.skip_blank.result c.as_bytes.ensures.value c.skip_blank.ensures.first c.skip_blank.ensures.within
