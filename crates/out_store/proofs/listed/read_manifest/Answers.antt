use Rattle.out_store.proofs.Lines.{manifest_utf8}
use Rattle.out_store.proofs.listed.read_manifest.Goals as goal

pub returns-in-Err : goal.returns-in-Err
returns-in-Err c paths list = c.in-Err.ensures.cases.0 (manifest_utf8 c.args.bytes.now paths list)
