use Rattle.token_cli.proofs.Streams.{one_held, one_deltas, one_works}
use Rattle.token_cli.proofs.laws.one_stream.Goals as goal

pub returns : goal.returns
returns c = record {
  held = one_held c.one_build.ensures.outputs;
  deltas = one_deltas c.one_build.ensures.outputs;
  works = one_works c.work_laws.ensures.one;
}
