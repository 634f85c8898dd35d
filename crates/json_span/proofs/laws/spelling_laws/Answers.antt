use Rattle.json_span.proofs.Insides.{plain_stays, insides_follow, insides_join, joined_at}
use Rattle.json_span.proofs.Spelled.{string_at}
use Rattle.json_span.proofs.laws.spelling_laws.Goals as goal

pub returns : goal.returns
returns c = record {
  reads = string_at;
  plain = plain_stays;
  follow = insides_follow;
  join = insides_join;
  joined = joined_at;
}
