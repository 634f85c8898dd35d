use Rattle.build_plain.proofs.PrintedSpans.{breaks_lie_in_files, lines_are_of_files, places_lie_in_tokens}
use Rattle.build_plain.proofs.laws.printed_spans.Goals as goal

pub returns-clause-files : goal.returns-clause-files
returns-clause-files c = breaks_lie_in_files (record {
  flaws = c.json_laws.ensures.first;
  tell = c.refusal_laws.ensures.told;
  planned = c.refusal_laws.ensures.planned;
  named = c.source_laws.ensures.named;
  stand = c.file_plan_laws.ensures.stand;
  definitions = c.merged_tokens.ensures.definitions;
  in_files = c.merged_tokens.ensures.files;
  places = c.breaks_are_real.ensures.places;
})

pub returns-clause-lines : goal.returns-clause-lines
returns-clause-lines c = lines_are_of_files

pub returns-clause-tokens : goal.returns-clause-tokens
returns-clause-tokens c = places_lie_in_tokens c.merged_tokens.ensures.definitions
