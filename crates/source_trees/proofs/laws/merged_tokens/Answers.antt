use Rattle.source_trees.proofs.SourcesHoldTokens.{TextLaws, paths_of_tokens, tokens_are_definitions, tokens_are_of_texts, tokens_stand_in_files}
use Rattle.source_trees.proofs.laws.merged_tokens.Goals as goal

pub returns : goal.returns
returns c =
    let laws : TextLaws = record {
      names = c.text_laws.ensures.names;
      list = c.flat_by_path.ensures.list;
      shown = c.plain_laws.ensures.shown;
      said = c.plain_laws.ensures.fits;
    } in
    record {
      paths = paths_of_tokens laws;
      definitions = tokens_are_definitions laws;
      files = tokens_stand_in_files laws;
      texts = tokens_are_of_texts laws;
    }
