use Rattle.build_plain.proofs.EachBuilds.{BuildLaws, each_builds, each_works}
use Rattle.build_plain.proofs.laws.each_build.Goals as goal

pub returns : goal.returns
returns c =
    let laws : BuildLaws = record {
      plan = c.each_plan.ensures;
      stand = c.file_plan_laws.ensures.stand;
      merge = c.each_merge.ensures.found;
      ordered = c.each_merge.ensures.ordered;
      tree = c.each_tree_answers.ensures;
      definitions = c.merged_tokens.ensures.definitions;
      texts = c.merged_tokens.ensures.texts;
      cells = c.each_cell.ensures.all;
      config = record { texts = c.config_laws.ensures.texts; plain = c.config_laws.ensures.plain };
    } in
    record { outputs = each_builds laws; work = each_works laws }
