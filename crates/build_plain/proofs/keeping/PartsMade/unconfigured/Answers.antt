use Rattle.std.proofs.Common.{◌∙◌}
use Rattle.build_plain.proofs.KeptParts.{unconfigured}
use Rattle.build_plain.proofs.keeping.PartsMade.unconfigured.Goals as goal

pub returns-in_default : goal.returns-in_default
returns-in_default c = record {
  ok = unconfigured c.bare_parts.result (c.bare_parts.ensures.trees ∙ c.new.ensures) c.bare_parts.ensures.merges c.bare_parts.ensures.cells;
  broken = c.in_default.not-NoMemory;
}
