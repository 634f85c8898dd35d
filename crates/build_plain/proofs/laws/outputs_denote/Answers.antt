use Rattle.build_plain.proofs.Answered.{each_is_answered, never_both, no_other_stands}
use Rattle.build_plain.proofs.laws.outputs_denote.Goals as goal

pub returns-clause-each : goal.returns-clause-each
returns-clause-each c = each_is_answered (record {
  plan = c.file_plan_laws.ensures.one;
  stand = c.file_plan_laws.ensures.stand;
  apart = c.file_plan_laws.ensures.apart;
  paths = c.merged_tokens.ensures.paths;
  definitions = c.merged_tokens.ensures.definitions;
  config = record { texts = c.config_laws.ensures.texts; plain = c.config_laws.ensures.plain };
  css = c.sheets_denote.ensures;
  android = c.other_sheets_denote.ensures.android;
  swift = c.other_sheets_denote.ensures.swift;
  json = c.other_sheets_denote.ensures.json;
})

pub returns-clause-either : goal.returns-clause-either
returns-clause-either c = never_both (record { found = c.one_merge.ensures.found; flat = c.one_answer.ensures.flat; broken = c.one_answer.ensures.broken; sound = c.one_answer.ensures.sound }) c.one_cells.ensures

pub returns-clause-no_other : goal.returns-clause-no_other
returns-clause-no_other c = no_other_stands c.file_plan_laws.ensures.one
