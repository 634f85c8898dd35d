use Rattle.token_cells.proofs.AndroidDenotes.{android_denotes}
use Rattle.token_cells.proofs.JsonDenotes.{json_denotes}
use Rattle.token_cells.proofs.SwiftDenotes.{swift_denotes}
use Rattle.token_cells.proofs.laws.other_sheets_denote.Goals as goal

pub returns-clause-android : goal.returns-clause-android
returns-clause-android c = android_denotes c.value_laws.ensures.keeps c.clash_laws.ensures.apart c.sheet_laws.ensures.denote

pub returns-clause-swift : goal.returns-clause-swift
returns-clause-swift c = swift_denotes c.value_laws.ensures.keeps c.clash_laws.ensures.apart c.sheet_laws-2.ensures.denote

pub returns-clause-json : goal.returns-clause-json
returns-clause-json c = json_denotes c.value_laws.ensures.keeps c.fragment_laws.ensures.slices c.sheet_laws-3.ensures.denote
