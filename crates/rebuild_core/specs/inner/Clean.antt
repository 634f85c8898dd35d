-- What permutations came to that break no rule.
use Rattle.std.specs.Prelude.{◌≡◌, Bool, true, false, List}
use Rattle.std.specs.FinMap as finite
use Rattle.std.specs.List.{zip}
use Rattle.std.specs.Option.{is_none}
use Rattle.token_cells.specs.Breaks.{token_reports, verdict}
use Rattle.token_cells.specs.TokenCell.{TokenCell}
use Rattle.build_plain.specs.declared.outcome.Outcome.{Outcome}
use Rattle.build_plain.specs.declared.outcome.Outcome.TheVariants.{Tokens, TreeBreak, SourceBreak}

-- whether no token breaks a rule, and no two have a name in common
abbrev pub is_clean : Outcome → Bool
is_clean (Tokens tree) = is_none (verdict (token_reports tree.tokens (zip (finite.entries tree.tokens) tree.cells)))
is_clean (TreeBreak fault) = false
is_clean (SourceBreak b) = false

-- these are the cells of what broke no rule
abbrev pub AreCleanCells : Outcome → List TokenCell → Type 0
AreCleanCells (Tokens tree) cells = (is_clean (Tokens tree) ≡ true) × (cells ≡ tree.cells)
AreCleanCells (TreeBreak fault) cells = ⊥
AreCleanCells (SourceBreak b) cells = ⊥
