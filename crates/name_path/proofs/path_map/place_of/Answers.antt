use Rattle.std.proofs.Common.{sym, ◌∙◌, arith}
use Rattle.tk_io.proofs.SortedEntries.{above_last, is_less}
use Rattle.name_path.proofs.PathMaps.{names_total}
use Rattle.name_path.proofs.path_map.place_of.Goals as goal

pub returns-then-is_lt : goal.returns-then-is_lt
returns-then-is_lt g c =
    (omega (arith), above_last names_total (λ e. e.0) (λ e. e.1) c.args.path.now c.args.entries.now c.in-Some.last.now c.requires c.in-Some.ensures.value (sym c.cmp.ensures ∙ is_less c.cmp.result (sym c.if-is_lt.ensures)))
