use Rattle.std.proofs.Common.{[], length, ap, ◌∙◌}
use Rattle.std.specs.FinMap as map
use Rattle.tk_io.specs.Order.{text_cmp}
use Rattle.token_tree.proofs.tree.Members.new.Goals as goal

pub returns : goal.returns
returns c = map.empty_of_len (map.from_sorted []) (map.len-entries (map.from_sorted []) ∙ ap length (map.entries-from_sorted text_cmp [] tt))
