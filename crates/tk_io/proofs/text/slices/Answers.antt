use Rattle.std.proofs.Common.{◌==◌, ◌∙◌, rules}
use Rattle.std.specs.List.{slice_split}
use Rattle.std.proofs.lemmas.List.{map-id}
use Rattle.std.proofs.lemmas.Iterator.{YieldsList-from_map, items_from_collect}
use Rattle.std.proofs.lemmas.Iterator.Consumers.{YieldsList-at}
use Rattle.std.proofs.lemmas.Iterator.Splits.{YieldsList-from_str_split}
use Rattle.std.proofs.lemmas.Result.{IfOk-at_ok}
use Rattle.tk_io.proofs.text.slices.Goals as goal

pub returns : goal.returns
returns c =
    IfOk-at_ok _ c.in_ok-pieces.was
    (items_from_collect c.collect.result c.collect.ensures.ran
    (YieldsList-from_map _ (λ b. b)
    (YieldsList-at c.map.ensures.source (YieldsList-from_str_split c.args.at c.args.text.now c.requires c.split.ensures.text c.split.ensures.has_more c.split.ensures.pattern))
    c.map.ensures.closure (λ x r q k. search rules)))
    ∙ map-id (slice_split (λ b. b == c.args.at) c.args.text.now)
