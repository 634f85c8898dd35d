use Rattle.std.proofs.Common.{ap, ◌∙◌, fold}
use Rattle.std.proofs.lemmas.List.{take_all}
use Rattle.json_span.specs.inner.NameOrder.{key_of, next_key}
use Rattle.json_span.proofs.names.key_of.Goals as goal

pub returns : goal.returns
unfolding key_of
returns c =
    c.loop-byte.invariant
    ∙ ap (fold next_key 0) (take_all c.loop-byte.byte-index c.as_bytes-byte-items.result.now c.loop-byte-test.false ∙ c.as_bytes-byte-items.ensures.value)
