use Rattle.std.proofs.Common.{◌≡◌, take, fold}
use Rattle.json_span.specs.inner.NameOrder.{next_key}
use Rattle.json_span.proofs.names.key_of.Given as goal

-- the key of the bytes so far
abbrev pub invariant-loop-byte : goal.invariant-loop-byte
invariant-loop-byte l = l.key ≡ fold next_key 0 (take l.byte-index l.byte-items)
