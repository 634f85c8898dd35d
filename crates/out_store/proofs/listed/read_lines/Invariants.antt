-- The paths so far, and what is left.
use denote.Text.{Utf8}
use denote.Shadow.{shadow}
use Rattle.std.proofs.Common.{length, map}
use Rattle.std.specs.String.{string_bytes}
use Rattle.out_store.proofs.Lines.{IsReadTo}
use Rattle.out_store.proofs.listed.read_lines.Given as goal

abbrev pub invariant-loop-last : goal.invariant-loop-last
invariant-loop-last l = shadow (Utf8 l.rest) × shadow (Utf8 l.last) × IsReadTo l.text (map string_bytes l.paths.items) l.last l.rest

abbrev pub decreases-loop-last : goal.decreases-loop-last
decreases-loop-last l = length l.rest
