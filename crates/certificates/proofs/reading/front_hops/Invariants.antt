use Rattle.std.proofs.Common.{length}
use Rattle.std.specs.List.{AllByRecursion}
use denote.Shadow.{shadow}
use denote.Text.{Utf8}
use Rattle.certificates.specs.Certificate.{HopFits}
use Rattle.certificates.proofs.Lines.{AreReadTo}
use Rattle.certificates.proofs.reading.front_hops.Given as goal

-- what was read and what is left
abbrev pub invariant-loop-words : goal.invariant-loop-words
invariant-loop-words l = record {
  text : shadow (Utf8 l.left);
  reads : AreReadTo l.text l.hops l.left;
  fits : AllByRecursion HopFits l.hops;
}

abbrev pub decreases-loop-words : goal.decreases-loop-words
decreases-loop-words l = length l.left
