use Rattle.std.proofs.Common.{◌≡◌, false, drop}
use Rattle.android_out.specs.inner.Written.{words_from}
use Rattle.android_out.proofs.family.are_words.Given as goal

abbrev pub invariant-loop-c : goal.invariant-loop-c
invariant-loop-c l = words_from false l.text ≡ words_from l.begun (drop l.c-index l.text)
