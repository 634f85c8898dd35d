use Rattle.std.proofs.Common.{◌+◌, drop, sym, ◌∙◌, ap}
use Rattle.android_out.specs.inner.Written.{when_some, words_from}
use Rattle.android_out.proofs.Words.{words_by_bytes, next_byte, last_byte}
use Rattle.android_out.proofs.family.are_words.Goals as goal

pub returns : goal.returns
returns c =
    let t = c.args.text.now in
    sym (words_by_bytes t ∙ c.loop-c.invariant ∙ last_byte c.loop-c.begun t c.loop-c.c-index c.loop-c-test.false)

pub returns-in-None : goal.returns-in-None
returns-in-None c =
    let t = c.args.text.now in
    sym (words_by_bytes t ∙ c.loop-c.invariant ∙ next_byte c.loop-c.begun t c.loop-c.c-index c.loop-c-test.true
    ∙ ap (when_some (λ b. words_from b (drop (c.loop-c.c-index + 1) t))) (sym c.after_byte.ensures ∙ c.in-None.is))
