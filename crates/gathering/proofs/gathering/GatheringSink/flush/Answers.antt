use Rattle.std.proofs.Common.{◌≡◌, ◌∙◌, ◌+◌, ◌-◌, List, ℕ, length, take, drop, arith, length-drop, subst, ap}
use Rattle.std.proofs.KnownBytes.{Keeps-trans}
use Rattle.std.proofs.lemmas.List.{take_rest}
use Rattle.std.specs.Io.KnownBytes.{Appends, append_known}
use Rattle.gathering.proofs.Gathered.{grew_more, handed}
use Rattle.gathering.proofs.gathering.GatheringSink.flush.Goals as goal

pub loop-self-preserved : goal.loop-self-preserved
loop-self-preserved g c =
    let held = c.loop-self.self-inside.held in
    let h = c.loop-self.self-inside.handed in
    let n = c.in_ok-count.count in
    let written = g.K.Sink.written in
    let before = written c.loop-self.self-inside.inner in
    let after = written c.write.new.self in
    let first = written c.self.inside.inner in
    let (within, (grew, (faults, (same, still)))) = c.loop-self.invariant in
    let rest : take (length c.as_slice.result.now - h) (drop h c.as_slice.result.now) ≡ drop h held =
    ap (λ (l : List ℕ). take (length l - h) (drop h l)) c.as_slice.ensures ∙ take_rest held h in
    let more = subst (λ (l : List ℕ). Appends before after (take n l)) rest c.in_ok-count.ensures.bytes in (
      omega (arith, within, c.in_ok-count.ensures.bound, length-drop h held, ap (λ (l : List ℕ). length l) rest),
      (
        grew_more g.B.Start.written before after (take n (drop h held)) grew more,
        (
          omega (arith, faults, c.in_ok-count.ensures.cause.kept),
          (
            Keeps-trans (append_known first (drop c.self.inside.handed c.self.inside.held)) (append_known before (drop h held)) (append_known after (drop (h + n) held)) same (handed before after h n held more),
            c.in_ok-count.ensures.cause.kept ∙ still,
          ),
        ),
      ),
    )
