use Rattle.std.proofs.Common.{◌≡◌, ◌∙◌, List, ℕ, Option, ap, subst, sym}
use Rattle.std.specs.Io.KnownBytes.{Keeps, append_known}
use Rattle.token_cli.specs.Course.{course}
use Rattle.token_cli.specs.Headline.{asked_by}
use Rattle.token_cli.specs.inner.Ending.{Ends}
use Rattle.token_cli.specs.inner.Gathered.{HandsOn}
use Rattle.token_cli.proofs.Fronts.{known_nil}
use Rattle.token_cli.proofs.HandedOn.{ends_so}
use Rattle.token_cli.proofs.gathered.gathered_job.Goals as goal

pub returns-clause-ends : goal.returns-clause-ends
returns-clause-ends g c =
    let written = g.K.Sink.written in
    let faults = g.K.Sink.faults in
    let job = c.main_job-job in
    let hand = c.handed_on-ended in
    let command = asked_by c.args.words.now in
    let left = g.S.Source.left c.args.src.now in
    let rest = g.S.Source.left job.new.src in
    let reads = g.S.Source.faults c.args.src.now in
    let reads_now = g.S.Source.faults job.new.src in
    let given = append_known (written job.new.out.0) job.new.out.1 in
    let mid = faults job.new.out.0 in
    let empty : append_known (written c.new-gathering.result.0) c.new-gathering.result.1 ≡ g.B.Start.written =
    ap (λ (s : g.row.K.Denot × List ℕ). append_known (written s.0) s.1) c.new-gathering.ensures ∙ known_nil (written c.args.out) ∙ c.requires.written in
    let first : faults c.new-gathering.result.0 ≡ g.B.Start.faults = ap (λ (s : g.row.K.Denot × List ℕ). faults s.0) c.new-gathering.ensures ∙ c.requires.faults in
    let ends =
    subst (λ (n : ℕ). Ends job.result command (course left rest reads reads_now g.B.Start.written given n mid)) first
    (subst (λ (o : Option (List ℕ)). Ends job.result command (course left rest reads reads_now o given (faults c.new-gathering.result.0) mid)) empty job.ensures.ends) in
    let held = hand.new.out.1 in
    let last = written c.into_inner.result in
    let back = sym c.into_inner.ensures.behind in
    let kept = subst (λ (k : g.row.K.Denot). Keeps given (append_known (written k) held)) back hand.ensures.kept in
    let hands = subst (λ (k : g.row.K.Denot). HandsOn job.result hand.result held g.B.Start.faults mid (faults k)) back hand.ensures.hands in
    ends_so left rest reads reads_now g.B.Start.written given last held g.B.Start.faults mid (faults c.into_inner.result) (c.into_inner.ensures.grew.0, kept)
    command job.result hand.result hands ends
    (λ none. let (which, same, unwritten) = job.ensures.words none in (which, unwritten ∙ empty))
