use Rattle.std.proofs.Common.{get_or, Some, rules, sym, ap, ◌∙◌}
use Rattle.std.proofs.lemmas.Option.{slice_get-get_or}
use Rattle.json_span.proofs.Naming as naming
use Rattle.json_span.proofs.names.flaw_in_pairs.Goals as goal

pub returns-then-branch : goal.returns-then-branch
returns-then-branch c = λ es are.
    let i = c.loop-i.i in
    let (e, h, is) = naming.are_at c.args.text.now c.args.names.now es i (get_or c.args.names.now i naming.no_name) are (slice_get-get_or c.args.names.now i naming.no_name c.loop-i-test.true) in
    ap Some (c.repeated.ensures ∙ naming.told_at c.args.text.now (get_or c.args.names.now i naming.no_name) e is) ∙ naming.flaw_here es i e h (sym (c.in_ok-is_before.ensures es e are h) ∙ c.if-branch.true) (c.loop-i.invariant es are)

pub loop-i-preserved : goal.loop-i-preserved
loop-i-preserved c = λ es are.
    let i = c.loop-i.i in
    let (e, h, is) = naming.are_at c.args.text.now c.args.names.now es i (get_or c.args.names.now i naming.no_name) are (slice_get-get_or c.args.names.now i naming.no_name c.loop-i-test.true) in
    naming.flaw_later es i e h (sym (c.in_ok-is_before.ensures es e are h) ∙ c.if-branch.false) (c.loop-i.invariant es are)

pub returns : goal.returns
returns c = λ es are. naming.no_flaw c.args.text.now c.args.names.now es c.loop-i.i are (search rules) (c.loop-i.invariant es are)
