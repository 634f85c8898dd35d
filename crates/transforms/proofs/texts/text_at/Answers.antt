use Rattle.std.proofs.Common.{ℕ, List, Some, sym, ap, ap₂, ◌∙◌, arith}
use Rattle.std.specs.List.{slice_range}
use Rattle.transforms.proofs.TextEnds.{end_within, text_between, no_text}
use Rattle.transforms.proofs.texts.text_at.Goals as goal

pub between-requires-clause-order : goal.between-requires-clause-order
between-requires-clause-order c =
    omega (arith, c.start_of.ensures, c.in-Some.ensures.lookup.3.1 0, (end_within 0 c.args.ends.now _ c.args.i c.requires c.in-Some.ensures.lookup.3.0).0)

pub between-requires-clause-fits : goal.between-requires-clause-fits
between-requires-clause-fits c =
    omega (arith, c.in-Some.ensures.lookup.3.1 0, (end_within 0 c.args.ends.now _ c.args.i c.requires c.in-Some.ensures.lookup.3.0).1)

pub returns-in-Some : goal.returns-in-Some
returns-in-Some c =
    ap (λ (t : List ℕ). Some t) (c.between.ensures ∙ ap₂ (λ start end. slice_range c.args.bytes.now start end) c.start_of.ensures (c.in-Some.ensures.lookup.3.1 0))
    ∙ sym (text_between 0 c.args.ends.now c.args.bytes.now c.args.i c.in-Some.ensures.lookup.3.0)

pub returns-in-None : goal.returns-in-None
returns-in-None c = sym (no_text 0 c.args.ends.now c.args.bytes.now c.args.i c.in-None.ensures.lookup.3)
