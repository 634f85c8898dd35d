use Rattle.std.proofs.Common.{◌≡◌, ◌<◌, [], take, length, true, false, rules, sym, ap, ◌∙◌, subst}
use Rattle.std.specs.Str.{bytes_eq}
use Rattle.std.proofs.lemmas.Option.{slice_get-get_or}
use Rattle.json_span.specs.Flaw.{is_seen}
use Rattle.json_span.specs.inner.Names.{reversed_names}
use Rattle.json_span.proofs.Naming as naming
use Rattle.json_span.proofs.names.is_before.Goals as goal

pub are_same-requires-clause-first : goal.are_same-requires-clause-first
are_same-requires-clause-first c =
    let (es, are) = c.requires.are in
    let lt : c.loop-k.k < length c.args.names.now = search rules in
    let (e, h, is) = naming.are_at c.args.text.now c.args.names.now es c.loop-k.k _ are (slice_get-get_or c.args.names.now c.loop-k.k _ lt) in
    (e, is)

pub are_same-requires-clause-second : goal.are_same-requires-clause-second
are_same-requires-clause-second c =
    let (es, are) = c.requires.are in
    let (e, h, is) = naming.are_at c.args.text.now c.args.names.now es c.args.i _ are (slice_get-get_or c.args.names.now c.args.i _ c.requires.within) in
    (e, is)

pub returns-then-branch : goal.returns-then-branch
returns-then-branch c = λ es e are there.
    let T = c.args.text.now in
    let lt : c.loop-k.k < length c.args.names.now = search rules in
    let (f, hf, is_f) = naming.are_at T c.args.names.now es c.loop-k.k _ are (slice_get-get_or c.args.names.now c.loop-k.k _ lt) in
    let (g, hg, is_g) = naming.are_at T c.args.names.now es c.args.i _ are (slice_get-get_or c.args.names.now c.args.i _ c.requires.within) in
    let same : bytes_eq f.name e.name ≡ true = subst (λ z. bytes_eq f.name z.name ≡ true) (naming.one_entry es c.args.i g e hg there) (sym (c.in_ok-are_same.ensures f g is_f is_g) ∙ c.if-branch.true) in
    sym (naming.seen_before es c.args.i c.loop-k.k f e.name hf c.loop-k-test.true same)

pub loop-k-preserved : goal.loop-k-preserved
loop-k-preserved c = λ es e are there.
    let T = c.args.text.now in
    let lt : c.loop-k.k < length c.args.names.now = search rules in
    let (f, hf, is_f) = naming.are_at T c.args.names.now es c.loop-k.k _ are (slice_get-get_or c.args.names.now c.loop-k.k _ lt) in
    let (g, hg, is_g) = naming.are_at T c.args.names.now es c.args.i _ are (slice_get-get_or c.args.names.now c.args.i _ c.requires.within) in
    let other : bytes_eq f.name e.name ≡ false = subst (λ z. bytes_eq f.name z.name ≡ false) (naming.one_entry es c.args.i g e hg there) (sym (c.in_ok-are_same.ensures f g is_f is_g) ∙ c.if-branch.false) in
    ap (λ z. is_seen z e.name) (naming.names_more es c.loop-k.k f hf) ∙ naming.or_false (bytes_eq f.name e.name) (is_seen (reversed_names (take c.loop-k.k es) []) e.name) other (c.loop-k.invariant es e are there)
