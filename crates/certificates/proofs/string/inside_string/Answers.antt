use Rattle.std.proofs.Common.{rules, ◌∷◌, ◌∙◌, length, length-append, ap, arith}
use Rattle.std.proofs.lemmas.Result.{IfOk-weaker}
use Rattle.std.specs.String.{string_bytes}
use Rattle.certificates.proofs.Finding.{weaker}
use Rattle.certificates.proofs.Strings.{ends_at, no_escape, turned}
use Rattle.certificates.proofs.string.inside_string.Goals as goal

pub loop-plain-init : goal.loop-plain-init
loop-plain-init c = record {
  text = search rules;
  reads = λ s rest f. record { more = s; whole = search rules; spelled = f };
  short = omega arith;
}

pub loop-plain-smaller : goal.loop-plain-smaller
loop-plain-smaller c =
    omega (arith, ap length c.in-Some.ensures.found.0, length-append c.in-Some.plain.now (92 ∷ c.in-Some.escape.now), c.in-Some-behind_backslash.ensures.shorter)

pub loop-plain-preserved : goal.loop-plain-preserved
loop-plain-preserved c = record {
  text = search rules;
  reads = turned c.args.text.now (string_bytes c.loop-plain.characters) c.loop-plain.left.now c.in-Some.plain.now c.in-Some.escape.now
      (string_bytes c.add.new.characters) (string_bytes c.add_one.new.characters) c.in-Some-behind_backslash.meant c.in-Some-behind_backslash.rest.now
      c.loop-plain.invariant.reads c.in-Some.ensures.found.0 c.in-Some.ensures.found.1 c.in-Some.ensures.found.2 c.in_ok-add.ensures c.in-Some-behind_backslash.ensures.found c.in_ok-add_one.ensures;
  short = omega (arith, ap length c.in-Some.ensures.found.0, length-append c.in-Some.plain.now (92 ∷ c.in-Some.escape.now), c.in-Some-behind_backslash.ensures.shorter, c.loop-plain.invariant.short);
}

pub returns-in_default-behind_backslash-clause-found : goal.returns-in_default-behind_backslash-clause-found
returns-in_default-behind_backslash-clause-found c s rest e =
    no_escape c.args.text.now (string_bytes c.loop-plain.characters) c.loop-plain.left.now c.in-Some.plain.now c.in-Some.escape.now s rest
    c.loop-plain.invariant.reads c.in-Some.ensures.found.0 c.in-Some.ensures.found.1 c.in-Some.ensures.found.2 c.in_default-behind_backslash.ensures.found e

pub returns-clause-found : goal.returns-clause-found
returns-clause-found c s rest e =
    let d = ends_at c.args.text.now (string_bytes c.loop-plain.characters) c.loop-plain.left.now s rest c.loop-plain.invariant.reads c.in_default.ensures.none e in
    weaker c.closed.result _ _ (λ r p. (p.0 ∙ d.same, p.1)) (c.closed.ensures.found d.inside rest d.whole d.lacks)

pub returns-clause-left : goal.returns-clause-left
returns-clause-left c = IfOk-weaker c.closed.result _ _ (λ r short. omega (arith, short, c.loop-plain.invariant.short)) c.closed.ensures.left
