use Rattle.std.proofs.Common.{rules, ◌≡◌, ◌<◌, ◌^◌, false, length, subst, arith}
use Rattle.json_span.specs.PlainView.{plain_view}
use Rattle.json_span.specs.View.{ref_view}
use Rattle.alias_ref.specs.inner.Literals.{IsLiteral}
use Rattle.alias_ref.proofs.SoundValues.{sound_definition}
use Rattle.alias_ref.proofs.literal.literal.Goals as goal

pub returns-in-Ok : goal.returns-in-Ok
returns-in-Ok c =
    let d = c.args.def.now in
    let view : ref_view c.as_ref.result ≡ d.value = search rules in
    let few : length d.source < 2 ^ 64 = search (rules, arith) in
    let own : d.by_ref ≡ false = search rules in
    record {
      own = own;
      literal = subst (λ n. IsLiteral c.args.values.now n (plain_view c.in-Ok.plain) c.literal_value.new.values) view c.in-Ok.ensures;
      sound = sound_definition d c.keeps.ensures few;
    }
