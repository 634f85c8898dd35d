use Rattle.std.proofs.Common.{◌≡◌, ◌≢◌, ℕ, List, ◌++◌, ◌∷◌, ◌+◌, ◌<◌, length, sym, ap, ◌∙◌, arith, rules, length-append}
use Rattle.std.specs.String.{string_bytes}
use Rattle.name_path.specs.Reference.{escaped_step}
use Rattle.name_path.proofs.Escaping.{spells_itself, escaped_append}
use Rattle.name_path.proofs.Steps.{no_step, escape_read, all_front, all_back}
use Rattle.name_path.proofs.escapes.unescaped.Goals as goal

pub returns-in_default-behind_tilde-clause-bad : goal.returns-in_default-behind_tilde-clause-bad
returns-in_default-behind_tilde-clause-bad c = λ _ other e.
    no_step c.args.segment.now (string_bytes c.loop-plain.step) c.loop-plain.left.now c.in-Some.plain.now c.in-Some.behind.now
    c.loop-plain.invariant.whole c.in-Some.ensures.0 (all_front (λ b. b ≢ 47) c.in-Some.plain.now (126 ∷ c.in-Some.behind.now) c.loop-plain.left.now c.in-Some.ensures.0 c.loop-plain.invariant.plain) c.in-Some.ensures.1
    c.in_default-behind_tilde.ensures.none other e

pub loop-plain-smaller : goal.loop-plain-smaller
loop-plain-smaller c =
    let cut : length c.loop-plain.left.now ≡ length c.in-Some.plain.now + length (126 ∷ c.in-Some.behind.now) = ap length c.in-Some.ensures.0 ∙ length-append c.in-Some.plain.now (126 ∷ c.in-Some.behind.now) in
    let shorter : length c.in-Some-behind_tilde.rest.now < length c.loop-plain.left.now = omega (arith, cut, c.in-Some-behind_tilde.ensures.shorter) in
    shorter

pub loop-plain-preserved : goal.loop-plain-preserved
loop-plain-preserved c =
    let no_slash = all_front (λ b. b ≢ 47) c.in-Some.plain.now (126 ∷ c.in-Some.behind.now) c.loop-plain.left.now c.in-Some.ensures.0 c.loop-plain.invariant.plain in
    record {
      text = search rules;
      whole = escape_read c.args.segment.now (string_bytes c.loop-plain.step) c.loop-plain.left.now c.in-Some.plain.now c.in-Some.behind.now
          (string_bytes c.add.new.step) (string_bytes c.add-in-Some.new.step) c.in-Some-behind_tilde.meant.now c.in-Some-behind_tilde.rest.now
          c.loop-plain.invariant.whole c.in-Some.ensures.0 no_slash c.in-Some.ensures.1 c.in-Some-behind_tilde.ensures.some c.in_ok-add.ensures c.in_ok-add-2.ensures;
      plain = all_back (λ b. b ≢ 47) (escaped_step c.in-Some-behind_tilde.meant.now) c.in-Some-behind_tilde.rest.now (126 ∷ c.in-Some.behind.now) c.in-Some-behind_tilde.ensures.some
          (all_back (λ b. b ≢ 47) c.in-Some.plain.now (126 ∷ c.in-Some.behind.now) c.loop-plain.left.now c.in-Some.ensures.0 c.loop-plain.invariant.plain);
    }

pub returns-clause-step : goal.returns-clause-step
returns-clause-step c =
    sym (ap escaped_step c.in_ok-add-3.ensures
    ∙ (escaped_append (string_bytes c.loop-plain.step) c.loop-plain.left.now
    ∙ (ap (λ (z : List ℕ). escaped_step (string_bytes c.loop-plain.step) ++ z) (spells_itself c.loop-plain.left.now c.loop-plain.invariant.plain c.in_default.ensures)
    ∙ c.loop-plain.invariant.whole)))
