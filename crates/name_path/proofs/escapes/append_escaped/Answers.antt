use Rattle.std.proofs.Common.{ℕ, List, ◌++◌, sym, ap, ◌∙◌, subst, All, ◌≢◌}
use Rattle.std.proofs.lemmas.Result.{on_ok_weaker}
use Rattle.name_path.proofs.Escaping.{spells_itself}
use Rattle.name_path.proofs.escapes.append_escaped.Goals as goal

pub returns-then-is_plain-clause-ok : goal.returns-then-is_plain-clause-ok
returns-then-is_plain-clause-ok c =
    let plain : All (λ b. (b ≢ 126) × (b ≢ 47)) c.args.step.now = subst (All (λ b. (b ≢ 126) × (b ≢ 47))) c.as_bytes-bytes.ensures.value (c.is_plain.ensures.0 c.if-is_plain.true) in
    on_ok_weaker c.append.result (λ e. e ∙ ap (λ (z : List ℕ). c.args.out.now ++ z) (c.as_bytes-bytes.ensures.value ∙ sym (spells_itself c.args.step.now (λ k d less. (plain k d less).1) (λ k d less. (plain k d less).0)))) c.append.ensures.ok
