use Rattle.std.proofs.Common.{sym, ap, ◌∙◌, codes}
use Rattle.std.specs.Prelude.{if◌then◌else◌}
use Rattle.std.specs.Option.{option_copied}
use Rattle.std.specs.Str.{bytes_eq}
use Rattle.alias_ref.specs.Written.{of_ref, of_value}
use Rattle.explain.proofs.PlacesWritten.{role_is}
use Rattle.explain.proofs.saying.role_of.Goals as goal

pub returns-then-eq : goal.returns-then-eq
returns-then-eq c =
    let e = role_is c.args.by_ref c.args.steps.now c.in-Some.last.now (sym c.last.ensures.value ∙ ap option_copied c.in-Some.is) in
    let same = ap (λ s. bytes_eq s (codes "$ref")) (sym c.as_str.ensures) ∙ sym c.eq.ensures ∙ c.if-eq.true in
    sym (e ∙ ap (λ b. if b then of_ref else of_value) same)

pub returns-else-eq : goal.returns-else-eq
returns-else-eq c =
    let e = role_is c.args.by_ref c.args.steps.now c.in-Some.last.now (sym c.last.ensures.value ∙ ap option_copied c.in-Some.is) in
    let same = ap (λ s. bytes_eq s (codes "$ref")) (sym c.as_str.ensures) ∙ sym c.eq.ensures ∙ c.if-eq.false in
    sym (e ∙ ap (λ b. if b then of_ref else of_value) same)
