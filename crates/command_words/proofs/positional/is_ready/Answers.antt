use Rattle.std.proofs.Common.{◌≡◌, ◌∷◌, true, false, nat_le, length, string_bytes, ap, sym, ◌∙◌, refl, rules}
use Rattle.command_words.specs.inner.ClapWords.{is_known}
use Rattle.command_words.proofs.PositionalWords.{ready_cons}
use Rattle.command_words.proofs.positional.is_ready.Goals as goal

pub returns-then-not-are_positional : goal.returns-then-not-are_positional
returns-then-not-are_positional c =
    let known : is_known (string_bytes c.in-Some.first.now) ≡ true = sym (ap is_known c.as_str.ensures.value) ∙ (sym c.is_known.ensures ∙ c.if-not-is_known.false) in
    let e : c.args.words.now ≡ c.in-Some.first.now ∷ c.in-Some.rest.now = search rules in
    sym (ready_cons c.args.words.now c.in-Some.first.now c.in-Some.rest.now true false (nat_le (length c.in-Some.rest.now) 3) e known (sym c.are_positional.ensures ∙ c.if-not-are_positional.true) refl)

pub returns-else-not-are_positional : goal.returns-else-not-are_positional
returns-else-not-are_positional c =
    let known : is_known (string_bytes c.in-Some.first.now) ≡ true = sym (ap is_known c.as_str.ensures.value) ∙ (sym c.is_known.ensures ∙ c.if-not-is_known.false) in
    let e : c.args.words.now ≡ c.in-Some.first.now ∷ c.in-Some.rest.now = search rules in
    sym (ready_cons c.args.words.now c.in-Some.first.now c.in-Some.rest.now true true (nat_le (length c.in-Some.rest.now) 3) e known (sym c.are_positional.ensures ∙ c.if-not-are_positional.false) refl)
