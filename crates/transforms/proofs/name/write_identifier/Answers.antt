use Rattle.std.proofs.Common.{◌≡◌, ◌++◌, ◌∷◌, true, ap, sym, ◌∙◌, subst}
use Rattle.transforms.specs.PlatformName.{joined, is_identifier, begins_with_digit}
use Rattle.transforms.proofs.Spelled.{joined_is_kept, is_identifier_behind, is_identifier_alone}
use Rattle.transforms.proofs.name.write_identifier.Goals as goal

pub returns-then-begins_with_digit-clause-named : goal.returns-then-begins_with_digit-clause-named
returns-then-begins_with_digit-clause-named c e prefix token =
    let p = c.args.platform in
    let name = joined p c.args.prefix.now c.args.path.now in
    let is = c.in_ok-append_joined.ensures.joined ∙ ap (λ text. text ++ name) c.truncate.ensures in
    subst (λ text. is_identifier text ≡ true) (sym (c.in_ok-marked.ensures ∙ ap (λ text. 95 ∷ text) (c.as_slice-then-begins_with_digit.ensures ∙ is)))
    (is_identifier_behind p name e (joined_is_kept p c.args.prefix.now c.args.path.now prefix))

pub returns-clause-named : goal.returns-clause-named
returns-clause-named c e prefix token =
    let p = c.args.platform in
    let name = joined p c.args.prefix.now c.args.path.now in
    let is : c.append_joined.new.out ≡ name = c.in_ok-append_joined.ensures.joined ∙ ap (λ text. text ++ name) c.truncate.ensures in
    let digit = ap begins_with_digit (sym (c.as_slice.ensures ∙ is)) ∙ (sym c.begins_with_digit.ensures ∙ c.if-begins_with_digit.false) in
    subst (λ text. is_identifier text ≡ true) (sym is)
    (is_identifier_alone p name e digit (c.in_ok-append_joined.ensures.some token) (joined_is_kept p c.args.prefix.now c.args.path.now prefix))
