use Rattle.std.proofs.Common.{◌≡◌, true, subst}
use Rattle.transforms.specs.PlatformName.{is_property, is_identifier}
use Rattle.token_cells.proofs.drafts.Drafts.write_names.Goals as goal

pub returns-clause-property : goal.returns-clause-property
returns-clause-property c =
    let named = c.in_ok-write_name.ensures in
    (named.is, λ token. subst (λ n. is_property n ≡ true) named.is (named.named token))

pub returns-clause-identifier : goal.returns-clause-identifier
returns-clause-identifier c =
    let named = c.in_ok-write_name-2.ensures in
    (named.is, λ token. subst (λ n. is_identifier n ≡ true) named.is (named.named token))
