use Rattle.std.proofs.Common.{◌<◌, ap, ◌∙◌, subst, length}
use Rattle.transforms.specs.PlatformName.{without_root}
use Rattle.transforms.specs.inner.Joined.{joined_names, HasFirst}
use Rattle.transforms.proofs.Spelled.{joined_is_some}
use Rattle.transforms.proofs.name.append_joined.Goals as goal

pub returns-then-is_empty-clause-some : goal.returns-then-is_empty-clause-some
returns-then-is_empty-clause-some c =
    joined_is_some c.args.platform c.args.prefix.now c.args.path.now
    (subst (λ names. HasFirst names → 0 < length (joined_names c.args.platform names)) (c.own_names-names.ensures ∙ ap without_root c.as_slice.ensures) c.in_ok-append_names.ensures.some)
