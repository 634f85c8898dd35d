use Rattle.std.proofs.Common.{◌++◌, ◌∷◌, append_assoc, ap, sym, ◌∙◌, subst, ◌<◌, length}
use Rattle.std.specs.List.{flat_map}
use Rattle.transforms.specs.PlatformName.{joint, spelled}
use Rattle.transforms.specs.inner.Joined.{joined_names}
use Rattle.transforms.proofs.Spelled.{first_joined, root_joined, root_is_some, nothing}
use Rattle.transforms.proofs.name.append_names.Goals as goal

pub returns-in_default-clause-joined : goal.returns-in_default-clause-joined
returns-in_default-clause-joined c =
    c.in_ok-append.ensures.ok ∙ ap (λ text. c.args.out.now ++ text) (sym (ap (joined_names c.args.platform) (nothing c.args.names.now c.in_default.ensures.cases) ∙ root_joined c.args.platform))

pub returns-in_default-clause-some : goal.returns-in_default-clause-some
returns-in_default-clause-some c _ =
    subst (λ names. 0 < length (joined_names c.args.platform names)) (sym (nothing c.args.names.now c.in_default.ensures.cases)) (root_is_some c.args.platform)

pub returns-clause-joined : goal.returns-clause-joined
returns-clause-joined c =
    let p = c.args.platform in
    let first = c.in-Some.first.now in
    let more = flat_map (λ name. joint p ∷ spelled p name) c.in-Some.rest.now in
    c.in_ok-append_behind_joints.ensures
    ∙ (ap (λ out. out ++ more) (c.in_ok-append_name.ensures.spelled ∙ ap (λ name. c.args.out.now ++ spelled p name) c.as_str.ensures)
    ∙ (append_assoc c.args.out.now (spelled p first) more
    ∙ ap (λ text. c.args.out.now ++ text) (sym (first_joined p first c.in-Some.rest.now) ∙ ap (joined_names p) (sym c.in-Some.ensures.cases.0))))
