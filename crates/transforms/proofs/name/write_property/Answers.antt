use Rattle.std.proofs.Common.{◌≡◌, ◌++◌, true, subst, sym, ap, ◌∙◌, codes}
use Rattle.transforms.specs.PlatformName.{joined, is_property}
use Rattle.transforms.specs.declared.platform.Platform.TheVariants.{Css}
use Rattle.transforms.proofs.Spelled.{joined_is_kept, is_property_behind}
use Rattle.transforms.proofs.name.write_property.Goals as goal

pub returns-clause-named : goal.returns-clause-named
returns-clause-named c prefix token =
    let name = joined Css c.args.prefix.now c.args.path.now in
    let is : c.append_joined.new.out ≡ codes "--" ++ name =
    c.in_ok-append_joined.ensures.joined ∙ ap (λ text. text ++ name) (c.in_ok-append.ensures.ok ∙ ap (λ text. text ++ codes "--") c.truncate.ensures) in
    subst (λ text. is_property text ≡ true) (sym is)
    (is_property_behind name (c.in_ok-append_joined.ensures.some token) (joined_is_kept Css c.args.prefix.now c.args.path.now prefix))
