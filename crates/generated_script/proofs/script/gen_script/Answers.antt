use Rattle.std.proofs.Common.{◌≡◌, ◌∙◌, ◌++◌, ap, rules}
use Rattle.edit_script.specs.Script.{header}
use Rattle.edit_script.specs.declared.version.Version.TheVariants.{First}
use Rattle.generated_script.specs.Script.{script_of}
use Rattle.generated_script.proofs.AppendsRegroup.{whole}
use Rattle.generated_script.proofs.script.gen_script.Goals as goal

pub returns : goal.returns
returns c =
    let seed : c.from-seed.result ≡ c.args.seed = search rules in
    let size : c.from-size.result ≡ c.args.size = search rules in
    whole c.from-seed.result c.from-size.result c.append.new.self c.add_first.new.out c.add_edits.new.out
    (c.in_ok-append.ensures.ok ∙ ap (λ t. t ++ header First) c.new-script.ensures) c.in_ok-add_first.ensures c.in_ok-add_edits.ensures
    ∙ λ i. script_of (seed i) (size i)
