use Rattle.std.proofs.Common.{◌∙◌, ◌++◌, codes, ap}
use Rattle.edit_script.specs.Script.{commit, event_text, put}
use Rattle.generated_script.specs.Script.{put_core, resolver_text}
use Rattle.generated_script.proofs.AppendsRegroup.{seven}
use Rattle.generated_script.proofs.events.add_first.Goals as goal

pub returns : goal.returns
returns c =
    let resolver = c.in_ok-add_put.ensures
    ∙ ap (λ text. c.args.out.now ++ event_text (put (codes "resolver.json") text)) (c.as_bytes.ensures.value ∙ c.resolver_text.ensures) in
    seven event_text
    (put (codes "resolver.json") resolver_text)
    (put_core c.args.seed c.args.size 0)
    (put (codes "light.json") (codes "{\"theme\":{\"$type\":\"number\",\"$value\":1}}"))
    (put (codes "dark.json") (codes "{\"theme\":{\"$type\":\"number\",\"$value\":2}}"))
    (put (codes "cozy.json") (codes "{\"dens\":{\"$type\":\"number\",\"$value\":1}}"))
    (put (codes "compact.json") (codes "{\"dens\":{\"$type\":\"number\",\"$value\":2}}"))
    commit
    c.args.out.now c.add_put.new.out c.add_core.new.out c.add_put-2.new.out c.add_put-3.new.out c.add_put-4.new.out c.add_put-5.new.out c.add_commit.new.out
    resolver c.in_ok-add_core.ensures c.in_ok-add_put-2.ensures c.in_ok-add_put-3.ensures c.in_ok-add_put-4.ensures c.in_ok-add_put-5.ensures c.in_ok-add_commit.ensures
