use Rattle.std.proofs.Common.{◌∙◌, ◌||◌, map, ap, take}
use Rattle.std.specs.FinMap as finite
use Rattle.std.specs.String.{string_bytes}
use Rattle.out_store.specs.Manifest.{is_listed}
use Rattle.out_store.proofs.Lists.{keys_more, none_more, taken_all, taken_more}
use Rattle.out_store.proofs.manifest.add_listed.Goals as goal

pub loop-path-init : goal.loop-path-init
loop-path-init c q = none_more (finite.contains_key c.args.paths.now q) (map string_bytes c.args.listed.now) q

pub loop-path-preserved : goal.loop-path-preserved
loop-path-preserved c =
    let names = map string_bytes c.args.listed.now in
    let i = c.loop-path.path-index in
    let x = c.path-item.result in
    keys_more c.args.paths.now c.loop-path.paths c.put.new.self (take i names) _ (string_bytes x) tt (taken_more string_bytes c.args.listed.now i x c.loop-path-test.true c.path-item.is)
    (c.in_ok-put.ensures.ok ∙ ap (λ k. finite.insert c.loop-path.paths k tt) c.as_str.ensures.value) c.loop-path.invariant

pub returns : goal.returns
returns c q =
    c.loop-path.invariant q ∙ ap (λ l. finite.contains_key c.args.paths.now q || is_listed l q) (taken_all string_bytes c.args.listed.now c.loop-path.path-index c.loop-path-test.false)
