use Rattle.std.proofs.Common.{◌∙◌, ◌||◌, ◌+◌, ◌++◌, ◌∷◌, [], map as map_list, ap, sym, take}
use Rattle.std.specs.FinMap as finite
use Rattle.std.specs.String.{string_bytes}
use Rattle.out_store.specs.Manifest.{is_listed}
use Rattle.out_store.proofs.Keys.{keys_of_entries, listed_key}
use Rattle.out_store.proofs.Lists.{keys_more, none_more, taken_all, taken_more}
use Rattle.out_store.proofs.manifest.add_outputs.Goals as goal

pub loop-path-init : goal.loop-path-init
loop-path-init c q = none_more (finite.contains_key c.args.paths.now q) (finite.keys c.args.outputs.now) q

pub loop-path-preserved : goal.loop-path-preserved
loop-path-preserved c =
    let es = c.entries-path-items.result.now in
    let keys = keys_of_entries es ∙ ap (map_list (λ e. e.0)) c.entries-path-items.ensures in
    let i = c.loop-path.path-index in
    let x = c.loop-path-item.result in
    keys_more c.args.paths.now c.loop-path.paths c.put.new.self (take i (finite.keys c.args.outputs.now)) _ (string_bytes x.0) tt
    (ap (take (i + 1)) (sym keys) ∙ (taken_more (λ e. string_bytes e.0) es i x c.loop-path-test.true c.loop-path-item.is ∙ ap (λ l. take i l ++ string_bytes x.0 ∷ []) keys))
    (c.in_ok-put.ensures.ok ∙ ap (λ k. finite.insert c.loop-path.paths k tt) c.as_str.ensures.value) c.loop-path.invariant

pub returns : goal.returns
returns c q =
    let es = c.entries-path-items.result.now in
    let keys = keys_of_entries es ∙ ap (map_list (λ e. e.0)) c.entries-path-items.ensures in
    let all = ap (take c.loop-path.path-index) (sym keys) ∙ (taken_all (λ e. string_bytes e.0) es c.loop-path.path-index c.loop-path-test.false ∙ keys) in
    c.loop-path.invariant q ∙ (ap (λ l. finite.contains_key c.args.paths.now q || is_listed l q) all ∙ ap (λ b. finite.contains_key c.args.paths.now q || b) (sym (listed_key c.args.outputs.now q)))
