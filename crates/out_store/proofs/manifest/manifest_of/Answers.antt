use Rattle.std.proofs.Common.{◌∙◌, ◌++◌, map, ap, take}
use Rattle.std.specs.String.{string_bytes}
use Rattle.out_store.specs.Manifest.{manifest_text}
use Rattle.out_store.proofs.Lists.{taken_all, taken_more, text_more, text_none}
use Rattle.out_store.proofs.manifest.manifest_of.Goals as goal

pub loop-path-init : goal.loop-path-init
loop-path-init g c = c.new-text.ensures ∙ text_none (map (λ e. string_bytes e.0) c.args.entries.now)

pub loop-path-preserved : goal.loop-path-preserved
loop-path-preserved g c =
    let i = c.loop-path.path-index in
    let x = c.loop-path-item.result in
    text_more (take i (map (λ e. string_bytes e.0) c.args.entries.now)) _ (string_bytes x.0) c.loop-path.text c.append.new.self c.append-in-loop-path.new.self
    (taken_more (λ e. string_bytes e.0) c.args.entries.now i x c.loop-path-test.true c.loop-path-item.is) c.loop-path.invariant
    (c.in_ok-append.ensures.ok ∙ ap (λ p. c.loop-path.text ++ p) c.as_bytes.ensures.value) c.in_ok-append-2.ensures.ok

pub returns : goal.returns
returns g c = c.loop-path.invariant ∙ ap manifest_text (taken_all (λ e. string_bytes e.0) c.args.entries.now c.loop-path.path-index c.loop-path-test.false)
