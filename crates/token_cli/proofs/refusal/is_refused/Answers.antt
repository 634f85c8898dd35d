use Rattle.std.proofs.Common.{◌∙◌, ap}
use Rattle.std.specs.FinMap as map
use Rattle.std.specs.String.{string_bytes}
use Rattle.token_cli.specs.Headline.{is_refusal}
use Rattle.token_cli.proofs.Refusals.{all_shown, found, none_behind, passed, shown_at}
use Rattle.token_cli.proofs.refusal.is_refused.Goals as goal

pub returns-then-is_refusal : goal.returns-then-is_refusal
returns-then-is_refusal c =
    let es = map.entries c.args.held.now in
    let i = c.loop-path.path-index in
    let x = c.loop-path-item.result in
    let here = shown_at string_bytes c.entries-path-items.result.now es i x c.entries-path-items.ensures c.loop-path-test.true c.loop-path-item.is in
    found es i (string_bytes x.0, x.1) c.is_refusal.result _ here (c.is_refusal.ensures ∙ ap is_refusal c.as_str.ensures.value) c.if-is_refusal.true c.loop-path.invariant

pub loop-path-preserved : goal.loop-path-preserved
loop-path-preserved c =
    let es = map.entries c.args.held.now in
    let i = c.loop-path.path-index in
    let x = c.loop-path-item.result in
    let here = shown_at string_bytes c.entries-path-items.result.now es i x c.entries-path-items.ensures c.loop-path-test.true c.loop-path-item.is in
    passed es i (string_bytes x.0, x.1) c.is_refusal.result _ here (c.is_refusal.ensures ∙ ap is_refusal c.as_str.ensures.value) c.if-is_refusal.false c.loop-path.invariant

pub returns : goal.returns
returns c =
    let es = map.entries c.args.held.now in
    let i = c.loop-path.path-index in
    none_behind es i (all_shown string_bytes c.entries-path-items.result.now es i c.entries-path-items.ensures c.loop-path-test.false) ∙ c.loop-path.invariant
