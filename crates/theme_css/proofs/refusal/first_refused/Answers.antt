use Rattle.std.proofs.Common.{◌∙◌, ℕ, List, ap}
use Rattle.std.specs.Prelude.{Some, option_map}
use Rattle.std.specs.FinMap as finite
use Rattle.std.specs.String.{string_bytes}
use Rattle.theme_css.specs.Themes.{is_refusal}
use Rattle.theme_css.proofs.Refusals.{Entry, all_shown, first_in, found, none_behind, passed, shown_at}
use Rattle.theme_css.proofs.refusal.first_refused.Goals as goal

pub loop-path-preserved : goal.loop-path-preserved
loop-path-preserved c =
    let es = finite.entries c.args.outputs.now in
    let i = c.loop-path.path-index in
    let x = c.loop-path-item.result in
    let here = shown_at string_bytes c.entries-path-items.result.now es i x c.entries-path-items.ensures c.loop-path-test.true c.loop-path-item.is in
    passed es i (string_bytes x.0, x.1) c.is_refusal.result (first_in es) here (c.is_refusal.ensures ∙ ap is_refusal c.as_str.ensures.value) c.if-is_refusal.false c.loop-path.invariant

pub returns-then-is_refusal : goal.returns-then-is_refusal
returns-then-is_refusal c =
    let es = finite.entries c.args.outputs.now in
    let i = c.loop-path.path-index in
    let x = c.loop-path-item.result in
    let here = shown_at string_bytes c.entries-path-items.result.now es i x c.entries-path-items.ensures c.loop-path-test.true c.loop-path-item.is in
    let is = found es i (string_bytes x.0, x.1) c.is_refusal.result (first_in es) here (c.is_refusal.ensures ∙ ap is_refusal c.as_str.ensures.value) c.if-is_refusal.true c.loop-path.invariant in
    ap (λ (p : List ℕ). Some p) c.as_str-then-is_refusal.ensures.value ∙ ap (option_map (λ (e : Entry). e.0)) is

pub returns : goal.returns
returns c =
    let es = finite.entries c.args.outputs.now in
    let i = c.loop-path.path-index in
    ap (option_map (λ (e : Entry). e.0)) (none_behind es i (all_shown string_bytes c.entries-path-items.result.now es i c.entries-path-items.ensures c.loop-path-test.false) ∙ c.loop-path.invariant)
