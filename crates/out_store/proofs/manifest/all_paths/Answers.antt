use Rattle.std.proofs.Common.{◌∙◌, ◌||◌, map, ap, is_some}
use Rattle.std.specs.FinMap as finite
use Rattle.std.specs.String.{string_bytes}
use Rattle.tk_io.specs.Order.{text_cmp}
use Rattle.out_store.specs.Manifest.{is_listed}
use Rattle.out_store.proofs.manifest.all_paths.Goals as goal

pub returns : goal.returns
returns c q =
    let names = map string_bytes c.args.listed.now in
    let none = ap (λ m. finite.contains_key m q) c.new-paths.ensures ∙ ap is_some (finite.get-empty text_cmp q) in
    c.in_ok-add_outputs.ensures q
    ∙ ap (λ b. b || finite.contains_key c.args.outputs.now q) (c.in_ok-add_listed.ensures q ∙ ap (λ b. b || is_listed names q) none)
