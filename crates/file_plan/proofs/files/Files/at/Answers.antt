use Rattle.std.proofs.Common.{sym, ap, ◌∙◌, option_map}
use Rattle.std.specs.FinMap as map
use Rattle.std.specs.List.{slice_get}
use Rattle.std.specs.Map.Iter.{deref_pair}
use Rattle.std.proofs.lemmas.Iterator.Consumers.{nth_from_yields_List, YieldsList-from_rest}
use Rattle.file_plan.proofs.FileMaps.{file_at}
use Rattle.file_plan.proofs.files.Files.at.Goals as goal

pub returns-in-Some : goal.returns-in-Some
returns-in-Some c =
    let es = c.self.inside.texts.entries in
    let found = nth_from_yields_List c.nth.result c.nth.new.self c.args.i c.nth.ensures.ran (YieldsList-from_rest {shows = deref_pair} es c.iter.ensures.rest) in
    ap (λ r. option_map (λ e. (e.0.now, e.1.now)) r) (ap (option_map deref_pair) (sym c.in-Some.is) ∙ found)
    ∙ (file_at es c.iter.ensures.ordered c.args.i
    ∙ ap (λ m. slice_get (map.entries m) c.args.i) c.self.view_is)

pub returns-in-None : goal.returns-in-None
returns-in-None c =
    let es = c.self.inside.texts.entries in
    let found = nth_from_yields_List c.nth.result c.nth.new.self c.args.i c.nth.ensures.ran (YieldsList-from_rest {shows = deref_pair} es c.iter.ensures.rest) in
    ap (λ r. option_map (λ e. (e.0.now, e.1.now)) r) (ap (option_map deref_pair) (sym c.in-None.is) ∙ found)
    ∙ (file_at es c.iter.ensures.ordered c.args.i
    ∙ ap (λ m. slice_get (map.entries m) c.args.i) c.self.view_is)
