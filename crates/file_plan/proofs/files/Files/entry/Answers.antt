use Rattle.std.proofs.Common.{List, ℕ, sym, ap, ◌∙◌, option_map}
use Rattle.std.specs.FinMap as map
use Rattle.std.specs.Map.Iter.{deref_pair}
use Rattle.file_plan.proofs.FileMaps.{bytes_at, file_get, entry_shown}
use Rattle.file_plan.proofs.files.Files.entry.Goals as goal

pub returns-in-Some : goal.returns-in-Some
returns-in-Some c =
    ap (λ r. option_map {U = List ℕ × List ℕ} (λ e. (e.0.now, e.1.now)) (option_map deref_pair r)) (sym c.in-Some.is)
    ∙ entry_shown c.get_key_value.result c.args.path.now (map.get c.args.self.now c.args.path.now) c.get_key_value.ensures.same_key
    (ap (option_map bytes_at) c.get_key_value.ensures.value
    ∙ (file_get c.self.inside.texts.entries c.args.path.now ∙ ap (λ m. map.get m c.args.path.now) c.self.view_is))

pub returns-in-None : goal.returns-in-None
returns-in-None c =
    ap (λ r. option_map {U = List ℕ × List ℕ} (λ e. (e.0.now, e.1.now)) (option_map deref_pair r)) (sym c.in-None.is)
    ∙ entry_shown c.get_key_value.result c.args.path.now (map.get c.args.self.now c.args.path.now) c.get_key_value.ensures.same_key
    (ap (option_map bytes_at) c.get_key_value.ensures.value
    ∙ (file_get c.self.inside.texts.entries c.args.path.now ∙ ap (λ m. map.get m c.args.path.now) c.self.view_is))
