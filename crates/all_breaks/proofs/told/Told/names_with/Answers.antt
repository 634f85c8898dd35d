use Rattle.std.proofs.Common.{◌≡◌, ◌∙◌, [], ap, sym}
use Rattle.std.proofs.lemmas.Result.{IfOk-weaker}
use Rattle.std.specs.Option.{option_copied}
use Rattle.all_breaks.specs.Told.{names_of, with_name}
use Rattle.all_breaks.proofs.Entries.{no_names, some_names}
use Rattle.all_breaks.proofs.told.Told.names_with.Goals as goal

pub returns-in-Some : goal.returns-in-Some
returns-in-Some c =
    let text = c.args.text.now in
    let there = some_names c.self.inside.breaks.entries text c.in-Some.names.now (sym c.get.ensures.value ∙ ap option_copied c.in-Some.is) in
    IfOk-weaker c.with_name.result _ (λ names. names ≡ with_name (names_of c.args.self.now text) c.args.name.now)
    (λ names is. is ∙ ap (λ ns. with_name ns c.args.name.now) (c.as_slice.ensures ∙ (sym there ∙ ap (λ told. names_of told text) c.self.view_is))) c.with_name.ensures

pub returns-in-None : goal.returns-in-None
returns-in-None c =
    let text = c.args.text.now in
    let none = no_names c.self.inside.breaks.entries text (sym c.get.ensures.value ∙ ap option_copied c.in-None.is) in
    IfOk-weaker c.one_name.result _ (λ names. names ≡ with_name (names_of c.args.self.now text) c.args.name.now)
    (λ names is. is ∙ ap (λ ns. with_name ns c.args.name.now) (sym none ∙ ap (λ told. names_of told text) c.self.view_is)) c.one_name.ensures
