use Rattle.std.proofs.Common.{◌≡◌, refl, sym, ap, subst, ◌∙◌}
use Rattle.json_span.specs.View.{ref_view, fields_view}
use Rattle.token_tree.specs.Promise.{IsDefinition}
use Rattle.token_tree.specs.Shape.{are_token, token_breaks, entries_at}
use Rattle.token_tree.proofs.Listed.{extensions_stand, has_listed, listed_def}
use Rattle.token_tree.proofs.Sound.{entries_are}
use Rattle.token_tree.proofs.Keeps.{keeps}
use Rattle.token_tree.proofs.token.read_token.Goals as goal

pub check_token-requires : goal.check_token-requires
check_token-requires c = has_listed ref_view c.args.listed.now.value _ c.is_some.result c.is_some.ensures c.requires.listed.value

pub extensions_of-requires : goal.extensions_of-requires
extensions_of-requires c = extensions_stand c.args.text.now (ref_view c.args.node) (fields_view c.args.fields.now) c.args.listed.now c.requires.members c.requires.stands c.requires.listed c.in_ok-check_token.ensures.ok

pub invariant_of-def : goal.invariant_of-def
invariant_of-def c =
    let n = ref_view c.args.node in
    let es = fields_view c.args.fields.now in
    let text = c.args.text.now in
    let all : entries_at n ≡ es = entries_are n es c.requires.members in
    let k = keeps c.args.file.now text n c.requires.stands (ap are_token all ∙ c.requires.token) (ap token_breaks all ∙ c.in_ok-check_token.ensures.ok) in
    subst IsDefinition
    (sym (listed_def c.args.file.now text n es c.args.listed.now _ c.requires.members c.requires.listed refl c.slice_of.ensures c.start.ensures c.end.ensures c.in_ok-value.ensures c.is_some-2.ensures c.in_ok-kind.ensures c.in_ok-description.ensures c.extensions_of.ensures c.in_ok-deprecated.ensures))
    k

pub returns-clause-ok : goal.returns-clause-ok
returns-clause-ok c =
    let n = ref_view c.args.node in
    let es = fields_view c.args.fields.now in
    c.in_ok-shared.ensures.ok
    ∙ listed_def c.args.file.now c.args.text.now n es c.args.listed.now _ c.requires.members c.requires.listed refl c.slice_of.ensures c.start.ensures c.end.ensures c.in_ok-value.ensures c.is_some-2.ensures c.in_ok-kind.ensures c.in_ok-description.ensures c.extensions_of.ensures c.in_ok-deprecated.ensures
