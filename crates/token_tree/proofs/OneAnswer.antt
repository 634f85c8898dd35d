-- A definition is decided by its file's name, its source and where that starts.
use Rattle.std.proofs.Common.{◌≡◌, sym, ◌∙◌, subst}
use Rattle.json_span.specs.Reading.{Shows}
use Rattle.json_span.proofs.Unique.{shows_one}
use Rattle.token_tree.specs.Tree.{Definition}
use Rattle.token_tree.specs.Promise.{IsDefinition, moved_def}
use Rattle.token_tree.specs.Shape.{def_of}

pub one_definition : (d e : Definition) → IsDefinition d → IsDefinition e → d.file ≡ e.file → d.source ≡ e.source → d.start ≡ e.start → d ≡ e
one_definition d e p q file source start =
    let object : p.object ≡ q.object = shows_one e.source p.object q.object (subst (λ s. Shows s p.object) source p.shown) q.shown in
    p.same
    ∙ ((λ i. moved_def (start i) (def_of (file i) (source i) (object i)))
    ∙ sym q.same)
