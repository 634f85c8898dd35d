use Rattle.std.proofs.Common.{◌≡◌, Ok, subst}
use Rattle.json_span.specs.PlainView.{plain_view}
use Rattle.json_span.specs.declared.plain.Plain.{Plain}
use Rattle.composite_rules.specs.Value.{value_of}
use Rattle.transforms.specs.Config.{Settings}
use Rattle.token_cells.proofs.TypedTokens.{typed_more}
use Rattle.token_cells.proofs.typing.typed_value.Goals as goal

pub returns-in_err-kept-clause-known : goal.returns-in_err-kept-clause-known
returns-in_err-kept-clause-known c = λ flat h m right.
    let found : value_of c.args.cfg.now.legacy c.args.resolved.now.kind (plain_view c.args.resolved.now.plain.value) ≡ Ok c.in_ok-typed-2.typed =
    subst (λ (s : Settings). value_of s.legacy c.args.resolved.now.kind (plain_view c.args.resolved.now.plain.value) ≡ Ok c.in_ok-typed-2.typed) c.cfg.view_is
    (subst (λ (p : Plain). value_of c.cfg.inside.legacy c.args.resolved.now.kind (plain_view p) ≡ Ok c.in_ok-typed-2.typed) c.deref.ensures c.in_ok-typed-2.ensures.ok) in
    typed_more c.one_meaning.ensures.meaning flat c.args.cfg.now c.args.values.now.known.items c.keep.new.self.known.items c.args.place c.args.resolved.now.kind c.in_ok-typed-2.typed c.args.path.now c.args.resolved.now right c.keep.ensures.kept m h found

pub returns-clause-known : goal.returns-clause-known
returns-clause-known c = λ flat h m right.
    let found : value_of c.args.cfg.now.legacy c.args.resolved.now.kind (plain_view c.args.resolved.now.plain.value) ≡ Ok c.in_ok-typed-2.typed =
    subst (λ (s : Settings). value_of s.legacy c.args.resolved.now.kind (plain_view c.args.resolved.now.plain.value) ≡ Ok c.in_ok-typed-2.typed) c.cfg.view_is
    (subst (λ (p : Plain). value_of c.cfg.inside.legacy c.args.resolved.now.kind (plain_view p) ≡ Ok c.in_ok-typed-2.typed) c.deref.ensures c.in_ok-typed-2.ensures.ok) in
    typed_more c.one_meaning.ensures.meaning flat c.args.cfg.now c.args.values.now.known.items c.keep.new.self.known.items c.args.place c.args.resolved.now.kind c.in_ok-typed-2.typed c.args.path.now c.args.resolved.now right c.keep.ensures.kept m h found
