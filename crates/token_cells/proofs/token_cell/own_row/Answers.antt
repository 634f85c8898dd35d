use Rattle.std.proofs.Common.{◌≡◌, Ok, subst}
use Rattle.std.proofs.lemmas.Result.{IfOk-weaker}
use Rattle.json_span.specs.PlainView.{plain_view}
use Rattle.json_span.specs.declared.plain.Plain.{Plain}
use Rattle.transforms.specs.Config.{Settings}
use Rattle.type_rules.specs.Answer.{IsBreak}
use Rattle.composite_rules.specs.Value.{value_of}
use Rattle.token_cells.specs.Cell.{IsCell}
use Rattle.token_cells.specs.inner.Making.{ComesTo}
use Rattle.token_cells.proofs.Comes.{made_cell}
use Rattle.token_cells.proofs.token_cell.own_row.Goals as goal

pub returns-in-Ok : goal.returns-in-Ok
returns-in-Ok c = λ flat there h.
    let found : value_of c.args.cfg.now.legacy c.args.resolved.now.kind (plain_view c.args.resolved.now.plain.value) ≡ Ok c.in-Ok.typed =
    subst (λ (s : Settings). value_of s.legacy c.args.resolved.now.kind (plain_view c.args.resolved.now.plain.value) ≡ Ok c.in-Ok.typed) c.cfg.view_is (subst (λ (p : Plain). value_of c.cfg.inside.legacy c.args.resolved.now.kind (plain_view p) ≡ Ok c.in-Ok.typed) c.deref.ensures c.in-Ok.ensures.ok) in
    IfOk-weaker c.made.result _ (ComesTo (IsCell flat c.args.cfg.now c.args.path.now) c.args.pages.now c.made.new.pages)
    (λ row comes. (comes.0, made_cell flat c.args.cfg.now c.args.path.now c.args.entry.now c.args.resolved.now c.in-Ok.typed comes.0 there found comes.1 h, comes.2)) c.made.ensures

pub returns-in-Err : goal.returns-in-Err
returns-in-Err c = λ flat there h.
    let found : IsBreak (value_of c.args.cfg.now.legacy c.args.resolved.now.kind (plain_view c.args.resolved.now.plain.value)) c.in-Err.fault =
    subst (λ (s : Settings). IsBreak (value_of s.legacy c.args.resolved.now.kind (plain_view c.args.resolved.now.plain.value)) c.in-Err.fault) c.cfg.view_is (subst (λ (p : Plain). IsBreak (value_of c.cfg.inside.legacy c.args.resolved.now.kind (plain_view p)) c.in-Err.fault) c.deref.ensures c.in-Err.ensures.broken) in
    c.value_row.ensures flat c.args.cfg.now c.args.resolved.now c.args.pages.now found h
