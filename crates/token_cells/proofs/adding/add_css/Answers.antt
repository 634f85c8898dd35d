use Rattle.std.proofs.Common.{ap, ◌∙◌}
use Rattle.transforms.specs.Frag.{Frag}
use Rattle.token_cells.specs.declared.row.Shown.{Shown}
use Rattle.css_out.specs.Spelling.{names_under, text_under}
use Rattle.token_cells.proofs.PagesGrow.{adds_frag}
use Rattle.token_cells.proofs.adding.add_css.Goals as goal

pub returns : goal.returns
returns c = λ path is named.
    let frag : Frag = record { names = c.in_ok-names.names; body = c.fragment.new.draft } in
    let shown : Shown = record { lines = c.in_ok-add_body.field-0; names = c.in_ok-push_names.field-0 } in (
      frag,
      record {
        names = c.in_ok-names.ensures.names ∙ ap (λ name. names_under name c.args.typed.now) is;
        body = c.in_ok-names.ensures.body ∙ ap (λ name. text_under c.args.cfg.now name c.args.links.now c.args.typed.now) is;
        room = c.in_ok-names.ensures.room;
        named = named;
      },
      adds_frag c.args.sheet.now c.add_body.new.self c.args.all.now c.push_names.new.all shown frag c.as_slice.result.now c.as_slice.ensures
          c.in_ok-add_body.ensures.ok c.in_ok-add_body.ensures.there c.in_ok-push_names.ensures,
    )
