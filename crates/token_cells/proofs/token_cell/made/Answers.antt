use Rattle.std.proofs.Common.{[], ◌∙◌}
use Rattle.token_cells.specs.Cell.{TokenPath, GivesAll}
use Rattle.token_cells.specs.TokenCell.{Made}
use Rattle.token_cells.proofs.PagesGrow.{made_row}
use Rattle.token_cells.proofs.token_cell.made.Goals as goal

pub returns : goal.returns
returns c =
    let settings = c.args.cfg.now in
    let path : TokenPath = c.args.path.now in
    let named = c.in_ok-write_names.ensures in
    let property = c.as_slice-property.ensures ∙ named.property.0 in
    let identifier = c.as_slice-identifier.ensures ∙ named.identifier.0 in
    let is_css = named.property.1 in
    let is_name = named.identifier.1 in
    let css = c.in_ok-css.ensures path property is_css in
    let android = c.in_ok-android.ensures.added path identifier is_name in
    let swift = c.in_ok-swift.ensures path identifier is_name in
    let json = c.in_ok-json.ensures in
    let gives : GivesAll settings path c.args.entry.now c.args.typed.now c.args.resolved.now.links css.0 android.0 swift.0 (record { names = []; body = json.0 }) =
    record { css_of = css.1; android_of = android.1; ios_of = swift.1; json_of = json.1 } in (
      Made css.0 android.0 swift.0 (record { names = []; body = json.0 }),
      gives,
      made_row c.args.pages.now _ c.add_css.new.all c.add_android.new.all _ css.0 android.0 swift.0 json.0 css.2 android.2 swift.2 json.2,
    )
