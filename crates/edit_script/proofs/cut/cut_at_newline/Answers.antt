use Rattle.std.proofs.Common.{rules, ◌<◌, length, get_or}
use Rattle.std.proofs.lemmas.Str.{IsCharBoundary-after_ascii}
use Rattle.edit_script.proofs.cut.cut_at_newline.Goals as goal

pub range_from-requires : goal.range_from-requires
range_from-requires c _ =
    let inside : c.args.at < length c.args.text.now = search rules in
    let newline : get_or c.args.text.now c.args.at 0 < 128 = search rules in
    IsCharBoundary-after_ascii c.args.text.now c.args.at c.utf8.text inside newline
