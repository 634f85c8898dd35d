use Rattle.std.proofs.Common.{rules, ◌<◌, length, get_or}
use Rattle.std.proofs.lemmas.Str.{IsCharBoundary-after_ascii}
use Rattle.certificates.proofs.escape.front_code.Goals as goal

pub range_from-requires : goal.range_from-requires
range_from-requires c _ =
    let inside : 1 < length c.args.text.now = search rules in
    let small : get_or c.args.text.now 1 0 < 128 = search rules in
    IsCharBoundary-after_ascii c.args.text.now 1 c.utf8.text inside small
