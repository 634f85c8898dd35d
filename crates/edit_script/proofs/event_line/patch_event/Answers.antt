use Rattle.std.proofs.Common.{rules, ◌≡◌, ◌++◌, None, codes}
use Rattle.edit_script.proofs.Spelled.{no_patch, none_case}
use Rattle.edit_script.proofs.event_line.patch_event.Goals as goal

pub returns-in_err-bytes : goal.returns-in_err-bytes
returns-in_err-bytes c =
    let gone : c.from_residual-in_err-bytes.result ≡ None = search rules in
    let is : c.args.line.now ≡ codes "patch " ++ c.in_ok-strip_prefix.field-0.now = search rules in
    let words = c.in_ok-path.ensures in
    none_case c.from_residual-in_err-bytes.result _ _ gone (λ path start end bytes rest fits line behind.
    no_patch c.args.line.now c.args.behind.now c.in_ok-strip_prefix.field-0.now c.in_ok-path.path.now c.in_ok-path.start c.in_ok-path.end c.in_ok-path.length path start end bytes rest is words.0 words.1 words.2 words.3 words.4 c.in_err-bytes.ensures fits line behind)
