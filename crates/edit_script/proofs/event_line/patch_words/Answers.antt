use Rattle.std.proofs.Common.{rules, ◌≡◌, None, ap, ◌∙◌}
use Rattle.edit_script.specs.Script.{is_path}
use Rattle.edit_script.specs.inner.Line.{numbers_text}
use Rattle.edit_script.proofs.Spelled.{none_case, path_cut, true_or_false}
use Rattle.edit_script.proofs.event_line.patch_words.Goals as goal

pub returns-then-not-is_path : goal.returns-then-not-is_path
returns-then-not-is_path c path start end size fits i j n words =
    let (same, numbers) = path_cut c.args.words.now c.in_ok-path.path.now c.in_ok-path.numbers.now path (numbers_text start end size) c.in_ok-path.ensures fits words in
    true_or_false (is_path c.in_ok-path.path.now) (ap is_path same ∙ fits) (cc)

pub returns-in_err-start : goal.returns-in_err-start
returns-in_err-start c =
    let gone : c.from_residual-in_err-start.result ≡ None = search rules in
    none_case c.from_residual-in_err-start.result _ _ gone (λ path start end size fits i j n words.
    let (same, numbers) = path_cut c.args.words.now c.in_ok-path.path.now c.in_ok-path.numbers.now path (numbers_text start end size) c.in_ok-path.ensures fits words in
    c.in_err-start.ensures start end size i j n numbers)
