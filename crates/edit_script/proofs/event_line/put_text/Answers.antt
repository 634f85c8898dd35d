use Rattle.std.proofs.Common.{rules, ◌≡◌, length, None, ap, sym, ◌∙◌, arith}
use Rattle.std.proofs.lemmas.Fmt.{decimal_injective}
use Rattle.std.specs.Fmt.{decimal}
use Rattle.edit_script.specs.Script.{is_path}
use Rattle.edit_script.proofs.Spelled.{none_case, path_cut, true_or_false}
use Rattle.edit_script.proofs.event_line.put_text.Goals as goal

pub returns-then-not-is_path : goal.returns-then-not-is_path
returns-then-not-is_path c path text rest fits words behind =
    let (same, digits) = path_cut c.args.words.now c.in_ok-path.path.now c.in_ok-path.digits.now path (decimal (length text)) c.in_ok-path.ensures fits.0 words in
    true_or_false (is_path c.in_ok-path.path.now) (ap is_path same ∙ fits.0) (cc)

pub returns-in_err-read_number : goal.returns-in_err-read_number
returns-in_err-read_number c =
    let gone : c.from_residual-in_err-read_number.result ≡ None = search rules in
    none_case c.from_residual-in_err-read_number.result _ _ gone (λ path text rest fits words behind.
    let (same, digits) = path_cut c.args.words.now c.in_ok-path.path.now c.in_ok-path.digits.now path (decimal (length text)) c.in_ok-path.ensures fits.0 words in
    c.in_err-read_number.ensures (length text) fits.2 digits)

pub returns-in_err-text : goal.returns-in_err-text
returns-in_err-text c =
    let gone : c.from_residual-in_err-text.result ≡ None = search rules in
    none_case c.from_residual-in_err-text.result _ _ gone (λ path text rest fits words behind.
    let (same, digits) = path_cut c.args.words.now c.in_ok-path.path.now c.in_ok-path.digits.now path (decimal (length text)) c.in_ok-path.ensures fits.0 words in
    let n = c.in_ok-read_number.field-0 in
    let spelled : decimal (length text) ≡ decimal n = sym digits ∙ c.in_ok-read_number.ensures.0 in
    let size : length text ≡ n = decimal_injective (length text) n (omega (arith, fits.2)) (omega (arith, c.in_ok-read_number.ensures.1)) spelled in
    c.in_err-text.ensures text rest size behind)
