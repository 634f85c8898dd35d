use Rattle.std.proofs.Common.{rules, ◌≡◌, ◌++◌, ◌∷◌, None, decimal, sym, ◌∙◌}
use Rattle.edit_script.proofs.Spelled.{none_case, number_cut, numbers_words}
use Rattle.edit_script.proofs.event_line.three_numbers.Goals as goal

pub returns-in_err-end : goal.returns-in_err-end
returns-in_err-end c =
    let gone : c.from_residual-in_err-end.result ≡ None = search rules in
    none_case c.from_residual-in_err-end.result _ _ gone (λ start end size a b d is.
    let (first, rest) = number_cut c.in_ok-start.start start c.in_ok-start.rest.now (decimal end ++ 32 ∷ decimal size) c.in_ok-start.ensures.1 a (sym c.in_ok-start.ensures.0 ∙ (is ∙ numbers_words start end size)) in
    c.in_err-end.ensures end (decimal size) b rest)

pub returns-in_err-read_number : goal.returns-in_err-read_number
returns-in_err-read_number c =
    let gone : c.from_residual-in_err-read_number.result ≡ None = search rules in
    none_case c.from_residual-in_err-read_number.result _ _ gone (λ start end size a b d is.
    let (first, rest) = number_cut c.in_ok-start.start start c.in_ok-start.rest.now (decimal end ++ 32 ∷ decimal size) c.in_ok-start.ensures.1 a (sym c.in_ok-start.ensures.0 ∙ (is ∙ numbers_words start end size)) in
    let (second, last) = number_cut c.in_ok-end.end end c.in_ok-end.rest.now (decimal size) c.in_ok-end.ensures.1 b (sym c.in_ok-end.ensures.0 ∙ rest) in
    c.in_err-read_number.ensures size d last)
