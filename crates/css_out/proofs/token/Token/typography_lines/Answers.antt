use Rattle.css_out.proofs.LinesDone.{five_texts, five_names}
use Rattle.css_out.proofs.token.Token.typography_lines.Goals as goal

pub returns-clause-names : goal.returns-clause-names
returns-clause-names c =
    five_names _ _ _ _ _ _ _ _ _ _ _ c.in_ok-typography_line.ensures.names c.in_ok-typography_line-2.ensures.names
    c.in_ok-typography_line-3.ensures.names c.in_ok-typography_line-4.ensures.names c.in_ok-typography_line-5.ensures.names

pub returns-clause-text : goal.returns-clause-text
returns-clause-text c =
    five_texts _ _ _ _ _ _ _ _ _ _ _ c.in_ok-typography_line.ensures.text c.in_ok-typography_line-2.ensures.text
    c.in_ok-typography_line-3.ensures.text c.in_ok-typography_line-4.ensures.text c.in_ok-typography_line-5.ensures.text
