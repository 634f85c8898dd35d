use Rattle.json_span.proofs.Insides.{inside_at}
use Rattle.json_span.proofs.Utf8.{utf8_bytes}
use Rattle.json_span.proofs.written.write_string_inside.Goals as goal

pub returns-clause-reads : goal.returns-clause-reads
returns-clause-reads c = λ u. inside_at c.args.text.now u (utf8_bytes c.args.text.now c.utf8.text)

pub returns-clause-bytes : goal.returns-clause-bytes
returns-clause-bytes c = utf8_bytes c.args.text.now c.utf8.text
