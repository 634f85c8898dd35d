use Rattle.json_span.proofs.Utf8.{utf8_bytes}
use Rattle.json_out.proofs.texts.text_is_bytes.Goals as goal

pub returns : goal.returns
returns c = utf8_bytes c.args._text.now c.utf8._text
