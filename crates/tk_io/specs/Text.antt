-- What a text is seen as.
use Rattle.std.specs.Prelude.{ℕ, List}
use Rattle.std.specs.Rc.{rc_str_bytes}
use Rattle.tk_io.specs.declared.text.Kept.{Kept}
use Rattle.tk_io.specs.declared.text.Kept.TheVariants.{Slice, Shared}

-- the bytes of its UTF-8, whichever way the text is kept
abbrev pub text_bytes : Kept → List ℕ
text_bytes (Slice text) = text.now
text_bytes (Shared text) = rc_str_bytes text
