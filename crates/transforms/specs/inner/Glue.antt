-- What a sheet is while a further body is written: its text alone grows, first by the glue that stands between two bodies.
use Rattle.std.specs.Prelude.{◌≡◌, ◌++◌, [], if◌then◌else◌}
use Rattle.tk_io.specs.Writing.{Extends}
use Rattle.transforms.specs.Sheet.{OpenSheet}

-- bytes are added at the end of the text, and nothing else changes
pub record OnlyTextGrows (before after : OpenSheet) : Type 0 where
  pub frame : after.frame ≡ before.frame
  pub text : Extends before.text after.text
  pub has_body : after.has_body ≡ before.has_body

-- the sheet before a further body: with the glue, where a body stands before it
abbrev pub behind_glue : OpenSheet → OpenSheet
behind_glue s = record { frame = s.frame; text = s.text ++ (if s.has_body then s.frame.glue else []); has_body = s.has_body }
