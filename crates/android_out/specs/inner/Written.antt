-- What a fragment of given values is, and how its lines grow.
use Rattle.std.specs.Prelude.{Bool, List, None, Option, Some, [], codes, false, if◌then◌else◌, true, ℕ, ◌++◌, ◌==◌, ◌∷◌, ◌≡◌}
use Rattle.tk_io.specs.Characters.{blank}
use Rattle.transforms.specs.Frag.{Frag}
use Rattle.android_out.specs.Element.{Values, value_names, Tag, tag_name, attributes}
use Rattle.android_out.specs.PlatformValue.{is_plain_char}
use Rattle.android_out.specs.Spelling.{body_text}

-- the names of the values, and their lines under the token's name
pub record IsFragment (name : List ℕ) (vs : Values) (f : Frag) : Type 0 where
  pub names : f.names ≡ value_names vs
  pub body : f.body ≡ body_text name vs

-- a line up to its name, and after its content
abbrev pub opening : Tag → List ℕ
opening tag = codes "  <" ++ (tag_name tag ++ (attributes tag ++ codes " name=\""))

abbrev pub closing : Tag → List ℕ
closing tag = codes "</" ++ (tag_name tag ++ codes ">\n")

-- whether a word is begun after a byte, or none where the byte can't stand there
abbrev pub after_byte : Bool → ℕ → Option Bool
after_byte begun c =
    if c == blank then (if begun then Some false else None)
    else (if is_plain_char c then Some true else None)

abbrev pub when_some : (Bool → Bool) → Option Bool → Bool
when_some f None = false
when_some f (Some begun) = f begun

-- words with single blanks between, where a word is begun or none is
abbrev pub words_from : Bool → List ℕ → Bool
words_from begun [] = begun
words_from begun (c ∷ t) = when_some (λ b. words_from b t) (after_byte begun c)
