-- What a fragment of given lines is.
use Rattle.std.specs.Prelude.{◌≡◌, ℕ, List, map}
use Rattle.transforms.specs.Frag.{Frag}
use Rattle.css_out.specs.Parts.{NamedParts, declaration}
use Rattle.css_out.specs.Spelling.{body_text}

-- names that are handed back, and the text that the draft holds
abbrev pub fragment_of : List (List ℕ) → List ℕ → Frag
fragment_of names body = record { names = names; body = body }

-- the names of the lines, and their text under the token's name
pub record IsFragment (name : List ℕ) (es : List NamedParts) (f : Frag) : Type 0 where
  pub names : f.names ≡ map (λ e. e.name) es
  pub body : f.body ≡ body_text name (map declaration es)
