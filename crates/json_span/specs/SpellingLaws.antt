-- Laws of how strings are written.
use Rattle.std.specs.Prelude.{◌≡◌, ℕ, List, ◌∷◌, ◌++◌, true}
use Rattle.std.specs.List.{join_by, list_all}
use Rattle.tk_io.specs.Characters.{quote}
use Rattle.json_span.specs.Reading.{StringAt}
use Rattle.json_span.specs.Spelling.{inside_text, string_text, are_bytes, are_plain}
use Rattle.json_span.specs.Composing.{separated}

-- what is written for a string reads back as this string, whatever follows
abbrev pub StringsReadBack : Type 0
StringsReadBack = (s u : List ℕ) → are_bytes s ≡ true → StringAt (string_text s ++ u) s u

-- plain bytes are written as they are
abbrev pub PlainStays : Type 0
PlainStays = (s : List ℕ) → are_plain s ≡ true → inside_text s ≡ s

-- one inside after another is that of one string after the other
abbrev pub InsidesFollow : Type 0
InsidesFollow = (s t : List ℕ) → inside_text (s ++ t) ≡ inside_text s ++ inside_text t

-- insides with plain bytes between each two are that of the joined strings
abbrev pub InsidesJoin : Type 0
InsidesJoin = (between : List ℕ) (names : List (List ℕ)) → are_plain between ≡ true →
    join_by inside_text between names ≡ inside_text (separated between names)

-- and so they read back, between quotes, as the joined strings
abbrev pub JoinedReadBack : Type 0
JoinedReadBack = (between : List ℕ) (names : List (List ℕ)) (u : List ℕ) → are_plain between ≡ true →
    are_bytes between ≡ true → list_all are_bytes names ≡ true →
    StringAt (quote ∷ (join_by inside_text between names ++ (quote ∷ u))) (separated between names) u
