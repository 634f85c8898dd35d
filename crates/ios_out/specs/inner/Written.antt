-- What a fragment of given values is.
use Rattle.std.specs.Prelude.{◌≡◌, ℕ, List}
use Rattle.transforms.specs.Frag.{Frag}
use Rattle.ios_out.specs.Constant.{Values, value_names}
use Rattle.ios_out.specs.Spelling.{body_text}

-- the names of the values, and their lines under the token's name
pub record IsFragment (name : List ℕ) (vs : Values) (f : Frag) : Type 0 where
  pub names : f.names ≡ value_names vs
  pub body : f.body ≡ body_text name vs
