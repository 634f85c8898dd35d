-- Of which characters the names of permutations are.
use Rattle.std.specs.Prelude.{◌≡◌, ℕ, Bool, true, Some, ◌==◌, ◌&&◌, ◌||◌, not, List, length}
use Rattle.std.specs.Char.{is_ascii_alphanumeric}
use Rattle.std.specs.FinMap as finite
use Rattle.std.specs.List.{list_all}
use Rattle.std.specs.Str.{IsUtf8}
use Rattle.ring.specs.Lists.{In}
use Rattle.tk_io.specs.Characters.{hyphen, low_line, percent_sign, plus_sign}
use Rattle.tk_io.specs.FilesData.{FilesData}
use Rattle.permutations.specs.Permutation.{Permutation}
use Rattle.file_plan.specs.InUse.{resolver_path}
use Rattle.file_plan.specs.Plan.{planned, Plans}

abbrev pub equals_sign : ℕ
equals_sign = 61

-- an ASCII letter, a digit, `_`, `-`, `%`, `=` or `+`
abbrev pub is_name_byte : ℕ → Bool
is_name_byte b = is_ascii_alphanumeric b || ((b == low_line) || ((b == hyphen) || ((b == percent_sign) || ((b == equals_sign) || (b == plus_sign)))))

-- one or more of these
abbrev pub is_name : List ℕ → Bool
is_name name = not (length name == 0) && list_all is_name_byte name

-- the resolver document is UTF-8, where there is one
abbrev pub HaveUtf8Resolver : FilesData → Type 0
HaveUtf8Resolver files = (text : List ℕ) → finite.get files resolver_path ≡ Some text → IsUtf8 text

-- the permutations of such files have names of these characters
abbrev pub PermutationsAreNamed : Type 0
PermutationsAreNamed = (files : FilesData) (perms : List Permutation) → HaveUtf8Resolver files → Plans (finite.get files resolver_path) (planned perms)
    → (p : Permutation) → In p perms → is_name p.name ≡ true
