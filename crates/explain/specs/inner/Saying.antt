-- What the code says of a place.
use Rattle.std.specs.Prelude.{◌≡◌, false, Option, Some}
use Rattle.alias_ref.specs.Written.{Written, refers, misspelled, of_value, of_ref, of_token, is_reference}
use Rattle.alias_ref.specs.Written as written
use Rattle.explain.specs.declared.saying.Role.{Role}
use Rattle.explain.specs.declared.saying.Role.TheVariants as role
use Rattle.explain.specs.declared.saying.Said.{Said}
use Rattle.explain.specs.declared.saying.Said.TheVariants as said

abbrev pub role_view : Role → written.Role
role_view role.Value = of_value
role_view role.Ref = of_ref
role_view role.Token = of_token

-- this is said of what is written
abbrev pub Says : Said → Option Written → Type 0
Says (said.Refers place) w = w ≡ Some (refers place.token place.trail)
Says said.Misspelled w = w ≡ Some misspelled
Says said.Other w = is_reference w ≡ false
