-- What a text says, and the settings of no text, are settings that a configuration can have.
use Rattle.std.proofs.Common.{◌≡◌, ◌≤◌, ◌&&◌, ℕ, Bool, true, false, List, [], Option, Some, None, Ok, ℤ, pos, negsuc, nat_le, refl, subst, arith}
use Rattle.std.specs.Prelude.{if◌then◌else◌, option_and_then, unwrap_or, codes, Result}
use Rattle.std.proofs.lemmas.Bool.Decides.{nat_tests}
use Rattle.toml.specs.Data.{Data, Members, get_member, as_str, as_integer}
use Rattle.toml.specs.Parse.{parse_document}
use Rattle.transforms.specs.Config.{Settings, is_prefix, plain, AreAllowed, TextsSayAllowed, prefix_in, base_of, base_in, first_refused, settings_in, unless_refused, config_in}
use Rattle.transforms.specs.declared.config.ConfigFault.{ConfigFault}
use Rattle.transforms.proofs.Spelled.{first_of, second_of}

of_form : (text : List ℕ) (b : Bool) → is_prefix text ≡ b → is_prefix (unwrap_or (if b then Some text else None) []) ≡ true
of_form text true h = h
of_form text false h = refl

said_prefix : (o : Option (List ℕ)) → is_prefix (unwrap_or (option_and_then (λ text. if is_prefix text then Some text else None) o) []) ≡ true
said_prefix None = refl
said_prefix (Some text) = of_form text (is_prefix text) refl

prefix_stands : (o : Option Data) → is_prefix (unwrap_or (option_and_then prefix_in o) []) ≡ true
prefix_stands None = refl
prefix_stands (Some value) = said_prefix (as_str value)

-- 1 to 100
abbrev IsBase : ℕ → Type 0
IsBase n = (1 ≤ n) × (n ≤ 100)

default : IsBase 16
default = (omega arith, omega arith)

tested : (n : ℕ) (b : Bool) → (nat_le 1 n && nat_le n 100) ≡ b → IsBase (unwrap_or (if b then Some n else None) 16)
tested n true h = (at_least (first_of (nat_le 1 n) _ h), at_most (second_of (nat_le 1 n) _ h))
  where
    at_least : nat_le 1 n ≡ true → 1 ≤ n
    at_least k = grind (arith, nat_tests)

    at_most : nat_le n 100 ≡ true → n ≤ 100
    at_most k = grind (arith, nat_tests)
tested n false h = default

said_base : (o : Option ℤ) → IsBase (unwrap_or (option_and_then base_of o) 16)
said_base None = default
said_base (Some (pos n)) = tested n (nat_le 1 n && nat_le n 100) refl
said_base (Some (negsuc n)) = default

base_stands : (o : Option Data) → IsBase (unwrap_or (option_and_then base_in o) 16)
base_stands None = default
base_stands (Some value) = said_base (as_integer value)

table_allowed : (table : Members) → AreAllowed (settings_in table)
table_allowed table =
    let base = base_stands (get_member (codes "rem_base") table) in
    record { prefix = prefix_stands (get_member (codes "prefix") table); least = base.0; most = base.1 }

abbrev said_of : Settings → Result Settings ConfigFault
said_of settings = Ok settings

said_same : (s t : Settings) → said_of s ≡ said_of t → s ≡ t
said_same s t e = cc

unrefused : (key : Option (List ℕ)) (said settings : Settings) → AreAllowed said → unless_refused key said ≡ Ok settings → AreAllowed settings
unrefused None said settings allowed e = subst AreAllowed (said_same said settings e) allowed
unrefused (Some key) said settings allowed e = cc

read_allowed : (table : Option Members) (settings : Settings) → config_in table ≡ Ok settings → AreAllowed settings
read_allowed None settings e = cc
read_allowed (Some table) settings e = unrefused (first_refused table) (settings_in table) settings (table_allowed table) e

pub texts_say_allowed : TextsSayAllowed
texts_say_allowed text settings e = read_allowed (parse_document text) settings e

pub plain_is_allowed : AreAllowed plain
plain_is_allowed = record { prefix = refl; least = omega arith; most = omega arith }
