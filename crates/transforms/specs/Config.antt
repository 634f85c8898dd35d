-- What a configuration holds, and what a text says of it.
use Rattle.std.specs.Prelude.{◌≡◌, ◌≢◌, ℕ, ◌≤◌, ◌&&◌, List, [], ◌∷◌, codes, length, nat_le, Bool, true, false, ℤ, pos, negsuc, if◌then◌else◌, Option, Some, None, is_some, option_and_then, unwrap_or, Result, Ok, Err}
use Rattle.std.specs.Char.{is_ascii_alphabetic, is_ascii_alphanumeric}
use Rattle.std.specs.List.{list_all}
use Rattle.std.specs.Str.{bytes_eq}
use Rattle.std.specs.declared.cmp.Ordering.TheVariants.{Greater}
use Rattle.toml.specs.Data.{Data, as_str, as_integer, as_bool, Members, no_members, member, get_member}
use Rattle.toml.specs.Parse.{parse_document}
use Rattle.tk_io.specs.Order.{text_cmp}
use Rattle.transforms.specs.declared.config.ConfigFault.{ConfigFault}
use Rattle.transforms.specs.declared.config.ConfigFault.TheVariants.{Toml, Key, NoMemory}

-- what goes before each name, what a rem is in pixels, whether references are spelled as such, and whether lengths, times and colours may be texts
pub record Settings : Type 0 where
  pub prefix : List ℕ
  pub rem_base : ℕ
  pub references : Bool
  pub legacy : Bool

-- empty, or an ASCII letter and at most 31 ASCII letters and digits
abbrev pub is_prefix : List ℕ → Bool
is_prefix [] = true
is_prefix (first ∷ rest) = is_ascii_alphabetic first && (list_all is_ascii_alphanumeric rest && nat_le (length rest) 31)

-- the settings that no text has changed
abbrev pub plain : Settings
plain = record { prefix = []; rem_base = 16; references = true; legacy = false }

-- settings that a configuration can have
pub record AreAllowed (settings : Settings) : Type 0 where
  pub prefix : is_prefix settings.prefix ≡ true
  pub least : 1 ≤ settings.rem_base
  pub most : settings.rem_base ≤ 100

-- the prefix that a value says, where it has the form of one
abbrev pub prefix_in : Data → Option (List ℕ)
prefix_in value = option_and_then (λ text. if is_prefix text then Some text else None) (as_str value)

-- 1 to 100
abbrev pub base_of : ℤ → Option ℕ
base_of (pos n) = if nat_le 1 n && nat_le n 100 then Some n else None
base_of (negsuc n) = None

-- the pixels of a rem that a value says
abbrev pub base_in : Data → Option ℕ
base_in value = option_and_then base_of (as_integer value)

-- whether there is such a key and it may have the value
abbrev pub is_setting : List ℕ → Data → Bool
is_setting key value =
    if bytes_eq key (codes "prefix") then is_some (prefix_in value)
    else if bytes_eq key (codes "rem_base") then is_some (base_in value)
    else if bytes_eq key (codes "references") then is_some (as_bool value)
    else if bytes_eq key (codes "legacy") then is_some (as_bool value)
    else false

-- the first key that is refused
abbrev pub first_refused : Members → Option (List ℕ)
first_refused no_members = None
first_refused (member key value rest) = if is_setting key value then first_refused rest else Some key

-- what a table says under a key that is true or false, else this default
abbrev pub boolean_under : List ℕ → Bool → Members → Bool
boolean_under key default table = unwrap_or (option_and_then as_bool (get_member key table)) default

-- what a table says, and the defaults for the keys that it does not have
abbrev pub settings_in : Members → Settings
settings_in table = record {
  prefix = unwrap_or (option_and_then prefix_in (get_member (codes "prefix") table)) plain.prefix;
  rem_base = unwrap_or (option_and_then base_in (get_member (codes "rem_base") table)) plain.rem_base;
  references = boolean_under (codes "references") plain.references table;
  legacy = boolean_under (codes "legacy") plain.legacy table;
}

-- the settings, where no key is refused
abbrev pub unless_refused : Option (List ℕ) → Settings → Result Settings ConfigFault
unless_refused None settings = Ok settings
unless_refused (Some key) settings = Err (Key key)

abbrev pub config_in : Option Members → Result Settings ConfigFault
config_in None = Err Toml
config_in (Some table) = unless_refused (first_refused table) (settings_in table)

-- what a text says
abbrev pub config_of : List ℕ → Result Settings ConfigFault
config_of text = config_in (parse_document text)

-- what a text says is allowed
abbrev pub TextsSayAllowed : Type 0
TextsSayAllowed = (text : List ℕ) (settings : Settings) → config_of text ≡ Ok settings → AreAllowed settings

-- the key of the table is refused, and no refused key comes before it in byte order
pub record IsFirstRefused (table : Members) (key : List ℕ) : Type 0 where
  pub value : Data
  pub there : get_member key table ≡ Some value
  pub refused : is_setting key value ≡ false
  pub first : (other : List ℕ) (its : Data) → get_member other table ≡ Some its → is_setting other its ≡ false
      → text_cmp key other ≢ Greater

-- the fault that the text gives; out of memory says nothing of it
abbrev pub IsFaultOf : List ℕ → ConfigFault → Type 0
IsFaultOf text Toml = config_of text ≡ Err Toml
IsFaultOf text (Key key) = config_of text ≡ Err (Key key)
IsFaultOf text NoMemory = Unit {0}

-- a key that is told is the first refused key of the text's table
abbrev pub RefusesFirst : List ℕ → ConfigFault → Type 0
RefusesFirst text Toml = Unit {0}
RefusesFirst text (Key key) = (table : Members) → parse_document text ≡ Some table → IsFirstRefused table key
RefusesFirst text NoMemory = Unit {0}
