-- What a script is: its first line, how its events are spelled, which paths and numbers are spelled, and where bytes that
-- are no script are refused.
use Rattle.std.specs.Prelude.{◌≡◌, ◌<◌, ◌≤◌, ◌⊎◌, ℕ, ◌^◌, Bool, true, false, ◌&&◌, ◌||◌, ◌==◌, not, nat_le, List, ◌++◌, length, take, codes}
use Rattle.std.specs.Char.{is_ascii_alphanumeric}
use Rattle.std.specs.Fmt.{decimal}
use Rattle.std.specs.List.{AllByRecursion, flat_map, list_all, slice_split}
use Rattle.std.specs.Str.{IsUtf8, IsValidUpTo, bytes_eq}
use Rattle.tk_io.specs.Characters.{full_stop, hyphen, low_line, solidus}
use Rattle.edit_script.specs.declared.version.Version.{Version}
use Rattle.edit_script.specs.declared.version.Version.TheVariants.{First, Second}

-- an event: a path is given a text; a path is given up; the first path's text goes to the second; the bytes of a path's
-- text from the first number to the second are replaced by these; what stands is committed
pub data EventData : Type 0 where
  put : List ℕ → List ℕ → EventData
  del : List ℕ → EventData
  move : List ℕ → List ℕ → EventData
  patch : List ℕ → ℕ → ℕ → List ℕ → EventData
  commit : EventData

-- an event's line, and after the line of a put or a patch its bytes and a line end
abbrev pub event_text : EventData → List ℕ
event_text (put path text) = codes "put " ++ path ++ codes " " ++ decimal (length text) ++ codes "\n" ++ text ++ codes "\n"
event_text (del path) = codes "del " ++ path ++ codes "\n"
event_text (move first second) = codes "move " ++ first ++ codes " " ++ second ++ codes "\n"
event_text (patch path start end bytes) =
    codes "patch " ++ path ++ codes " " ++ decimal start ++ codes " " ++ decimal end ++ codes " " ++ decimal (length bytes) ++ codes "\n" ++ bytes ++ codes "\n"
event_text commit = codes "commit\n"

abbrev pub is_path_byte : ℕ → Bool
is_path_byte b = is_ascii_alphanumeric b || ((b == full_stop) || ((b == low_line) || (b == hyphen)))

abbrev pub is_dots : List ℕ → Bool
is_dots s = bytes_eq s (codes ".") || bytes_eq s (codes "..")

-- one or more ASCII letters, digits, `.`, `_` and `-`, but neither `.` nor `..`
abbrev pub is_segment : List ℕ → Bool
is_segment s = not (is_dots s) && (not (length s == 0) && list_all is_path_byte s)

-- how many bytes a path may have
abbrev pub longest_path : ℕ
longest_path = 200

-- not too long, and segments joined by `/`
abbrev pub is_path : List ℕ → Bool
is_path path = nat_le (length path) longest_path && list_all is_segment (slice_split (λ b. b == solidus) path)

-- a number that a script spells has at most eight digits
abbrev pub IsSpelledNumber : ℕ → Type 0
IsSpelledNumber n = n < 10 ^ 8

-- paths are paths, what is put or patched in is text, and numbers and lengths have at most eight digits
abbrev pub IsSpellable : EventData → Type 0
IsSpellable (put path text) = (is_path path ≡ true) × IsUtf8 text × IsSpelledNumber (length text)
IsSpellable (del path) = is_path path ≡ true
IsSpellable (move first second) = (is_path first ≡ true) × (is_path second ≡ true)
IsSpellable (patch path start end bytes) =
    (is_path path ≡ true) × IsSpelledNumber start × IsSpelledNumber end × IsUtf8 bytes × IsSpelledNumber (length bytes)
IsSpellable commit = Unit {0}

abbrev pub is_second : Version → Bool
is_second First = false
is_second Second = true

-- whether scripts of the version have events of this kind: moves and patches are of the second alone
abbrev pub has_kind : Version → EventData → Bool
has_kind version (put path text) = true
has_kind version (del path) = true
has_kind version (move first second) = is_second version
has_kind version (patch path start end bytes) = is_second version
has_kind version commit = true

-- the version has a spelling of the event
abbrev pub HasSpelling : Version → EventData → Type 0
HasSpelling version event = (has_kind version event ≡ true) × IsSpellable event

-- the first line of the version's scripts
abbrev pub header : Version → List ℕ
header First = codes "tokc-script 1\n"
header Second = codes "tokc-script 2\n"

-- the bytes are the version's first line and the spellings that it has of these events, one after another
abbrev pub IsScriptOf : Version → List ℕ → List EventData → Type 0
IsScriptOf version bytes es = (bytes ≡ header version ++ flat_map event_text es) × AllByRecursion (HasSpelling version) es

-- .. of some version
abbrev pub IsScript : List ℕ → List EventData → Type 0
IsScript bytes es = (version : Version) × IsScriptOf version bytes es

-- the first n bytes are a script
abbrev pub IsScriptFront : List ℕ → ℕ → Type 0
IsScriptFront bytes n = (n ≤ length bytes) × ((es : List EventData) × IsScript (take n bytes) es)

-- the end of the longest prefix that is a script, or 0 where none is
pub record IsScriptEnd (bytes : List ℕ) (n : ℕ) : Type 0 where
  pub front : (n ≡ 0) ⊎ IsScriptFront bytes n
  pub longest : (m : ℕ) → n < m → IsScriptFront bytes m → ⊥

-- where bytes that are no script are refused: at the first byte that is not UTF-8, and in a text at the stop
pub record IsScriptStop (bytes : List ℕ) (n : ℕ) : Type 0 where
  pub none : (es : List EventData) → IsScript bytes es → ⊥
  pub place : (¬ (IsUtf8 bytes) × IsValidUpTo bytes n) ⊎ (IsUtf8 bytes × IsScriptEnd bytes n)
