-- What is said of a token that a text defines is of bytes.
use Rattle.std.proofs.Common.{◌≡◌, ℕ, ◌^◌, Bool, true, false, cond, List, [], ◌∷◌, codes, length, All, Option, Some, None, refl, ap, sym, subst}
use Rattle.std.specs.List.{AllByRecursion, list_all}
use Rattle.std.specs.Prelude.{option_and_then, unwrap_or}
use Rattle.std.specs.Str.{IsUtf8, bytes_eq}
use Rattle.std.proofs.lemmas.Bool.{and_from}
use Rattle.std.proofs.lemmas.List.Elements.{recursion_from_All}
use Rattle.json_span.specs.FitsIn.{FitsIn, MembersFitIn, SaidFits}
use Rattle.json_span.specs.Laws.{ShowsSay}
use Rattle.json_span.specs.Plain.{PlainValue}
use Rattle.json_span.specs.Says.{SaysText, plain_of, plain_fields}
use Rattle.json_span.specs.Spelling.{are_bytes}
use Rattle.json_span.specs.Tree.{a_null, a_boolean, a_number, a_string, an_array, an_object, Placed, placed, Members, no_members, a_member, entries_in, tree_of, string_in, value_of_name}
use Rattle.json_span.proofs.Utf8.{utf8_bytes}
use Rattle.token_tree.specs.Shape.{entries_at, mark_in, mark_of, said_description, said_deprecated}
use Rattle.token_tree.specs.Tree.{Definition}
use Rattle.token_tree.specs.declared.mark.Mark.{Mark}
use Rattle.token_tree.specs.declared.mark.Mark.TheVariants.{No}
use Rattle.type_rules.proofs.Standing.{some_is}
use Rattle.group_inherit.specs.Flattening.{Flattened}
use Rattle.group_inherit.specs.Merging.{either}
use Rattle.json_out.specs.Properties.{ExtrasData}
use Rattle.json_out.specs.Sheets.{reason_of, text_or_none}
use Rattle.token_cells.specs.Cell.{TokenPath, extras_of}
use Rattle.token_cells.specs.Existence.{IsDefined}

-- names
names_bytes : (path : TokenPath) → AllByRecursion IsUtf8 path → list_all are_bytes path ≡ true
names_bytes [] h = refl
names_bytes (name ∷ path) (h, hs) =
    and_from (are_bytes name) (list_all are_bytes path) (utf8_bytes name h) (names_bytes path hs)

pub path_bytes : (path : TokenPath) → All IsUtf8 path → list_all are_bytes path ≡ true
path_bytes path h = names_bytes path (recursion_from_All IsUtf8 path h)

-- an earlier mark counts
pub nearer_mark : (own group : Option Mark) → are_bytes (reason_of (unwrap_or own No)) ≡ true
    → are_bytes (reason_of (unwrap_or group No)) ≡ true
    → are_bytes (reason_of (unwrap_or (either own group) No)) ≡ true
nearer_mark None group h k = k
nearer_mark (Some m) group h k = h

abbrev IsText : List ℕ → Type 0
IsText s = are_bytes s ≡ true

abbrev HasText : Option Mark → Type 0
HasText m = IsText (reason_of (unwrap_or m No))

-- a plain value of the shape of a placed one; of a number its length is kept
abbrev plainly : Placed → PlainValue ℕ
plainly n = plain_of length n

abbrev Fits : ℕ → Placed → Type 0
Fits k n = FitsIn k (plainly n)

module _ (k : ℕ) where
  -- what is said of a value that fits
  text_bytes : (n : Placed) → Fits k n → IsText (text_or_none (string_in (tree_of n)))
  text_bytes (placed a_null start end) fits = refl
  text_bytes (placed (a_boolean b) start end) fits = refl
  text_bytes (placed (a_number d) start end) fits = refl
  text_bytes (placed (a_string s) start end) fits = utf8_bytes s fits
  text_bytes (placed (an_array ns) start end) fits = refl
  text_bytes (placed (an_object ms) start end) fits = refl

  flag_bytes : (b : Bool) → IsText (reason_of (mark_of b))
  flag_bytes true = refl
  flag_bytes false = refl

  mark_bytes : (n : Placed) → Fits k n → HasText (mark_in (tree_of n))
  mark_bytes (placed a_null start end) fits = refl
  mark_bytes (placed (a_boolean b) start end) fits = flag_bytes b
  mark_bytes (placed (a_number d) start end) fits = refl
  mark_bytes (placed (a_string s) start end) fits = utf8_bytes s fits
  mark_bytes (placed (an_array ns) start end) fits = refl
  mark_bytes (placed (an_object ms) start end) fits = refl

  -- the members of one that fits
  under_by : (b : Bool) (v n : Placed) (rest : Option Placed) → Fits k v → (rest ≡ Some n → Fits k n) → cond b (Some v) rest ≡ Some n → Fits k n
  under_by true v n rest here later e = subst (Fits k) (some_is v n e) here
  under_by false v n rest here later e = later e

  under_fits : (name : List ℕ) (ms : Members) (n : Placed) → MembersFitIn k (plain_fields length ms) → value_of_name name (entries_in ms) ≡ Some n → Fits k n
  under_fits name no_members n h e = absurd (let z : ⊥ = cc in z)
  under_fits name (a_member s start end v ms) n (here, fits, rest) e =
      under_by (bytes_eq s name) v n (value_of_name name (entries_in ms)) fits (λ e2. under_fits name ms n rest e2) e

  entry_fits : (name : List ℕ) (object n : Placed) → Fits k object → value_of_name name (entries_at object) ≡ Some n → Fits k n
  entry_fits name (placed a_null start end) n h e = absurd (let z : ⊥ = cc in z)
  entry_fits name (placed (a_boolean b) start end) n h e = absurd (let z : ⊥ = cc in z)
  entry_fits name (placed (a_number d) start end) n h e = absurd (let z : ⊥ = cc in z)
  entry_fits name (placed (a_string s) start end) n h e = absurd (let z : ⊥ = cc in z)
  entry_fits name (placed (an_array ns) start end) n h e = absurd (let z : ⊥ = cc in z)
  entry_fits name (placed (an_object ms) start end) n (few, fits) e = under_fits name ms n fits e

  -- what is said of an object that fits
  module _ (object : Placed) (fits : Fits k object) where
    described : (u : Option Placed) → value_of_name (codes "$description") (entries_at object) ≡ u
        → IsText (text_or_none (option_and_then (λ n. string_in (tree_of n)) u))
    described None is = refl
    described (Some n) is = text_bytes n (entry_fits (codes "$description") object n fits is)

    marked : (u : Option Placed) → value_of_name (codes "$deprecated") (entries_at object) ≡ u
        → HasText (option_and_then (λ n. mark_in (tree_of n)) u)
    marked None is = refl
    marked (Some n) is = mark_bytes n (entry_fits (codes "$deprecated") object n fits is)

    description_bytes : IsText (text_or_none (said_description (entries_at object)))
    description_bytes = described (value_of_name (codes "$description") (entries_at object)) refl

    deprecated_bytes : HasText (said_deprecated (entries_at object))
    deprecated_bytes = marked (value_of_name (codes "$deprecated") (entries_at object)) refl

-- what JSON shows of the token beside its value
pub record AreTexts (e : ExtrasData) : Type 0 where
  pub description : IsText (text_or_none e.description)
  pub reason : IsText (reason_of e.mark)

pub extras_bytes : ShowsSay ℕ → SaidFits ℕ → (path : TokenPath) (f : Flattened) → IsDefined path f → AreTexts (extras_of f)
extras_bytes say said path f h =
    let d = h.definition in
    let says : SaysText length f.def.source (plainly d.object) = say length f.def.source d.object d.shown in
    let fits : Fits (2 ^ 64) d.object = said length f.def.source (plainly d.object) (2 ^ 64) h.utf8 h.fits says in
    let description : f.def.description ≡ said_description (entries_at d.object) = ap (λ (x : Definition). x.description) d.same in
    let own : f.def.deprecated ≡ said_deprecated (entries_at d.object) = ap (λ (x : Definition). x.deprecated) d.same in
    let told = description_bytes (2 ^ 64) d.object fits in
    let mark = deprecated_bytes (2 ^ 64) d.object fits in
    record {
      description = subst (λ o. IsText (text_or_none o)) (sym description) told;
      reason = nearer_mark f.def.deprecated f.group_mark (subst HasText (sym own) mark) h.mark;
    }
