-- What is written for a JSON value is read as this value.
use Rattle.std.proofs.Common.{◌≡◌, ℕ, Bool, true, false, List, [], ◌∷◌, ◌++◌, Option, Some, None, refl, sym, ap, ◌∙◌, subst, append_assoc, append-nil}
use Rattle.std.specs.Prelude.{◌&&◌, ◌^◌, nat_lt, nat_le, unsigned_abs, option_and_then, if◌then◌else◌, ⊤}
use Rattle.grammar.specs.Grammar.{Reads, one_byte, both, left, no_more, more}
use Rattle.dec_fix.specs.Decimal.{Decimal, IsExact}
use Rattle.dec_fix.specs.Reading.{text_decimal, accepted}
use Rattle.dec_fix.specs.Writing.{spelling}
use Rattle.dec_fix.proofs.ReadingBack.{written_read}
use Rattle.json_span.specs.Grammar.{ws}
use Rattle.json_span.specs.Predictive.{rules}
use Rattle.json_span.specs.Plain.{plain_null, plain_boolean, plain_number, plain_string, plain_array, plain_object, Plains, no_plains, plains, PlainMembers, no_plain_members, plain_members}
use Rattle.json_span.specs.Says.{Says, says_null, says_true, says_false, says_number, says_string, says_list, says_object, says_no_item, says_items, SaysMoreItems, says_no_more_item, says_more_items, SaysMember, says_member, says_no_member, says_members, SaysMoreMembers, says_no_more_member, says_more_members}
use Rattle.json_span.specs.Spelling.{string_text, are_bytes}
use Rattle.json_span.proofs.Spelled.{string_at}
use Rattle.json_out.specs.PlatformValue.{Json}
use Rattle.json_out.specs.Reading.{number_of_text, or_zero, IsJson}
use Rattle.json_out.specs.Spelling.{value_text, more_items_text, more_members_text}
use Rattle.json_out.proofs.NumbersRead.{spelling_reads}

-- strings are of bytes, and numbers are such as are read
abbrev mutual
  pub CanRead : Json → Type 0
  CanRead plain_null = ⊤
  CanRead (plain_boolean b) = ⊤
  CanRead (plain_number d) = IsExact d
  CanRead (plain_string s) = are_bytes s ≡ true
  CanRead (plain_array vs) = ItemsCanRead vs
  CanRead (plain_object ms) = MembersCanRead ms

  pub ItemsCanRead : Plains Decimal → Type 0
  ItemsCanRead no_plains = ⊤
  ItemsCanRead (plains v vs) = CanRead v × ItemsCanRead vs

  pub MembersCanRead : PlainMembers Decimal → Type 0
  MembersCanRead no_plain_members = ⊤
  MembersCanRead (plain_members s v ms) = (are_bytes s ≡ true) × (CanRead v × MembersCanRead ms)

from_test : (b : Bool) (c d : Decimal) → (if b then Some c else None) ≡ Some d → c ≡ d
from_test true c d e = cc
from_test false c d e = cc

from_accepted : (o : Option Decimal) (d : Decimal) → option_and_then accepted o ≡ Some d → or_zero o ≡ d
from_accepted None d e = cc
from_accepted (Some c) d e = from_test (nat_lt (unsigned_abs c.c) (10 ^ 30) && nat_le c.s 30) c d e

pub number_again : (d : Decimal) → IsExact d → number_of_text (spelling d) ≡ d
number_again d h = from_accepted (text_decimal (spelling d)) d (written_read d h)

-- a blank before blanks
pub one_blank : {t u : List ℕ} → Reads rules ws t u → Reads rules ws (32 ∷ t) u
one_blank b = more (left (one_byte refl)) b

-- a member's text before others
pub regrouped : (a b c t : List ℕ) → (a ++ (58 ∷ 32 ∷ (b ++ c))) ++ t ≡ a ++ (58 ∷ 32 ∷ (b ++ (c ++ t)))
regrouped a b c t = append_assoc a (58 ∷ 32 ∷ (b ++ c)) t ∙ ap (λ z. a ++ (58 ∷ 32 ∷ z)) (append_assoc b c t)

pub member_says : (s : List ℕ) (v : Json) (u : List ℕ) → are_bytes s ≡ true → Says number_of_text (value_text v ++ u) v u → SaysMember number_of_text (string_text s ++ (58 ∷ 32 ∷ (value_text v ++ u))) s v u
member_says s v u h x = says_member (string_at s (58 ∷ 32 ∷ (value_text v ++ u)) h) no_more (both (one_byte refl) (one_blank no_more)) x

mutual
  pub value_says : (v : Json) (t : List ℕ) → CanRead v → Says number_of_text (value_text v ++ t) v t
  value_says plain_null t h = says_null (both (one_byte refl) (both (one_byte refl) (both (one_byte refl) (one_byte refl))))
  value_says (plain_boolean true) t h = says_true (both (one_byte refl) (both (one_byte refl) (both (one_byte refl) (one_byte refl))))
  value_says (plain_boolean false) t h = says_false (both (one_byte refl) (both (one_byte refl) (both (one_byte refl) (both (one_byte refl) (one_byte refl)))))
  value_says (plain_number d) t h = subst (λ k. Says number_of_text (spelling d ++ t) (plain_number k) t) (number_again d h) (says_number (spelling d) (spelling_reads d t h) refl)
  value_says (plain_string s) t h = says_string (string_at s t h)
  value_says (plain_array no_plains) t h = says_list (both (one_byte refl) no_more) (says_no_item (one_byte refl))
  value_says (plain_array (plains v vs)) t h =
      subst (λ z. Says number_of_text (91 ∷ z) (plain_array (plains v vs)) t) (sym (append_assoc (value_text v) (more_items_text vs) t))
      (says_list (both (one_byte refl) no_more) (says_items (value_says v (more_items_text vs ++ t) h.0) no_more (more_items_say vs t h.1)))
  value_says (plain_object no_plain_members) t h = says_object (both (one_byte refl) no_more) (says_no_member (one_byte refl))
  value_says (plain_object (plain_members s v ms)) t (hs, (hv, hms)) =
      subst (λ z. Says number_of_text (123 ∷ z) (plain_object (plain_members s v ms)) t) (sym (regrouped (string_text s) (value_text v) (more_members_text ms) t))
      (says_object (both (one_byte refl) no_more)
      (says_members (member_says s v (more_members_text ms ++ t) hs (value_says v (more_members_text ms ++ t) hv)) no_more (more_members_say ms t hms)))

  more_items_say : (vs : Plains Decimal) (t : List ℕ) → ItemsCanRead vs → SaysMoreItems number_of_text (more_items_text vs ++ t) vs t
  more_items_say no_plains t h = says_no_more_item (one_byte refl)
  more_items_say (plains v vs) t h =
      subst (λ z. SaysMoreItems number_of_text (44 ∷ 32 ∷ z) (plains v vs) t) (sym (append_assoc (value_text v) (more_items_text vs) t))
      (says_more_items (both (one_byte refl) (one_blank no_more)) (value_says v (more_items_text vs ++ t) h.0) no_more (more_items_say vs t h.1))

  more_members_say : (ms : PlainMembers Decimal) (t : List ℕ) → MembersCanRead ms → SaysMoreMembers number_of_text (more_members_text ms ++ t) ms t
  more_members_say no_plain_members t h = says_no_more_member (one_byte refl)
  more_members_say (plain_members s v ms) t (hs, (hv, hms)) =
      subst (λ z. SaysMoreMembers number_of_text (44 ∷ 32 ∷ z) (plain_members s v ms) t) (sym (regrouped (string_text s) (value_text v) (more_members_text ms) t))
      (says_more_members (both (one_byte refl) (one_blank no_more)) (member_says s v (more_members_text ms ++ t) hs (value_says v (more_members_text ms ++ t) hv)) no_more (more_members_say ms t hms))

pub text_says : (v : Json) → CanRead v → IsJson (value_text v) v
text_says v h = record {
  before = value_text v;
  after = [];
  lead = no_more;
  says = subst (λ z. Says number_of_text z v []) (append-nil (value_text v)) (value_says v [] h);
  trail = no_more;
}
