-- How much a value without references holds, and how its copies are put together.
use Rattle.std.proofs.Common.{◌≡◌, ℕ, zero, suc, Bool, ◌+◌, ◌<◌, List, [], ◌∷◌, ◌++◌, length, get_or, take, map, Some, None, refl, sym, ap, ap₂, ◌∙◌, arith}
use Rattle.std.proofs.lemmas.List.{take_more, map-append}
use Rattle.json_span.specs.Plain.{plain_null, plain_boolean, plain_number, plain_string, plain_array, plain_object, Plains, no_plains, plains, PlainMembers, no_plain_members, plain_members, plains_of, plain_members_of, plains_in, plain_entries_in, plain_boolean_in, plain_number_in, plain_string_in, plain_array_in, plain_object_in}
use Rattle.json_span.specs.PlainView.{Value, ValueEntry}

abbrev mutual
  pub value_weight : Value → ℕ
  value_weight plain_null = 0
  value_weight (plain_boolean b) = 0
  value_weight (plain_number k) = 0
  value_weight (plain_string s) = 0
  value_weight (plain_array vs) = plains_weight vs + 2
  value_weight (plain_object ms) = members_weight ms + 2

  plains_weight : Plains (List ℕ) → ℕ
  plains_weight no_plains = 0
  plains_weight (plains v vs) = value_weight v + 1 + plains_weight vs

  members_weight : PlainMembers (List ℕ) → ℕ
  members_weight no_plain_members = 0
  members_weight (plain_members name v ms) = value_weight v + 1 + members_weight ms

-- of lists of them
abbrev pub value_weights : List Value → ℕ
value_weights [] = 0
value_weights (v ∷ vs) = value_weight v + 1 + value_weights vs

abbrev pub entry_weights : List ValueEntry → ℕ
entry_weights [] = 0
entry_weights (e ∷ es) = value_weight e.value + 1 + entry_weights es

plains_weigh : (vs : Plains (List ℕ)) → plains_weight vs ≡ value_weights (plains_in vs)
plains_weigh no_plains = refl
plains_weigh (plains v vs) = ap (λ k. value_weight v + 1 + k) (plains_weigh vs)

members_weigh : (ms : PlainMembers (List ℕ)) → members_weight ms ≡ entry_weights (plain_entries_in ms)
members_weigh no_plain_members = refl
members_weigh (plain_members name v ms) = ap (λ k. value_weight v + 1 + k) (members_weigh ms)

pub array_heavier : (v : Value) (vs : List Value) → plain_array_in v ≡ Some vs → value_weights vs + 1 < value_weight v
array_heavier plain_null vs e = absurd (cc)
array_heavier (plain_boolean b) vs e = absurd (cc)
array_heavier (plain_number k) vs e = absurd (cc)
array_heavier (plain_string s) vs e = absurd (cc)
array_heavier (plain_array ws) vs e = let same : plains_in ws ≡ vs = cc in omega (arith, plains_weigh ws, ap value_weights same)
array_heavier (plain_object ms) vs e = absurd (cc)

pub object_heavier : (v : Value) (es : List ValueEntry) → plain_object_in v ≡ Some es → entry_weights es + 1 < value_weight v
object_heavier plain_null es e = absurd (cc)
object_heavier (plain_boolean b) es e = absurd (cc)
object_heavier (plain_number k) es e = absurd (cc)
object_heavier (plain_string s) es e = absurd (cc)
object_heavier (plain_array vs) es e = absurd (cc)
object_heavier (plain_object ms) es e = let same : plain_entries_in ms ≡ es = cc in omega (arith, members_weigh ms, ap entry_weights same)

pub item_lighter : {A : Type 0} (view : A → Value) (xs : List A) (i : ℕ) (x : A) → i < length xs → x ≡ get_or xs i x → value_weight (view x) < value_weights (map view xs)
item_lighter view [] i x h e = absurd (omega (arith, h))
item_lighter view (y ∷ xs) zero x h e = omega (arith, ap (λ z. value_weight (view z)) e)
item_lighter view (y ∷ xs) (suc i) x h e = let k = item_lighter view xs i x (omega (arith, h)) e in omega (arith, k)

pub member_lighter : {A : Type 0} (view : A → ValueEntry) (xs : List A) (i : ℕ) (x : A) → i < length xs → x ≡ get_or xs i x → value_weight (view x).value < entry_weights (map view xs)
member_lighter view [] i x h e = absurd (omega (arith, h))
member_lighter view (y ∷ xs) zero x h e = omega (arith, ap (λ z. value_weight (view z).value) e)
member_lighter view (y ∷ xs) (suc i) x h e = let k = member_lighter view xs i x (omega (arith, h)) e in omega (arith, k)

-- one more copy
pub copied_more : {A B : Type 0} (view : A → B) (xs : List A) (i : ℕ) (x : A) (so_far new : List B) (y : B) → i < length xs → x ≡ get_or xs i x
    → so_far ≡ map view (take i xs) → new ≡ so_far ++ y ∷ [] → y ≡ view x → new ≡ map view (take (i + 1) xs)
copied_more view xs i x so_far new y h e before made is =
    let more : take (i + 1) xs ≡ take i xs ++ x ∷ [] = take_more xs i x h ∙ ap (λ z. take i xs ++ z ∷ []) (sym e) in
    made ∙ ap₂ (λ zs z. zs ++ z ∷ []) before is ∙ sym (ap (map view) more ∙ map-append view (take i xs) (x ∷ []))

-- what a value is that is no list
array_is : (v : Value) (vs : List Value) → plain_array_in v ≡ Some vs → v ≡ plain_array (plains_of vs)
array_is plain_null vs e = absurd (cc)
array_is (plain_boolean b) vs e = absurd (cc)
array_is (plain_number k) vs e = absurd (cc)
array_is (plain_string s) vs e = absurd (cc)
array_is (plain_array ws) vs e = let same : plains_in ws ≡ vs = cc in ap plain_array (sym (there ws)) ∙ ap (λ us. plain_array (plains_of us)) same
  where
    there : (ws : Plains (List ℕ)) → plains_of (plains_in ws) ≡ ws
    there no_plains = refl
    there (plains u us) = ap (plains u) (there us)
array_is (plain_object ms) vs e = absurd (cc)

object_is : (v : Value) (es : List ValueEntry) → plain_object_in v ≡ Some es → v ≡ plain_object (plain_members_of es)
object_is plain_null es e = absurd (cc)
object_is (plain_boolean b) es e = absurd (cc)
object_is (plain_number k) es e = absurd (cc)
object_is (plain_string s) es e = absurd (cc)
object_is (plain_array vs) es e = absurd (cc)
object_is (plain_object ms) es e = let same : plain_entries_in ms ≡ es = cc in ap plain_object (sym (there ms)) ∙ ap (λ us. plain_object (plain_members_of us)) same
  where
    there : (ms : PlainMembers (List ℕ)) → plain_members_of (plain_entries_in ms) ≡ ms
    there no_plain_members = refl
    there (plain_members name v us) = ap (plain_members name v) (there us)

pub array_copied : (v : Value) (vs ws : List Value) → plain_array_in v ≡ Some vs → ws ≡ vs → plain_array (plains_of ws) ≡ v
array_copied v vs ws e same = ap (λ us. plain_array (plains_of us)) same ∙ sym (array_is v vs e)

pub object_copied : (v : Value) (es fs : List ValueEntry) → plain_object_in v ≡ Some es → fs ≡ es → plain_object (plain_members_of fs) ≡ v
object_copied v es fs e same = ap (λ us. plain_object (plain_members_of us)) same ∙ sym (object_is v es e)

pub string_is : (v : Value) (s : List ℕ) → plain_string_in v ≡ Some s → plain_string s ≡ v
string_is plain_null s e = absurd (cc)
string_is (plain_boolean b) s e = absurd (cc)
string_is (plain_number k) s e = absurd (cc)
string_is (plain_string t) s e = let same : t ≡ s = cc in ap plain_string (sym same)
string_is (plain_array vs) s e = absurd (cc)
string_is (plain_object ms) s e = absurd (cc)

pub number_is : (v : Value) (s : List ℕ) → plain_number_in v ≡ Some s → plain_number s ≡ v
number_is plain_null s e = absurd (cc)
number_is (plain_boolean b) s e = absurd (cc)
number_is (plain_number k) s e = let same : k ≡ s = cc in ap plain_number (sym same)
number_is (plain_string t) s e = absurd (cc)
number_is (plain_array vs) s e = absurd (cc)
number_is (plain_object ms) s e = absurd (cc)

pub null_is : (v : Value) → plain_array_in v ≡ None → plain_object_in v ≡ None → plain_string_in v ≡ None → plain_number_in v ≡ None → plain_boolean_in v ≡ None → plain_null ≡ v
null_is plain_null a o s n b = refl
null_is (plain_boolean c) a o s n b = absurd (cc)
null_is (plain_number k) a o s n b = absurd (cc)
null_is (plain_string t) a o s n b = absurd (cc)
null_is (plain_array vs) a o s n b = absurd (cc)
null_is (plain_object ms) a o s n b = absurd (cc)

pub boolean_is : (v : Value) (c : Bool) → plain_boolean_in v ≡ Some c → plain_boolean c ≡ v
boolean_is plain_null c e = absurd (cc)
boolean_is (plain_boolean b) c e = let same : b ≡ c = cc in ap plain_boolean (sym same)
boolean_is (plain_number k) c e = absurd (cc)
boolean_is (plain_string t) c e = absurd (cc)
boolean_is (plain_array vs) c e = absurd (cc)
boolean_is (plain_object ms) c e = absurd (cc)
