-- What an object shows does not change where its offsets are moved, but for the offsets.
use Rattle.std.proofs.Common.{◌≡◌, ℕ, ◌+◌, Bool, true, false, not, ◌||◌, List, [], ◌∷◌, ◌++◌, map, Option, Some, None, option_map, refl, sym, ap, ap₂, ◌∙◌, cond, codes}
use Rattle.std.specs.Prelude.{is_some, unwrap_or, option_and_then}
use Rattle.std.specs.List.{flat_map}
use Rattle.std.specs.Str.{bytes_eq}
use Rattle.json_span.specs.Tree.{Tree, a_null, a_boolean, a_number, a_string, an_array, an_object, Placed, placed, Members, no_members, a_member, Entry, entries_in, tree_of, start_of, end_of, string_in, value_of_name}
use Rattle.json_span.specs.Parts.{moved, moved_tree, moved_members}
use Rattle.token_tree.specs.declared.fault.Rule.TheVariants as rule
use Rattle.token_tree.specs.Texts.{is_reserved, kind_named}
use Rattle.token_tree.specs.Shape.{members_in, entries_at, has, are_token, is_token, kind_in, mark_in, has_token_form, at_value, token_member_breaks, token_breaks, said, said_kind, said_description, said_deprecated, token_value}

abbrev pub moved_entry : ℕ → Entry → Entry
moved_entry d e = record { name = e.name; start = d + e.start; end = d + e.end; value = moved d e.value }

pub moved_tree_of : (d : ℕ) (n : Placed) → tree_of (moved d n) ≡ moved_tree d (tree_of n)
moved_tree_of d (placed v start end) = refl

pub moved_start : (d : ℕ) (n : Placed) → start_of (moved d n) ≡ d + start_of n
moved_start d (placed v start end) = refl

pub moved_end : (d : ℕ) (n : Placed) → end_of (moved d n) ≡ d + end_of n
moved_end d (placed v start end) = refl

entries_moved : (d : ℕ) (ms : Members) → entries_in (moved_members d ms) ≡ map (moved_entry d) (entries_in ms)
entries_moved d no_members = refl
entries_moved d (a_member s start end n ms) = ap (λ es. record { name = s; start = d + start; end = d + end; value = moved d n } ∷ es) (entries_moved d ms)

tree_entries_moved : (d : ℕ) (v : Tree) → entries_in (members_in (moved_tree d v)) ≡ map (moved_entry d) (entries_in (members_in v))
tree_entries_moved d a_null = refl
tree_entries_moved d (a_boolean b) = refl
tree_entries_moved d (a_number k) = refl
tree_entries_moved d (a_string s) = refl
tree_entries_moved d (an_array ns) = refl
tree_entries_moved d (an_object ms) = entries_moved d ms

pub entries_at_moved : (d : ℕ) (n : Placed) → entries_at (moved d n) ≡ map (moved_entry d) (entries_at n)
entries_at_moved d (placed v start end) = tree_entries_moved d v

chosen : {A B : Type 0} (f : A → B) (b : Bool) (x y : Option A) → cond b (option_map f x) (option_map f y) ≡ option_map f (cond b x y)
chosen f true x y = refl
chosen f false x y = refl

pub under_moved : (d : ℕ) (name : List ℕ) (es : List Entry) → value_of_name name (map (moved_entry d) es) ≡ option_map (moved d) (value_of_name name es)
under_moved d name [] = refl
under_moved d name (e ∷ es) = ap (cond (bytes_eq e.name name) (Some (moved d e.value))) (under_moved d name es) ∙ chosen (moved d) (bytes_eq e.name name) (Some e.value) (value_of_name name es)

some_moved : {A B : Type 0} (f : A → B) (o : Option A) → is_some (option_map f o) ≡ is_some o
some_moved f None = refl
some_moved f (Some x) = refl

pub has_moved : (d : ℕ) (name : List ℕ) (es : List Entry) → has name (map (moved_entry d) es) ≡ has name es
has_moved d name es = ap is_some (under_moved d name es) ∙ some_moved (moved d) (value_of_name name es)

-- readings of a value that do not look at offsets
abbrev Stays : {A : Type 0} → (Tree → A) → Type 0
Stays read = (d : ℕ) (v : Tree) → read (moved_tree d v) ≡ read v

string_stays : Stays string_in
string_stays d a_null = refl
string_stays d (a_boolean b) = refl
string_stays d (a_number k) = refl
string_stays d (a_string s) = refl
string_stays d (an_array ns) = refl
string_stays d (an_object ms) = refl

mark_stays : Stays mark_in
mark_stays d a_null = refl
mark_stays d (a_boolean b) = refl
mark_stays d (a_number k) = refl
mark_stays d (a_string s) = refl
mark_stays d (an_array ns) = refl
mark_stays d (an_object ms) = refl

kind_stays : Stays kind_in
kind_stays d v = ap (option_and_then kind_named) (string_stays d v)

token_form_stays : (valued : Bool) (name : List ℕ) → Stays (has_token_form valued name)
token_form_stays valued name d a_null = refl
token_form_stays valued name d (a_boolean b) = refl
token_form_stays valued name d (a_number k) = refl
token_form_stays valued name d (a_string s) = refl
token_form_stays valued name d (an_array ns) = refl
token_form_stays valued name d (an_object ms) = refl

said_moved : {A : Type 0} (read : Tree → Option A) → Stays read → (d : ℕ) (name : List ℕ) (es : List Entry) → said read name (map (moved_entry d) es) ≡ said read name es
said_moved read stays d name es = ap (option_and_then (λ n. read (tree_of n))) (under_moved d name es) ∙ through (value_of_name name es)
  where
    through : (o : Option Placed) → option_and_then (λ n. read (tree_of n)) (option_map (moved d) o) ≡ option_and_then (λ n. read (tree_of n)) o
    through None = refl
    through (Some n) = ap read (moved_tree_of d n) ∙ stays d (tree_of n)

pub kind_moved : (d : ℕ) (es : List Entry) → said_kind (map (moved_entry d) es) ≡ said_kind es
kind_moved d es = said_moved kind_in kind_stays d (codes "$type") es

pub description_moved : (d : ℕ) (es : List Entry) → said_description (map (moved_entry d) es) ≡ said_description es
description_moved d es = said_moved string_in string_stays d (codes "$description") es

pub deprecated_moved : (d : ℕ) (es : List Entry) → said_deprecated (map (moved_entry d) es) ≡ said_deprecated es
deprecated_moved d es = said_moved mark_in mark_stays d (codes "$deprecated") es

pub token_moved : (d : ℕ) (n : Placed) → is_token (moved d n) ≡ is_token n
token_moved d n = ap are_token (entries_at_moved d n) ∙ ap₂ (λ a b. a || b) (has_moved d (codes "$value") (entries_at n)) (has_moved d (codes "$ref") (entries_at n))

or_moved : (d : ℕ) (o p : Option Placed) (n : Placed) → unwrap_or (option_map (moved d) o) (unwrap_or (option_map (moved d) p) (moved d n)) ≡ moved d (unwrap_or o (unwrap_or p n))
or_moved d (Some x) p n = refl
or_moved d None (Some y) n = refl
or_moved d None None n = refl

pub value_moved : (d : ℕ) (n : Placed) → token_value (moved d n) ≡ moved d (token_value n)
value_moved d n =
    ap₂ (λ o p. unwrap_or o (unwrap_or p (moved d n)))
    (ap (value_of_name (codes "$ref")) (entries_at_moved d n) ∙ under_moved d (codes "$ref") (entries_at n))
    (ap (value_of_name (codes "$value")) (entries_at_moved d n) ∙ under_moved d (codes "$value") (entries_at n))
    ∙ or_moved d (value_of_name (codes "$ref") (entries_at n)) (value_of_name (codes "$value") (entries_at n)) n

-- no break is left where the moved object has none

none_member : (d : ℕ) (valued : Bool) (e : Entry) → token_member_breaks valued (moved_entry d e) ≡ [] → token_member_breaks valued e ≡ []
none_member d valued e h =
    elim (is_reserved e.name) as (λ r. cond (not r) (record { rule = rule.TokenChild; start = d + e.start; end = d + e.end } ∷ []) (cond (has_token_form valued e.name (tree_of (moved d e.value))) [] (at_value rule.Property (moved d e.value))) ≡ []
    → cond (not r) (record { rule = rule.TokenChild; start = e.start; end = e.end } ∷ []) (cond (has_token_form valued e.name (tree_of e.value)) [] (at_value rule.Property e.value)) ≡ []) [
      | true ↦ λ h. formed (has_token_form valued e.name (tree_of (moved d e.value))) (has_token_form valued e.name (tree_of e.value)) (ap (has_token_form valued e.name) (moved_tree_of d e.value) ∙ token_form_stays valued e.name d (tree_of e.value)) h
      | false ↦ λ h. absurd (cc)
    ] h
  where
    formed : (a b : Bool) → a ≡ b → cond a [] (at_value rule.Property (moved d e.value)) ≡ [] → cond b [] (at_value rule.Property e.value) ≡ []
    formed true true k h = refl
    formed true false k h = absurd (cc)
    formed false b k h = absurd (cc)

front_none : {A : Type 0} (xs ys : List A) → xs ++ ys ≡ [] → xs ≡ []
front_none [] ys e = refl
front_none (x ∷ xs) ys e = absurd (cc)

back_none : {A : Type 0} (xs ys : List A) → xs ++ ys ≡ [] → ys ≡ []
back_none [] ys e = e
back_none (x ∷ xs) ys e = absurd (cc)

none_members : (d : ℕ) (valued : Bool) (es : List Entry) → flat_map (token_member_breaks valued) (map (moved_entry d) es) ≡ [] → flat_map (token_member_breaks valued) es ≡ []
none_members d valued [] h = refl
none_members d valued (e ∷ es) h =
    ap₂ (λ x y. x ++ y) (none_member d valued e (front_none (token_member_breaks valued (moved_entry d e)) _ h)) (none_members d valued es (back_none (token_member_breaks valued (moved_entry d e)) _ h))

pub sound_moved : (d : ℕ) (n : Placed) → token_breaks (entries_at (moved d n)) ≡ [] → token_breaks (entries_at n) ≡ []
sound_moved d n h =
    let es = entries_at n in
    none_members d (has (codes "$value") es) es
    (ap (λ b. flat_map (token_member_breaks b) (map (moved_entry d) es)) (sym (has_moved d (codes "$value") es))
    ∙ (ap token_breaks (sym (entries_at_moved d n)) ∙ h))
