-- Maps from the bytes of texts to numbers, as entries show them.
use Rattle.std.proofs.Common.{◌≡◌, ℕ, ◌+◌, ◌<◌, ◌≤◌, length, get_or, drop, List, [], ◌∷◌, Option, Some, None, option_map, is_some, cond, sym, ◌∙◌, ap, refl, Bool, true, false}
use Rattle.std.proofs.lemmas.List.{drop_more, drop_all}
use Rattle.std.proofs.lemmas.Map.Text.{is_eq-slice_cmp}
use Rattle.std.proofs.lemmas.Slice.Eq.{bytes_eq-Decides}
use Rattle.std.specs.List.{position_from}
use Rattle.std.specs.declared.vec.Vec.{Vec}
use Rattle.std.specs.BTreeMap.{insert_entry}
use Rattle.std.specs.Cmp.Lexicographic.{nat_list_cmp_total}
use Rattle.std.specs.FinMap as map
use Rattle.std.specs.Map.{lookup}
use Rattle.std.specs.Option.{option_or}
use Rattle.std.specs.Ordering.{is_eq}
use Rattle.std.specs.Str.{bytes_eq}
use Rattle.tk_io.specs.Order.{text_cmp}
use Rattle.tk_io.specs.View.{entries_view}
use Rattle.json_span.specs.Tree.{Entry}
use Rattle.json_span.specs.View.{field_view}
use Rattle.json_span.specs.declared.fields.Field.{Field}
use Rattle.tk_io.proofs.MapViews as views
use Rattle.tk_io.proofs.MapViews.{at_insert}
use Rattle.tk_io.proofs.TextMaps.{text_cmp-IsAntisymmetric}
use Rattle.resolver_doc.specs.Document.{pointer}
use Rattle.resolver_doc.specs.inner.Known.{entries_of_fields}
use Rattle.resolver_doc.specs.inner.Pointers.{Numbers, AddsFirst, Completes}

same_option : {X : Type 0} (o : Option X) → option_map (λ v. v) o ≡ o
same_option None = refl
same_option (Some v) = refl

module _ {Z : Type 0} where
  abbrev pub by_text : List (Vec ℕ Z × ℕ) → Numbers
  by_text es = map.from_entries (entries_view (λ text. text.items) (λ v. v) es)

  pub text_get : (es : List (Vec ℕ Z × ℕ)) (q : List ℕ) → lookup (λ k. is_eq (text_cmp q k.items)) es ≡ map.get (by_text es) q
  text_get es q = sym (views.get_shown nat_list_cmp_total text_cmp-IsAntisymmetric (λ text. text.items) (λ v. v) es q ∙ same_option _)

  pub text_put : (es fs : List (Vec ℕ Z × ℕ)) (k : Vec ℕ Z) (v : ℕ) → fs ≡ insert_entry (λ i j. text_cmp i.items j.items) es k v → by_text fs ≡ map.insert (by_text es) k.items v
  text_put es fs k v h = views.insert_shown nat_list_cmp_total text_cmp-IsAntisymmetric (λ text. text.items) (λ v. v) es fs k v h

or_none : {A : Type 0} (o : Option A) → o ≡ option_or o None
or_none None = refl
or_none (Some x) = refl

is_none : {A : Type 0} (o : Option A) → is_some o ≡ false → o ≡ None
is_none None e = refl
is_none (Some x) e = cc

same : (text q : List ℕ) → bytes_eq text q ≡ true → text ≡ q
same text q e = (bytes_eq-Decides text q).0 e

-- a text at which nothing stands is added
pub adds_new : (before : Numbers) (text : List ℕ) (number : ℕ) → is_some (map.get before text) ≡ false → AddsFirst before (map.insert before text number) text number
adds_new before text number none q =
    at_insert nat_list_cmp_total before text number q
    ∙ (ap (λ b. cond b (Some number) (map.get before q)) (is_eq-slice_cmp text q) ∙ at (bytes_eq text q) refl)
  where
    at : (b : Bool) → bytes_eq text q ≡ b → cond b (Some number) (map.get before q) ≡ option_or (map.get before q) (cond b (Some number) None)
    at true e = sym (ap (λ o. option_or o (Some number)) (ap (map.get before) (sym (same text q e)) ∙ is_none (map.get before text) none))
    at false e = or_none (map.get before q)

-- a number that stood at the text is put back
pub puts_back : (before between after : Numbers) (text : List ℕ) (number earlier : ℕ) → Some earlier ≡ map.get before text → between ≡ map.insert before text number → after ≡ map.insert between text earlier → AddsFirst before after text number
puts_back before between after text number earlier some e f q =
    ap (λ m. map.get m q) (f ∙ ap (λ m. map.insert m text earlier) e)
    ∙ (at_insert nat_list_cmp_total (map.insert before text number) text earlier q
    ∙ (ap (λ o. cond (is_eq (text_cmp text q)) (Some earlier) o) (at_insert nat_list_cmp_total before text number q)
    ∙ (ap (λ b. cond b (Some earlier) (cond b (Some number) (map.get before q))) (is_eq-slice_cmp text q) ∙ at (bytes_eq text q) refl)))
  where
    at : (b : Bool) → bytes_eq text q ≡ b → cond b (Some earlier) (cond b (Some number) (map.get before q)) ≡ option_or (map.get before q) (cond b (Some number) None)
    at true h = ap (λ o. option_or o (Some number)) (some ∙ ap (map.get before) (same text q h))
    at false h = or_none (map.get before q)

-- with the next member, the others complete the numbers
pub completes_next : (name : List ℕ) (before after : Numbers) (n : ℕ) (e : Entry) (es all : List Entry) → Completes name before n (e ∷ es) all → AddsFirst before after (pointer name e) n → Completes name after (n + 1) es all
completes_next name before after n e es all c a q =
    ap (λ o. option_or o (position_from (λ x. bytes_eq (pointer name x) q) (n + 1) es)) (a q)
    ∙ (over (position_from (λ x. bytes_eq (pointer name x) q) (n + 1) es) (map.get before q) (bytes_eq (pointer name e) q) ∙ c q)
  where
    over : (rest o : Option ℕ) (b : Bool) → option_or (option_or o (cond b (Some n) None)) rest ≡ option_or o (cond b (Some n) rest)
    over rest None true = refl
    over rest None false = refl
    over rest (Some x) b = refl

-- nothing is left: the map has all
pub completes_all : (name : List ℕ) (numbers : Numbers) (n : ℕ) (all : List Entry) (q : List ℕ) → Completes name numbers n [] all → map.get numbers q ≡ position_from (λ e. bytes_eq (pointer name e) q) 0 all
completes_all name numbers n all q c = or_none (map.get numbers q) ∙ c q

-- at first the map has nothing
pub completes_first : (name : List ℕ) (numbers : Numbers) (all : List Entry) → numbers ≡ map.empty → Completes name numbers 0 all all
completes_first name numbers all e q = ap (λ o. option_or o (position_from (λ x. bytes_eq (pointer name x) q) 0 all)) (ap (λ m. map.get m q) e ∙ map.get-empty text_cmp q)

-- the members from a number on, and after the last
pub next_fields : (fields : List Field) (n : ℕ) (x : Field) → n < length fields → x ≡ get_or fields n x → entries_of_fields (drop n fields) ≡ field_view x ∷ entries_of_fields (drop (n + 1) fields)
next_fields fields n x h is = ap entries_of_fields (drop_more fields n x h) ∙ ap (λ y. field_view y ∷ entries_of_fields (drop (n + 1) fields)) (sym is)

pub no_fields : (fields : List Field) (n : ℕ) → length fields ≤ n → entries_of_fields (drop n fields) ≡ []
no_fields fields n h = ap entries_of_fields (drop_all n fields h)
