-- What lies in a table, taken apart.
use Rattle.std.proofs.Common.{◌≡◌, ℕ, zero, suc, ◌+◌, ◌<◌, ◌≤◌, true, Option, None, List, [], ◌∷◌, ◌++◌, length, take, drop, Some, option_map, refl, sym, ap, ◌∙◌, subst, arith, append_assoc}
use Rattle.std.proofs.lemmas.List.{drop-drop}
use Rattle.std.proofs.lemmas.Option.{slice_get_within}
use Rattle.std.proofs.Math.Seq.{drop-append_seam, take-append_seam}
use Rattle.std.specs.List.{slice_get}
use Rattle.std.proofs.Math.Logic.{∥∥₁_elim, ∥∥₁_prop}
use Rattle.std.specs.Coded.{Coded-set, coded_bool, le_prop}
use Rattle.json_span.specs.Tree.{a_number, an_array, an_object, Placed, placed, Elements, no_elements, an_element, Members, no_members, a_member, Entry, start_of, end_of, tree_of, elements_in, entries_in, number_in, array_in, object_in}
use Rattle.json_span.specs.Types.{type_of, type_of_byte}
use Rattle.json_span.specs.Table.{size, sizes, size_inside, member_sizes, span, spans, spans_inside, spans_of, member_spans, IsNumberSlice, IsString, Fits, AllFit, MembersFit, Lies, AllLie, MembersLie, MemberLies, AllStanding, MembersStanding}
use Rattle.json_span.specs.declared.table.Span.{Span}
use Rattle.json_span.specs.declared.value_type.ValueType.{ValueType}
use Rattle.json_span.specs.declared.value_type.ValueType.TheVariants.{Number, Array, Object}
use Rattle.grammar.specs.Grammar.{within}
use Rattle.grammar.specs.Predict.{begins}
use Rattle.json_span.specs.Characters.{CharactersAt}
use Rattle.json_span.specs.inner.Escapes.{HasCharacters}
use Rattle.json_span.specs.Reading.{StringAt}
use Rattle.json_span.specs.CodedText.{coded_text}
use Rattle.json_span.specs.inner.Once.{front_of, string_at_one}
use Rattle.json_span.proofs.Spans.{length-spans, length-spans_of, length-member_spans}

pub got : {A : Type 0} (l : List A) (i : ℕ) (x : A) (r : List A) → drop i l ≡ x ∷ r → slice_get l i ≡ Some x
got [] zero x r e = cc
got [] (suc i) x r e = cc
got (y ∷ l) zero x r e = cc
got (y ∷ l) (suc i) x r e = got l i x r e

behind : {A : Type 0} (l : List A) (i n : ℕ) (s r : List A) → length s ≡ n → drop i l ≡ s ++ r → drop (i + n) l ≡ r
behind l i n s r h e = sym (drop-drop n i l) ∙ ap (drop n) e ∙ subst (λ k. drop k (s ++ r) ≡ r) h (drop-append_seam s r)

fronts : {A : Type 0} (n : ℕ) (s r : List A) → length s ≡ n → take n (s ++ r) ≡ s
fronts n s r h = subst (λ k. take k (s ++ r) ≡ s) h (take-append_seam s r)

pub value_from : (text : List ℕ) (table : List Span) (a z i : ℕ) (t : Placed) (r : List Span) → drop i table ≡ spans a z i t ++ r → Fits text t → Lies text table a z i t
value_from text table a z i t r e f = (ap (take (size t)) e ∙ fronts (size t) (spans a z i t) r (length-spans a z i t), f)

list_from : (text : List ℕ) (table : List Span) (i : ℕ) (ns : Elements) (r : List Span) → drop i table ≡ spans_of i ns ++ r → AllFit text ns → AllLie text table i (i + sizes ns) ns
list_from text table i ns r e f = (ap (take (sizes ns)) e ∙ fronts (sizes ns) (spans_of i ns) r (length-spans_of i ns), refl, f)

object_from : (text : List ℕ) (table : List Span) (i : ℕ) (ms : Members) (r : List Span) → drop i table ≡ member_spans i ms ++ r → MembersFit text ms → MembersLie text table i (i + member_sizes ms) ms
object_from text table i ms r e f = (ap (take (member_sizes ms)) e ∙ fronts (member_sizes ms) (member_spans i ms) r (length-member_spans i ms), refl, f)

-- the span of a value
pub span_seen : (text : List ℕ) (table : List Span) (a z i : ℕ) (t : Placed) → Lies text table a z i t → slice_get table i ≡ Some (span a z (start_of t) (end_of t) (i + size t))
span_seen text table a z i (placed v start end) p =
    let t = placed v start end in
    got table i (span a z start end (i + 1 + size_inside v)) (spans_inside (i + 1) v ++ drop (size t) (drop i table)) (front_of (size t) (drop i table) (spans a z i t) p.0)
    ∙ ap (λ n. Some (span a z start end n)) (omega arith)

-- the elements of an array, the members of an object
pub elements_stand : (text : List ℕ) (table : List Span) (a z i : ℕ) (t : Placed) → Lies text table a z i t → type_of (tree_of t) ≡ Array → (x : AllStanding text table (i + 1) (i + size t)) × (Some (elements_in x.0) ≡ array_in (tree_of t))
elements_stand text table a z i (placed (an_array ns) start end) p e =
    let t = placed (an_array ns) start end in
    let rest = drop (size t) (drop i table) in
    let q = list_from text table (i + 1) ns rest (behind table i 1 (span a z start end (i + 1 + sizes ns) ∷ []) (spans_of (i + 1) ns ++ rest) refl (front_of (size t) (drop i table) (spans a z i t) p.0)) p.1.1 in
    ((ns, (q.0, omega arith, q.2)), refl)
elements_stand text table a z i (placed v start end) p e = cc

pub members_stand : (text : List ℕ) (table : List Span) (a z i : ℕ) (t : Placed) → Lies text table a z i t → type_of (tree_of t) ≡ Object → (x : MembersStanding text table (i + 1) (i + size t)) × (Some (entries_in x.0) ≡ object_in (tree_of t))
members_stand text table a z i (placed (an_object ms) start end) p e =
    let t = placed (an_object ms) start end in
    let rest = drop (size t) (drop i table) in
    let q = object_from text table (i + 1) ms rest (behind table i 1 (span a z start end (i + 1 + member_sizes ms) ∷ []) (member_spans (i + 1) ms ++ rest) refl (front_of (size t) (drop i table) (spans a z i t) p.0)) p.1.1 in
    ((ms, (q.0, omega arith, q.2)), refl)
members_stand text table a z i (placed v start end) p e = cc

-- the first of some that stand, where there is one
pub none_left : (text : List ℕ) (table : List Span) (i stop : ℕ) (ns : Elements) → AllLie text table i stop ns → stop ≤ i → ns ≡ no_elements
none_left text table i stop no_elements p h = refl
none_left text table i stop (an_element (placed v start end) ns) p h = absurd (omega (arith, p.1, h))

pub one_left : (text : List ℕ) (table : List Span) (i stop : ℕ) (ns : Elements) → AllLie text table i stop ns → i < stop → (n : Placed) × (ms : Elements) × Lies text table 0 0 i n × AllLie text table (i + size n) stop ms × (ns ≡ an_element n ms)
one_left text table i stop no_elements p h = absurd (omega (arith, p.1, h))
one_left text table i stop (an_element n ms) p h =
    let rest = drop (sizes (an_element n ms)) (drop i table) in
    let whole : drop i table ≡ spans 0 0 i n ++ (spans_of (i + size n) ms ++ rest) = front_of (sizes (an_element n ms)) (drop i table) (spans_of i (an_element n ms)) p.0 ∙ append_assoc (spans 0 0 i n) (spans_of (i + size n) ms) rest in
    let q = list_from text table (i + size n) ms rest (behind table i (size n) (spans 0 0 i n) (spans_of (i + size n) ms ++ rest) (length-spans 0 0 i n) whole) p.2.1 in
    (n, ms, value_from text table 0 0 i n (spans_of (i + size n) ms ++ rest) whole p.2.0, (q.0, omega (arith, p.1), q.2), refl)

-- no more than there are places
places : (n : Placed) → 1 ≤ size n
places (placed v start end) = omega arith

pub no_more_elements : (ns : Elements) → length (elements_in ns) ≤ sizes ns
no_more_elements no_elements = omega arith
no_more_elements (an_element n ns) = let h = no_more_elements ns in let k = places n in omega (arith, h, k)

pub no_more_members : (ms : Members) → length (entries_in ms) ≤ member_sizes ms
no_more_members no_members = omega arith
no_more_members (a_member s a z n ms) = let h = no_more_members ms in let k = places n in omega (arith, h, k)

pub no_member_left : (text : List ℕ) (table : List Span) (i stop : ℕ) (ms : Members) → MembersLie text table i stop ms → stop ≤ i → ms ≡ no_members
no_member_left text table i stop no_members p h = refl
no_member_left text table i stop (a_member s a z (placed v start end) ns) p h = absurd (omega (arith, p.1, h))

pub member_left : (text : List ℕ) (table : List Span) (i stop : ℕ) (ms : Members) → MembersLie text table i stop ms → i < stop →
    (e : Entry) × (ns : Members) × MemberLies text table i e × MembersLie text table (i + size e.value) stop ns × (ms ≡ a_member e.name e.start e.end e.value ns)
member_left text table i stop no_members p h = absurd (omega (arith, p.1, h))
member_left text table i stop (a_member s a z n ms) p h =
    let rest = drop (member_sizes (a_member s a z n ms)) (drop i table) in
    let whole : drop i table ≡ spans a z i n ++ (member_spans (i + size n) ms ++ rest) = front_of (member_sizes (a_member s a z n ms)) (drop i table) (member_spans i (a_member s a z n ms)) p.0 ∙ append_assoc (spans a z i n) (member_spans (i + size n) ms) rest in
    let q = object_from text table (i + size n) ms rest (behind table i (size n) (spans a z i n) (member_spans (i + size n) ms ++ rest) (length-spans a z i n) whole) p.2.2 in
    (record { name = s; start = a; end = z; value = n }, ms, (p.2.0, value_from text table a z i n (member_spans (i + size n) ms ++ rest) whole p.2.1), (q.0, omega (arith, p.1), q.2), refl)

-- the first byte tells the type, and the truth
some_of : (o : Option ℕ) (k : ValueType) → option_map type_of_byte o ≡ Some k → (b : ℕ) × (o ≡ Some b)
some_of None k e = cc
some_of (Some b) k e = (b, refl)

pub has_first : (text : List ℕ) (t : Placed) → Fits text t → (b : ℕ) × (slice_get text (start_of t) ≡ Some b)
has_first text (placed v start end) f = some_of (slice_get text start) (type_of v) f.0

some_is : {A : Type 0} {m n : A} → Some m ≡ Some n → m ≡ n
some_is e = cc

pub type_told : (text : List ℕ) (t : Placed) (b : ℕ) → Fits text t → slice_get text (start_of t) ≡ Some b → type_of_byte b ≡ type_of (tree_of t)
type_told text (placed v start end) b f e = some_is (sym (ap (option_map type_of_byte) e) ∙ f.0)

-- the spelling of a number, the characters of a string
pub number_told : (text : List ℕ) (t : Placed) → Fits text t → type_of (tree_of t) ≡ Number → (k : List ℕ) × IsNumberSlice text (start_of t) (end_of t) k × (Some k ≡ number_in (tree_of t))
number_told text (placed (a_number k) start end) f e = (k, f.1, refl)
number_told text (placed v start end) f e = cc

-- a string at a place: its quote, and its characters
pub content_at : (text s : List ℕ) (a z : ℕ) → StringAt (drop a text) s (drop z text) → CharactersAt (drop (a + 1) text) s (drop z text)
content_at text s a z x = subst (λ t. CharactersAt t s (drop z text)) (sym (behind text a 1 (34 ∷ []) x.inner refl x.quoted)) x.content

pub has_content : (text s : List ℕ) (a z : ℕ) → IsString text a s z → HasCharacters (drop (a + 1) text)
has_content text s a z p = ∥∥₁_elim p ∥∥₁_prop (λ x. ∣ (s, drop z text, content_at text s a z x) ∣₁)

pub quote_seen : (text s : List ℕ) (a z : ℕ) → IsString text a s z → begins (within 34 34) (drop a text) ≡ true
quote_seen text s a z p = ∥∥₁_elim p (Coded-set coded_bool (begins (within 34 34) (drop a text)) true) (λ x. ap (begins (within 34 34)) x.quoted)

pub name_inside : (text s : List ℕ) (a z : ℕ) → IsString text a s z → a < length text
name_inside text s a z p = ∥∥₁_elim p le_prop (λ x. slice_get_within text a 34 (got text a 34 x.inner x.quoted))

pub name_read : (text s r : List ℕ) (a z end : ℕ) → IsString text a s z → StringAt (drop a text) r (drop end text) → s ≡ r
name_read text s r a z end p q = ∥∥₁_elim p (Coded-set coded_text s r) (λ x. string_at_one (drop a text) s (drop z text) r (drop end text) x q)
