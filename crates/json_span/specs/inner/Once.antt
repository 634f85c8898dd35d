-- Of one place of a table at most one value stands there.
use Rattle.std.proofs.Common.{◌≡◌, ℕ, ◌+◌, List, ◌∷◌, ◌++◌, take, drop, Some, Bool, ◌==◌, if◌then◌else◌, true, false, refl, sym, ap, ◌∙◌, subst, arith, append_assoc}
use Rattle.std.proofs.lemmas.List.{append_cancel_left, take-append-drop}
use Rattle.std.proofs.Math.Logic.{∥∥₁_elim, ∥∥₁_prop}
use Rattle.std.specs.Coded.{Coded, Coded-set, code_by, coded×, coded_ℕ, coded_list, coded_option, ×_prop, Unit-prop, le_prop, Π_prop}
use Rattle.std.specs.Str.{IsCharBoundary}
use mathlib.Core.HLevel.{Σ_prop_path, ×₃_prop}
use Rattle.std.proofs.Math.Nat.{ℕ_set}
use Rattle.json_span.specs.Tree.{Tree, a_null, a_boolean, a_number, a_string, an_array, an_object, Placed, placed, Elements, no_elements, an_element, Members, no_members, a_member, Entry}
use Rattle.json_span.specs.Reading.{StringAt}
use Rattle.json_span.specs.Characters.{CharactersAt}
use Rattle.json_span.specs.CodedText.{coded_text}
use Rattle.json_span.specs.inner.SameContents.{same_content}
use Rattle.json_span.specs.Table.{size, sizes, size_inside, member_sizes, span, spans, spans_inside, spans_of, member_spans, truth_byte, HasType, IsString, Fits, FitsAt, AllFit, MembersFit, Lies, AllLie, MembersLie, MemberLies, Standing, MemberStanding, AllStanding, MembersStanding}
use Rattle.json_span.specs.declared.table.Span.{Span}
use Rattle.json_span.specs.declared.value_type.ValueType.{ValueType}
use Rattle.json_span.specs.declared.value_type.ValueType.TheVariants.{Null, Boolean, Number, String, Array, Object}

head_is : {A : Type 0} {x y : A} {xs ys : List A} → x ∷ xs ≡ y ∷ ys → x ≡ y
head_is e = cc

tail_is : {A : Type 0} {x y : A} {xs ys : List A} → x ∷ xs ≡ y ∷ ys → xs ≡ ys
tail_is e = cc

some_is : {A : Type 0} {m n : A} → Some m ≡ Some n → m ≡ n
some_is e = cc

size_some : (n : Placed) (k : ℕ) → 0 ≡ size n + k → ⊥
size_some (placed v start end) k e = omega (arith, e)

same_truth : (b c : Bool) → truth_byte b ≡ truth_byte c → b ≡ c
same_truth true true e = refl
same_truth false false e = refl
same_truth true false e = absurd (omega (arith, e))
same_truth false true e = absurd (omega (arith, e))

pub string_at_one : (t s u s2 u2 : List ℕ) → StringAt t s u → StringAt t s2 u2 → s ≡ s2
string_at_one t s u s2 u2 p q =
    let same : p.inner ≡ q.inner = tail_is (sym p.quoted ∙ q.quoted) in
    (same_content (subst (λ z. CharactersAt z s u) same p.content) q.content).0

pub one_string : (text : List ℕ) (start end : ℕ) (s s2 : List ℕ) → IsString text start s end → IsString text start s2 end → s ≡ s2
one_string text start end s s2 p q = ∥∥₁_elim p (Coded-set coded_text s s2) (λ x. ∥∥₁_elim q (Coded-set coded_text s s2) (λ y. string_at_one (drop start text) s (drop end text) s2 (drop end text) x y))

mutual
  pub same_placed : (text : List ℕ) (a z b y i : ℕ) (t u : Placed) (r q : List Span) → spans a z i t ++ r ≡ spans b y i u ++ q → Fits text t → Fits text u → (a ≡ b) × (z ≡ y) × (t ≡ u)
  same_placed text a z b y i (placed v s e) (placed w c d) r q h f g =
      let x : span a z s e (i + 1 + size_inside v) ≡ span b y c d (i + 1 + size_inside w) = head_is h in
      let ps : s ≡ c = ap (λ k. k.start) x in
      let pe : e ≡ d = ap (λ k. k.end) x in
      let pn : i + 1 + size_inside v ≡ i + 1 + size_inside w = ap (λ k. k.next) x in
      let g2 = subst (λ k. HasType text k w × FitsAt text k d w) (sym ps) g in
      let g3 = subst (λ k. HasType text s w × FitsAt text s k w) (sym pe) g2 in
      let pv = same_tree text s e (i + 1) v w r q (tail_is h) (omega (arith, pn)) f g3 in
      (ap (λ k. k.name) x, ap (λ k. k.name_end) x, λ k. placed (pv k) (ps k) (pe k))

  same_tree : (text : List ℕ) (start end i : ℕ) (v w : Tree) (r q : List Span) → spans_inside i v ++ r ≡ spans_inside i w ++ q → size_inside v ≡ size_inside w → HasType text start v × FitsAt text start end v → HasType text start w × FitsAt text start end w → v ≡ w
  same_tree text start end i a_null a_null r q h n f g = refl
  same_tree text start end i (a_boolean b) (a_boolean c) r q h n f g = ap a_boolean (same_truth b c (some_is (sym f.1 ∙ g.1)))
  same_tree text start end i (a_number k) (a_number l) r q h n f g = ap a_number (sym f.1.0 ∙ g.1.0)
  same_tree text start end i (a_string s) (a_string t) r q h n f g = ap a_string (one_string text start end s t f.1 g.1)
  same_tree text start end i (an_array ns) (an_array ms) r q h n f g = ap an_array (same_all text i ns ms r q h n f.1 g.1)
  same_tree text start end i (an_object ns) (an_object ms) r q h n f g = ap an_object (same_members text i ns ms r q h n f.1 g.1)
  same_tree text start end i v w r q h n f g = let e = some_is (sym f.0 ∙ g.0) in cc

  pub same_all : (text : List ℕ) (i : ℕ) (ns ms : Elements) (r q : List Span) → spans_of i ns ++ r ≡ spans_of i ms ++ q → sizes ns ≡ sizes ms → AllFit text ns → AllFit text ms → ns ≡ ms
  same_all text i no_elements no_elements r q h n f g = refl
  same_all text i no_elements (an_element m ms) r q h n f g = absurd (size_some m (sizes ms) n)
  same_all text i (an_element m ms) no_elements r q h n f g = absurd (size_some m (sizes ms) (sym n))
  same_all text i (an_element a ns) (an_element b ms) r q h n f g =
      let k = sym (append_assoc (spans 0 0 i a) (spans_of (i + size a) ns) r) ∙ h ∙ append_assoc (spans 0 0 i b) (spans_of (i + size b) ms) q in
      let (x, y, p) = same_placed text 0 0 0 0 i a b (spans_of (i + size a) ns ++ r) (spans_of (i + size b) ms ++ q) k f.0 g.0 in
      let j : spans 0 0 i a ++ (spans_of (i + size a) ns ++ r) ≡ spans 0 0 i a ++ (spans_of (i + size a) ms ++ q) = subst (λ z. spans 0 0 i a ++ (spans_of (i + size a) ns ++ r) ≡ spans 0 0 i z ++ (spans_of (i + size z) ms ++ q)) (sym p) k in
      let s : size a ≡ size b = ap size p in
      let rest = same_all text (i + size a) ns ms r q (append_cancel_left (spans 0 0 i a) (spans_of (i + size a) ns ++ r) (spans_of (i + size a) ms ++ q) j) (omega (arith, n, s)) f.1 g.1 in
      λ z. an_element (p z) (rest z)

  pub same_members : (text : List ℕ) (i : ℕ) (ns ms : Members) (r q : List Span) → member_spans i ns ++ r ≡ member_spans i ms ++ q → member_sizes ns ≡ member_sizes ms → MembersFit text ns → MembersFit text ms → ns ≡ ms
  same_members text i no_members no_members r q h n f g = refl
  same_members text i no_members (a_member s a z m ms) r q h n f g = absurd (size_some m (member_sizes ms) n)
  same_members text i (a_member s a z m ms) no_members r q h n f g = absurd (size_some m (member_sizes ms) (sym n))
  same_members text i (a_member s a z c ns) (a_member t b y d ms) r q h n f g =
      let k = sym (append_assoc (spans a z i c) (member_spans (i + size c) ns) r) ∙ h ∙ append_assoc (spans b y i d) (member_spans (i + size d) ms) q in
      let (pa, pz, p) = same_placed text a z b y i c d (member_spans (i + size c) ns ++ r) (member_spans (i + size d) ms ++ q) k f.1 g.1 in
      let j1 : spans a z i c ++ (member_spans (i + size c) ns ++ r) ≡ spans a z i d ++ (member_spans (i + size d) ms ++ q) = k ∙ (λ w. spans (sym pa w) (sym pz w) i d ++ (member_spans (i + size d) ms ++ q)) in
      let j : spans a z i c ++ (member_spans (i + size c) ns ++ r) ≡ spans a z i c ++ (member_spans (i + size c) ms ++ q) = subst (λ w. spans a z i c ++ (member_spans (i + size c) ns ++ r) ≡ spans a z i w ++ (member_spans (i + size w) ms ++ q)) (sym p) j1 in
      let e : size c ≡ size d = ap size p in
      let rest = same_members text (i + size c) ns ms r q (append_cancel_left (spans a z i c) (member_spans (i + size c) ns ++ r) (member_spans (i + size c) ms ++ q) j) (omega (arith, n, e)) f.2 g.2 in
      let g0 : IsString text a t z = subst (λ w. IsString text w t z) (sym pa) (subst (λ w. IsString text b t w) (sym pz) g.0) in
      let names = one_string text a z s t f.0 g0 in
      λ w. a_member (names w) (pa w) (pz w) (p w) (rest w)

pub front_of : {A : Type 0} (n : ℕ) (l s : List A) → take n l ≡ s → l ≡ s ++ drop n l
front_of n l s e = sym (take-append-drop n l) ∙ ap (λ z. z ++ drop n l) e

-- at most one value stands there
pub one_value_there : (text : List ℕ) (table : List Span) (a z b y i : ℕ) (t u : Placed) → Lies text table a z i t → Lies text table b y i u → (a ≡ b) × (z ≡ y) × (t ≡ u)
one_value_there text table a z b y i t u p q =
    same_placed text a z b y i t u (drop (size t) (drop i table)) (drop (size u) (drop i table)) (sym (front_of (size t) (drop i table) (spans a z i t) p.0) ∙ front_of (size u) (drop i table) (spans b y i u) q.0) p.1 q.1

pub one_list : (text : List ℕ) (table : List Span) (i stop : ℕ) (ns ms : Elements) → AllLie text table i stop ns → AllLie text table i stop ms → ns ≡ ms
one_list text table i stop ns ms p q =
    same_all text i ns ms (drop (sizes ns) (drop i table)) (drop (sizes ms) (drop i table)) (sym (front_of (sizes ns) (drop i table) (spans_of i ns) p.0) ∙ front_of (sizes ms) (drop i table) (spans_of i ms) q.0)
    (omega (arith, p.1, q.1)) p.2 q.2

pub one_object : (text : List ℕ) (table : List Span) (i stop : ℕ) (ns ms : Members) → MembersLie text table i stop ns → MembersLie text table i stop ms → ns ≡ ms
one_object text table i stop ns ms p q =
    same_members text i ns ms (drop (member_sizes ns) (drop i table)) (drop (member_sizes ms) (drop i table)) (sym (front_of (member_sizes ns) (drop i table) (member_spans i ns) p.0) ∙ front_of (member_sizes ms) (drop i table) (member_spans i ms) q.0)
    (omega (arith, p.1, q.1)) p.2 q.2

-- and in one way
coded_span : Coded Span
coded_span =
    code_by (ℕ × (ℕ × (ℕ × (ℕ × ℕ)))) (coded× coded_ℕ (coded× coded_ℕ (coded× coded_ℕ (coded× coded_ℕ coded_ℕ)))) (λ s. (s.name, (s.name_end, (s.start, (s.end, s.next)))))
    (λ p. record { name = p.0; name_end = p.1.0; start = p.1.1.0; end = p.1.1.1.0; next = p.1.1.1.1 }) (λ _. refl)

-- a number for each type
abbrev type_number : ValueType → ℕ
type_number Null = 0
type_number Boolean = 1
type_number Number = 2
type_number String = 3
type_number Array = 4
type_number Object = 5

abbrev numbered_type : ℕ → ValueType
numbered_type n = if n == 0 then Null else (if n == 1 then Boolean else (if n == 2 then Number else (if n == 3 then String else (if n == 4 then Array else Object))))

numbered_back : (v : ValueType) → numbered_type (type_number v) ≡ v
numbered_back Null = refl
numbered_back Boolean = refl
numbered_back Number = refl
numbered_back String = refl
numbered_back Array = refl
numbered_back Object = refl

coded_type : Coded ValueType
coded_type = code_by ℕ coded_ℕ type_number numbered_type numbered_back

boundary_prop : (text : List ℕ) (i : ℕ) → IsProp (IsCharBoundary text i)
boundary_prop text i = ×_prop le_prop (Π_prop (λ _. Π_prop (λ _. le_prop)))

mutual
  fits_prop : (text : List ℕ) (t : Placed) → IsProp (Fits text t)
  fits_prop text (placed v start end) = ×_prop (Coded-set (coded_option coded_type) _ _) (fits_at_prop text start end v)

  fits_at_prop : (text : List ℕ) (start end : ℕ) (v : Tree) → IsProp (FitsAt text start end v)
  fits_at_prop text start end a_null = Unit-prop
  fits_at_prop text start end (a_boolean b) = Coded-set (coded_option coded_ℕ) _ _
  fits_at_prop text start end (a_number k) = ×₃_prop (Coded-set coded_text _ _) le_prop (×_prop (boundary_prop text start) (boundary_prop text end))
  fits_at_prop text start end (a_string s) = ∥∥₁_prop
  fits_at_prop text start end (an_array ns) = all_fit_prop text ns
  fits_at_prop text start end (an_object ms) = members_fit_prop text ms

  all_fit_prop : (text : List ℕ) (ns : Elements) → IsProp (AllFit text ns)
  all_fit_prop text no_elements = Unit-prop
  all_fit_prop text (an_element n ns) = ×_prop (fits_prop text n) (all_fit_prop text ns)

  members_fit_prop : (text : List ℕ) (ms : Members) → IsProp (MembersFit text ms)
  members_fit_prop text no_members = Unit-prop
  members_fit_prop text (a_member s a z n ms) = ×₃_prop ∥∥₁_prop (fits_prop text n) (members_fit_prop text ms)

pub value_once : (text : List ℕ) (table : List Span) (i : ℕ) → IsProp (Standing text table i)
value_once text table i a b =
    let (p, q, r) = one_value_there text table a.0.0 a.0.1.0 b.0.0 b.0.1.0 i a.0.1.1 b.0.1.1 a.1 b.1 in
    Σ_prop_path (λ t. ×_prop (Coded-set (coded_list coded_span) _ _) (fits_prop text t.1.1)) (λ k. (p k, (q k, r k)))

-- at most one member
pub one_member : (text : List ℕ) (table : List Span) (i : ℕ) (e f : Entry) → MemberLies text table i e → MemberLies text table i f → e ≡ f
one_member text table i e f p q =
    let (x, y, z) = one_value_there text table e.start e.end f.start f.end i e.value f.value p.1 q.1 in
    let g : IsString text e.start f.name e.end = subst (λ w. IsString text w f.name e.end) (sym x) (subst (λ w. IsString text f.start f.name w) (sym y) q.0) in
    let n = one_string text e.start e.end e.name f.name p.0 g in
    λ k. record { name = n k; start = x k; end = y k; value = z k }

pub member_once : (text : List ℕ) (table : List Span) (i : ℕ) → IsProp (MemberStanding text table i)
member_once text table i a b = Σ_prop_path (λ e. ×_prop ∥∥₁_prop (×_prop (Coded-set (coded_list coded_span) _ _) (fits_prop text e.value))) (one_member text table i a.0 b.0 a.1 b.1)

pub elements_once : (text : List ℕ) (table : List Span) (i stop : ℕ) → IsProp (AllStanding text table i stop)
elements_once text table i stop a b = Σ_prop_path (λ ns. ×₃_prop (Coded-set (coded_list coded_span) _ _) (ℕ_set _ _) (all_fit_prop text ns)) (one_list text table i stop a.0 b.0 a.1 b.1)

pub members_once : (text : List ℕ) (table : List Span) (i stop : ℕ) → IsProp (MembersStanding text table i stop)
members_once text table i stop a b = Σ_prop_path (λ ms. ×₃_prop (Coded-set (coded_list coded_span) _ _) (ℕ_set _ _) (members_fit_prop text ms)) (one_object text table i stop a.0 b.0 a.1 b.1)
