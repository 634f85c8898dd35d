-- What the grammar derives shows a value.
use Rattle.std.proofs.Common.{◌≡◌, ℕ, ◌-◌, ◌≤◌, List, [], ◌∷◌, ◌++◌, length, true, false, refl, sym, ap, ◌∙◌, append_assoc, arith}
use Rattle.grammar.specs.Grammar.{Rule, seq, many, named, Reads, Derives, no_byte, one_byte, both, left, right, no_more, more, by_name}
use Rattle.grammar.proofs.Steps.{no_longer}
use Rattle.json_span.specs.Grammar.{Name, value, string, one}
use Rattle.json_span.specs.Predictive.{square, curly, rules, symbol, list_item_of, more_of, inside_of, json}
use Rattle.json_span.specs.Tree.{Tree, a_null, a_boolean, a_number, a_string, an_array, an_object, Placed, placed, Elements, no_elements, an_element, Members, no_members, a_member}
use Rattle.json_span.specs.Reading.{StringAt, BeginsAt, ValueAt, with_span, Shape, null_shape, false_shape, true_shape, number_shape, string_shape, array_shape, object_shape, ElementsAt, no_element, first_element, MoreElements, last_element, next_element, member_at, MembersAt, no_member, first_member, MoreMembers, last_member, next_member, Shows}
use Rattle.json_span.proofs.Shorts.{is_value}
use Rattle.json_span.proofs.Contents.{content_of_rest}

joined : (t m u f g : List ℕ) → t ≡ f ++ m → m ≡ g ++ u → t ≡ (f ++ g) ++ u
joined t m u f g e e2 = e ∙ ap (λ z. f ++ z) e2 ∙ sym (append_assoc f g u)

-- what was read
pub front_of : {r : Rule Name} {t u : List ℕ} → Reads rules r t u → (k : List ℕ) × (t ≡ k ++ u)
front_of no_byte = ([], refl)
front_of (one_byte {c = c} h) = (c ∷ [], refl)
front_of {t = t} {u = u} (both {u = m} x y) = let (f, e) = front_of x in let (g, e2) = front_of y in (f ++ g, joined t m u f g e e2)
front_of (left x) = front_of x
front_of (right x) = front_of x
front_of no_more = ([], refl)
front_of {t = t} {u = u} (more {u = m} x y) = let (f, e) = front_of x in let (g, e2) = front_of y in (f ++ g, joined t m u f g e e2)
front_of (by_name x) = front_of x

begins_at : (total : ℕ) (t : List ℕ) → length t ≤ total → BeginsAt total t (total - length t)
begins_at total t h = omega arith

pub string_of : {t u : List ℕ} → Reads rules (named string) t u → (s : List ℕ) × StringAt t s u
string_of (by_name (both (one_byte {c = c} {t = inner} h) r)) =
    let (s, k) = content_of_rest r in
    (s, record { reads = by_name (both (one_byte h) r); inner = inner; quoted = ap (λ z. z ∷ inner) (is_value c 34 h); content = k })

placed_at : (total : ℕ) (t u : List ℕ) (v : Tree) → length t ≤ total → length u ≤ length t → Shape total t v u → (n : Placed) × ValueAt total t n u
placed_at total t u v h l x = (placed v (total - length t) (total - length u), with_span x (begins_at total t h) (begins_at total u (omega (arith, h, l))))

mutual
  pub value_of : (total : ℕ) {t u : List ℕ} → Reads rules (named value) t u → length t ≤ total → (n : Placed) × ValueAt total t n u
  value_of total {t} {u} (by_name (left x)) h = placed_at total t u (a_boolean false) h (no_longer x) (false_shape x)
  value_of total {t} {u} (by_name (right (left x))) h = placed_at total t u a_null h (no_longer x) (null_shape x)
  value_of total {t} {u} (by_name (right (right (left x)))) h = placed_at total t u (a_boolean true) h (no_longer x) (true_shape x)
  value_of total {t} {u} (by_name (right (right (right (left (both x y)))))) h =
      let (ms, z) = inside_members total y (omega (arith, no_longer x)) in placed_at total t u (an_object ms) h (omega (arith, no_longer x, no_longer y)) (object_shape x z)
  value_of total {t} {u} (by_name (right (right (right (right (left (both x y))))))) h =
      let (ns, z) = inside_elements total y (omega (arith, no_longer x)) in placed_at total t u (an_array ns) h (omega (arith, no_longer x, no_longer y)) (array_shape x z)
  value_of total {t} {u} (by_name (right (right (right (right (right (left x))))))) h = let (k, e) = front_of x in placed_at total t u (a_number k) h (no_longer x) (number_shape x e)
  value_of total {t} {u} (by_name (right (right (right (right (right (right x))))))) h = let (s, k) = string_of x in placed_at total t u (a_string s) h (no_longer x) (string_shape k)

  inside_elements : (total : ℕ) {t u : List ℕ} → Reads rules (inside_of square) t u → length t ≤ total → (ns : Elements) × ElementsAt total t ns u
  inside_elements total (left x) h = (no_elements, no_element x)
  inside_elements total (right (both (both no_byte (both v b)) (both ms y))) h =
      let (n, w) = value_of total v h in
      let (ns, m) = elements_from total ms y (omega (arith, no_longer v, no_longer b)) in
      (an_element n ns, first_element w b m)

  elements_from : (total : ℕ) {t w u : List ℕ} → Reads rules (many (seq (symbol 44) (list_item_of square))) t w → Reads rules (one 93) w u → length t ≤ total → (ns : Elements) × MoreElements total t ns u
  elements_from total no_more y h = (no_elements, last_element y)
  elements_from total (more (both x (both no_byte (both v b))) ms) y h =
      let (n, w) = value_of total v (omega (arith, no_longer x)) in
      let (ns, m) = elements_from total ms y (omega (arith, no_longer x, no_longer v, no_longer b)) in
      (an_element n ns, next_element x w b m)

  inside_members : (total : ℕ) {t u : List ℕ} → Reads rules (inside_of curly) t u → length t ≤ total → (ms : Members) × MembersAt total t ms u
  inside_members total (left x) h = (no_members, no_member x)
  inside_members total {t} (right (both (both (both {u = l} q (both c d)) (both v b)) (both ms y))) h =
      let (s, k) = string_of q in
      let (n, w) = value_of total v (omega (arith, no_longer q, no_longer c, no_longer d)) in
      let (fs, m) = members_from total ms y (omega (arith, no_longer q, no_longer c, no_longer d, no_longer v, no_longer b)) in
      (a_member s (total - length t) (total - length l) n fs, first_member (member_at k (begins_at total t h) (begins_at total l (omega (arith, no_longer q))) c d w) b m)

  members_from : (total : ℕ) {t w u : List ℕ} → Reads rules (many (seq (symbol 44) (list_item_of curly))) t w → Reads rules (one 125) w u → length t ≤ total → (ms : Members) × MoreMembers total t ms u
  members_from total no_more y h = (no_members, last_member y)
  members_from total (more (both {u = a} x (both (both {u = l} q (both c d)) (both v b))) ms) y h =
      let (s, k) = string_of q in
      let (n, w) = value_of total v (omega (arith, no_longer x, no_longer q, no_longer c, no_longer d)) in
      let (fs, m) = members_from total ms y (omega (arith, no_longer x, no_longer q, no_longer c, no_longer d, no_longer v, no_longer b)) in
      (a_member s (total - length a) (total - length l) n fs, next_member x (member_at k (begins_at total a (omega (arith, no_longer x))) (begins_at total l (omega (arith, no_longer x, no_longer q))) c d w) b m)

pub more_elements_of : (total : ℕ) {t u : List ℕ} → Reads rules (more_of square) t u → length t ≤ total → (ns : Elements) × MoreElements total t ns u
more_elements_of total (both ms y) h = elements_from total ms y h

pub more_members_of : (total : ℕ) {t u : List ℕ} → Reads rules (more_of curly) t u → length t ≤ total → (ms : Members) × MoreMembers total t ms u
more_members_of total (both ms y) h = members_from total ms y h

pub shown : (text : List ℕ) → Derives rules json text → (n : Placed) × Shows text n
shown text (both {u = t} b (both {u = m} v c)) = let (n, w) = value_of (length text) v (no_longer b) in (n, (t, m, b, w, c))
