-- The parts of what a text shows stand at their slices.
use Rattle.std.proofs.Common.{◌≡◌, ℕ, ◌+◌, ◌-◌, ◌≤◌, ◌<◌, ◌||◌, Bool, true, false, Some, List, [], ◌∷◌, ◌++◌, length, drop, option_map, refl, sym, ap, ◌∙◌, subst, arith, length-append, length-drop, append-nil}
use Rattle.std.specs.List.{slice_get}
use Rattle.std.specs.Prelude.{slice_range}
use Rattle.std.specs.Str.{IsUtf8}
use Rattle.std.proofs.lemmas.List.{drop-drop, append_cancel_right}
use Rattle.std.proofs.lemmas.List.Folds.{drop_split}
use Rattle.grammar.proofs.Steps.{no_longer, shorter}
use Rattle.std.proofs.Math.Seq.{drop-append_seam}
use Rattle.std.proofs.lemmas.Bool.Decides.{nat_tests}
use Rattle.grammar.specs.Grammar.{Rule, named, within, Reads}
use Rattle.grammar.specs.Predict.{begins, first}
use Rattle.json_span.specs.Grammar.{Name, number, string, value, null_word, false_word, true_word, ws}
use Rattle.json_span.specs.Predictive.{rules, ahead, symbol}
use Rattle.json_span.specs.Tree.{Tree, Placed, Elements, Members}
use Rattle.json_span.specs.Reading.{StringAt, BeginsAt, ValueAt, with_span, Shape, null_shape, false_shape, true_shape, number_shape, string_shape, array_shape, object_shape, ElementsAt, no_element, first_element, MoreElements, last_element, next_element, MemberAt, member_at, MembersAt, no_member, first_member, MoreMembers, last_member, next_member, Shows}
use Rattle.json_span.specs.Table.{HasType, IsString, Fits, FitsAt, AllFit, MembersFit, Lies, spans}
use Rattle.json_span.specs.Types.{type_of_byte}
use Rattle.json_span.specs.declared.value_type.ValueType.TheVariants.{Number}
use Rattle.json_span.specs.declared.table.Span.{Span}
use Rattle.json_span.proofs.Predictive.{honest_json}
use Rattle.json_span.proofs.Boundaries.{number_boundaries}
use Rattle.json_span.proofs.Begins.{begun}
use Rattle.json_span.proofs.Cut.{reads_cut}
use Rattle.json_span.proofs.Unique.{value_reads}
use Rattle.json_span.proofs.Lying.{got, value_from}

-- the text ends with this
abbrev Ends : List ℕ → List ℕ → Type 0
Ends text t = (k : ℕ) × (k ≤ length text) × (t ≡ drop k text)

ends_at : (text t : List ℕ) (k total : ℕ) → length text ≡ total → Ends text t → BeginsAt total t k → t ≡ drop k text
ends_at text t k total h (j, le, e) b =
    let long : length t ≡ length text - j = ap length e ∙ length-drop j text in
    let same : j ≡ k = omega (arith, b, le, long, h) in
    e ∙ ap (λ z. drop z text) same

ends_behind : (text t p u : List ℕ) → Ends text t → t ≡ p ++ u → Ends text u
ends_behind text t p u (k, le, e) c =
    let long : length t ≡ length text - k = ap length e ∙ length-drop k text in
    let parts : length t ≡ length p + length u = ap length c ∙ length-append p u in
    (k + length p, omega (arith, le, long, parts), sym (drop-append_seam p u) ∙ ap (drop (length p)) (sym c ∙ e) ∙ drop-drop (length p) k text)

ends_read : (text : List ℕ) (r : Rule Name) {t u : List ℕ} → Ends text t → Reads rules r t u → Ends text u
ends_read text r {t} {u} s x = let k = reads_cut x in ends_behind text t k.front u s k.joined

head_at : (text : List ℕ) (k : ℕ) (f : ℕ → Bool) (t : List ℕ) → t ≡ drop k text → begins f t ≡ true → (c : ℕ) × (slice_get text k ≡ Some c) × (f c ≡ true)
head_at text k f [] e h = cc
head_at text k f (c ∷ t) e h = (c, got text k c t (sym e), h)

is_byte : (n c : ℕ) → within n n c ≡ true → c ≡ n
is_byte n c h = grind (arith, nat_tests)

only : (a : Bool) → (a || false) ≡ true → a ≡ true
only true e = refl
only false e = e

is_number : (c : ℕ) → first ahead (named number) c ≡ true → type_of_byte c ≡ Number
is_number c h = grind (arith, nat_tests)

-- the first byte of what is read by a rule that begins with one byte
byte_at : (text : List ℕ) (r : Rule Name) (n k : ℕ) {t : List ℕ} → t ≡ drop k text → begins (first ahead r) t ≡ true → ((c : ℕ) → first ahead r c ≡ true → within n n c ≡ true) → slice_get text k ≡ Some n
byte_at text r n k {t} e h f = let (c, g, b) = head_at text k (first ahead r) t e h in g ∙ ap Some (is_byte n c (f c b))

number_slice : (text : List ℕ) (start end : ℕ) (t u s : List ℕ) → t ≡ drop start text → u ≡ drop end text → start ≤ end → t ≡ s ++ u → slice_range text start end ≡ s
number_slice text start end t u s e f le c = append_cancel_right (slice_range text start end) s u (ap (λ z. slice_range text start end ++ z) f ∙ sym (drop_split text start end le) ∙ sym e ∙ c)

mutual
  pub value_fits : (text : List ℕ) (utf : IsUtf8 text) {total : ℕ} {t u : List ℕ} {n : Placed} → ValueAt total t n u → length text ≡ total → Ends text t → Fits text n
  value_fits text utf {total} {t} {u} (with_span {v = v} {start = start} {end = end} s p q) hh z =
      let e = ends_at text t start total hh z p in
      let w = ends_read text (named value) z (value_reads (with_span s p q)) in
      let f = ends_at text u end total hh w q in
      shape_fits text utf start end s hh z e f (let n = no_longer (value_reads (with_span s p q)) in omega (arith, n, p, q)) (omega (arith, q, hh))

  shape_fits : (text : List ℕ) (utf : IsUtf8 text) (start end : ℕ) {total : ℕ} {t u : List ℕ} {v : Tree} → Shape total t v u → length text ≡ total → Ends text t → t ≡ drop start text → u ≡ drop end text → start ≤ end → end ≤ length text → HasType text start v × FitsAt text start end v
  shape_fits text utf start end {total} {t} {u} (null_shape x) hh z e f le w = (ap (option_map type_of_byte) (byte_at text null_word 110 start e (begun null_word refl x) (λ c h. only (within 110 110 c) h)), tt)
  shape_fits text utf start end {total} {t} {u} (false_shape x) hh z e f le w = let b = byte_at text false_word 102 start e (begun false_word refl x) (λ c h. only (within 102 102 c) h) in (ap (option_map type_of_byte) b, b)
  shape_fits text utf start end {total} {t} {u} (true_shape x) hh z e f le w = let b = byte_at text true_word 116 start e (begun true_word refl x) (λ c h. only (within 116 116 c) h) in (ap (option_map type_of_byte) b, b)
  shape_fits text utf start end {total} {t} {u} (number_shape {k = k} x c) hh z e f le w =
      let lt : start < end = omega (arith, shorter honest_json.visible x refl, ap length e ∙ length-drop start text, ap length f ∙ length-drop end text, le, w) in
      let (d, g, h) = head_at text start (first ahead (named number)) t e (begun (named number) refl x) in
      (ap (option_map type_of_byte) g ∙ ap Some (is_number d h), (number_slice text start end t u k e f le c, le, number_boundaries text start end utf lt w (subst (λ a. Reads rules (named number) a (drop end text)) e (subst (Reads rules (named number) t) f x))))
  shape_fits text utf start end {total} {t} {u} (string_shape {s = s} x) hh z e f le w =
      (ap (option_map type_of_byte) (byte_at text (named string) 34 start e (begun (named string) refl x.reads) (λ c h. only (within 34 34 c) h)), ∣ subst (λ a. StringAt a s (drop end text)) e (subst (StringAt t s) f x) ∣₁)
  shape_fits text utf start end {total} {t} {u} (array_shape x y) hh z e f le w =
      (ap (option_map type_of_byte) (byte_at text (symbol 91) 91 start e (begun (symbol 91) refl x) (λ c h. only (within 91 91 c) h)), elements_fit text utf y hh (ends_read text (symbol 91) z x))
  shape_fits text utf start end {total} {t} {u} (object_shape x y) hh z e f le w =
      (ap (option_map type_of_byte) (byte_at text (symbol 123) 123 start e (begun (symbol 123) refl x) (λ c h. only (within 123 123 c) h)), members_fit text utf y hh (ends_read text (symbol 123) z x))

  elements_fit : (text : List ℕ) (utf : IsUtf8 text) {total : ℕ} {t u : List ℕ} {ns : Elements} → ElementsAt total t ns u → length text ≡ total → Ends text t → AllFit text ns
  elements_fit text utf (no_element x) hh z = tt
  elements_fit text utf (first_element v b m) hh z = (value_fits text utf v hh z, more_fit text utf m hh (ends_read text ws (ends_read text (named value) z (value_reads v)) b))

  more_fit : (text : List ℕ) (utf : IsUtf8 text) {total : ℕ} {t u : List ℕ} {ns : Elements} → MoreElements total t ns u → length text ≡ total → Ends text t → AllFit text ns
  more_fit text utf (last_element x) hh z = tt
  more_fit text utf (next_element x v b m) hh z =
      let y = ends_read text (symbol 44) z x in
      (value_fits text utf v hh y, more_fit text utf m hh (ends_read text ws (ends_read text (named value) y (value_reads v)) b))

  member_fits : (text : List ℕ) (utf : IsUtf8 text) {total : ℕ} {t u s : List ℕ} {start end : ℕ} {n : Placed} → MemberAt total t s start end n u → length text ≡ total → Ends text t → IsString text start s end × Fits text n × Ends text u
  member_fits text utf {total} {t} {u} {s} {start} {end} (member_at {l = l} k p q b c v) hh z =
      let y = ends_read text (named string) z k.reads in
      let w = ends_read text (symbol 58) (ends_read text ws y b) c in
      (∣ subst (λ a. StringAt a s (drop end text)) (ends_at text t start total hh z p) (subst (StringAt t s) (ends_at text l end total hh y q) k) ∣₁, value_fits text utf v hh w, ends_read text (named value) w (value_reads v))

  members_fit : (text : List ℕ) (utf : IsUtf8 text) {total : ℕ} {t u : List ℕ} {ms : Members} → MembersAt total t ms u → length text ≡ total → Ends text t → MembersFit text ms
  members_fit text utf (no_member x) hh z = tt
  members_fit text utf (first_member i b m) hh z = let (a, f, y) = member_fits text utf i hh z in (a, f, more_members_fit text utf m hh (ends_read text ws y b))

  more_members_fit : (text : List ℕ) (utf : IsUtf8 text) {total : ℕ} {t u : List ℕ} {ms : Members} → MoreMembers total t ms u → length text ≡ total → Ends text t → MembersFit text ms
  more_members_fit text utf (last_member x) hh z = tt
  more_members_fit text utf (next_member x i b m) hh z = let (a, f, y) = member_fits text utf i hh (ends_read text (symbol 44) z x) in (a, f, more_members_fit text utf m hh (ends_read text ws y b))

pub shown_fits : (text : List ℕ) (utf : IsUtf8 text) (n : Placed) → Shows text n → Fits text n
shown_fits text utf n (t, m, before, v, after) = value_fits text utf v refl (ends_read text ws (0, omega arith, refl) before)

-- the table of what a text shows
pub table_lies : (text : List ℕ) (utf : IsUtf8 text) (nodes : List Span) (n : Placed) → Shows text n → nodes ≡ spans 0 0 0 n → Lies text nodes 0 0 0 n
table_lies text utf nodes n s made = value_from text nodes 0 0 0 n [] (made ∙ sym (append-nil (spans 0 0 0 n))) (shown_fits text utf n s)
