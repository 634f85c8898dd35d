-- A part's own slice shows the part, with its offsets moved.
use Rattle.std.proofs.Common.{◌≡◌, ℕ, ◌+◌, ◌≤◌, List, [], ◌++◌, length, drop, false, refl, sym, ap, ◌∙◌, subst, arith, append_assoc, append-nil, length-append}
use Rattle.std.specs.Prelude.{slice_range}
use Rattle.std.proofs.Math.Seq.{drop-append_seam}
use Rattle.std.proofs.lemmas.List.{append_cancel_right}
use Rattle.grammar.specs.Grammar.{Rule, Reads, no_more, named}
use Rattle.grammar.specs.Predict.{begins, more_in}
use Rattle.grammar.proofs.Fronts.{widen}
use Rattle.json_span.specs.Grammar.{Name, value}
use Rattle.json_span.specs.Predictive.{rules, ahead}
use Rattle.json_span.specs.Characters.{CharactersAt, closing_quote, unescaped_byte, short_escape, unicode_escape, surrogate_pair}
use Rattle.json_span.specs.Tree.{Tree, Placed, Elements, Members, start_of, end_of}
use Rattle.json_span.specs.Reading.{StringAt, BeginsAt, ValueAt, with_span, Shape, null_shape, false_shape, true_shape, number_shape, string_shape, array_shape, object_shape, ElementsAt, no_element, first_element, MoreElements, last_element, next_element, MemberAt, member_at, MembersAt, no_member, first_member, MoreMembers, last_member, next_member, Shows}
use Rattle.json_span.specs.Parts.{moved, moved_tree, moved_elements, moved_members, IsPart, itself, inside, IsInside, inside_array, inside_object, IsInElements, in_element, in_later_element, IsInMembers, in_member, in_later_member}
use Rattle.json_span.proofs.Cut.{reads_cut}
use Rattle.json_span.proofs.Exists.{front_of, value_of}
use Rattle.json_span.proofs.Strings.{cut_at}
use Rattle.json_span.proofs.Unique.{value_reads, more_elements_read, more_members_read, value_unique, after_value, behind_element, behind_member}

pub frame : {r : Rule Name} {t u : List ℕ} → Reads rules r t u → (x : List ℕ) → Reads rules r (t ++ x) (u ++ x)
frame y x = widen rules y x

pub content_frame : {t q u : List ℕ} → CharactersAt t q u → (s : List ℕ) → CharactersAt (t ++ s) q (u ++ s)
content_frame (closing_quote e) s = closing_quote e
content_frame (unescaped_byte e x) s = unescaped_byte e (content_frame x s)
content_frame (short_escape e f x) s = short_escape e f (content_frame x s)
content_frame (unicode_escape a b c d x) s = unicode_escape a b c d (content_frame x s)
content_frame (surrogate_pair a b c d e f g h x) s = surrogate_pair a b c d e f g h (content_frame x s)

pub string_frame : {t q u : List ℕ} → StringAt t q u → (s : List ℕ) → StringAt (t ++ s) q (u ++ s)
string_frame x s = record { reads = frame x.reads s; inner = x.inner ++ s; quoted = ap (λ z. z ++ s) x.quoted; content = content_frame x.content s }

place : (d total start : ℕ) (t x : List ℕ) → BeginsAt total t start → BeginsAt (d + total + length x) (t ++ x) (d + start)
place d total start t x p = omega (arith, p, length-append t x)

mutual
  value_frame : {total : ℕ} {t u : List ℕ} {n : Placed} → ValueAt total t n u → (d : ℕ) (x : List ℕ) → ValueAt (d + total + length x) (t ++ x) (moved d n) (u ++ x)
  value_frame {total} {t} {u} (with_span {start = start} {end = end} s p q) d x = with_span (shape_frame s d x) (place d total start t x p) (place d total end u x q)

  shape_frame : {total : ℕ} {t u : List ℕ} {v : Tree} → Shape total t v u → (d : ℕ) (x : List ℕ) → Shape (d + total + length x) (t ++ x) (moved_tree d v) (u ++ x)
  shape_frame (null_shape r) d x = null_shape (frame r x)
  shape_frame (false_shape r) d x = false_shape (frame r x)
  shape_frame (true_shape r) d x = true_shape (frame r x)
  shape_frame {u = u} (number_shape {k = k} r e) d x = number_shape (frame r x) (ap (λ z. z ++ x) e ∙ append_assoc k u x)
  shape_frame (string_shape k) d x = string_shape (string_frame k x)
  shape_frame (array_shape r y) d x = array_shape (frame r x) (elements_frame y d x)
  shape_frame (object_shape r y) d x = object_shape (frame r x) (members_frame y d x)

  elements_frame : {total : ℕ} {t u : List ℕ} {ns : Elements} → ElementsAt total t ns u → (d : ℕ) (x : List ℕ) → ElementsAt (d + total + length x) (t ++ x) (moved_elements d ns) (u ++ x)
  elements_frame (no_element r) d x = no_element (frame r x)
  elements_frame (first_element v b m) d x = first_element (value_frame v d x) (frame b x) (more_elements_frame m d x)

  more_elements_frame : {total : ℕ} {t u : List ℕ} {ns : Elements} → MoreElements total t ns u → (d : ℕ) (x : List ℕ) → MoreElements (d + total + length x) (t ++ x) (moved_elements d ns) (u ++ x)
  more_elements_frame (last_element r) d x = last_element (frame r x)
  more_elements_frame (next_element c v b m) d x = next_element (frame c x) (value_frame v d x) (frame b x) (more_elements_frame m d x)

  member_frame : {total : ℕ} {t u s : List ℕ} {start end : ℕ} {n : Placed} → MemberAt total t s start end n u → (d : ℕ) (x : List ℕ) → MemberAt (d + total + length x) (t ++ x) s (d + start) (d + end) (moved d n) (u ++ x)
  member_frame {total} {t} {start = start} {end = end} (member_at {l = l} k p q b c v) d x = member_at (string_frame k x) (place d total start t x p) (place d total end l x q) (frame b x) (frame c x) (value_frame v d x)

  members_frame : {total : ℕ} {t u : List ℕ} {ms : Members} → MembersAt total t ms u → (d : ℕ) (x : List ℕ) → MembersAt (d + total + length x) (t ++ x) (moved_members d ms) (u ++ x)
  members_frame (no_member r) d x = no_member (frame r x)
  members_frame (first_member i b m) d x = first_member (member_frame i d x) (frame b x) (more_members_frame m d x)

  more_members_frame : {total : ℕ} {t u : List ℕ} {ms : Members} → MoreMembers total t ms u → (d : ℕ) (x : List ℕ) → MoreMembers (d + total + length x) (t ++ x) (moved_members d ms) (u ++ x)
  more_members_frame (last_member r) d x = last_member (frame r x)
  more_members_frame (next_member c i b m) d x = next_member (frame c x) (member_frame i d x) (frame b x) (more_members_frame m d x)

-- a part, where it stands in the text
record PartAt (text : List ℕ) (n : Placed) : Type 0 where
  pub front : List ℕ
  pub from : List ℕ
  pub rest : List ℕ
  pub joined : text ≡ front ++ from
  pub value_ : ValueAt (length text) from n rest
  pub ended : begins (more_in ahead (named value)) rest ≡ false

-- a text whose rest this is
record Behind (text m : List ℕ) : Type 0 where
  pub front : List ℕ
  pub joined : text ≡ front ++ m

past : {text : List ℕ} {r : Rule Name} {t m : List ℕ} → Reads rules r t m → Behind text t → Behind text m
past {text} {t = t} {m = m} x b = let (k, e) = front_of x in record { front = b.front ++ k; joined = b.joined ∙ ap (λ z. b.front ++ z) e ∙ sym (append_assoc b.front k m) }

mutual
  part_of : {text t u : List ℕ} {root n : Placed} → ValueAt (length text) t root u → Behind text t → begins (more_in ahead (named value)) u ≡ false → IsPart n root → PartAt text n
  part_of {text} {t} {u} v f h itself = record { front = f.front; from = t; rest = u; joined = f.joined; value_ = v; ended = h }
  part_of (with_span s p q) f h (inside i) = part_of_shape s f i

  part_of_shape : {text t u : List ℕ} {v : Tree} {n : Placed} → Shape (length text) t v u → Behind text t → IsInside n v → PartAt text n
  part_of_shape (null_shape x) f i = elim i [ ]
  part_of_shape (false_shape x) f i = elim i [ ]
  part_of_shape (true_shape x) f i = elim i [ ]
  part_of_shape (number_shape x e) f i = elim i [ ]
  part_of_shape (string_shape x) f i = elim i [ ]
  part_of_shape (array_shape x y) f (inside_array i) = part_of_elements y (past x f) i
  part_of_shape (object_shape x y) f (inside_object i) = part_of_members y (past x f) i

  part_of_elements : {text t u : List ℕ} {ns : Elements} {n : Placed} → ElementsAt (length text) t ns u → Behind text t → IsInElements n ns → PartAt text n
  part_of_elements (no_element x) f i = elim i [ ]
  part_of_elements (first_element v b m) f (in_element i) = part_of v f (after_value b (behind_element (more_elements_read m))) i
  part_of_elements (first_element v b m) f (in_later_element i) = part_of_more_elements m (past b (past (value_reads v) f)) i

  part_of_more_elements : {text t u : List ℕ} {ns : Elements} {n : Placed} → MoreElements (length text) t ns u → Behind text t → IsInElements n ns → PartAt text n
  part_of_more_elements (last_element x) f i = elim i [ ]
  part_of_more_elements (next_element c v b m) f (in_element i) = part_of v (past c f) (after_value b (behind_element (more_elements_read m))) i
  part_of_more_elements (next_element c v b m) f (in_later_element i) = part_of_more_elements m (past b (past (value_reads v) (past c f))) i

  part_of_members : {text t u : List ℕ} {ms : Members} {n : Placed} → MembersAt (length text) t ms u → Behind text t → IsInMembers n ms → PartAt text n
  part_of_members (no_member x) f i = elim i [ ]
  part_of_members (first_member (member_at k p q a c v) b m) f (in_member i) = part_of v (past c (past a (past k.reads f))) (after_value b (behind_member (more_members_read m))) i
  part_of_members (first_member (member_at k p q a c v) b m) f (in_later_member i) = part_of_more_members m (past b (past (value_reads v) (past c (past a (past k.reads f))))) i

  part_of_more_members : {text t u : List ℕ} {ms : Members} {n : Placed} → MoreMembers (length text) t ms u → Behind text t → IsInMembers n ms → PartAt text n
  part_of_more_members (last_member x) f i = elim i [ ]
  part_of_more_members (next_member x (member_at k p q a c v) b m) f (in_member i) = part_of v (past c (past a (past k.reads (past x f)))) (after_value b (behind_member (more_members_read m))) i
  part_of_more_members (next_member x (member_at k p q a c v) b m) f (in_later_member i) = part_of_more_members m (past b (past (value_reads v) (past c (past a (past k.reads (past x f)))))) i

starts_at : {total : ℕ} {t u : List ℕ} {n : Placed} → ValueAt total t n u → BeginsAt total t (start_of n)
starts_at (with_span s p q) = p

ends_at : {total : ℕ} {t u : List ℕ} {n : Placed} → ValueAt total t n u → BeginsAt total u (end_of n)
ends_at (with_span s p q) = q

drop_front : (text f t : List ℕ) (at : ℕ) → text ≡ f ++ t → at + length t ≡ length text → drop at text ≡ t
drop_front text f t at e h =
    let long : length text ≡ length f + length t = ap length e ∙ length-append f t in
    let same : at ≡ length f = omega (arith, long, h) in
    ap (λ z. drop z text) same ∙ ap (drop (length f)) e ∙ drop-append_seam f t

pub slices_show : (text : List ℕ) (root n : Placed) → Shows text root → IsPart n root → (m : Placed) × Shows (slice_range text (start_of n) (end_of n)) m × (moved (start_of n) m ≡ n)
slices_show text root n (t0, m0, b, v, c) i =
    let p = part_of v (past b (record { front = []; joined = refl })) (after_value c refl) i in
    let x = reads_cut (value_reads p.value_) in
    let k = x.front in
    let d = start_of n in
    let whole : Reads rules (named value) k [] = subst (λ z. Reads rules (named value) z []) (append-nil k) (x.reads []) in
    let (m, w) = value_of (length k) whole (omega arith) in
    let lengths : length p.from ≡ length k + length p.rest = ap length x.joined ∙ length-append k p.rest in
    let total : d + length k + length p.rest ≡ length text = omega (arith, lengths, starts_at p.value_) in
    let framed : ValueAt (length text) (k ++ p.rest) (moved d m) p.rest = subst (λ z. ValueAt z (k ++ p.rest) (moved d m) p.rest) total (value_frame w d p.rest) in
    let same : n ≡ moved d m = value_unique p.value_ framed x.joined p.ended p.ended in
    let before : drop d text ≡ p.from = drop_front text p.front p.from d p.joined (starts_at p.value_) in
    let behind : drop (end_of n) text ≡ p.rest = drop_front text (p.front ++ k) p.rest (end_of n) (p.joined ∙ ap (λ z. p.front ++ z) x.joined ∙ sym (append_assoc p.front k p.rest)) (ends_at p.value_) in
    let forward : d ≤ end_of n = omega (arith, lengths, starts_at p.value_, ends_at p.value_) in
    let slice : slice_range text d (end_of n) ≡ k = append_cancel_right (slice_range text d (end_of n)) k p.rest
    (ap (λ z. slice_range text d (end_of n) ++ z) (sym behind) ∙ sym (cut_at text d (end_of n) forward) ∙ before ∙ x.joined) in
    (m, subst (λ z. Shows z m) (sym slice) (k, [], no_more, w, no_more), sym same)
