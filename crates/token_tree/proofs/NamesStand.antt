-- The names of an object's members, where they stand in the text.
use Rattle.std.proofs.Common.{◌≡◌, ℕ, ◌+◌, ◌<◌, ◌≤◌, true, false, ◌==◌, List, [], ◌∷◌, ◌++◌, length, length-append, length-drop, append_assoc, drop, get_or, refl, sym, ap, ap₂, ◌∙◌, subst, arith}
use Rattle.std.proofs.lemmas.List.{get_or-drop}
use Rattle.grammar.specs.Grammar.{Rule, Reads}
use Rattle.json_span.specs.Grammar.{Name}
use Rattle.json_span.specs.Predictive.{rules}
use Rattle.json_span.specs.Characters.{CharactersAt, closing_quote, unescaped_byte, short_escape, unicode_escape, surrogate_pair}
use Rattle.json_span.specs.Tree.{Tree, Placed, Elements, Members, Entry, entries_in}
use Rattle.json_span.specs.Reading.{StringAt, BeginsAt, ValueAt, with_span, Shape, null_shape, false_shape, true_shape, number_shape, string_shape, array_shape, object_shape, ElementsAt, no_element, first_element, MoreElements, last_element, next_element, member_at, MembersAt, no_member, first_member, MoreMembers, last_member, next_member}
use Rattle.json_span.specs.Parts.{IsPart, itself, inside, IsInside, inside_array, inside_object, IsInElements, in_element, in_later_element, IsInMembers, in_member, in_later_member}
use Rattle.json_span.proofs.Exists.{front_of}
use Rattle.json_span.proofs.Unique.{value_reads}
use Rattle.token_tree.specs.Answer.{IsObjectOf}
use Rattle.token_tree.specs.Promise.{StandsIn}
use Rattle.token_tree.specs.Shape.{members_in, entries_at}
use Rattle.token_tree.specs.Texts.{is_reserved}
use Rattle.token_tree.specs.inner.Names.{NameStands, NamesStand}
use Rattle.token_tree.proofs.Sound.{entries_are}
use Rattle.token_tree.proofs.Targets.{is_byte}

-- a text of this length whose rest this is
record Behind (text : List ℕ) (total : ℕ) (m : List ℕ) : Type 0 where
  front : List ℕ
  joined : text ≡ front ++ m
  long : total ≡ length text

past : {text : List ℕ} {total : ℕ} {r : Rule Name} {t m : List ℕ} → Reads rules r t m → Behind text total t → Behind text total m
past {m = m} x b = let (k, e) = front_of x in record { front = b.front ++ k; joined = b.joined ∙ ap (λ z. b.front ++ z) e ∙ sym (append_assoc b.front k m); long = b.long }

skipped : (f t : List ℕ) → drop (length f) (f ++ t) ≡ t
skipped [] t = refl
skipped (b ∷ f) t = skipped f t

rest_at : (text f t : List ℕ) (at : ℕ) → text ≡ f ++ t → BeginsAt (length text) t at → drop at text ≡ t
rest_at text f t at e h =
    let long : length text ≡ length f + length t = ap length e ∙ length-append f t in
    let same : at ≡ length f = omega (arith, long, h) in
    ap (λ z. drop z text) same ∙ (ap (drop (length f)) e ∙ skipped f t)

stands : {text t s l : List ℕ} {total start end : ℕ} {n : Placed} → StringAt t s l → BeginsAt total t start → Behind text total t → NameStands text (record { name = s; start = start; end = end; value = n })
stands {text} {t} {s} {l} {start} k p b = record { inner = k.inner; after = l; quoted = rest_at text b.front t start b.joined (p ∙ b.long) ∙ k.quoted; content = k.content }

mutual
  names : {text t u : List ℕ} {total : ℕ} {ms : Members} → MembersAt total t ms u → Behind text total t → NamesStand text (entries_in ms)
  names (no_member x) f = tt
  names (first_member (member_at k p q a c v) b m) f = (stands k p f, more_names m (past b (past (value_reads v) (past c (past a (past k.reads f))))))

  more_names : {text t u : List ℕ} {total : ℕ} {ms : Members} → MoreMembers total t ms u → Behind text total t → NamesStand text (entries_in ms)
  more_names (last_member x) f = tt
  more_names (next_member x (member_at k p q a c v) b m) f = (stands k p (past x f), more_names m (past b (past (value_reads v) (past c (past a (past k.reads (past x f)))))))

names_in : {text t u : List ℕ} {total : ℕ} {v : Tree} → Shape total t v u → Behind text total t → NamesStand text (entries_in (members_in v))
names_in (null_shape x) f = tt
names_in (false_shape x) f = tt
names_in (true_shape x) f = tt
names_in (number_shape x e) f = tt
names_in (string_shape x) f = tt
names_in (array_shape x y) f = tt
names_in (object_shape x y) f = names y (past x f)

mutual
  names_of : {text t u : List ℕ} {total : ℕ} {root n : Placed} → ValueAt total t root u → Behind text total t → IsPart n root → NamesStand text (entries_at n)
  names_of (with_span s p q) f itself = names_in s f
  names_of (with_span s p q) f (inside i) = of_shape s f i

  of_shape : {text t u : List ℕ} {total : ℕ} {v : Tree} {n : Placed} → Shape total t v u → Behind text total t → IsInside n v → NamesStand text (entries_at n)
  of_shape (null_shape x) f i = elim i [ ]
  of_shape (false_shape x) f i = elim i [ ]
  of_shape (true_shape x) f i = elim i [ ]
  of_shape (number_shape x e) f i = elim i [ ]
  of_shape (string_shape x) f i = elim i [ ]
  of_shape (array_shape x y) f (inside_array i) = of_elements y (past x f) i
  of_shape (object_shape x y) f (inside_object i) = of_members y (past x f) i

  of_elements : {text t u : List ℕ} {total : ℕ} {ns : Elements} {n : Placed} → ElementsAt total t ns u → Behind text total t → IsInElements n ns → NamesStand text (entries_at n)
  of_elements (no_element x) f i = elim i [ ]
  of_elements (first_element v b m) f (in_element i) = names_of v f i
  of_elements (first_element v b m) f (in_later_element i) = of_more_elements m (past b (past (value_reads v) f)) i

  of_more_elements : {text t u : List ℕ} {total : ℕ} {ns : Elements} {n : Placed} → MoreElements total t ns u → Behind text total t → IsInElements n ns → NamesStand text (entries_at n)
  of_more_elements (last_element x) f i = elim i [ ]
  of_more_elements (next_element c v b m) f (in_element i) = names_of v (past c f) i
  of_more_elements (next_element c v b m) f (in_later_element i) = of_more_elements m (past b (past (value_reads v) (past c f))) i

  of_members : {text t u : List ℕ} {total : ℕ} {ms : Members} {n : Placed} → MembersAt total t ms u → Behind text total t → IsInMembers n ms → NamesStand text (entries_at n)
  of_members (no_member x) f i = elim i [ ]
  of_members (first_member (member_at k p q a c v) b m) f (in_member i) = names_of v (past c (past a (past k.reads f))) i
  of_members (first_member (member_at k p q a c v) b m) f (in_later_member i) = of_more_members m (past b (past (value_reads v) (past c (past a (past k.reads f))))) i

  of_more_members : {text t u : List ℕ} {total : ℕ} {ms : Members} {n : Placed} → MoreMembers total t ms u → Behind text total t → IsInMembers n ms → NamesStand text (entries_at n)
  of_more_members (last_member x) f i = elim i [ ]
  of_more_members (next_member x (member_at k p q a c v) b m) f (in_member i) = names_of v (past c (past a (past k.reads (past x f)))) i
  of_more_members (next_member x (member_at k p q a c v) b m) f (in_later_member i) = of_more_members m (past b (past (value_reads v) (past c (past a (past k.reads (past x f)))))) i

-- so do those of an object that stands in a text
pub names_stand : (text : List ℕ) (n : Placed) (es : List Entry) → IsObjectOf n es → StandsIn text n → NamesStand text es
names_stand text n es h s =
    let (t, m, blanks, v, after) = s.shown in
    subst (NamesStand text) (entries_are n es h) (names_of v (past blanks (record { front = []; joined = refl; long = refl })) s.part)

-- the first byte of the name is that after the quote, where that begins no escape

some_byte : {t s u : List ℕ} → CharactersAt t s u → 1 ≤ length t
some_byte (closing_quote e) = omega arith
some_byte (unescaped_byte e x) = omega arith
some_byte (short_escape e f x) = omega arith
some_byte (unicode_escape e f y z x) = omega arith
some_byte (surrogate_pair e f y z k l m o x) = omega arith

pub within : (text : List ℕ) (e : Entry) → NameStands text e → e.start + 1 < length text
within text e n =
    let long = ap length n.quoted in
    omega (arith, long, length-drop e.start text, some_byte n.content)

no_escape : (q b : ℕ) → q ≡ 92 → b ≡ q → (b == 92) ≡ false → ⊥
no_escape q b e g h = (let k : (b == 92) ≡ true = ap (λ z. z == 92) (g ∙ e) in cc)

unreserved : {t s u : List ℕ} → CharactersAt t s u → (b d : ℕ) → b ≡ get_or t 0 d → (b == 36) ≡ false → (b == 92) ≡ false → is_reserved s ≡ false
unreserved (closing_quote e) b d g p q = refl
unreserved (unescaped_byte e x) b d g p q = ap (λ z. z == 36) (sym g) ∙ p
unreserved (short_escape e f x) b d g p q = absurd (no_escape _ b e g q)
unreserved (unicode_escape e f y z x) b d g p q = absurd (no_escape _ b e g q)
unreserved (surrogate_pair e f y z k l m o x) b d g p q = absurd (no_escape _ b e g q)

unequal : (b n : ℕ) → (b ≡ n → ⊥) → (b == n) ≡ false
unequal b n h =
    elim (b == n) as (λ t. (b == n) ≡ t → t ≡ false) [
      | true ↦ λ e. absurd (h (is_byte b n e))
      | false ↦ λ e. refl
    ] refl

pub not_reserved : (text bytes : List ℕ) (e : Entry) (at : ℕ) → NameStands text e → bytes ≡ text → at ≡ e.start → (get_or bytes (at + 1) 0 ≡ 36 → ⊥) → (get_or bytes (at + 1) 0 == 92) ≡ false → is_reserved e.name ≡ false
not_reserved text bytes e at n same place p q =
    let g : get_or bytes (at + 1) 0 ≡ get_or text (e.start + 1) 0 = ap₂ (λ z i. get_or z (i + 1) 0) same place in
    unreserved n.content _ 0 (g ∙ (sym (get_or-drop e.start text 1 0) ∙ ap (λ z. get_or z 1 0) n.quoted)) (unequal _ 36 p) q

-- the names that are to come
pub stand_behind : (text : List ℕ) (e : Entry) (left before : List Entry) → before ≡ e ∷ left → NamesStand text before → NameStands text e × NamesStand text left
stand_behind text e left before steps n = subst (NamesStand text) steps n
