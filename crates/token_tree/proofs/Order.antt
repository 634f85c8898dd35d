-- The breaks of a text's value stand in the order of the text.
use Rattle.std.proofs.Common.{◌≡◌, ℕ, ◌+◌, ◌-◌, ◌<◌, ◌≤◌, Bool, true, false, not, List, [], ◌∷◌, ◌++◌, length, cond, arith, codes}
use Rattle.std.specs.List.{flat_map}
use Rattle.std.specs.Str.{bytes_eq}
use Rattle.grammar.specs.Grammar.{Reads, one_byte, both}
use Rattle.grammar.proofs.Steps.{no_longer}
use Rattle.name_path.specs.Names.{root_name}
use Rattle.json_span.specs.Predictive.{rules, symbol}
use Rattle.json_span.specs.Tree.{Tree, a_null, a_boolean, a_number, a_string, an_array, Placed, placed, Elements, Members, Entry, entries_in, tree_of, start_of, end_of}
use Rattle.json_span.specs.Reading.{BeginsAt, ValueAt, with_span, Shape, null_shape, false_shape, true_shape, number_shape, string_shape, array_shape, object_shape, ElementsAt, no_element, first_element, MoreElements, last_element, next_element, MemberAt, member_at, MembersAt, no_member, first_member, MoreMembers, last_member, next_member, Shows}
use Rattle.json_span.specs.Parts.{IsPart, itself, inside, IsInside, inside_array, inside_object, IsInElements, in_element, in_later_element, IsInMembers, in_member, in_later_member}
use Rattle.json_span.proofs.Unique.{value_reads, more_members_read}
use Rattle.token_tree.specs.declared.fault.Rule.{Rule as Rule_}
use Rattle.token_tree.specs.declared.fault.Rule.TheVariants as rule
use Rattle.token_tree.specs.Laws.{Ascend}
use Rattle.token_tree.specs.Texts.{is_reserved, is_name}
use Rattle.token_tree.specs.Shape.{Break, members_in, entries_at, is_object, has, are_token, is_token, has_token_form, has_group_form, at_value, at_name, token_member_breaks, token_breaks, root_breaks, reserved_breaks, group_member_breaks, group_breaks, child_breaks, shape_breaks}

-- each break starts after the one before, all from one place through another
abbrev Chain : ℕ → ℕ → List Break → Type 0
Chain low high [] = Unit {0}
Chain low high (b ∷ bs) = (low ≤ b.start) × (b.start ≤ high) × Chain (b.start + 1) high bs

lower : (low low2 high : ℕ) (bs : List Break) → low2 ≤ low → Chain low high bs → Chain low2 high bs
lower low low2 high [] h c = tt
lower low low2 high (b ∷ bs) h c = (omega (arith, c.0), c.1, c.2)

joined : (low mid high : ℕ) (xs ys : List Break) → low ≤ mid + 1 → mid ≤ high → Chain low mid xs → Chain (mid + 1) high ys → Chain low high (xs ++ ys)
joined low mid high [] ys h k c d = lower (mid + 1) low high ys h d
joined low mid high (x ∷ xs) ys h k c d = (c.0, omega (arith, c.1), joined (x.start + 1) mid high xs ys (omega (arith, c.1)) k c.2 d)

ascends : (low high : ℕ) (bs : List Break) → Chain low high bs → Ascend low bs
ascends low high [] c = tt
ascends low high (b ∷ bs) c = (c.0, ascends (b.start + 1) high bs c.2)

one_of : (t : Bool) (low high : ℕ) (xs ys : List Break) → Chain low high xs → Chain low high ys → Chain low high (cond t xs ys)
one_of true low high xs ys c d = c
one_of false low high xs ys c d = d

-- a byte less is left after a structural character
past_token : {c : ℕ} {t u : List ℕ} → Reads rules (symbol c) t u → length u < length t
past_token (both (one_byte h) w) = omega (arith, no_longer w)

-- where the parts of a member stand
record Stands (start : ℕ) (n : Placed) : Type 0 where
  first : start < start_of n
  last : start_of n ≤ end_of n

value_forward : {total : ℕ} {t u : List ℕ} {n : Placed} → ValueAt total t n u → start_of n ≤ end_of n
value_forward (with_span s p q) = let h = no_longer (value_reads (with_span s p q)) in omega (arith, p, q, h)

value_begins : {total : ℕ} {t u : List ℕ} {n : Placed} → ValueAt total t n u → start_of n + length t ≡ total
value_begins (with_span s p q) = p

value_ends : {total : ℕ} {t u : List ℕ} {n : Placed} → ValueAt total t n u → end_of n + length u ≡ total
value_ends (with_span s p q) = q

stands : {total : ℕ} {t u s : List ℕ} {start end : ℕ} {n : Placed} → MemberAt total t s start end n u → Stands start n
stands (member_at k p q a c v) = record {
  first = (let x = no_longer k.reads in let y = no_longer a in let z = past_token c in let w = value_begins v in omega (arith, p));
  last = value_forward v;
}

member_begins : {total : ℕ} {t u s : List ℕ} {start end : ℕ} {n : Placed} → MemberAt total t s start end n u → start + length t ≡ total
member_begins (member_at k p q a c v) = p

member_ends : {total : ℕ} {t u s : List ℕ} {start end : ℕ} {n : Placed} → MemberAt total t s start end n u → end_of n + length u ≡ total
member_ends (member_at k p q a c v) = value_ends v

value_break : (r : Rule_) (n : Placed) → start_of n ≤ end_of n → Chain (start_of n) (end_of n) (at_value r n)
value_break r n h = (omega arith, h, tt)

more_shorter : {total : ℕ} {t u : List ℕ} {ms : Members} → MoreMembers total t ms u → length u ≤ length t
more_shorter m = no_longer (more_members_read m)

member_break : (valued : Bool) (name : List ℕ) (start end : ℕ) (n : Placed) → Stands start n → Chain start (end_of n) (token_member_breaks valued (record { name = name; start = start; end = end; value = n }))
member_break valued name start end n s =
    one_of (not (is_reserved name)) start (end_of n) _ _
    (omega arith, omega (arith, s.first, s.last), tt)
    (one_of (has_token_form valued name (tree_of n)) start (end_of n) [] (at_value rule.Property n) tt (omega (arith, s.first), s.last, tt))

mutual
  token_members : {total : ℕ} {t u : List ℕ} {ms : Members} → MembersAt total t ms u → (valued : Bool) (low high : ℕ) → low + length t ≡ total → high + length u ≡ total → Chain low high (flat_map (token_member_breaks valued) (entries_in ms))
  token_members (no_member r) valued low high p q = tt
  token_members (first_member {m = m} {w = w} {s = s} {start = start} {end = end} {n = n} {ms = ms} i b more) valued low high p q =
      let s0 = stands i in
      let x = no_longer b in
      let y = member_begins i in
      let z = member_ends i in
      let last = more_shorter more in
      joined low (end_of n) high _ _ (omega (arith, s0.first, s0.last)) (omega arith)
      (lower start low (end_of n) _ (omega arith) (member_break valued s start end n s0))
      (more_token_members more valued (end_of n + 1) high (omega arith) q)

  more_token_members : {total : ℕ} {t u : List ℕ} {ms : Members} → MoreMembers total t ms u → (valued : Bool) (low high : ℕ) → low + length t ≤ total + 1 → high + length u ≡ total → Chain low high (flat_map (token_member_breaks valued) (entries_in ms))
  more_token_members (last_member r) valued low high p q = tt
  more_token_members (next_member {l = l} {m = m} {w = w} {s = s} {start = start} {end = end} {n = n} {ms = ms} c i b more) valued low high p q =
      let s0 = stands i in
      let x = no_longer b in
      let y = member_begins i in
      let z = member_ends i in
      let k = past_token c in
      let last = more_shorter more in
      joined low (end_of n) high _ _ (omega (arith, s0.first, s0.last)) (omega arith)
      (lower start low (end_of n) _ (omega arith) (member_break valued s start end n s0))
      (more_token_members more valued (end_of n + 1) high (omega arith) q)

-- a token's breaks, all after its bracket
token_chain : {total : ℕ} {t u : List ℕ} {v : Tree} → Shape total t v u → (low high : ℕ) → low + length t ≡ total → high + length u ≡ total → Chain (low + 1) high (token_breaks (entries_in (members_in v)))
token_chain (null_shape r) low high p q = tt
token_chain (false_shape r) low high p q = tt
token_chain (true_shape r) low high p q = tt
token_chain (number_shape r e) low high p q = tt
token_chain (string_shape k) low high p q = tt
token_chain (array_shape r y) low high p q = tt
token_chain {total} {t} {u} (object_shape {m = m} {ms = ms} r y) low high p q =
    let k = past_token r in
    lower (total - length m) (low + 1) high (token_breaks (entries_in ms)) (omega (arith, k, p)) (token_members y (has (codes "$value") (entries_in ms)) (total - length m) high (omega (arith, k, p)) q)

root_chain : {total : ℕ} {t u : List ℕ} {n : Placed} → ValueAt total t n u → Chain (start_of n) (end_of n) (root_breaks n)
root_chain {n = n} (with_span {v = v} {start = start} {end = end} x p q) =
    one_of (is_token (placed v start end)) start end (token_breaks (entries_at (placed v start end))) (at_value rule.RootToken (placed v start end))
    (lower (start + 1) start end (token_breaks (entries_at (placed v start end))) (omega arith) (token_chain x start end p q))
    (value_break rule.RootToken (placed v start end) (value_forward (with_span x p q)))

group_member : (name : List ℕ) (start end : ℕ) (n : Placed) (within : List Break) → Stands start n → Chain (start_of n) (end_of n) within → Chain (start_of n) (end_of n) (root_breaks n)
    → Chain start (end_of n) (group_member_breaks (record { name = name; start = start; end = end; value = n }) within)
group_member name start end n within s c r =
    let e : Entry = record { name = name; start = start; end = end; value = n } in
    one_of (bytes_eq name root_name) start (end_of n) (root_breaks n) (cond (is_reserved name) (reserved_breaks e) (cond (is_name name) within (at_name rule.Name e ++ within)))
    (lower (start_of n) start (end_of n) (root_breaks n) (omega (arith, s.first)) r)
    (one_of (is_reserved name) start (end_of n) (reserved_breaks e) (cond (is_name name) within (at_name rule.Name e ++ within))
    (one_of (has_group_form name (tree_of n)) start (end_of n) [] (at_value rule.Property n) tt (omega (arith, s.first), s.last, tt))
    (one_of (is_name name) start (end_of n) within (at_name rule.Name e ++ within)
    (lower (start_of n) start (end_of n) within (omega (arith, s.first)) c)
    (omega arith, omega (arith, s.first, s.last), lower (start_of n) (start + 1) (end_of n) within (omega (arith, s.first)) c)))

mutual
  child_chain : {total : ℕ} {t u : List ℕ} {n : Placed} → ValueAt total t n u → Chain (start_of n) (end_of n) (child_breaks n)
  child_chain (with_span {start = start} {end = end} (null_shape r) p q) = value_break rule.Member (placed a_null start end) (value_forward (with_span (null_shape r) p q))
  child_chain (with_span {start = start} {end = end} (false_shape r) p q) = value_break rule.Member (placed (a_boolean false) start end) (value_forward (with_span (false_shape r) p q))
  child_chain (with_span {start = start} {end = end} (true_shape r) p q) = value_break rule.Member (placed (a_boolean true) start end) (value_forward (with_span (true_shape r) p q))
  child_chain (with_span {start = start} {end = end} (number_shape {k = k} r e) p q) = value_break rule.Member (placed (a_number k) start end) (value_forward (with_span (number_shape r e) p q))
  child_chain (with_span {start = start} {end = end} (string_shape {s = s} k) p q) = value_break rule.Member (placed (a_string s) start end) (value_forward (with_span (string_shape k) p q))
  child_chain (with_span {start = start} {end = end} (array_shape {ns = ns} r y) p q) = value_break rule.Member (placed (an_array ns) start end) (value_forward (with_span (array_shape r y) p q))
  child_chain {total} (with_span {start = start} {end = end} (object_shape {m = m} {ms = ms} r y) p q) =
      let k = past_token r in
      one_of (are_token (entries_in ms)) start end (token_breaks (entries_in ms)) (group_breaks ms)
      (lower (start + 1) start end (token_breaks (entries_in ms)) (omega arith) (token_chain (object_shape r y) start end p q))
      (lower (total - length m) start end (group_breaks ms) (omega (arith, k, p)) (group_members y (total - length m) end (omega (arith, k, p)) q))

  group_members : {total : ℕ} {t u : List ℕ} {ms : Members} → MembersAt total t ms u → (low high : ℕ) → low + length t ≡ total → high + length u ≡ total → Chain low high (group_breaks ms)
  group_members (no_member r) low high p q = tt
  group_members (first_member {s = s} {start = start} {end = end} {n = n} {ms = ms} (member_at k a b d c v) bl more) low high p q =
      let i = member_at k a b d c v in
      let s0 = stands i in
      let x = no_longer bl in
      let y = member_begins i in
      let z = member_ends i in
      let last = more_shorter more in
      joined low (end_of n) high (group_member_breaks (record { name = s; start = start; end = end; value = n }) (child_breaks n)) (group_breaks ms) (omega (arith, s0.first, s0.last)) (omega arith)
      (lower start low (end_of n) (group_member_breaks (record { name = s; start = start; end = end; value = n }) (child_breaks n)) (omega arith) (group_member s start end n (child_breaks n) s0 (child_chain v) (root_chain v)))
      (more_group_members more (end_of n + 1) high (omega arith) q)

  more_group_members : {total : ℕ} {t u : List ℕ} {ms : Members} → MoreMembers total t ms u → (low high : ℕ) → low + length t ≤ total + 1 → high + length u ≡ total → Chain low high (group_breaks ms)
  more_group_members (last_member r) low high p q = tt
  more_group_members (next_member {s = s} {start = start} {end = end} {n = n} {ms = ms} c0 (member_at k a b d c v) bl more) low high p q =
      let i = member_at k a b d c v in
      let s0 = stands i in
      let x = no_longer bl in
      let y = member_begins i in
      let z = member_ends i in
      let t0 = past_token c0 in
      let last = more_shorter more in
      joined low (end_of n) high (group_member_breaks (record { name = s; start = start; end = end; value = n }) (child_breaks n)) (group_breaks ms) (omega (arith, s0.first, s0.last)) (omega arith)
      (lower start low (end_of n) (group_member_breaks (record { name = s; start = start; end = end; value = n }) (child_breaks n)) (omega arith) (group_member s start end n (child_breaks n) s0 (child_chain v) (root_chain v)))
      (more_group_members more (end_of n + 1) high (omega arith) q)

shape_chain : {total : ℕ} {t u : List ℕ} {n : Placed} → ValueAt total t n u → Chain (start_of n) (end_of n) (shape_breaks n)
unfolding shape_breaks
shape_chain {total} (with_span {v = v} {start = start} {end = end} x p q) =
    let n = placed v start end in
    let forward = value_forward (with_span x p q) in
    one_of (not (is_object v)) start end (at_value rule.Root n) _
    (value_break rule.Root n forward)
    (one_of (is_token n) start end (at_value rule.Root n ++ token_breaks (entries_at n)) (group_breaks (members_in v))
    (omega arith, forward, token_chain x start end p q)
    (groups x p q))
  where
    groups : {w : Tree} {a b : List ℕ} → Shape total a w b → BeginsAt total a start → BeginsAt total b end → Chain start end (group_breaks (members_in w))
    groups (null_shape r) p q = tt
    groups (false_shape r) p q = tt
    groups (true_shape r) p q = tt
    groups (number_shape r e) p q = tt
    groups (string_shape k) p q = tt
    groups (array_shape r y) p q = tt
    groups (object_shape {m = m} {ms = ms} r y) p q =
        let k = past_token r in
        lower (total - length m) start end (group_breaks ms) (omega (arith, k, p)) (group_members y (total - length m) end (omega (arith, k, p)) q)

-- a part is a value of the text
record PartAt (total : ℕ) (n : Placed) : Type 0 where
  from : List ℕ
  rest : List ℕ
  value_ : ValueAt total from n rest

mutual
  part_at : {total : ℕ} {t u : List ℕ} {root n : Placed} → ValueAt total t root u → IsPart n root → PartAt total n
  part_at {t = t} {u = u} v itself = record { from = t; rest = u; value_ = v }
  part_at (with_span x p q) (inside i) = part_in_shape x i

  part_in_shape : {total : ℕ} {t u : List ℕ} {v : Tree} {n : Placed} → Shape total t v u → IsInside n v → PartAt total n
  part_in_shape (null_shape x) i = elim i [ ]
  part_in_shape (false_shape x) i = elim i [ ]
  part_in_shape (true_shape x) i = elim i [ ]
  part_in_shape (number_shape x e) i = elim i [ ]
  part_in_shape (string_shape x) i = elim i [ ]
  part_in_shape (array_shape x y) (inside_array i) = part_in_elements y i
  part_in_shape (object_shape x y) (inside_object i) = part_in_members y i

  part_in_elements : {total : ℕ} {t u : List ℕ} {ns : Elements} {n : Placed} → ElementsAt total t ns u → IsInElements n ns → PartAt total n
  part_in_elements (no_element x) i = elim i [ ]
  part_in_elements (first_element v b m) (in_element i) = part_at v i
  part_in_elements (first_element v b m) (in_later_element i) = part_in_more_elements m i

  part_in_more_elements : {total : ℕ} {t u : List ℕ} {ns : Elements} {n : Placed} → MoreElements total t ns u → IsInElements n ns → PartAt total n
  part_in_more_elements (last_element x) i = elim i [ ]
  part_in_more_elements (next_element c v b m) (in_element i) = part_at v i
  part_in_more_elements (next_element c v b m) (in_later_element i) = part_in_more_elements m i

  part_in_members : {total : ℕ} {t u : List ℕ} {ms : Members} {n : Placed} → MembersAt total t ms u → IsInMembers n ms → PartAt total n
  part_in_members (no_member x) i = elim i [ ]
  part_in_members (first_member (member_at k p q a c v) b m) (in_member i) = part_at v i
  part_in_members (first_member (member_at k p q a c v) b m) (in_later_member i) = part_in_more_members m i

  part_in_more_members : {total : ℕ} {t u : List ℕ} {ms : Members} {n : Placed} → MoreMembers total t ms u → IsInMembers n ms → PartAt total n
  part_in_more_members (last_member x) i = elim i [ ]
  part_in_more_members (next_member x (member_at k p q a c v) b m) (in_member i) = part_at v i
  part_in_more_members (next_member x (member_at k p q a c v) b m) (in_later_member i) = part_in_more_members m i

pub breaks_ascend : (text : List ℕ) (root n : Placed) → Shows text root → IsPart n root → Ascend 0 (shape_breaks n)
breaks_ascend text root n (t, m, blanks, v, after) part =
    let p = part_at v part in
    ascends 0 (end_of n) (shape_breaks n) (lower (start_of n) 0 (end_of n) (shape_breaks n) (omega arith) (shape_chain p.value_))
