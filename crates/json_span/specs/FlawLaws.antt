-- What is a flaw of a value: each second name of an object, and each bracket that opens one level too many. Two laws say that the flaw which
-- is told (`first_flaw`) is the first of all.
use Rattle.std.specs.Prelude.{◌≡◌, ℕ, zero, suc, ◌+◌, ◌≤◌, Bool, true, false, None, Some, ◌↔◌, List}
use Rattle.json_span.specs.Tree.{Tree, a_null, a_boolean, a_number, a_string, an_array, an_object, Placed, placed, Elements, an_element, Members, a_member, Entry}
use Rattle.json_span.specs.Reading.{Shows}
use Rattle.json_span.specs.Flaw.{Flaw, equal_names, too_deep, most_open, first_flaw}

pub data IsElementOf (n : Placed) : Elements → Type 0 where
  this_one : {ns : Elements} → IsElementOf n (an_element n ns)
  later_one : {m : Placed} {ns : Elements} → IsElementOf n ns → IsElementOf n (an_element m ns)

pub data IsMemberOf (e : Entry) : Members → Type 0 where
  this_member : {ms : Members} → IsMemberOf e (a_member e.name e.start e.end e.value ms)
  later_member : {s : List ℕ} {start end : ℕ} {n : Placed} {ms : Members} → IsMemberOf e ms →
      IsMemberOf e (a_member s start end n ms)

-- its name is that of a member before it
pub data IsSecond (e : Entry) : Members → Type 0 where
  behind_first : {s : List ℕ} {start end : ℕ} {n : Placed} {ms : Members} → IsMemberOf e ms → s ≡ e.name →
      IsSecond e (a_member s start end n ms)
  behind_other : {s : List ℕ} {start end : ℕ} {n : Placed} {ms : Members} → IsSecond e ms →
      IsSecond e (a_member s start end n ms)

-- it stands in the value, and so many brackets of the value are open around it
pub data IsAtDepth (p : Placed) : ℕ → Placed → Type 0 where
  the_root : IsAtDepth p zero p
  below_array : {depth start end : ℕ} {n : Placed} {ns : Elements} → IsElementOf n ns → IsAtDepth p depth n →
      IsAtDepth p (suc depth) (placed (an_array ns) start end)
  below_object : {depth start end : ℕ} {e : Entry} {ms : Members} → IsMemberOf e ms → IsAtDepth p depth e.value →
      IsAtDepth p (suc depth) (placed (an_object ms) start end)

abbrev pub is_list : Tree → Bool
is_list a_null = false
is_list (a_boolean b) = false
is_list (a_number k) = false
is_list (a_string s) = false
is_list (an_array ns) = true
is_list (an_object ms) = true

-- where so many brackets may be open at once
pub data IsFlaw (most : ℕ) (root : Placed) : Flaw → Type 0 where
  second_name : {depth start end : ℕ} {e : Entry} {ms : Members} →
      IsAtDepth (placed (an_object ms) start end) depth root → IsSecond e ms →
      IsFlaw most root (equal_names e.start e.end)
  opens_too_deep : {v : Tree} {start end : ℕ} → IsAtDepth (placed v start end) most root → is_list v ≡ true →
      IsFlaw most root (too_deep start (start + 1))

-- where its name or its bracket stands
abbrev pub flaw_start : Flaw → ℕ
flaw_start (equal_names start end) = start
flaw_start (too_deep start end) = start

-- The flaw that is reported is the one that starts first, and none is reported exactly where there is none.
abbrev pub FirstIsLeast : Type 0
FirstIsLeast = (text : List ℕ) (n : Placed) (f : Flaw) → Shows text n → first_flaw n ≡ Some f →
    IsFlaw most_open n f × ((g : Flaw) → IsFlaw most_open n g → flaw_start f ≤ flaw_start g)

abbrev pub NoneIsNone : Type 0
NoneIsNone = (text : List ℕ) (n : Placed) → Shows text n →
    (first_flaw n ≡ None) ↔ ((g : Flaw) → IsFlaw most_open n g → ⊥)
