-- The slice of an object in a text.
use Rattle.std.proofs.Common.{◌≡◌, ℕ, suc, ◌+◌, ◌<◌, ◌≤◌, List, [], ◌∷◌, ◌++◌, length, length-append, length-drop, append_assoc, drop, get_or, refl, sym, ap, ◌∙◌, subst, arith}
use Rattle.std.specs.Prelude.{slice_range}
use Rattle.std.specs.Str.{IsUtf8, IsCharBoundary}
use Rattle.std.proofs.lemmas.Str.{IsCharBoundary-before_ascii, IsCharBoundary-after_ascii}
use Rattle.std.proofs.lemmas.List.{get_or-drop, get_or_append_left}
use Rattle.std.proofs.lemmas.List.Folds.{drop_split}
use Rattle.std.proofs.Common.{add-zero}
use Rattle.json_span.proofs.Skips.{none_left}
use Rattle.grammar.specs.Grammar.{Rule, Reads, one_byte, both}
use Rattle.json_span.specs.Grammar.{Name, one}
use Rattle.json_span.specs.Predictive.{rules}
use Rattle.json_span.specs.Tree.{Tree, a_null, a_boolean, a_number, a_string, an_array, an_object, Placed, placed, Members, tree_of, start_of, end_of}
use Rattle.json_span.specs.Reading.{with_span, Shape, object_shape, member_at, MembersAt, no_member, first_member, MoreMembers, last_member, next_member, Shows}
use Rattle.json_span.specs.Parts.{IsPart, moved, moved_tree}
use Rattle.json_span.proofs.Exists.{front_of}
use Rattle.json_span.proofs.Shorts.{is_value}
use Rattle.json_span.proofs.Slices.{slices_show}
use Rattle.json_span.proofs.Unique.{value_reads}

-- the text ends with '}' before what follows
record Closed (t u : List ℕ) : Type 0 where
  front : List ℕ
  joined : t ≡ front ++ 125 ∷ u

before : {r : Rule Name} {t m u : List ℕ} → Reads rules r t m → Closed m u → Closed t u
before {t = t} {m = m} {u = u} x c = let (k, e) = front_of x in record { front = k ++ c.front; joined = e ∙ (ap (λ z. k ++ z) c.joined ∙ sym (append_assoc k c.front (125 ∷ u))) }

closing : {t u : List ℕ} → Reads rules (one 125) t u → Closed t u
closing {u = u} (one_byte {c = c} h) = record { front = []; joined = ap (λ z. z ∷ u) (is_value c 125 h) }

mutual
  members_close : {total : ℕ} {t u : List ℕ} {ms : Members} → MembersAt total t ms u → Closed t u
  members_close (no_member r) = closing r
  members_close (first_member (member_at k p q a c v) b m) = before k.reads (before a (before c (before (value_reads v) (before b (more_members_close m)))))

  more_members_close : {total : ℕ} {t u : List ℕ} {ms : Members} → MoreMembers total t ms u → Closed t u
  more_members_close (last_member r) = closing r
  more_members_close (next_member x (member_at k p q a c v) b m) = before x (before k.reads (before a (before c (before (value_reads v) (before b (more_members_close m))))))

-- a text that begins with '{' and ends with '}'
pub record Braced (s u : List ℕ) : Type 0 where
  pub inner : List ℕ
  pub whole : s ≡ 123 ∷ (inner ++ 125 ∷ u)

braced : {total : ℕ} {t u : List ℕ} {ms : Members} → Shape total t (an_object ms) u → Braced t u
braced {u = u} (object_shape {m = m} (both (one_byte {c = c} {t = t} h) w) y) =
    let k = before w (members_close y) in
    record { inner = k.front; whole = ap (λ z. z ∷ t) (is_value c 123 h) ∙ ap (λ z. 123 ∷ z) k.joined }

object_before : (d : ℕ) (v : Tree) (ms : Members) → moved_tree d v ≡ an_object ms → (ns : Members) × (v ≡ an_object ns)
object_before d a_null ms e = absurd (cc)
object_before d (a_boolean b) ms e = absurd (cc)
object_before d (a_number k) ms e = absurd (cc)
object_before d (a_string s) ms e = absurd (cc)
object_before d (an_array ns) ms e = absurd (cc)
object_before d (an_object ns) ms e = (ns, refl)

-- An object in a text: its slice, and what the slice shows by itself.
pub record ObjectAt (text : List ℕ) (n : Placed) : Type 0 where
  pub alone : Placed
  pub shown : Shows (slice_range text (start_of n) (end_of n)) alone
  pub placed_ : moved (start_of n) alone ≡ n
  pub first : start_of alone ≡ 0
  pub last : end_of alone ≡ length (slice_range text (start_of n) (end_of n))
  pub long : end_of n ≡ start_of n + length (slice_range text (start_of n) (end_of n))
  pub within : end_of n ≤ length text
  pub inner : List ℕ
  pub whole : slice_range text (start_of n) (end_of n) ≡ 123 ∷ (inner ++ 125 ∷ [])

at_slice : (text : List ℕ) (v : Tree) (a b : ℕ) (ms : Members) → v ≡ an_object ms → (m : Placed) → Shows (slice_range text a b) m → moved a m ≡ placed v a b → ObjectAt text (placed v a b)
at_slice text v a b ms is (placed w x y) (t, u, blanks, with_span shape p q, after) e =
    let s = slice_range text a b in
    let tree : moved_tree a w ≡ v = ap tree_of e in
    let begin : a + x ≡ a = ap start_of e in
    let finish : a + y ≡ b = ap end_of e in
    let (ns, o) = object_before a w ms (tree ∙ is) in
    let br : Braced t u = braced (subst (λ z. Shape (length s) t z u) o shape) in
    let (k, fk) = front_of blanks in
    let lengths : length s ≡ length k + length t = ap length fk ∙ length-append k t in
    let no_blank : k ≡ [] = none_left k (omega arith) in
    let same : s ≡ t = fk ∙ ap (λ z. z ++ t) no_blank in
    let inner_length : length (br.inner ++ 125 ∷ u) ≡ length br.inner + suc (length u) = length-append br.inner (125 ∷ u) in
    let long : length t ≡ suc (length br.inner + suc (length u)) = ap length br.whole ∙ ap suc inner_length in
    let cut : drop a text ≡ s ++ drop b text = drop_split text a b (omega arith) in
    let parts : length (drop a text) ≡ length s + length (drop b text) = ap length cut ∙ length-append s (drop b text) in
    let fits : (b ≤ length text) × (length u ≡ 0) = (omega (arith, length-drop a text, length-drop b text), omega (arith, length-drop a text, length-drop b text)) in
    let none : u ≡ [] = none_left u fits.1 in
    let last_ : y ≡ length s = omega (arith, fits.1) in
    record {
      alone = placed w x y;
      shown = (t, u, blanks, with_span shape p q, after);
      placed_ = e;
      first = omega arith;
      last = last_;
      long = sym finish ∙ ap (λ z. a + z) last_;
      within = fits.0;
      inner = br.inner;
      whole = same ∙ (br.whole ∙ ap (λ z. 123 ∷ (br.inner ++ 125 ∷ z)) none);
    }

pub object_at : (text : List ℕ) (root n : Placed) → Shows text root → IsPart n root → (ms : Members) → tree_of n ≡ an_object ms → ObjectAt text n
object_at text root (placed v a b) shows part ms is = let (m, sh, mv) = slices_show text root (placed v a b) shows part in at_slice text v a b ms is m sh mv

byte_in : (text s rest : List ℕ) (a i : ℕ) → drop a text ≡ s ++ rest → i < length s → get_or text (a + i) 0 ≡ get_or s i 0
byte_in text s rest a i e h = sym (get_or-drop a text i 0) ∙ (ap (λ z. get_or z i 0) e ∙ get_or_append_left s rest 0 i h)

last_byte : (xs : List ℕ) (b : ℕ) → get_or (xs ++ b ∷ []) (length xs) 0 ≡ b
last_byte [] b = refl
last_byte (x ∷ xs) b = last_byte xs b

-- characters begin at both ends of the slice
pub boundaries : (text : List ℕ) (n : Placed) → IsUtf8 text → ObjectAt text n → IsCharBoundary text (start_of n) × IsCharBoundary text (end_of n)
boundaries text n utf o =
    let a = start_of n in
    let b = end_of n in
    let s = slice_range text a b in
    let inner_length : length (o.inner ++ 125 ∷ []) ≡ length o.inner + 1 = length-append o.inner (125 ∷ []) in
    let size : length s ≡ suc (length (o.inner ++ 125 ∷ [])) = ap length o.whole in
    let cut : drop a text ≡ s ++ drop b text = drop_split text a b (omega (arith, o.long)) in
    let k = suc (length o.inner) in
    let opens : get_or text (a + 0) 0 ≡ 123 = byte_in text s (drop b text) a 0 cut (omega arith) ∙ ap (λ z. get_or z 0 0) o.whole in
    let first_ : get_or text a 0 ≡ 123 = ap (λ z. get_or text z 0) (sym (add-zero a)) ∙ opens in
    let closes : get_or text (a + k) 0 ≡ 125 = byte_in text s (drop b text) a k cut (omega arith) ∙ (ap (λ z. get_or z k 0) o.whole ∙ last_byte o.inner 125) in
    let end : (a + k) + 1 ≡ b = omega (arith, o.long) in (
      IsCharBoundary-before_ascii text a (omega (arith, o.long, o.within)) (omega (arith, first_)),
      subst (IsCharBoundary text) end (IsCharBoundary-after_ascii text (a + k) utf (omega (arith, o.long, o.within)) (omega (arith, closes))),
    )
