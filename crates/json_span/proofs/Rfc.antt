-- The grammar of RFC 8259 and its steered form derive the same texts, and so have the same viable prefixes.
use Rattle.std.proofs.Common.{◌≡◌, ℕ, List, ◌++◌, take, Bool, true, false, ◌&&◌, refl}
use Rattle.grammar.specs.Grammar.{Rule, empty, byte, seq, alt, many, named, Reads, Derives, IsFront, EachPasses, no_byte, one_byte, both, left, right, no_more, more, by_name}
use Rattle.grammar.specs.Stop.{Refuses}
use Rattle.grammar.proofs.Steps.{rounds}
use Rattle.grammar.proofs.Fronts.{goes_on, is_front}
use Rattle.grammar.proofs.Tables.{passes_from}
use Rattle.json_span.specs.Grammar.{Name, value, number, string, grammar, json_text, ws, one, member, value_separator}
use Rattle.json_span.specs.Predictive.{Bracket, square, curly, rules, symbol, before_of, list_item_of, json}
use Rattle.json_span.proofs.Predictive.{spelled, passes}

-- the rule goes through no name
abbrev is_plain : Rule Name → Bool
is_plain empty = true
is_plain (byte low high) = true
is_plain (seq r s) = is_plain r && is_plain s
is_plain (alt r s) = is_plain r && is_plain s
is_plain (many r) = is_plain r
is_plain (named n) = false

and_both : (a b : Bool) → (a && b) ≡ true → (a ≡ true) × (b ≡ true)
and_both true b e = (refl, e)
and_both false b e = cc

-- such a rule reads the same under any names
same : (g h : Name → Rule Name) {r : Rule Name} {t u : List ℕ} → Reads g r t u → is_plain r ≡ true → Reads h r t u
same g h no_byte p = no_byte
same g h (one_byte k) p = one_byte k
same g h (both {r} {s} x y) p = let (q, e) = and_both (is_plain r) (is_plain s) p in both (same g h x q) (same g h y e)
same g h (left {r} {s} x) p = let (q, e) = and_both (is_plain r) (is_plain s) p in left (same g h x q)
same g h (right {r} {s} x) p = let (q, e) = and_both (is_plain r) (is_plain s) p in right (same g h x e)
same g h no_more p = no_more
same g h (more x y) p = more (same g h x p) (same g h y p)
same g h (by_name x) p = cc

to : {r : Rule Name} {t u : List ℕ} → Reads rules r t u → is_plain r ≡ true → Reads grammar r t u
to x p = same rules grammar x p

from : {r : Rule Name} {t u : List ℕ} → Reads grammar r t u → is_plain r ≡ true → Reads rules r t u
from x p = same grammar rules x p

pub string_to : {t u : List ℕ} → Reads rules (named string) t u → Reads grammar (named string) t u
string_to (by_name x) = by_name (to x refl)

string_from : {t u : List ℕ} → Reads grammar (named string) t u → Reads rules (named string) t u
string_from (by_name x) = by_name (from x refl)

pub number_to : {t u : List ℕ} → Reads rules (named number) t u → Reads grammar (named number) t u
number_to (by_name x) = by_name (to x refl)

number_from : {t u : List ℕ} → Reads grammar (named number) t u → Reads rules (named number) t u
number_from (by_name x) = by_name (from x refl)

ws_to : {t u : List ℕ} → Reads rules ws t u → Reads grammar ws t u
ws_to x = to x refl

ws_from : {t u : List ℕ} → Reads grammar ws t u → Reads rules ws t u
ws_from x = from x refl

one_to : {c : ℕ} {t u : List ℕ} → Reads rules (one c) t u → Reads grammar (one c) t u
one_to (one_byte h) = one_byte h

one_from : {c : ℕ} {t u : List ℕ} → Reads grammar (one c) t u → Reads rules (one c) t u
one_from (one_byte h) = one_byte h

member_to : {t m u : List ℕ} → Reads rules (before_of curly) t m → Reads grammar (named value) m u → Reads grammar member t u
member_to (both q (both a (both x b))) v = both (string_to q) (both (both (ws_to a) (both (one_to x) (ws_to b))) v)

mutual
  pub value_to : {t u : List ℕ} → Reads rules (named value) t u → Reads grammar (named value) t u
  value_to (by_name (left x)) = by_name (left (to x refl))
  value_to (by_name (right (left x))) = by_name (right (left (to x refl)))
  value_to (by_name (right (right (left x)))) = by_name (right (right (left (to x refl))))
  value_to (by_name (right (right (right (left (both (both x b) (left y))))))) =
      by_name (right (right (right (left (both (both no_more (both (one_to x) (ws_to b))) (both (right no_byte) (both no_more (both (one_to y) no_more))))))))
  value_to (by_name (right (right (right (left (both (both x b) (right (both (both p (both v c)) (both ms y))))))))) =
      let (w, m, d) = members_to c ms in
      by_name (right (right (right (left (both (both no_more (both (one_to x) (ws_to b))) (both (left (both (member_to p (value_to v)) m)) (both d (both (one_to y) no_more))))))))
  value_to (by_name (right (right (right (right (left (both (both x b) (left y)))))))) =
      by_name (right (right (right (right (left (both (both no_more (both (one_to x) (ws_to b))) (both (right no_byte) (both no_more (both (one_to y) no_more)))))))))
  value_to (by_name (right (right (right (right (left (both (both x b) (right (both (both no_byte (both v c)) (both ms y)))))))))) =
      let (w, m, d) = elements_to c ms in
      by_name (right (right (right (right (left (both (both no_more (both (one_to x) (ws_to b))) (both (left (both (value_to v) m)) (both d (both (one_to y) no_more)))))))))
  value_to (by_name (right (right (right (right (right (left x))))))) = by_name (right (right (right (right (right (left (number_to x)))))))
  value_to (by_name (right (right (right (right (right (right x))))))) = by_name (right (right (right (right (right (right (string_to x)))))))

  -- the blanks before a comma or a bracket
  elements_to : {t u v : List ℕ} → Reads rules ws t u → Reads rules (many (seq (symbol 44) (list_item_of square))) u v → (w : List ℕ) × Reads grammar (many (seq value_separator (named value))) t w × Reads grammar ws w v
  elements_to {t = t} c no_more = (t, no_more, ws_to c)
  elements_to c (more (both (both x b) (both no_byte (both v d))) ms) =
      let (w, m, e) = elements_to d ms in
      (w, more (both (both (ws_to c) (both (one_to x) (ws_to b))) (value_to v)) m, e)

  members_to : {t u v : List ℕ} → Reads rules ws t u → Reads rules (many (seq (symbol 44) (list_item_of curly))) u v → (w : List ℕ) × Reads grammar (many (seq value_separator member)) t w × Reads grammar ws w v
  members_to {t = t} c no_more = (t, no_more, ws_to c)
  members_to c (more (both (both x b) (both p (both v d))) ms) =
      let (w, m, e) = members_to d ms in
      (w, more (both (both (ws_to c) (both (one_to x) (ws_to b))) (member_to p (value_to v))) m, e)

-- a value of the RFC's grammar may have blanks around it
record Around (t u : List ℕ) : Type 0 where
  pub before : List ℕ
  pub behind : List ℕ
  pub lead : Reads rules ws t before
  pub value_ : Reads rules (named value) before behind
  pub trail : Reads rules ws behind u

-- and so may a member after it
record MemberAround (t u : List ℕ) : Type 0 where
  pub start : List ℕ
  pub behind : List ℕ
  pub before : Reads rules (before_of curly) t start
  pub value_ : Reads rules (named value) start behind
  pub trail : Reads rules ws behind u

-- the same as rounds after blanks
record RestOf (b : Bracket) (s v : List ℕ) : Type 0 where
  pub comma : List ℕ
  pub lead : Reads rules ws s comma
  pub items : Reads rules (many (seq (symbol 44) (list_item_of b))) comma v

alone : {t u : List ℕ} → Reads rules (named value) t u → Around t u
alone {t} {u} x = record { before = t; behind = u; lead = no_more; value_ = x; trail = no_more }

listed : {t m v u : List ℕ} → Reads rules ws t m → Reads rules (named value) m v → Reads rules ws v u → Around t u
listed {t} {m} {v} {u} a x d = record { before = m; behind = v; lead = a; value_ = x; trail = d }

mutual
  value_from : {t u : List ℕ} → Reads grammar (named value) t u → Around t u
  value_from (by_name (left x)) = alone (by_name (left (from x refl)))
  value_from (by_name (right (left x))) = alone (by_name (right (left (from x refl))))
  value_from (by_name (right (right (left x)))) = alone (by_name (right (right (left (from x refl)))))
  value_from (by_name (right (right (right (left (both (both a (both x b)) (both (right no_byte) (both c (both y d))))))))) =
      listed (ws_from a) (by_name (right (right (right (left (both (both (one_from x) (rounds (ws_from b) (ws_from c))) (left (one_from y)))))))) (ws_from d)
  value_from (by_name (right (right (right (left (both (both a (both x b)) (both (left (both w ms)) (both c (both y d))))))))) =
      let i = member_from w in
      let r = members_from ms (ws_from c) i.trail in
      listed (ws_from a) (by_name (right (right (right (left (both (both (one_from x) (ws_from b)) (right (both (both i.before (both i.value_ r.lead)) (both r.items (one_from y)))))))))) (ws_from d)
  value_from (by_name (right (right (right (right (left (both (both a (both x b)) (both (right no_byte) (both c (both y d)))))))))) =
      listed (ws_from a) (by_name (right (right (right (right (left (both (both (one_from x) (rounds (ws_from b) (ws_from c))) (left (one_from y))))))))) (ws_from d)
  value_from (by_name (right (right (right (right (left (both (both a (both x b)) (both (left (both w ms)) (both c (both y d)))))))))) =
      let i = value_from w in
      let r = elements_from ms (ws_from c) i.trail in
      listed (ws_from a) (by_name (right (right (right (right (left (both (both (one_from x) (rounds (ws_from b) i.lead)) (right (both (both no_byte (both i.value_ r.lead)) (both r.items (one_from y))))))))))) (ws_from d)
  value_from (by_name (right (right (right (right (right (left x))))))) = alone (by_name (right (right (right (right (right (left (number_from x))))))))
  value_from (by_name (right (right (right (right (right (right x))))))) = alone (by_name (right (right (right (right (right (right (string_from x))))))))

  member_from : {t u : List ℕ} → Reads grammar member t u → MemberAround t u
  member_from (both q (both (both a (both x b)) w)) =
      let i = value_from w in
      record { start = i.before; behind = i.behind; before = both (string_from q) (both (ws_from a) (both (one_from x) (rounds (ws_from b) i.lead))); value_ = i.value_; trail = i.trail }

  elements_from : {s t u v : List ℕ} → Reads grammar (many (seq value_separator (named value))) t u → Reads rules ws u v → Reads rules ws s t → RestOf square s v
  elements_from {v = v} no_more c g = record { comma = v; lead = rounds g c; items = no_more }
  elements_from (more (both (both {u = o} a (both x b)) w) ms) c g =
      let i = value_from w in
      let r = elements_from ms c i.trail in
      record { comma = o; lead = rounds g (ws_from a); items = more (both (both (one_from x) (rounds (ws_from b) i.lead)) (both no_byte (both i.value_ r.lead))) r.items }

  members_from : {s t u v : List ℕ} → Reads grammar (many (seq value_separator member)) t u → Reads rules ws u v → Reads rules ws s t → RestOf curly s v
  members_from {v = v} no_more c g = record { comma = v; lead = rounds g c; items = no_more }
  members_from (more (both (both {u = o} a (both x b)) w) ms) c g =
      let i = member_from w in
      let r = members_from ms c i.trail in
      record { comma = o; lead = rounds g (ws_from a); items = more (both (both (one_from x) (ws_from b)) (both i.before (both i.value_ r.lead))) r.items }

pub to_rfc : {t : List ℕ} → Derives rules json t → Derives grammar json_text t
to_rfc (both a (both v b)) = both (ws_to a) (both (value_to v) (ws_to b))

pub from_rfc : {t : List ℕ} → Derives grammar json_text t → Derives rules json t
from_rfc (both a (both v b)) = let i = value_from v in both (rounds (ws_from a) i.lead) (both i.value_ (rounds i.trail (ws_from b)))

-- examples of the RFC's named rules
rfc_spelled : (n : Name) → (w : List ℕ) × Derives grammar (named n) w
rfc_spelled value = let (w, d) = spelled value in (w, value_to d)
rfc_spelled number = let (w, d) = spelled number in (w, number_to d)
rfc_spelled string = let (w, d) = spelled string in (w, string_to d)

rfc_passes : (n : Name) → EachPasses (grammar n)
rfc_passes value = passes_from (grammar value) refl
rfc_passes number = passes_from (grammar number) refl
rfc_passes string = passes_from (grammar string) refl

pub rfc_goes_on : (t : List ℕ) → IsFront grammar json_text t → (w : List ℕ) × Derives grammar json_text (t ++ w)
rfc_goes_on t f = goes_on grammar rfc_spelled rfc_passes f (passes_from json_text refl)

pub front_to : (t : List ℕ) → IsFront rules json t → IsFront grammar json_text t
front_to t f = let (w, d) = goes_on rules spelled passes f (passes_from json refl) in is_front grammar t w (to_rfc d)

pub front_from : (t : List ℕ) → IsFront grammar json_text t → IsFront rules json t
front_from t f = let (w, d) = rfc_goes_on t f in is_front rules t w (from_rfc d)

-- a refusal in either grammar
pub refuses_to : (text : List ℕ) (at : ℕ) → Refuses rules json text at → Refuses grammar json_text text at
refuses_to text at r = record {
  no_reading = λ d. r.no_reading (from_rfc d);
  stop = record { within_text = r.stop.within_text; front = front_to (take at text) r.stop.front; longest = λ j lt le f. r.stop.longest j lt le (front_from (take j text) f) };
}
