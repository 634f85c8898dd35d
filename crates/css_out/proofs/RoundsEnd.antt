-- Where each link leads to an entry with the part's own marks, rounds end in an entry's own marks.
use Rattle.std.proofs.Common.{◌≡◌, ℕ, zero, suc, Bool, true, false, List, [], ◌∷◌, ◌++◌, map, flat_map, refl, sym, ◌∙◌, ap, subst, append-nil, Option, Some, inl, inr, bytes_eq}
use Rattle.std.specs.Prelude.{if◌then◌else◌}
use Rattle.std.proofs.lemmas.Grind.{flat_map-append}
use Rattle.std.proofs.lemmas.Slice.Eq.{bytes_eq-Decides}
use Rattle.ring.specs.Lists.{In, AreApart, Each}
use Rattle.css_out.specs.Piece.{Mark, Piece, mark, var, value_names}
use Rattle.css_out.specs.Reading.{Declared, Block, Reads, head, foot}
use Rattle.css_out.specs.Rounds.{declared_for, most_links, or_var, put, rounds, IsValue, Denotes}
use Rattle.css_out.specs.Parts.{Part, shown, own, plain, linked, NamedParts, declaration, own_value}
use Rattle.css_out.proofs.OneReading.{read_once}

-- Each link leads to an entry whose own marks are the part's, and at most k links stand one after the other.
pub data Nested (es : List NamedParts) : ℕ → List Part → Type 0 where
  no_parts : {k : ℕ} → Nested es k []
  itself : {k : ℕ} {ms : List Mark} {parts : List Part} → Nested es k parts → Nested es k (plain ms ∷ parts)
  leads : {k : ℕ} {n : List ℕ} {ms : List Mark} {parts : List Part} (e : NamedParts) → In e es → own_value e ≡ (n, ms) → Nested es k e.parts
      → Nested es (suc k) parts → Nested es (suc k) (linked n ms ∷ parts)

module _ (env : List ℕ → Option (List Piece)) where
  pub rounds-append : (k : ℕ) (ps qs : List Piece) → rounds k env (ps ++ qs) ≡ rounds k env ps ++ rounds k env qs
  rounds-append zero ps qs = refl
  rounds-append (suc k) ps qs = ap (rounds k env) (flat_map-append (put env) ps qs) ∙ rounds-append k (flat_map (put env) ps) (flat_map (put env) qs)

  put_marks : (ms : List Mark) → flat_map (put env) (map mark ms) ≡ map mark ms
  put_marks [] = refl
  put_marks (m ∷ ms) = ap (λ t. mark m ∷ t) (put_marks ms)

  pub rounds_marks : (k : ℕ) (ms : List Mark) → rounds k env (map mark ms) ≡ map mark ms
  rounds_marks zero ms = refl
  rounds_marks (suc k) ms = ap (rounds k env) (put_marks ms) ∙ rounds_marks k ms

  pub round_var : (k : ℕ) (n : List ℕ) (ps : List Piece) → env n ≡ Some ps → rounds (suc k) env (var n ∷ []) ≡ rounds k env ps
  round_var k n ps h = ap (λ o. rounds k env (or_var n o ++ [])) h ∙ ap (rounds k env) (append-nil ps)

pub marks-append : (ms ns : List Mark) → map mark (ms ++ ns) ≡ map mark ms ++ map mark ns
marks-append [] ns = refl
marks-append (m ∷ ms) ns = ap (λ t. mark m ∷ t) (marks-append ms ns)

-- what is declared for the name of an entry, where names differ
name_in : (e : NamedParts) (es : List NamedParts) → In e es → In e.name (value_names (map own_value es))
name_in e [] i = i
name_in e (f ∷ es) (inl same) = inl (ap (λ x. x.name) same)
name_in e (f ∷ es) (inr i) = inr (name_in e es i)

chosen : (b : Bool) (n m : List ℕ) (x y : Option (List Piece)) → bytes_eq n m ≡ b → (n ≡ m → ⊥) → (if b then x else y) ≡ y
chosen true n m x y h differ = absurd (differ ((bytes_eq-Decides n m).0 h))
chosen false n m x y h differ = refl

pub declared_entry : (es : List NamedParts) → AreApart (value_names (map own_value es)) → (e : NamedParts) → In e es → declared_for (map declaration es) e.name ≡ Some (shown e.parts)
declared_entry [] apart e i = absurd i
declared_entry (f ∷ es) apart e (inl same) =
    rw (ap (λ x. x.name) (sym same), (bytes_eq-Decides e.name e.name).1 refl) (ap (λ x. Some (shown x.parts)) (sym same))
declared_entry (f ∷ es) apart e (inr i) =
    let P : List ℕ → Type 0 = λ n. In n (value_names (map own_value es)) in
    chosen (bytes_eq f.name e.name) f.name e.name (Some (shown f.parts)) (declared_for (map declaration es) e.name) refl (λ same. apart.0 (subst P (sym same) (name_in e es i)))
    ∙ declared_entry es apart.1 e i

-- and what is declared is an entry's
from : (b : Bool) (e : NamedParts) (n : List ℕ) (o : Option (List Piece)) (es : List NamedParts) (ps : List Piece) → bytes_eq e.name n ≡ b → (if b then Some (shown e.parts) else o) ≡ Some ps
    → (o ≡ Some ps → (f : NamedParts) × In f es × (f.name ≡ n)) → (f : NamedParts) × In f (e ∷ es) × (f.name ≡ n)
from true e n o es ps t h again = (e, inl refl, (bytes_eq-Decides e.name n).0 t)
from false e n o es ps t h again = let (f, i, same) = again h in (f, inr i, same)

pub entry_declared : (es : List NamedParts) (n : List ℕ) (ps : List Piece) → declared_for (map declaration es) n ≡ Some ps → (e : NamedParts) × In e es × (e.name ≡ n)
entry_declared [] n ps h = cc
entry_declared (e ∷ es) n ps h = from (bytes_eq e.name n) e n (declared_for (map declaration es) n) es ps refl h (entry_declared es n ps)

-- what k rounds make of parts that are nested k deep
pub nested_rounds : {es : List NamedParts} → AreApart (value_names (map own_value es)) → {k : ℕ} {parts : List Part} → Nested es k parts
    → rounds k (declared_for (map declaration es)) (shown parts) ≡ map mark (own parts)
nested_rounds {es} apart {k} no_parts = rounds_marks (declared_for (map declaration es)) k []
nested_rounds {es} apart {k} (itself {ms = ms} {parts = parts} more) =
    let env = declared_for (map declaration es) in
    rounds-append env k (map mark ms) (shown parts) ∙ rw (rounds_marks env k ms, nested_rounds apart more) (sym (marks-append ms (own parts)))
nested_rounds {es} apart (leads {k} {n} {ms} {parts} e i same inner more) =
    let env = declared_for (map declaration es) in
    let name : e.name ≡ n = ap (λ v. v.0) same in
    let marks : own e.parts ≡ ms = ap (λ v. v.1) same in
    let P : List ℕ → Type 0 = λ m. env m ≡ Some (shown e.parts) in
    let found : env n ≡ Some (shown e.parts) = subst P name (declared_entry es apart e i) in
    let here : rounds (suc k) env (var n ∷ []) ≡ map mark ms = round_var env k n (shown e.parts) found ∙ nested_rounds apart inner ∙ ap (map mark) marks in
    rounds-append env (suc k) (var n ∷ []) (shown parts) ∙ rw (here, nested_rounds apart more) (sym (marks-append ms (own parts)))

-- all values
pub value_in : (es : List NamedParts) (n : List ℕ) (ms : List Mark) → In (n, ms) (map own_value es) → (e : NamedParts) × In e es × (own_value e ≡ (n, ms))
value_in [] n ms i = absurd i
value_in (e ∷ es) n ms (inl same) = (e, inl refl, sym same)
value_in (e ∷ es) n ms (inr i) = let (f, j, same) = value_in es n ms i in (f, inr j, same)

in_values : (e : NamedParts) (es : List NamedParts) → In e es → In (own_value e) (map own_value es)
in_values e [] i = i
in_values e (f ∷ es) (inl same) = inl (ap own_value same)
in_values e (f ∷ es) (inr i) = inr (in_values e es i)

marks_same : (ms ns : List Mark) → map mark ms ≡ map mark ns → ms ≡ ns
marks_same [] [] h = refl
marks_same [] (n ∷ ns) h = cc
marks_same (m ∷ ms) [] h = cc
marks_same (m ∷ ms) (n ∷ ns) h =
    let here : mark m ≡ mark n = cc in let one : m ≡ n = cc in let more : map mark ms ≡ map mark ns = cc in
    ap (λ x. x ∷ ms) one ∙ ap (λ xs. n ∷ xs) (marks_same ms ns more)

declared_names : (es : List NamedParts) → map (λ d. d.name) (map declaration es) ≡ value_names (map own_value es)
declared_names [] = refl
declared_names (e ∷ es) = ap (λ t. e.name ∷ t) (declared_names es)

module _ (es : List NamedParts) (apart : AreApart (value_names (map own_value es))) (nested : Each es (λ e. Nested es most_links e.parts)) where
  entry_value : (e : NamedParts) → In e es → IsValue (map declaration es) e.name (own e.parts)
  entry_value e i = record { start = shown e.parts; found = declared_entry es apart e i; after = nested_rounds apart (nested e i) }

  gives : (n : List ℕ) (ms : List Mark) → In (n, ms) (map own_value es) → IsValue (map declaration es) n ms
  gives n ms i =
      let (e, j, same) = value_in es n ms i in
      let P : List ℕ × List Mark → Type 0 = λ v. IsValue (map declaration es) v.0 v.1 in
      subst P same (entry_value e j)

  only : (n : List ℕ) (ms : List Mark) → IsValue (map declaration es) n ms → In (n, ms) (map own_value es)
  only n ms v =
      let (e, i, name) = entry_declared es n v.start v.found in
      let P : List ℕ → Type 0 = λ m. declared_for (map declaration es) m ≡ Some (shown e.parts) in
      let found : declared_for (map declaration es) n ≡ Some (shown e.parts) = subst P name (declared_entry es apart e i) in
      let start : v.start ≡ shown e.parts = cc in
      let marks : map mark ms ≡ map mark (own e.parts) = sym v.after ∙ ap (rounds most_links (declared_for (map declaration es))) start ∙ nested_rounds apart (nested e i) in
      let Q : List ℕ × List Mark → Type 0 = λ x. In x (map own_value es) in
      let same : own_value e ≡ (n, ms) = ap (λ m. (m, own e.parts)) name ∙ ap (λ x. (n, x)) (marks_same (own e.parts) ms (sym marks)) in
      subst Q same (in_values e es i)

  pub denotes : (inside : List ℕ) → Block inside (map declaration es) → Denotes (head ++ (inside ++ foot)) (map own_value es)
  denotes inside block =
      let reads : Reads (head ++ (inside ++ foot)) (map declaration es) = record { inside = inside; frame = refl; block = block } in
      record {
        declarations = map declaration es;
        reads = reads;
        declares = declared_names es;
        gives = λ n ms i. record { declarations = map declaration es; reads = reads; stands = gives n ms i };
        only = λ n ms h.
            let P : List Declared → Type 0 = λ ds. IsValue ds n ms in
            only n ms (subst P (read_once _ h.declarations (map declaration es) h.reads reads) h.stands);
      }
