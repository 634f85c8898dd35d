-- What sets need of each other, and the string that closes a ring of sets.
use Rattle.std.proofs.Common.{◌≡◌, ℕ, zero, suc, ◌+◌, ◌-◌, ◌<◌, ◌≤◌, ◌==◌, Bool, true, false, ◌&&◌, List, [], ◌∷◌, ◌++◌, ◌⊎◌, inl, inr, Option, Some, None, option_map, unwrap_or, map, codes, if◌then◌else◌, refl, sym, ap, ◌∙◌, subst, arith, slice_get, slice_index_or, length, All, length-append, append_assoc}
use Rattle.std.proofs.lemmas.Bool.Decides.{nat_tests}
use Rattle.std.proofs.lemmas.List.{length-map}
use Rattle.std.proofs.lemmas.List.Elements.{All-cons}
use Rattle.std.proofs.lemmas.Option.{slice_get-map, slice_get_within}
use Rattle.std.specs.List.{range_with_len}
use Rattle.std.specs.declared.alloc.Global.{Global}
use Rattle.std.specs.declared.vec.Vec.{Vec}
use Rattle.json_span.specs.Tree.{Placed, Entry, value_of_name}
use Rattle.ring.specs.Graph.{needs_in, IsGraph}
use Rattle.ring.specs.Lists.{In}
use Rattle.ring.specs.Routes.{IsChain, IsRoute, IsRing}
use Rattle.ring.proofs.Ends.{in_cases, leads_tail}
use Rattle.resolver_doc.specs.Document.{SourceData, file_source, set_source, inline_source, SetData, elements_at, text_at, set_number, member_entries, set_or_file, source_by, source_of, sources_of, set_of}
use Rattle.resolver_doc.specs.Form.{entries_at}
use Rattle.resolver_doc.specs.Rings.{set_in, sets_in, set_rows, set_needs, is_set_named, is_right, are_right, are_sets_right, is_set, naming_string, sources_at, last_of, ring_string}
use Rattle.resolver_doc.proofs.RightSets.{listed_right}

-- the rows of a table are its needs
pub needs_rows : (graph : List (Vec ℕ Global)) (v : ℕ) → needs_in graph v ≡ slice_index_or (map (λ row. row.items) graph) v []
needs_rows [] v = refl
needs_rows (row ∷ rows) zero = refl
needs_rows (row ∷ rows) (suc v) = needs_rows rows v

-- each number is below n

abbrev pub AreBelow : ℕ → List ℕ → Type 0
AreBelow n [] = Unit {0}
AreBelow n (v ∷ vs) = (v < n) × AreBelow n vs

abbrev pub EachBelow : ℕ → List (List ℕ) → Type 0
EachBelow n [] = Unit {0}
EachBelow n (row ∷ rows) = AreBelow n row × EachBelow n rows

below_append : (n : ℕ) (xs ys : List ℕ) → AreBelow n xs → AreBelow n ys → AreBelow n (xs ++ ys)
below_append n [] ys a b = b
below_append n (x ∷ xs) ys a b = (a.0, below_append n xs ys a.1 b)

each_append : (n : ℕ) (xs ys : List (List ℕ)) → EachBelow n xs → EachBelow n ys → EachBelow n (xs ++ ys)
each_append n [] ys a b = b
each_append n (x ∷ xs) ys a b = (a.0, each_append n xs ys a.1 b)

range_below : (a n m : ℕ) → a + n ≤ m → AreBelow m (range_with_len a n)
range_below a zero m h = tt
range_below a (suc n) m h = (omega (arith, h), range_below (a + 1) n m (omega (arith, h)))

both : (a b : Bool) → (a && b) ≡ true → (a ≡ true) × (b ≡ true)
both true b e = (refl, e)
both false b e = cc

named_below : (sets : List SetData) (name : List ℕ) (v : ℕ) (o : Option SetData) → slice_get sets v ≡ o → is_set_named name o ≡ true → v < length sets
named_below sets name v None e h = cc
named_below sets name v (Some s) e h = slice_get_within sets v s e

source_below : (sets : List SetData) (s : SourceData) → is_right sets s ≡ true → AreBelow (length sets) (set_in s)
source_below sets (file_source name start end) h = tt
source_below sets (set_source name v) h = (named_below sets name v (slice_get sets v) refl h, tt)
source_below sets (inline_source n) h = tt

sources_below : (sets : List SetData) (ss : List SourceData) → are_right sets ss ≡ true → AreBelow (length sets) (sets_in ss)
sources_below sets [] h = tt
sources_below sets (s ∷ ss) h =
    let (here, later) = both (is_right sets s) (are_right sets ss) h in
    below_append (length sets) (set_in s) (sets_in ss) (source_below sets s here) (sources_below sets ss later)

sets_below : (sets ss : List SetData) → are_sets_right sets ss ≡ true → EachBelow (length sets) (map (λ s. sets_in s.sources) ss)
sets_below sets [] h = tt
sets_below sets (s ∷ ss) h =
    let (here, later) = both (are_right sets s.sources) (are_sets_right sets ss) h in
    (sources_below sets s.sources here, sets_below sets ss later)

pub rows_below : (sets : List SetData) → are_sets_right sets sets ≡ true → EachBelow (length sets) (set_rows sets)
rows_below sets h =
    each_append (length sets) (map (λ s. sets_in s.sources) sets) (range_with_len 0 (length sets) ∷ [])
    (sets_below sets sets h) (range_below 0 (length sets) (length sets) (omega arith), tt)

below_all : (n m : ℕ) (xs : List ℕ) → n ≤ m → AreBelow n xs → All (λ w. w < m) xs
below_all n m [] h a = λ k d i. absurd (omega (arith, i))
below_all n m (x ∷ xs) h a = let hx = a.0 in All-cons (λ w. w < m) x xs (omega (arith, hx, h)) (below_all n m xs h a.1)

table_all : (graph : List (Vec ℕ Global)) (n m : ℕ) → n ≤ m → EachBelow n (map (λ row. row.items) graph) → All (λ row. All (λ w. w < m) row.items) graph
table_all [] n m h a = λ k d i. absurd (omega (arith, i))
table_all (row ∷ rows) n m h a =
    All-cons (λ (r : Vec ℕ Global). All (λ w. w < m) r.items) row rows (below_all n m row.items h a.0) (table_all rows n m h a.1)

-- a table whose rows are those of the sets
pub table_long : (graph : List (Vec ℕ Global)) (sets : List SetData) → map (λ row. row.items) graph ≡ set_rows sets → length graph ≡ length sets + 1
table_long graph sets e =
    sym (length-map graph (λ row. row.items)) ∙ (ap length e ∙ (length-append (map (λ s. sets_in s.sources) sets) (range_with_len 0 (length sets) ∷ [])
    ∙ ap (λ n. n + 1) (length-map sets (λ s. sets_in s.sources))))

pub table_graph : (graph : List (Vec ℕ Global)) (sets : List SetData) → map (λ row. row.items) graph ≡ set_rows sets → are_sets_right sets sets ≡ true → IsGraph graph
table_graph graph sets e h =
    let long = table_long graph sets e in
    table_all graph (length sets) (length graph) (omega (arith, long)) (subst (λ rows. EachBelow (length sets) rows) (sym e) (rows_below sets h))

pub table_needs : (graph : List (Vec ℕ Global)) (sets : List SetData) → map (λ row. row.items) graph ≡ set_rows sets → (v : ℕ) → needs_in graph v ≡ set_needs sets v
table_needs graph sets e v = needs_rows graph v ∙ ap (λ rows. slice_index_or rows v []) e

-- what is needed is the number of a set

in_below : (n : ℕ) (xs : List ℕ) (w : ℕ) → AreBelow n xs → In w xs → w < n
in_below n [] w a i = absurd i
in_below n (x ∷ xs) w a (inl e) = let h = a.0 in omega (arith, e, h)
in_below n (x ∷ xs) w a (inr i) = in_below n xs w a.1 i

row_below : (n : ℕ) (rows : List (List ℕ)) (v : ℕ) → EachBelow n rows → AreBelow n (slice_index_or rows v [])
row_below n [] v a = tt
row_below n (row ∷ rows) zero a = a.0
row_below n (row ∷ rows) (suc v) a = row_below n rows v a.1

pub needed_below : (sets : List SetData) → are_sets_right sets sets ≡ true → (v w : ℕ) → In w (set_needs sets v) → w < length sets
needed_below sets h v w i = in_below (length sets) (set_needs sets v) w (row_below (length sets) (set_rows sets) v (rows_below sets h)) i

-- a ring from its first node on: each needs the next one, and the last the first
record Round (needs : ℕ → List ℕ) (ring : List ℕ) : Type 0 where
  first : ℕ
  rest : List ℕ
  is : ring ≡ first ∷ rest
  leads : IsChain needs first (rest ++ first ∷ [])

round_of : (needs : ℕ → List ℕ) (root : ℕ) (ring : List ℕ) → IsRing needs root ring → Round needs ring
round_of needs root ring r =
    let p = r.part in
    let e : r.route ≡ p.before ++ p.last ∷ (p.rest ++ p.last ∷ []) = p.whole ∙ ap (λ (xs : List ℕ). p.before ++ (xs ++ p.last ∷ [])) p.begins in
    record { first = p.last; rest = p.rest; is = p.begins; leads = behind p.before p.last (p.rest ++ p.last ∷ []) (subst (IsRoute needs root) e r.first.closed.steps) }
  where
    behind : (xs : List ℕ) (x : ℕ) (ys : List ℕ) → IsRoute needs root (xs ++ x ∷ ys) → IsChain needs x ys
    behind [] x ys s = s.1
    behind (z ∷ xs) x ys s = leads_tail needs z xs x ys s.1

closes_last : (needs : ℕ → List ℕ) (v first : ℕ) (vs : List ℕ) → IsChain needs v (vs ++ first ∷ []) → In first (needs (last_of v vs))
closes_last needs v first [] l = l.0
closes_last needs v first (w ∷ ws) l = closes_last needs w first ws l.1

module _ (n : ℕ) (needs : ℕ → List ℕ) (below : (v w : ℕ) → In w (needs v) → w < n) where
  pub first_below : (v first : ℕ) (vs : List ℕ) → IsChain needs v (vs ++ first ∷ []) → first < n
  first_below v first [] l = below v first l.0
  first_below v first (w ∷ ws) l = first_below w first ws l.1

  last_below : (v first : ℕ) (vs : List ℕ) → v < n → IsChain needs v (vs ++ first ∷ []) → last_of v vs < n
  last_below v first [] h l = h
  last_below v first (w ∷ ws) h l = last_below w first ws (below v w l.0) l.1

-- the string by which sources name a set that they name

is_same : (v w : ℕ) → w ≡ v → (v == w) ≡ true
is_same v w e = grind (arith, nat_tests)

record Found (A : Type 0) (o : Option A) : Type 0 where
  item : A
  is : o ≡ Some item

if_found : {A : Type 0} (b : Bool) (x : A) (o : Option A) → Found A o → Found A (if b then Some x else o)
if_found true x o f = record { item = x; is = refl }
if_found false x o f = f

named_here : (sets : List Entry) (w : ℕ) (ns : List Placed) (string : Placed) (o : Option ℕ) → (In w (sets_in (map (source_of sets) ns)) → Found Placed (naming_string sets w ns))
    → In w (set_in (set_or_file sets string o)) ⊎ In w (sets_in (map (source_of sets) ns)) → Found Placed (if is_set w (set_or_file sets string o) then Some string else naming_string sets w ns)
named_here sets w ns string None later (inl j) = absurd j
named_here sets w ns string None later (inr j) = later j
named_here sets w ns string (Some v) later (inl (inl e)) =
    subst (λ b. Found Placed (if b then Some string else naming_string sets w ns)) (sym (is_same v w e)) (record { item = string; is = refl })
named_here sets w ns string (Some v) later (inl (inr j)) = absurd j
named_here sets w ns string (Some v) later (inr j) = if_found (v == w) string (naming_string sets w ns) (later j)

named_at : (sets : List Entry) (w : ℕ) (n : Placed) (ns : List Placed) (o : Option Placed) → (In w (sets_in (map (source_of sets) ns)) → Found Placed (naming_string sets w ns))
    → In w (set_in (source_by sets n o)) ⊎ In w (sets_in (map (source_of sets) ns)) → Found Placed (if is_set w (source_by sets n o) then o else naming_string sets w ns)
named_at sets w n ns None later (inl j) = absurd j
named_at sets w n ns None later (inr j) = later j
named_at sets w n ns (Some string) later j = named_here sets w ns string (set_number sets (text_at string)) later j

named_found : (sets : List Entry) (w : ℕ) (ns : List Placed) → In w (sets_in (map (source_of sets) ns)) → Found Placed (naming_string sets w ns)
named_found sets w [] i = absurd i
named_found sets w (n ∷ ns) i =
    named_at sets w n ns (value_of_name (codes "$ref") (entries_at n)) (named_found sets w ns)
    (in_cases (set_in (source_of sets n)) (sets_in (map (source_of sets) ns)) w i)

-- the row of a set
row_of : (sets : List SetData) (rest : List (List ℕ)) (v : ℕ) (s : SetData) → slice_get sets v ≡ Some s → slice_index_or (map (λ x. sets_in x.sources) sets ++ rest) v [] ≡ sets_in s.sources
row_of [] rest v s e = cc
row_of (x ∷ xs) rest zero s e = ap (λ (y : SetData). sets_in y.sources) (some_inner e)
  where
    some_inner : {A : Type 0} {a b : A} → Some a ≡ Some b → a ≡ b
    some_inner h = cc
row_of (x ∷ xs) rest (suc v) s e = row_of xs rest v s e

within : {A : Type 0} (xs : List A) (v : ℕ) → v < length xs → Found A (slice_get xs v)
within [] v h = absurd (omega (arith, h))
within (x ∷ xs) zero h = record { item = x; is = refl }
within (x ∷ xs) (suc v) h = within xs v (omega (arith, h))

module _ (sets : List Entry) where
  abbrev listed : List SetData
  listed = map (set_of sets) sets

  string_in : (w v : ℕ) → v < length listed → In w (set_needs listed v) → Found Placed (naming_string sets w (sources_at sets v))
  string_in w v h i =
      let e = within sets v (subst (λ n. v < n) (length-map sets (set_of sets)) h) in
      let s : slice_get listed v ≡ Some (set_of sets e.item) = slice_get-map (set_of sets) sets v ∙ ap (option_map (set_of sets)) e.is in
      let row = row_of listed (range_with_len 0 (length listed) ∷ []) v (set_of sets e.item) s in
      let members : member_entries sets v ≡ entries_at e.item.value = ap (λ (o : Option Entry). unwrap_or (option_map (λ x. entries_at x.value) o) []) e.is in
      subst (λ (es : List Entry). Found Placed (naming_string sets w (unwrap_or (option_map elements_at (value_of_name (codes "sources") es)) []))) (sym members)
      (at (value_of_name (codes "sources") (entries_at e.item.value)) (subst (In w) row i))
    where
      at : (o : Option Placed) → In w (sets_in (unwrap_or (option_map (sources_of sets) o) [])) → Found Placed (naming_string sets w (unwrap_or (option_map elements_at o) []))
      at None j = absurd j
      at (Some n) j = named_found sets w (elements_at n) j

  pub ring_closes : (ring : List ℕ) → IsRing (set_needs listed) (length listed) ring → (string : Placed) × (ring_string sets ring ≡ Some string)
  ring_closes ring r =
      let o = round_of (set_needs listed) (length listed) ring r in
      let below = needed_below listed (listed_right sets) in
      let first = first_below (length listed) (set_needs listed) below o.first o.first o.rest o.leads in
      let last = last_below (length listed) (set_needs listed) below o.first o.first o.rest first o.leads in
      let f = string_in o.first (last_of o.first o.rest) last (closes_last (set_needs listed) o.first o.first o.rest o.leads) in
      (f.item, ap (ring_string sets) o.is ∙ f.is)

map_push : (rows : List (Vec ℕ Global)) (row : Vec ℕ Global) → map (λ r. r.items) (rows ++ row ∷ []) ≡ map (λ r. r.items) rows ++ row.items ∷ []
map_push [] row = refl
map_push (r ∷ rows) row = ap (λ xs. r.items ∷ xs) (map_push rows row)

-- after the rows of the sets stands that of all sets
pub table_push : (rows : List (Vec ℕ Global)) (row : Vec ℕ Global) (sets : List SetData) → map (λ r. r.items) rows ≡ map (λ s. sets_in s.sources) sets → row.items ≡ range_with_len 0 (length sets) → map (λ r. r.items) (rows ++ row ∷ []) ≡ set_rows sets
table_push rows row sets e f = map_push rows row ∙ (ap (λ xs. xs ++ row.items ∷ []) e ∙ ap (λ ys. map (λ s. sets_in s.sources) sets ++ ys ∷ []) f)

range_next : (k n : ℕ) → k < n → range_with_len k (n - k) ≡ k ∷ range_with_len (k + 1) (n - (k + 1))
range_next k n h = let e : n - k ≡ suc (n - (k + 1)) = omega (arith, h) in ap (range_with_len k) e

-- with the next number, the others complete the list
pub range_push : (row more : List ℕ) (k n : ℕ) (all : List ℕ) → k < n → more ≡ row ++ k ∷ [] → row ++ range_with_len k (n - k) ≡ all → more ++ range_with_len (k + 1) (n - (k + 1)) ≡ all
range_push row more k n all h e is =
    ap (λ (xs : List ℕ). xs ++ range_with_len (k + 1) (n - (k + 1))) e
    ∙ (append_assoc row (k ∷ []) (range_with_len (k + 1) (n - (k + 1))) ∙ (ap (λ (xs : List ℕ). row ++ xs) (sym (range_next k n h)) ∙ is))

last_get : (v : ℕ) (vs : List ℕ) → slice_get (v ∷ vs) (length vs) ≡ Some (last_of v vs)
last_get v [] = refl
last_get v (w ∷ ws) = last_get w ws

some_number : {m n : ℕ} → Some m ≡ Some n → m ≡ n
some_number e = cc

ring_string_is : (sets : List Entry) (ring : List ℕ) (first last : ℕ) → Some first ≡ slice_get ring 0 → Some last ≡ slice_get ring (length ring - 1) → naming_string sets first (sources_at sets last) ≡ ring_string sets ring
ring_string_is sets [] first last f l = cc
ring_string_is sets (v ∷ vs) first last f l =
    let n : length (v ∷ vs) - 1 ≡ length vs = omega arith in
    let e : last ≡ last_of v vs = some_number (l ∙ (ap (slice_get (v ∷ vs)) n ∙ last_get v vs)) in
    ap (λ (x : ℕ). naming_string sets x (sources_at sets last)) (some_number f) ∙ ap (λ (x : ℕ). naming_string sets v (sources_at sets x)) e

-- the string among the sources of the last set
pub ring_string_at : (sets : List Entry) (ring : List ℕ) (first last : ℕ) (o : Option Placed) → Some first ≡ slice_get ring 0 → Some last ≡ slice_get ring (length ring - 1)
    → o ≡ value_of_name (codes "sources") (member_entries sets last) → naming_string sets first (unwrap_or (option_map elements_at o) []) ≡ ring_string sets ring
ring_string_at sets ring first last o f l e = ap (λ (x : Option Placed). naming_string sets first (unwrap_or (option_map elements_at x) [])) e ∙ ring_string_is sets ring first last f l
