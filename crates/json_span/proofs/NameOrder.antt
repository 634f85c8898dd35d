-- Names in their order: the least place of a name that equals the one before it is that of the first second name.
use Rattle.std.proofs.Common.{◌≡◌, ℕ, zero, suc, ◌+◌, ◌<◌, ◌≤◌, ◌||◌, ◌&&◌, not, List, [], ◌∷◌, ◌++◌, Bor, length, take, drop, get_or, Bool, true, false, cond, Option, Some, None, refl, sym, ap, ◌∙◌, subst, arith, add-one, ◌⊎◌, inl, inr, Ordering, Less, Equal, Greater}
use Rattle.std.specs.Prelude.{slice_get, nat_le}
use Rattle.std.specs.Cmp.{tied_itself}
use Rattle.std.specs.Cmp.Lexicographic.{nat_list_cmp_total}
use Rattle.std.specs.List.{filter}
use Rattle.std.specs.List.Sorted.{IsSortedBy, IsStableBy, IsSortedByClosure, IsStableByClosure, ties}
use Rattle.std.specs.Ordering.{is_lt, ordering_reverse}
use Rattle.std.specs.Str.{bytes_eq}
use Rattle.std.proofs.lemmas.List.{drop_all, take_all}
use Rattle.std.proofs.lemmas.List.Sorted.{ranks_by}
use Rattle.std.proofs.lemmas.Fn.{always_returns_same}
use denote.Param.Members.{Mut}
use Rattle.std.specs.Fn.{Called}
use Rattle.std.proofs.lemmas.Bool.Decides.{nat_tests}
use Rattle.std.proofs.lemmas.Option.{slice_get-get_or, slice_get_within}
use Rattle.std.proofs.lemmas.Slice.Eq.{bytes_eq-Decides}
use Rattle.tk_io.specs.Order.{text_cmp}
use Rattle.tk_io.proofs.TextMaps.{text_cmp-IsAntisymmetric}
use Rattle.json_span.specs.Tree.{Entry, placed, a_null}
use Rattle.json_span.specs.Flaw.{equal_names, is_seen}
use Rattle.json_span.specs.inner.Names.{AreNamesOf, names_flaw, reversed_names}
use Rattle.json_span.specs.inner.NameOrder.{key_of, word_of, word, named_at, placed_from, is_below, AreSorted, least, again_in}
use Rattle.json_span.specs.declared.names.NameSpan.{NameSpan}
use Rattle.json_span.specs.declared.names.PlacedName.{PlacedName}
use Rattle.json_span.proofs.Naming.{no_name, are_at, are_many, one_entry, told_at, seen_before, flaw_here, flaw_later}

-- what stands after the last
pub no_placed : PlacedName
no_placed = record { key = 0; name = []; place = 0 }

-- it stands in the list
data In (y : PlacedName) : List PlacedName → Type 0 where
  in_head : {l : List PlacedName} → In y (y ∷ l)
  in_tail : {z : PlacedName} {l : List PlacedName} → In y l → In y (z ∷ l)

-- the one stands before the other
data Follows (x y : PlacedName) : List PlacedName → Type 0 where
  from_head : {l : List PlacedName} → In y l → Follows x y (x ∷ l)
  from_tail : {z : PlacedName} {l : List PlacedName} → Follows x y l → Follows x y (z ∷ l)

-- directly before it
data Next (x y : PlacedName) : List PlacedName → Type 0 where
  at_head : {l : List PlacedName} → Next x y (x ∷ y ∷ l)
  next_tail : {z : PlacedName} {l : List PlacedName} → Next x y l → Next x y (z ∷ l)

next_follows : (x y : PlacedName) (l : List PlacedName) → Next x y l → Follows x y l
next_follows x y [] n = elim n [ ]
next_follows x y _ at_head = from_head in_head
next_follows x y (z ∷ l) (next_tail n) = from_tail (next_follows x y l n)

-- what a test keeps stays in order
in_filter : (p : PlacedName → Bool) (y : PlacedName) (l : List PlacedName) → In y l → p y ≡ true → In y (filter p l)
in_filter p y [] h e = elim h [ ]
in_filter p y (z ∷ l) in_head e = subst (λ b. In y (cond b (y ∷ filter p l) (filter p l))) (sym e) in_head
in_filter p y (z ∷ l) (in_tail h) e = elim (p z) as (λ b. In y (cond b (z ∷ filter p l) (filter p l))) [ true ↦ in_tail (in_filter p y l h e) | false ↦ in_filter p y l h e ]

in_more : (y z : PlacedName) (a b : List PlacedName) → (In y a → In y b) → In y (z ∷ a) → In y (z ∷ b)
in_more y z a b f in_head = in_head
in_more y z a b f (in_tail h) = in_tail (f h)

in_unfilter : (p : PlacedName → Bool) (y : PlacedName) (l : List PlacedName) → In y (filter p l) → In y l
in_unfilter p y [] h = elim h [ ]
in_unfilter p y (z ∷ l) h =
    elim (p z) as (λ b. In y (cond b (z ∷ filter p l) (filter p l)) → In y (z ∷ l)) [ true ↦ λ k. in_more y z (filter p l) l (in_unfilter p y l) k | false ↦ λ k. in_tail (in_unfilter p y l k) ] h

follows_filter : (p : PlacedName → Bool) (x y : PlacedName) (l : List PlacedName) → Follows x y l → p x ≡ true → p y ≡ true → Follows x y (filter p l)
follows_filter p x y [] h e f = elim h [ ]
follows_filter p x y (z ∷ l) (from_head h) e f = subst (λ b. Follows x y (cond b (x ∷ filter p l) (filter p l))) (sym e) (from_head (in_filter p y l h f))
follows_filter p x y (z ∷ l) (from_tail h) e f =
    elim (p z) as (λ b. Follows x y (cond b (z ∷ filter p l) (filter p l))) [ true ↦ from_tail (follows_filter p x y l h e f) | false ↦ follows_filter p x y l h e f ]

follows_more : (x y z : PlacedName) (a b : List PlacedName) → (In y a → In y b) → (Follows x y a → Follows x y b) → Follows x y (z ∷ a) → Follows x y (z ∷ b)
follows_more x y z a b f g (from_head h) = from_head (f h)
follows_more x y z a b f g (from_tail h) = from_tail (g h)

follows_unfilter : (p : PlacedName → Bool) (x y : PlacedName) (l : List PlacedName) → Follows x y (filter p l) → Follows x y l
follows_unfilter p x y [] h = elim h [ ]
follows_unfilter p x y (z ∷ l) h =
    elim (p z) as (λ b. Follows x y (cond b (z ∷ filter p l) (filter p l)) → Follows x y (z ∷ l)) [
      | true ↦ λ k. follows_more x y z (filter p l) l (in_unfilter p y l) (follows_unfilter p x y l) k
      | false ↦ λ k. from_tail (follows_unfilter p x y l k)
    ] h

-- a stable sort keeps equal names in order, both ways
ties_same : (x y : PlacedName) → word x ≡ word y → ties is_below x y ≡ true
ties_same x y e =
    subst (λ t. (not (is_lt (text_cmp (word x) t)) && not (is_lt (text_cmp t (word x)))) ≡ true) e (ap (λ r. not (is_lt r) && not (is_lt r)) (tied_itself nat_list_cmp_total (word x)))

module _ (xs ys : List PlacedName) (stable : IsStableBy is_below xs ys) (x y : PlacedName) (same : word x ≡ word y) where
  to_sorted : Follows x y xs → Follows x y ys
  to_sorted h = follows_unfilter (ties is_below x) x y ys (subst (Follows x y) (sym (stable x)) (follows_filter (ties is_below x) x y xs h (ties_same x x refl) (ties_same x y same)))

  from_sorted : Follows x y ys → Follows x y xs
  from_sorted h = follows_unfilter (ties is_below x) x y xs (subst (Follows x y) (stable x) (follows_filter (ties is_below x) x y ys h (ties_same x x refl) (ties_same x y same)))

-- in a sorted list an equal name stands directly before
tail_sorted : (z : PlacedName) (zs : List PlacedName) → IsSortedBy is_below (z ∷ zs) → IsSortedBy is_below zs
tail_sorted z zs s k d low high =
    let e : suc k + 1 ≡ suc (k + 1) = omega arith in
    subst (λ j. is_below (get_or (z ∷ zs) j d) (get_or zs k d) ≡ false) e (s (suc k) d (omega arith) (omega (arith, high)))

head_least : (x z : PlacedName) (l : List PlacedName) → IsSortedBy is_below (x ∷ z ∷ l) → is_below z x ≡ false
head_least x z l s = s 0 x (omega arith) (omega arith)

none_less : (x y : PlacedName) (l : List PlacedName) → IsSortedBy is_below (x ∷ l) → In y l → is_below y x ≡ false
none_less x y [] s h = elim h [ ]
none_less x y (z ∷ l) s in_head = head_least x y l s
none_less x y (z ∷ l) s (in_tail h) = (ranks_by nat_list_cmp_total word).chain y z x (none_less z y l (tail_sorted x (z ∷ l) s) h) (head_least x z l s)

tied : (r : Ordering) → is_lt r ≡ false → is_lt (ordering_reverse r) ≡ false → r ≡ Equal
tied Less e f = cc
tied Equal e f = refl
tied Greater e f = cc

between : (x y z : PlacedName) → is_below z x ≡ false → is_below y z ≡ false → word x ≡ word y → word z ≡ word y
between x y z e f same =
    text_cmp-IsAntisymmetric (word z) (word y) (tied (text_cmp (word z) (word y)) (subst (λ t. is_lt (text_cmp (word z) t) ≡ false) same e) (ap is_lt (sym (nat_list_cmp_total.antisymm (word y) (word z))) ∙ f))

abbrev HasNext : PlacedName → List PlacedName → Type 0
HasNext y l = (w : PlacedName) × Next w y l × (word w ≡ word y)

next_of : (x y : PlacedName) (l : List PlacedName) → IsSortedBy is_below (x ∷ l) → In y l → word x ≡ word y → HasNext y (x ∷ l)
next_of x y [] s h e = elim h [ ]
next_of x y (z ∷ l) s in_head e = (x, at_head, e)
next_of x y (z ∷ l) s (in_tail h) e =
    let rest = tail_sorted x (z ∷ l) s in
    let (w, n, t) = next_of z y l rest h (between x y z (head_least x z l s) (none_less z y l rest h) e) in
    (w, next_tail n, t)

has_next : (x y : PlacedName) (ys : List PlacedName) → IsSortedBy is_below ys → Follows x y ys → word x ≡ word y → HasNext y ys
has_next x y [] s h e = elim h [ ]
has_next x y (z ∷ l) s (from_head h) e = next_of x y l s h e
has_next x y (z ∷ l) s (from_tail h) e = let (w, n, t) = has_next x y l (tail_sorted z l s) h e in (w, next_tail n, t)

-- the least of the places
lesser_is : (p q : ℕ) → (r : ℕ) × (cond (nat_le p q) (Some p) (Some q) ≡ Some r) × (r ≤ p) × (r ≤ q)
lesser_is p q =
    elim (nat_le p q) as (λ b. nat_le p q ≡ b → (r : ℕ) × (cond b (Some p) (Some q) ≡ Some r) × (r ≤ p) × (r ≤ q)) [
      | true ↦ λ e. (p, refl, omega arith, grind (arith, nat_tests, e))
      | false ↦ λ e. (q, refl, grind (arith, nat_tests, e), omega arith)
    ] refl

least_left : (p : ℕ) (o : Option ℕ) → (r : ℕ) × (least (Some p) o ≡ Some r) × (r ≤ p)
least_left p None = (p, refl, omega arith)
least_left p (Some q) = let (r, e, a, b) = lesser_is p q in (r, e, a)

least_right : (o : Option ℕ) (q : ℕ) → (r : ℕ) × (least o (Some q) ≡ Some r) × (r ≤ q)
least_right None q = (q, refl, omega arith)
least_right (Some p) q = let (r, e, a, b) = lesser_is p q in (r, e, b)

either_is : (b : Bool) (p q r : ℕ) → cond b (Some p) (Some q) ≡ Some r → (Some p ≡ Some r) ⊎ (Some q ≡ Some r)
either_is true p q r e = inl e
either_is false p q r e = inr e

least_from : (a b : Option ℕ) (r : ℕ) → least a b ≡ Some r → (a ≡ Some r) ⊎ (b ≡ Some r)
least_from None b r e = inr e
least_from (Some p) None r e = inl e
least_from (Some p) (Some q) r e = either_is (nat_le p q) p q r e

again_lower : (w y : PlacedName) (ys : List PlacedName) → Next w y ys → word w ≡ word y → (p : ℕ) × (again_in ys ≡ Some p) × (p ≤ y.place)
again_lower w y [] n e = elim n [ ]
again_lower w y (x ∷ []) (next_tail n) e = elim n [ ]
again_lower w y (x ∷ z ∷ l) at_head e =
    let (r, k, le) = least_left y.place (again_in (y ∷ l)) in
    (r, ap (λ b. least (cond b (Some y.place) None) (again_in (y ∷ l))) ((bytes_eq-Decides (word w) (word y)).1 e) ∙ k, le)
again_lower w y (x ∷ z ∷ l) (next_tail n) e =
    let (p, k, le) = again_lower w y (z ∷ l) n e in
    let first = cond (bytes_eq (word x) (word z)) (Some z.place) None in
    let (r, m, lr) = least_right first p in
    (r, ap (least first) k ∙ m, omega (arith, le, lr))

record Again (ys : List PlacedName) (p : ℕ) : Type 0 where
  pub before : PlacedName
  pub it : PlacedName
  pub next : Next before it ys
  pub same : word before ≡ word it
  pub place : it.place ≡ p

equal_here : (b : Bool) (q p : ℕ) → cond b (Some q) None ≡ Some p → (b ≡ true) × (q ≡ p)
equal_here true q p e = (refl, cc)
equal_here false q p e = cc

again_real : (ys : List PlacedName) (p : ℕ) → again_in ys ≡ Some p → Again ys p
again_real [] p e = cc
again_real (x ∷ []) p e = cc
again_real (x ∷ y ∷ l) p e = elim (least_from (cond (bytes_eq (word x) (word y)) (Some y.place) None) (again_in (y ∷ l)) p e) as (λ _. Again (x ∷ y ∷ l) p) [
  | inl k ↦ let (t, q) = equal_here (bytes_eq (word x) (word y)) y.place p k in record { before = x; it = y; next = at_head; same = (bytes_eq-Decides (word x) (word y)).0 t; place = q }
  | inr k ↦ let r = again_real (y ∷ l) p k in record { before = r.before; it = r.it; next = next_tail r.next; same = r.same; place = r.place }
]

-- names with their places
some_is : {A : Type 0} {m n : A} → Some m ≡ Some n → m ≡ n
some_is e = cc

in_placed : (es : List Entry) (n j b : ℕ) (f : Entry) → slice_get es j ≡ Some f → b ≡ n + j → In (named_at f b) (placed_from n es)
in_placed [] n zero b f h e = cc
in_placed [] n (suc j) b f h e = cc
in_placed (g ∷ es) n zero b f h e =
    let same : n ≡ b = omega (arith, e) in
    subst (λ z. In z (named_at g n ∷ placed_from (n + 1) es)) (λ k. named_at (some_is h k) (same k)) in_head
in_placed (g ∷ es) n (suc j) b f h e = in_tail (in_placed es (n + 1) j b f h (omega (arith, e)))

follows_placed : (es : List Entry) (n i j a b : ℕ) (e f : Entry) → slice_get es i ≡ Some e → slice_get es j ≡ Some f → i < j → a ≡ n + i → b ≡ n + j → Follows (named_at e a) (named_at f b) (placed_from n es)
follows_placed [] n zero j a b e f h k lt p q = cc
follows_placed [] n (suc i) j a b e f h k lt p q = cc
follows_placed (g ∷ es) n i zero a b e f h k lt p q = absurd (omega (arith, lt))
follows_placed (g ∷ es) n zero (suc j) a b e f h k lt p q =
    let same : n ≡ a = omega (arith, p) in
    subst (λ z. Follows z (named_at f b) (named_at g n ∷ placed_from (n + 1) es)) (λ m. named_at (some_is h m) (same m)) (from_head (in_placed es (n + 1) j b f k (omega (arith, q))))
follows_placed (g ∷ es) n (suc i) (suc j) a b e f h k lt p q = from_tail (follows_placed es (n + 1) i j a b e f h k (omega (arith, lt)) (omega (arith, p)) (omega (arith, q)))

record At (es : List Entry) (n : ℕ) (y : PlacedName) : Type 0 where
  pub at : ℕ
  pub entry : Entry
  pub there : slice_get es at ≡ Some entry
  pub name : word y ≡ word_of entry.name
  pub place : y.place ≡ n + at

abbrev at_later : (g : Entry) (es : List Entry) (n : ℕ) (y : PlacedName) → At es (n + 1) y → At (g ∷ es) n y
at_later g es n y a = record { at = suc a.at; entry = a.entry; there = a.there; name = a.name; place = omega (arith, a.place) }

in_back : (y : PlacedName) (es : List Entry) (n : ℕ) → In y (placed_from n es) → At es n y
in_back y [] n h = elim h [ ]
in_back y (g ∷ es) n h = back g y (λ k. in_back y es (n + 1) k) h
  where
    back : (f : Entry) (z : PlacedName) → (In z (placed_from (n + 1) es) → At es (n + 1) z) → In z (named_at f n ∷ placed_from (n + 1) es) → At (f ∷ es) n z
    back f z later in_head = record { at = 0; entry = f; there = refl; name = refl; place = omega arith }
    back f z later (in_tail k) = at_later f es n z (later k)

some_less : (k : ℕ) → 0 < suc k
some_less k = omega arith

both_less : (i j : ℕ) → i < j → suc i < suc j
both_less i j h = omega (arith, h)

record Pair (es : List Entry) (n : ℕ) (x y : PlacedName) : Type 0 where
  pub one : At es n x
  pub two : At es n y
  pub order : one.at < two.at

follows_back : (x y : PlacedName) (es : List Entry) (n : ℕ) → Follows x y (placed_from n es) → Pair es n x y
follows_back x y [] n h = elim h [ ]
follows_back x y (g ∷ es) n h = back g x (λ k. follows_back x y es (n + 1) k) h
  where
    back : (f : Entry) (z : PlacedName) → (Follows z y (placed_from (n + 1) es) → Pair es (n + 1) z y) → Follows z y (named_at f n ∷ placed_from (n + 1) es) → Pair (f ∷ es) n z y
    back f z later (from_head k) =
        let b = in_back y es (n + 1) k in
        record { one = record { at = 0; entry = f; there = refl; name = refl; place = omega arith }; two = at_later f es n y b; order = some_less b.at }
    back f z later (from_tail k) = let p = later k in record { one = at_later f es n z p.one; two = at_later f es n y p.two; order = both_less p.one.at p.two.at p.order }

-- a name is seen where an equal one stands before it
record Seen (es : List Entry) (i : ℕ) (x : List ℕ) : Type 0 where
  pub at : ℕ
  pub entry : Entry
  pub there : slice_get es at ≡ Some entry
  pub before : at < i
  pub same : entry.name ≡ x

or_either : (a b : Bool) → (a || b) ≡ true → (a ≡ true) ⊎ (b ≡ true)
or_either true b e = inl refl
or_either false b e = inr e

seen_here : (g : Entry) (es : List Entry) (i : ℕ) (x : List ℕ) (names : List (List ℕ)) → (is_seen (g.name ∷ names) x ≡ true) ⊎ Seen es i x → (is_seen names x ≡ true) ⊎ Seen (g ∷ es) (suc i) x
seen_here g es i x names (inl h) = elim (or_either (bytes_eq g.name x) (is_seen names x) h) as (λ _. (is_seen names x ≡ true) ⊎ Seen (g ∷ es) (suc i) x) [
  | inl t ↦ inr (record { at = 0; entry = g; there = refl; before = omega arith; same = (bytes_eq-Decides g.name x).0 t })
  | inr t ↦ inl t
]
seen_here g es i x names (inr s) = inr (record { at = suc s.at; entry = s.entry; there = s.there; before = omega (arith, s.before); same = s.same })

seen_back : (es : List Entry) (i : ℕ) (names : List (List ℕ)) (x : List ℕ) → is_seen (reversed_names (take i es) names) x ≡ true → (is_seen names x ≡ true) ⊎ Seen es i x
seen_back [] zero names x h = inl h
seen_back [] (suc i) names x h = inl h
seen_back (g ∷ es) zero names x h = inl h
seen_back (g ∷ es) (suc i) names x h = seen_here g es i x names (seen_back es i (g.name ∷ names) x h)

no_name_yet : (x : List ℕ) → is_seen [] x ≡ true → ⊥
no_name_yet x e = cc

seen_from : (es : List Entry) (i : ℕ) (x : List ℕ) → is_seen (reversed_names (take i es) []) x ≡ true → Seen es i x
seen_from es i x h = elim (seen_back es i [] x h) as (λ _. Seen es i x) [ inl k ↦ absurd (no_name_yet x k) | inr s ↦ s ]

-- each name up to a place is a first one
abbrev AllNew : List Entry → ℕ → Type 0
AllNew es i = (j : ℕ) (f : Entry) → slice_get es j ≡ Some f → j < i → is_seen (reversed_names (take j es) []) f.name ≡ true → ⊥

is_false : (b : Bool) → (b ≡ true → ⊥) → b ≡ false
is_false true f = absurd (f refl)
is_false false f = refl

no_entry : Entry
no_entry = record { name = []; start = 0; end = 0; value = placed a_null 0 0 }

still_to_come : (es : List Entry) (i : ℕ) → i ≤ length es → AllNew es i → names_flaw [] es ≡ names_flaw (reversed_names (take i es) []) (drop i es)
still_to_come es zero le new = refl
still_to_come es (suc i) le new =
    let e = get_or es i no_entry in
    let h = slice_get-get_or es i no_entry (omega (arith, le)) in
    let so_far = still_to_come es i (omega (arith, le)) (λ j f k lt s. new j f k (omega (arith, lt)) s) in
    subst (λ k. names_flaw [] es ≡ names_flaw (reversed_names (take k es) []) (drop k es)) (add-one i) (flaw_later es i e h (is_false _ (new i e h (omega arith))) so_far)

all_new_none : (es : List Entry) → AllNew es (length es) → names_flaw [] es ≡ None
all_new_none es new = still_to_come es (length es) (omega arith) new ∙ ap (names_flaw (reversed_names (take (length es) es) [])) (drop_all (length es) es (omega arith))

module _ (es : List Entry) (ys : List PlacedName) (s : AreSorted es ys) where
  -- a second name has an equal one directly before it
  second_again : (j : ℕ) (f : Entry) → slice_get es j ≡ Some f → is_seen (reversed_names (take j es) []) f.name ≡ true → (p : ℕ) × (again_in ys ≡ Some p) × (p ≤ j)
  second_again j f h k =
      let w = seen_from es j f.name k in
      let both = follows_placed es 0 w.at j w.at j w.entry f w.there h w.before (omega arith) (omega arith) in
      let (v, n, t) = has_next (named_at w.entry w.at) (named_at f j) ys s.0 (to_sorted (placed_from 0 es) ys s.1 (named_at w.entry w.at) (named_at f j) (ap word_of w.same) both) (ap word_of w.same) in
      again_lower v (named_at f j) ys n t

  pub again_none : again_in ys ≡ None → names_flaw [] es ≡ None
  again_none e = all_new_none es (λ j f h lt k. (let (p, m, le) = second_again j f h k in absurd (cc)))

  pub record First (p : ℕ) : Type 0 where
    pub entry : Entry
    pub there : slice_get es p ≡ Some entry
    pub flaw : names_flaw [] es ≡ Some (equal_names entry.start entry.end)

  pub again_some : (p : ℕ) → again_in ys ≡ Some p → First p
  again_some p e =
      let a = again_real ys p e in
      let both = follows_back a.before a.it es 0 (from_sorted (placed_from 0 es) ys s.1 a.before a.it a.same (next_follows a.before a.it ys a.next)) in
      let at : both.two.at ≡ p = omega (arith, both.two.place, a.place) in
      let there : slice_get es p ≡ Some both.two.entry = subst (λ k. slice_get es k ≡ Some both.two.entry) at both.two.there in
      let same : both.one.entry.name ≡ both.two.entry.name = ap (drop 1) (sym both.one.name ∙ a.same ∙ both.two.name) in
      let seen = seen_before es p both.one.at both.one.entry both.two.entry.name both.one.there (omega (arith, both.order, at)) ((bytes_eq-Decides both.one.entry.name both.two.entry.name).1 same) in
      let new : AllNew es p = λ j f h lt k. (let (q, m, le) = second_again j f h k in let same_place : q ≡ p = some_is (sym m ∙ e) in omega (arith, le, lt, same_place)) in
      record { entry = both.two.entry; there = there; flaw = sym (flaw_here es p both.two.entry there seen (still_to_come es p (omega (arith, slice_get_within es p both.two.entry there)) new)) }

-- the name at that place
pub again_within : (text : List ℕ) (ns : List NameSpan) (es : List Entry) (ys : List PlacedName) (p : ℕ) → AreNamesOf text ns es → AreSorted es ys → again_in ys ≡ Some p → p < length ns
again_within text ns es ys p are s e = let f = again_some es ys s p e in omega (arith, slice_get_within es p f.entry f.there, are_many text ns es are)

pub again_told : (text : List ℕ) (ns : List NameSpan) (es : List Entry) (ys : List PlacedName) (p : ℕ) → AreNamesOf text ns es → AreSorted es ys → again_in ys ≡ Some p →
    Some (equal_names (get_or ns p no_name).start (get_or ns p no_name).end) ≡ names_flaw [] es
again_told text ns es ys p are s e =
    let f = again_some es ys s p e in
    let n = get_or ns p no_name in
    let (g, h, is) = are_at text ns es p n are (slice_get-get_or ns p no_name (again_within text ns es ys p are s e)) in
    ap Some (told_at text n g is ∙ ap (λ z. equal_names z.start z.end) (one_entry es p g f.entry h f.there)) ∙ sym f.flaw

-- names are taken in as they stand
placed_more : (es : List Entry) (n i b : ℕ) (e : Entry) → slice_get es i ≡ Some e → b ≡ n + i → placed_from n (take (suc i) es) ≡ placed_from n (take i es) ++ named_at e b ∷ []
placed_more [] n zero b e h p = cc
placed_more [] n (suc i) b e h p = cc
placed_more (g ∷ es) n zero b e h p = let same : n ≡ b = omega (arith, p) in λ k. named_at (some_is h k) (same k) ∷ []
placed_more (g ∷ es) n (suc i) b e h p = ap (λ l. named_at g n ∷ l) (placed_more es (n + 1) i b e h (omega (arith, p)))

pub taken_in : (es : List Entry) (i : ℕ) (e : Entry) (key : ℕ) (name : List ℕ) (old new : List PlacedName) → slice_get es i ≡ Some e → key ≡ key_of name → name ≡ e.name → old ≡ placed_from 0 (take i es) → new ≡ old ++ record { key = key; name = name; place = i } ∷ []
    → new ≡ placed_from 0 (take (i + 1) es)
taken_in es i e key name old new h keyed same so_far is =
    is ∙ ap (λ l. l ++ record { key = key; name = name; place = i } ∷ []) so_far ∙ ap (λ k. placed_from 0 (take i es) ++ record { key = k; name = name; place = i } ∷ []) keyed
    ∙ ap (λ t. placed_from 0 (take i es) ++ record { key = key_of t; name = t; place = i } ∷ []) same ∙ sym (placed_more es 0 i i e h (omega arith)) ∙ ap (λ k. placed_from 0 (take k es)) (sym (add-one i))

pub all_taken : (text : List ℕ) (ns : List NameSpan) (es : List Entry) (i : ℕ) (old : List PlacedName) → AreNamesOf text ns es → length ns ≤ i → old ≡ placed_from 0 (take i es) → old ≡ placed_from 0 es
all_taken text ns es i old are le is = let many : length es ≤ i = omega (arith, le, are_many text ns es are) in is ∙ ap (placed_from 0) (take_all i es many)

-- a sort by keys and names
pub sorts : {F : Type 0} {g : Mut F (Bor PlacedName × (Bor PlacedName × Unit {0})) Ordering} {f : F} (list : List PlacedName) → IsSortedByClosure g f list
    → ((a : Bor PlacedName × (Bor PlacedName × Unit {0})) (r : Ordering) (f' : F) → Called g f a r f' → (r ≡ text_cmp (word a.0.now) (word a.1.0.now)) × (f' ≡ f)) → IsSortedBy is_below list
sorts {g = g} {f = f} list s h = s is_below (ranks_by nat_list_cmp_total word) (always_returns_same g (λ a r. is_lt r ≡ is_below a.0.now a.1.0.now) f (λ a r f' k. (ap is_lt (h a r f' k).0, (h a r f' k).1)))

pub keeps_ties : {F : Type 0} {g : Mut F (Bor PlacedName × (Bor PlacedName × Unit {0})) Ordering} {f : F} (old new : List PlacedName) → IsStableByClosure g f old new
    → ((a : Bor PlacedName × (Bor PlacedName × Unit {0})) (r : Ordering) (f' : F) → Called g f a r f' → (r ≡ text_cmp (word a.0.now) (word a.1.0.now)) × (f' ≡ f)) → IsStableBy is_below old new
keeps_ties {g = g} {f = f} old new s h = s is_below (ranks_by nat_list_cmp_total word) (always_returns_same g (λ a r. is_lt r ≡ is_below a.0.now a.1.0.now) f (λ a r f' k. (ap is_lt (h a r f' k).0, (h a r f' k).1)))
