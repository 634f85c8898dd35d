-- What is remembered of hops stays right.
use Rattle.std.proofs.Common.{◌≡◌, ◌≢◌, ℕ, suc, ◌+◌, ◌<◌, ◌≤◌, List, [], ◌∷◌, ◌++◌, length, length-append, inl, inr, refl, sym, ap, ap₂, ◌∙◌, subst, Bool, true, false, cond, Option, Some, None, Ordering, Less, Equal, Greater, arith}
use Rattle.std.specs.BTreeMap.{btree_map_len}
use Rattle.std.specs.FinMap.{IsAntisymmetric, slice_cmp-IsAntisymmetric, nat_cmp-IsAntisymmetric}
use Rattle.std.specs.Prelude.{is_some, not, ◌&&◌, IsTrue, if◌then◌else◌}
use Rattle.std.specs.Ordering.{is_eq, ordering_then}
use Rattle.std.proofs.lemmas.Cmp.{tied_itself, lists_total}
use Rattle.std.specs.Cmp.Lexicographic.{nat_list_cmp_total}
use Rattle.std.specs.Cmp.Lexicographic.{pointwise, pointwise_decides}
use Rattle.std.specs.Map.{lookup}
use Rattle.std.specs.Str.{bytes_eq}
use Rattle.std.proofs.lemmas.Slice.Eq.{bytes_eq-Decides}
use Rattle.alias_ref.specs.Visits.{same_place}
use Rattle.std.proofs.lemmas.Map.Lookups.{exact_pairs}
use Rattle.tk_io.specs.Order.{names_cmp}
use Rattle.name_path.specs.declared.place.Place.{Place}
use Rattle.ring.specs.Lists.{In, AreApart}
use Rattle.explain.proofs.HopsFollowed.{apart_push}
use Rattle.ring.proofs.Ends.{in_left, in_last, in_cases}
use Rattle.certificates.specs.declared.certificate.Hop.{Hop}
use Rattle.explain.specs.Following.{starts_of, Reaches, stays, follows}
use Rattle.explain.specs.inner.Ways.{Along, here, onward, place_cmp, remembered, Knows}
use Rattle.explain.specs.declared.ways.Ways.{Ways}
use Rattle.explain.proofs.HopsFollowed.{starts_at, starts_joined, further, reaches_along, counted, left_of, within}

-- places between which the order makes no difference
names_same : IsAntisymmetric names_cmp
names_same = slice_cmp-IsAntisymmetric (slice_cmp-IsAntisymmetric nat_cmp-IsAntisymmetric)

pub place_of : (p q : Place) → p.token ≡ q.token → p.trail ≡ q.trail → p ≡ q
place_of p q e f = let make : List (List ℕ) → List (List ℕ) → Place = λ t s. record { token = t; trail = s } in ap₂ make e f

pub tied_place : (p q : Place) → place_cmp p q ≡ Equal → p ≡ q
tied_place p q e =
    let both = exact_pairs names_cmp names_cmp names_same names_same (p.token, p.trail) (q.token, q.trail) e in
    place_of p q (ap (λ (x : List (List ℕ) × List (List ℕ)). x.0) both) (ap (λ (x : List (List ℕ) × List (List ℕ)). x.1) both)

tied : (r : Ordering) → is_eq r ≡ true → r ≡ Equal
tied Less e = absurd (cc)
tied Equal e = refl
tied Greater e = absurd (cc)

pub at_place : (p q : Place) → is_eq (place_cmp p q) ≡ true → p ≡ q
at_place p q e = tied_place p q (tied (place_cmp p q) e)

-- the ways after a place was put
abbrev pub Put : Ways → Ways → Place → Place → Type 0
Put old new p q = (x : Place) → remembered new x ≡ cond (is_eq (place_cmp p x)) (Some q) (remembered old x)

pub along_more : (hops more : List Hop) {n : ℕ} {p q : Place} → Along hops n p q → Along (hops ++ more) n p q
along_more hops more here = here
along_more hops more (onward h i e rest) = onward h (in_left hops more h i) e (along_more hops more rest)

cond_cases : {A : Type 0} (b : Bool) (x y z : Option A) → z ≡ cond b x y → (P : Type 0) → (b ≡ true → z ≡ x → P) → (b ≡ false → z ≡ y → P) → P
cond_cases true x y z e P f g = f refl e
cond_cases false x y z e P f g = g refl e

some_is : {A : Type 0} (x y : A) → Some x ≡ Some y → x ≡ y
some_is x y e = cc

none_some : (q : Place) → None ≡ Some q → ⊥
none_some q e = absurd (cc)

false_true : false ≡ true → ⊥
false_true e = absurd (cc)

then_equal : (a b : Ordering) → a ≡ Equal → b ≡ Equal → is_eq (ordering_then a b) ≡ true
then_equal a b e f = ap₂ (λ x y. is_eq (ordering_then x y)) e f

itself : (p : Place) → is_eq (place_cmp p p) ≡ true
itself p = then_equal (names_cmp p.token p.token) (names_cmp p.trail p.trail) (tied_itself (lists_total nat_list_cmp_total) p.token) (tied_itself (lists_total nat_list_cmp_total) p.trail)

-- a hop is added
pub knows_added : (hops : List Hop) (h : Hop) (old new : Ways) → Knows hops old → remembered old h.spot.place ≡ None → Put old new h.spot.place h.target → btree_map_len new.reached ≡ btree_map_len old.reached + 1 → Knows (hops ++ h ∷ []) new
knows_added hops h old new k free put more = record {
  starts = subst AreApart (sym (starts_joined hops (h ∷ []))) (apart_push (starts_of hops) h.spot.place k.starts (k.unknown h.spot.place free));
  count = more ∙ ap (λ n. n + 1) k.count ∙ omega (arith, length-append hops (h ∷ []));
  reached = λ p q e. cond_cases (is_eq (place_cmp h.spot.place p)) (Some h.target) (remembered old p) (remembered new p) (put p) ((n : ℕ) × Along (hops ++ h ∷ []) (suc n) p q)
      (λ is now. (0, subst (λ x. Along (hops ++ h ∷ []) 1 p x) (some_is h.target q (sym now ∙ e)) (onward h (in_last hops h) (at_place h.spot.place p is) here)))
      (λ other now. let w = k.reached p q (sym now ∙ e) in (w.0, along_more hops (h ∷ []) w.1));
  unknown = λ p e i. cond_cases (is_eq (place_cmp h.spot.place p)) (Some h.target) (remembered old p) (remembered new p) (put p) ⊥
      (λ is now. none_some h.target (sym e ∙ now))
      (λ other now. elim (in_cases (starts_of hops) (h.spot.place ∷ []) p (subst (λ xs. In p xs) (starts_joined hops (h ∷ [])) i)) [
        | inl j ↦ k.unknown p (sym now ∙ e) j
        | inr j ↦ elim j [ inl f ↦ away p f other | inr z ↦ z ]
      ]);
}
  where
    away : (p : Place) → p ≡ h.spot.place → is_eq (place_cmp h.spot.place p) ≡ false → ⊥
    away p f differs = false_true (sym differs ∙ subst (λ x. is_eq (place_cmp h.spot.place x) ≡ true) (sym f) (itself h.spot.place))

one_more : (m k n : ℕ) → suc m + k ≡ n → n ≡ suc (m + k)
one_more m k n e = omega (arith, e)

-- what is reached further on is put in
pub knows_further : (hops : List Hop) (old new : Ways) (p next end : Place) → Knows hops old → remembered old p ≡ Some next → Reaches hops p end → Put old new p end → btree_map_len new.reached ≡ btree_map_len old.reached → Knows hops new
knows_further hops old new p next end k was way put same = record {
  starts = k.starts;
  count = same ∙ k.count;
  reached = λ x q e. cond_cases (is_eq (place_cmp p x)) (Some end) (remembered old x) (remembered new x) (put x) ((n : ℕ) × Along hops (suc n) x q)
      (λ is now. subst (λ (y : Place). (n : ℕ) × Along hops (suc n) y q) (at_place p x is) (subst (λ (y : Place). (n : ℕ) × Along hops (suc n) p y) (some_is end q (sym now ∙ e)) on))
      (λ other now. k.reached x q (sym now ∙ e));
  unknown = λ x e i. cond_cases (is_eq (place_cmp p x)) (Some end) (remembered old x) (remembered new x) (put x) ⊥
      (λ is now. none_some end (sym e ∙ now))
      (λ other now. k.unknown x (sym now ∙ e) i);
}
  where
    on : (n : ℕ) × Along hops (suc n) p end
    on =
        let way' = counted hops way in
        let first = k.reached p next was in
        let rest = left_of hops k.starts way'.along way'.none first.1 in
        (first.0 + rest.steps, subst (λ n. Along hops n p end) (one_more first.0 rest.steps way'.steps rest.count) way'.along)

-- no hops are known
pub knows_nothing : (ways : Ways) → ways.reached.entries ≡ [] → Knows [] ways
knows_nothing ways none = record {
  starts = tt;
  count = ap length none;
  reached = λ p q e. absurd (none_some q (sym (nothing p) ∙ e));
  unknown = λ p e i. i;
}
  where
    nothing : (p : Place) → remembered ways p ≡ None
    nothing p = ap (λ es. lookup (λ x. is_eq (place_cmp p x)) es) none

-- a place that is known is one where a hop starts
pub known_starts : (hops : List Hop) (ways : Ways) (p q : Place) → Knows hops ways → remembered ways p ≡ Some q → In p (starts_of hops)
known_starts hops ways p q k e = first_start (k.reached p q e).1
  where
    first_start : {n : ℕ} {x y : Place} → Along hops (suc n) x y → In x (starts_of hops)
    first_start (onward h i f rest) = starts_at hops h _ i f

-- so many hops were followed from p to q, or more
pub record Gone (hops : List Hop) (least : ℕ) (p q : Place) : Type 0 where
  pub steps : ℕ
  pub many : least ≤ steps
  pub along : Along hops steps p q

pub gone_nowhere : (hops : List Hop) (p : Place) → Gone hops 0 p p
gone_nowhere hops p = record { steps = 0; many = omega arith; along = here }

pub gone_on : (hops : List Hop) (ways : Ways) (i : ℕ) (p q r : Place) → Knows hops ways → Gone hops i p q → remembered ways q ≡ Some r → Gone hops (i + 1) p r
gone_on hops ways i p q r k g e =
    let first = k.reached q r e in
    let all = further hops g.along first.1 in
    record { steps = all.steps; many = omega (arith, g.many, all.count); along = all.along }

pub gone_to_end : (hops : List Hop) (ways : Ways) (i : ℕ) (p q : Place) → Knows hops ways → Gone hops i p q → remembered ways q ≡ None → Reaches hops p q
gone_to_end hops ways i p q k g e = reaches_along hops g.along (k.unknown q e)

-- more hops than there are lead nowhere
pub gone_too_far : (hops : List Hop) (ways : Ways) (i : ℕ) (p q r : Place) → Knows hops ways → Gone hops i p q → btree_map_len ways.reached < i → Reaches hops p r → ⊥
gone_too_far hops ways i p q r k g many way =
    let all = counted hops way in
    let rest = left_of hops k.starts all.along all.none g.along in
    let fits = within hops k.starts all.along all.none in
    absurd (omega (arith, many, k.count, g.many, rest.count, fits))

-- answers on options
pub is_none_so : (o : Option Place) (b : Bool) → is_some o ≡ not b → IsTrue b → o ≡ None
is_none_so None b e t = refl
is_none_so (Some x) true e t = absurd (false_true (sym e))
is_none_so (Some x) false e t = absurd (false_true t)

pub known_is : (hops : List Hop) (ways : Ways) (p : Place) (o : Option Place) (b : Bool) → Knows hops ways → o ≡ remembered ways p → is_some o ≡ not b → b ≡ false → In p (starts_of hops)
known_is hops ways p (Some q) b k e f g = known_starts hops ways p q k (sym e)
known_is hops ways p None true k e f g = absurd (false_true (sym g))
known_is hops ways p None false k e f g = absurd (false_true f)

pub one_longer : (n m : ℕ) (o : Option Place) → n ≡ m + (if is_some o then 0 else 1) → o ≡ None → n ≡ m + 1
one_longer n m None e f = e
one_longer n m (Some x) e f = absurd (cc)

pub no_longer : (n m : ℕ) (o : Option Place) (x : Place) → n ≡ m + (if is_some o then 0 else 1) → o ≡ Some x → n ≡ m
no_longer n m (Some y) x e f = e ∙ omega arith
no_longer n m None x e f = absurd (cc)

pub known_some : (hops : List Hop) (ways : Ways) (p : Place) (b : Bool) → Knows hops ways → b ≡ is_some (remembered ways p) → IsTrue b → In p (starts_of hops)
known_some hops ways p b k e t = go (remembered ways p) refl (sym e ∙ t)
  where
    go : (o : Option Place) → remembered ways p ≡ o → is_some o ≡ true → In p (starts_of hops)
    go (Some q) f g = known_starts hops ways p q k f
    go None f g = absurd (false_true g)

pub some_known : (hops : List Hop) (ways : Ways) (p : Place) (b : Bool) → Knows hops ways → b ≡ is_some (remembered ways p) → In p (starts_of hops) → IsTrue b
some_known hops ways p b k e i = e ∙ go (remembered ways p) refl
  where
    go : (o : Option Place) → remembered ways p ≡ o → is_some o ≡ true
    go (Some q) f = refl
    go None f = absurd (k.unknown p f i)

-- a place on the way that is no end is known
pub not_yet : (hops : List Hop) (ways : Ways) (p end : Place) → Knows hops ways → Reaches hops p end → p ≢ end → remembered ways p ≡ None → ⊥
not_yet hops ways p end k (stays none) differ e = differ refl
not_yet hops ways p end k (follows h i f rest) differ e = k.unknown p e (starts_at hops h p i f)

-- from the next place on the end is still ahead
pub still_ahead : (hops : List Hop) (ways : Ways) (p next end : Place) → Knows hops ways → Reaches hops p end → remembered ways p ≡ Some next → Reaches hops next end
still_ahead hops ways p next end k way e =
    let all = counted hops way in
    let rest = left_of hops k.starts all.along all.none (k.reached p next e).1 in
    reaches_along hops rest.along all.none

-- the test of two places
place_same : (p : Place) → same_place p p ≡ true
place_same p = both_so (pointwise bytes_eq p.token p.token) (pointwise bytes_eq p.trail p.trail) ((pointwise_decides bytes_eq-Decides p.token p.token).1 refl) ((pointwise_decides bytes_eq-Decides p.trail p.trail).1 refl)
  where
    both_so : (a b : Bool) → a ≡ true → b ≡ true → (a && b) ≡ true
    both_so a b e f = ap₂ (λ x y. x && y) e f

pub differ_so : (p q : Place) (b : Bool) → b ≡ same_place p q → b ≡ false → p ≢ q
differ_so p q b e f g = false_true (sym f ∙ e ∙ sym (ap (same_place p) g) ∙ place_same p)

pub same_so : (p q : Place) (b : Bool) → b ≡ same_place p q → b ≡ true → p ≡ q
same_so p q b e f =
    let both = halves (pointwise bytes_eq p.token q.token) (pointwise bytes_eq p.trail q.trail) (sym e ∙ f) in
    place_of p q ((pointwise_decides bytes_eq-Decides p.token q.token).0 both.0) ((pointwise_decides bytes_eq-Decides p.trail q.trail).0 both.1)
  where
    halves : (a b : Bool) → (a && b) ≡ true → (a ≡ true) × (b ≡ true)
    halves true true e = (refl, refl)
    halves true false e = absurd (false_true e)
    halves false b e = absurd (false_true e)

pub so_same : (p q : Place) (b : Bool) → b ≡ same_place p q → p ≡ q → b ≡ true
so_same p q b e f = e ∙ sym (ap (same_place p) f) ∙ place_same p

-- a hop is added under copies of its places
pub added : (hops : List Hop) (h : Hop) (old new : Ways) (key value : Place) → key ≡ h.spot.place → value ≡ h.target → Knows hops old → remembered old key ≡ None → Put old new key value → btree_map_len new.reached ≡ btree_map_len old.reached + 1 → Knows (hops ++ h ∷ []) new
added hops h old new key value e f k free put more =
    knows_added hops h old new k (subst (λ x. remembered old x ≡ None) e free) (subst (λ x. Put old new x h.target) e (subst (λ y. Put old new key y) f put)) more
