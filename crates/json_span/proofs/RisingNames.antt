-- Names that rise are apart.
use Rattle.std.proofs.Common.{◌≡◌, ℕ, ◌+◌, ◌-◌, ◌<◌, Bool, true, false, List, [], ◌∷◌, length, take, drop, Some, refl, sym, ap, subst, ◌∙◌, arith, nat_lt, ◌==◌, cond, Ordering, Less, Equal, Greater}
use Rattle.std.specs.Prelude.{slice_get}
use Rattle.std.specs.Cmp.{tied_itself, nat_cmp_total}
use Rattle.std.specs.Cmp.Lexicographic.{nat_list_cmp_total}
use Rattle.std.specs.Ordering.{is_lt, ordering_then}
use Rattle.std.specs.Str.{bytes_eq}
use Rattle.std.proofs.lemmas.Slice.Eq.{bytes_eq-Decides}
use Rattle.tk_io.specs.Order.{text_cmp}
use Rattle.json_span.specs.Tree.{Entry}
use Rattle.json_span.specs.Flaw.{is_seen}
use Rattle.json_span.specs.inner.Names.{names_flaw, reversed_names}
use Rattle.json_span.specs.inner.NameOrder.{rises}
use Rattle.json_span.proofs.Naming.{names_more, flaw_later, or_false}

less : (r : Ordering) → is_lt r ≡ true → r ≡ Less
less Less e = refl
less Equal e = cc
less Greater e = cc

abbrev key : List ℕ → List ℕ
key name = length name ∷ name

rises_on : (a b c : List ℕ) → rises a b ≡ true → rises b c ≡ true → rises a c ≡ true
rises_on a b c e f = ap is_lt (nat_list_cmp_total.trans (key a) (key b) (key c) (less _ e) (less _ f))

differ : (a b : List ℕ) (same : Bool) → bytes_eq a b ≡ same → rises a b ≡ true → same ≡ false
differ a b false e r = refl
differ a b true e r =
    let equal : a ≡ b = (bytes_eq-Decides a b).0 e in
    let never : rises a a ≡ false = ap is_lt (tied_itself nat_list_cmp_total (key a)) in
    cc (never, subst (λ z. rises a z ≡ true) (sym equal) r)

-- the name stands behind each of them
abbrev pub AllBefore : List (List ℕ) → List ℕ → Type 0
AllBefore [] name = Unit {0}
AllBefore (x ∷ xs) name = (rises x name ≡ true) × AllBefore xs name

all_before : (xs : List (List ℕ)) (a b : List ℕ) → AllBefore xs a → rises a b ≡ true → AllBefore xs b
all_before [] a b h r = tt
all_before (x ∷ xs) a b h r = (rises_on x a b h.0 r, all_before xs a b h.1 r)

unseen : (xs : List (List ℕ)) (name : List ℕ) → AllBefore xs name → is_seen xs name ≡ false
unseen [] name h = refl
unseen (x ∷ xs) name h = or_false (bytes_eq x name) (is_seen xs name) (differ x name (bytes_eq x name) refl h.0) (unseen xs name h.1)

-- of names, the last one first, the last one stands behind all others
abbrev pub Falls : List (List ℕ) → Type 0
Falls [] = Unit {0}
Falls (x ∷ xs) = AllBefore xs x

-- so far none repeats another
pub record RiseTo (es : List Entry) (i : ℕ) : Type 0 where
  pub falls : Falls (reversed_names (take i es) [])
  pub apart : names_flaw [] es ≡ names_flaw (reversed_names (take i es) []) (drop i es)

pub next_rises : (es : List Entry) (i : ℕ) (e f : Entry) → 0 < i → slice_get es (i - 1) ≡ Some e → slice_get es i ≡ Some f → rises e.name f.name ≡ true → RiseTo es i → RiseTo es (i + 1)
next_rises es i e f within before here r so_far =
    let back : (i - 1) + 1 ≡ i = omega (arith, within) in
    let names : reversed_names (take i es) [] ≡ e.name ∷ reversed_names (take (i - 1) es) [] = subst (λ k. reversed_names (take k es) [] ≡ e.name ∷ reversed_names (take (i - 1) es) []) back (names_more es (i - 1) e before) in
    let others = subst Falls names so_far.falls in
    let all = subst (λ xs. AllBefore xs f.name) (sym names) (r, all_before (reversed_names (take (i - 1) es) []) e.name f.name others r) in
    record {
      falls = subst Falls (sym (names_more es i f here)) all;
      apart = flaw_later es i f here (unseen (reversed_names (take i es) []) f.name all) so_far.apart;
    }

-- lengths decide, then bytes
pub of_one_length : (a b : List ℕ) → length a ≡ length b → is_lt (text_cmp a b) ≡ true → rises a b ≡ true
of_one_length a b e r =
    subst (λ n. is_lt (text_cmp (length a ∷ a) (n ∷ b)) ≡ true) e (ap (λ o. is_lt (ordering_then o (text_cmp a b))) (tied_itself nat_cmp_total (length a)) ∙ r)

pub longer : (a b : List ℕ) → nat_lt (length a) (length b) ≡ true → rises a b ≡ true
longer a b e = ap (λ l. is_lt (ordering_then (cond l Less (cond (length a == length b) Equal Greater)) (text_cmp a b))) e
