-- What the pieces of a list of breaks hold: what an entry of each says, and what gives an entry.
use Rattle.std.proofs.Common.{◌≡◌, ◌⊎◌, inl, inr, ℕ, Bool, true, false, not, ◌==◌, ◌||◌, List, [], ◌∷◌, Option, Some, None, unwrap_or, if◌then◌else◌, refl, sym, ap, ◌∙◌, subst, arith}
use Rattle.std.proofs.lemmas.Bool.Decides.{nat_tests}
use Rattle.std.specs.List.{flat_map, list_any}
use Rattle.tk_io.specs.Characters.{dollar_sign}
use Rattle.json_span.specs.Tree.{Placed, Entry, tree_of, array_in, object_in, value_of_name}
use Rattle.ring.proofs.Ends.{in_left, in_right, in_cases}
use Rattle.ring.specs.Lists.{In}
use Rattle.resolver_doc.specs.declared.rule.PlanRule.TheVariants.{Shape}
use Rattle.resolver_doc.specs.declared.rule.Break.{Break}
use Rattle.resolver_doc.specs.Document.{elements_at}
use Rattle.resolver_doc.specs.Form.{formed, object_with, list_with, needed_member, optional_member, is_reserved, unreserved, entries_at}
use Rattle.resolver_doc.specs.Rules.{HasMember, Counts, IsObject, at}

-- Lists of lists.

pub in_flat : {A B : Type 0} (f : A → List B) (xs : List A) (a : A) (b : B) → In a xs → In b (f a) → In b (flat_map f xs)
in_flat f [] a b i j = absurd i
in_flat f (x ∷ xs) a b (inl is) j = in_left (f x) (flat_map f xs) b (subst (λ y. In b (f y)) is j)
in_flat f (x ∷ xs) a b (inr i) j = in_right (f x) (flat_map f xs) b (in_flat f xs a b i j)

pub from_flat : {A B : Type 0} (f : A → List B) (xs : List A) (b : B) → In b (flat_map f xs) → (a : A) × In a xs × In b (f a)
from_flat f [] b i = absurd i
from_flat {A} f (x ∷ xs) b i = go (λ j. from_flat f xs b j) (in_cases (f x) (flat_map f xs) b i)
  where
    go : (In b (flat_map f xs) → (a : A) × In a xs × In b (f a)) → In b (f x) ⊎ In b (flat_map f xs) → (a : A) × In a (x ∷ xs) × In b (f a)
    go later (inl j) = (x, inl refl, j)
    go later (inr j) = let r = later j in (r.0, inr r.1, r.2)

-- A value of a form, an object, a list.

pub alone : {x b : Break} → In b (x ∷ []) → b ≡ x
alone (inl e) = e
alone (inr i) = absurd i

pub formed_cases : {A : Type 0} (o : Option A) (inside : A → List Break) (n : Placed) (b : Break) → In b (formed o inside n)
    → ((o ≡ None) × (b ≡ at Shape n)) ⊎ ((x : A) × (o ≡ Some x) × In b (inside x))
formed_cases None inside n b i = inl (refl, alone i)
formed_cases (Some x) inside n b i = inr (x, refl, i)

pub formed_other : {A : Type 0} (o : Option A) (inside : A → List Break) (n : Placed) → o ≡ None → In (at Shape n) (formed o inside n)
formed_other None inside n e = inl refl
formed_other (Some x) inside n e = cc

pub formed_inside : {A : Type 0} (o : Option A) (inside : A → List Break) (n : Placed) (x : A) (b : Break) → o ≡ Some x → In b (inside x) → In b (formed o inside n)
formed_inside o inside n x b e i = subst (λ p. In b (formed p inside n)) (sym e) i

pub entries_are : (n : Placed) (es : List Entry) → object_in (tree_of n) ≡ Some es → entries_at n ≡ es
entries_are n es e = ap (λ (o : Option (List Entry)). unwrap_or o []) e

pub object_cases : (inside : List Entry → List Break) (n : Placed) (b : Break) → In b (object_with inside n)
    → ((object_in (tree_of n) ≡ None) × (b ≡ at Shape n)) ⊎ (IsObject n × In b (inside (entries_at n)))
object_cases inside n b i = go (formed_cases (object_in (tree_of n)) inside n b i)
  where
    go : ((object_in (tree_of n) ≡ None) × (b ≡ at Shape n)) ⊎ ((es : List Entry) × (object_in (tree_of n) ≡ Some es) × In b (inside es))
        → ((object_in (tree_of n) ≡ None) × (b ≡ at Shape n)) ⊎ (IsObject n × In b (inside (entries_at n)))
    go (inl p) = inl p
    go (inr (es, e, j)) = inr ((es, e), subst (λ xs. In b (inside xs)) (sym (entries_are n es e)) j)

pub object_inside : (inside : List Entry → List Break) (n : Placed) (b : Break) → IsObject n → In b (inside (entries_at n)) → In b (object_with inside n)
object_inside inside n b (es, e) i = formed_inside (object_in (tree_of n)) inside n es b e (subst (λ xs. In b (inside xs)) (entries_are n es e) i)

elements_are : (n : Placed) (ns : List Placed) → array_in (tree_of n) ≡ Some ns → elements_at n ≡ ns
elements_are n ns e = ap (λ (o : Option (List Placed)). unwrap_or o []) e

pub list_cases : (each : Placed → List Break) (n : Placed) (b : Break) → In b (list_with each n)
    → ((array_in (tree_of n) ≡ None) × (b ≡ at Shape n)) ⊎ ((m : Placed) × In m (elements_at n) × In b (each m))
list_cases each n b i = go (formed_cases (array_in (tree_of n)) (flat_map each) n b i)
  where
    go : ((array_in (tree_of n) ≡ None) × (b ≡ at Shape n)) ⊎ ((ns : List Placed) × (array_in (tree_of n) ≡ Some ns) × In b (flat_map each ns))
        → ((array_in (tree_of n) ≡ None) × (b ≡ at Shape n)) ⊎ ((m : Placed) × In m (elements_at n) × In b (each m))
    go (inl p) = inl p
    go (inr (ns, e, j)) = let r = from_flat each ns b j in inr (r.0, subst (λ xs. In r.0 xs) (sym (elements_are n ns e)) r.1, r.2)

pub list_inside : (each : Placed → List Break) (n m : Placed) (b : Break) → In m (elements_at n) → In b (each m) → In b (list_with each n)
list_inside each n m b i j = go (array_in (tree_of n)) refl i
  where
    go : (o : Option (List Placed)) → array_in (tree_of n) ≡ o → In m (unwrap_or o []) → In b (formed o (flat_map each) n)
    go None e k = absurd k
    go (Some ns) e k = in_flat each ns m b k j

-- Members.

pub needed_cases : (form : Placed → List Break) (owner : Placed) (o : Option Placed) (b : Break) → In b (needed_member form owner o)
    → ((o ≡ None) × (b ≡ at Shape owner)) ⊎ ((m : Placed) × (o ≡ Some m) × In b (form m))
needed_cases form owner None b i = inl (refl, alone i)
needed_cases form owner (Some m) b i = inr (m, refl, i)

pub needed_none : (form : Placed → List Break) (owner : Placed) (o : Option Placed) → o ≡ None → In (at Shape owner) (needed_member form owner o)
needed_none form owner o e = subst (λ p. In (at Shape owner) (needed_member form owner p)) (sym e) (inl refl)

pub needed_inside : (form : Placed → List Break) (owner : Placed) (o : Option Placed) (m : Placed) (b : Break) → o ≡ Some m → In b (form m) → In b (needed_member form owner o)
needed_inside form owner o m b e i = subst (λ p. In b (needed_member form owner p)) (sym e) i

pub optional_cases : (form : Placed → List Break) (o : Option Placed) (b : Break) → In b (optional_member form o) → (m : Placed) × (o ≡ Some m) × In b (form m)
optional_cases form None b i = absurd i
optional_cases form (Some m) b i = (m, refl, i)

pub optional_inside : (form : Placed → List Break) (o : Option Placed) (m : Placed) (b : Break) → o ≡ Some m → In b (form m) → In b (optional_member form o)
optional_inside form o m b e i = subst (λ p. In b (optional_member form p)) (sym e) i

-- a value with a member is an object
pub has_members : (n : Placed) (name : List ℕ) (m : Placed) → HasMember n name m → IsObject n
has_members n name m h = go (object_in (tree_of n)) refl h
  where
    go : (o : Option (List Entry)) → object_in (tree_of n) ≡ o → value_of_name name (unwrap_or o []) ≡ Some m → IsObject n
    go None e k = cc
    go (Some es) e k = (es, e)

-- Members that count.

pub unmarked : (name : List ℕ) → is_reserved name ≡ false → (rest : List ℕ) → name ≡ dollar_sign ∷ rest → ⊥
unmarked name e rest is = (let f : is_reserved (dollar_sign ∷ rest) ≡ false = subst (λ x. is_reserved x ≡ false) is e in cc)

pub reserved_not : (name : List ℕ) → ((rest : List ℕ) → name ≡ dollar_sign ∷ rest → ⊥) → is_reserved name ≡ false
reserved_not [] h = refl
reserved_not (c ∷ cs) h = go (c == dollar_sign) refl
  where
    same : (c == dollar_sign) ≡ true → c ≡ dollar_sign
    same e = grind (arith, nat_tests)

    go : (t : Bool) → (c == dollar_sign) ≡ t → t ≡ false
    go true e = absurd (h cs (ap (λ x. x ∷ cs) (same e)))
    go false e = refl

among_cases : (es : List Entry) (e : Entry) → In e (unreserved es) → In e es × (is_reserved e.name ≡ false)
among_cases [] e i = absurd i
among_cases (x ∷ es) e i = go (λ j. among_cases es e j) (is_reserved x.name) refl i
  where
    go : (In e (unreserved es) → In e es × (is_reserved e.name ≡ false)) → (t : Bool) → is_reserved x.name ≡ t
        → In e (if not t then x ∷ unreserved es else unreserved es) → In e (x ∷ es) × (is_reserved e.name ≡ false)
    go later true p j = let r = later j in (inr r.0, r.1)
    go later false p (inl same) = (inl same, ap (λ (y : Entry). is_reserved y.name) same ∙ p)
    go later false p (inr j) = let r = later j in (inr r.0, r.1)

counted_among : (es : List Entry) (e : Entry) → In e es → is_reserved e.name ≡ false → In e (unreserved es)
counted_among [] e i p = absurd i
counted_among (x ∷ es) e i p = go (λ j. counted_among es e j p) (is_reserved x.name) refl i
  where
    go : (In e es → In e (unreserved es)) → (t : Bool) → is_reserved x.name ≡ t → In e (x ∷ es) → In e (if not t then x ∷ unreserved es else unreserved es)
    go later true q (inl same) = (let f : is_reserved x.name ≡ false = ap (λ (y : Entry). is_reserved y.name) (sym same) ∙ p in cc)
    go later true q (inr j) = later j
    go later false q (inl same) = inl same
    go later false q (inr j) = inr (later j)

pub counts_of : (n : Placed) (e : Entry) → In e (unreserved (entries_at n)) → Counts n e
counts_of n e i = let r = among_cases (entries_at n) e i in record { among = r.0; counted = unmarked e.name r.1 }

pub of_counts : (n : Placed) (e : Entry) → Counts n e → In e (unreserved (entries_at n))
of_counts n e c = counted_among (entries_at n) e c.among (reserved_not e.name c.counted)

-- Tests of members.

pub any_not : {A : Type 0} (t : A → Bool) (xs : List A) (x : A) → list_any t xs ≡ false → In x xs → t x ≡ false
any_not t [] x e i = absurd i
any_not t (y ∷ ys) x e i = go (λ f j. any_not t ys x f j) (t y) refl e i
  where
    go : (list_any t ys ≡ false → In x ys → t x ≡ false) → (s : Bool) → t y ≡ s → (s || list_any t ys) ≡ false → In x (y ∷ ys) → t x ≡ false
    go later true p f j = cc
    go later false p f (inl is) = ap t is ∙ p
    go later false p f (inr j) = later f j

pub not_any : {A : Type 0} (t : A → Bool) (xs : List A) → ((x : A) → In x xs → t x ≡ false) → list_any t xs ≡ false
not_any t [] h = refl
not_any t (y ∷ ys) h = ap (λ s. s || list_any t ys) (h y (inl refl)) ∙ not_any t ys (λ x i. h x (inr i))
