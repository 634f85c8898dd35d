-- What is told of several breaks is the first of them.
use Rattle.std.proofs.Common.{◌≡◌, ℕ, ◌==◌, ◌&&◌, ◌||◌, Bool, true, false, nat_lt, List, [], ◌∷◌, Some, None, refl, sym, subst, inl, inr, arith}
use Rattle.std.specs.Prelude.{◌⊎◌, if◌then◌else◌}
use Rattle.std.proofs.lemmas.Bool.Decides.{nat_tests}
use Rattle.ring.specs.Lists.{In}
use Rattle.resolver_doc.specs.declared.rule.Break.{Break}
use Rattle.resolver_doc.specs.Break.{rule_number, is_before, with_breaks, FirstIsTold, NoneIsTold}

-- the order of two places in the list of rules, by numbers alone
abbrev before : ℕ → ℕ → ℕ → ℕ → Bool
before s m t n = nat_lt s t || ((s == t) && nat_lt m n)

itself : (s m : ℕ) → before s m s m ≡ false
itself s m = grind (arith, nat_tests)

-- a that comes before b, and not before r: then b does not come before r
passed : (s m t n u k : ℕ) → before s m t n ≡ true → before s m u k ≡ false → before t n u k ≡ false
passed s m t n u k h i = grind (arith, nat_tests)

-- a that does not come before b, which does not come before r
chained : (s m t n u k : ℕ) → before s m t n ≡ false → before t n u k ≡ false → before s m u k ≡ false
chained s m t n u k h i = grind (arith, nat_tests)

record IsLeast (b : Break) (xs : List Break) (r : Break) : Type 0 where
  pub there : (r ≡ b) ⊎ In r xs
  pub not_before : is_before b r ≡ false
  pub none_before : (o : Break) → In o xs → is_before o r ≡ false

inner : (b r : Break) → Some b ≡ Some r → b ≡ r
inner b r e = cc

least : (b : Break) (xs : List Break) (r : Break) → with_breaks (Some b) xs ≡ Some r → IsLeast b xs r
least b [] r is =
    let same = inner b r is in
    record {
      there = inl (sym same);
      not_before = subst (λ c. is_before b c ≡ false) same (itself b.start (rule_number b.rule));
      none_before = λ o i. absurd i;
    }
least b (x ∷ xs) r is = at (is_before x b) refl (least x xs r) (least b xs r) is
  where
    at : (t : Bool) → is_before x b ≡ t → (with_breaks (Some x) xs ≡ Some r → IsLeast x xs r) → (with_breaks (Some b) xs ≡ Some r → IsLeast b xs r)
        → with_breaks (if t then Some x else Some b) xs ≡ Some r → IsLeast b (x ∷ xs) r
    at true earlier newer older e =
        let l = newer e in
        record {
          there = inr l.there;
          not_before = passed x.start (rule_number x.rule) b.start (rule_number b.rule) r.start (rule_number r.rule) earlier l.not_before;
          none_before = λ o i. elim i [ inl same ↦ subst (λ c. is_before c r ≡ false) (sym same) l.not_before | inr later ↦ l.none_before o later ];
        }
    at false earlier newer older e =
        let l = older e in
        record {
          there = elim l.there [ inl same ↦ inl same | inr later ↦ inr (inr later) ];
          not_before = l.not_before;
          none_before = λ o i. elim i [
            | inl same ↦ subst (λ c. is_before c r ≡ false) (sym same)
                (chained x.start (rule_number x.rule) b.start (rule_number b.rule) r.start (rule_number r.rule) earlier l.not_before)
            | inr later ↦ l.none_before o later
          ];
        }

pub first_is_told : FirstIsTold
first_is_told [] first is = cc
first_is_told (b ∷ xs) first is =
    let l = least b xs first is in
    record {
      there = l.there;
      none_before = λ o i. elim i [ inl same ↦ subst (λ c. is_before c first ≡ false) (sym same) l.not_before | inr later ↦ l.none_before o later ];
    }

some_stays : (b : Break) (xs : List Break) → with_breaks (Some b) xs ≡ None → ⊥
some_stays b [] is = cc
some_stays b (x ∷ xs) is = at (is_before x b) (some_stays x xs) (some_stays b xs) is
  where
    at : (t : Bool) → (with_breaks (Some x) xs ≡ None → ⊥) → (with_breaks (Some b) xs ≡ None → ⊥) → with_breaks (if t then Some x else Some b) xs ≡ None → ⊥
    at true newer older e = newer e
    at false newer older e = older e

pub none_is_told : NoneIsTold
none_is_told [] is = refl
none_is_told (b ∷ xs) is = absurd (some_stays b xs is)
