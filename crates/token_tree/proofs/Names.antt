-- The tests of texts and what they mean: names and kinds.
use Rattle.std.proofs.Common.{◌≡◌, ◌≢◌, ℕ, Bool, true, false, ◌&&◌, not, List, [], ◌∷◌, All, Option, Some, None, refl, sym, ap, ◌∙◌, arith, cond, ◌==◌, ◌↔◌, IsTrue}
use Rattle.std.specs.List.{list_all}
use Rattle.std.specs.Option.{MatchOption}
use Rattle.std.specs.Str.{bytes_eq}
use Rattle.std.proofs.lemmas.Bool.Decides.{nat_tests}
use Rattle.std.proofs.lemmas.List.Elements.{All-cons, All-nil, All-head, All-tail}
use Rattle.std.proofs.lemmas.Slice.Eq.{bytes_eq-Decides}
use Rattle.name_path.specs.declared.kind.Kind.{Kind}
use Rattle.name_path.specs.declared.kind.Kind.TheVariants.{Color, Dimension, FontFamily, FontWeight, Duration, CubicBezier, Number, StrokeStyle, Border, Transition, Shadow, Gradient, Typography}
use Rattle.name_path.specs.Kinds.{kind_name}
use Rattle.name_path.specs.Names.{IsName, AreNames}
use Rattle.token_tree.specs.Texts.{is_plain, is_name, kinds, kind_among, kind_named}

pub not_both : (b : Bool) → b ≡ true → b ≡ false → ⊥
not_both true p q = cc
not_both false p q = cc

pub and_left : (a b : Bool) → (a && b) ≡ true → a ≡ true
and_left true b e = refl
and_left false b e = e

pub and_right : (a b : Bool) → (a && b) ≡ true → b ≡ true
and_right true b e = e
and_right false b e = cc

pub and_both : (a b : Bool) → a ≡ true → b ≡ true → (a && b) ≡ true
and_both true b p q = q
and_both false b p q = p

pub same_bool : (a b : Bool) → (a ≡ true → b ≡ true) → (b ≡ true → a ≡ true) → a ≡ b
same_bool true true f g = refl
same_bool true false f g = sym (f refl)
same_bool false true f g = g refl
same_bool false false f g = refl

pub same_text : (xs ys : List ℕ) → bytes_eq xs ys ≡ true → xs ≡ ys
same_text xs ys e = (bytes_eq-Decides xs ys).0 e

pub text_same : (xs ys : List ℕ) → xs ≡ ys → bytes_eq xs ys ≡ true
text_same xs ys e = (bytes_eq-Decides xs ys).1 e

abbrev Plain : ℕ → Type 0
Plain b = (b ≢ 46) × (b ≢ 123) × (b ≢ 125)

plain_test : (b : ℕ) → Plain b → is_plain b ≡ true
plain_test b (p, q, r) = grind (arith, nat_tests)

test_plain : (b : ℕ) → is_plain b ≡ true → Plain b
test_plain b e = (λ p. grind (arith, nat_tests), λ p. grind (arith, nat_tests), λ p. grind (arith, nat_tests))

all_test : (bs : List ℕ) → All Plain bs → list_all is_plain bs ≡ true
all_test [] h = refl
all_test (b ∷ bs) h = and_both (is_plain b) _ (plain_test b (All-head Plain b bs h)) (all_test bs (All-tail Plain b bs h))

test_all : (bs : List ℕ) → list_all is_plain bs ≡ true → All Plain bs
test_all [] e = All-nil Plain
test_all (b ∷ bs) e = All-cons Plain b bs (test_plain b (and_left _ _ e)) (test_all bs (and_right (is_plain b) _ e))

not_dollar : (b : ℕ) → b ≢ 36 → not (b == 36) ≡ true
not_dollar b h = grind (arith, nat_tests)

dollar_not : (b : ℕ) → not (b == 36) ≡ true → b ≢ 36
dollar_not b h = λ e. grind (arith, nat_tests)

pub name_test : (text : List ℕ) → IsName text → is_name text ≡ true
name_test [] h = absurd (omega (arith, h.some))
name_test (b ∷ bs) h = and_both (not (b == 36)) _ (not_dollar b h.first) (all_test (b ∷ bs) h.plain)

pub test_name : (text : List ℕ) → is_name text ≡ true → IsName text
test_name [] e = cc
test_name (b ∷ bs) e = record {
  some = omega arith;
  first = dollar_not b (and_left _ _ e);
  plain = test_all (b ∷ bs) (and_right (not (b == 36)) _ e);
}

pub names_test : (path : List (List ℕ)) → AreNames path → list_all is_name path ≡ true
names_test [] h = refl
names_test (x ∷ xs) h = and_both (is_name x) _ (name_test x (All-head IsName x xs h)) (names_test xs (All-tail IsName x xs h))

pub test_names : (path : List (List ℕ)) → list_all is_name path ≡ true → AreNames path
test_names [] e = All-nil IsName
test_names (x ∷ xs) e = All-cons IsName x xs (test_name x (and_left _ _ e)) (test_names xs (and_right (is_name x) _ e))

pub name_decided : (r : Bool) (text : List ℕ) → (IsTrue r ↔ IsName text) → r ≡ is_name text
name_decided r text h = same_bool r (is_name text) (λ e. name_test text (h.0 e)) (λ e. h.1 (test_name text e))

-- kinds

pub kind_found : (k : Kind) → kind_named (kind_name k) ≡ Some k
kind_found Color = refl
kind_found Dimension = refl
kind_found FontFamily = refl
kind_found FontWeight = refl
kind_found Duration = refl
kind_found CubicBezier = refl
kind_found Number = refl
kind_found StrokeStyle = refl
kind_found Border = refl
kind_found Transition = refl
kind_found Shadow = refl
kind_found Gradient = refl
kind_found Typography = refl

pub kind_spelled : (ks : List Kind) (text : List ℕ) (k : Kind) → kind_among ks text ≡ Some k → kind_name k ≡ text
kind_spelled [] text k e = cc
kind_spelled (j ∷ ks) text k e =
    elim (bytes_eq (kind_name j) text) as (λ b. bytes_eq (kind_name j) text ≡ b → cond b (Some j) (kind_among ks text) ≡ Some k → kind_name k ≡ text) [
      | true ↦ λ t f. (let s : j ≡ k = cc in ap kind_name (sym s) ∙ same_text (kind_name j) text t)
      | false ↦ λ t f. kind_spelled ks text k f
    ] refl e

pub kind_decided : (r : Option Kind) (text : List ℕ) → MatchOption r ((k : Kind) → kind_name k ≢ text) (λ k. kind_name k ≡ text) → r ≡ kind_named text
kind_decided (Some k) text e = sym (kind_found k) ∙ ap kind_named e
kind_decided None text h = none (kind_named text) refl
  where
    none : (o : Option Kind) → kind_named text ≡ o → None ≡ kind_named text
    none None e = sym e
    none (Some k) e = absurd (h k (kind_spelled kinds text k e))
