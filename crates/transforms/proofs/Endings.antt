-- A name stays one with an ending.
use Rattle.std.proofs.Common.{◌≡◌, ℕ, ◌+◌, true, List, [], ◌∷◌, ◌++◌, length, length-append, nat_eq, nat_lt, refl, ap, ◌∙◌, arith, codes}
use Rattle.std.specs.Prelude.{not}
use Rattle.std.specs.List.{list_all, starts_with}
use Rattle.std.proofs.lemmas.Bool.Decides.{nat_tests}
use Rattle.std.proofs.lemmas.List.Folds.{list_all-append}
use Rattle.transforms.specs.PlatformName.{is_kept, is_property, is_identifier, begins_with_digit, EndingsStay}
use Rattle.transforms.specs.declared.platform.Platform.{Platform}
use Rattle.transforms.specs.declared.platform.Platform.TheVariants.{Css, Android, Swift}
use Rattle.transforms.proofs.Spelled.{both, first_of, second_of}

longer : (k n m : ℕ) → nat_lt k n ≡ true → nat_lt k (n + m) ≡ true
longer k n m h = grind (arith, nat_tests)

kept : (p : Platform) (name ending : List ℕ) → list_all (is_kept p) name ≡ true → list_all (is_kept p) ending ≡ true → list_all (is_kept p) (name ++ ending) ≡ true
kept p name ending h k = list_all-append (is_kept p) name ending ∙ both _ _ h k

long : (k : ℕ) (name ending : List ℕ) → nat_lt k (length name) ≡ true → nat_lt k (length (name ++ ending)) ≡ true
long k name ending h = ap (nat_lt k) (length-append name ending) ∙ longer k (length name) (length ending) h

begins : (name ending : List ℕ) → nat_lt 2 (length name) ≡ true → starts_with nat_eq (name ++ ending) (codes "--") ≡ starts_with nat_eq name (codes "--")
begins [] ending h = cc
begins (a ∷ []) ending h = cc
begins (a ∷ b ∷ name) ending h = refl

property : (name ending : List ℕ) → is_property name ≡ true → list_all (is_kept Css) ending ≡ true → is_property (name ++ ending) ≡ true
property name ending is k =
    let more = second_of (starts_with nat_eq name (codes "--")) _ is in
    let some = first_of (nat_lt 2 (length name)) _ more in
    both _ _ (begins name ending some ∙ first_of (starts_with nat_eq name (codes "--")) _ is) (both _ _ (long 2 name ending some) (kept Css name ending (second_of (nat_lt 2 (length name)) _ more) k))

first_digit : (name ending : List ℕ) → nat_lt 0 (length name) ≡ true → begins_with_digit (name ++ ending) ≡ begins_with_digit name
first_digit [] ending h = cc
first_digit (c ∷ cs) ending h = refl

pub kept_name : (name : List ℕ) → is_identifier name ≡ true → list_all (is_kept Android) name ≡ true
kept_name name is = second_of (not (begins_with_digit name)) _ (second_of (nat_lt 0 (length name)) _ is)

identifier : (name ending : List ℕ) → is_identifier name ≡ true → list_all (is_kept Android) ending ≡ true → is_identifier (name ++ ending) ≡ true
identifier name ending is k =
    let more = second_of (nat_lt 0 (length name)) _ is in
    let some = first_of (nat_lt 0 (length name)) _ is in
    both _ _ (long 0 name ending some)
    (both _ _ (ap not (first_digit name ending some) ∙ first_of (not (begins_with_digit name)) _ more) (kept Android name ending (kept_name name is) k))

pub endings_stay : EndingsStay
endings_stay Css name ending is k = property name ending is k
endings_stay Android name ending is k = identifier name ending is k
endings_stay Swift name ending is k = identifier name ending is k
