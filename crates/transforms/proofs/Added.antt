-- Tokens that were added one after another without a clash.
use Rattle.std.proofs.Common.{◌≡◌, ℕ, ◌+◌, ◌<◌, zero, suc, Bool, true, false, ◌||◌, cond, List, [], ◌∷◌, Some, None, length, get_or, refl, sym, ap, subst, ◌∙◌, inl, inr, arith, add-one}
use Rattle.std.specs.BTreeMap.{is_at}
use Rattle.std.specs.Cmp.Lexicographic.{nat_list_cmp_total}
use Rattle.std.specs.FinMap as map
use Rattle.std.specs.Prelude.{◌⊎◌, Contains, All, AllPairs}
use Rattle.std.proofs.lemmas.Cmp.{tied_itself}
use Rattle.std.proofs.lemmas.List.Kept.{AllPairs-cons}
use Rattle.std.proofs.lemmas.List.{get_or_default}
use Rattle.tk_io.specs.Order.{text_cmp}
use Rattle.transforms.specs.Clash.{Taken, with_names, is_among, NamedToken, AllAdded, ShareNoName, HasName, TokenNamesApart, NamesAreThere, NamesComeFromTokens}
use Rattle.transforms.proofs.Taken.{get-with_names, absent, same_name}

-- an element is the first, or one of the others
first_or_later : {X : Type 0} (y : X) (ys : List X) (x : X) → Contains (y ∷ ys) x → (y ≡ x) ⊎ Contains ys x
first_or_later y ys x there = at there.0 there.1 there.2
  where
    at : (k : ℕ) → k < length (y ∷ ys) → get_or (y ∷ ys) k x ≡ x → (y ≡ x) ⊎ Contains ys x
    at zero less is = inl is
    at (suc k) less is = inr (k, omega arith, is)

-- the first element, and each later one
the_first : {X : Type 0} (y : X) (ys : List X) (x : X) → y ≡ x → Contains (y ∷ ys) x
the_first y ys x is = (0, omega arith, is)

a_later : {X : Type 0} (y : X) (ys : List X) (x : X) → Contains ys x → Contains (y ∷ ys) x
a_later y ys x there = (there.0 + 1, omega (arith, there.1), subst (λ k. get_or (y ∷ ys) k x ≡ x) (sym (add-one there.0)) there.2)

tied_is_at : (name : List ℕ) → is_at (text_cmp name) name ≡ true
tied_is_at name = rw (tied_itself nat_list_cmp_total name) refl

-- whether a name is among some names
among : (names : List (List ℕ)) (name : List ℕ) → Contains names name → is_among name names ≡ true
among [] name there = absurd (omega (arith, there.1))
among (other ∷ names) name there = elim (first_or_later other names name there) [
  | inl is ↦ subst (λ n. (is_at (text_cmp n) name || is_among name names) ≡ true) (sym is) (rw (tied_is_at name) refl)
  | inr later ↦ either (is_at (text_cmp other) name) (among names name later)
]
  where
    either : (b : Bool) → is_among name names ≡ true → (b || is_among name names) ≡ true
    either true e = refl
    either false e = e

contained : (names : List (List ℕ)) (name : List ℕ) → is_among name names ≡ true → Contains names name
contained [] name e = cc
contained (other ∷ names) name e = at (is_at (text_cmp other) name) refl (contained names name)
  where
    at : (b : Bool) → is_at (text_cmp other) name ≡ b → (is_among name names ≡ true → Contains names name) → Contains (other ∷ names) name
    at true same rest = the_first other names name (same_name other name same)
    at false same rest = a_later other names name (rest (subst (λ b. (b || is_among name names) ≡ true) same e))

some_other : {X : Type 0} {x : X} → Some x ≡ None → ⊥
some_other e = cc

-- a name that is there stays under its path
stays : (tokens : List NamedToken) (before after : Taken) → AllAdded before tokens after → (name : List ℕ) (path : List (List ℕ)) → map.get before name ≡ Some path → map.get after name ≡ Some path
stays [] before after added name path there = ap (λ m. map.get m name) added ∙ there
stays (token ∷ tokens) before after added name path there =
    stays tokens (with_names before token.names token.path) after added.1 name path (at (is_among name token.names) refl)
  where
    at : (b : Bool) → is_among name token.names ≡ b → map.get (with_names before token.names token.path) name ≡ Some path
    at true is = absurd (some_other (sym there ∙ absent before token.names added.0 name is))
    at false is = get-with_names before token.names token.path name ∙ (ap (λ b. cond b (Some token.path) (map.get before name)) is ∙ there)

-- no token has a name that was there before
fresh : (tokens : List NamedToken) (before after : Taken) → AllAdded before tokens after → (token : NamedToken) → Contains tokens token
    → (name : List ℕ) → Contains token.names name → map.get before name ≡ None
fresh [] before after added token there name has = absurd (omega (arith, there.1))
fresh (first ∷ tokens) before after added token there name has = elim (first_or_later first tokens token there) [
  | inl is ↦ subst (λ t. Contains t.names name → map.get before name ≡ None) is (λ its. absent before first.names added.0 name (among first.names name its)) has
  | inr later ↦ at (is_among name first.names) refl (fresh tokens (with_names before first.names first.path) after added.1 token later name has)
]
  where
    at : (b : Bool) → is_among name first.names ≡ b → map.get (with_names before first.names first.path) name ≡ None → map.get before name ≡ None
    at true is none = absent before first.names added.0 name is
    at false is none = sym (get-with_names before first.names first.path name ∙ ap (λ b. cond b (Some first.path) (map.get before name)) is) ∙ none

apart : (tokens : List NamedToken) (before after : Taken) → AllAdded before tokens after → AllPairs ShareNoName tokens
apart [] before after added = λ i j d less within. absurd (omega arith)
apart (token ∷ tokens) before after added =
    AllPairs-cons ShareNoName token tokens others (apart tokens (with_names before token.names token.path) after added.1)
  where
    now : (name : List ℕ) → Contains token.names name → map.get (with_names before token.names token.path) name ≡ Some token.path
    now name has = get-with_names before token.names token.path name ∙ ap (λ b. cond b (Some token.path) (map.get before name)) (among token.names name has)

    others : All (ShareNoName token) tokens
    others = λ k d less name has its. some_other (sym (now name has)
        ∙ fresh tokens (with_names before token.names token.path) after added.1 (get_or tokens k d) (k, less, get_or_default tokens k (get_or tokens k d) d less) name its)

there_later : (tokens : List NamedToken) (before after : Taken) → AllAdded before tokens after → (token : NamedToken) → Contains tokens token
    → (name : List ℕ) → Contains token.names name → map.get after name ≡ Some token.path
there_later [] before after added token there name has = absurd (omega (arith, there.1))
there_later (first ∷ tokens) before after added token there name has = elim (first_or_later first tokens token there) [
  | inl is ↦ subst (λ t. Contains t.names name → map.get after name ≡ Some t.path) is
      (λ its. stays tokens (with_names before first.names first.path) after added.1 name first.path
      (get-with_names before first.names first.path name ∙ ap (λ b. cond b (Some first.path) (map.get before name)) (among first.names name its))) has
  | inr later ↦ there_later tokens (with_names before first.names first.path) after added.1 token later name has
]

-- a name that is there was there before, or is a token's
comes : (tokens : List NamedToken) (before after : Taken) → AllAdded before tokens after → (name : List ℕ) (path : List (List ℕ))
    → map.get after name ≡ Some path → (map.get before name ≡ Some path) ⊎ HasName tokens name path
comes [] before after added name path there = inl (ap (λ m. map.get m name) (sym added) ∙ there)
comes (token ∷ tokens) before after added name path there =
    at (comes tokens (with_names before token.names token.path) after added.1 name path there)
  where
    here : (b : Bool) → is_among name token.names ≡ b → map.get (with_names before token.names token.path) name ≡ Some path
        → (map.get before name ≡ Some path) ⊎ HasName (token ∷ tokens) name path
    here true is found = inr (record {
      token = token;
      there = the_first token tokens token refl;
      path_is = (let e : Some token.path ≡ Some path = sym (get-with_names before token.names token.path name ∙ ap (λ b. cond b (Some token.path) (map.get before name)) is) ∙ found in cc);
      has_name = contained token.names name is;
    })
    here false is found = inl (sym (get-with_names before token.names token.path name ∙ ap (λ b. cond b (Some token.path) (map.get before name)) is) ∙ found)

    at : (map.get (with_names before token.names token.path) name ≡ Some path) ⊎ HasName tokens name path → (map.get before name ≡ Some path) ⊎ HasName (token ∷ tokens) name path
    at (inl found) = here (is_among name token.names) refl found
    at (inr is) = inr (record { token = is.token; there = a_later token tokens is.token is.there; path_is = is.path_is; has_name = is.has_name })

pub names_apart : TokenNamesApart
names_apart tokens taken added = apart tokens map.empty taken added

pub names_there : NamesAreThere
names_there tokens taken added name path is = there_later tokens map.empty taken added is.token is.there name is.has_name ∙ ap (λ p. Some p) is.path_is

pub names_from_tokens : NamesComeFromTokens
names_from_tokens tokens taken added name path there = elim (comes tokens map.empty taken added name path there) [
  | inl found ↦ absurd (some_other (sym found ∙ map.get-empty text_cmp name))
  | inr is ↦ is
]
