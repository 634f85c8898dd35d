-- No two permutations of a plan have one name.
use Rattle.std.proofs.Common.{◌≡◌, ℕ, List, [], ◌∷◌, ◌++◌, map, refl, sym, ap, ap₂, ◌∙◌, subst, inl, inr}
use Rattle.std.proofs.lemmas.List.{map-append}
use Rattle.std.specs.List.{flat_map, AllByRecursion}
use Rattle.ring.specs.Lists.{In, AreApart}
use Rattle.resolver_doc.specs.Document.{SetData, ItemData, set_item, modifier_item, HasContextsApart}
use Rattle.permutations.specs.Laws.{NamesAreApart}
use Rattle.permutations.specs.Name.{Choice, name_of}
use Rattle.permutations.specs.Permutation.{Pick, context_pick, picks, choices, permutation}
use Rattle.permutations.proofs.NamesTell.{names_tell_choices}
use Rattle.permutations.proofs.SetRoutes.{in_either}

-- an element of a mapped list comes from one of the list
pub record ComesFrom {A B : Type 0} (f : A → B) (xs : List A) (y : B) : Type 0 where
  pub from : A
  pub there : In from xs
  pub is : y ≡ f from

pub in_map : {A B : Type 0} (f : A → B) (xs : List A) (y : B) → In y (map f xs) → ComesFrom f xs y
in_map f [] y i = absurd i
in_map f (x ∷ xs) y (inl e) = record { from = x; there = inl refl; is = e }
in_map f (x ∷ xs) y (inr i) = (let c = in_map f xs y i in record { from = c.from; there = inr c.there; is = c.is })

apart_map : {A B : Type 0} (f : A → B) → ((x y : A) → f x ≡ f y → x ≡ y) → (xs : List A) → AreApart xs → AreApart (map f xs)
apart_map f one [] apart = tt
apart_map {A} f one (x ∷ xs) apart =
    (λ i. (let c = in_map f xs (f x) i in apart.0 (subst (λ (y : A). In y xs) (sym (one x c.from c.is)) c.there)), apart_map f one xs apart.1)

apart_append : {A : Type 0} (xs ys : List A) → AreApart xs → AreApart ys → ((x : A) → In x xs → In x ys → ⊥) → AreApart (xs ++ ys)
apart_append [] ys a b other = b
apart_append (x ∷ xs) ys a b other =
    (λ i. elim (in_either xs ys x i) [ inl j ↦ a.0 j | inr k ↦ other x (inl refl) k ], apart_append xs ys a.1 b (λ y i j. other y (inr i) j))

-- what is chosen in a permutation
abbrev chosen : List Pick → List Choice
chosen ps = flat_map (λ p. p.chosen) ps

chosen_more : (p : Pick) (cs : List (List Pick)) → map chosen (map (λ rest. p ∷ rest) cs) ≡ map (λ q. p.chosen ++ q) (map chosen cs)
chosen_more p [] = refl
chosen_more p (c ∷ cs) = ap (λ (qs : List (List Choice)). (p.chosen ++ chosen c) ∷ qs) (chosen_more p cs)

chosen_all : (ps : List Pick) (cs : List (List Pick)) → map chosen (flat_map (λ p. map (λ rest. p ∷ rest) cs) ps) ≡ flat_map (λ p. map (λ q. p.chosen ++ q) (map chosen cs)) ps
chosen_all [] cs = refl
chosen_all (p ∷ ps) cs =
    map-append chosen (map (λ rest. p ∷ rest) cs) (flat_map (λ q. map (λ rest. q ∷ rest) cs) ps)
    ∙ ap₂ (λ (xs ys : List (List Choice)). xs ++ ys) (chosen_more p cs) (chosen_all ps cs)

same_again : (ls : List (List Choice)) → map (λ q. [] ++ q) ls ++ [] ≡ ls
same_again [] = refl
same_again (l ∷ ls) = ap (λ (qs : List (List Choice)). l ∷ qs) (same_again ls)

abbrev choice : List ℕ → SetData → Choice
choice name c = record { modifier = name; context = c.name }

-- the choices of a modifier's contexts, each before the others
abbrev chosen_here : List ℕ → List SetData → List (List Choice) → List (List Choice)
chosen_here name contexts ls = flat_map (λ p. map (λ q. p.chosen ++ q) ls) (map (context_pick name) contexts)

-- one that begins with a choice of one of the contexts
record BeginsWith (name : List ℕ) (contexts : List SetData) (l : List Choice) : Type 0 where
  pub context : SetData
  pub there : In context.name (map (λ c. c.name) contexts)
  pub rest : List Choice
  pub is : l ≡ choice name context ∷ rest

begins : (name : List ℕ) (contexts : List SetData) (ls : List (List Choice)) (l : List Choice) → In l (chosen_here name contexts ls) → BeginsWith name contexts l
begins name [] ls l i = absurd i
begins name (c ∷ cs) ls l i = elim (in_either (map (λ q. choice name c ∷ q) ls) (chosen_here name cs ls) l i) [
  | inl j ↦ (let m = in_map (λ q. choice name c ∷ q) ls l j in record { context = c; there = inl refl; rest = m.from; is = m.is })
  | inr k ↦ (let b = begins name cs ls l k in record { context = b.context; there = inr b.there; rest = b.rest; is = b.is })
]

tails : (c : Choice) (xs ys : List Choice) → c ∷ xs ≡ c ∷ ys → xs ≡ ys
tails c xs ys e = cc

heads : (name : List ℕ) (c d : SetData) (xs ys : List Choice) → choice name c ∷ xs ≡ choice name d ∷ ys → c.name ≡ d.name
heads name c d xs ys e = (let same : choice name c ≡ choice name d = cc in ap (λ (x : Choice). x.context) same)

apart_here : (name : List ℕ) (contexts : List SetData) (ls : List (List Choice)) → AreApart (map (λ c. c.name) contexts) → AreApart ls → AreApart (chosen_here name contexts ls)
apart_here name [] ls names apart = tt
apart_here name (c ∷ cs) ls names apart =
    apart_append (map (λ q. choice name c ∷ q) ls) (chosen_here name cs ls)
    (apart_map (λ q. choice name c ∷ q) (tails (choice name c)) ls apart)
    (apart_here name cs ls names.1 apart)
    (λ l i j. (
    let m = in_map (λ q. choice name c ∷ q) ls l i in
    let b = begins name cs ls l j in
    names.0 (subst (λ (n : List ℕ). In n (map (λ d. d.name) cs)) (sym (heads name c b.context m.from b.rest (sym m.is ∙ b.is))) b.there)))

apart_choices : (order : List ItemData) → AllByRecursion HasContextsApart order → AreApart (map chosen (choices order))
apart_choices [] h = (λ i. i, tt)
apart_choices (set_item sources ∷ items) h =
    subst (λ (ls : List (List Choice)). AreApart ls)
    (sym (chosen_all (picks (set_item sources)) (choices items) ∙ same_again (map chosen (choices items))))
    (apart_choices items h.1)
apart_choices (modifier_item name contexts default ∷ items) h =
    subst (λ (ls : List (List Choice)). AreApart ls) (sym (chosen_all (picks (modifier_item name contexts default)) (choices items)))
    (apart_here name contexts (map chosen (choices items)) h.0 (apart_choices items h.1))

names : (sets : List SetData) (cs : List (List Pick)) → map (λ p. p.name) (map (permutation sets) cs) ≡ map name_of (map chosen cs)
names sets [] = refl
names sets (c ∷ cs) = ap (λ (ns : List (List ℕ)). name_of (chosen c) ∷ ns) (names sets cs)

pub names_are_apart : NamesAreApart
names_are_apart plan h =
    subst (λ (ns : List (List ℕ)). AreApart ns) (sym (names plan.sets (choices plan.order)))
    (apart_map name_of names_tell_choices (map chosen (choices plan.order)) (apart_choices plan.order h))
