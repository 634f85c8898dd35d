-- The token at a path, member by member.
use Rattle.std.proofs.Common.{◌≡◌, ℕ, Bool, true, false, cond, T, List, [], ◌∷◌, ◌++◌, Option, Some, None, option_and_then, refl, sym, ap, subst, ◌∙◌, Less, Equal, Greater}
use Rattle.std.specs.FinMap as map
use Rattle.std.specs.FinMap.Entries.{find, is_sorted, below_all}
use Rattle.std.specs.Option.{option_or}
use Rattle.std.specs.Ordering.{eq_by_cmp, ordering_then, is_eq}
use Rattle.tk_io.specs.Order.{text_cmp, names_cmp}
use Rattle.token_tree.specs.Tree.{Definition, Properties, Child, a_token, a_group, group, children_of}
use Rattle.group_inherit.specs.Flattening.{Flattened, Nearest, nearest, flattened, token_below, behind, token_under}
use Rattle.group_inherit.proofs.Puts.{first, none_below}
use Rattle.group_inherit.proofs.Overs.{get_named, same_name}

-- the token at a path below these members
abbrev pub among : List (List ℕ) → Nearest → List (List ℕ × Child) → Option Flattened
among [] near es = None
among (name ∷ rest) near es = option_and_then (λ c. token_below rest near c) (find text_cmp name es)

-- .. where the members stand at a prefix of it
abbrev pub under_among : List (List ℕ) → Nearest → List (List ℕ × Child) → List (List ℕ) → Option Flattened
under_among front near es path = option_and_then (λ rest. among rest near es) (behind front path)

pub group_among : (ps : Properties) (es : List (List ℕ × Child)) (above : Nearest) (path : List (List ℕ)) → token_below path above (a_group (group ps (children_of es))) ≡ among path (nearest ps above) es
group_among ps es above [] = refl
group_among ps es above (name ∷ path) = ap (option_and_then (λ c. token_below path (nearest ps above) c)) (get_named es name)

pub group_under : (ps : Properties) (es : List (List ℕ × Child)) (above : Nearest) (front path : List (List ℕ)) → token_under front above (a_group (group ps (children_of es))) path ≡ under_among front (nearest ps above) es path
group_under ps es above front path = at (behind front path)
  where
    at : (o : Option (List (List ℕ))) → option_and_then (λ rest. token_below rest above (a_group (group ps (children_of es)))) o ≡ option_and_then (λ rest. among rest (nearest ps above) es) o
    at None = refl
    at (Some rest) = group_among ps es above rest

-- below no members is no token
pub none_among : (front : List (List ℕ)) (near : Nearest) (path : List (List ℕ)) → under_among front near [] path ≡ None
none_among front near path = at (behind front path)
  where
    nothing : (rest : List (List ℕ)) → among rest near [] ≡ None
    nothing [] = refl
    nothing (name ∷ rest) = refl

    at : (o : Option (List (List ℕ))) → option_and_then (λ rest. among rest near []) o ≡ None
    at None = refl
    at (Some rest) = nothing rest

-- a name more
abbrev step : List ℕ → List (List ℕ) → Option (List (List ℕ))
step name [] = None
step name (k ∷ rest) = cond (eq_by_cmp text_cmp k name) (Some rest) None

behind_more : (front : List (List ℕ)) (name : List ℕ) (path : List (List ℕ)) → behind (front ++ name ∷ []) path ≡ option_and_then (step name) (behind front path)
behind_more [] name [] = refl
behind_more [] name (k ∷ path) = refl
behind_more (n ∷ front) name [] = refl
behind_more (n ∷ front) name (k ∷ path) =
    elim (eq_by_cmp text_cmp k n) as (λ b. cond b (behind (front ++ name ∷ []) path) None ≡ option_and_then (step name) (cond b (behind front path) None)) [
      | true ↦ behind_more front name path
      | false ↦ refl
    ]

-- a member more
next : (near : Nearest) (rest : List (List ℕ × Child)) (e : List ℕ × Child) (old : Option Flattened) → T (is_sorted text_cmp (e ∷ rest)) → (o : Option (List (List ℕ)))
    → option_or (option_and_then (λ p. among p near rest) o) (option_or (option_and_then (λ p. token_below p near e.1) (option_and_then (step e.0) o)) old)
    ≡ option_or (option_and_then (λ p. among p near (e ∷ rest)) o) old
next near rest e old h None = refl
next near rest e old h (Some []) = refl
next near rest e old h (Some (k ∷ p)) =
    elim (eq_by_cmp text_cmp k e.0) as (λ b. eq_by_cmp text_cmp k e.0 ≡ b
    → option_or (option_and_then (λ c. token_below p near c) (find text_cmp k rest)) (option_or (option_and_then (λ r. token_below r near e.1) (cond b (Some p) None)) old)
    ≡ option_or (option_and_then (λ c. token_below p near c) (cond b (Some e.1) (find text_cmp k rest))) old) [
      | true ↦ λ t. ap (λ x. option_or (option_and_then (λ c. token_below p near c) x) (option_or (token_below p near e.1) old))
          (ap (λ n. find text_cmp n rest) (same_name k e.0 t) ∙ none_below text_cmp e.0 rest (first (below_all text_cmp e.0 rest) (is_sorted text_cmp rest) h))
      | false ↦ λ t. refl
    ] refl

-- the turn at a member
pub member_found : (front inner : List (List ℕ)) (near : Nearest) (left rest : List (List ℕ × Child)) (e : List ℕ × Child) (old new : map.FinMap names_cmp Flattened) (q : List (List ℕ))
    → T (is_sorted text_cmp left) → left ≡ e ∷ rest → inner ≡ front ++ e.0 ∷ [] → map.get new q ≡ option_or (token_under inner near e.1 q) (map.get old q)
    → option_or (under_among front near rest q) (map.get new q) ≡ option_or (under_among front near left q) (map.get old q)
member_found front inner near left rest e old new q sorted cut at is =
    ap (option_or (under_among front near rest q)) (is ∙ ap (λ o. option_or (option_and_then (λ p. token_below p near e.1) o) (map.get old q)) (ap (λ f. behind f q) at ∙ behind_more front e.0 q))
    ∙ (next near rest e (map.get old q) (subst_sorted cut sorted) (behind front q)
    ∙ ap (λ l. option_or (under_among front near l q) (map.get old q)) (sym cut))
  where
    subst_sorted : left ≡ e ∷ rest → T (is_sorted text_cmp left) → T (is_sorted text_cmp (e ∷ rest))
    subst_sorted c h = subst (λ l. T (is_sorted text_cmp l)) c h

-- a token stands at its own path alone
pub own_path : (front : List (List ℕ)) (near : Nearest) (d : Definition) (q : List (List ℕ)) → token_under front near (a_token d) q ≡ cond (eq_by_cmp names_cmp q front) (Some (flattened near d)) None
own_path [] near d [] = refl
own_path [] near d (k ∷ q) = refl
own_path (name ∷ front) near d [] = refl
own_path (name ∷ front) near d (k ∷ q) =
    elim (text_cmp k name) as (λ o. option_and_then (λ p. token_below p near (a_token d)) (cond (is_eq o) (behind front q) None) ≡ cond (is_eq (ordering_then o (names_cmp q front))) (Some (flattened near d)) None) [
      | Less ↦ refl
      | Equal ↦ own_path front near d q
      | Greater ↦ refl
    ]

pub chosen_or : {A : Type 0} (b : Bool) (x : A) (old : Option A) → cond b (Some x) old ≡ option_or (cond b (Some x) None) old
chosen_or true x old = refl
chosen_or false x old = refl
