-- The span of a place is that of the value at which its steps end.
use Rattle.std.proofs.Common.{◌≡◌, ◌∙◌, List, [], ◌∷◌, ◌++◌, Bool, true, false, cond, Option, Some, None, refl, sym, ap, option_map, inl, inr}
use Rattle.std.specs.Prelude.{◌⊎◌, option_and_then}
use Rattle.std.proofs.lemmas.Option.{none-some, same_Some}
use Rattle.json_span.specs.Tree.{Placed, tree_of}
use Rattle.token_tree.specs.Tree.{Definition}
use Rattle.alias_ref.specs.Written.{Step, Written, part_behind, value_at, Role, written_as, is_reference, role_behind, role_at, written_at}
use Rattle.alias_ref.specs.Span.{span_of_value, span_below, NoneBefore, EndsAt}
use Rattle.alias_ref.specs.inner.Steps.{next_in}
use Rattle.alias_ref.proofs.RefsAreWritten.{role_from, role_on, role_begins}
use Rattle.alias_ref.proofs.SpansInTurn.{span_end, span_stops, span_goes}

-- what is written at the end of steps from a value
written_from : Role → Placed → List Step → Option Written
written_from role n trail = option_map (λ m. written_as (role_from role trail) (tree_of m)) (value_at n trail)

-- .. from a token's value
written_begins : (d : Definition) (trail : List Step) → written_from (role_at d.by_ref []) d.value trail ≡ written_at d trail
unfolding written_from written_at
written_begins d trail = ap (λ r. option_map (λ m. written_as r (tree_of m)) (value_at d.value trail)) (role_begins d.by_ref trail)

-- .. and one step further
written_on : (role : Role) (n m : Placed) (s : Step) (trail : List Step) → part_behind n s ≡ Some m → written_from role n (s ∷ trail) ≡ written_from (role_behind s) m trail
unfolding written_from value_at role_from
written_on role n m s trail e =
    ap (λ o. option_map (λ x. written_as (role_from role (s ∷ trail)) (tree_of x)) (option_and_then (λ x. value_at x trail) o)) e
    ∙ ap (λ r. option_map (λ x. written_as r (tree_of x)) (value_at m trail)) (sym (role_on s trail))

written_here : (role : Role) (n : Placed) → written_from role n [] ≡ Some (written_as role (tree_of n))
unfolding written_from value_at role_from
written_here role n = refl

value_here : (n m : Placed) → value_at n [] ≡ Some m → n ≡ m
unfolding value_at
value_here n m e = same_Some n m e

-- the value that the first step leads to
record Goes (n : Placed) (s : Step) (trail : List Step) (m : Placed) : Type 0 where
  next : Placed
  part : part_behind n s ≡ Some next
  value : value_at next trail ≡ Some m

value_goes : (n : Placed) (s : Step) (trail : List Step) (m : Placed) → value_at n (s ∷ trail) ≡ Some m → Goes n s trail m
unfolding value_at
value_goes n s trail m e = go (part_behind n s) refl e
  where
    go : (o : Option Placed) → part_behind n s ≡ o → option_and_then (λ x. value_at x trail) o ≡ Some m → Goes n s trail m
    go None p f = absurd (none-some m f)
    go (Some x) p f = record { next = x; part = p; value = f }

-- the next value, by whether a reference stands here
next_none : (role : Role) (n : Placed) (s : Step) → (is_reference (Some (written_as role (tree_of n))) ≡ true) ⊎ (part_behind n s ≡ None) → next_in role n s ≡ None
next_none role n s (inl is) = ap (λ b. cond b None (part_behind n s)) is
next_none role n s (inr none) = ap (cond (is_reference (Some (written_as role (tree_of n)))) None) none ∙ same (is_reference (Some (written_as role (tree_of n))))
  where
    same : (b : Bool) → cond {A = Option Placed} b None None ≡ None
    same true = refl
    same false = refl

next_some : (role : Role) (n m : Placed) (s : Step) → is_reference (Some (written_as role (tree_of n))) ≡ false → part_behind n s ≡ Some m → next_in role n s ≡ Some m
next_some role n m s not part = ap (λ b. cond b None (part_behind n s)) not ∙ part

-- as `NoneBefore` and `EndsAt`, from any value
abbrev ClearBefore : Role → Placed → List Step → Type 0
ClearBefore role n front = (before : List Step) → (s : Step) → (behind : List Step) → front ≡ before ++ s ∷ behind → is_reference (written_from role n before) ≡ false

abbrev StopsAt : Role → Placed → List Step → Placed → List Step → Type 0
StopsAt role n front m [] = Unit {0}
StopsAt role n front m (s ∷ rest) = (is_reference (written_from role n front) ≡ true) ⊎ (part_behind m s ≡ None)

stops_on : (role : Role) (n m : Placed) (s : Step) (trail : List Step) (end : Placed) (rest : List Step) → part_behind n s ≡ Some m → StopsAt role n (s ∷ trail) end rest → StopsAt (role_behind s) m trail end rest
stops_on role n m s trail end [] part h = tt
stops_on role n m s trail end (r ∷ rest) part (inl is) = inl (ap is_reference (sym (written_on role n m s trail part)) ∙ is)
stops_on role n m s trail end (r ∷ rest) part (inr none) = inr none

spans_from : (role : Role) (n : Placed) (front rest : List Step) (m : Placed) → value_at n front ≡ Some m → ClearBefore role n front → StopsAt role n front m rest → span_below role n (front ++ rest) ≡ span_of_value m
spans_from role n [] [] m value clear stops = span_end role n ∙ ap span_of_value (value_here n m value)
spans_from role n [] (s ∷ rest) m value clear stops =
    let same = value_here n m value in
    span_stops role n s rest (next_none role n s (here stops same)) ∙ ap span_of_value same
  where
    here : (is_reference (written_from role n []) ≡ true) ⊎ (part_behind m s ≡ None) → n ≡ m → (is_reference (Some (written_as role (tree_of n))) ≡ true) ⊎ (part_behind n s ≡ None)
    here (inl is) e = inl (ap is_reference (sym (written_here role n)) ∙ is)
    here (inr none) e = inr (ap (λ x. part_behind x s) e ∙ none)
spans_from role n (s ∷ front) rest m value clear stops =
    let g = value_goes n s front m value in
    let not = ap is_reference (sym (written_here role n)) ∙ clear [] s front refl in
    span_goes role n s g.next (front ++ rest) (next_some role n g.next s not g.part)
    ∙ spans_from (role_behind s) g.next front rest m g.value
    (λ before r behind e. ap is_reference (sym (written_on role n g.next s before g.part)) ∙ clear (s ∷ before) r behind (ap (λ l. s ∷ l) e))
    (stops_on role n g.next s front m rest g.part stops)

ends_at : (d : Definition) (front : List Step) (n : Placed) (rest : List Step) → EndsAt d front n rest → StopsAt (role_at d.by_ref []) d.value front n rest
ends_at d front n [] h = tt
ends_at d front n (s ∷ rest) (inl is) = inl (ap is_reference (written_begins d front) ∙ is)
ends_at d front n (s ∷ rest) (inr none) = inr none

pub spans_stand : (d : Definition) (front rest : List Step) (n : Placed) → value_at d.value front ≡ Some n → NoneBefore d front → EndsAt d front n rest → span_below (role_at d.by_ref []) d.value (front ++ rest) ≡ span_of_value n
spans_stand d front rest n value none ends =
    spans_from (role_at d.by_ref []) d.value front rest n value
    (λ before s behind e. ap is_reference (written_begins d before) ∙ none before s behind e)
    (ends_at d front n rest ends)
