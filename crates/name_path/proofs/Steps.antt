-- Steps that are read one after another, and what is left of a segment.
use Rattle.std.proofs.Common.{◌≡◌, ◌≢◌, ℕ, suc, ◌+◌, ◌<◌, List, [], ◌∷◌, ◌++◌, refl, sym, ap, ap₂, ◌∙◌, subst, append_assoc, length, take, get_or, map, All, arith, ◌==◌, ◌-◌, drop, length-drop, drop-cons, add-one}
use Rattle.std.specs.List.{slice_split, join_with_byte}
use Rattle.std.proofs.lemmas.List.{take-append-drop, take_more, take_all, length-map, get_or-map}
use Rattle.std.proofs.lemmas.List.Elements.{All-get_or, All-cons, All-nil, All-tail}
use Rattle.std.proofs.lemmas.List.Splits.{join_with_byte-slice_split}
use Rattle.name_path.specs.Reference.{escaped_step, pointer_text, curly_text, path_text}
use Rattle.name_path.specs.inner.Pieces.{EachLacks, ArePlain}
use Rattle.name_path.proofs.Escaping.{spelled_left, no_spelling, spells_itself, escaped_append, all_escaped_lack}
use Rattle.name_path.proofs.Joins.{steps_join, split_join, some_piece, pieces_of, inside_one}

pub lacks_at : (c : ℕ) (segments : List (List ℕ)) (i : ℕ) (segment : List ℕ) → i < length segments → segment ≡ get_or segments i segment → EachLacks c segments → All (λ b. b ≢ c) segment
lacks_at c segments i segment h is each = subst (All (λ b. b ≢ c)) (sym is) (All-get_or (All (λ b. b ≢ c)) segments i segment h each)

-- a step that a segment spells
pub spelled_at : (segments steps : List (List ℕ)) (i : ℕ) (segment : List ℕ) → i < length segments → segment ≡ get_or segments i segment → segments ≡ map escaped_step steps → segment ≡ escaped_step (get_or steps i [])
spelled_at segments steps i segment h is e =
    let less : i < length steps = omega (arith, h, ap length e, length-map steps escaped_step) in
    is ∙ (ap (λ (xs : List (List ℕ)). get_or xs i segment) e ∙ get_or-map escaped_step steps i [] segment less)

pub map_more : (xs : List (List ℕ)) (x : List ℕ) → map escaped_step (xs ++ x ∷ []) ≡ map escaped_step xs ++ escaped_step x ∷ []
map_more [] x = refl
map_more (y ∷ ys) x = ap (λ (zs : List (List ℕ)). escaped_step y ∷ zs) (map_more ys x)

pub step_added : (segments : List (List ℕ)) (i : ℕ) (segment : List ℕ) (steps new : List (List ℕ)) (step : List ℕ) → i < length segments → segment ≡ get_or segments i segment
    → map escaped_step steps ≡ take i segments → new ≡ steps ++ step ∷ [] → segment ≡ escaped_step step → map escaped_step new ≡ take (i + 1) segments
step_added segments i segment steps new step h is so_far made spelled =
    ap (map escaped_step) made
    ∙ (map_more steps step
    ∙ (ap₂ (λ (xs : List (List ℕ)) (x : List ℕ). xs ++ x ∷ []) so_far (sym spelled ∙ is) ∙ sym (take_more segments i segment h)))

module _ (segment step left plain behind : List ℕ) where
  -- a '~' that begins no escape
  pub no_step : escaped_step step ++ left ≡ segment → left ≡ plain ++ 126 ∷ behind → All (λ b. b ≢ 47) plain → All (λ b. b ≢ 126) plain
      → ((rest : List ℕ) → (behind ≢ 48 ∷ rest) × (behind ≢ 49 ∷ rest)) → (other : List ℕ) → segment ≡ escaped_step other → ⊥
  no_step whole cut no_slash no_tilde none other e =
      let first = spelled_left step other left (whole ∙ e) in
      let second = spelled_left plain first.rest (126 ∷ behind) (ap (λ (z : List ℕ). z ++ 126 ∷ behind) (spells_itself plain no_slash no_tilde) ∙ (sym cut ∙ first.spelled)) in
      no_spelling behind second.rest second.spelled none

  module _ (between new meant rest : List ℕ) where
    -- an escape was read
    pub escape_read : escaped_step step ++ left ≡ segment → left ≡ plain ++ 126 ∷ behind → All (λ b. b ≢ 47) plain → All (λ b. b ≢ 126) plain
        → 126 ∷ behind ≡ escaped_step meant ++ rest → between ≡ step ++ plain → new ≡ between ++ meant → escaped_step new ++ rest ≡ segment
    escape_read whole cut no_slash no_tilde spelled first second =
        ap (λ (z : List ℕ). escaped_step z ++ rest) (second ∙ ap (λ (z : List ℕ). z ++ meant) first)
        ∙ (ap (λ (z : List ℕ). z ++ rest) (escaped_append (step ++ plain) meant ∙ ap (λ (z : List ℕ). z ++ escaped_step meant) (escaped_append step plain))
        ∙ (append_assoc (escaped_step step ++ escaped_step plain) (escaped_step meant) rest
        ∙ (append_assoc (escaped_step step) (escaped_step plain) (escaped_step meant ++ rest)
        ∙ (ap₂ (λ (a b : List ℕ). escaped_step step ++ (a ++ b)) (spells_itself plain no_slash no_tilde) (sym spelled)
        ∙ (ap (λ (z : List ℕ). escaped_step step ++ z) (sym cut) ∙ whole)))))

pub all_front : (P : ℕ → Type 0) (xs ys zs : List ℕ) → zs ≡ xs ++ ys → All P zs → All P xs
all_front P xs ys zs e h = front xs ys (subst (All P) e h)
  where
    front : (us vs : List ℕ) → All P (us ++ vs) → All P us
    front [] vs k = All-nil P
    front (u ∷ us) vs k = All-cons P u us (k 0 u (omega (arith))) (front us vs (All-tail P u (us ++ vs) k))

-- the rest after an escape is shorter, and has no '/'
pub all_back : (P : ℕ → Type 0) (xs ys zs : List ℕ) → zs ≡ xs ++ ys → All P zs → All P ys
all_back P xs ys zs e h = back xs (subst (All P) e h)
  where
    back : (us : List ℕ) → All P (us ++ ys) → All P ys
    back [] k = k
    back (u ∷ us) k = back us (All-tail P u (us ++ ys) k)

-- the steps of a pointer are what the pieces after the first '/' spell
pointer_join : (steps : List (List ℕ)) → pointer_text steps ≡ join_with_byte 47 ((35 ∷ []) ∷ map escaped_step steps)
pointer_join [] = refl
pointer_join (x ∷ xs) = ap (λ (z : List ℕ). 35 ∷ z) (steps_join x xs)

pointer_pieces : (steps : List (List ℕ)) → slice_split (λ b. b == 47) (pointer_text steps) ≡ (35 ∷ []) ∷ map escaped_step steps
pointer_pieces steps =
    ap (slice_split (λ b. b == 47)) (pointer_join steps)
    ∙ split_join 47 (35 ∷ []) (map escaped_step steps)
    (All-cons (λ text. All (λ b. b ≢ 47) text) (35 ∷ []) (map escaped_step steps) (All-cons (λ b. b ≢ 47) 35 [] (λ h. omega arith) (All-nil (λ b. b ≢ 47))) (all_escaped_lack steps))

module _ (text first : List ℕ) (segments : List (List ℕ)) where
  pub steps_found : (steps : List (List ℕ)) → slice_split (λ b. b == 47) text ≡ first ∷ segments → first ≡ 35 ∷ [] → segments ≡ map escaped_step steps → text ≡ pointer_text steps
  steps_found steps s f m =
      sym (join_with_byte-slice_split 47 text)
      ∙ (ap (join_with_byte 47) (s ∙ ap₂ (λ (x : List ℕ) (xs : List (List ℕ)). x ∷ xs) f m) ∙ sym (pointer_join steps))

  pub no_steps : slice_split (λ b. b == 47) text ≡ first ∷ segments → ((steps : List (List ℕ)) → segments ≢ map escaped_step steps) → (steps : List (List ℕ)) → text ≢ pointer_text steps
  no_steps s none steps e =
      let k : first ∷ segments ≡ (35 ∷ []) ∷ map escaped_step steps = sym s ∙ (ap (slice_split (λ b. b == 47)) e ∙ pointer_pieces steps) in
      let t : segments ≡ map escaped_step steps = cc in
      none steps t

  pub no_mark : slice_split (λ b. b == 47) text ≡ first ∷ segments → first ≢ 35 ∷ [] → (steps : List (List ℕ)) → text ≢ pointer_text steps
  no_mark s other steps e =
      let k : first ∷ segments ≡ (35 ∷ []) ∷ map escaped_step steps = sym s ∙ (ap (slice_split (λ b. b == 47)) e ∙ pointer_pieces steps) in
      let t : first ≡ 35 ∷ [] = cc in
      other t

module _ (text inside : List ℕ) (path : List (List ℕ)) where
  pub curly_found : text ≡ 123 ∷ (inside ++ 125 ∷ []) → path ≡ slice_split (λ b. b == 46) inside → (path ≢ []) × (text ≡ curly_text path)
  curly_found e s = (
    (λ n. some_piece 46 inside (sym s ∙ n)),
    e ∙ ap (λ (z : List ℕ). 123 ∷ (z ++ 125 ∷ [])) (sym (join_with_byte-slice_split 46 inside) ∙ ap (join_with_byte 46) (sym s)),
  )

  pub curly_one : text ≡ 123 ∷ (inside ++ 125 ∷ []) → path ≡ slice_split (λ b. b == 46) inside → (other : List (List ℕ)) → ArePlain other → text ≡ curly_text other → other ≡ path
  curly_one e s other p f =
      sym (pieces_of other p) ∙ (ap (slice_split (λ b. b == 46)) (inside_one (path_text other) inside (sym f ∙ e)) ∙ sym s)

-- a list around one of its items
pub around_at : (xs : List (List ℕ)) (i : ℕ) (v d : List ℕ) → i < length xs → d ≡ get_or xs i d → d ≡ v → xs ≡ take i xs ++ v ∷ take (length xs - (i + 1)) (drop (i + 1) xs)
around_at xs i v d h is e =
    let all : take (length xs - (i + 1)) (drop (i + 1) xs) ≡ drop (i + 1) xs = take_all (length xs - (i + 1)) (drop (i + 1) xs) (omega (arith, length-drop (i + 1) xs)) in
    sym (take-append-drop i xs)
    ∙ (ap (λ (z : List (List ℕ)). take i xs ++ z) (drop-cons xs i d h ∙ ap (λ (z : List ℕ). z ∷ drop (suc i) xs) (sym is ∙ e))
    ∙ (ap (λ (k : ℕ). take i xs ++ v ∷ drop k xs) (sym (add-one i)) ∙ ap (λ (z : List (List ℕ)). take i xs ++ v ∷ z) (sym all)))
