-- The reading of a group's name is exact: it is the path that the text spells.
use Rattle.std.proofs.Common.{◌≡◌, ◌≢◌, ℕ, ◌+◌, ◌-◌, Bool, true, false, ◌&&◌, List, [], ◌∷◌, ◌++◌, length, length-append, drop, take, map, Option, Some, None, inl, inr, refl, sym, ap, ap₂, ◌∙◌, subst, arith, cond, ◌==◌, codes}
use Rattle.std.specs.List.{list_all, slice_split}
use Rattle.std.specs.Prelude.{slice_range}
use Rattle.std.specs.Str.{bytes_eq}
use Rattle.std.proofs.lemmas.Bool.Decides.{nat_tests}
use Rattle.name_path.specs.Names.{AreNames}
use Rattle.name_path.specs.Reference.{escaped_step, pointer_text, path_text, curly_text, SpellsGroup}
use Rattle.name_path.proofs.Escaping.{all_escaped_lack}
use Rattle.name_path.proofs.Joins.{split_join, steps_join, pieces_of, some_piece}
use Rattle.name_path.proofs.Spellings.{names_plain}
use Rattle.token_tree.specs.Texts.{is_name, read_step, pointer_steps, curly_names, group_named}
use Rattle.token_tree.proofs.Names.{and_left, and_right, and_both, same_text, text_same, names_test, test_names}

pub is_byte : (b n : ℕ) → (b == n) ≡ true → b ≡ n
is_byte b n e = grind (arith, nat_tests)

-- a byte that begins no escape stands for itself
plain_step : (b : ℕ) (xs : List ℕ) → (b == 126) ≡ false → read_step (b ∷ xs) ≡ b ∷ read_step xs
plain_step b [] e = refl
plain_step b (c ∷ cs) e = ap (λ t. cond (t && (c == 48)) (126 ∷ read_step cs) (cond (t && (c == 49)) (47 ∷ read_step cs) (b ∷ read_step (c ∷ cs)))) e

pub step_again : (s : List ℕ) → read_step (escaped_step s) ≡ s
step_again [] = refl
step_again (b ∷ bs) =
    elim (b == 126) as (λ t. (b == 126) ≡ t → read_step (cond t (codes "~0") (cond (b == 47) (codes "~1") (b ∷ [])) ++ escaped_step bs) ≡ b ∷ bs) [
      | true ↦ λ e. ap (λ z. 126 ∷ z) (step_again bs) ∙ ap (λ k. k ∷ bs) (sym (is_byte b 126 e))
      | false ↦ λ e. elim (b == 47) as (λ t. (b == 47) ≡ t → read_step (cond t (codes "~1") (b ∷ []) ++ escaped_step bs) ≡ b ∷ bs) [
        | true ↦ λ f. ap (λ z. 47 ∷ z) (step_again bs) ∙ ap (λ k. k ∷ bs) (sym (is_byte b 47 f))
        | false ↦ λ f. plain_step b (escaped_step bs) e ∙ ap (λ z. b ∷ z) (step_again bs)
      ] refl
    ] refl

steps_again : (ss : List (List ℕ)) → map read_step (map escaped_step ss) ≡ ss
steps_again [] = refl
steps_again (s ∷ ss) = ap₂ (λ x y. x ∷ y) (step_again s) (steps_again ss)

pub pointer_again : (path : List (List ℕ)) → pointer_steps (pointer_text path) ≡ path
pointer_again [] = refl
pointer_again (s ∷ ss) =
    ap (λ z. map read_step (drop 1 (slice_split (λ b. b == 47) (35 ∷ z)))) (steps_join s ss)
    ∙ (ap (map read_step) (split_join 47 (escaped_step s) (map escaped_step ss) (all_escaped_lack (s ∷ ss)))
    ∙ steps_again (s ∷ ss))

take_front : (xs : List ℕ) (b n : ℕ) → n ≡ length xs → take n (xs ++ b ∷ []) ≡ xs
take_front [] b n e = rw e refl
take_front (x ∷ xs) b n e = rw e (ap (λ z. x ∷ z) (take_front xs b (length xs) refl))

pub curly_again : (path : List (List ℕ)) → (path ≢ []) → AreNames path → curly_names (curly_text path) ≡ path
curly_again path some names =
    let xs = path_text path in
    let long : length (xs ++ 125 ∷ []) ≡ length xs + 1 = length-append xs (125 ∷ []) in
    ap (slice_split (λ b. b == 46)) (take_front xs 125 _ (omega (arith, long))) ∙ pieces_of path (some, names_plain path names)

-- neither is the other
pointer_or_curly : (steps path : List (List ℕ)) → pointer_text steps ≡ curly_text path → ⊥
pointer_or_curly steps path e = (let h : ◌≡◌ {A = ℕ} 35 123 = cc in omega (arith, h))

fails : (b : Bool) → (b ≡ true → ⊥) → b ≡ false
fails true h = absurd (h refl)
fails false h = refl

-- one test, then another
choice : {A : Type 0} (a b : Bool) (x y : A) → a ≡ false → b ≡ true → cond a (Some x) (cond b (Some y) None) ≡ Some y
choice true b x y e f = cc
choice false true x y e f = refl
choice false false x y e f = cc

pub group_found : (text : List ℕ) (path : List (List ℕ)) → SpellsGroup text path → group_named text ≡ Some path
group_found text path (names, inl e) =
    let steps : pointer_steps text ≡ path = ap pointer_steps e ∙ pointer_again path in
    let all : list_all is_name (pointer_steps text) ≡ true = ap (list_all is_name) steps ∙ names_test path names in
    let spelled : bytes_eq text (pointer_text (pointer_steps text)) ≡ true = text_same text _ (e ∙ sym (ap pointer_text steps)) in
    ap (λ t. cond t (Some (pointer_steps text)) (cond (list_all is_name (curly_names text) && bytes_eq text (curly_text (curly_names text))) (Some (curly_names text)) None)) (and_both _ _ all spelled)
    ∙ ap Some steps
group_found text path (names, inr (some, e)) =
    let inner : curly_names text ≡ path = ap curly_names e ∙ curly_again path some names in
    let all : list_all is_name (curly_names text) ≡ true = ap (list_all is_name) inner ∙ names_test path names in
    let spelled : bytes_eq text (curly_text (curly_names text)) ≡ true = text_same text _ (e ∙ sym (ap curly_text inner)) in
    choice _ _ (pointer_steps text) (curly_names text)
    (fails _ (λ t. pointer_or_curly (pointer_steps text) path (sym (same_text text _ (and_right (list_all is_name (pointer_steps text)) _ t)) ∙ e)))
    (and_both _ _ all spelled)
    ∙ ap Some inner

pub group_spelled : (text : List ℕ) (path : List (List ℕ)) → group_named text ≡ Some path → SpellsGroup text path
group_spelled text path e = first (list_all is_name (pointer_steps text) && bytes_eq text (pointer_text (pointer_steps text))) refl e
  where
    second : (b : Bool) → (list_all is_name (curly_names text) && bytes_eq text (curly_text (curly_names text))) ≡ b → cond b (Some (curly_names text)) None ≡ Some path → SpellsGroup text path
    second true t f =
        let h : curly_names text ≡ path = cc in
        let names = test_names (curly_names text) (and_left (list_all is_name (curly_names text)) (bytes_eq text (curly_text (curly_names text))) t) in
        subst (SpellsGroup text) h (names, inr (some_piece 46 (slice_range text 1 (length text - 1)), same_text text (curly_text (curly_names text)) (and_right (list_all is_name (curly_names text)) (bytes_eq text (curly_text (curly_names text))) t)))
    second false t f = cc

    first : (b : Bool) → (list_all is_name (pointer_steps text) && bytes_eq text (pointer_text (pointer_steps text))) ≡ b
        → cond b (Some (pointer_steps text)) (cond (list_all is_name (curly_names text) && bytes_eq text (curly_text (curly_names text))) (Some (curly_names text)) None) ≡ Some path → SpellsGroup text path
    first true t f =
        let h : pointer_steps text ≡ path = cc in
        let names = test_names (pointer_steps text) (and_left (list_all is_name (pointer_steps text)) (bytes_eq text (pointer_text (pointer_steps text))) t) in
        subst (SpellsGroup text) h (names, inl (same_text text (pointer_text (pointer_steps text)) (and_right (list_all is_name (pointer_steps text)) (bytes_eq text (pointer_text (pointer_steps text))) t)))
    first false t f = second (list_all is_name (curly_names text) && bytes_eq text (curly_text (curly_names text))) refl f

pub no_group : (text : List ℕ) → ((path : List (List ℕ)) → SpellsGroup text path → ⊥) → None ≡ group_named text
no_group text h = none (group_named text) refl
  where
    none : (o : Option (List (List ℕ))) → group_named text ≡ o → None ≡ group_named text
    none None e = sym e
    none (Some path) e = absurd (h path (group_spelled text path e))
