-- The readings of aliases and pointers are exact: the path or place is the one that the text spells.
use Rattle.std.proofs.Common.{◌≡◌, ◌≢◌, ℕ, ◌+◌, Bool, true, false, ◌&&◌, ◌||◌, List, [], ◌∷◌, ◌++◌, length, length-append, take, Option, Some, None, ◌⊎◌, inl, inr, refl, sym, ap, ◌∙◌, subst, arith, cond, ◌==◌}
use Rattle.std.specs.List.{slice_split}
use Rattle.std.specs.Str.{bytes_eq}
use Rattle.std.proofs.lemmas.List.Elements.{All-nil, All-cons, All-head, All-tail}
use Rattle.name_path.specs.Names.{IsName, AreNames, IsTokenPath, root_name}
use Rattle.name_path.specs.inner.Pieces.{ArePlain, IsValueCut}
use Rattle.name_path.specs.Reference.{pointer_text, path_text, curly_text, value_step, SpellsPath, SpellsPlace}
use Rattle.name_path.specs.declared.place.Place.{Place}
use Rattle.name_path.proofs.Joins.{pieces_of}
use Rattle.name_path.proofs.Spellings.{token_plain, one_place, place_found, no_place}
use Rattle.token_tree.specs.Texts.{is_name, pointer_steps, curly_names}
use Rattle.token_tree.proofs.Names.{and_left, and_right, and_both, same_text, text_same, name_test, test_name}
use Rattle.token_tree.proofs.Targets.{pointer_again}
use Rattle.alias_ref.specs.References.{is_token_path, alias_named, before_value, behind_value, place_named}

either_true : (a b : Bool) → (a || b) ≡ true → (a ≡ true) ⊎ (b ≡ true)
either_true true b e = inl refl
either_true false b e = inr e

or_right : (a b : Bool) → b ≡ true → (a || b) ≡ true
or_right true b e = refl
or_right false b e = e

last_test : (name : List ℕ) → IsName name ⊎ (name ≡ root_name) → (is_name name || bytes_eq name root_name) ≡ true
last_test name (inl is) = ap (λ b. b || bytes_eq name root_name) (name_test name is)
last_test name (inr is) = or_right (is_name name) (bytes_eq name root_name) (text_same name root_name is)

test_last : (name : List ℕ) → (is_name name || bytes_eq name root_name) ≡ true → IsName name ⊎ (name ≡ root_name)
test_last name e = elim (either_true (is_name name) (bytes_eq name root_name) e) [
  | inl h ↦ inl (test_name name h)
  | inr h ↦ inr (same_text name root_name h)
]

front_test : (front : List (List ℕ)) (last : List ℕ) → AreNames front → IsName last ⊎ (last ≡ root_name) → is_token_path (front ++ last ∷ []) ≡ true
front_test [] last names ends = last_test last ends
front_test (n ∷ []) last names ends = and_both (is_name n) _ (name_test n (All-head IsName n [] names)) (last_test last ends)
front_test (n ∷ m ∷ front) last names ends =
    and_both (is_name n) _ (name_test n (All-head IsName n (m ∷ front) names)) (front_test (m ∷ front) last (All-tail IsName n (m ∷ front) names) ends)

path_test : (path : List (List ℕ)) → IsTokenPath path → is_token_path path ≡ true
path_test path t = ap is_token_path t.whole ∙ front_test t.front t.last t.names t.ends

pub test_path : (path : List (List ℕ)) → is_token_path path ≡ true → IsTokenPath path
test_path [] e = absurd (cc)
test_path (n ∷ []) e = record { front = []; last = n; whole = refl; names = All-nil IsName; ends = test_last n e }
test_path (n ∷ m ∷ path) e =
    let t = test_path (m ∷ path) (and_right (is_name n) _ e) in
    record {
      front = n ∷ t.front;
      last = t.last;
      whole = ap (λ (z : List (List ℕ)). n ∷ z) t.whole;
      names = All-cons IsName n t.front (test_name n (and_left (is_name n) _ e)) t.names;
      ends = t.ends;
    }

take_front : (xs : List ℕ) (b n : ℕ) → n ≡ length xs → take n (xs ++ b ∷ []) ≡ xs
take_front [] b n e = rw e refl
take_front (x ∷ xs) b n e = rw e (ap (λ z. x ∷ z) (take_front xs b (length xs) refl))

curly_again : (path : List (List ℕ)) → ArePlain path → curly_names (curly_text path) ≡ path
curly_again path plain =
    let xs = path_text path in
    let long : length (xs ++ 125 ∷ []) ≡ length xs + 1 = length-append xs (125 ∷ []) in
    ap (slice_split (λ b. b == 46)) (take_front xs 125 _ (omega (arith, long))) ∙ pieces_of path plain

pub alias_found : (text : List ℕ) (path : List (List ℕ)) → SpellsPath text path → alias_named text ≡ Some path
alias_found text path (token, e) =
    let inner : curly_names text ≡ path = ap curly_names e ∙ curly_again path (token_plain path token) in
    let names : is_token_path (curly_names text) ≡ true = ap is_token_path inner ∙ path_test path token in
    let same : bytes_eq text (curly_text (curly_names text)) ≡ true = text_same text _ (e ∙ sym (ap curly_text inner)) in
    ap (λ t. cond t (Some (curly_names text)) None) (and_both _ _ names same) ∙ ap Some inner

pub alias_spelled : (text : List ℕ) (path : List (List ℕ)) → alias_named text ≡ Some path → SpellsPath text path
alias_spelled text path e = go (is_token_path (curly_names text) && bytes_eq text (curly_text (curly_names text))) refl e
  where
    go : (b : Bool) → (is_token_path (curly_names text) && bytes_eq text (curly_text (curly_names text))) ≡ b → cond b (Some (curly_names text)) None ≡ Some path → SpellsPath text path
    go true t f =
        let h : curly_names text ≡ path = cc in
        subst (SpellsPath text) h (test_path (curly_names text) (and_left _ (bytes_eq text (curly_text (curly_names text))) t), same_text text (curly_text (curly_names text)) (and_right (is_token_path (curly_names text)) _ t))
    go false t f = absurd (cc)

-- the steps before `$value` and after it are a cut
cut_value : (steps : List (List ℕ)) → IsValueCut steps (before_value steps) (behind_value steps)
cut_value [] = (All-nil (λ t. t ≢ value_step), inr (refl, refl))
cut_value (s ∷ steps) = go (bytes_eq s value_step) refl (cut_value steps)
  where
    go : (b : Bool) → bytes_eq s value_step ≡ b → IsValueCut steps (before_value steps) (behind_value steps) → IsValueCut (s ∷ steps) (cond b [] (s ∷ before_value steps)) (cond b steps (behind_value steps))
    go true e c = (All-nil (λ t. t ≢ value_step), inl (ap (λ (z : List ℕ). z ∷ steps) (same_text s value_step e)))
    go false e c = (
      All-cons (λ t. t ≢ value_step) s (before_value steps) (λ h. let k : true ≡ false = sym (text_same s value_step h) ∙ e in cc) c.0,
      elim c.1 [
        | inl h ↦ inl (ap (λ (z : List (List ℕ)). s ∷ z) h)
        | inr h ↦ inr (ap (λ (z : List (List ℕ)). s ∷ z) h.0, h.1)
      ],
    )

spelled_steps : (text : List ℕ) (place : Place) → SpellsPlace text place → text ≡ pointer_text (pointer_steps text)
spelled_steps text place (token, inl e) = e ∙ sym (ap (λ t. pointer_text (pointer_steps t)) e ∙ ap pointer_text (pointer_again (place.token ++ value_step ∷ place.trail)))
spelled_steps text place (token, inr (none, e)) = e ∙ sym (ap (λ t. pointer_text (pointer_steps t)) e ∙ ap pointer_text (pointer_again place.token))

pub pointer_found : (text : List ℕ) (place : Place) → SpellsPlace text place → place_named text ≡ Some place
pointer_found text place s = go (is_token_path (before_value (pointer_steps text))) refl
  where
    steps : List (List ℕ)
    steps = pointer_steps text

    read : Place
    read = record { token = before_value (pointer_steps text); trail = behind_value (pointer_steps text) }

    go : (b : Bool) → is_token_path (before_value (pointer_steps text)) ≡ b → cond (b && bytes_eq text (pointer_text (pointer_steps text))) (Some read) None ≡ Some place
    go true e =
        let is = spelled_steps text place s in
        let found : SpellsPlace text read = place_found text (pointer_steps text) (before_value (pointer_steps text)) (behind_value (pointer_steps text)) is (cut_value (pointer_steps text)) (test_path (before_value (pointer_steps text)) e) in
        ap (λ t. cond t (Some read) None) (text_same text (pointer_text (pointer_steps text)) is) ∙ ap Some (one_place text read place found s)
    go false e =
        let not : IsTokenPath (before_value (pointer_steps text)) → ⊥ = λ t. let k : true ≡ false = sym (path_test (before_value (pointer_steps text)) t) ∙ e in cc in
        absurd (no_place text (pointer_steps text) (before_value (pointer_steps text)) (behind_value (pointer_steps text)) (spelled_steps text place s) (cut_value (pointer_steps text)) not place s)

pub pointer_spelled : (text : List ℕ) (place : Place) → place_named text ≡ Some place → SpellsPlace text place
pointer_spelled text place e = go (is_token_path (before_value (pointer_steps text)) && bytes_eq text (pointer_text (pointer_steps text))) refl e
  where
    read : Place
    read = record { token = before_value (pointer_steps text); trail = behind_value (pointer_steps text) }

    go : (b : Bool) → (is_token_path (before_value (pointer_steps text)) && bytes_eq text (pointer_text (pointer_steps text))) ≡ b → cond b (Some read) None ≡ Some place → SpellsPlace text place
    go true t f =
        let h : read ≡ place = ap (λ (o : Option Place). option_place o) f in
        subst (SpellsPlace text) h
        (place_found text (pointer_steps text) (before_value (pointer_steps text)) (behind_value (pointer_steps text)) (same_text text (pointer_text (pointer_steps text)) (and_right (is_token_path (before_value (pointer_steps text))) _ t)) (cut_value (pointer_steps text))
        (test_path (before_value (pointer_steps text)) (and_left _ (bytes_eq text (pointer_text (pointer_steps text))) t)))
      where
        option_place : Option Place → Place
        option_place (Some p) = p
        option_place None = read
    go false t f = absurd (cc)

none_of : {A : Type 0} (o : Option A) → ((x : A) → o ≡ Some x → ⊥) → o ≡ None
none_of None h = refl
none_of (Some x) h = absurd (h x refl)

pub no_alias : (text : List ℕ) → ((path : List (List ℕ)) → SpellsPath text path → ⊥) → alias_named text ≡ None
no_alias text h = none_of (alias_named text) (λ path e. h path (alias_spelled text path e))

pub no_pointer : (text : List ℕ) → ((place : Place) → SpellsPlace text place → ⊥) → place_named text ≡ None
no_pointer text h = none_of (place_named text) (λ place e. h place (pointer_spelled text place e))
