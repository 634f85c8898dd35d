-- Bodies with glue between: several of them, added to a sheet as one, are what they are one by one.
use Rattle.std.proofs.Common.{◌≡◌, true, List, ℕ, [], ◌∷◌, ◌++◌, refl, sym, ap, ◌∙◌, flat_map}
use Rattle.std.proofs.lemmas.Grind.{flat_map-append}
use Rattle.std.proofs.lemmas.List.{append-nil, append_assoc}
use Rattle.transforms.specs.Sheet.{FrameData, Gains, Holds, OpenSheet, are_some, glued}

-- one body more
pub glued_push : (glue : List ℕ) (bodies : List (List ℕ)) (body : List ℕ) → are_some bodies ≡ true
    → glued glue (bodies ++ body ∷ []) ≡ glued glue bodies ++ (glue ++ body)
glued_push glue [] body some = absurd (cc)
glued_push glue (first ∷ rest) body some =
    ap (λ t. first ++ t) (flat_map-append (λ next. glue ++ next) rest (body ∷ []) ∙ ap (λ t. flat_map (λ next. glue ++ next) rest ++ t) (append-nil (glue ++ body)))
    ∙ sym (append_assoc first (flat_map (λ next. glue ++ next) rest) (glue ++ body))

-- several that stand as one
glued_all : (glue : List ℕ) (old bodies : List (List ℕ)) (body : List ℕ) → are_some bodies ≡ true → body ≡ glued glue bodies
    → glued glue (old ++ body ∷ []) ≡ glued glue (old ++ bodies)
glued_all glue [] bodies body some is = append-nil body ∙ is
glued_all glue (first ∷ rest) [] body some is = absurd (cc)
glued_all glue (first ∷ rest) (next ∷ bodies) body some is =
    let f = λ (t : List ℕ). glue ++ t in
    ap (λ t. first ++ t)
    (flat_map-append f rest (body ∷ [])
    ∙ (ap (λ t. flat_map f rest ++ t) (append-nil (glue ++ body) ∙ (ap (λ t. glue ++ t) is ∙ sym (append_assoc glue next (flat_map f bodies))))
    ∙ sym (flat_map-append f rest (next ∷ bodies))))

some_too : (old bodies : List (List ℕ)) (body : List ℕ) → are_some bodies ≡ true → are_some (old ++ body ∷ []) ≡ are_some (old ++ bodies)
some_too [] bodies body some = sym some
some_too (first ∷ rest) bodies body some = refl

pub gains_all : (before after : OpenSheet) (body : List ℕ) (frame : FrameData) (old bodies : List (List ℕ)) → Gains before after body → are_some bodies ≡ true
    → body ≡ glued frame.glue bodies → Holds before frame old → Holds after frame (old ++ bodies)
gains_all before after body frame old bodies gains some is holds =
    let h = gains frame old holds in
    record {
      frame_is = h.frame_is;
      text_is = h.text_is ∙ ap (λ t. frame.head ++ t) (glued_all frame.glue old bodies body some is);
      has_body_is = h.has_body_is ∙ some_too old bodies body some;
    }
