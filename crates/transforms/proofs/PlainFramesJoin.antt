-- In a frame with nothing between bodies they stand one after another.
use Rattle.std.proofs.Common.{◌≡◌, ℕ, List, [], ◌∷◌, ◌++◌, map, map-id, flat_map, refl, sym, ◌∙◌, ap}
use Rattle.transforms.specs.Sheet.{sheet_text, plain_frame, PlainFramesJoin}

glued_texts : {A : Type 0} (f : A → List ℕ) (xs : List A) → flat_map (λ next. [] ++ next) (map f xs) ≡ flat_map f xs
glued_texts f [] = refl
glued_texts f (x ∷ xs) = ap (λ t. f x ++ t) (glued_texts f xs)

pub framed : (head tail : List ℕ) {A : Type 0} (f : A → List ℕ) (xs : List A) → sheet_text (plain_frame head tail) (map f xs) ≡ head ++ (flat_map f xs ++ tail)
framed head tail f [] = refl
framed head tail f (x ∷ xs) = ap (λ t. head ++ ((f x ++ t) ++ tail)) (glued_texts f xs)

pub plain_frames_join : PlainFramesJoin
plain_frames_join head tail bodies = ap (sheet_text (plain_frame head tail)) (sym (map-id bodies)) ∙ framed head tail (λ body. body) bodies
