-- How many links follow one another.
use Rattle.std.specs.Prelude.{◌≡◌, ℕ, suc, List, [], ◌∷◌, Some}
use Rattle.name_path.specs.declared.place.Place.{Place}
use Rattle.json_span.specs.PlainView.{Value}
use Rattle.alias_ref.specs.Written.{Step, Container, leaf, parts, refers, WrittenPlaces, whole, part}

mutual
  -- from this place at most n references without steps follow one another
  pub data LinkDepth (T : WrittenPlaces) : ℕ → Place → Type 0 where
    depth_leaf : {n : ℕ} {p : Place} {v : Value} → T p ≡ Some (leaf v) → LinkDepth T n p
    depth_steps : {n : ℕ} {p : Place} {token : List Step} {s : Step} {steps : List Step} → T p ≡ Some (refers token (s ∷ steps)) → LinkDepth T n p
    depth_link : {n : ℕ} {p : Place} {token : List Step} → T p ≡ Some (refers token []) → LinkDepth T n (whole token) → LinkDepth T (suc n) p
    depth_parts : {n : ℕ} {p : Place} {c : Container} {steps : List Step} → T p ≡ Some (parts c steps) → EachDepth T n p steps → LinkDepth T n p

  pub data EachDepth (T : WrittenPlaces) : ℕ → Place → List Step → Type 0 where
    depth_none : {n : ℕ} {p : Place} → EachDepth T n p []
    depth_more : {n : ℕ} {p : Place} {s : Step} {steps : List Step} → LinkDepth T n (part p s) → EachDepth T n p steps → EachDepth T n p (s ∷ steps)
