use Rattle.std.proofs.Common.{◌≡◌, ℕ, ◌+◌, ◌<◌, ◌≤◌, List, [], ◌∷◌, ◌++◌, refl, sym, ap, ◌∙◌, subst, append_assoc, length, get_or, take, drop, drop-cons, add-one}
use Rattle.std.proofs.lemmas.List.{take-append-drop, drop_all}
use Rattle.std.proofs.Common.{inl, inr}
use Rattle.std.proofs.lemmas.Bool.{cases_lt}
use Rattle.ring.specs.Lists.{In}
use Rattle.ring.specs.inner.Stack.{nodes, IsEndFrom}
use Rattle.ring.specs.declared.search.Frame.{Frame}

nodes_append : (xs ys : List Frame) → nodes (xs ++ ys) ≡ nodes xs ++ nodes ys
nodes_append [] ys = refl
nodes_append (f ∷ fs) ys = ap (λ (vs : List ℕ). f.node ∷ vs) (nodes_append fs ys)

nodes_drop : (fs : List Frame) (i : ℕ) (d : Frame) → i < length fs → nodes (drop i fs) ≡ (get_or fs i d).node ∷ nodes (drop (i + 1) fs)
nodes_drop fs i d h = rw (add-one) (ap nodes (drop-cons fs i d h))

nodes_past : (fs : List Frame) (i : ℕ) → length fs ≤ i → nodes (drop i fs) ≡ []
nodes_past fs i h = ap nodes (drop_all i fs h)

append_nil : (xs : List ℕ) → xs ++ [] ≡ xs
append_nil [] = refl
append_nil (x ∷ xs) = ap (λ ys. x ∷ ys) (append_nil xs)

-- a node that is sought stands in the frames that are left
pub is_left : (fs : List Frame) (i : ℕ) (v : ℕ) → In v (nodes (drop i fs)) → i < length fs
is_left fs i v h = elim (cases_lt i (length fs)) [ inl j ↦ j | inr j ↦ absurd (subst (In v) (nodes_past fs i j) h) ]

pub one_more : (fs : List Frame) (i : ℕ) (d : Frame) (old new all : List ℕ) → i < length fs → old ++ nodes (drop i fs) ≡ all → new ≡ old ++ (get_or fs i d).node ∷ [] → new ++ nodes (drop (i + 1) fs) ≡ all
one_more fs i d old new all h inv made =
    let v = (get_or fs i d).node in
    ap (λ (vs : List ℕ). vs ++ nodes (drop (i + 1) fs)) made ∙ (append_assoc old (v ∷ []) (nodes (drop (i + 1) fs)) ∙ (ap (λ (vs : List ℕ). old ++ vs) (sym (nodes_drop fs i d h)) ∙ inv))

pub is_from : (fs : List Frame) (at i v : ℕ) (d : Frame) (ring : List ℕ) → In v (nodes (drop at fs)) → (get_or fs at d).node ≡ v → ring ++ nodes (drop i fs) ≡ nodes (drop at fs) → length fs ≤ i → IsEndFrom v (nodes fs) ring
is_from fs at i v d ring h n inv over =
    let whole : ring ≡ nodes (drop at fs) = sym (append_nil ring) ∙ (ap (λ (vs : List ℕ). ring ++ vs) (sym (nodes_past fs i over)) ∙ inv) in
    record {
      before = nodes (take at fs);
      rest = nodes (drop (at + 1) fs);
      whole = ap nodes (sym (take-append-drop at fs)) ∙ (nodes_append (take at fs) (drop at fs) ∙ ap (λ (vs : List ℕ). nodes (take at fs) ++ vs) (sym whole));
      begins = whole ∙ (nodes_drop fs at d (is_left fs at v h) ∙ ap (λ (x : ℕ). x ∷ nodes (drop (at + 1) fs)) n);
    }
