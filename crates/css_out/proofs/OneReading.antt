-- A value, a block and a sheet have one reading at most.
use Rattle.std.proofs.Common.{◌≡◌, ℕ, List, [], ◌∷◌, ◌++◌, refl, sym, ◌∙◌, ap, subst}
use Rattle.std.proofs.lemmas.List.{append_cancel_left, append_cancel_right}
use Rattle.css_out.specs.Piece.{Piece}
use Rattle.css_out.specs.Reading.{stop, skip, take, step, Pieces, stops, skips, takes, colon, Colon, meets, misses, Declared, over, pass, names, turn, tail, Block, ended, passes, declared, Reads, head, foot}

after_stop : {t : List ℕ} {qs : List Piece} {v : List ℕ} → Pieces t qs v → step t ≡ stop → ([] ≡ qs) × (t ≡ v)
after_stop (stops t f) e = (refl, refl)
after_stop (skips t s ps u f x) e = cc
after_stop (takes t s p ps u f x) e = cc

after_skip : {t : List ℕ} {qs : List Piece} {v : List ℕ} → Pieces t qs v → (r : List ℕ) → step t ≡ skip r → Pieces r qs v
after_skip (stops t f) r e = cc
after_skip (skips t s ps u f x) r e = let same : s ≡ r = cc in let P : List ℕ → Type 0 = λ z. Pieces z ps u in subst P same x
after_skip (takes t s p ps u f x) r e = cc

after_take : {t : List ℕ} {qs : List Piece} {v : List ℕ} → Pieces t qs v → (q : Piece) (r : List ℕ) → step t ≡ take q r → (rs : List Piece) × (qs ≡ q ∷ rs) × Pieces r rs v
after_take (stops t f) q r e = cc
after_take (skips t s ps u f x) q r e = cc
after_take (takes t s p ps u f x) q r e =
    let same : s ≡ r = cc in let one : p ≡ q = cc in let P : List ℕ → Type 0 = λ z. Pieces z ps u in (ps, ap (λ z. z ∷ ps) one, subst P same x)

pub pieces_once : {t : List ℕ} {ps : List Piece} {u : List ℕ} → Pieces t ps u → {qs : List Piece} {v : List ℕ} → Pieces t qs v → (ps ≡ qs) × (u ≡ v)
pieces_once (stops t e) y = after_stop y e
pieces_once (skips t s ps u e x) y = pieces_once x (after_skip y s e)
pieces_once (takes t s p ps u e x) y = let more = after_take y p s e in let again = pieces_once x more.2 in
    (ap (λ z. p ∷ z) again.0 ∙ sym more.1, again.1)

-- what stands between a name and its value
behind_stop : {t u : List ℕ} → Colon t u → colon t ≡ stop → tail t ≡ u
behind_stop (meets t f) e = refl
behind_stop (misses t s u f x) e = cc

behind_skip : {t u : List ℕ} → Colon t u → (r : List ℕ) → colon t ≡ skip r → Colon r u
behind_skip (meets t f) r e = cc
behind_skip (misses t s u f x) r e = let same : s ≡ r = cc in let P : List ℕ → Type 0 = λ z. Colon z u in subst P same x

colon_once : {t u : List ℕ} → Colon t u → {v : List ℕ} → Colon t v → u ≡ v
colon_once (meets t e) y = behind_stop y e
colon_once (misses t s u e x) y = colon_once x (behind_skip y s e)

at_end : {t : List ℕ} {es : List Declared} → Block t es → turn t ≡ over → [] ≡ es
at_end (ended t f) e = refl
at_end (passes t s ds f x) e = cc
at_end (declared t n s u v ps ds f k x c b) e = cc

at_pass : {t : List ℕ} {es : List Declared} → Block t es → (r : List ℕ) → turn t ≡ pass r → Block r es
at_pass (ended t f) r e = cc
at_pass (passes t s ds f x) r e = let same : s ≡ r = cc in let P : List ℕ → Type 0 = λ z. Block z ds in subst P same x
at_pass (declared t n s u v ps ds f k x c b) r e = cc

at_name : {t : List ℕ} {es : List Declared} → Block t es → (m r : List ℕ) → turn t ≡ names m r
    → (w : List ℕ) × (qs : List Piece) × (x : List ℕ) × (fs : List Declared) × (es ≡ record { name = m; pieces = qs } ∷ fs) × Colon r w × Pieces w qs x × Block (tail x) fs
at_name (ended t f) m r e = cc
at_name (passes t s ds f x) m r e = cc
at_name (declared t n s u v ps ds f k x c b) m r e =
    let same : s ≡ r = cc in let one : n ≡ m = cc in let P : List ℕ → Type 0 = λ z. Colon z u in
    (u, ps, v, ds, ap (λ z. record { name = z; pieces = ps } ∷ ds) one, subst P same k, x, b)

pub block_once : {t : List ℕ} {ds : List Declared} → Block t ds → {es : List Declared} → Block t es → ds ≡ es
block_once (ended t e) y = at_end y e
block_once (passes t s ds e x) y = block_once x (at_pass y s e)
block_once (declared t n s u v ps ds e k x c b) y =
    let (w, qs, z, fs, same, l, q, d) = at_name y n s e in
    let P : List ℕ → Type 0 = λ i. Pieces i qs z in
    let values = pieces_once x (subst P (sym (colon_once k l)) q) in
    let Q : List ℕ → Type 0 = λ i. Block (tail i) fs in
    let again = block_once b (subst Q (sym values.1) d) in
    ap (λ i. record { name = n; pieces = i } ∷ ds) values.0 ∙ ap (λ i. record { name = n; pieces = qs } ∷ i) again ∙ sym same

-- what stands between the head and the foot
same_inside : (s t : List ℕ) → head ++ (s ++ foot) ≡ head ++ (t ++ foot) → s ≡ t
same_inside s t e = append_cancel_right s t foot (append_cancel_left head (s ++ foot) (t ++ foot) e)

pub read_once : (bytes : List ℕ) (ds es : List Declared) → Reads bytes ds → Reads bytes es → ds ≡ es
read_once bytes ds es x y =
    let same = same_inside x.inside y.inside (sym x.frame ∙ y.frame) in
    let P : List ℕ → Type 0 = λ z. Block z ds in
    block_once (subst P same x.block) y.block
