-- Lists of paths that grow by one, as loops over entries build them.
use Rattle.std.proofs.Common.{◌≡◌, ◌<◌, ◌≤◌, ℕ, zero, suc, ◌+◌, Bool, true, false, cond, ◌||◌, List, [], ◌∷◌, ◌++◌, length, take, get_or, map as map_list, Option, Some, None, is_some, refl, sym, ap, ◌∙◌, arith, append_assoc, append-nil}
use Rattle.std.proofs.lemmas.List.{length-map, take_all}
use Rattle.std.proofs.lemmas.List.Folds.{list_any-append}
use Rattle.std.specs.Cmp.Lexicographic.{nat_list_cmp_total}
use Rattle.std.specs.FinMap as map
use Rattle.std.specs.Ordering.{eq_by_cmp}
use Rattle.tk_io.specs.Order.{text_cmp}
use Rattle.out_store.specs.Manifest.{is_listed, manifest_text, path_line}

pub take_none : {X : Type 0} (xs : List X) → take 0 xs ≡ []
take_none [] = refl
take_none (x ∷ xs) = refl

take_zero : {X : Type 0} (xs : List X) → take zero xs ≡ []
take_zero [] = refl
take_zero (x ∷ xs) = refl

take_next : {E : Type 0} (f : E → List ℕ) (es : List E) (i : ℕ) (x : E) → i < length es → x ≡ get_or es i x → take (suc i) (map_list f es) ≡ take i (map_list f es) ++ f x ∷ []
take_next f [] i x h is = absurd (omega (arith, h))
take_next f (e ∷ es) zero x h is = ap (λ l. f e ∷ l) (take_zero (map_list f es)) ∙ (ap (λ z. f z ∷ []) (sym is) ∙ ap (λ l. l ++ f x ∷ []) (sym (take_zero (f e ∷ map_list f es))))
take_next f (e ∷ es) (suc i) x h is = ap (λ z. f e ∷ z) (take_next f es i x (omega (arith, h)) is)

-- the paths of the first entries, and of one more
pub taken_more : {E : Type 0} (f : E → List ℕ) (es : List E) (i : ℕ) (x : E) → i < length es → x ≡ get_or es i x → take (i + 1) (map_list f es) ≡ take i (map_list f es) ++ f x ∷ []
taken_more f es i x h is = let next : i + 1 ≡ suc i = omega arith in ap (λ n. take n (map_list f es)) next ∙ take_next f es i x h is

pub taken_all : {E : Type 0} (f : E → List ℕ) (es : List E) (i : ℕ) → length es ≤ i → take i (map_list f es) ≡ map_list f es
taken_all f es i h = take_all i (map_list f es) (omega (arith, h, length-map es f))

or_assoc : (a b c : Bool) → ((a || b) || c) ≡ (a || (b || c))
or_assoc true b c = refl
or_assoc false b c = refl

or_nothing : (a : Bool) → (a || false) ≡ a
or_nothing true = refl
or_nothing false = refl

pub or_none : (a : Bool) → a ≡ (a || false)
or_none a = sym (or_nothing a)

-- one path more is listed
pub listed_push : (paths : List (List ℕ)) (p q : List ℕ) → is_listed (paths ++ p ∷ []) q ≡ (is_listed paths q || eq_by_cmp text_cmp q p)
listed_push paths p q = list_any-append (eq_by_cmp text_cmp q) paths (p ∷ []) ∙ ap (λ b. is_listed paths q || b) (or_nothing (eq_by_cmp text_cmp q p))

held_cond : {X : Type 0} (b : Bool) (v : X) (o : Option X) → is_some (cond b (Some v) o) ≡ (is_some o || b)
held_cond true v None = refl
held_cond true v (Some x) = refl
held_cond false v None = refl
held_cond false v (Some x) = refl

key_put : {X : Type 0} (m : map.FinMap text_cmp X) (k : List ℕ) (v : X) (q : List ℕ) → map.contains_key (map.insert m k v) q ≡ (map.contains_key m q || eq_by_cmp text_cmp q k)
key_put m k v q = ap is_some (map.get-insert nat_list_cmp_total m k v q) ∙ held_cond (eq_by_cmp text_cmp q k) v (map.get m q)

-- keys that are those of a map and those of a list so far, and one more
pub keys_more : {X : Type 0} (old now new : map.FinMap text_cmp X) (before after : List (List ℕ)) (k : List ℕ) (v : X) → after ≡ before ++ k ∷ [] → new ≡ map.insert now k v
    → ((q : List ℕ) → map.contains_key now q ≡ (map.contains_key old q || is_listed before q)) → (q : List ℕ) → map.contains_key new q ≡ (map.contains_key old q || is_listed after q)
keys_more old now new before after k v more put so_far q =
    ap (λ m. map.contains_key m q) put
    ∙ (key_put now k v q
    ∙ (ap (λ b. b || eq_by_cmp text_cmp q k) (so_far q)
    ∙ (or_assoc (map.contains_key old q) (is_listed before q) (eq_by_cmp text_cmp q k)
    ∙ (ap (λ b. map.contains_key old q || b) (sym (listed_push before k q))
    ∙ ap (λ l. map.contains_key old q || is_listed l q) (sym more)))))

-- the lines of paths, and of one more
text_append : (paths : List (List ℕ)) (p : List ℕ) → manifest_text (paths ++ p ∷ []) ≡ manifest_text paths ++ path_line p
text_append [] p = append-nil (path_line p)
text_append (q ∷ paths) p = ap (λ (z : List ℕ). path_line q ++ z) (text_append paths p) ∙ sym (append_assoc (path_line q) (manifest_text paths) (path_line p))

pub text_more : (before after : List (List ℕ)) (p text middle new : List ℕ) → after ≡ before ++ p ∷ [] → text ≡ manifest_text before → middle ≡ text ++ p → new ≡ middle ++ 10 ∷ [] → new ≡ manifest_text after
text_more before after p text middle new more so_far path line =
    line ∙ (ap (λ (z : List ℕ). z ++ 10 ∷ []) (path ∙ ap (λ (z : List ℕ). z ++ p) so_far)
    ∙ (append_assoc (manifest_text before) p (10 ∷ []) ∙ (sym (text_append before p) ∙ ap manifest_text (sym more))))

-- before the first
pub none_more : (b : Bool) (names : List (List ℕ)) (q : List ℕ) → b ≡ (b || is_listed (take 0 names) q)
none_more b names q = or_none b ∙ ap (λ l. b || is_listed l q) (sym (take_zero names))

pub text_none : (names : List (List ℕ)) → [] ≡ manifest_text (take 0 names)
text_none names = ap manifest_text (sym (take_zero names))
