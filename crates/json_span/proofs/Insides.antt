-- The insides of written strings.
use Rattle.std.proofs.Common.{◌≡◌, ℕ, suc, ◌+◌, ◌<◌, ◌≤◌, List, [], ◌∷◌, ◌++◌, Bool, true, false, ◌&&◌, drop, length, refl, sym, ap, ◌∙◌, subst, append_assoc, append-nil, arith}
use Rattle.std.specs.Prelude.{All, not, slice_range, nat_lt, get_or}
use Rattle.std.specs.List.{flat_map, list_all, join_by}
use Rattle.std.proofs.lemmas.Bool.Decides.{nat_tests}
use Rattle.std.proofs.lemmas.Grind.{flat_map-append}
use Rattle.std.proofs.lemmas.List.{drop_all, drop_more}
use Rattle.lane_scan.specs.Bytes.{is_special}
use Rattle.json_span.specs.Reading.{StringAt}
use Rattle.json_span.specs.Spelling.{byte_text, inside_text, are_bytes, are_plain}
use Rattle.json_span.specs.Composing.{separated}
use Rattle.json_span.proofs.Spelled.{string_at}
use Rattle.json_span.proofs.Strings.{cut_at}

and_both : (a b : Bool) → (a && b) ≡ true → (a ≡ true) × (b ≡ true)
and_both true b h = (refl, h)
and_both false b h = cc

one_plain : (c : ℕ) → not (is_special c) ≡ true → byte_text c ≡ c ∷ []
one_plain c h = grind (arith, nat_tests)

pub plain_stays : (s : List ℕ) → are_plain s ≡ true → inside_text s ≡ s
plain_stays [] h = refl
plain_stays (c ∷ s) h = let p = and_both (not (is_special c)) (are_plain s) h in rw (one_plain c p.0) (ap (λ z. c ∷ z) (plain_stays s p.1))

pub insides_follow : (s t : List ℕ) → inside_text (s ++ t) ≡ inside_text s ++ inside_text t
insides_follow s t = flat_map-append byte_text s t

others_join : (between : List ℕ) (names : List (List ℕ)) → are_plain between ≡ true → flat_map (λ n. between ++ inside_text n) names ≡ inside_text (flat_map (λ n. between ++ n) names)
others_join between [] h = refl
others_join between (n ∷ ns) h =
    ap (λ z. (between ++ inside_text n) ++ z) (others_join between ns h)
    ∙ sym (insides_follow (between ++ n) (flat_map (λ n. between ++ n) ns) ∙ ap (λ z. z ++ inside_text (flat_map (λ n. between ++ n) ns)) (insides_follow between n ∙ ap (λ z. z ++ inside_text n) (plain_stays between h)))

pub insides_join : (between : List ℕ) (names : List (List ℕ)) → are_plain between ≡ true → join_by inside_text between names ≡ inside_text (separated between names)
insides_join between [] h = refl
insides_join between (n ∷ ns) h = ap (λ z. inside_text n ++ z) (others_join between ns h) ∙ sym (insides_follow n (flat_map (λ n. between ++ n) ns))

bytes_follow : (s t : List ℕ) → are_bytes s ≡ true → are_bytes t ≡ true → are_bytes (s ++ t) ≡ true
bytes_follow [] t h k = k
bytes_follow (c ∷ s) t h k = let p = and_both (nat_lt c 256) (are_bytes s) h in rw (p.0) (bytes_follow s t p.1 k)

bytes_join : (between : List ℕ) (names : List (List ℕ)) → are_bytes between ≡ true → list_all are_bytes names ≡ true → are_bytes (flat_map (λ n. between ++ n) names) ≡ true
bytes_join between [] h k = refl
bytes_join between (n ∷ ns) h k =
    let p = and_both (are_bytes n) (list_all are_bytes ns) k in
    bytes_follow (between ++ n) (flat_map (λ n. between ++ n) ns) (bytes_follow between n h p.0) (bytes_join between ns h p.1)

bytes_joined : (between : List ℕ) (names : List (List ℕ)) → are_bytes between ≡ true → list_all are_bytes names ≡ true → are_bytes (separated between names) ≡ true
bytes_joined between [] h k = refl
bytes_joined between (n ∷ ns) h k = let p = and_both (are_bytes n) (list_all are_bytes ns) k in bytes_follow n (flat_map (λ n. between ++ n) ns) p.0 (bytes_join between ns h p.1)

-- between quotes
pub inside_at : (s u : List ℕ) → are_bytes s ≡ true → StringAt (34 ∷ (inside_text s ++ (34 ∷ u))) s u
inside_at s u h = subst (λ z. StringAt (34 ∷ z) s u) (append_assoc (inside_text s) (34 ∷ []) u) (string_at s u h)

pub joined_at : (between : List ℕ) (names : List (List ℕ)) (u : List ℕ) → are_plain between ≡ true → are_bytes between ≡ true → list_all are_bytes names ≡ true →
    StringAt (34 ∷ (join_by inside_text between names ++ (34 ∷ u))) (separated between names) u
joined_at between names u h k l = rw (insides_join between names h) (inside_at (separated between names) u (bytes_joined between names k l))

-- a run of plain bytes
run_plain : (s : List ℕ) → All (λ x. is_special x ≡ false) s → inside_text s ≡ s
run_plain [] h = refl
run_plain (c ∷ s) h =
    let first : is_special c ≡ false = h 0 0 (omega arith) in
    rw (one_plain c (ap not first)) (ap (λ z. c ∷ z) (run_plain s (λ i d lt. h (suc i) d (omega (arith, lt)))))

-- the last run
pub inside_last : (text : List ℕ) (at special : ℕ) → at ≤ special → special ≡ length text → All (λ x. is_special x ≡ false) (slice_range text at special) → inside_text (drop at text) ≡ slice_range text at special
inside_last text at special h e p =
    ap inside_text (cut_at text at special h ∙ ap (λ z. slice_range text at special ++ z) (drop_all special text (omega arith)) ∙ append-nil (slice_range text at special)) ∙ run_plain (slice_range text at special) p

-- a run, the byte after it, and the rest
pub inside_more : (text : List ℕ) (at special : ℕ) → at ≤ special → special < length text → All (λ x. is_special x ≡ false) (slice_range text at special) →
    inside_text (drop at text) ≡ slice_range text at special ++ (byte_text (get_or text special 0) ++ inside_text (drop (special + 1) text))
inside_more text at special h lt p =
    ap inside_text (cut_at text at special h ∙ ap (λ z. slice_range text at special ++ z) (drop_more text special 0 lt))
    ∙ insides_follow (slice_range text at special) (get_or text special 0 ∷ drop (special + 1) text)
    ∙ ap (λ z. z ++ inside_text (get_or text special 0 ∷ drop (special + 1) text)) (run_plain (slice_range text at special) p)

-- the writing of a text, up to its end
pub written_whole : (text old out new run : List ℕ) (at special : ℕ) → at ≤ special → special ≡ length text → All (λ x. is_special x ≡ false) (slice_range text at special) → run ≡ slice_range text at special → out ++ inside_text (drop at text) ≡ old ++ inside_text text → new ≡ out ++ run → new ≡ old ++ inside_text text
written_whole text old out new run at special h e p f inv g = g ∙ ap (λ z. out ++ z) (f ∙ sym (inside_last text at special h e p)) ∙ inv

-- and past an escape
pub written_more : (text old out new last run : List ℕ) (at special : ℕ) → at ≤ special → special < length text → All (λ x. is_special x ≡ false) (slice_range text at special) → run ≡ slice_range text at special → out ++ inside_text (drop at text) ≡ old ++ inside_text text → new ≡ out ++ run →
    last ≡ new ++ byte_text (get_or text special 0) → last ++ inside_text (drop (special + 1) text) ≡ old ++ inside_text text
written_more text old out new last run at special h lt p f inv g k =
    let byte : List ℕ = byte_text (get_or text special 0) in
    let rest : List ℕ = inside_text (drop (special + 1) text) in
    ap (λ z. z ++ rest) (k ∙ ap (λ z. z ++ byte) (g ∙ ap (λ z. out ++ z) f))
    ∙ append_assoc (out ++ slice_range text at special) byte rest
    ∙ append_assoc out (slice_range text at special) (byte ++ rest)
    ∙ ap (λ z. out ++ z) (sym (inside_more text at special h lt p))
    ∙ inv
