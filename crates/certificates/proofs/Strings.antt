-- The inside of a string, cut at quotes and backslashes.
use Rattle.std.proofs.Common.{◌≡◌, ◌≢◌, ℕ, ◌<◌, List, [], ◌∷◌, ◌++◌, refl, sym, ap, ◌∙◌, append_assoc, append-nil, ◌/◌, ◌%◌, arith}
use Rattle.json_span.specs.Spelling.{byte_text, hex_digit, inside_text, string_text}
use Rattle.name_path.proofs.Escaping.{distinct}
use Rattle.certificates.specs.inner.Fronts.{Lacks}
use Rattle.certificates.proofs.Cutting.{first_cut}
use Rattle.certificates.proofs.Escapes.{Byte, escaped, control, plain, byte_of, escape_is, escaped_small}

-- what is left of a string behind these bytes, which stand for themselves
pub record Run (front s t rest : List ℕ) : Type 0 where
  pub more : List ℕ
  pub whole : s ≡ front ++ more
  pub left : t ≡ inside_text more ++ 34 ∷ rest

run_more : (x : ℕ) (xs : List ℕ) (c : ℕ) (cs t rest : List ℕ) → x ≢ 92 → Byte c → x ∷ (xs ++ t) ≡ byte_text c ++ (inside_text cs ++ 34 ∷ rest) → (xs ++ t ≡ inside_text cs ++ 34 ∷ rest → Run xs cs t rest) → Run (x ∷ xs) (c ∷ cs) t rest
run_more x xs c cs t rest a (escaped is f) cut more =
    let k : x ∷ (xs ++ t) ≡ 92 ∷ c ∷ (inside_text cs ++ 34 ∷ rest) = cut ∙ ap (λ (z : List ℕ). z ++ (inside_text cs ++ 34 ∷ rest)) f in
    let n : x ≡ 92 = cc in absurd (a n)
run_more x xs c cs t rest a (control low f) cut more =
    let k : x ∷ (xs ++ t) ≡ 92 ∷ 117 ∷ 48 ∷ 48 ∷ hex_digit (c / 16) ∷ hex_digit (c % 16) ∷ (inside_text cs ++ 34 ∷ rest) = cut ∙ ap (λ (z : List ℕ). z ++ (inside_text cs ++ 34 ∷ rest)) f in
    let n : x ≡ 92 = cc in absurd (a n)
run_more x xs c cs t rest a (plain p q f) cut more =
    let k : x ∷ (xs ++ t) ≡ c ∷ (inside_text cs ++ 34 ∷ rest) = cut ∙ ap (λ (z : List ℕ). z ++ (inside_text cs ++ 34 ∷ rest)) f in
    let n : c ≡ x = cc in
    let r = more (cc) in
    record { more = r.more; whole = ap (λ (z : ℕ). z ∷ cs) n ∙ ap (λ (zs : List ℕ). x ∷ zs) r.whole; left = r.left }

pub run_of : (front s t rest : List ℕ) → Lacks 92 front → Lacks 34 front → front ++ t ≡ inside_text s ++ 34 ∷ rest → Run front s t rest
run_of [] s t rest a b e = record { more = s; whole = refl; left = e }
run_of (x ∷ xs) [] t rest a b e = absurd (b.0 (cc))
run_of (x ∷ xs) (c ∷ cs) t rest a b e =
    run_more x xs c cs t rest a.0 (byte_of c) (e ∙ append_assoc (byte_text c) (inside_text cs) (34 ∷ rest)) (λ k. run_of xs cs t rest a.1 b.1 k)

ended_by : (c : ℕ) (cs u rest : List ℕ) → Byte c → 34 ∷ u ≡ byte_text c ++ (inside_text cs ++ 34 ∷ rest) → ⊥
ended_by c cs u rest (escaped is f) cut =
    let k : 34 ∷ u ≡ 92 ∷ c ∷ (inside_text cs ++ 34 ∷ rest) = cut ∙ ap (λ (z : List ℕ). z ++ (inside_text cs ++ 34 ∷ rest)) f in
    distinct 34 92 (cc) refl
ended_by c cs u rest (control low f) cut =
    let k : 34 ∷ u ≡ 92 ∷ 117 ∷ 48 ∷ 48 ∷ hex_digit (c / 16) ∷ hex_digit (c % 16) ∷ (inside_text cs ++ 34 ∷ rest) = cut ∙ ap (λ (z : List ℕ). z ++ (inside_text cs ++ 34 ∷ rest)) f in
    distinct 34 92 (cc) refl
ended_by c cs u rest (plain p q f) cut =
    let k : 34 ∷ u ≡ c ∷ (inside_text cs ++ 34 ∷ rest) = cut ∙ ap (λ (z : List ℕ). z ++ (inside_text cs ++ 34 ∷ rest)) f in
    let n : c ≡ 34 = cc in p n

ended : (more u rest : List ℕ) → 34 ∷ u ≡ inside_text more ++ 34 ∷ rest → (more ≡ []) × (u ≡ rest)
ended [] u rest e = (refl, cc)
ended (c ∷ cs) u rest e = absurd (ended_by c cs u rest (byte_of c) (e ∙ append_assoc (byte_text c) (inside_text cs) (34 ∷ rest)))

-- up to the closing quote all bytes stand for themselves
pub closed : (front s u rest : List ℕ) → Lacks 92 front → Lacks 34 front → front ++ 34 ∷ u ≡ inside_text s ++ 34 ∷ rest → (s ≡ front) × (u ≡ rest)
closed front s u rest a b e =
    let r = run_of front s (34 ∷ u) rest a b e in
    let (none, same) = ended r.more u rest r.left in
    (r.whole ∙ (ap (λ (z : List ℕ). front ++ z) none ∙ append-nil front), same)

-- a backslash begins the spelling of the next byte
pub record Next (more behind rest : List ℕ) : Type 0 where
  pub byte : ℕ
  pub bytes : List ℕ
  pub whole : more ≡ byte ∷ bytes
  pub spelled : 92 ∷ behind ≡ byte_text byte ++ (inside_text bytes ++ 34 ∷ rest)
  pub small : byte < 128

pub next_of : (more behind rest : List ℕ) → 92 ∷ behind ≡ inside_text more ++ 34 ∷ rest → Next more behind rest
next_of [] behind rest e = absurd (distinct 92 34 (cc) refl)
next_of (c ∷ cs) behind rest e =
    let cut : 92 ∷ behind ≡ byte_text c ++ (inside_text cs ++ 34 ∷ rest) = e ∙ append_assoc (byte_text c) (inside_text cs) (34 ∷ rest) in
    record {
      byte = c;
      bytes = cs;
      whole = refl;
      spelled = cut;
      small = escaped_small c behind (inside_text cs ++ 34 ∷ rest) (escape_is c behind (inside_text cs ++ 34 ∷ rest) cut);
    }

-- the string whose inside the text begins with is what was read so far and what is left
pub record Read (characters left s rest : List ℕ) : Type 0 where
  pub more : List ℕ
  pub whole : s ≡ characters ++ more
  pub spelled : left ≡ inside_text more ++ 34 ∷ rest

abbrev pub IsReadTo : List ℕ → List ℕ → List ℕ → Type 0
IsReadTo text characters left = (s rest : List ℕ) → text ≡ inside_text s ++ 34 ∷ rest → Read characters left s rest

pub read_none : (text : List ℕ) → IsReadTo text [] text
read_none text s rest f = record { more = s; whole = refl; spelled = f }

pub quoted : (s rest : List ℕ) → string_text s ++ rest ≡ 34 ∷ (inside_text s ++ 34 ∷ rest)
quoted s rest = ap (λ (z : List ℕ). 34 ∷ z) (append_assoc (inside_text s) (34 ∷ []) rest)

pub behind_quote : (text inside s rest : List ℕ) → text ≡ 34 ∷ inside → text ≡ string_text s ++ rest → inside ≡ inside_text s ++ 34 ∷ rest
behind_quote text inside s rest e f = (let k : 34 ∷ inside ≡ 34 ∷ (inside_text s ++ 34 ∷ rest) = sym e ∙ (f ∙ quoted s rest) in cc)

regrouped : (a b : List ℕ) (c : ℕ) (d : List ℕ) → a ++ (b ++ c ∷ d) ≡ ((a ++ b) ++ c ∷ []) ++ d
regrouped a b c d = sym (append_assoc (a ++ b) (c ∷ []) d ∙ append_assoc a b (c ∷ d))

-- one turn: bytes that stand for themselves, and an escape
pub turned : (text old left front behind mid new : List ℕ) (meant : ℕ) (next : List ℕ) → IsReadTo text old left → left ≡ front ++ 92 ∷ behind → Lacks 92 front → Lacks 34 front → mid ≡ old ++ front
    → ((c : ℕ) (rest : List ℕ) → 92 ∷ behind ≡ byte_text c ++ rest → (meant ≡ c) × (next ≡ rest)) → (meant < 128 → new ≡ mid ++ meant ∷ []) → IsReadTo text new next
turned text old left front behind mid new meant next h cut a b added found grown s rest f =
    let r = h s rest f in
    let run = run_of front r.more (92 ∷ behind) rest a b (sym cut ∙ r.spelled) in
    let n = next_of run.more behind rest run.left in
    let (same, follows) = found n.byte (inside_text n.bytes ++ 34 ∷ rest) n.spelled in
    let small : meant < 128 = omega (arith, same, n.small) in
    record {
      more = n.bytes;
      whole =
          r.whole
          ∙ (ap (λ (z : List ℕ). old ++ z) (run.whole ∙ ap (λ (z : List ℕ). front ++ z) n.whole)
          ∙ (regrouped old front n.byte n.bytes
          ∙ (ap (λ (z : List ℕ). (z ++ n.byte ∷ []) ++ n.bytes) (sym added)
          ∙ (ap (λ (z : ℕ). (mid ++ z ∷ []) ++ n.bytes) (sym same) ∙ ap (λ (z : List ℕ). z ++ n.bytes) (sym (grown small))))));
      spelled = follows;
    }

-- no string goes on with what is no escape
pub no_escape : (text old left front behind s rest : List ℕ) → IsReadTo text old left → left ≡ front ++ 92 ∷ behind → Lacks 92 front → Lacks 34 front
    → ((c : ℕ) (r : List ℕ) → 92 ∷ behind ≡ byte_text c ++ r → ⊥) → text ≡ inside_text s ++ 34 ∷ rest → ⊥
no_escape text old left front behind s rest h cut a b none f =
    let r = h s rest f in
    let run = run_of front r.more (92 ∷ behind) rest a b (sym cut ∙ r.spelled) in
    let n = next_of run.more behind rest run.left in
    none n.byte (inside_text n.bytes ++ 34 ∷ rest) n.spelled

-- the bytes up to the closing quote
pub record Ends (old left s rest : List ℕ) : Type 0 where
  pub inside : List ℕ
  pub whole : left ≡ inside ++ 34 ∷ rest
  pub lacks : Lacks 34 inside
  pub same : old ++ inside ≡ s

-- where no backslash stands before the next quote, the string ends there
pub ends_at : (text old left s rest : List ℕ) → IsReadTo text old left → ((inside back : List ℕ) → left ≡ inside ++ 34 ∷ back → Lacks 34 inside → Lacks 92 inside) → text ≡ inside_text s ++ 34 ∷ rest → Ends old left s rest
ends_at text old left s rest h none f =
    let r = h s rest f in
    let k = first_cut 34 (inside_text r.more) rest in
    let (same, follows) = closed k.front r.more k.back rest (none k.front k.back (r.spelled ∙ k.whole) k.lacks) k.lacks (sym k.whole) in
    record {
      inside = k.front;
      whole = r.spelled ∙ (k.whole ∙ ap (λ (z : List ℕ). k.front ++ 34 ∷ z) follows);
      lacks = k.lacks;
      same = ap (λ (z : List ℕ). old ++ z) (sym same) ∙ sym r.whole;
    }
