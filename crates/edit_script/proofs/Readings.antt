-- Readings of scripts: there is at most one, and where the events at a text's start end.
use Rattle.std.proofs.Common.{◌≡◌, ◌<◌, ◌≤◌, ℕ, ◌+◌, ◌-◌, true, List, [], ◌∷◌, ◌++◌, get_or, length, take, drop, refl, sym, ap, ap₂, subst, ◌∙◌, arith, append_assoc, append-nil, length-append, take-append-drop, inl, inr, ◌⊎◌, ⊎_elim, ltb, ltb-true, ltb-false, false}
use Rattle.std.proofs.lemmas.List.{append_cancel_left, take_at, length-take-le}
use Rattle.std.specs.List.{AllByRecursion, flat_map}
use Rattle.std.specs.Str.{IsUtf8, IsValidUpTo}
use Rattle.edit_script.specs.Script.{EventData, HasSpelling, event_text, has_kind, header, IsScript, IsScriptOf, IsScriptEnd, IsScriptStop}
use Rattle.edit_script.specs.Script.{put, del, move, patch, commit}
use Rattle.edit_script.specs.declared.version.Version.{Version}
use Rattle.edit_script.specs.declared.version.Version.TheVariants.{First, Second}
use Rattle.edit_script.proofs.Spelled.{not_empty, same_front_event}

abbrev pub events_text : List EventData → List ℕ
events_text es = flat_map event_text es

-- no event of the version stands at the start
abbrev pub NoEvent : Version → List ℕ → Type 0
NoEvent version bs = (e : EventData) (rest : List ℕ) → HasSpelling version e → bs ≡ event_text e ++ rest → ⊥

-- each of the events has a spelling
abbrev pub AreSpelled : Version → List EventData → Type 0
AreSpelled version es = AllByRecursion (HasSpelling version) es

-- events before a place where no event stands are not shorter than others at the same start
pub longest : (v : Version) (es fs : List EventData) (a b : List ℕ) → AreSpelled v es → AreSpelled v fs → events_text es ++ a ≡ events_text fs ++ b → NoEvent v a → length (events_text fs) ≤ length (events_text es)
longest v es [] a b g h e absent = omega arith
longest v [] (f ∷ fs) a b g h e absent = absurd (absent f (events_text fs ++ b) h.0 (e ∙ append_assoc (event_text f) (events_text fs) b))
longest v (x ∷ es) (f ∷ fs) a b g h e absent =
    let (same, rest) = same_front_event x f (events_text es ++ a) (events_text fs ++ b) g.0.1 h.0.1 (sym (append_assoc (event_text x) (events_text es) a) ∙ (e ∙ append_assoc (event_text f) (events_text fs) b)) in
    let ih = longest v es fs a b g.1 h.1 rest absent in
    omega (arith, ih, ap (λ y. length (event_text y)) same, length-append (event_text x) (events_text es), length-append (event_text f) (events_text fs))

pub one_list : (v : Version) (es fs : List EventData) → AreSpelled v es → AreSpelled v fs → events_text es ≡ events_text fs → es ≡ fs
one_list v [] [] g h e = refl
one_list v [] (f ∷ fs) g h e = absurd (not_empty f (events_text fs) e)
one_list v (x ∷ es) [] g h e = absurd (not_empty x (events_text es) (sym e))
one_list v (x ∷ es) (f ∷ fs) g h e =
    let (same, rest) = same_front_event x f (events_text es) (events_text fs) g.0.1 h.0.1 e in
    ap₂ (λ y ys. y ∷ ys) same (one_list v es fs g.1 h.1 rest)

-- a text has the first line of one version
one_version : (v w : Version) (a b : List ℕ) → header v ++ a ≡ header w ++ b → v ≡ w
one_version First First a b e = refl
one_version First Second a b e = let digit = ap (λ l. get_or l 12 0) e in absurd (omega (arith, digit))
one_version Second First a b e = let digit = ap (λ l. get_or l 12 0) e in absurd (omega (arith, digit))
one_version Second Second a b e = refl

header_length : (v : Version) → length (header v) ≡ 14
header_length First = refl
header_length Second = refl

one_reading_of : (v w : Version) (bytes : List ℕ) (es fs : List EventData) → v ≡ w → IsScriptOf v bytes es → IsScriptOf w bytes fs → es ≡ fs
one_reading_of v w bytes es fs same g h =
    let k : IsScriptOf v bytes fs = subst (λ u. IsScriptOf u bytes fs) (sym same) h in
    one_list v es fs g.1 k.1 (append_cancel_left (header v) (events_text es) (events_text fs) (sym g.0 ∙ k.0))

-- a script has at most one reading
pub one_reading : (bytes : List ℕ) (es fs : List EventData) → IsScript bytes es → IsScript bytes fs → es ≡ fs
one_reading bytes es fs g h = one_reading_of g.0 h.0 bytes es fs (one_version g.0 h.0 (events_text es) (events_text fs) (sym g.1.0 ∙ h.1.0)) g.1 h.1

all_kinds : (e : EventData) → has_kind Second e ≡ true
all_kinds (put path text) = refl
all_kinds (del path) = refl
all_kinds (move first second) = refl
all_kinds (patch path start end bytes) = refl
all_kinds commit = refl

spelled_second : (es : List EventData) → AreSpelled First es → AreSpelled Second es
spelled_second [] h = tt
spelled_second (e ∷ es) h = ((all_kinds e, h.0.1), spelled_second es h.1)

-- what reads behind the first version's line reads behind that of the second
pub in_second : (rest : List ℕ) (es : List EventData) → IsScriptOf First (header First ++ rest) es → IsScriptOf Second (header Second ++ rest) es
in_second rest es h = (ap (λ l. header Second ++ l) (append_cancel_left (header First) rest (events_text es) h.0), spelled_second es h.1)

-- the script of a version so far, and what is left
abbrev pub IsReadTo : Version → List ℕ → List EventData → List ℕ → Type 0
IsReadTo v text es rest = (text ≡ header v ++ (events_text es ++ rest)) × AreSpelled v es

fits_push : (v : Version) (es : List EventData) (e : EventData) → AreSpelled v es → HasSpelling v e → AreSpelled v (es ++ e ∷ [])
fits_push v [] e h fits = (fits, tt)
fits_push v (x ∷ es) e h fits = (h.0, fits_push v es e h.1 fits)

text_push : (es : List EventData) (e : EventData) (after : List ℕ) → events_text es ++ (event_text e ++ after) ≡ events_text (es ++ e ∷ []) ++ after
text_push [] e after = ap (λ l. l ++ after) (sym (append-nil (event_text e)))
text_push (x ∷ es) e after =
    append_assoc (event_text x) (events_text es) (event_text e ++ after)
    ∙ (ap (λ l. event_text x ++ l) (text_push es e after) ∙ sym (append_assoc (event_text x) (events_text (es ++ e ∷ [])) after))

pub read_all : (v : Version) (text rest : List ℕ) (es : List EventData) → IsReadTo v text es rest → rest ≡ [] → IsScript text es
read_all v text rest es h none = (v, (h.0 ∙ ap (λ l. header v ++ l) (ap (λ l. events_text es ++ l) none ∙ append-nil (events_text es)), h.1))

ends_at : (v : Version) (text rest : List ℕ) (es : List EventData) → IsReadTo v text es rest → length text ≡ 14 + length (events_text es) + length rest
ends_at v text rest es h = omega (arith, ap length h.0, header_length v, length-append (header v) (events_text es ++ rest), length-append (events_text es) rest)

-- another reading of a longer or shorter front goes no further than where no event stands
no_further : (v w : Version) (text rest more : List ℕ) (es fs : List EventData) → IsReadTo v text es rest → NoEvent v rest → text ≡ header w ++ (events_text fs ++ more) → AreSpelled w fs → length (events_text fs) ≤ length (events_text es)
no_further v w text rest more es fs h absent is spelled =
    let same : v ≡ w = one_version v w (events_text es ++ rest) (events_text fs ++ more) (sym h.0 ∙ is) in
    let here : text ≡ header v ++ (events_text fs ++ more) = is ∙ ap (λ u. header u ++ (events_text fs ++ more)) (sym same) in
    longest v es fs rest more h.1 (subst (λ u. AreSpelled u fs) (sym same) spelled) (append_cancel_left (header v) (events_text es ++ rest) (events_text fs ++ more) (sym h.0 ∙ here)) absent

-- where no event stands and something is left, there is no reading
pub no_reading : (v : Version) (text rest : List ℕ) (es : List EventData) → IsReadTo v text es rest → NoEvent v rest → 0 < length rest → (fs : List EventData) → IsScript text fs → ⊥
no_reading v text rest es h absent some fs script =
    let w = script.0 in
    let whole : text ≡ header w ++ (events_text fs ++ []) = script.1.0 ∙ ap (λ l. header w ++ l) (sym (append-nil (events_text fs))) in
    let most = no_further v w text rest [] es fs h absent whole script.1.1 in
    absurd (omega (arith, most, some, ends_at v text rest es h, ap length script.1.0, header_length w, length-append (header w) (events_text fs)))

-- .. and this is the stop
pub stops : (v : Version) (text rest : List ℕ) (es : List EventData) (n : ℕ) → IsReadTo v text es rest → NoEvent v rest → n ≡ length text - length rest → IsScriptEnd text n
stops v text rest es n h absent at =
    let size = ends_at v text rest es h in
    let here : length (header v ++ events_text es) ≡ n = omega (arith, header_length v, length-append (header v) (events_text es), size, at) in
    let split : text ≡ (header v ++ events_text es) ++ rest = h.0 ∙ sym (append_assoc (header v) (events_text es) rest) in
    let front : take n text ≡ header v ++ events_text es = ap (λ l. take n l) split ∙ take_at (header v ++ events_text es) rest n here in
    record {
      front = inr (omega (arith, size, at), (es, (v, (front, h.1))));
      longest = λ m more fronted.
          let bound = fronted.0 in
          let fs = fronted.1.0 in
          let w = fronted.1.1.0 in
          let script = fronted.1.1.1.0 in
          let whole : text ≡ header w ++ (events_text fs ++ drop m text) =
          sym (take-append-drop m text) ∙ (ap (λ l. l ++ drop m text) script ∙ append_assoc (header w) (events_text fs) (drop m text)) in
          let most = no_further v w text rest (drop m text) es fs h absent whole fronted.1.1.1.1 in
          absurd (omega (arith, most, more, here, ap length script, length-take-le m text bound, header_length v, header_length w, length-append (header w) (events_text fs), length-append (header v) (events_text es)));
    }

pub neither_header : (text : List ℕ) → ((rest : List ℕ) → text ≡ header First ++ rest → ⊥) → ((rest : List ℕ) → text ≡ header Second ++ rest → ⊥) → (version : Version) → (rest : List ℕ) → text ≡ header version ++ rest → ⊥
neither_header text first second First rest e = first rest e
neither_header text first second Second rest e = second rest e

-- a text without a version's first line
pub no_header : (text : List ℕ) → ((version : Version) → (rest : List ℕ) → text ≡ header version ++ rest → ⊥) → ((es : List EventData) → IsScript text es → ⊥) × IsScriptEnd text 0
no_header text absent = (
  λ es script. absent script.0 (events_text es) script.1.0,
  record {
    front = inl refl;
    longest = λ m more fronted.
        let fs = fronted.1.0 in
        let w = fronted.1.1.0 in
        let script = fronted.1.1.1.0 in
        absent w (events_text fs ++ drop m text) (sym (take-append-drop m text) ∙ (ap (λ l. l ++ drop m text) script ∙ append_assoc (header w) (events_text fs) (drop m text)));
  },
)

at_most : (m n : ℕ) → (n < m → ⊥) → m ≤ n
at_most m n f = elim (ltb n m) as (λ t. ltb n m ≡ t → m ≤ n) [ true ↦ λ t. absurd (f (ltb-true n m t)) | false ↦ λ t. ltb-false n m t ] refl

earlier_stop : (bytes : List ℕ) (m n : ℕ) → IsScriptEnd bytes m → IsScriptEnd bytes n → m < n → ⊥
earlier_stop bytes m n g h l = ⊎_elim (λ zero_is. absurd (omega arith)) (λ front. g.longest n l front) h.front

earlier_break : (bytes : List ℕ) (m n : ℕ) → IsValidUpTo bytes m → IsValidUpTo bytes n → m < n → ⊥
earlier_break bytes m n g h l = g.longest n l h.front

same_place : (bytes : List ℕ) (m n : ℕ) → (¬ (IsUtf8 bytes) × IsValidUpTo bytes m) ⊎ (IsUtf8 bytes × IsScriptEnd bytes m) → (¬ (IsUtf8 bytes) × IsValidUpTo bytes n) ⊎ (IsUtf8 bytes × IsScriptEnd bytes n) → m ≡ n
same_place bytes m n (inl g) (inl h) = omega (arith, at_most m n (earlier_break bytes n m h.1 g.1), at_most n m (earlier_break bytes m n g.1 h.1))
same_place bytes m n (inl g) (inr h) = absurd (g.0 h.0)
same_place bytes m n (inr g) (inl h) = absurd (h.0 g.0)
same_place bytes m n (inr g) (inr h) = omega (arith, at_most m n (earlier_stop bytes n m h.1 g.1), at_most n m (earlier_stop bytes m n g.1 h.1))

pub same_stop : (bytes : List ℕ) (m n : ℕ) → IsScriptStop bytes m → IsScriptStop bytes n → m ≡ n
same_stop bytes m n g h = same_place bytes m n g.place h.place
