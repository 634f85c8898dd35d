-- Events and their spellings: the line of each, and that no spelling is a prefix of another's.
use Rattle.std.proofs.Common.{◌≡◌, ◌<◌, ◌≤◌, ◌^◌, ◌+◌, ◌*◌, ℕ, zero, suc, Bool, true, false, cond, not, ◌&&◌, ◌||◌, eqb, nat_lt, List, [], ◌∷◌, ◌++◌, length, get_or, ◌≢◌, Option, Some, None, codes, refl, sym, ap, ap₂, subst, ◌∙◌, arith, append_assoc, append-nil, eqb-true}
use Rattle.std.proofs.lemmas.Bool.Decides.{nat_tests}
use Rattle.std.proofs.lemmas.Fmt.{decimal_is_IsNumeral, decimal_injective, IsAscii-decimal}
use Rattle.std.proofs.lemmas.Str.{IsUtf8-append, IsUtf8-from_ascii, IsUtf8-nil}
use Rattle.std.specs.Str.{IsUtf8, IsAscii}
use Rattle.std.proofs.lemmas.List.{append_cancel_left}
use Rattle.std.specs.Char.{digit_value}
use Rattle.std.specs.Fmt.{decimal}
use Rattle.std.specs.List.{AllByRecursion, flat_map, list_all, slice_split, onto_first}
use Rattle.std.specs.Str.Parse.{AllDigits}
use Rattle.std.specs.Borrow.{Bor}
use Rattle.std.specs.Option.{MatchOption}
use Rattle.edit_script.specs.inner.Cut.{lacks, IsFirstCut}
use Rattle.edit_script.specs.View.{event_view}
use Rattle.edit_script.specs.declared.event.Event.{Event}
use Rattle.edit_script.specs.inner.Line.{first_line, behind_line, numbers_text}
use Rattle.edit_script.specs.Script.{EventData, put, del, move, patch, commit, HasSpelling, IsScript, IsSpellable, IsSpelledNumber, event_text, header, is_dots, is_path, is_path_byte, is_segment}
use Rattle.edit_script.specs.declared.version.Version.{Version}
use Rattle.edit_script.specs.declared.version.Version.TheVariants.{First, Second}
use Rattle.edit_script.proofs.Cuts.{both, joined, all_weaker, cut_once, lacks-append, lacks_failing, same_front}

-- a byte of a path: one of a segment, or a slash
abbrev is_byte : ℕ → Bool
is_byte b = eqb b 47 || is_path_byte b

onto_all : (q : ℕ → Bool) (b : ℕ) (ss : List (List ℕ)) → list_all (list_all q) (onto_first b ss) ≡ true → (q b ≡ true) × (list_all (list_all q) ss ≡ true)
onto_all q b [] h = ((both (q b) true (both (q b && true) true h).0).0, refl)
onto_all q b (s ∷ ss) h =
    let (x, y) = both (q b && list_all q s) (list_all (list_all q) ss) h in
    let (u, v) = both (q b) (list_all q s) x in
    (u, joined (list_all q s) (list_all (list_all q) ss) v y)

parts_all : (q : ℕ → Bool) (p : List ℕ) → list_all (list_all q) (slice_split (λ b. eqb b 47) p) ≡ true → list_all (λ b. eqb b 47 || q b) p ≡ true
parts_all q [] h = refl
parts_all q (b ∷ p) h =
    let parts = slice_split (λ x. eqb x 47) p in
    elim (eqb b 47) as (λ t. list_all (list_all q) (cond t ([] ∷ parts) (onto_first b parts)) ≡ true → ((t || q b) && list_all (λ x. eqb x 47 || q x) p) ≡ true) [
      | true ↦ λ e. parts_all q p e
      | false ↦ λ e. let (x, y) = onto_all q b parts e in joined (q b) (list_all (λ x. eqb x 47 || q x) p) x (parts_all q p y)
    ] h

segments_bytes : (ss : List (List ℕ)) → list_all is_segment ss ≡ true → list_all (list_all is_path_byte) ss ≡ true
segments_bytes [] h = refl
segments_bytes (s ∷ ss) h =
    let (x, y) = both (is_segment s) (list_all is_segment ss) h in
    joined (list_all is_path_byte s) (list_all (list_all is_path_byte) ss) (both (not (eqb (length s) 0)) (list_all is_path_byte s) (both (not (is_dots s)) (not (eqb (length s) 0) && list_all is_path_byte s) x).1).1 (segments_bytes ss y)

pub path_bytes : (p : List ℕ) → is_path p ≡ true → list_all is_byte p ≡ true
path_bytes p h = parts_all is_path_byte p (segments_bytes (slice_split (λ b. eqb b 47) p) (both _ (list_all is_segment (slice_split (λ b. eqb b 47) p)) h).1)

pub path_lacks : (c : ℕ) → is_byte c ≡ false → (p : List ℕ) → is_path p ≡ true → lacks c p ≡ true
path_lacks c absent p h = lacks_failing is_byte c absent p (path_bytes p h)

digits_lack : (c : ℕ) → 10 ≤ digit_value c → (ds : List ℕ) → AllDigits 10 ds → lacks c ds ≡ true
digits_lack c absent [] h = refl
digits_lack c absent (d ∷ ds) h =
    joined (not (eqb d c)) (lacks c ds) (elim (eqb d c) as (λ t. eqb d c ≡ t → not t ≡ true) [
      | true ↦ λ t. let same = ap digit_value (eqb-true d c t) in absurd (omega (arith, h.0, same, absent))
      | false ↦ λ t. refl
    ] refl) (digits_lack c absent ds h.1)

pub decimal_lacks : (c n : ℕ) → 10 ≤ digit_value c → n < 2 ^ 64 → lacks c (decimal n) ≡ true
decimal_lacks c n absent h = digits_lack c absent (decimal n) (decimal_is_IsNumeral n h).0.1

put_regroup : (a t s : List ℕ) → (a ++ 10 ∷ [] ++ t ++ 10 ∷ []) ++ s ≡ a ++ 10 ∷ ((t ++ 10 ∷ []) ++ s)
put_regroup a t s = simp append_assoc

line_regroup : (a s : List ℕ) → (a ++ 10 ∷ []) ++ s ≡ a ++ 10 ∷ s
line_regroup a s = append_assoc a (10 ∷ []) s

-- the words of a patch's line, whose numbers are put together
numbers_regroup : (w a b d : List ℕ) → w ++ a ++ codes " " ++ b ++ codes " " ++ d ≡ w ++ (a ++ codes " " ++ b ++ codes " " ++ d)
numbers_regroup w a b d = simp append_assoc

patch_line : (p : List ℕ) (i j n : ℕ) → codes "patch " ++ p ++ codes " " ++ decimal i ++ codes " " ++ decimal j ++ codes " " ++ decimal n ≡ codes "patch " ++ p ++ codes " " ++ numbers_text i j n
patch_line p i j n = numbers_regroup (codes "patch " ++ p ++ codes " ") (decimal i) (decimal j) (decimal n)

-- a spelling is a line, its line end, and what stands after the line
pub spelled : (e : EventData) (s : List ℕ) → event_text e ++ s ≡ first_line e ++ 10 ∷ (behind_line e ++ s)
spelled (put p t) s = put_regroup (codes "put " ++ p ++ codes " " ++ decimal (length t)) t s
spelled (del p) s = line_regroup (codes "del " ++ p) s
spelled (move p q) s = line_regroup (codes "move " ++ p ++ codes " " ++ q) s
spelled (patch p i j t) s =
    ap (λ l. (l ++ codes "\n" ++ t ++ codes "\n") ++ s) (patch_line p i j (length t))
    ∙ put_regroup (codes "patch " ++ p ++ codes " " ++ numbers_text i j (length t)) t s
spelled commit s = refl

pub small : (n : ℕ) → IsSpelledNumber n → n < 2 ^ 64
small n h = omega arith

number_lacks : (c n : ℕ) → 10 ≤ digit_value c → IsSpelledNumber n → lacks c (decimal n) ≡ true
number_lacks c n absent h = decimal_lacks c n absent (small n h)

numbers_lack : (i j n : ℕ) → IsSpelledNumber i → IsSpelledNumber j → IsSpelledNumber n → lacks 10 (numbers_text i j n) ≡ true
numbers_lack i j n a b h =
    lacks-append 10 (decimal i ++ codes " " ++ decimal j ++ codes " ") (decimal n)
    (lacks-append 10 (decimal i ++ codes " " ++ decimal j) (codes " ")
    (lacks-append 10 (decimal i ++ codes " ") (decimal j) (lacks-append 10 (decimal i) (codes " ") (number_lacks 10 i (omega arith) a) refl) (number_lacks 10 j (omega arith) b)) refl)
    (number_lacks 10 n (omega arith) h)

-- a word, a path, a blank and what follows it
words_lack : (w p s : List ℕ) → lacks 10 w ≡ true → is_path p ≡ true → lacks 10 s ≡ true → lacks 10 (w ++ p ++ codes " " ++ s) ≡ true
words_lack w p s a h b =
    lacks-append 10 (w ++ p ++ codes " ") s (lacks-append 10 (w ++ p) (codes " ") (lacks-append 10 w p a (path_lacks 10 refl p h)) refl) b

pub line_lacks : (e : EventData) → IsSpellable e → lacks 10 (first_line e) ≡ true
line_lacks (put p t) h = words_lack (codes "put ") p (decimal (length t)) refl h.0 (number_lacks 10 (length t) (omega arith) h.2)
line_lacks (del p) h = lacks-append 10 (codes "del ") p refl (path_lacks 10 refl p h)
line_lacks (move p q) h = words_lack (codes "move ") p q refl h.0 (path_lacks 10 refl q h.1)
line_lacks (patch p i j t) h = words_lack (codes "patch ") p (numbers_text i j (length t)) refl h.0 (numbers_lack i j (length t) h.1 h.2 h.4)
line_lacks commit h = refl

-- the line at a spelling's start
pub same_line : (e : EventData) (line behind s : List ℕ) → IsSpellable e → lacks 10 line ≡ true → line ++ 10 ∷ behind ≡ event_text e ++ s → (line ≡ first_line e) × (behind ≡ behind_line e ++ s)
same_line e line behind s fits absent is = cut_once 10 line (first_line e) behind (behind_line e ++ s) absent (line_lacks e fits) (is ∙ spelled e s)

words_line : (w p d : List ℕ) → w ++ p ++ codes " " ++ d ≡ w ++ (p ++ 32 ∷ d)
words_line w p d = simp append_assoc

-- the words of a line, behind the first
pub line_words : (w p d words : List ℕ) → w ++ words ≡ w ++ p ++ codes " " ++ d → words ≡ p ++ 32 ∷ d
line_words w p d words e = append_cancel_left w words (p ++ 32 ∷ d) (e ∙ words_line w p d)

pub line_first : (w p d words : List ℕ) → words ≡ p ++ 32 ∷ d → w ++ words ≡ w ++ p ++ codes " " ++ d
line_first w p d words e = ap (λ l. w ++ l) e ∙ sym (words_line w p d)

pub text_regroup : (t s : List ℕ) → (t ++ 10 ∷ []) ++ s ≡ t ++ 10 ∷ s
text_regroup t s = append_assoc t (10 ∷ []) s

-- the first two bytes of a spelling
abbrev initials : List ℕ → ℕ
initials l = get_or l 0 0 * 256 + get_or l 1 0

abbrev begun : EventData → ℕ
begun (put p t) = 28789
begun (del p) = 25701
begun (move p q) = 28015
begun (patch p i j t) = 28769
begun commit = 25455

begins : (e : EventData) (s : List ℕ) → initials (event_text e ++ s) ≡ begun e
begins (put p t) s = refl
begins (del p) s = refl
begins (move p q) s = refl
begins (patch p i j t) s = refl
begins commit s = refl

apart : (e f : EventData) (a b : List ℕ) → event_text e ++ a ≡ event_text f ++ b → ◌≢◌ (begun e) (begun f) → ⊥
apart e f a b is differ = differ (sym (begins e a) ∙ (ap initials is ∙ begins f b))

some_begun : (e : EventData) → 0 < begun e
some_begun (put p t) = omega arith
some_begun (del p) = omega arith
some_begun (move p q) = omega arith
some_begun (patch p i j t) = omega arith
some_begun commit = omega arith

pub not_empty : (e : EventData) (s : List ℕ) → [] ≡ event_text e ++ s → ⊥
not_empty e s is = let h = ap initials is ∙ begins e s in absurd (omega (arith, h, some_begun e))

-- two paths, or paths and what follows them, cut at the first blank
pub paths_cut : (p q a b : List ℕ) → is_path p ≡ true → is_path q ≡ true → p ++ 32 ∷ a ≡ q ++ 32 ∷ b → (p ≡ q) × (a ≡ b)
paths_cut p q a b g h is = cut_once 32 p q a b (path_lacks 32 refl p g) (path_lacks 32 refl q h) is

pub number_cut : (m n : ℕ) (a b : List ℕ) → IsSpelledNumber m → IsSpelledNumber n → decimal m ++ 32 ∷ a ≡ decimal n ++ 32 ∷ b → (m ≡ n) × (a ≡ b)
number_cut m n a b g h is =
    let (digits, rest) = cut_once 32 (decimal m) (decimal n) a b (number_lacks 32 m (omega arith) g) (number_lacks 32 n (omega arith) h) is in
    (decimal_injective m n (small m g) (small n h) digits, rest)

pub numbers_words : (i j n : ℕ) → numbers_text i j n ≡ decimal i ++ 32 ∷ (decimal j ++ 32 ∷ decimal n)
numbers_words i j n = words_line (decimal i ++ codes " ") (decimal j) (decimal n) ∙ append_assoc (decimal i) (codes " ") (decimal j ++ 32 ∷ decimal n)

pub numbers_cut : (i j n k l m : ℕ) → IsSpelledNumber i → IsSpelledNumber j → IsSpelledNumber n → IsSpelledNumber k → IsSpelledNumber l → IsSpelledNumber m → numbers_text i j n ≡ numbers_text k l m → (i ≡ k) × (j ≡ l) × (n ≡ m)
numbers_cut i j n k l m hi hj hn hk hl hm is =
    let (a, rest) = number_cut i k (decimal j ++ 32 ∷ decimal n) (decimal l ++ 32 ∷ decimal m) hi hk (sym (numbers_words i j n) ∙ (is ∙ numbers_words k l m)) in
    let (b, last) = number_cut j l (decimal n) (decimal m) hj hl rest in
    (a, b, decimal_injective n m (small n hn) (small m hm) last)

same_patch : (p q : List ℕ) (i j k l : ℕ) (t u : List ℕ) → p ≡ q → i ≡ k → j ≡ l → t ≡ u → patch p i j t ≡ patch q k l u
same_patch p q i j k l t u a b c d = λ x. patch (a x) (b x) (c x) (d x)

-- no spelling is a prefix of another's
pub same_front_event : (e f : EventData) (a b : List ℕ) → IsSpellable e → IsSpellable f → event_text e ++ a ≡ event_text f ++ b → (e ≡ f) × (a ≡ b)
same_front_event (put p t) (put q u) a b g h is =
    let (line, behind) = same_line (put q u) (first_line (put p t)) (behind_line (put p t) ++ a) b h (line_lacks (put p t) g) (sym (spelled (put p t) a) ∙ is) in
    let words = line_words (codes "put ") q (decimal (length u)) (p ++ 32 ∷ decimal (length t)) (sym (words_line (codes "put ") p (decimal (length t))) ∙ line) in
    let (path, digits) = paths_cut p q (decimal (length t)) (decimal (length u)) g.0 h.0 words in
    let size = decimal_injective (length t) (length u) (small (length t) g.2) (small (length u) h.2) digits in
    let (text, rest) = same_front t u (10 ∷ a) (10 ∷ b) size (sym (text_regroup t a) ∙ (behind ∙ text_regroup u b)) in
    (ap₂ put path text, cc)
same_front_event (del p) (del q) a b g h is =
    let (line, behind) = same_line (del q) (first_line (del p)) a b h (line_lacks (del p) g) (sym (spelled (del p) a) ∙ is) in
    (ap del (append_cancel_left (codes "del ") p q line), behind)
same_front_event (move p q) (move r s) a b g h is =
    let (line, behind) = same_line (move r s) (first_line (move p q)) a b h (line_lacks (move p q) g) (sym (spelled (move p q) a) ∙ is) in
    let words = line_words (codes "move ") r s (p ++ 32 ∷ q) (sym (words_line (codes "move ") p q) ∙ line) in
    let (first, second) = paths_cut p r q s g.0 h.0 words in
    (ap₂ move first second, behind)
same_front_event (patch p i j t) (patch q k l u) a b g h is =
    let (line, behind) = same_line (patch q k l u) (first_line (patch p i j t)) (behind_line (patch p i j t) ++ a) b h (line_lacks (patch p i j t) g) (sym (spelled (patch p i j t) a) ∙ is) in
    let here = numbers_text i j (length t) in
    let words = line_words (codes "patch ") q (numbers_text k l (length u)) (p ++ 32 ∷ here) (sym (words_line (codes "patch ") p here) ∙ line) in
    let (path, numbers) = paths_cut p q here (numbers_text k l (length u)) g.0 h.0 words in
    let (start, end, size) = numbers_cut i j (length t) k l (length u) g.1 g.2 g.4 h.1 h.2 h.4 numbers in
    let (text, rest) = same_front t u (10 ∷ a) (10 ∷ b) size (sym (text_regroup t a) ∙ (behind ∙ text_regroup u b)) in
    (same_patch p q i j k l t u path start end text, cc)
same_front_event commit commit a b g h is = (refl, append_cancel_left (codes "commit\n") a b is)
same_front_event e f a b g h is = absurd (apart e f a b is (omega arith))

low-ascii : (bs : List ℕ) → list_all (λ b. nat_lt b 128) bs ≡ true → IsAscii bs
low-ascii [] h i = omega arith
low-ascii (x ∷ bs) h zero = let (p, q) = both (nat_lt x 128) (list_all (λ b. nat_lt b 128) bs) h in grind (arith, nat_tests, p)
low-ascii (x ∷ bs) h (suc i) = let (p, q) = both (nat_lt x 128) (list_all (λ b. nat_lt b 128) bs) h in low-ascii bs q i

byte_low : (b : ℕ) → is_byte b ≡ true → nat_lt b 128 ≡ true
byte_low b h = grind (arith, nat_tests, h)

path_utf8 : (p : List ℕ) → is_path p ≡ true → IsUtf8 p
path_utf8 p h = IsUtf8-from_ascii p (low-ascii p (all_weaker is_byte (λ b. nat_lt b 128) byte_low p (path_bytes p h)))

line_end : IsUtf8 (codes "\n")
line_end = IsUtf8-from_ascii (codes "\n") (low-ascii (codes "\n") refl)

ascii_utf8 : (bs : List ℕ) → list_all (λ b. nat_lt b 128) bs ≡ true → IsUtf8 bs
ascii_utf8 bs h = IsUtf8-from_ascii bs (low-ascii bs h)

number_utf8 : (n : ℕ) → IsSpelledNumber n → IsUtf8 (decimal n)
number_utf8 n h = IsUtf8-from_ascii (decimal n) (IsAscii-decimal n (small n h))

-- a word, a path, a blank and what follows it
words_utf8 : (w p s : List ℕ) → list_all (λ b. nat_lt b 128) w ≡ true → is_path p ≡ true → IsUtf8 s → IsUtf8 (w ++ p ++ codes " " ++ s)
words_utf8 w p s a h b =
    IsUtf8-append (w ++ p ++ codes " ") s (IsUtf8-append (w ++ p) (codes " ") (IsUtf8-append w p (ascii_utf8 w a) (path_utf8 p h)) (ascii_utf8 (codes " ") refl)) b

numbers_utf8 : (i j n : ℕ) → IsSpelledNumber i → IsSpelledNumber j → IsSpelledNumber n → IsUtf8 (numbers_text i j n)
numbers_utf8 i j n a b h =
    IsUtf8-append (decimal i ++ codes " " ++ decimal j ++ codes " ") (decimal n)
    (IsUtf8-append (decimal i ++ codes " " ++ decimal j) (codes " ")
    (IsUtf8-append (decimal i ++ codes " ") (decimal j) (IsUtf8-append (decimal i) (codes " ") (number_utf8 i a) (ascii_utf8 (codes " ") refl)) (number_utf8 j b))
    (ascii_utf8 (codes " ") refl))
    (number_utf8 n h)

line_utf8 : (e : EventData) → IsSpellable e → IsUtf8 (first_line e)
line_utf8 (put p t) h = words_utf8 (codes "put ") p (decimal (length t)) refl h.0 (number_utf8 (length t) h.2)
line_utf8 (del p) h = IsUtf8-append (codes "del ") p (ascii_utf8 (codes "del ") refl) (path_utf8 p h)
line_utf8 (move p q) h = words_utf8 (codes "move ") p q refl h.0 (path_utf8 q h.1)
line_utf8 (patch p i j t) h = words_utf8 (codes "patch ") p (numbers_text i j (length t)) refl h.0 (numbers_utf8 i j (length t) h.1 h.2 h.4)
line_utf8 commit h = ascii_utf8 (codes "commit") refl

behind_utf8 : (e : EventData) → IsSpellable e → IsUtf8 (behind_line e)
behind_utf8 (put p t) h = IsUtf8-append t (codes "\n") h.1 line_end
behind_utf8 (del p) h = IsUtf8-nil
behind_utf8 (move p q) h = IsUtf8-nil
behind_utf8 (patch p i j t) h = IsUtf8-append t (codes "\n") h.3 line_end
behind_utf8 commit h = IsUtf8-nil

-- a spelling as a line and what stands after it
parts : (e : EventData) → first_line e ++ (10 ∷ [] ++ behind_line e) ≡ event_text e
parts e = ap (λ l. first_line e ++ 10 ∷ l) (sym (append-nil (behind_line e))) ∙ (sym (spelled e []) ∙ append-nil (event_text e))

pub event_utf8 : (e : EventData) → IsSpellable e → IsUtf8 (event_text e)
event_utf8 e h = subst IsUtf8 (parts e) (IsUtf8-append (first_line e) (10 ∷ [] ++ behind_line e) (line_utf8 e h) (IsUtf8-append (10 ∷ []) (behind_line e) line_end (behind_utf8 e h)))

pub events_utf8 : (version : Version) (es : List EventData) → AllByRecursion (HasSpelling version) es → IsUtf8 (flat_map event_text es)
events_utf8 version [] h = IsUtf8-nil
events_utf8 version (e ∷ es) h = IsUtf8-append (event_text e) (flat_map event_text es) (event_utf8 e h.0.1) (events_utf8 version es h.1)

header_utf8 : (version : Version) → IsUtf8 (header version)
header_utf8 First = ascii_utf8 (header First) refl
header_utf8 Second = ascii_utf8 (header Second) refl

pub script_utf8 : (bytes : List ℕ) (es : List EventData) → IsScript bytes es → IsUtf8 bytes
script_utf8 bytes es h =
    let version = h.0 in
    subst IsUtf8 (sym h.1.0) (IsUtf8-append (header version) (flat_map event_text es) (header_utf8 version) (events_utf8 version es h.1.1))

-- the words of a line, cut at the first blank
pub path_cut : (words path rest p s : List ℕ) → IsFirstCut 32 words path rest → is_path p ≡ true → words ≡ p ++ 32 ∷ s → (path ≡ p) × (rest ≡ s)
path_cut words path rest p s cut fits is = cut_once 32 path p rest s cut.0 (path_lacks 32 refl p fits) (sym cut.1 ∙ is)

pub digits_cut : (words digits rest : List ℕ) (n : ℕ) (s : List ℕ) → IsFirstCut 32 words digits rest → IsSpelledNumber n → words ≡ decimal n ++ 32 ∷ s → (digits ≡ decimal n) × (rest ≡ s)
digits_cut words digits rest n s cut small is = cut_once 32 digits (decimal n) rest s cut.0 (number_lacks 32 n (omega arith) small) (sym cut.1 ∙ is)

-- where what follows a patch's line does not go on as it says, no patch stands there
pub no_patch : (line behind words path : List ℕ) (i j n : ℕ) (p : List ℕ) (k l : ℕ) (t rest : List ℕ) → line ≡ codes "patch " ++ words → words ≡ path ++ 32 ∷ numbers_text i j n → is_path path ≡ true → IsSpelledNumber i → IsSpelledNumber j → IsSpelledNumber n
    → ((front back : List ℕ) → length front ≡ n → behind ≡ front ++ 10 ∷ back → ⊥) → IsSpellable (patch p k l t) → line ≡ first_line (patch p k l t) → behind ≡ t ++ 10 ∷ rest → ⊥
no_patch line behind words path i j n p k l t rest is words_are good a b d absent fits line_is behind_is =
    let there = numbers_text k l (length t) in
    let spelled_so = line_words (codes "patch ") p there words (sym is ∙ line_is) in
    let (same, numbers) = paths_cut path p (numbers_text i j n) there good fits.0 (sym words_are ∙ spelled_so) in
    let (start, end, size) = numbers_cut i j n k l (length t) a b d fits.1 fits.2 fits.4 numbers in
    absent t rest (sym size) behind_is

pub true_or_false : {P : Type 0} (b : Bool) → b ≡ true → b ≡ false → P
true_or_false b p q = absurd (cc)

-- where nothing is answered
pub none_case : {X : Type 0} (o : Option X) (P : Type 0) (Q : X → Type 0) → o ≡ None → P → MatchOption o P Q
none_case o P Q e p = subst (λ x. MatchOption x P Q) (sym e) p

-- what stands at a text's start, by its first line
pub event_found : (version : Version) (text line behind : List ℕ) (r : Option (Event × Bor (List ℕ))) → IsFirstCut 10 text line behind
    → MatchOption r ((e : EventData) → (rest : List ℕ) → HasSpelling version e → line ≡ first_line e → behind ≡ behind_line e ++ rest → ⊥) (λ p. (line ≡ first_line (event_view p.0)) × (behind ≡ behind_line (event_view p.0) ++ p.1.now) × HasSpelling version (event_view p.0))
    → MatchOption r ((e : EventData) → (rest : List ℕ) → HasSpelling version e → text ≡ event_text e ++ rest → ⊥) (λ p. (text ≡ event_text (event_view p.0) ++ p.1.now) × HasSpelling version (event_view p.0))
event_found version text line behind None cut h = λ e rest fits is. let (a, b) = same_line e line behind rest fits.1 cut.0 (sym cut.1 ∙ is) in h e rest fits a b
event_found version text line behind (Some p) cut h = (cut.1 ∙ (ap₂ (λ x y. x ++ 10 ∷ y) h.0 h.1 ∙ sym (spelled (event_view p.0) p.1.now)), h.2)
