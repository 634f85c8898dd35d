-- The lines of a certificate, piece by piece.
use Rattle.std.proofs.Common.{◌≡◌, ◌≢◌, ℕ, ◌<◌, ◌≤◌, ◌^◌, true, List, [], ◌∷◌, ◌++◌, codes, length, not, eqb, refl, sym, ap, subst, ◌∙◌, append_assoc, append-nil, arith}
use Rattle.std.proofs.lemmas.List.{append_cancel_left}
use Rattle.std.specs.Char.{digit_value}
use Rattle.std.specs.Fmt.{decimal}
use Rattle.std.specs.List.{AllByRecursion, flat_map, list_all}
use Rattle.edit_script.specs.Script.{is_path}
use Rattle.edit_script.proofs.Spelled.{path_lacks, decimal_lacks}
use Rattle.name_path.proofs.Escaping.{distinct}
use Rattle.name_path.specs.declared.place.Place.{Place}
use Rattle.certificates.specs.Certificate.{HopFits, cert_text, end_line, end_words, hop_line, hop_words, is_permutation_byte, is_permutation_name, place_string, span_words, way_text}
use Rattle.certificates.specs.declared.certificate.Cert.{Cert}
use Rattle.certificates.specs.declared.certificate.Hop.{Hop}
use Rattle.certificates.specs.declared.certificate.Spot.{Spot}
use Rattle.certificates.specs.inner.Fronts.{Lacks}
use Rattle.certificates.proofs.Cutting.{both, failing, tested}

three : (f s e rest : List ℕ) → (f ++ codes " " ++ s ++ codes " " ++ e) ++ 10 ∷ rest ≡ f ++ 32 ∷ (s ++ 32 ∷ (e ++ 10 ∷ rest))
three f s e rest = simp append_assoc

-- a span and its line end
pub span_parts : (spot : Spot) (rest : List ℕ) → span_words spot ++ 10 ∷ rest ≡ spot.file ++ 32 ∷ (decimal spot.start ++ 32 ∷ (decimal spot.end ++ 10 ∷ rest))
span_parts spot rest = three spot.file (decimal spot.start) (decimal spot.end) rest

two_places : (p t s rest : List ℕ) → (p ++ codes " " ++ t ++ codes " " ++ s ++ codes "\n") ++ rest ≡ p ++ 32 ∷ (t ++ 32 ∷ (s ++ 10 ∷ rest))
two_places p t s rest = simp append_assoc

pub hop_parts : (hop : Hop) (rest : List ℕ) → hop_words hop ++ rest ≡ place_string hop.spot.place ++ 32 ∷ (place_string hop.target ++ 32 ∷ (span_words hop.spot ++ 10 ∷ rest))
hop_parts hop rest = two_places (place_string hop.spot.place) (place_string hop.target) (span_words hop.spot) rest

one_place : (p s : List ℕ) → p ++ codes " " ++ s ++ codes "\n" ≡ p ++ 32 ∷ (s ++ 10 ∷ [])
one_place p s = simp append_assoc

pub end_parts : (last : Spot) → end_words last ≡ place_string last.place ++ 32 ∷ (span_words last ++ 10 ∷ [])
end_parts last = one_place (place_string last.place) (span_words last)

all_lines : (p f w : List ℕ) → codes "tokc-explain 1\n" ++ codes "permutation " ++ p ++ codes "\n" ++ codes "from " ++ f ++ codes "\n" ++ w ≡ codes "tokc-explain 1\npermutation " ++ (p ++ (codes "\nfrom " ++ (f ++ (codes "\n" ++ w))))
all_lines p f w = simp append_assoc

pub cert_parts : (perm : List ℕ) (cert : Cert) → cert_text perm cert ≡ codes "tokc-explain 1\npermutation " ++ (perm ++ (codes "\nfrom " ++ (place_string cert.from ++ (codes "\n" ++ way_text cert))))
cert_parts perm cert = all_lines perm (place_string cert.from) (way_text cert)

appended : (o p f w : List ℕ) → (((((((o ++ codes "tokc-explain 1\n") ++ codes "permutation ") ++ p) ++ codes "\n") ++ codes "from ") ++ f) ++ codes "\n") ++ w
    ≡ o ++ (codes "tokc-explain 1\n" ++ codes "permutation " ++ p ++ codes "\n" ++ codes "from " ++ f ++ codes "\n" ++ w)
appended o p f w = simp append_assoc

-- what a certificate's pieces come to, appended one after another
pub cert_printed : (o o1 o2 o3 o4 o5 o6 o7 o8 p f w : List ℕ) → o1 ≡ o ++ codes "tokc-explain 1\n" → o2 ≡ o1 ++ codes "permutation " → o3 ≡ o2 ++ p → o4 ≡ o3 ++ codes "\n" → o5 ≡ o4 ++ codes "from " → o6 ≡ o5 ++ f → o7 ≡ o6 ++ codes "\n"
    → o8 ≡ o7 ++ w → o8 ≡ o ++ (codes "tokc-explain 1\n" ++ codes "permutation " ++ p ++ codes "\n" ++ codes "from " ++ f ++ codes "\n" ++ w)
cert_printed o o1 o2 o3 o4 o5 o6 o7 o8 p f w e1 e2 e3 e4 e5 e6 e7 e8 =
    let onto : List ℕ → List ℕ → List ℕ = λ z x. x ++ z in
    (e8
    ∙ ap (onto w) (e7 ∙ ap (onto (codes "\n")) (e6 ∙ ap (onto f) (e5 ∙ ap (onto (codes "from ")) (e4 ∙ ap (onto (codes "\n")) (e3 ∙ ap (onto p) (e2 ∙ ap (onto (codes "permutation ")) e1)))))))
    ∙ appended o p f w

-- no name has a line end
pub name_lacks : (perm : List ℕ) → is_permutation_name perm ≡ true → Lacks 10 perm
name_lacks perm h = failing is_permutation_byte 10 refl perm (both (not (eqb (length perm) 0)) (list_all is_permutation_byte perm) h).1

-- no path has a blank, and no number a blank or a line end
pub file_lacks : (file : List ℕ) → is_path file ≡ true → Lacks 32 file
file_lacks file h = tested 32 file (path_lacks 32 refl file h)

pub number_lacks : (mark n : ℕ) → 10 ≤ digit_value mark → n < 2 ^ 32 → Lacks mark (decimal n)
number_lacks mark n absent h = tested mark (decimal n) (decimal_lacks mark n absent (omega (arith, h)))

pub spot_is : (s : Spot) (p : Place) (f : List ℕ) (a b : ℕ) → p ≡ s.place → f ≡ s.file → a ≡ s.start → b ≡ s.end → record { place = p; file = f; start = a; end = b } ≡ s
spot_is s p f a b e g h k = λ i. record { place = e i; file = g i; start = h i; end = k i }

pub hop_is : (h : Hop) (s : Spot) (t : Place) → s ≡ h.spot → t ≡ h.target → record { spot = s; target = t } ≡ h
hop_is h s t e g = λ i. record { spot = e i; target = g i }

pub cert_is : (c : Cert) (p : Place) (hs : List Hop) (s : Spot) → p ≡ c.from → hs ≡ c.hops → s ≡ c.last → record { from = p; hops = hs; last = s } ≡ c
cert_is c p hs s e g h = λ i. record { from = e i; hops = g i; last = h i }

-- The hops that the text spells are those that were read and those that are left.
pub record HopsLeft (read : List Hop) (left : List ℕ) (all : List Hop) (last : Spot) : Type 0 where
  pub more : List Hop
  pub whole : all ≡ read ++ more
  pub fits : AllByRecursion HopFits more
  pub spelled : left ≡ flat_map hop_line more ++ end_line last

abbrev pub AreReadTo : List ℕ → List Hop → List ℕ → Type 0
AreReadTo text read left = (all : List Hop) (last : Spot) → AllByRecursion HopFits all → text ≡ flat_map hop_line all ++ end_line last → HopsLeft read left all last

pub read_no_hop : (text : List ℕ) → AreReadTo text [] text
read_no_hop text all last fits e = record { more = all; whole = refl; fits = fits; spelled = e }

-- where a hop's line begins, a hop is left
pub record NextHop (more : List Hop) (last : Spot) (words : List ℕ) : Type 0 where
  pub hop : Hop
  pub hops : List Hop
  pub whole : more ≡ hop ∷ hops
  pub spelled : words ≡ hop_words hop ++ (flat_map hop_line hops ++ end_line last)

next_hop : (more : List Hop) (last : Spot) (words : List ℕ) → codes "hop " ++ words ≡ flat_map hop_line more ++ end_line last → NextHop more last words
next_hop [] last words e = absurd (distinct 104 101 (cc) refl)
next_hop (h ∷ hs) last words e =
    let k : codes "hop " ++ words ≡ codes "hop " ++ (hop_words h ++ (flat_map hop_line hs ++ end_line last)) = e ∙ append_assoc (hop_line h) (flat_map hop_line hs) (end_line last) in
    record { hop = h; hops = hs; whole = refl; spelled = append_cancel_left (codes "hop ") words (hop_words h ++ (flat_map hop_line hs ++ end_line last)) k }

shift : (read : List Hop) (h : Hop) (hs : List Hop) → read ++ h ∷ hs ≡ (read ++ h ∷ []) ++ hs
shift read h hs = sym (append_assoc read (h ∷ []) hs)

-- one line more
pub hop_read : (text : List ℕ) (read : List Hop) (left words : List ℕ) (hop : Hop) (rest : List ℕ) (new : List Hop) → AreReadTo text read left → left ≡ codes "hop " ++ words
    → ((h : Hop) (r : List ℕ) → HopFits h → words ≡ hop_words h ++ r → (hop ≡ h) × (rest ≡ r)) → new ≡ read ++ hop ∷ [] → AreReadTo text new rest
hop_read text read left words hop rest new h cut found grown all last fits e =
    let before = h all last fits e in
    let next = next_hop before.more last words (sym cut ∙ before.spelled) in
    let each : AllByRecursion HopFits (next.hop ∷ next.hops) = subst (λ (z : List Hop). AllByRecursion HopFits z) next.whole before.fits in
    let (same, follows) = found next.hop (flat_map hop_line next.hops ++ end_line last) each.0 next.spelled in
    record {
      more = next.hops;
      whole =
          before.whole
          ∙ (ap (λ (z : List Hop). read ++ z) next.whole
          ∙ (shift read next.hop next.hops ∙ ap (λ (z : List Hop). z ++ next.hops) (ap (λ (z : Hop). read ++ z ∷ []) (sym same) ∙ sym grown)));
      fits = each.1;
      spelled = follows;
    }

-- where a hop's line begins, that hop is spelled
pub record HopAt (words : List ℕ) : Type 0 where
  pub hop : Hop
  pub rest : List ℕ
  pub fits : HopFits hop
  pub spelled : words ≡ hop_words hop ++ rest

pub hop_at : (text : List ℕ) (read : List Hop) (left words : List ℕ) (all : List Hop) (last : Spot) → AreReadTo text read left → left ≡ codes "hop " ++ words → AllByRecursion HopFits all
    → text ≡ flat_map hop_line all ++ end_line last → HopAt words
hop_at text read left words all last h cut fits e =
    let before = h all last fits e in
    let next = next_hop before.more last words (sym cut ∙ before.spelled) in
    let each : AllByRecursion HopFits (next.hop ∷ next.hops) = subst (λ (z : List Hop). AllByRecursion HopFits z) next.whole before.fits in
    record { hop = next.hop; rest = flat_map hop_line next.hops ++ end_line last; fits = each.0; spelled = next.spelled }

pub fits_push : (hops : List Hop) (hop : Hop) → AllByRecursion HopFits hops → HopFits hop → AllByRecursion HopFits (hops ++ hop ∷ [])
fits_push [] hop h fits = (fits, tt)
fits_push (x ∷ hops) hop h fits = (h.0, fits_push hops hop h.1 fits)

-- where no hop's line begins, no hop is left
pub hops_read : (text : List ℕ) (read : List Hop) (left : List ℕ) (all : List Hop) (last : Spot) → AreReadTo text read left → ((rest : List ℕ) → left ≢ codes "hop " ++ rest)
    → AllByRecursion HopFits all → text ≡ flat_map hop_line all ++ end_line last → (read ≡ all) × (left ≡ end_line last)
hops_read text read left all last h none fits e = (let before = h all last fits e in from before.more before.whole before.spelled)
  where
    from : (more : List Hop) → all ≡ read ++ more → left ≡ flat_map hop_line more ++ end_line last → (read ≡ all) × (left ≡ end_line last)
    from [] whole spelled = (sym (append-nil read) ∙ sym whole, spelled)
    from (hop ∷ hops) whole spelled = absurd (none (hop_words hop ++ (flat_map hop_line hops ++ end_line last)) (spelled ∙ append_assoc (hop_line hop) (flat_map hop_line hops) (end_line last)))
