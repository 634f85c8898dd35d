-- What is spelled is read as it is.
use Rattle.std.proofs.Common.{◌≡◌, ℕ, ◌==◌, not, Bool, true, false, List, [], ◌∷◌, ◌++◌, flat_map, refl, sym, subst, append_assoc, codes, Some, arith}
use Rattle.std.specs.List.{list_all, AllByRecursion}
use Rattle.dec_fix.proofs.Again.{both}
use Rattle.transforms.specs.PlatformName.{is_kept, is_identifier}
use Rattle.transforms.specs.declared.platform.Platform.TheVariants.{Android}
use Rattle.transforms.proofs.Endings.{kept_name}
use Rattle.android_out.specs.Element.{Content, Values, tag_of, element_text}
use Rattle.android_out.proofs.ElementsAreTagged.{tagged}
use Rattle.android_out.specs.Reading.{content_in, no_markup, IsElement, after_comment, Block, ended, blank_byte, comment, element}
use Rattle.android_out.specs.Spelling.{content_text, line_text, omitted_text, body_text}

-- a name and a content that are read as they are spelled
pub record IsSpellable (v : List ℕ × Content) : Type 0 where
  pub named : is_identifier v.0 ≡ true
  pub plain : list_all no_markup (content_text v.1) ≡ true
  pub says : content_in (tag_of v.1) (content_text v.1) ≡ Some v.1

line_read : (v : List ℕ × Content) (t : List ℕ) (ws : Values) → IsSpellable v → Block t ws → Block (line_text v ++ t) (v ∷ ws)
line_read v t ws h b =
    let text = element_text (tag_of v.1) v.0 (content_text v.1) in
    let is : IsElement text v.0 v.1 = record { inside = content_text v.1; whole = sym (tagged (tag_of v.1) v.0 (content_text v.1)); named = h.named; plain = h.plain; says = h.says } in
    let regroup : (text ++ codes "\n") ++ t ≡ text ++ (10 ∷ t) = append_assoc text (codes "\n") t in
    let behind : Block (10 ∷ t) ws = blank_byte (10 ∷ t) 10 t ws refl refl b in
    let whole : Block ((text ++ codes "\n") ++ t) (v ∷ ws) = element ((text ++ codes "\n") ++ t) text v.0 (10 ∷ t) v.1 ws regroup is behind in
    blank_byte _ 32 (32 ∷ ((text ++ codes "\n") ++ t)) (v ∷ ws) refl refl (blank_byte _ 32 ((text ++ codes "\n") ++ t) (v ∷ ws) refl refl whole)

lines_read : (vs : Values) → AllByRecursion IsSpellable vs → Block (flat_map line_text vs) vs
lines_read [] h = ended [] refl
lines_read (v ∷ vs) h = line_read v (flat_map line_text vs) vs h.0 (lines_read vs h.1)

-- a comment
abbrev no_hyphen : ℕ → Bool
no_hyphen c = not (c == 45)

past : (s t : List ℕ) → list_all no_hyphen s ≡ true → after_comment (s ++ (45 ∷ 45 ∷ 62 ∷ t)) ≡ Some t
past [] t h = refl
past (c ∷ []) t h = let l = both (no_hyphen c) true h in let a : (c == 45) ≡ false = grind (arith, l.0) in rw a refl
past (c ∷ d ∷ []) t h =
    let l = both (no_hyphen c) (list_all no_hyphen (d ∷ [])) h in let a : (c == 45) ≡ false = grind (arith, l.0) in rw a (past (d ∷ []) t l.1)
past (c ∷ d ∷ e ∷ s) t h =
    let l = both (no_hyphen c) (list_all no_hyphen (d ∷ e ∷ s)) h in let a : (c == 45) ≡ false = grind (arith, l.0) in rw a (past (d ∷ e ∷ s) t l.1)

named_no_hyphen : (n : List ℕ) → list_all (is_kept Android) n ≡ true → list_all no_hyphen (n ++ codes " ") ≡ true
named_no_hyphen [] h = refl
named_no_hyphen (c ∷ n) h =
    let l = both (is_kept Android c) (list_all (is_kept Android) n) h in let a : no_hyphen c ≡ true = grind (arith, l.0) in rw a (named_no_hyphen n l.1)

omitted_read : (n : List ℕ) → is_identifier n ≡ true → Block (omitted_text n) []
omitted_read n h =
    let inside = codes " omitted " ++ (n ++ codes " -->\n") in
    let P : List ℕ → Type 0 = λ s. after_comment (codes " omitted " ++ s) ≡ Some (codes "\n") in
    let closes : after_comment inside ≡ Some (codes "\n") =
    subst P (append_assoc n (codes " ") (codes "-->\n")) (past (codes " omitted " ++ (n ++ codes " ")) (codes "\n") (named_no_hyphen n (kept_name n h))) in
    let end : Block (codes "\n") [] = blank_byte (codes "\n") 10 [] [] refl refl (ended [] refl) in
    let whole = codes "<!--" ++ inside in
    blank_byte _ 32 (32 ∷ whole) [] refl refl (blank_byte _ 32 whole [] refl refl (comment whole inside (codes "\n") [] refl closes end))

pub body_read : (n : List ℕ) (vs : Values) → is_identifier n ≡ true → AllByRecursion IsSpellable vs → Block (body_text n vs) vs
body_read n [] h all = omitted_read n h
body_read n (v ∷ vs) h all = lines_read (v ∷ vs) all
