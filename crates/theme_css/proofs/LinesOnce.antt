-- A sheet declares one list of declarations, read line by line.
use Rattle.std.proofs.Common.{◌≡◌, ℕ, Bool, true, false, List, [], ◌∷◌, ◌++◌, codes, refl, sym, ◌∙◌, ap₂, subst, arith}
use Rattle.std.specs.List.{list_all}
use Rattle.std.proofs.lemmas.List.{append_cancel_left, append_cancel_right}
use Rattle.dec_fix.proofs.Again.{both}
use Rattle.transforms.proofs.RunsAreFirst.{runs_once}
use Rattle.css_out.specs.Reading.{in_name, head, foot}
use Rattle.css_out.specs.Spelling.{omitted_text}
use Rattle.theme_css.specs.Cascade.{Declaration}
use Rattle.theme_css.specs.Sheet.{Declares, IsLine, Lines, no_lines, declares, omits, is_plain, line_text, next_standing}
use Rattle.theme_css.specs.declared.own.Standing.{Standing}
use Rattle.theme_css.specs.declared.own.Standing.TheVariants.{Plain, Slashed, Quoted, Escaped, Over}
use Rattle.theme_css.proofs.LinesAreRead.{line_apart, omitted_apart}
use Rattle.theme_css.proofs.ValuesEnd.{ClosedFrom, never}

-- Values.

ends_here : (s : Standing) (v : List ℕ) → is_plain s ≡ true → ClosedFrom s (59 ∷ v) → ⊥
ends_here Plain v h i = never v i
ends_here Slashed v h i = never v i
ends_here Quoted v h i = cc
ends_here Escaped v h i = cc
ends_here Over v h i = cc

closed_once : (s : Standing) (v w r t : List ℕ) → ClosedFrom s v → ClosedFrom s w → v ++ 59 ∷ r ≡ w ++ 59 ∷ t → (v ≡ w) × (r ≡ t)
closed_once s [] [] r t h i e = let tails : r ≡ t = cc in (refl, tails)
closed_once s [] (c ∷ w) r t h i e =
    let first : c ≡ 59 = cc in
    let P : ℕ → Type 0 = λ x. ClosedFrom s (x ∷ w) in
    absurd (ends_here s w h (subst P first i))
closed_once s (c ∷ v) [] r t h i e =
    let first : c ≡ 59 = cc in
    let P : ℕ → Type 0 = λ x. ClosedFrom s (x ∷ v) in
    absurd (ends_here s v i (subst P first h))
closed_once s (c ∷ v) (d ∷ w) r t h i e =
    let first : d ≡ c = cc in
    let rest : v ++ 59 ∷ r ≡ w ++ 59 ∷ t = cc in
    let P : ℕ → Type 0 = λ x. ClosedFrom s (x ∷ w) in
    let more = closed_once (next_standing s c) v w r t h (subst P first i) rest in
    (ap₂ (λ (x : ℕ) (l : List ℕ). x ∷ l) (sym first) more.0, more.1)

-- Lines.

one_declaration : (d e : Declaration) (r t : List ℕ) → IsLine d → IsLine e → line_text d ++ r ≡ line_text e ++ t → (d ≡ e) × (r ≡ t)
one_declaration d e r t h i same =
    let x = 32 ∷ (d.value ++ 59 ∷ 10 ∷ r) in
    let y = 32 ∷ (e.value ++ 59 ∷ 10 ∷ t) in
    let apart : 32 ∷ 32 ∷ (d.name ++ 58 ∷ x) ≡ 32 ∷ 32 ∷ (e.name ++ 58 ∷ y) = sym (line_apart d.name d.value r) ∙ (same ∙ line_apart e.name e.value t) in
    let inside : d.name ++ 58 ∷ x ≡ e.name ++ 58 ∷ y = cc in
    let names = runs_once in_name d.name e.name 58 x y h.name i.name refl inside in
    let valued : d.value ++ 59 ∷ 10 ∷ r ≡ e.value ++ 59 ∷ 10 ∷ t = let z : x ≡ y = names.1 in cc in
    let values = closed_once Plain d.value e.value (10 ∷ r) (10 ∷ t) h.value.closed i.value.closed valued in
    let tails : r ≡ t = let z = values.1 in cc in
    (ap₂ (λ (n v : List ℕ). record { name = n; value = v }) names.0 values.0, tails)

-- a line that declares is no comment
not_first : (p : ℕ → Bool) (a b : ℕ) (n r t : List ℕ) → (a ≡ b → ⊥) → p b ≡ false → list_all p n ≡ true → n ++ a ∷ r ≡ b ∷ t → ⊥
not_first p a b [] r t apart other h e = let first : a ≡ b = cc in apart first
not_first p a b (c ∷ n) r t apart other h e =
    let first : c ≡ b = cc in
    let P : ℕ → Type 0 = λ x. p x ≡ true in
    let yes : p b ≡ true = subst P first (both (p c) (list_all p n) h).0 in
    cc

colon_apart : ◌≡◌ {A = ℕ} 58 47 → ⊥
colon_apart e = omega (arith, e)

no_slash : (n r t : List ℕ) → list_all in_name n ≡ true → n ++ 58 ∷ r ≡ 47 ∷ t → ⊥
no_slash n r t h e = not_first in_name 58 47 n r t colon_apart refl h e

no_comment : (d : Declaration) (n r t : List ℕ) → IsLine d → line_text d ++ r ≡ omitted_text n ++ t → ⊥
no_comment d n r t h same =
    let x = 32 ∷ (d.value ++ 59 ∷ 10 ∷ r) in
    let y = 42 ∷ 32 ∷ (codes "omitted " ++ (n ++ 32 ∷ 42 ∷ 47 ∷ 10 ∷ t)) in
    let apart : 32 ∷ 32 ∷ (d.name ++ 58 ∷ x) ≡ 32 ∷ 32 ∷ 47 ∷ y = sym (line_apart d.name d.value r) ∙ (same ∙ omitted_apart n t) in
    let inside : d.name ++ 58 ∷ x ≡ 47 ∷ y = cc in
    no_slash d.name x y h.name inside

one_omitted : (n m r t : List ℕ) → list_all in_name n ≡ true → list_all in_name m ≡ true → omitted_text n ++ r ≡ omitted_text m ++ t → r ≡ t
one_omitted n m r t h i same =
    let x = codes "omitted " ++ (n ++ 32 ∷ 42 ∷ 47 ∷ 10 ∷ r) in
    let y = codes "omitted " ++ (m ++ 32 ∷ 42 ∷ 47 ∷ 10 ∷ t) in
    let apart : 32 ∷ 32 ∷ 47 ∷ 42 ∷ 32 ∷ x ≡ 32 ∷ 32 ∷ 47 ∷ 42 ∷ 32 ∷ y = sym (omitted_apart n r) ∙ (same ∙ omitted_apart m t) in
    let inside : x ≡ y = cc in
    let named : n ++ 32 ∷ 42 ∷ 47 ∷ 10 ∷ r ≡ m ++ 32 ∷ 42 ∷ 47 ∷ 10 ∷ t = append_cancel_left (codes "omitted ") (n ++ 32 ∷ 42 ∷ 47 ∷ 10 ∷ r) (m ++ 32 ∷ 42 ∷ 47 ∷ 10 ∷ t) inside in
    let tails = (runs_once in_name n m 32 (42 ∷ 47 ∷ 10 ∷ r) (42 ∷ 47 ∷ 10 ∷ t) h i refl named).1 in
    cc

line_there : (d : Declaration) (r : List ℕ) → [] ≡ line_text d ++ r → ⊥
line_there d r e = cc

omitted_there : (n r : List ℕ) → [] ≡ omitted_text n ++ r → ⊥
omitted_there n r e = cc

pub lines_once : {s : List ℕ} {ds : List Declaration} → Lines s ds → {t : List ℕ} {es : List Declaration} → Lines t es → s ≡ t → ds ≡ es
lines_once no_lines no_lines e = refl
lines_once no_lines (declares d r ds line lines) e = absurd (line_there d r e)
lines_once no_lines (omits n r ds named lines) e = absurd (omitted_there n r e)
lines_once (declares d r ds line lines) no_lines e = absurd (line_there d r (sym e))
lines_once (declares d r ds line lines) (declares f t es other more) e =
    let one = one_declaration d f r t line other e in
    ap₂ (λ (x : Declaration) (l : List Declaration). x ∷ l) one.0 (lines_once lines more one.1)
lines_once (declares d r ds line lines) (omits n t es named more) e = absurd (no_comment d n r t line e)
lines_once (omits n r ds named lines) no_lines e = absurd (omitted_there n r (sym e))
lines_once (omits n r ds named lines) (declares f t es other more) e = absurd (no_comment f n t r other (sym e))
lines_once (omits n r ds named lines) (omits m t es others more) e = lines_once lines more (one_omitted n m r t named others e)

pub declares_once : (bytes other : List ℕ) (ds es : List Declaration) → bytes ≡ other → Declares bytes ds → Declares other es → ds ≡ es
declares_once bytes other ds es e h i =
    let same : head ++ (h.inside ++ foot) ≡ head ++ (i.inside ++ foot) = sym h.frame ∙ (e ∙ i.frame) in
    lines_once h.lines i.lines (append_cancel_right h.inside i.inside foot (append_cancel_left head (h.inside ++ foot) (i.inside ++ foot) same))
