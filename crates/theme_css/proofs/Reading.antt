-- Reading a sheet line by line.
use Rattle.std.proofs.Common.{◌≡◌, ◌∙◌, ◌<◌, ◌+◌, ℕ, Bool, true, false, List, [], ◌∷◌, ◌++◌, length, take, drop, get_or, ◌==◌, ◌-◌, Bor, Option, Some, None, codes, refl, sym, ap, subst, arith, append_assoc, append-nil}
use Rattle.std.specs.Prelude.{fold, if◌then◌else◌, IfSome, MatchOption}
use Rattle.std.specs.Str.{bytes_eq}
use Rattle.std.proofs.lemmas.Bool.Decides.{nat_tests}
use Rattle.std.proofs.lemmas.Slice.Eq.{bytes_eq-Decides}
use Rattle.std.specs.List.{list_all}
use Rattle.std.proofs.lemmas.List.{length-append, take_more, take-append-drop}
use Rattle.css_out.specs.Reading.{in_name}
use Rattle.css_out.specs.Spelling.{omitted_text}
use Rattle.theme_css.specs.Cascade.{Declaration}
use Rattle.theme_css.specs.Sheet.{IsLine, Lines, declares, is_over, is_plain, line_text, next_standing, no_lines, omits}
use Rattle.theme_css.specs.declared.own.Standing.{Standing}
use Rattle.theme_css.specs.declared.own.Standing.TheVariants.{Plain, Slashed, Quoted, Escaped, Over}
use Rattle.theme_css.specs.inner.Pages.{ReadsOn}

open_quoted : (b d : Bool) → is_over (if b then Plain else if d then Escaped else Quoted) ≡ true → ⊥
open_quoted true d h = cc
open_quoted false true h = cc
open_quoted false false h = cc

-- only a byte outside of strings ends a value
pub ended_plain : (s : Standing) (c : ℕ) → is_over (next_standing s c) ≡ true → is_over s ≡ false → is_plain s ≡ true
ended_plain Plain c h k = refl
ended_plain Slashed c h k = refl
ended_plain Quoted c h k = absurd (open_quoted (c == 34) (c == 92) h)
ended_plain Escaped c h k = cc
ended_plain Over c h k = cc

fold-append : {X Y : Type 0} (f : Y → X → Y) (y : Y) (xs : List X) (x : X) → fold f y (xs ++ x ∷ []) ≡ f (fold f y xs) x
fold-append f y [] x = refl
fold-append f y (z ∷ zs) x = fold-append f (f y z) zs x

pub one_more : (text : List ℕ) (i : ℕ) (d : ℕ) (s next : Standing) → i < length text → s ≡ fold next_standing Plain (take i text) → next ≡ next_standing s (get_or text i d) → next ≡ fold next_standing Plain (take (i + 1) text)
one_more text i d s next below is e =
    e ∙ (ap (λ z. next_standing z (get_or text i d)) is ∙ (sym (fold-append next_standing Plain (take i text) (get_or text i d)) ∙ ap (fold next_standing Plain) (sym (take_more text i d below))))

-- the parts of a line
pub line_whole : (text n v rest inside behind valued end : List ℕ) → text ≡ codes "  " ++ inside → inside ≡ n ++ behind → behind ≡ codes ": " ++ valued → valued ≡ v ++ end → end ≡ codes ";\n" ++ rest
    → text ≡ line_text (record { name = n; value = v }) ++ rest
line_whole text n v rest inside behind valued end a b c d e =
    a ∙ (ap (λ l. codes "  " ++ l) (b ∙ ap (λ l. n ++ l) (c ∙ ap (λ l. codes ": " ++ l) (d ∙ ap (λ l. v ++ l) e)))
    ∙ rw (append_assoc n (codes ": " ++ (v ++ codes ";\n")) rest, append_assoc v (codes ";\n") rest) refl)

pub omitted_whole : (text n rest named behind : List ℕ) → text ≡ codes "  /* omitted " ++ named → named ≡ n ++ behind → behind ≡ codes " */\n" ++ rest → text ≡ omitted_text n ++ rest
omitted_whole text n rest named behind a b c =
    a ∙ (ap (λ l. codes "  /* omitted " ++ l) (b ∙ ap (λ l. n ++ l) c) ∙ rw (append_assoc n (codes " */\n") rest) refl)

pub reads_line : (text rest : List ℕ) (old new : List Declaration) (d : Declaration) → text ≡ line_text d ++ rest → IsLine d → new ≡ old ++ d ∷ [] → ReadsOn text rest old new
reads_line text rest old new d whole line e = (d ∷ [], e, λ ds lines. subst (λ t. Lines t (d ∷ ds)) (sym whole) (declares d rest ds line lines))

pub reads_omitted : (text rest : List ℕ) (old : List Declaration) (name : List ℕ) → text ≡ omitted_text name ++ rest → list_all in_name name ≡ true → ReadsOn text rest old old
reads_omitted text rest old name whole named = ([], sym (append-nil old), λ ds lines. subst (λ t. Lines t ds) (sym whole) (omits name rest ds named lines))

pub line_shorter : (text rest : List ℕ) (d : Declaration) → text ≡ line_text d ++ rest → length rest < length text
line_shorter text rest d whole = omega (arith, ap length whole, length-append (line_text d) rest)

pub omitted_shorter : (text rest name : List ℕ) → text ≡ omitted_text name ++ rest → length rest < length text
omitted_shorter text rest name whole = omega (arith, ap length whole, length-append (omitted_text name) rest)

-- what was read, and one line more
pub read_more : (text rest next : List ℕ) (old new : List Declaration) → ((ds : List Declaration) → Lines rest ds → Lines text (old ++ ds)) → ReadsOn rest next old new
    → (ds : List Declaration) → Lines next ds → Lines text (new ++ ds)
read_more text rest next old new before on ds lines =
    let (more, e, reads) = on in
    subst (λ l. Lines text l) (sym (append_assoc old more ds) ∙ ap (λ l. l ++ ds) (sym e)) (before (more ++ ds) (reads ds lines))

-- fronts and ends of texts
pub after_front : (r : Option (Bor (List ℕ))) (text front : List ℕ) (P : Type 0) → MatchOption r P (λ x. (bytes_eq (take (length front) text) front ≡ true) × (x.now ≡ drop (length front) text) × (length x.now + length front ≡ length text))
    → IfSome r (λ rest. text ≡ front ++ rest.now)
after_front None text front P h = tt
after_front (Some x) text front P (m, e, n) =
    sym (take-append-drop (length front) text)
    ∙ (ap (λ l. l ++ drop (length front) text) ((bytes_eq-Decides (take (length front) text) front).0 m) ∙ ap (λ l. front ++ l) (sym e))

pub before_end : (r : Option (Bor (List ℕ))) (text end : List ℕ) (P : Type 0)
    → MatchOption r P (λ x. (bytes_eq (drop (length text - length end) text) end ≡ true) × (x.now ≡ take (length text - length end) text) × (length x.now + length end ≡ length text))
    → IfSome r (λ rest. text ≡ rest.now ++ end)
before_end None text end P h = tt
before_end (Some x) text end P (m, e, n) =
    sym (take-append-drop (length text - length end) text)
    ∙ (ap (λ l. take (length text - length end) text ++ l) ((bytes_eq-Decides (drop (length text - length end) text) end).0 m) ∙ ap (λ l. l ++ end) (sym e))

pub none_left : (n : ℕ) → true ≡ (n == 0) → n ≡ 0
none_left n e = grind (arith, nat_tests, e)

-- the lines that were read, where nothing is left
pub read_whole : (text rest : List ℕ) (ds : List Declaration) → length rest ≡ 0 → ((es : List Declaration) → Lines rest es → Lines text (ds ++ es)) → Lines text ds
read_whole text [] ds e h = subst (λ (l : List Declaration). Lines text l) (append-nil ds) (h [] no_lines)
read_whole text (c ∷ rest) ds e h = absurd (omega (arith, e))
