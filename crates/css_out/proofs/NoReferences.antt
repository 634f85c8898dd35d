-- Where references are not spelled as such, the lines of a token are its values.
use Rattle.std.proofs.Common.{◌≡◌, ℕ, ◌+◌, Bool, true, false, List, [], ◌∷◌, ◌++◌, map, refl, sym, ◌∙◌, ap, None}
use Rattle.std.specs.Prelude.{if◌then◌else◌, ⊤}
use Rattle.std.specs.List.{AllByRecursion}
use Rattle.name_path.specs.declared.kind.Kind.{Kind}
use Rattle.name_path.specs.declared.link.Link.{Link}
use Rattle.transforms.specs.Config.{Settings}
use Rattle.composite_rules.specs.declared.gradient.ColorStop.{ColorStop}
use Rattle.composite_rules.specs.declared.shadow.ShadowItem.{ShadowItem}
use Rattle.composite_rules.specs.declared.typed.Typed.{Typed}
use Rattle.composite_rules.specs.declared.typed.Typed.TheVariants as typed
use Rattle.css_out.specs.Parts.{Part, plain, linked, shown, own, NamedParts, declaration, own_value, as_declared}
use Rattle.css_out.specs.Piece.{Mark, mark}
use Rattle.css_out.specs.PlatformValue.{can_spell, css_values}
use Rattle.css_out.specs.Fragment.{css_name, behind_commas, listed_parts, is_only, item_part, shadow_parts, stop_parts, lines_of, entries, fragment_entries}
use Rattle.css_out.proofs.RoundsEnd.{marks-append}
use Rattle.css_out.proofs.OwnValues.{own_values}

abbrev IsPlain : Part → Type 0
IsPlain (plain marks) = ⊤
IsPlain (linked name marks) = ⊥

abbrev ArePlain : List Part → Type 0
ArePlain parts = AllByRecursion IsPlain parts

plain-append : (ps qs : List Part) → ArePlain ps → ArePlain qs → ArePlain (ps ++ qs)
plain-append [] qs h i = i
plain-append (p ∷ ps) qs h i = (h.0, plain-append ps qs h.1 i)

-- plain parts are shown as their own marks
plain_shown : (ps : List Part) → ArePlain ps → shown ps ≡ map mark (own ps)
plain_shown [] h = refl
plain_shown (plain marks ∷ ps) h = ap (λ t. map mark marks ++ t) (plain_shown ps h.1) ∙ sym (marks-append marks (own ps))
plain_shown (linked name marks ∷ ps) h = absurd h.0

module _ {A : Type 0} (f : ℕ → A → List Part) (each : (i : ℕ) (x : A) → ArePlain (f i x)) where
  plain_behind : (i : ℕ) (xs : List A) → ArePlain (behind_commas f i xs)
  plain_behind i [] = tt
  plain_behind i (x ∷ xs) = (tt, plain-append (f i x) (behind_commas f (i + 1) xs) (each i x) (plain_behind (i + 1) xs))

  plain_listed : (xs : List A) → ArePlain (listed_parts f xs)
  plain_listed [] = tt
  plain_listed (x ∷ xs) = plain-append (f 0 x) (behind_commas f 1 xs) (each 0 x) (plain_behind 1 xs)

module _ (prefix : List ℕ) where
  plain_item : (only : Bool) (i : ℕ) (name : List ℕ) (k : Kind) (marks : List Mark) → IsPlain (item_part prefix [] only i name k marks)
  plain_item true i name k marks = tt
  plain_item false i name k marks = tt

  plain_shadow : (only : Bool) (i : ℕ) (s : ShadowItem) → ArePlain (shadow_parts prefix [] only i s)
  plain_shadow true i s = (tt, (tt, (tt, (tt, (tt, (tt, tt))))))
  plain_shadow false i s = (tt, (tt, (tt, (tt, (tt, (tt, tt))))))

  plain_stop : (only : Bool) (i : ℕ) (s : ColorStop) → ArePlain (stop_parts prefix [] only i s)
  plain_stop only i s = (tt, (tt, tt))

  abbrev PlainLines : List NamedParts → Type 0
  PlainLines es = AllByRecursion (λ e. ArePlain e.parts) es

  plain_lines : (name : List ℕ) (v : Typed) → PlainLines (lines_of prefix [] name None v)
  plain_lines name (typed.Simple s) = ((tt, tt), tt)
  plain_lines name (typed.StrokeStyle s) = ((tt, tt), tt)
  plain_lines name (typed.Border b) = ((tt, (tt, (tt, tt))), tt)
  plain_lines name (typed.Transition t) = ((tt, (tt, (tt, tt))), tt)
  plain_lines name (typed.Shadow items) = (plain_listed (shadow_parts prefix [] (is_only items)) (plain_shadow (is_only items)) items, tt)
  plain_lines name (typed.Gradient stops) = (plain_listed (stop_parts prefix [] (is_only stops)) (plain_stop (is_only stops)) stops, tt)
  plain_lines name (typed.Typography t) = ((tt, tt), ((tt, tt), ((tt, tt), ((tt, tt), ((tt, tt), tt)))))

  plain_if : (b : Bool) (es : List NamedParts) → PlainLines es → PlainLines (if b then es else [])
  plain_if true es h = h
  plain_if false es h = tt

  plain_entries : (name : List ℕ) (v : Typed) → PlainLines (entries prefix [] name v)
  plain_entries name v = plain_if (can_spell v) (lines_of prefix [] name None v) (plain_lines name v)

  plain_declared : (es : List NamedParts) → PlainLines es → map declaration es ≡ map as_declared (map own_value es)
  plain_declared [] h = refl
  plain_declared (e ∷ es) h =
      let first : declaration e ≡ as_declared (own_value e) = ap (λ ps. record { name = e.name; pieces = ps }) (plain_shown e.parts h.0) in
      ap (λ d. d ∷ map declaration es) first ∙ ap (λ ds. as_declared (own_value e) ∷ ds) (plain_declared es h.1)

  declared_alone : (name : List ℕ) (v : Typed) → map declaration (entries prefix [] name v) ≡ map as_declared (css_values name v)
  declared_alone name v = plain_declared (entries prefix [] name v) (plain_entries name v) ∙ ap (map as_declared) (own_values prefix [] name v)

no_links : (b : Bool) (links : List Link) → b ≡ false → (if b then links else []) ≡ []
no_links true links h = cc
no_links false links h = refl

pub no_references : (settings : Settings) (path : List (List ℕ)) (links : List Link) (v : Typed) → settings.references ≡ false
    → map declaration (fragment_entries settings path links v) ≡ map as_declared (css_values (css_name settings.prefix path) v)
no_references settings path links v h =
    ap (λ ls. map declaration (entries settings.prefix ls (css_name settings.prefix path) v)) (no_links settings.references links h)
    ∙ declared_alone settings.prefix (css_name settings.prefix path) v
