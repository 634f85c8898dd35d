-- Each part that is spelled by a name comes from a link.
use Rattle.std.proofs.Common.{◌≡◌, ℕ, zero, suc, ◌+◌, ◌^◌, ◌<◌, ◌≤◌, ◌==◌, ◌&&◌, Bool, true, false, List, [], ◌∷◌, ◌++◌, map, length, refl, sym, ◌∙◌, ap, subst, Option, Some, None, option_map, codes, inl, inr, arith}
use Rattle.std.specs.Prelude.{if◌then◌else◌, slice_get, option_and_then}
use Rattle.std.specs.Fmt.{decimal}
use Rattle.std.specs.List.{AllByRecursion}
use Rattle.std.specs.Option.{option_or}
use Rattle.std.specs.Str.{bytes_eq}
use Rattle.std.proofs.lemmas.Bool.Decides.{nat_tests}
use Rattle.std.proofs.lemmas.Option.{slice_get-map}
use Rattle.std.proofs.lemmas.Slice.Eq.{bytes_eq-Decides}
use Rattle.name_path.specs.Kinds.{kind_name}
use Rattle.name_path.specs.declared.kind.Kind.{Kind}
use Rattle.name_path.specs.declared.kind.Kind.TheVariants as kind
use Rattle.name_path.specs.declared.link.Link.{Link}
use Rattle.type_rules.specs.Trails.{item_at}
use Rattle.type_rules.specs.Words.{meaning}
use Rattle.type_rules.specs.declared.simple.Simple.TheVariants as simple
use Rattle.type_rules.proofs.Standing.{items_stand}
use Rattle.transforms.specs.FiveNames.{family_end, size_end, weight_end, spacing_end, height_end}
use Rattle.transforms.specs.declared.platform.Platform.TheVariants.{Css}
use Rattle.composite_rules.specs.Parts.{Row, color_part, size_part, time_part, shadow_row, stop_row, only_row, part_at}
use Rattle.composite_rules.specs.Sound.{kind_of}
use Rattle.composite_rules.specs.declared.border.Border.{Border}
use Rattle.composite_rules.specs.declared.gradient.ColorStop.{ColorStop}
use Rattle.composite_rules.specs.declared.shadow.ShadowItem.{ShadowItem}
use Rattle.composite_rules.specs.declared.transition.Transition.{Transition}
use Rattle.composite_rules.specs.declared.typed.Typed.{Typed}
use Rattle.composite_rules.specs.declared.typed.Typed.TheVariants as typed
use Rattle.composite_rules.specs.declared.typography.Typography.{Typography}
use Rattle.ring.specs.Lists.{In}
use Rattle.css_out.specs.Piece.{Mark}
use Rattle.css_out.specs.Parts.{Part, NamedParts}
use Rattle.css_out.specs.Links.{same_trail, is_kind, link_for, item_link}
use Rattle.css_out.specs.PlatformValue.{size_marks, time_marks, number_marks, curve_marks, color_marks, families_marks, simple_marks, stroke_marks, border_marks, transition_marks, listed, shadow_marks, stop_marks, can_spell, all_values, css_values}
use Rattle.css_out.specs.Fragment.{css_name, linked_or_plain, unless_linked, behind_commas, listed_parts, is_only, border_parts, transition_parts, shadow_parts, stop_parts, typography_part, lines_of, entries}
use Rattle.css_out.specs.Sources.{IsFrom, ComesFrom, HasRoom}

both : (a b : Bool) → a && b ≡ true → (a ≡ true) × (b ≡ true)
both true b h = (refl, h)
both false b h = cc

-- a kind by its name
abbrev kind_named : List ℕ → Option Kind
kind_named n =
    if bytes_eq n (kind_name kind.Color) then Some kind.Color
    else if bytes_eq n (kind_name kind.Dimension) then Some kind.Dimension
    else if bytes_eq n (kind_name kind.FontFamily) then Some kind.FontFamily
    else if bytes_eq n (kind_name kind.FontWeight) then Some kind.FontWeight
    else if bytes_eq n (kind_name kind.Duration) then Some kind.Duration
    else if bytes_eq n (kind_name kind.CubicBezier) then Some kind.CubicBezier
    else if bytes_eq n (kind_name kind.Number) then Some kind.Number
    else if bytes_eq n (kind_name kind.StrokeStyle) then Some kind.StrokeStyle
    else if bytes_eq n (kind_name kind.Border) then Some kind.Border
    else if bytes_eq n (kind_name kind.Transition) then Some kind.Transition
    else if bytes_eq n (kind_name kind.Shadow) then Some kind.Shadow
    else if bytes_eq n (kind_name kind.Gradient) then Some kind.Gradient
    else Some kind.Typography

kind_again : (k : Kind) → kind_named (kind_name k) ≡ Some k
kind_again kind.Color = refl
kind_again kind.Dimension = refl
kind_again kind.FontFamily = refl
kind_again kind.FontWeight = refl
kind_again kind.Duration = refl
kind_again kind.CubicBezier = refl
kind_again kind.Number = refl
kind_again kind.StrokeStyle = refl
kind_again kind.Border = refl
kind_again kind.Transition = refl
kind_again kind.Shadow = refl
kind_again kind.Gradient = refl
kind_again kind.Typography = refl

kinds_same : (a : Option Kind) (b : Kind) → is_kind a b ≡ true → a ≡ Some b
kinds_same None b h = cc
kinds_same (Some a) b h =
    let names : kind_name a ≡ kind_name b = (bytes_eq-Decides (kind_name a) (kind_name b)).0 h in
    sym (kind_again a) ∙ ap kind_named names ∙ kind_again b

trails_same : (a b : List (List ℕ)) → same_trail a b ≡ true → a ≡ b
trails_same [] [] h = refl
trails_same [] (y ∷ ys) h = cc
trails_same (x ∷ xs) [] h = cc
trails_same (x ∷ xs) (y ∷ ys) h =
    let l = both (bytes_eq x y) (same_trail xs ys) h in
    let first : x ≡ y = (bytes_eq-Decides x y).0 l.0 in
    rw (first) (ap (λ t. y ∷ t) (trails_same xs ys l.1))

-- a link that was found
record IsFound (links : List Link) (trail : List (List ℕ)) (k : Kind) (u : List (List ℕ)) : Type 0 where
  link : Link
  listed : In link links
  at : link.trail ≡ trail
  kind : link.kind ≡ Some k
  target : link.target ≡ u

chosen : (b : Bool) (l : Link) (ls : List Link) (trail : List (List ℕ)) (k : Kind) (u : List (List ℕ)) → is_kind l.kind k && same_trail l.trail trail ≡ b
    → (if b then Some l.target else link_for ls trail k) ≡ Some u → (link_for ls trail k ≡ Some u → IsFound ls trail k u) → IsFound (l ∷ ls) trail k u
chosen true l ls trail k u t h again =
    let p = both (is_kind l.kind k) (same_trail l.trail trail) t in
    let same : l.target ≡ u = cc in
    record { link = l; listed = inl refl; at = trails_same l.trail trail p.1; kind = kinds_same l.kind k p.0; target = same }
chosen false l ls trail k u t h again =
    let f = again h in record { link = f.link; listed = inr f.listed; at = f.at; kind = f.kind; target = f.target }

found : (ls : List Link) (trail : List (List ℕ)) (k : Kind) (u : List (List ℕ)) → link_for ls trail k ≡ Some u → IsFound ls trail k u
found [] trail k u h = cc
found (l ∷ ls) trail k u h = chosen (is_kind l.kind k && same_trail l.trail trail) l ls trail k u refl h (found ls trail k u)

module _ (prefix : List ℕ) (links : List Link) (v : Typed) where
  from : (x : Typed) (trail u : List (List ℕ)) (name : List ℕ) (ms : List Mark) → link_for links trail (kind_of x) ≡ Some u
      → part_at v trail ≡ Some x → In (name, ms) (css_values (css_name prefix u) x) → IsFrom prefix links v name ms
  from x trail u name ms h stands among =
      let f = found links trail (kind_of x) u h in
      let P : List (List ℕ) → Type 0 = λ t. part_at v t ≡ Some x in
      let Q : List (List ℕ) → Type 0 = λ t. In (name, ms) (css_values (css_name prefix t) x) in
      record { link = f.link; listed = f.listed; there = x; stands = subst P (sym f.at) stands; kind = f.kind; among = subst Q (sym f.target) among }

  -- a value of one name under any name
  abbrev IsOne : Typed → List Mark → Type 0
  IsOne x ms = (n : List ℕ) → In (n, ms) (css_values n x)

  part_from : (x : Typed) (trail : List (List ℕ)) (ms : List Mark) (o : Option (List (List ℕ))) → link_for links trail (kind_of x) ≡ o
      → part_at v trail ≡ Some x → IsOne x ms → ComesFrom prefix links v (linked_or_plain prefix o ms)
  part_from x trail ms None h stands one = tt
  part_from x trail ms (Some u) h stands one = from x trail u (css_name prefix u) ms h stands (one (css_name prefix u))

  unless_from : (ms : List Mark) (ps : List Part) (o : Option (List (List ℕ))) → link_for links [] (kind_of v) ≡ o → IsOne v ms
      → AllByRecursion (ComesFrom prefix links v) ps → AllByRecursion (ComesFrom prefix links v) (unless_linked prefix o ms ps)
  unless_from ms ps None h one parts = parts
  unless_from ms ps (Some u) h one parts = (from v [] u (css_name prefix u) ms h refl (one (css_name prefix u)), tt)

  or_from : (x : Typed) (ms : List Mark) (a b : List (List ℕ)) (o p : Option (List (List ℕ))) → link_for links a (kind_of x) ≡ o → link_for links b (kind_of x) ≡ p
      → part_at v a ≡ Some x → part_at v b ≡ Some x → IsOne x ms → ComesFrom prefix links v (linked_or_plain prefix (option_or o p) ms)
  or_from x ms a b None p h i s t one = part_from x b ms p i t one
  or_from x ms a b (Some u) p h i s t one = part_from x a ms (Some u) h s one

  -- a member of an item, of which only the item of a list of one may stand without an index
  item_from : (x : Typed) (ms : List Mark) (only : Bool) (index name : List ℕ) → (only ≡ true → part_at v (name ∷ []) ≡ Some x)
      → part_at v (index ∷ name ∷ []) ≡ Some x → IsOne x ms → ComesFrom prefix links v (linked_or_plain prefix (item_link links only index name (kind_of x)) ms)
  item_from x ms true index name s t one =
      or_from x ms (name ∷ []) (index ∷ name ∷ []) (link_for links (name ∷ []) (kind_of x)) (link_for links (index ∷ name ∷ []) (kind_of x)) refl refl (s refl) t one
  item_from x ms false index name s t one = part_from x (index ∷ name ∷ []) ms (link_for links (index ∷ name ∷ []) (kind_of x)) refl t one

  all-append : (ps qs : List Part) → AllByRecursion (ComesFrom prefix links v) ps → AllByRecursion (ComesFrom prefix links v) qs → AllByRecursion (ComesFrom prefix links v) (ps ++ qs)
  all-append [] qs h i = i
  all-append (p ∷ ps) qs h i = (h.0, all-append ps qs h.1 i)

  module _ {A : Type 0} (f : ℕ → A → List Part) where
    behind_from : (i : ℕ) (xs : List A) → ((k : ℕ) (x : A) → slice_get xs k ≡ Some x → AllByRecursion (ComesFrom prefix links v) (f (i + k) x))
        → AllByRecursion (ComesFrom prefix links v) (behind_commas f i xs)
    behind_from i [] each = tt
    behind_from i (x ∷ xs) each =
        let here : i + 0 ≡ i = omega arith in
        let P : ℕ → Type 0 = λ n. AllByRecursion (ComesFrom prefix links v) (f n x) in (
          tt,
          all-append (f i x) (behind_commas f (i + 1) xs) (subst P here (each 0 x refl)) (behind_from (i + 1) xs (λ k y e.
              let there : i + suc k ≡ (i + 1) + k = omega arith in
              let Q : ℕ → Type 0 = λ n. AllByRecursion (ComesFrom prefix links v) (f n y) in
              subst Q there (each (suc k) y e))),
        )

    listed_from : (xs : List A) → ((k : ℕ) (x : A) → slice_get xs k ≡ Some x → AllByRecursion (ComesFrom prefix links v) (f k x))
        → AllByRecursion (ComesFrom prefix links v) (listed_parts f xs)
    listed_from [] each = tt
    listed_from (x ∷ xs) each = all-append (f 0 x) (behind_commas f 1 xs) (each 0 x refl) (behind_from 1 xs (λ k y e.
        let there : suc k ≡ 1 + k = omega arith in
        let Q : ℕ → Type 0 = λ n. AllByRecursion (ComesFrom prefix links v) (f n y) in
        subst Q there (each (suc k) y e)))

border_from : (prefix : List ℕ) (links : List Link) (b : Border) → can_spell (typed.Border b) ≡ true → AllByRecursion (ComesFrom prefix links (typed.Border b)) (border_parts prefix links b)
border_from prefix links b h =
    let v = typed.Border b in (
      part_from prefix links v (size_part b.width) (codes "width" ∷ []) (size_marks b.width) (link_for links (codes "width" ∷ []) kind.Dimension) refl refl (λ n. inl refl),
      (
        part_from prefix links v (typed.StrokeStyle b.style) (codes "style" ∷ []) (stroke_marks b.style) (link_for links (codes "style" ∷ []) kind.StrokeStyle) refl refl (λ n. rw h (inl refl)),
        (part_from prefix links v (color_part b.color) (codes "color" ∷ []) (color_marks b.color) (link_for links (codes "color" ∷ []) kind.Color) refl refl (λ n. inl refl), tt),
      ),
    )

transition_from : (prefix : List ℕ) (links : List Link) (t : Transition) → AllByRecursion (ComesFrom prefix links (typed.Transition t)) (transition_parts prefix links t)
transition_from prefix links t =
    let v = typed.Transition t in (
      part_from prefix links v (time_part t.duration) (codes "duration" ∷ []) (time_marks t.duration) (link_for links (codes "duration" ∷ []) kind.Duration) refl refl (λ n. inl refl),
      (
        part_from prefix links v (typed.Simple (simple.CubicBezier t.timing)) (codes "timingFunction" ∷ []) (curve_marks t.timing) (link_for links (codes "timingFunction" ∷ []) kind.CubicBezier) refl refl (λ n. inl refl),
        (part_from prefix links v (time_part t.delay) (codes "delay" ∷ []) (time_marks t.delay) (link_for links (codes "delay" ∷ []) kind.Duration) refl refl (λ n. inl refl), tt),
      ),
    )

-- items
below : {A : Type 0} (xs : List A) (k : ℕ) (x : A) → slice_get xs k ≡ Some x → k < length xs
below [] k x e = cc
below (y ∷ ys) zero x e = omega arith
below (y ∷ ys) (suc k) x e = let less : k < length ys = below ys k x e in omega (arith, less)

two_not_one : (n : ℕ) → (suc (suc n) == 1) ≡ true → ⊥
two_not_one n h = grind (arith, nat_tests)

only_item : {A : Type 0} (xs : List A) (k : ℕ) (x : A) → slice_get xs k ≡ Some x → is_only xs ≡ true → xs ≡ x ∷ []
only_item [] k x e h = cc
only_item (y ∷ []) zero x e h = let same : y ≡ x = cc in ap (λ z. z ∷ []) same
only_item (y ∷ []) (suc k) x e h = cc
only_item (y ∷ z ∷ ys) k x e h = absurd (two_not_one (length ys) h)

length_map : {A B : Type 0} (f : A → B) (xs : List A) → length (map f xs) ≡ length xs
length_map f [] = refl
length_map f (x ∷ xs) = ap suc (length_map f xs)

row_at : {A : Type 0} (row : A → Row) (xs : List A) (k : ℕ) (x : A) → length xs ≤ 2 ^ 64 → slice_get xs k ≡ Some x → item_at (decimal k) 0 (map row xs) ≡ Some (row x)
row_at row xs k x room e =
    let same = length_map row xs in
    let low : k < length xs = below xs k x e in
    items_stand (map row xs) k (omega (arith, same, room)) (omega (arith, same, low)) ∙ slice_get-map row xs k ∙ ap (option_map row) e

shadow_from : (prefix : List ℕ) (links : List Link) (items : List ShadowItem) → length items ≤ 2 ^ 64 → (k : ℕ) (s : ShadowItem) → slice_get items k ≡ Some s
    → AllByRecursion (ComesFrom prefix links (typed.Shadow items)) (shadow_parts prefix links (is_only items) k s)
shadow_from prefix links items room k s e =
    let v = typed.Shadow items in
    let only = is_only items in
    let row : item_at (decimal k) 0 (map shadow_row items) ≡ Some (shadow_row s) = row_at shadow_row items k s room e in
    let in_list : (name : List ℕ) → part_at v (decimal k ∷ name ∷ []) ≡ meaning (shadow_row s) name = λ name. ap (λ o. option_and_then (λ r. meaning r name) o) row in
    let alone : (name : List ℕ) → is_only items ≡ true → part_at v (name ∷ []) ≡ meaning (shadow_row s) name = λ name h. ap (λ xs. meaning (only_row xs) name) (only_item items k s e h) in (
      tt,
      (
        item_from prefix links v (size_part s.offset_x) (size_marks s.offset_x) only (decimal k) (codes "offsetX") (λ h. alone (codes "offsetX") h) (in_list (codes "offsetX")) (λ n. inl refl),
        (
          item_from prefix links v (size_part s.offset_y) (size_marks s.offset_y) only (decimal k) (codes "offsetY") (λ h. alone (codes "offsetY") h) (in_list (codes "offsetY")) (λ n. inl refl),
          (
            item_from prefix links v (size_part s.blur) (size_marks s.blur) only (decimal k) (codes "blur") (λ h. alone (codes "blur") h) (in_list (codes "blur")) (λ n. inl refl),
            (
              item_from prefix links v (size_part s.spread) (size_marks s.spread) only (decimal k) (codes "spread") (λ h. alone (codes "spread") h) (in_list (codes "spread")) (λ n. inl refl),
              (item_from prefix links v (color_part s.color) (color_marks s.color) only (decimal k) (codes "color") (λ h. alone (codes "color") h) (in_list (codes "color")) (λ n. inl refl), tt),
            ),
          ),
        ),
      ),
    )

stop_from : (prefix : List ℕ) (links : List Link) (stops : List ColorStop) → length stops ≤ 2 ^ 64 → (k : ℕ) (s : ColorStop) → slice_get stops k ≡ Some s
    → AllByRecursion (ComesFrom prefix links (typed.Gradient stops)) (stop_parts prefix links (is_only stops) k s)
stop_from prefix links stops room k s e =
    let v = typed.Gradient stops in
    let row : item_at (decimal k) 0 (map stop_row stops) ≡ Some (stop_row s) = row_at stop_row stops k s room e in
    let stands : part_at v (decimal k ∷ codes "color" ∷ []) ≡ Some (color_part s.color) = ap (λ o. option_and_then (λ r. meaning r (codes "color")) o) row in
    (item_from prefix links v (color_part s.color) (color_marks s.color) false (decimal k) (codes "color") (λ h. cc) stands (λ n. inl refl), (tt, tt))

-- typographies
module _ (prefix : List ℕ) (links : List Link) (t : Typography) (spelled : can_spell (typed.Typography t) ≡ true) where
  typography_from : (x : Typed) (member ending : List ℕ) (ms : List Mark) (o half : Option (List (List ℕ))) → link_for links [] kind.Typography ≡ o → link_for links (member ∷ []) (kind_of x) ≡ half
      → part_at (typed.Typography t) (member ∷ []) ≡ Some x → ((n : List ℕ) → In (n, ms) (css_values n x)) → ((n : List ℕ) → In (n ++ ending, ms) (css_values n (typed.Typography t)))
      → AllByRecursion (ComesFrom prefix links (typed.Typography t)) (typography_part prefix links (option_map (css_name prefix) o) member (kind_of x) ending ms ∷ [])
  typography_from x member ending ms None half h i stands a b = (part_from prefix links (typed.Typography t) x (member ∷ []) ms (link_for links (member ∷ []) (kind_of x)) refl stands a, tt)
  typography_from x member ending ms (Some u) half h i stands a b =
      (from prefix links (typed.Typography t) (typed.Typography t) [] u (css_name prefix u ++ ending) ms h refl (b (css_name prefix u)), tt)

value_one : (v : Typed) (ms : List Mark) (n : List ℕ) → can_spell v ≡ true → In (n, ms) (all_values n v) → In (n, ms) (css_values n v)
value_one v ms n h i = rw h i

lines_from : (prefix : List ℕ) (links : List Link) (name : List ℕ) (v : Typed) → HasRoom v → can_spell v ≡ true
    → AllByRecursion (λ e. AllByRecursion (ComesFrom prefix links v) e.parts) (lines_of prefix links name (link_for links [] (kind_of v)) v)
lines_from prefix links name (typed.Simple s) room h =
    ((part_from prefix links (typed.Simple s) (typed.Simple s) [] (simple_marks s) (link_for links [] (kind_of (typed.Simple s))) refl refl (λ n. value_one (typed.Simple s) (simple_marks s) n h (inl refl)), tt), tt)
lines_from prefix links name (typed.StrokeStyle s) room h =
    ((part_from prefix links (typed.StrokeStyle s) (typed.StrokeStyle s) [] (stroke_marks s) (link_for links [] kind.StrokeStyle) refl refl (λ n. value_one (typed.StrokeStyle s) (stroke_marks s) n h (inl refl)), tt), tt)
lines_from prefix links name (typed.Border b) room h =
    (unless_from prefix links (typed.Border b) (border_marks b) (border_parts prefix links b) (link_for links [] kind.Border) refl (λ n. value_one (typed.Border b) (border_marks b) n h (inl refl)) (border_from prefix links b h), tt)
lines_from prefix links name (typed.Transition t) room h =
    (unless_from prefix links (typed.Transition t) (transition_marks t) (transition_parts prefix links t) (link_for links [] kind.Transition) refl (λ n. inl refl) (transition_from prefix links t), tt)
lines_from prefix links name (typed.Shadow items) room h = (
  unless_from prefix links (typed.Shadow items) (listed shadow_marks items) (listed_parts (shadow_parts prefix links (is_only items)) items) (link_for links [] kind.Shadow) refl (λ n. inl refl)
      (listed_from prefix links (typed.Shadow items) (shadow_parts prefix links (is_only items)) items (shadow_from prefix links items room)),
  tt,
)
lines_from prefix links name (typed.Gradient stops) room h = (
  unless_from prefix links (typed.Gradient stops) (listed stop_marks stops) (listed_parts (stop_parts prefix links (is_only stops)) stops) (link_for links [] kind.Gradient) refl (λ n. inl refl)
      (listed_from prefix links (typed.Gradient stops) (stop_parts prefix links (is_only stops)) stops (stop_from prefix links stops room)),
  tt,
)
lines_from prefix links name (typed.Typography t) room h =
    let whole = link_for links [] kind.Typography in (
      typography_from prefix links t h (typed.Simple (simple.FontFamily t.family)) (codes "fontFamily") (family_end Css) (families_marks t.family) whole (link_for links (codes "fontFamily" ∷ []) kind.FontFamily) refl refl refl
          (λ n. rw h (inl refl)) (λ n. rw h (inl refl)),
      (
        typography_from prefix links t h (size_part t.size) (codes "fontSize") (size_end Css) (size_marks t.size) whole (link_for links (codes "fontSize" ∷ []) kind.Dimension) refl refl refl
            (λ n. inl refl) (λ n. rw h (inr (inl refl))),
        (
          typography_from prefix links t h (typed.Simple (simple.FontWeight t.weight)) (codes "fontWeight") (weight_end Css) (number_marks t.weight) whole (link_for links (codes "fontWeight" ∷ []) kind.FontWeight) refl refl refl
              (λ n. inl refl) (λ n. rw h (inr (inr (inl refl)))),
          (
            typography_from prefix links t h (size_part t.spacing) (codes "letterSpacing") (spacing_end Css) (size_marks t.spacing) whole (link_for links (codes "letterSpacing" ∷ []) kind.Dimension) refl refl refl
                (λ n. inl refl) (λ n. rw h (inr (inr (inr (inl refl))))),
            (
              typography_from prefix links t h (typed.Simple (simple.Number t.line_height)) (codes "lineHeight") (height_end Css) (number_marks t.line_height) whole (link_for links (codes "lineHeight" ∷ []) kind.Number) refl refl refl
                  (λ n. inl refl) (λ n. rw h (inr (inr (inr (inr (inl refl)))))),
              tt,
            ),
          ),
        ),
      ),
    )

lines_if : (prefix : List ℕ) (links : List Link) (v : Typed) (b : Bool) (es : List NamedParts) → (b ≡ true → AllByRecursion (λ e. AllByRecursion (ComesFrom prefix links v) e.parts) es)
    → AllByRecursion (λ e. AllByRecursion (ComesFrom prefix links v) e.parts) (if b then es else [])
lines_if prefix links v true es h = h refl
lines_if prefix links v false es h = tt

pub come_from : (prefix : List ℕ) (links : List Link) (name : List ℕ) (v : Typed) → HasRoom v
    → AllByRecursion (λ e. AllByRecursion (ComesFrom prefix links v) e.parts) (entries prefix links name v)
come_from prefix links name v room = lines_if prefix links v (can_spell v) (lines_of prefix links name (link_for links [] (kind_of v)) v) (lines_from prefix links name v room)
