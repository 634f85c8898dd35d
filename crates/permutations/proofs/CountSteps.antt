-- One item, or one context, more.
use Rattle.std.proofs.Common.{◌≡◌, ◌+◌, ◌*◌, ◌<◌, ℕ, min, List, [], ◌∷◌, ◌++◌, length, map, take, drop, get_or, refl, sym, ap, ◌∙◌, arith}
use Rattle.std.proofs.lemmas.List.{take_more, drop_more, map-append}
use Rattle.std.specs.Prelude.{max}
use Rattle.resolver_doc.specs.Document.{SetData}
use Rattle.resolver_doc.specs.View.{set_view, sets_view, item_view, order_view}
use Rattle.permutations.specs.Permutation.{context_pick, picks, choices, greatest}
use Rattle.resolver_doc.specs.declared.written.SetDef.{SetDef}
use Rattle.resolver_doc.specs.declared.written.Item.{Item}
use Rattle.permutations.specs.inner.Counting.{source_count}
use Rattle.permutations.proofs.Counts.{greatest-append, length-choices}

pub ways_more : (order : List Item) (i : ℕ) (item : Item) → i < length order → item ≡ get_or order i item
    → length (choices (order_view (drop i order))) ≡ length (picks (item_view item)) * length (choices (order_view (drop (i + 1) order)))
ways_more order i item h is =
    ap (λ (items : List Item). length (choices (order_view items))) (drop_more order i item h ∙ ap (λ (first : Item). first ∷ drop (i + 1) order) (sym is))
    ∙ length-choices (item_view item) (order_view (drop (i + 1) order))

pub most_more : (f : SetData → ℕ) (contexts : List SetDef) (i : ℕ) (context : SetDef) → i < length contexts → context ≡ get_or contexts i context
    → greatest (map f (sets_view (take (i + 1) contexts))) ≡ max (greatest (map f (sets_view (take i contexts)))) (f (set_view context))
most_more f contexts i context h is =
    let last : greatest (f (set_view context) ∷ []) ≡ f (set_view context) = omega arith in
    ap (λ (cs : List SetDef). greatest (map f (sets_view cs))) (take_more contexts i context h ∙ ap (λ (one : SetDef). take i contexts ++ one ∷ []) (sym is))
    ∙ (ap (λ (cs : List SetData). greatest (map f cs)) (map-append set_view (take i contexts) (context ∷ []))
    ∙ (ap greatest (map-append f (sets_view (take i contexts)) (set_view context ∷ []))
    ∙ (greatest-append (map f (sets_view (take i contexts))) (f (set_view context) ∷ [])
    ∙ ap (λ (n : ℕ). max (greatest (map f (sets_view (take i contexts)))) n) last)))

pub told_max : (a b m : ℕ) → max (min b m) (min a m) ≡ min (max a b) m
told_max a b m = omega arith

-- the contexts of a modifier as what is picked
pub picked_contexts : (sets : List SetData) (name : List ℕ) (contexts : List SetData)
    → map (λ p. source_count sets p.sources) (map (context_pick name) contexts) ≡ map (λ c. source_count sets c.sources) contexts
picked_contexts sets name [] = refl
picked_contexts sets name (c ∷ cs) = ap (λ (ns : List ℕ). source_count sets c.sources ∷ ns) (picked_contexts sets name cs)
