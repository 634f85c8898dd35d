-- A tree has one answer: the break that comes first, or its flat tree.
use Rattle.std.proofs.Common.{◌≡◌, ◌≢◌, ℕ, ◌<◌, List, [], Some, refl, sym, ap, ◌∙◌, subst, min, arith}
use Rattle.std.specs.FinMap as map
use Rattle.std.specs.Prelude.{slice_get}
use Rattle.tk_io.specs.Order.{names_cmp}
use Rattle.ring.proofs.Unique.{same_value}
use Rattle.ring.proofs.Once.{same_ring}
use Rattle.ring.specs.Routes.{IsRing, HasNoRing}
use Rattle.token_tree.specs.Tree.{Extension, Group}
use Rattle.group_inherit.specs.declared.fault.TreeFault.{TreeFault}
use Rattle.group_inherit.specs.declared.fault.TreeFault.TheVariants.{ExtendsTarget, ExtendsCycle, TooManyTokens, TooHigh, NoMemory}
use Rattle.group_inherit.specs.Answer.{most_members, most_levels, most_told, IsFirstLost, IsRingAt, IsCounted, IsLow, IsTreeBreak, IsSound, IsFlat}
use Rattle.group_inherit.proofs.Expansions.{one_expansion}
use Rattle.group_inherit.specs.Extension.{GroupPath, Lost, at_path, needs, lost_targets, Counts, Heights, count_of, height_of, ring_extension}
use Rattle.group_inherit.specs.Flattening.{Flattened, flat_of}
use Rattle.group_inherit.specs.Span.{Span, span_of}

-- one count, one height, one expansion

one_count : (tree : Group) (m n : ℕ) → Counts tree [] m → Counts tree [] n → m ≡ n
one_count tree m n a b = same_value (needs tree) (λ path counts. count_of (at_path tree path) counts) [] a b

one_height : (tree : Group) (m n : ℕ) → Heights tree [] m → Heights tree [] n → m ≡ n
one_height tree m n a b = same_value (needs tree) (λ path heights. height_of (at_path tree path) heights) [] a b

pub one_flat : (tree : Group) (f g : map.FinMap names_cmp Flattened) → IsFlat tree f → IsFlat tree g → f ≡ g
one_flat tree f g (d, is_d, makes) (e, is_e, makes_too) =
    makes ∙ (ap flat_of (one_expansion tree [] is_d is_e) ∙ sym makes_too)

-- what is lost is not found

first_of_none : (l : Lost) → slice_get [] 0 ≡ Some l → ⊥
first_of_none l h = cc

lost_some : (tree : Group) (path : GroupPath) (span : Span) → IsFirstLost (lost_targets tree) path span → lost_targets tree ≡ [] → ⊥
lost_some tree path span (e, at, is) none = first_of_none (record { path = path; extension = e }) (subst (λ ls. slice_get ls 0 ≡ Some (record { path = path; extension = e })) none at)

ring_some : (tree : Group) (ring : List GroupPath) → IsRing (needs tree) [] ring → HasNoRing (needs tree) [] → ⊥
ring_some tree ring is none = none is.route is.first.closed

counted_more : (tree : Group) (n : ℕ) → Counts tree [] n → most_members < n → IsCounted tree → ⊥
counted_more tree n is more (m, is_m, few) = omega (arith, more, few, one_count tree n m is is_m)

higher : (tree : Group) (n : ℕ) → Heights tree [] n → most_levels < n → IsLow tree → ⊥
higher tree n is more (m, is_m, few) = omega (arith, more, few, one_height tree n m is is_m)

one_lost : (losts : List Lost) (p q : GroupPath) (s t : Span) → IsFirstLost losts p s → IsFirstLost losts q t → ExtendsTarget p s ≡ ExtendsTarget q t
one_lost losts p q s t (d, at, is) (e, at_too, is_too) =
    let same : record { path = p; extension = d } ≡ record { path = q; extension = e } = some_same (sym at ∙ at_too) in
    ap (ExtendsTarget p) is ∙ (ap (λ (l : Lost). ExtendsTarget l.path (span_of l.extension)) same ∙ ap (ExtendsTarget q) (sym is_too)) where
      some_same : {x y : Lost} → Some x ≡ Some y → x ≡ y
      some_same h = cc

one_ring_at : (tree : Group) (p q : List GroupPath) (s t : Span) → IsRingAt tree p s → IsRingAt tree q t → ExtendsCycle p s ≡ ExtendsCycle q t
one_ring_at tree p q s t (ring, (d, at, is)) (ring_too, (e, at_too, is_too)) =
    let same : p ≡ q = same_ring (needs tree) [] p q ring ring_too in
    let spans : d ≡ e = some_same (sym at ∙ (ap (ring_extension tree) same ∙ at_too)) in
    ap (λ r. ExtendsCycle r s) same ∙ ap (ExtendsCycle q) (is ∙ (ap span_of spans ∙ sym is_too)) where
      some_same : {x y : Extension} → Some x ≡ Some y → x ≡ y
      some_same h = cc

one_count_shown : (tree : Group) (a b m n : ℕ) → Counts tree [] m → a ≡ min m most_told → Counts tree [] n → b ≡ min n most_told → a ≡ b
one_count_shown tree a b m n is shown is_too shown_too = shown ∙ (ap (λ (k : ℕ). min k most_told) (one_count tree m n is is_too) ∙ sym shown_too)

-- a tree breaks one rule first
pub one_break : (tree : Group) (a b : TreeFault) → a ≢ NoMemory → b ≢ NoMemory → IsTreeBreak tree a → IsTreeBreak tree b → a ≡ b
one_break tree NoMemory b x y h k = absurd (x refl)
one_break tree a NoMemory x y h k = absurd (y refl)
one_break tree (ExtendsTarget p s) (ExtendsTarget q t) x y h k = one_lost (lost_targets tree) p q s t h k
one_break tree (ExtendsTarget p s) (ExtendsCycle q t) x y h k = absurd (lost_some tree p s h k.0)
one_break tree (ExtendsTarget p s) (TooManyTokens n) x y h k = absurd (lost_some tree p s h k.0)
one_break tree (ExtendsTarget p s) (TooHigh n) x y h k = absurd (lost_some tree p s h k.0)
one_break tree (ExtendsCycle p s) (ExtendsTarget q t) x y h k = absurd (lost_some tree q t k h.0)
one_break tree (ExtendsCycle p s) (ExtendsCycle q t) x y h k = one_ring_at tree p q s t h.1 k.1
one_break tree (ExtendsCycle p s) (TooManyTokens n) x y h k = absurd (ring_some tree p h.1.0 k.1)
one_break tree (ExtendsCycle p s) (TooHigh n) x y h k = absurd (ring_some tree p h.1.0 k.1)
one_break tree (TooManyTokens m) (ExtendsTarget q t) x y h k = absurd (lost_some tree q t k h.0)
one_break tree (TooManyTokens m) (ExtendsCycle q t) x y h k = absurd (ring_some tree q k.1.0 h.1)
one_break tree (TooManyTokens m) (TooManyTokens n) x y (none, calm, (i, is, more, shown)) (none_too, calm_too, (j, is_too, more_too, shown_too)) = ap TooManyTokens (one_count_shown tree m n i j is shown is_too shown_too)
one_break tree (TooManyTokens m) (TooHigh n) x y (none, calm, (i, is, more, shown)) (none_too, calm_too, counted, high) = absurd (counted_more tree i is more counted)
one_break tree (TooHigh m) (ExtendsTarget q t) x y h k = absurd (lost_some tree q t k h.0)
one_break tree (TooHigh m) (ExtendsCycle q t) x y h k = absurd (ring_some tree q k.1.0 h.1)
one_break tree (TooHigh m) (TooManyTokens n) x y (none, calm, counted, high) (none_too, calm_too, (j, is, more, shown)) = absurd (counted_more tree j is more counted)
one_break tree (TooHigh m) (TooHigh n) x y (none, calm, counted, (is, more)) (none_too, calm_too, counted_too, (is_too, more_too)) = ap TooHigh (one_height tree m n is is_too)

-- a sound tree breaks none
pub sound_unbroken : (tree : Group) (a : TreeFault) → IsSound tree → a ≢ NoMemory → IsTreeBreak tree a → ⊥
sound_unbroken tree (ExtendsTarget p s) sound x h = lost_some tree p s h sound.targets
sound_unbroken tree (ExtendsCycle p s) sound x h = ring_some tree p h.1.0 sound.rings
sound_unbroken tree (TooManyTokens n) sound x (none, calm, (i, is, more, shown)) = counted_more tree i is more sound.counted
sound_unbroken tree (TooHigh n) sound x (none, calm, counted, (is, more)) = higher tree n is more sound.low
sound_unbroken tree NoMemory sound x h = x refl
