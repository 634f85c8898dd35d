-- The names so far that are gone are added.
use Rattle.std.proofs.Common.{◌≡◌, ◌++◌, ◌&&◌, ℕ, List, Option, filter, is_some, length, map, not, take}
use Rattle.theme_css.specs.Blocks.{none_for}
use Rattle.theme_css.specs.Cascade.{Offer as OfferData}
use Rattle.theme_css.specs.inner.Offers.{AreRanked, value_of}
use Rattle.theme_css.specs.inner.Views.{declarations_at, offers_view}
use Rattle.theme_css.proofs.blocks.add_gone.Given as goal

abbrev pub invariant-loop-rank : goal.invariant-loop-rank
invariant-loop-rank l =
    (AreRanked (length l.before.items) l.fn.declared.items → AreRanked (length l.before.items) l.declared.items)
    × ((names : List (List ℕ)) → length names ≡ length l.before.items → (f g : List ℕ → Option OfferData)
    → offers_view l.before.items ≡ map f names → offers_view l.own.items ≡ map g names
    → declarations_at names l.declared.items ≡ declarations_at names l.fn.declared.items ++ map none_for (filter (λ n. is_some (value_of (f n)) && not (is_some (g n))) (take l.rank names)))
