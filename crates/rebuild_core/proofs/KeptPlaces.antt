-- The tokens that keep no place are those that are reached.
use Rattle.std.proofs.Common.{◌≡◌, ℕ, ◌+◌, ◌<◌, Bool, true, false, cond, List, [], ◌∷◌, length, get_or, take, Option, Some, None, inl, inr, refl, sym, ap, subst, ◌∙◌, arith}
use Rattle.std.proofs.lemmas.List.{get_or_default}
use Rattle.std.proofs.lemmas.List.Sums.{sum_by-cons, count_by_more_no, count_by_more_yes}
use Rattle.std.specs.FinMap as finite
use Rattle.std.specs.List.{AllZip, count_by}
use Rattle.std.specs.Option.{is_none}
use Rattle.group_inherit.specs.Flattening.{TokenAt}
use Rattle.alias_ref.specs.Laws.{Flat}
use Rattle.tree_changes.specs.Reached.{IsReached}
use Rattle.tree_changes.specs.Standing.{KeepsAt}
use Rattle.rebuild_core.specs.Sums.{IsOneIf, IsSum}
use Rattle.rebuild_core.specs.inner.Evaluating.{AreReached}
use Rattle.rebuild_core.proofs.Summing.{one_if, one_sum, held, sum_all, sum_ones}

module _ (old new : Flat) where
  abbrev Reached : TokenAt → ℕ → Type 0
  Reached token = IsOneIf (IsReached old new token.0)

  more_none : (places : List (Option ℕ)) (place : Option ℕ) → count_by is_none (place ∷ places) ≡ cond (is_none place) 1 0 + count_by is_none places
  more_none places place = sum_by-cons (λ x. cond (is_none x) 1 0) place places

  kept_sum : (tokens : List TokenAt) (places : List (Option ℕ)) → AllZip (KeepsAt old new) tokens places → IsSum Reached tokens (count_by is_none places)
  kept_sum [] [] all = refl
  kept_sum [] (p ∷ ps) all = absurd all
  kept_sum (t ∷ ts) [] all = absurd all
  kept_sum (t ∷ ts) (None ∷ ps) (reached, rest) = (1, count_by is_none ps, inl (reached, refl), kept_sum ts ps rest, more_none ps None)
  kept_sum (t ∷ ts) (Some i ∷ ps) (kept, rest) = (0, count_by is_none ps, inr (kept.0, refl), kept_sum ts ps rest, more_none ps (Some i))

  pub places_reached : (places : List (Option ℕ)) → AllZip (KeepsAt old new) (finite.entries new) places → AreReached (Some old) new (count_by is_none places)
  places_reached places all = kept_sum (finite.entries new) places all

  pub reached_once : (places : List (Option ℕ)) (n : ℕ) → AllZip (KeepsAt old new) (finite.entries new) places → AreReached (Some old) new n → count_by is_none places ≡ n
  reached_once places n all is =
      one_sum Reached (λ token a b. one_if (IsReached old new token.0) a b) (finite.entries new) (count_by is_none places) n (kept_sum (finite.entries new) places all) is

pub all_reached : (flat : Flat) (n : ℕ) → n ≡ length (finite.entries flat) → AreReached None flat n
all_reached flat n is = subst (AreReached None flat) (sym is) (sum_ones (λ (token : TokenAt). IsOneIf (Unit {0})) (finite.entries flat) (λ token. inl (tt, refl)))

pub all_once : (flat : Flat) (n : ℕ) → AreReached None flat n → n ≡ length (finite.entries flat)
all_once flat n is = sum_all (λ (token : TokenAt). IsOneIf (Unit {0})) (finite.entries flat) n (λ token k. held (Unit {0}) k tt) is

-- one place more
pub left_next : (places : List (Option ℕ)) (i : ℕ) (place : Option ℕ) → i < length places → place ≡ get_or places i place
    → count_by is_none (take (i + 1) places) ≡ count_by is_none (take i places) + cond (is_none place) 1 0
left_next places i place within is = by (is_none place) refl
  where
    none_more : (n : ℕ) → n + 0 ≡ n
    none_more n = omega arith

    by : (b : Bool) → is_none place ≡ b → count_by is_none (take (i + 1) places) ≡ count_by is_none (take i places) + cond b 1 0
    by true e = count_by_more_yes is_none places i place within (ap is_none (sym is) ∙ e)
    by false e = count_by_more_no is_none places i place within (ap is_none (sym is) ∙ e) ∙ sym (none_more (count_by is_none (take i places)))

-- .. counted so far
pub left_added : (places : List (Option ℕ)) (d : Option ℕ) (i left n : ℕ) → i < length places → left ≡ count_by is_none (take i places)
    → n ≡ cond (is_none (get_or places i d)) 1 0 → left + n ≡ count_by is_none (take (i + 1) places)
left_added places d i left n within so_far one =
    let more = left_next places i (get_or places i d) within (get_or_default places i d (get_or places i d) within) in
    omega (arith, so_far, one, more)
