-- Themes one after another, and names that are gone.
use Rattle.std.proofs.Common.{◌≡◌, ◌∙◌, ◌<◌, ◌≤◌, ◌+◌, ◌&&◌, ℕ, zero, suc, not, cond, Bool, true, false, List, [], ◌∷◌, ◌++◌, filter, map, length, take, drop, get_or, Option, None, is_some, append_assoc, refl, sym, ap, subst, arith}
use Rattle.std.specs.Prelude.{if◌then◌else◌}
use Rattle.std.specs.List.{AllByRecursion, list_all}
use Rattle.std.proofs.lemmas.List.{drop_more, map-append, take_more, take_all}
use Rattle.std.proofs.lemmas.List.Elements.{filter-append}
use Rattle.theme_css.specs.Blocks.{Theme as ThemeData, none_for}
use Rattle.theme_css.specs.Cascade.{Declaration, Offer, is_among}
use Rattle.theme_css.specs.inner.Order.{AllFollow, Follows}
use Rattle.theme_css.specs.inner.Views.{choices_view}
use Rattle.theme_css.specs.declared.blocks.Theme.{Theme}
use Rattle.theme_css.specs.inner.Offers.{gone_at, value_of}
use Rattle.theme_css.specs.inner.Pages.{theme_view, themes_view}

pub all_next : (F : ThemeData → Type 0) (names : List (List ℕ)) (ts : List Theme) (i : ℕ) (t : Theme) → i < length ts → t ≡ get_or ts i t → F (theme_view names t) → AllByRecursion F (themes_view names (drop (i + 1) ts))
    → AllByRecursion F (themes_view names (drop i ts))
all_next F names ts i t below is h rest =
    subst (λ (l : List Theme). AllByRecursion F (themes_view names l)) (sym (drop_more ts i t below)) (subst (λ (x : Theme). F (theme_view names x)) is h, rest)

pub follow_next : (names : List (List ℕ)) (ts : List Theme) (i : ℕ) (t : Theme) (r : Bool) → i < length ts → t ≡ get_or ts i t → r ≡ list_all (is_among (choices_view t.page.now)) (choices_view t.odd.items) → r ≡ true
    → AllByRecursion (Follows (theme_view names t)) (themes_view names (drop (i + 1) ts)) → AllFollow (themes_view names (drop (i + 1) ts)) → AllFollow (themes_view names (drop i ts))
follow_next names ts i t r below is e good later rest =
    let F : Theme → Type 0 = λ x. AllByRecursion (Follows (theme_view names x)) (themes_view names (drop (i + 1) ts)) in
    let M : Theme → Type 0 = λ x. list_all (is_among (choices_view x.page.now)) (choices_view x.odd.items) ≡ true in
    subst (λ (l : List Theme). AllFollow (themes_view names l)) (sym (drop_more ts i t below)) (subst M is (sym e ∙ good), subst F is later, rest)

pub shown : {Y : Type 0} (f : List ℕ → Y) (names : List (List ℕ)) (i : ℕ) (y : Y) → i < length names → get_or (map f names) i y ≡ f (get_or names i [])
shown f [] i y h = absurd (omega (arith, h))
shown f (n ∷ ns) zero y h = refl
shown f (n ∷ ns) (suc i) y h = shown f ns i y (omega (arith, h))

module _ (names : List (List ℕ)) (f g : List ℕ → Option Offer) where
  abbrev pub was : List ℕ → Bool
  was n = is_some (value_of (f n)) && not (is_some (g n))

  one_gone : (n : List ℕ) (b : Bool) → (if b then none_for n ∷ [] else []) ≡ map none_for (cond b (n ∷ []) [])
  one_gone n true = refl
  one_gone n false = refl

  pub gone_at_is : (i : ℕ) → i < length names → gone_at names (map f names) (map g names) i ≡ map none_for (filter was (get_or names i [] ∷ []))
  gone_at_is i below =
      ap (λ (b : Bool). if b then none_for (get_or names i []) ∷ [] else [])
      (ap (λ o. is_some (value_of o) && not (is_some (get_or (map g names) i None))) (shown f names i None below) ∙ ap (λ o. is_some (value_of (f (get_or names i []))) && not (is_some o)) (shown g names i None below))
      ∙ one_gone (get_or names i []) (was (get_or names i []))

pub gone_next : (names : List (List ℕ)) (before own : List (Option Offer)) (f g : List ℕ → Option Offer) (i : ℕ) (old now new : List Declaration) → i < length names → before ≡ map f names → own ≡ map g names
    → new ≡ now ++ gone_at names before own i → now ≡ old ++ map none_for (filter (was names f g) (take i names)) → new ≡ old ++ map none_for (filter (was names f g) (take (i + 1) names))
gone_next names before own f g i old now new below is_before is_own e h =
    let p = was names f g in
    let one : gone_at names before own i ≡ map none_for (filter p (get_or names i [] ∷ [])) =
    ap (λ (l : List (Option Offer)). gone_at names l own i) is_before ∙ (ap (λ (l : List (Option Offer)). gone_at names (map f names) l i) is_own ∙ gone_at_is names f g i below) in
    let whole : map none_for (filter p (take (i + 1) names)) ≡ map none_for (filter p (take i names)) ++ map none_for (filter p (get_or names i [] ∷ [])) =
    ap (λ l. map none_for (filter p l)) (take_more names i [] below)
    ∙ (ap (map none_for) (filter-append p (take i names) (get_or names i [] ∷ [])) ∙ map-append none_for (filter p (take i names)) (filter p (get_or names i [] ∷ []))) in
    e ∙ (ap (λ l. l ++ gone_at names before own i) h
    ∙ (ap (λ l. (old ++ map none_for (filter p (take i names))) ++ l) one
    ∙ (append_assoc old (map none_for (filter p (take i names))) (map none_for (filter p (get_or names i [] ∷ []))) ∙ ap (λ l. old ++ l) (sym whole))))

pub all_gone : (names : List (List ℕ)) (f g : List ℕ → Option Offer) (i : ℕ) (old now : List Declaration) → length names ≤ i → now ≡ old ++ map none_for (filter (was names f g) (take i names)) → now ≡ old ++ map none_for (filter (was names f g) names)
all_gone names f g i old now over h = h ∙ ap (λ l. old ++ map none_for (filter (was names f g) l)) (take_all i names over)
