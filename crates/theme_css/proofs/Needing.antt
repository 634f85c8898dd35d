-- What is declared by places is what a block needs.
use Rattle.std.proofs.Common.{◌≡◌, ◌∙◌, ◌<◌, ◌≤◌, ◌+◌, ◌&&◌, ℕ, not, cond, Bool, true, false, List, [], ◌∷◌, ◌++◌, filter, map, length, drop, get_or, Option, Some, None, is_some, refl, sym, ap, ap₂}
use Rattle.std.specs.List.{AllByRecursion}
use Rattle.std.proofs.lemmas.List.{at_drop_more, at_drop_all, map-append}
use Rattle.permutations.specs.Name.{Choice}
use Rattle.theme_css.specs.Blocks.{block_after, blocks_after, differs, is_gone, is_same_value, needed, none_for}
use Rattle.theme_css.specs.Cascade.{Block, Declaration, Offer, cascade, stronger, strongest, value_in}
use Rattle.theme_css.specs.declared.blocks.Theme.{Theme}
use Rattle.theme_css.specs.declared.offers.Declared.{Declared}
use Rattle.theme_css.specs.declared.offers.ThemeBlock.{ThemeBlock}
use Rattle.theme_css.specs.inner.Offers.{AreRanked, all_offered, differs_at, raw_value, value_of}
use Rattle.theme_css.specs.inner.Pages.{theme_view, themes_view}
use Rattle.theme_css.specs.inner.Views.{block_view, blocks_view, declaration_at, declarations_at}
use Rattle.theme_css.proofs.Offering.{offered_all, weighed}
use Rattle.theme_css.proofs.Ordering.{shown}

raw_weighed : (r : Option (List ℕ)) → raw_value (stronger None (weighed 0 r)) ≡ r
raw_weighed None = refl
raw_weighed (Some v) = refl

some_weighed : (r : Option (List ℕ)) → is_some (stronger None (weighed 0 r)) ≡ is_some r
some_weighed None = refl
some_weighed (Some v) = refl

module _ (names : List (List ℕ)) (own : List Declared) where
  abbrev given : List ℕ → Option Offer
  given n = all_offered names 0 n None own

  own_value : (n : List ℕ) → raw_value (given n) ≡ value_in (declarations_at names own) n
  own_value n = ap raw_value (offered_all names 0 n None own) ∙ raw_weighed (value_in (declarations_at names own) n)

  own_some : (n : List ℕ) → is_some (given n) ≡ is_some (value_in (declarations_at names own) n)
  own_some n = ap (λ (o : Option Offer). is_some o) (offered_all names 0 n None own) ∙ some_weighed (value_in (declarations_at names own) n)

  module _ (bs : List Block) (page : List Choice) where
    abbrev before : List ℕ → Option Offer
    before n = strongest page n None bs

    differs_is : (r : ℕ) → r < length names → differs_at (map before names) (map given names) r ≡ differs (cascade bs page) (declarations_at names own) (get_or names r [])
    differs_is r below =
        ap (λ (o : Option Offer). not (is_same_value (value_of o) (raw_value (get_or (map given names) r None)))) (shown before names r None below)
        ∙ (ap (λ (o : Option Offer). not (is_same_value (value_of (before (get_or names r []))) (raw_value o))) (shown given names r None below)
        ∙ ap (λ v. not (is_same_value (value_of (before (get_or names r []))) v)) (own_value (get_or names r [])))

    kept_at : (d : Declared) (b c : Bool) (ds : List Declared) (es : List Declaration) → b ≡ c → map (declaration_at names) ds ≡ es
        → map (declaration_at names) (cond b (d ∷ ds) ds) ≡ cond c (declaration_at names d ∷ es) es
    kept_at d true true ds es e h = ap (λ (l : List Declaration). declaration_at names d ∷ l) h
    kept_at d true false ds es e h = cc
    kept_at d false true ds es e h = cc
    kept_at d false false ds es e h = h

    changed_is : (ds : List Declared) → AreRanked (length names) ds → declarations_at names (filter (λ d. differs_at (map before names) (map given names) d.rank) ds)
        ≡ filter (λ d. differs (cascade bs page) (declarations_at names own) d.name) (declarations_at names ds)
    changed_is [] h = refl
    changed_is (d ∷ ds) h =
        kept_at d (differs_at (map before names) (map given names) d.rank) (differs (cascade bs page) (declarations_at names own) (get_or names d.rank []))
        (filter (λ e. differs_at (map before names) (map given names) e.rank) ds) (filter (λ e. differs (cascade bs page) (declarations_at names own) e.name) (declarations_at names ds))
        (differs_is d.rank h.0) (changed_is ds h.1)

    gone_same : (ns : List (List ℕ)) → filter (λ n. is_some (value_of (before n)) && not (is_some (given n))) ns ≡ filter (is_gone (cascade bs page) (declarations_at names own)) ns
    gone_same [] = refl
    gone_same (n ∷ ns) =
        ap₂ (λ (b : Bool) (l : List (List ℕ)). cond b (n ∷ l) l) (ap (λ b. is_some (value_of (before n)) && not b) (own_some n)) (gone_same ns)

    pub needed_is : (os_before os_own : List (Option Offer)) (chosen : List Declared) (last : List Declaration) → AreRanked (length names) own
        → os_before ≡ map (λ n. strongest page n None bs) names → os_own ≡ map (λ n. all_offered names 0 n None own) names → chosen ≡ filter (λ d. differs_at os_before os_own d.rank) own
        → last ≡ declarations_at names chosen ++ map none_for (filter (λ n. is_some (value_of (strongest page n None bs)) && not (is_some (all_offered names 0 n None own))) names)
        → last ≡ needed names (cascade bs page) (declarations_at names own)
    needed_is os_before os_own chosen last ranked is_before is_own e h =
        h ∙ ap₂ (λ (xs ys : List Declaration). xs ++ ys)
        (ap (declarations_at names) (e ∙ (ap (λ (l : List (Option Offer)). filter (λ d. differs_at l os_own d.rank) own) is_before ∙ ap (λ (l : List (Option Offer)). filter (λ d. differs_at (map before names) l d.rank) own) is_own)) ∙ changed_is own ranked)
        (ap (map none_for) (gone_same names))

-- blocks one after another
pub next_built : (names : List (List ℕ)) (ts : List Theme) (i : ℕ) (t : Theme) (old new : List ThemeBlock) (b : ThemeBlock) (total : List Block) → i < length ts → t ≡ get_or ts i t → new ≡ old ++ b ∷ []
    → block_view names b ≡ block_after names (blocks_view names old) (theme_view names t) → blocks_after names (blocks_view names old) (themes_view names (drop i ts)) ≡ total
    → blocks_after names (blocks_view names new) (themes_view names (drop (i + 1) ts)) ≡ total
unfolding blocks_after
next_built names ts i t old new b total below is e view h =
    let rest = themes_view names (drop (i + 1) ts) in
    let shows : blocks_view names new ≡ blocks_view names old ++ block_after names (blocks_view names old) (theme_view names t) ∷ [] =
    ap (blocks_view names) e ∙ (map-append (block_view names) old (b ∷ []) ∙ ap (λ (x : Block). blocks_view names old ++ x ∷ []) view) in
    ap (λ bs. blocks_after names bs rest) shows
    ∙ (ap (λ (x : Theme). blocks_after names (blocks_view names old ++ block_after names (blocks_view names old) (theme_view names x) ∷ []) rest) is
    ∙ (sym (at_drop_more (λ l. blocks_after names (blocks_view names old) (themes_view names l)) ts i t below) ∙ h))

pub all_built : (names : List (List ℕ)) (ts : List Theme) (i : ℕ) (bs : List ThemeBlock) (total : List Block) → length ts ≤ i → blocks_after names (blocks_view names bs) (themes_view names (drop i ts)) ≡ total → blocks_view names bs ≡ total
unfolding blocks_after
all_built names ts i bs total over h = sym (at_drop_all (λ l. blocks_after names (blocks_view names bs) (themes_view names l)) ts i over) ∙ h

pub all-push : {X : Type 0} (P : X → Type 0) (xs : List X) (x : X) → AllByRecursion P xs → P x → AllByRecursion P (xs ++ x ∷ [])
all-push P [] x h p = (p, tt)
all-push P (y ∷ ys) x h p = (h.0, all-push P ys x h.1 p)

-- those that are chosen of known ones are known
pub all-filter : {X : Type 0} (P : X → Type 0) (q : X → Bool) (xs : List X) → AllByRecursion P xs → AllByRecursion P (filter q xs)
all-filter P q [] h = tt
all-filter {X = X} P q (x ∷ xs) h = go (q x) h.0 (all-filter P q xs h.1)
  where
    go : (b : Bool) → P x → AllByRecursion P (filter q xs) → AllByRecursion P (cond b (x ∷ filter q xs) (filter q xs))
    go true p ps = (p, ps)
    go false p ps = ps
