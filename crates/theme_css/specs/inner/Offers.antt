-- Declarations that are put one after another, the values that stand at places, and places that are known.
use Rattle.std.specs.Prelude.{◌<◌, ◌&&◌, ℕ, Bool, not, List, [], ◌∷◌, get_or, map, Option, Some, None, is_some, option_map, option_and_then, if◌then◌else◌}
use Rattle.std.specs.List.{AllByRecursion}
use Rattle.std.specs.Str.{bytes_eq}
use Rattle.ring.specs.Lists.{AreApart}
use Rattle.theme_css.specs.Blocks.{is_same_value, none_for}
use Rattle.theme_css.specs.Cascade.{Declaration, Offer as OfferData, stronger, unless_initial}
use Rattle.theme_css.specs.inner.Views.{declaration_at, offer_of}
use Rattle.theme_css.specs.declared.blocks.Theme.{Theme}
use Rattle.theme_css.specs.declared.offers.Declared.{Declared}
use Rattle.theme_css.specs.declared.offers.ThemeBlock.{ThemeBlock}

-- the names of declarations are among so many
abbrev pub AreRanked : ℕ → List Declared → Type 0
AreRanked count ds = AllByRecursion (λ d. d.rank < count) ds

-- their places
abbrev pub ranks_of : List Declared → List ℕ
ranks_of ds = map (λ d. d.rank) ds

abbrev pub AreAllRanked : ℕ → List ThemeBlock → Type 0
AreAllRanked count bs = AllByRecursion (λ b. AreRanked count b.declared.items) bs

abbrev pub AreThemesRanked : ℕ → List Theme → Type 0
AreThemesRanked count ts = AllByRecursion (λ t. AreRanked count t.own.items) ts

-- no theme declares at one place twice
abbrev pub AreThemesApart : List Theme → Type 0
AreThemesApart ts = AllByRecursion (λ t. AreApart (ranks_of t.own.items)) ts

-- what stands for a name after a declaration of this weight
abbrev pub offered : List (List ℕ) → ℕ → List ℕ → Option OfferData → Declared → Option OfferData
offered names weight name so_far d =
    if bytes_eq (declaration_at names d).name name then stronger so_far (Some (offer_of weight d)) else so_far

-- .. and after several
abbrev pub all_offered : List (List ℕ) → ℕ → List ℕ → Option OfferData → List Declared → Option OfferData
all_offered names weight name so_far [] = so_far
all_offered names weight name so_far (d ∷ ds) = all_offered names weight name (offered names weight name so_far d) ds

-- the value that an offer gives, and that it says
abbrev pub value_of : Option OfferData → Option (List ℕ)
value_of o = option_and_then unless_initial o

abbrev pub raw_value : Option OfferData → Option (List ℕ)
raw_value o = option_map (λ f. f.value) o

-- the name at a place has another value in the own sheet than before
abbrev pub differs_at : List (Option OfferData) → List (Option OfferData) → ℕ → Bool
differs_at before own rank = not (is_same_value (value_of (get_or before rank None)) (raw_value (get_or own rank None)))

-- it has one before, and none in the own sheet; what is declared then
abbrev pub is_gone_at : List (Option OfferData) → List (Option OfferData) → ℕ → Bool
is_gone_at before own rank = is_some (value_of (get_or before rank None)) && not (is_some (get_or own rank None))

abbrev pub gone_at : List (List ℕ) → List (Option OfferData) → List (Option OfferData) → ℕ → List Declaration
gone_at names before own rank = if is_gone_at before own rank then none_for (get_or names rank []) ∷ [] else []
