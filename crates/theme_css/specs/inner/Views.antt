-- What choices, offers and blocks are seen as.
use Rattle.std.specs.Prelude.{ℕ, List, [], get_or, map, Option, option_map}
use Rattle.permutations.specs.Name.{Choice as ChoiceData}
use Rattle.theme_css.specs.Cascade.{Declaration, Block, Offer as OfferData}
use Rattle.std.specs.Borrow.{Bor}
use Rattle.theme_css.specs.declared.choice.Choice.{Choice}
use Rattle.theme_css.specs.declared.offers.Declared.{Declared}
use Rattle.theme_css.specs.declared.offers.Offer.{Offer}
use Rattle.theme_css.specs.declared.offers.ThemeBlock.{ThemeBlock}

abbrev pub choice_view : Choice → ChoiceData
choice_view c = record { modifier = c.modifier.now; context = c.context.now }

abbrev pub choices_view : List Choice → List ChoiceData
choices_view cs = map choice_view cs

abbrev pub offer_view : Offer → OfferData
offer_view o = record { weight = o.weight; value = o.value.now }

abbrev pub offers_view : List (Option Offer) → List (Option OfferData)
offers_view os = map (option_map offer_view) os

-- the offer of a declaration
abbrev pub offer_of : ℕ → Declared → OfferData
offer_of weight d = record { weight = weight; value = d.value.now }

-- a declaration, by all names
abbrev pub declaration_at : List (List ℕ) → Declared → Declaration
declaration_at names d = record { name = get_or names d.rank []; value = d.value.now }

abbrev pub declarations_at : List (List ℕ) → List Declared → List Declaration
declarations_at names ds = map (declaration_at names) ds

abbrev pub block_view : List (List ℕ) → ThemeBlock → Block
block_view names b = record { attributes = choices_view b.odd.now; declarations = declarations_at names b.declared.items }

abbrev pub blocks_view : List (List ℕ) → List ThemeBlock → List Block
blocks_view names bs = map (block_view names) bs

abbrev pub names_view : List (Bor (List ℕ)) → List (List ℕ)
names_view names = map (λ n. n.now) names
