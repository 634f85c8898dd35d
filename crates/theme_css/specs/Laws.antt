-- What the cascade gives, said of the blocks and not of a walk over them; and that files have one sheet.
use Rattle.std.specs.Prelude.{◌≡◌, ◌≤◌, ◌<◌, ℕ, List, ◌∷◌, ◌++◌, Some, None, IfSome}
use Rattle.std.specs.List.{AllByRecursion}
use Rattle.permutations.specs.Name.{Choice}
use Rattle.tk_io.specs.FilesData.{FilesData}
use Rattle.theme_css.specs.Cascade.{Block, Offer, offer, strongest}
use Rattle.theme_css.specs.Themes.{IsThemeSheet}

-- One of the blocks says this of the name: each block before it that says something of it has no more attributes, and each
-- behind it has fewer.
pub record Wins (blocks : List Block) (page : List Choice) (name : List ℕ) (o : Offer) : Type 0 where
  pub before : List Block
  pub block : Block
  pub after : List Block
  pub whole : blocks ≡ before ++ block ∷ after
  pub offered : offer page name block ≡ Some o
  pub no_more : AllByRecursion (λ b. IfSome (offer page name b) (λ e. e.weight ≤ o.weight)) before
  pub fewer : AllByRecursion (λ b. IfSome (offer page name b) (λ e. e.weight < o.weight)) after

-- what the cascade takes is said by the block that wins
abbrev pub StrongestWins : Type 0
StrongestWins = (blocks : List Block) (page : List Choice) (name : List ℕ) (o : Offer)
    → strongest page name None blocks ≡ Some o → Wins blocks page name o

-- .. and it takes nothing only where no block that matches says anything of the name
abbrev pub NoneIsOffered : Type 0
NoneIsOffered = (blocks : List Block) (page : List Choice) (name : List ℕ)
    → strongest page name None blocks ≡ None → AllByRecursion (λ b. offer page name b ≡ None) blocks

-- files have one sheet at most
abbrev pub OneThemeSheet : Type 0
OneThemeSheet = (files : FilesData) (sheet other : List ℕ) → IsThemeSheet files sheet → IsThemeSheet files other → sheet ≡ other
