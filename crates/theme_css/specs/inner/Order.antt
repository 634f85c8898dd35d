-- Pages that follow one another as their blocks do.
use Rattle.std.specs.Prelude.{◌≡◌, ◌≤◌, ℕ, true, false, List, [], ◌∷◌, length, IfSome}
use Rattle.std.specs.Str.{bytes_eq}
use Rattle.std.specs.List.{AllByRecursion, list_all}
use Rattle.theme_css.specs.Blocks.{Theme}
use Rattle.theme_css.specs.Cascade.{initial, is_among, value_in}

-- the later one asks for no fewer attributes, and for one that the earlier page lacks
pub record Follows (t later : Theme) : Type 0 where
  pub weight : length t.odd ≤ length later.odd
  pub other : list_all (is_among t.page) later.odd ≡ false

abbrev pub AllFollow : List Theme → Type 0
AllFollow [] = Unit {0}
AllFollow (t ∷ ts) = (list_all (is_among t.page) t.odd ≡ true) × AllByRecursion (Follows t) ts × AllFollow ts

-- no name is declared as `initial`
abbrev pub HasNoInitial : Theme → Type 0
HasNoInitial t = (name : List ℕ) → IfSome (value_in t.own name) (λ v. bytes_eq v initial ≡ false)
