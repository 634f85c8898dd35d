-- Style sheets of several blocks: which declaration of a name holds on a page of given attributes.
use Rattle.std.specs.Prelude.{ℕ, ◌&&◌, Bool, List, [], ◌∷◌, codes, length, nat_le, Option, Some, None, option_map, option_and_then, if◌then◌else◌}
use Rattle.std.specs.List.{list_all, list_any}
use Rattle.std.specs.Option.{option_or}
use Rattle.std.specs.Str.{bytes_eq}
use Rattle.permutations.specs.Name.{Choice}

-- a declaration: a name, and the text of its value
pub record Declaration : Type 0 where
  pub name : List ℕ
  pub value : List ℕ

-- a block: the attributes that its selector asks for, and its declarations
pub record Block : Type 0 where
  pub attributes : List Choice
  pub declarations : List Declaration

abbrev pub is_same : Choice → Choice → Bool
is_same c d = bytes_eq c.modifier d.modifier && bytes_eq c.context d.context

-- the attribute is one of these
abbrev pub is_among : List Choice → Choice → Bool
is_among page c = list_any (λ each. is_same each c) page

-- a block matches a page that has each attribute that its selector asks for
abbrev pub matches : List Choice → Block → Bool
matches page b = list_all (is_among page) b.attributes

-- the value that declarations give to a name: that of the last of them
abbrev pub value_in : List Declaration → List ℕ → Option (List ℕ)
value_in [] name = None
value_in (d ∷ ds) name = option_or (value_in ds name) (if bytes_eq d.name name then Some d.value else None)

-- what a block says of a name: a value, and how many attributes the selector asks for
pub record Offer : Type 0 where
  pub weight : ℕ
  pub value : List ℕ

abbrev pub offer : List Choice → List ℕ → Block → Option Offer
offer page name b =
    if matches page b then option_map (λ v. record { weight = length b.attributes; value = v }) (value_in b.declarations name)
    else None

-- of two the one with more attributes holds, and with as many the later one
abbrev pub stronger : Option Offer → Option Offer → Option Offer
stronger None later = later
stronger (Some e) None = Some e
stronger (Some e) (Some f) = if nat_le e.weight f.weight then Some f else Some e

abbrev pub strongest : List Choice → List ℕ → Option Offer → List Block → Option Offer
strongest page name so_far [] = so_far
strongest page name so_far (b ∷ bs) = strongest page name (stronger so_far (offer page name b)) bs

-- `initial` says that a name has no value
abbrev pub initial : List ℕ
initial = codes "initial"

abbrev pub unless_initial : Offer → Option (List ℕ)
unless_initial o = if bytes_eq o.value initial then None else Some o.value

-- the value of a name on a page of these attributes
abbrev pub cascade : List Block → List Choice → List ℕ → Option (List ℕ)
cascade blocks page name = option_and_then unless_initial (strongest page name None blocks)
