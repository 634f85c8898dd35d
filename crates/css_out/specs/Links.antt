-- Which links stand at a part of a value.
use Rattle.std.specs.Prelude.{ℕ, ◌&&◌, Bool, true, false, List, [], ◌∷◌, Option, Some, None, if◌then◌else◌}
use Rattle.std.specs.Option.{option_or}
use Rattle.std.specs.Str.{bytes_eq}
use Rattle.name_path.specs.Kinds.{kind_name}
use Rattle.name_path.specs.declared.kind.Kind.{Kind}
use Rattle.name_path.specs.declared.link.Link.{Link}

abbrev pub same_trail : List (List ℕ) → List (List ℕ) → Bool
same_trail [] [] = true
same_trail [] (y ∷ ys) = false
same_trail (x ∷ xs) [] = false
same_trail (x ∷ xs) (y ∷ ys) = bytes_eq x y && same_trail xs ys

-- whether the token of a link has the kind
abbrev pub is_kind : Option Kind → Kind → Bool
is_kind None kind = false
is_kind (Some k) kind = bytes_eq (kind_name k) (kind_name kind)

-- the token to which a link of the kind at the trail leads
abbrev pub link_for : List Link → List (List ℕ) → Kind → Option (List (List ℕ))
link_for [] trail kind = None
link_for (l ∷ ls) trail kind =
    if is_kind l.kind kind && same_trail l.trail trail then Some l.target else link_for ls trail kind

-- The same at a member of the item of the index. The only item of a shadow may be written without a list.
abbrev pub item_link : List Link → Bool → List ℕ → List ℕ → Kind → Option (List (List ℕ))
item_link links is_only index name kind =
    option_or (if is_only then link_for links (name ∷ []) kind else None) (link_for links (index ∷ name ∷ []) kind)
