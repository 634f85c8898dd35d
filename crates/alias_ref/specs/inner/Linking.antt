-- What a reference adds to the kind and to the links of the place where it stands.
use Rattle.std.specs.Prelude.{List, [], ◌∷◌, Bool, true, false, Option, None}
use Rattle.name_path.specs.declared.kind.Kind.{Kind}
use Rattle.name_path.specs.declared.link.Link.{Link}
use Rattle.name_path.specs.declared.place.Place.{Place}
use Rattle.group_inherit.specs.Flattening.{Flattened}
use Rattle.group_inherit.specs.Merging.{either}
use Rattle.alias_ref.specs.Written.{Step}

-- the kind of a token whose whole value refers to what lends this one
abbrev pub kind_with : Flattened → Option Kind → Option Kind
kind_with f k = either f.def.kind (either k f.group_kind)

-- the kind that a target lends, which it does without steps alone
abbrev pub lent : Option Kind → List Step → Option Kind
lent k [] = k
lent k (s ∷ steps) = None

abbrev pub link_here : Place → List Step → Option Kind → List Step → List Link
link_here p token k [] = record { trail = p.trail; target = token; kind = k } ∷ []
link_here p token k (s ∷ steps) = []

-- .. which is listed where it is written in the token's own value
abbrev pub links_added : Bool → Place → List Step → Option Kind → List Step → List Link
links_added true p token k steps = link_here p token k steps
links_added false p token k steps = []
