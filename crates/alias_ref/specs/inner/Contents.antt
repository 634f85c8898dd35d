-- What a content of the code is seen as.
use Rattle.std.specs.Prelude.{◌≡◌, List, [], Bool, true, false, Some}
use Rattle.json_span.specs.Tree.{Tree, Placed}
use Rattle.json_span.specs.PlainView.{plain_view}
use Rattle.alias_ref.specs.Written.{Written, leaf, parts, refers, misspelled, array, object, Parts, parts_by_index, parts_by_name, parts_of, steps_of, Role, of_value, of_token, written_as, is_reference}
use Rattle.json_span.specs.View.{items_view, fields_view}
use Rattle.alias_ref.specs.declared.content.Content.{Content}
use Rattle.alias_ref.specs.declared.content.Content.TheVariants as content

abbrev pub content_view : Content → Written
content_view (content.Leaf v) = leaf (plain_view v)
content_view (content.Array items) = parts array (steps_of (parts_by_index 0 (items_view items)))
content_view (content.Object fields) = parts object (steps_of (parts_by_name (fields_view fields)))
content_view (content.Refers place) = refers place.token place.trail
content_view content.Misspelled = misspelled

abbrev pub content_parts : Content → Parts
content_parts (content.Leaf v) = []
content_parts (content.Array items) = parts_by_index 0 (items_view items)
content_parts (content.Object fields) = parts_by_name (fields_view fields)
content_parts (content.Refers place) = []
content_parts content.Misspelled = []

-- the items of an array
abbrev pub content_items : Content → List Placed
content_items (content.Leaf v) = []
content_items (content.Array items) = items_view items
content_items (content.Object fields) = []
content_items (content.Refers place) = []
content_items content.Misspelled = []

-- the role of a token's own `$ref`, or of any other value
abbrev pub role_of : Bool → Role
role_of true = of_token
role_of false = of_value

-- what the content says is what is written; where it is no reference, its parts are those of the value
pub record IsContent (c : Content) (role : Role) (v : Tree) : Type 0 where
  pub written : content_view c ≡ written_as role v
  pub parts : is_reference (Some (content_view c)) ≡ false → content_parts c ≡ parts_of v
