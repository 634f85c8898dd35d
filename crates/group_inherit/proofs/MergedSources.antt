-- Merged sources.
use Rattle.std.proofs.Common.{◌≡◌, ℕ, List, [], ◌∷◌, ◌++◌, None, refl, ap₂}
use Rattle.std.specs.FinMap as map
use Rattle.json_span.specs.Tree.{Tree, a_null, a_boolean, a_number, a_string, an_array, an_object, Placed, tree_of, entries_in as fields_in}
use Rattle.token_tree.specs.Shape.{properties_of, put_children, group_of, shape_of}
use Rattle.token_tree.specs.Tree.{Properties, Group, Named, group_with}
use Rattle.group_inherit.specs.Laws.{SourcesInOrder}
use Rattle.group_inherit.specs.Merging.{over_properties, over, empty_group, merged_over, merged}
use Rattle.group_inherit.proofs.Merges.{over_members_alone}
use Rattle.group_inherit.proofs.Puts.{either_none}

last_over : (before : Group) (gs : List Group) (g : Group) → merged_over before (gs ++ g ∷ []) ≡ over g (merged_over before gs)
last_over before [] g = refl
last_over before (x ∷ gs) g = last_over (over x before) gs g

pub sources_in_order : SourcesInOrder
sources_in_order = (refl, λ sources last. last_over empty_group sources last)

pub one_source : (ps : Properties) (members : Named) → merged (group_with ps members ∷ []) ≡ group_with ps members
one_source ps members =
    let own : over_properties ps (record { kind = None; deprecated = None; extends = None }) ≡ ps = λ i. record { kind = either_none ps.kind i; deprecated = either_none ps.deprecated i; extends = either_none ps.extends i } in
    ap₂ group_with own (over_members_alone members map.empty refl)

one_shown : (file text : List ℕ) (v : Tree) → merged (group_of file text v ∷ []) ≡ group_of file text v
one_shown file text a_null = one_source (properties_of file []) map.empty
one_shown file text (a_boolean b) = one_source (properties_of file []) map.empty
one_shown file text (a_number k) = one_source (properties_of file []) map.empty
one_shown file text (a_string s) = one_source (properties_of file []) map.empty
one_shown file text (an_array ns) = one_source (properties_of file []) map.empty
one_shown file text (an_object ms) = one_source (properties_of file (fields_in ms)) (put_children file text ms map.empty)

pub one_file : (file text : List ℕ) (root : Placed) → merged (shape_of file text root ∷ []) ≡ shape_of file text root
unfolding shape_of
one_file file text root = one_shown file text (tree_of root)
