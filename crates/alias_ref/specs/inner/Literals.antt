-- Values in which no reference is written.
use Rattle.std.specs.Prelude.{◌≡◌, ℕ, ◌+◌, ◌<◌, ◌≤◌, List, [], ◌∷◌, ◌++◌, length, Bool, true, false, if◌then◌else◌, map}
use Rattle.std.specs.Cmp.Lexicographic.{pointwise}
use Rattle.std.specs.Str.{bytes_eq}
use Rattle.name_path.specs.declared.place.Place.{Place}
use Rattle.json_span.specs.Tree.{Placed, tree_of}
use Rattle.json_span.specs.PlainView.{Value, ValueEntry, plain_items_view, plain_fields_view}
use Rattle.json_span.specs.declared.fields.Fields.{Fields}
use Rattle.json_span.specs.declared.items.Items.{Items}
use Rattle.json_span.specs.declared.plain.PlainFields.{PlainFields}
use Rattle.json_span.specs.declared.plain.PlainItems.{PlainItems}
use Rattle.token_tree.specs.Tree.{Definition}
use Rattle.alias_ref.specs.Written.{Step, Container, leaf, parts, Parts, parts_of, steps_of, of_value, written_as}
use Rattle.alias_ref.specs.Meaning.{put_together}
use Rattle.alias_ref.specs.Visits.{most_on_branch}
use Rattle.alias_ref.specs.inner.Spots.{IsFlawless}
use Rattle.alias_ref.specs.declared.trace.Trace.{Trace}
use Rattle.alias_ref.specs.inner.Walks.{item_parts, field_parts}

mutual
  -- No reference is written in the value, which is this one without its places. i values were counted before it, and j with it
  -- and its parts; before each there were fewer than may stand on a branch.
  pub data IsLiteral : ℕ → Placed → Value → ℕ → Type 0 where
    literal_leaf : {i : ℕ} {n : Placed} {v : Value} → i < most_on_branch → written_as of_value (tree_of n) ≡ leaf v → IsLiteral i n v (i + 1)
    literal_parts : {i j : ℕ} {n : Placed} {c : Container} {es : List ValueEntry} → i < most_on_branch → written_as of_value (tree_of n) ≡ parts c (steps_of (parts_of (tree_of n)))
        → AreLiterals (i + 1) (parts_of (tree_of n)) es j → IsLiteral i n (put_together c es) j

  -- the same of parts, one after the other
  pub data AreLiterals : ℕ → Parts → List ValueEntry → ℕ → Type 0 where
    no_literals : {i : ℕ} → AreLiterals i [] [] i
    more_literals : {i j k : ℕ} {s : Step} {n : Placed} {rest : Parts} {v : Value} {es : List ValueEntry} → IsLiteral i n v j → AreLiterals j rest es k
        → AreLiterals i ((s, n) ∷ rest) (record { name = s; value = v } ∷ es) k

-- The first parts were read as these entries; whatever the rest is read as comes behind them.
abbrev pub ReadSoFar : ℕ → Parts → Parts → ℕ → List ValueEntry → Type 0
ReadSoFar i all rest j es = (more : List ValueEntry) (k : ℕ) → AreLiterals j rest more k → AreLiterals i all (es ++ more) k

-- of the items of an array, and of the members of an object
abbrev pub ItemsAreLiterals : ℕ → Items → PlainItems → ℕ → Type 0
ItemsAreLiterals i items l j = (es : List ValueEntry) × AreLiterals i (item_parts items) es j × (plain_items_view l ≡ map (λ e. e.value) es)

abbrev pub FieldsAreLiterals : ℕ → Fields → PlainFields → ℕ → Type 0
FieldsAreLiterals i fields l j = AreLiterals i (field_parts fields) (plain_fields_view l) j

-- the whole value of a definition is a literal
pub record IsWholeLiteral (d : Definition) (v : Value) (i j : ℕ) : Type 0 where
  pub own : d.by_ref ≡ false
  pub literal : IsLiteral i d.value v j
  pub sound : IsFlawless d.value

-- one of the places is of the token
abbrev pub has_token : List Step → List Place → Bool
has_token token [] = false
has_token token (q ∷ b) = if pointwise bytes_eq q.token token then true else has_token token b

-- the place is the whole value of a token of which no place stands on the branch, whose places were all visited
pub record IsApart (t : Trace) (p : Place) : Type 0 where
  pub whole : p.trail ≡ []
  pub visited : length t.places.items ≤ t.visits
  pub is_new : has_token p.token t.places.items ≡ false

-- such a place was visited, whose value is a literal
pub record IsLiteralVisit (old new : Trace) (p : Place) (d : Definition) (v : Value) : Type 0 where
  pub apart : IsApart old p
  pub literal : IsWholeLiteral d v old.visits new.visits
