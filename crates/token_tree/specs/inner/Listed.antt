-- The listed members of an object as they are found.
use Rattle.std.specs.Prelude.{◌≡◌, ℕ, List, Option, Some, None, codes, if◌then◌else◌, option_map, option_and_then, unwrap_or}
use Rattle.std.specs.Option.{option_or}
use Rattle.std.specs.Str.{bytes_eq}
use Rattle.json_span.specs.Tree.{Tree, Placed, Entry, tree_of, value_of_name}
use Rattle.json_span.specs.View.{ref_view}
use Rattle.json_span.specs.declared.node_ref.NodeRef.{NodeRef}
use Rattle.token_tree.specs.declared.listed_members.ListedMembers.{ListedMembers}

-- what is kept for a name
abbrev pub Kept : Type 0
Kept = ListedMembers → Option Placed

-- the fact holds of each listed name and of what is kept for it
pub record Each (P : Kept → List ℕ → Type 0) : Type 0 where
  pub value : P (λ l. option_map ref_view l.value) (codes "$value")
  pub reference : P (λ l. option_map ref_view l.reference) (codes "$ref")
  pub kind : P (λ l. option_map ref_view l.kind) (codes "$type")
  pub description : P (λ l. option_map ref_view l.description) (codes "$description")
  pub extensions : P (λ l. option_map ref_view l.extensions) (codes "$extensions")
  pub deprecated : P (λ l. option_map ref_view l.deprecated) (codes "$deprecated")
  pub extends : P (λ l. option_map ref_view l.extends) (codes "$extends")

-- what is kept for each name stands under it among the members
abbrev pub AreListed : ListedMembers → List Entry → Type 0
AreListed l es = Each (λ kept name. kept l ≡ value_of_name name es)

-- with those to come what is kept stands under the name among all
abbrev pub AreListedSoFar : ListedMembers → List Entry → List Entry → Type 0
AreListedSoFar l left es = Each (λ kept name. option_or (kept l) (value_of_name name left) ≡ value_of_name name es)

-- a value that stands under that name, where it is this one
abbrev pub if_named : List ℕ → List ℕ → Placed → Option Placed
if_named wanted name n = if bytes_eq name wanted then Some n else None

-- a member is taken in, where it is the first of a listed name
abbrev pub IsNoted : List ℕ → Placed → ListedMembers → ListedMembers → Type 0
IsNoted name n old new = Each (λ kept wanted. kept new ≡ option_or (kept old) (if_named wanted name n))

-- what a value says that was found or not
abbrev pub said_in : {A : Type 0} → (Tree → Option A) → Option NodeRef → Option A
said_in read node = option_and_then (λ n. read (tree_of n)) (option_map ref_view node)

-- what a token's `$ref` or else its `$value` holds, where one was found
abbrev pub value_among : ListedMembers → Placed → Placed
value_among l n = unwrap_or (option_map ref_view l.reference) (unwrap_or (option_map ref_view l.value) n)
