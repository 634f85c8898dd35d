-- Lists of members, and places in them.
use Rattle.std.specs.Prelude.{if◌then◌else◌, Option, Some, None, ◌≡◌, ℕ, ◌<◌, ◌≤◌, List, [], ◌∷◌, length}
use Rattle.std.specs.FinMap.{find}
use Rattle.std.specs.List.{HoldsAt}
use Rattle.std.specs.List.Sorted.{IsPartitionPoint}
use Rattle.std.specs.declared.cmp.Ordering.{Ordering}
use Rattle.std.specs.declared.cmp.Ordering.TheVariants.{Less, Greater}
use Rattle.tk_io.specs.Order.{text_cmp}
use Rattle.json_span.specs.Tree.{Entry}
use Rattle.token_tree.specs.Tree.{Child as ChildData}
use Rattle.token_tree.specs.Shape.{is_child, child_of}
use Rattle.token_tree.specs.MembersView.{entries_of}
use Rattle.token_tree.specs.declared.tree.Member.{Member}

-- where the name stands in a list
abbrev pub IsPlaceOf : List Member → List ℕ → ℕ → Type 0
IsPlaceOf list name i = (i < length list) × HoldsAt (λ m. m.name ≡ name) list i

-- where it has to be put: all before are less, and all from there on are greater
abbrev pub IsGapFor : List Member → List ℕ → ℕ → Type 0
IsGapFor list name i = (i ≤ length list) × IsPartitionPoint (λ m. text_cmp m.name name ≡ Less) (λ m. text_cmp m.name name ≡ Greater) list i

-- a member of an object, where it is a child
abbrev pub child_in : List ℕ → List ℕ → Entry → Option (List ℕ × ChildData)
child_in file text e = if is_child e.name then Some (e.name, child_of file text e.value) else None

-- an item before the others, where there is one
abbrev pub with_front : {A : Type 0} → Option A → List A → List A
with_front None xs = xs
with_front (Some x) xs = x ∷ xs

-- no key stands twice
abbrev pub KeysAreApart : {K X : Type 0} → (K → K → Ordering) → List (K × X) → Type 0
KeysAreApart R [] = Unit {0}
KeysAreApart R (e ∷ es) = (find R e.0 es ≡ None) × KeysAreApart R es

-- no name of the members stands twice
abbrev pub NamesApart : List Member → Type 0
NamesApart list = KeysAreApart text_cmp (entries_of list)
