-- The first flaw of a value: a name that repeats an earlier one of its object, or a bracket that opens one level too many.
use Rattle.std.specs.Prelude.{ℕ, zero, suc, ◌+◌, List, [], ◌∷◌, Bool, Option, Some, None, if◌then◌else◌}
use Rattle.std.specs.List.{list_any}
use Rattle.std.specs.Str.{bytes_eq}
use Rattle.json_span.specs.Tree.{Tree, a_null, a_boolean, a_number, a_string, an_array, an_object, Placed, placed, Elements, no_elements, an_element, Members, no_members, a_member}

-- each with the offsets of the name's string, or of the bracket
pub data Flaw : Type 0 where
  equal_names : ℕ → ℕ → Flaw
  too_deep : ℕ → ℕ → Flaw

-- how many brackets may be open at once
abbrev pub most_open : ℕ
most_open = 64

-- the first one, where there is one
abbrev pub or_else : Option Flaw → Option Flaw → Option Flaw
or_else None b = b
or_else (Some x) b = Some x

abbrev pub is_seen : List (List ℕ) → List ℕ → Bool
is_seen names name = list_any (λ n. bytes_eq n name) names

-- The parts of a value stand in the order of the text. `room` says how many brackets may open here.
abbrev mutual
  pub flaw_in : ℕ → Placed → Option Flaw
  flaw_in room (placed v start end) = flaw_at room start v

  pub flaw_at : ℕ → ℕ → Tree → Option Flaw
  flaw_at room start a_null = None
  flaw_at room start (a_boolean b) = None
  flaw_at room start (a_number k) = None
  flaw_at room start (a_string s) = None
  flaw_at zero start (an_array ns) = Some (too_deep start (start + 1))
  flaw_at (suc room) start (an_array ns) = flaw_in_elements room ns
  flaw_at zero start (an_object ms) = Some (too_deep start (start + 1))
  flaw_at (suc room) start (an_object ms) = flaw_in_members room [] ms

  pub flaw_in_elements : ℕ → Elements → Option Flaw
  flaw_in_elements room no_elements = None
  flaw_in_elements room (an_element n ns) = or_else (flaw_in room n) (flaw_in_elements room ns)

  -- with the names that stand before
  pub flaw_in_members : ℕ → List (List ℕ) → Members → Option Flaw
  flaw_in_members room names no_members = None
  flaw_in_members room names (a_member s start end n ms) =
      if is_seen names s then Some (equal_names start end)
      else or_else (flaw_in room n) (flaw_in_members room (s ∷ names) ms)

-- the first flaw of a text's value
abbrev pub first_flaw : Placed → Option Flaw
first_flaw n = flaw_in most_open n
