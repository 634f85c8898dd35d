-- The names of an object's members, as a builder keeps them.
use Rattle.std.specs.Prelude.{◌≡◌, ℕ, ◌+◌, ◌-◌, ◌≤◌, true, List, [], ◌∷◌, drop, slice_range, Option, Some, None, if◌then◌else◌}
use Rattle.grammar.specs.Grammar.{named}
use Rattle.json_span.specs.Grammar.{string}
use Rattle.json_span.specs.Tree.{Entry}
use Rattle.json_span.specs.Reading.{StringAt}
use Rattle.json_span.specs.inner.Scan.{ReadsTo}
use Rattle.json_span.specs.Table.{IsString}
use Rattle.json_span.specs.Flaw.{Flaw, equal_names, is_seen}
use Rattle.json_span.specs.declared.names.NameSpan.{NameSpan}

-- a name was read there
pub record IsNameSpan (text : List ℕ) (at : ℕ) (n : NameSpan) : Type 0 where
  pub start : n.start ≡ at
  pub reads : ReadsTo (named string) text at n.end
  pub long : at + 2 ≤ n.end
  pub plain : n.is_plain ≡ true → StringAt (drop at text) (slice_range text (at + 1) (n.end - 1)) (drop n.end text)

-- it is the name of the member
pub record IsNameOf (text : List ℕ) (n : NameSpan) (e : Entry) : Type 0 where
  pub start : n.start ≡ e.start
  pub end : n.end ≡ e.end
  pub stands : IsString text n.start e.name n.end
  pub reads : ReadsTo (named string) text n.start n.end
  pub long : n.start + 2 ≤ n.end
  pub plain : n.is_plain ≡ true → e.name ≡ slice_range text (n.start + 1) (n.end - 1)

-- the first name that stands before, among these or in the list
abbrev pub names_flaw : List (List ℕ) → List Entry → Option Flaw
names_flaw names [] = None
names_flaw names (e ∷ es) =
    if is_seen names e.name then Some (equal_names e.start e.end) else names_flaw (e.name ∷ names) es

-- the names of members, the last one first, before those
abbrev pub reversed_names : List Entry → List (List ℕ) → List (List ℕ)
reversed_names [] names = names
reversed_names (e ∷ es) names = reversed_names es (e.name ∷ names)

abbrev pub AreNamesOf : List ℕ → List NameSpan → List Entry → Type 0
AreNamesOf text [] [] = Unit {0}
AreNamesOf text [] (e ∷ es) = ⊥
AreNamesOf text (n ∷ ns) [] = ⊥
AreNamesOf text (n ∷ ns) (e ∷ es) = IsNameOf text n e × AreNamesOf text ns es
