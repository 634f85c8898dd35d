-- Values that were typed, by the places of tokens.
use Rattle.std.specs.Prelude.{◌≡◌, ◌⊎◌, ℕ, List, Option, Some, Ok, option_and_then}
use Rattle.std.specs.FinMap as finite
use Rattle.std.specs.List.{slice_get}
use Rattle.json_span.specs.PlainView.{Value}
use Rattle.name_path.specs.declared.kind.Kind.{Kind}
use Rattle.group_inherit.specs.Flattening.{TokenAt}
use Rattle.alias_ref.specs.Laws.{Flat}
use Rattle.alias_ref.specs.Meaning.{Means}
use Rattle.alias_ref.specs.Written.{whole, written_in}
use Rattle.composite_rules.specs.Value.{value_of}
use Rattle.composite_rules.specs.declared.typed.Typed.{Typed}
use Rattle.transforms.specs.Config.{Settings}
use Rattle.token_cells.specs.declared.typing.TypedValue.{TypedValue}

-- what is known, at the places of tokens in path order
abbrev pub TypedList : Type 0
TypedList = List (Option TypedValue)

abbrev pub typed_at : TypedList → ℕ → Option TypedValue
typed_at known i = option_and_then (λ o. o) (slice_get known i)

-- this is known of the token at the place, under this kind
abbrev pub IsTypedAt : TypedList → ℕ → Kind → Typed → Type 0
IsTypedAt known i kind typed = (x : TypedValue) × (typed_at known i ≡ Some x) × (x.kind ≡ kind) × (x.typed.value ≡ typed)

-- nothing more is known
abbrev pub AreStill : TypedList → TypedList → Type 0
AreStill old new = (i : ℕ) (x : TypedValue) → typed_at new i ≡ Some x → typed_at old i ≡ Some x

-- .. but this
abbrev pub IsKeptTyped : TypedList → TypedList → ℕ → Kind → Typed → Type 0
IsKeptTyped old new at kind typed =
    (i : ℕ) (x : TypedValue) → typed_at new i ≡ Some x
    → ((at ≡ i) × (x.kind ≡ kind) × (x.typed.value ≡ typed)) ⊎ (typed_at old i ≡ Some x)

-- what is known of a token is what it means, under the kind
abbrev pub AreTyped : Flat → Settings → TypedList → Type 0
AreTyped flat settings known =
    (i : ℕ) (x : TypedValue) (token : TokenAt) (v : Value) → typed_at known i ≡ Some x
    → slice_get (finite.entries flat) i ≡ Some token → Means (written_in flat) (whole token.0) v
    → value_of settings.legacy x.kind v ≡ Ok x.typed.value
