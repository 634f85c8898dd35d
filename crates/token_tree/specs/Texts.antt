-- Texts that a token file gives a meaning to, as tests and readings that compute.
use Rattle.std.specs.Prelude.{ℕ, ◌+◌, ◌-◌, Bool, true, false, not, ◌&&◌, ◌==◌, if◌then◌else◌, List, [], ◌∷◌, map, length, drop, Option, Some, None, slice_range}
use Rattle.std.specs.List.{list_all, slice_split}
use Rattle.std.specs.Str.{bytes_eq}
use Rattle.tk_io.specs.Characters.{digit_zero, dollar_sign, full_stop, left_brace, right_brace, solidus, tilde}
use Rattle.name_path.specs.declared.kind.Kind.{Kind}
use Rattle.name_path.specs.declared.kind.Kind.TheVariants.{Color, Dimension, FontFamily, FontWeight, Duration, CubicBezier, Number, StrokeStyle, Border, Transition, Shadow, Gradient, Typography}
use Rattle.name_path.specs.Kinds.{kind_name}
use Rattle.name_path.specs.Reference.{pointer_text, curly_text}

-- a text that begins with '$'
abbrev pub is_reserved : List ℕ → Bool
is_reserved [] = false
is_reserved (b ∷ bs) = b == dollar_sign

abbrev pub is_empty : {A : Type 0} → List A → Bool
is_empty [] = true
is_empty (x ∷ xs) = false

-- neither '.' nor '{' nor '}'
abbrev pub is_plain : ℕ → Bool
is_plain b = not (b == full_stop) && (not (b == left_brace) && not (b == right_brace))

-- a name of a token or group
abbrev pub is_name : List ℕ → Bool
is_name text = not (is_empty text) && (not (is_reserved text) && list_all is_plain text)

abbrev pub kinds : List Kind
kinds = Color ∷ Dimension ∷ FontFamily ∷ FontWeight ∷ Duration ∷ CubicBezier ∷ Number ∷ StrokeStyle ∷ Border ∷ Transition ∷ Shadow ∷ Gradient ∷ Typography ∷ []

abbrev pub kind_among : List Kind → List ℕ → Option Kind
kind_among [] text = None
kind_among (k ∷ ks) text = if bytes_eq (kind_name k) text then Some k else kind_among ks text

-- the kind of this name
abbrev pub kind_named : List ℕ → Option Kind
kind_named text = kind_among kinds text

-- a step of a pointer with its escapes read (RFC 6901 section 4)
abbrev pub read_step : List ℕ → List ℕ
read_step [] = []
read_step (b ∷ []) = b ∷ []
read_step (b ∷ c ∷ bs) =
    if (b == tilde) && (c == digit_zero) then tilde ∷ read_step bs
    else if (b == tilde) && (c == digit_zero + 1) then solidus ∷ read_step bs
    else b ∷ read_step (c ∷ bs)

-- the steps of a pointer after its '#', and the names between braces, whether the text is spelled so or not
abbrev pub pointer_steps : List ℕ → List (List ℕ)
pointer_steps text = map read_step (drop 1 (slice_split (λ b. b == solidus) text))

abbrev pub curly_names : List ℕ → List (List ℕ)
curly_names text = slice_split (λ b. b == full_stop) (slice_range text 1 (length text - 1))

-- the path of the group that a text names: that of which it is the pointer, or the path in braces
abbrev pub group_named : List ℕ → Option (List (List ℕ))
group_named text =
    if list_all is_name (pointer_steps text) && bytes_eq text (pointer_text (pointer_steps text)) then Some (pointer_steps text)
    else if list_all is_name (curly_names text) && bytes_eq text (curly_text (curly_names text)) then Some (curly_names text)
    else None
