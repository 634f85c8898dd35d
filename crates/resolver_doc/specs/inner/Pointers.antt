-- Numbers under texts, of which the first stays.
use Rattle.std.specs.Prelude.{◌≡◌, ℕ, List, cond, Some, None, is_some}
use Rattle.std.specs.FinMap as map
use Rattle.std.specs.List.{position_from}
use Rattle.std.specs.Option.{option_or}
use Rattle.std.specs.Str.{bytes_eq}
use Rattle.json_span.specs.Tree.{Entry}
use Rattle.tk_io.specs.Order.{text_cmp}
use Rattle.resolver_doc.specs.Document.{pointer}
use Rattle.resolver_doc.specs.Naming.{is_among}

abbrev pub Numbers : Type 0
Numbers = map.FinMap text_cmp ℕ

-- the number stands under the text, unless one stood there, and under all other texts stands what stood there
abbrev pub AddsFirst : Numbers → Numbers → List ℕ → ℕ → Type 0
AddsFirst before after text number =
    (q : List ℕ) → map.get after q ≡ option_or (map.get before q) (cond (bytes_eq text q) (Some number) None)

-- with members from a number on, the map has all members of the section
abbrev pub Completes : List ℕ → Numbers → ℕ → List Entry → List Entry → Type 0
Completes name numbers n rest all =
    (q : List ℕ) → option_or (map.get numbers q) (position_from (λ e. bytes_eq (pointer name e) q) n rest)
    ≡ position_from (λ e. bytes_eq (pointer name e) q) 0 all

-- something stands exactly under these texts
abbrev pub HoldsTexts : Numbers → List (List ℕ) → Type 0
HoldsTexts numbers texts = (q : List ℕ) → is_some (map.get numbers q) ≡ is_among q texts
