-- A viable prefix goes on to a JSON text by ASCII alone.
use Rattle.std.proofs.Common.{◌≡◌, ℕ, ◌<◌, List, [], ◌∷◌, Bool, true, false, ◌&&◌, refl, arith}
use Rattle.std.specs.Char.{is_ascii}
use Rattle.std.specs.List.{list_all}
use Rattle.std.specs.Str.{IsAscii}
use Rattle.std.proofs.lemmas.Bool.Decides.{nat_tests}
use Rattle.std.proofs.lemmas.Str.{IsUtf8-append, IsUtf8-from_ascii}
use Rattle.std.proofs.lemmas.Str.Ascii.{IsAscii-nil, IsAscii-cons}
use Rattle.grammar.specs.Grammar.{Derives, IsFront, named, each_begins}
use Rattle.grammar.specs.Laws.{IsProductiveBy}
use Rattle.grammar.proofs.GoingOn.{goes_on}
use Rattle.json_span.specs.Grammar.{Name, value, number, string, grammar, json_text}
use Rattle.json_span.specs.Laws.{GoesOn}
use Rattle.json_span.proofs.Rfc.{value_to, number_to, string_to}
use Rattle.json_span.proofs.Predictive.{zero_value, zero_text, empty_string}

below : (c : ℕ) → is_ascii c ≡ true → c < 128
below c h = grind (arith, nat_tests, h)

split : (a b : Bool) → (a && b) ≡ true → (a ≡ true) × (b ≡ true)
split true b e = (refl, e)
split false b e = cc

all_ascii : (w : List ℕ) → list_all is_ascii w ≡ true → IsAscii w
all_ascii [] h = IsAscii-nil
all_ascii (c ∷ w) h = let (p, q) = split (is_ascii c) (list_all is_ascii w) h in IsAscii-cons c w (below c p) (all_ascii w q)

by_ascii : (n : Name) → (w : List ℕ) × ((list_all is_ascii w ≡ true) × Derives grammar (named n) w)
by_ascii value = (48 ∷ [], (refl, value_to zero_value))
by_ascii number = (48 ∷ [], (refl, number_to zero_text))
by_ascii string = (34 ∷ 34 ∷ [], (refl, string_to empty_string))

begins_ascii : (n : Name) → each_begins is_ascii (grammar n) ≡ true
begins_ascii value = refl
begins_ascii number = refl
begins_ascii string = refl

productive : IsProductiveBy is_ascii grammar
productive = record { spelled = by_ascii; begins = begins_ascii }

pub front_goes_on : (text : List ℕ) → IsFront grammar json_text text → GoesOn text
front_goes_on text f =
    let (w, (a, d)) = goes_on is_ascii grammar productive f refl in
    let ascii = all_ascii w a in
    record { rest = w; ascii = ascii; derives = d; whole = λ u. IsUtf8-append text w u (IsUtf8-from_ascii w ascii) }
