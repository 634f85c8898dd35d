use Rattle.std.proofs.Common.{◌≡◌, ◌-◌, ◌++◌, take, drop, length, sym, ap, ◌∙◌, rules}
use Rattle.std.specs.Prelude.{slice_range}
use Rattle.std.specs.String.{string_bytes}
use Rattle.std.specs.Char.{encode_utf8}
use Rattle.json_span.proofs.Strings as string
use Rattle.json_span.proofs.TakenCharacters as taken
use Rattle.json_span.proofs.text.decode.Goals as goal

pub loop-characters-init : goal.loop-characters-init
loop-characters-init c = (c.requires.within, c.requires.boundary, taken.taken_as (search rules) (taken.none_taken c.args.text.now c.args.from))

pub returns-then-not-has : goal.returns-then-not-has
returns-then-not-has c = λ s u k.
    let x = c.plain_end-plain.ensures.plain in
    let bytes : string_bytes c.push_str.new.self ≡ string_bytes c.loop-characters.characters ++ slice_range c.args.text.now c.loop-characters.at c.plain_end-plain.result =
    c.in_ok-push_str.ensures.bytes ∙ ap (λ z. string_bytes c.loop-characters.characters ++ z) c.range.ensures.value in
    bytes ∙ sym (taken.all_taken (taken.run_taken c.loop-characters.invariant.2 x) x (sym c.if-not-has.ensures.test) s u k)

pub read_escape-escaped-requires : goal.read_escape-escaped-requires
read_escape-escaped-requires c =
    let t = taken.run_taken c.loop-characters.invariant.2 c.plain_end-plain.ensures.plain in
    taken.escape_begins t c.as_bytes.ensures.value c.requires.content (sym c.if-not-has.ensures.test)

pub loop-characters-preserved : goal.loop-characters-preserved
loop-characters-preserved c =
    let T = c.args.text.now in
    let B = c.as_bytes.result.now in
    let plain = c.plain_end-plain.result in
    let x = c.plain_end-plain.ensures.plain in
    let escaped = c.read_escape-escaped in
    let e : take (length B - plain) (drop plain B) ≡ drop plain T = string.rest_slice T B plain c.as_bytes.ensures.value in
    let boundary = string.escape_boundary T (take (length B - plain) (drop plain B)) plain escaped.result.len c.utf8.text e x.within_text escaped.ensures.some escaped.ensures.within escaped.ensures.ascii in
    let bytes : string_bytes c.push.new.self ≡ (string_bytes c.loop-characters.characters ++ slice_range T c.loop-characters.at plain) ++ encode_utf8 escaped.result.character =
    c.in_ok-push.ensures.bytes ∙ ap (λ z. z ++ encode_utf8 escaped.result.character) (c.in_ok-push_str.ensures.bytes ∙ ap (λ z. string_bytes c.loop-characters.characters ++ z) c.range.ensures.value) in (
      boundary.0,
      boundary,
      taken.taken_as bytes (taken.escape_taken escaped.result.character escaped.result.len (taken.run_taken c.loop-characters.invariant.2 x) e escaped.ensures.stands),
    )
