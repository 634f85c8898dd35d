use Rattle.std.proofs.Common.{◌≡◌, ◌-◌, length, drop, take, sym, ap, ◌∙◌, arith, length-drop}
use Rattle.json_span.proofs.Matching as match
use Rattle.json_span.proofs.Strings as string
use Rattle.json_span.proofs.TakenCharacters as taken
use Rattle.json_span.proofs.text.are_characters.Goals as goal

pub loop-behind-init : goal.loop-behind-init
loop-behind-init c = (c.requires.within, match.none_matched c.args.text.now c.args.from c.args.characters.now)

pub returns-in_default : goal.returns-in_default
returns-in_default c = match.run_differs c.loop-behind.invariant.1 c.plain_end-plain.ensures.plain c.as_bytes.ensures.value c.in_default.ensures.cases

pub returns-then-not-has : goal.returns-then-not-has
returns-then-not-has c = λ s u k.
    let x = c.plain_end-plain.ensures.plain in
    let hit = c.in-Some.ensures.cases in
    let m = match.run_agrees c.loop-behind.invariant.1 x c.as_bytes.ensures.value hit.0 hit.1 in
    c.is_empty.ensures ∙ match.ends_alike m x (sym c.if-not-has.ensures.test) s u k

pub read_escape-escaped-requires : goal.read_escape-escaped-requires
read_escape-escaped-requires c =
    let t = taken.run_taken c.loop-behind.invariant.1.taken c.plain_end-plain.ensures.plain in
    taken.escape_begins t c.as_bytes-in-loop-behind.ensures.value c.requires.content (sym c.if-not-has.ensures.test)

pub returns-in_default-strip_prefix : goal.returns-in_default-strip_prefix
returns-in_default-strip_prefix c =
    let hit = c.in-Some.ensures.cases in
    let m = match.run_agrees c.loop-behind.invariant.1 c.plain_end-plain.ensures.plain c.as_bytes.ensures.value hit.0 hit.1 in
    let e = string.rest_slice c.args.text.now c.as_bytes-in-loop-behind.result.now c.plain_end-plain.result c.as_bytes-in-loop-behind.ensures.value in
    let escaped = c.read_escape-escaped.result in
    match.escape_differs c.as_bytes-character.result.now escaped.character escaped.len m e c.read_escape-escaped.ensures.stands (c.as_bytes-character.ensures.value ∙ c.encode_utf8.ensures.value) c.in_default-strip_prefix.ensures.cases

pub loop-behind-preserved : goal.loop-behind-preserved
loop-behind-preserved c =
    let T = c.args.text.now in
    let B = c.as_bytes-in-loop-behind.result.now in
    let plain = c.plain_end-plain.result in
    let x = c.plain_end-plain.ensures.plain in
    let hit = c.in-Some.ensures.cases in
    let hit2 = c.in-Some-strip_prefix.ensures.cases in
    let m = match.run_agrees c.loop-behind.invariant.1 x c.as_bytes.ensures.value hit.0 hit.1 in
    let e : take (length B - plain) (drop plain B) ≡ drop plain T = string.rest_slice T B plain c.as_bytes-in-loop-behind.ensures.value in (
      omega (arith, ap length e ∙ length-drop plain T, c.read_escape-escaped.ensures.within, x.within_text),
      match.escape_agrees c.as_bytes-character.result.now c.read_escape-escaped.result.character c.read_escape-escaped.result.len m e c.read_escape-escaped.ensures.stands (c.as_bytes-character.ensures.value ∙ c.encode_utf8.ensures.value) hit2.0 hit2.1,
    )
