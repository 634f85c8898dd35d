use Rattle.std.proofs.Common.{sym, arith}
use Rattle.json_span.proofs.EscapeFacts as escape
use Rattle.json_span.proofs.escape.read_escape.Goals as goal

pub returns-then-text-ne117-clause-stands : goal.returns-then-text-ne117-clause-stands
returns-then-text-ne117-clause-stands c = escape.short_stands c.args.text.now c.short_character.result (escape.begins_escape c.args.text.now c.requires) c.if-text-ne117.true c.short_character.ensures

pub returns-then-not-is_high-clause-stands : goal.returns-then-not-is_high-clause-stands
returns-then-not-is_high-clause-stands c =
    escape.alone_stands c.args.text.now c.unit_at-first.result c.character.result (escape.begins_escape c.args.text.now c.requires) c.if-text-ne117.false c.unit_at-first.ensures.value c.unit_at-first.ensures.small (sym c.if-not-is_high.ensures) c.character.ensures

pub returns-then-not-is_high-clause-ascii : goal.returns-then-not-is_high-clause-ascii
returns-then-not-is_high-clause-ascii c = escape.fourth_small c.args.text.now c.requires c.if-text-ne117.false

pub pair_character-requires-clause-low : goal.pair_character-requires-clause-low
pair_character-requires-clause-low c = escape.low_is_low c.args.text.now c.unit_at-first.result c.requires c.if-text-ne117.false c.unit_at-first.ensures.value (sym c.if-not-is_high.ensures) c.unit_at-low.result c.unit_at-low.ensures.value

pub returns-clause-stands : goal.returns-clause-stands
returns-clause-stands c =
    escape.pair_stands c.args.text.now c.unit_at-first.result c.unit_at-low.result c.pair_character.result (escape.begins_escape c.args.text.now c.requires) c.if-text-ne117.false c.unit_at-first.ensures.value (sym c.if-not-is_high.ensures) c.unit_at-low.ensures.value c.pair_character.ensures

pub returns-clause-ascii : goal.returns-clause-ascii
returns-clause-ascii c = escape.low_small c.args.text.now c.unit_at-first.result c.requires c.if-text-ne117.false c.unit_at-first.ensures.value (sym c.if-not-is_high.ensures)

pub bounds-text-1 : goal.bounds-text-1
bounds-text-1 c = let h = escape.two_long c.args.text.now c.requires in omega (arith, h)

pub bounds-text-1-then-text-ne117 : goal.bounds-text-1-then-text-ne117
bounds-text-1-then-text-ne117 c = let h = escape.two_long c.args.text.now c.requires in omega (arith, h)

pub returns-then-text-ne117-clause-within : goal.returns-then-text-ne117-clause-within
returns-then-text-ne117-clause-within c = escape.two_long c.args.text.now c.requires

pub returns-then-text-ne117-clause-ascii : goal.returns-then-text-ne117-clause-ascii
returns-then-text-ne117-clause-ascii c = escape.letter_small c.args.text.now c.requires c.if-text-ne117.true

pub unit_at-first-requires : goal.unit_at-first-requires
unit_at-first-requires c = let h = escape.unit_long c.args.text.now c.requires c.if-text-ne117.false in omega (arith, h)

pub returns-then-not-is_high-clause-within : goal.returns-then-not-is_high-clause-within
returns-then-not-is_high-clause-within c = escape.unit_long c.args.text.now c.requires c.if-text-ne117.false

pub unit_at-low-requires : goal.unit_at-low-requires
unit_at-low-requires c =
    let h = escape.pair_long c.args.text.now c.unit_at-first.result c.requires c.if-text-ne117.false c.unit_at-first.ensures.value (sym c.if-not-is_high.ensures) in
    omega (arith, h)

pub returns-clause-within : goal.returns-clause-within
returns-clause-within c = escape.pair_long c.args.text.now c.unit_at-first.result c.requires c.if-text-ne117.false c.unit_at-first.ensures.value (sym c.if-not-is_high.ensures)
