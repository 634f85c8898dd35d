-- The slices that the readers hand out, seen as plain data.
use Rattle.dec_fix.specs.Reading.{Split}
use Rattle.dec_fix.specs.declared.parts.Parts.{Parts}

abbrev pub split_view : Parts → Split
split_view p = record { negative = p.negative; whole = p.whole.now; fraction = p.fraction.now; below = p.exponent_negative; exponent = p.exponent.now }
