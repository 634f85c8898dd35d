-- Numbers that are read and written are the same: the laws of `src/laws.rt` as lemmas. The proofs of other crates may cite
-- them, and those of the files here that say so; what else is proved here is for this crate alone.
use Rattle.std.proofs.Common.{◌≡◌, ◌++◌, ℕ, List, true, Some, arith}
use Rattle.dec_fix.specs.Decimal.{Decimal, IsDec, IsExact}
use Rattle.dec_fix.specs.Following.{ends_number, number_at}
use Rattle.dec_fix.specs.Reading.{number_of}
use Rattle.dec_fix.specs.Spelling.{Spells}
use Rattle.dec_fix.specs.Writing.{spelling}
use Rattle.dec_fix.proofs.Again.{number_again}
use Rattle.dec_fix.proofs.Exact.{spelling_spells}
use Rattle.dec_fix.proofs.Exactness.{number_of-read, number_of-spelled}

-- what is read is within the bounds, and the text spells it
pub read_exact : (text : List ℕ) (d : Decimal) → number_of text ≡ Some d → IsExact d
read_exact text d e = (number_of-read text d e).exact

pub read_spells : (text : List ℕ) (d : Decimal) → number_of text ≡ Some d → Spells text d
read_spells text d e = (number_of-read text d e).spells

-- what is spelled within the bounds is read
pub spelled_read : (text : List ℕ) (d : Decimal) → IsExact d → Spells text d → number_of text ≡ Some d
spelled_read = number_of-spelled

-- what is written spells the number, is read as it, and ends where it ends
pub written_spells : (d : Decimal) → IsDec d → Spells (spelling d) d
written_spells = spelling_spells

pub written_read : (d : Decimal) → IsExact d → number_of (spelling d) ≡ Some d
written_read d h = number_of-spelled (spelling d) d h (spelling_spells d (record { size = omega (arith, h.size); places = omega (arith, h.places); short = h.short }))

pub written_again : (d : Decimal) (rest : List ℕ) → IsDec d → ends_number rest ≡ true → number_at (spelling d ++ rest) ≡ (d, rest)
written_again = number_again
