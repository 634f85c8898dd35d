use Rattle.dec_fix.proofs.BytesAreParts.{byte_exact, byte_part, byte_again}
use Rattle.dec_fix.proofs.laws.bytes_are_parts.Goals as goal

pub returns : goal.returns
returns c = record {
  exact = λ b h. byte_exact b h;
  part = λ b h. byte_part b h;
  again = λ b h. byte_again b h;
}
