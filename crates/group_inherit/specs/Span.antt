-- Parts of files.
use Rattle.std.specs.Prelude.{ℕ, List}
use Rattle.std.proofs.Common.{refl}
use Rattle.std.specs.Coded.{Coded, code_by, coded_ℕ, coded×}
use Rattle.token_tree.specs.Codes.{coded_text}
use Rattle.token_tree.specs.Tree.{Extension}

-- a file's name, and the byte offsets of the beginning and the end of a part
pub record Span : Type 0 where
  pub file : List ℕ
  pub start : ℕ
  pub end : ℕ

abbrev pub span_at : List ℕ → ℕ → ℕ → Span
span_at file start end = record { file = file; start = start; end = end }

-- where the string stands that names a target
abbrev pub span_of : Extension → Span
span_of e = span_at e.file e.start e.end

-- a span is coded as its fields
abbrev pub coded_span : Coded Span
coded_span = code_by (List ℕ × (ℕ × ℕ)) (coded× coded_text (coded× coded_ℕ coded_ℕ)) (λ s. (s.file, (s.start, s.end))) (λ f. span_at f.0 f.1.0 f.1.1) (λ _. refl)
