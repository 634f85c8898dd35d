-- `cert_text` is the text that spells a certificate: a line of the format's name, one of the
-- permutation, one of the place that is explained, one for each hop, and one of the end.
-- `IsCertificate` adds what fits into such lines. A certificate is printed by its text, and a text
-- is read as the one certificate that it spells, or refused where it spells none.
--
-- What is promised, with the calls and clauses that carry it:
-- * what is printed of a certificate is its text, and where memory runs out nothing is (`print_cert`)
-- * what is read spells the text, to each byte, and nothing else does; a text is refused exactly
--   where it spells no certificate (`read_cert`: `spelled`, `alone`, `bad`)

pub mod Certificate
pub mod inner
