-- The code of a text, by which proofs tell texts apart.
use Rattle.std.specs.Prelude.{ℕ, List}
use Rattle.std.specs.Coded.{Coded, coded_ℕ, coded_list}

abbrev pub coded_text : Coded (List ℕ)
coded_text = coded_list coded_ℕ
