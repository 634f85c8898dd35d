-- The letters that mean something by themselves in JSON texts, each by its code.
use Rattle.std.specs.Prelude.{ℕ}

abbrev pub small_b : ℕ
small_b = 98

abbrev pub small_f : ℕ
small_f = 102

abbrev pub small_n : ℕ
small_n = 110

abbrev pub small_r : ℕ
small_r = 114

abbrev pub small_t : ℕ
small_t = 116

abbrev pub small_u : ℕ
small_u = 117
