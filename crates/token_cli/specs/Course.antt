-- How a run went for the source and the sink.
use Rattle.std.specs.Prelude.{ℕ, List, Option}

-- what a source had left before and after, what a sink held, and the counts of their faults
pub record Course : Type 0 where
  pub left : Option (List ℕ)
  pub rest : Option (List ℕ)
  pub reads : ℕ
  pub reads_now : ℕ
  pub old : Option (List ℕ)
  pub new : Option (List ℕ)
  pub writes : ℕ
  pub writes_now : ℕ

abbrev pub course : Option (List ℕ) → Option (List ℕ) → ℕ → ℕ → Option (List ℕ) → Option (List ℕ) → ℕ → ℕ → Course
course left rest reads reads_now old new writes writes_now = record {
  left = left;
  rest = rest;
  reads = reads;
  reads_now = reads_now;
  old = old;
  new = new;
  writes = writes;
  writes_now = writes_now;
}
