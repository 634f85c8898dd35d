-- What is appended where memory runs out: a part.
use Rattle.std.proofs.Common.{◌≡◌, ◌∙◌, ℕ, List, [], ◌++◌, Result, Ok, Err, OnErr, sym, ap, append-nil, append_assoc}
use Rattle.tk_io.specs.Writing.{Extends}
use Rattle.tk_io.proofs.Extending.{extends_more}

-- nothing more than before
pub nothing_more : {T E : Type 0} (r : Result T E) (old new : List ℕ) → new ≡ old → OnErr r (Extends old new)
nothing_more (Ok x) old new e = tt
nothing_more (Err x) old new e = ([], e ∙ sym (append-nil old))

-- .. than what was appended
pub no_more_than : {T E : Type 0} (r : Result T E) (old mid new more : List ℕ) → mid ≡ old ++ more → new ≡ mid → OnErr r (Extends old new)
no_more_than (Ok x) old mid new more e f = tt
no_more_than (Err x) old mid new more e f = (more, f ∙ e)

-- .. and a part
pub part_behind : {T E : Type 0} (r : Result T E) (old mid new more : List ℕ) → mid ≡ old ++ more → Extends mid new → OnErr r (Extends old new)
part_behind (Ok x) old mid new more e f = tt
part_behind (Err x) old mid new more e f = extends_more old mid new (more, e) f

-- .. or nothing, by the answer that is handed on
pub none_behind : {T E : Type 0} (r : Result T E) (old mid new more : List ℕ) → mid ≡ old ++ more → OnErr r (new ≡ mid) → OnErr r (Extends old new)
none_behind (Ok x) old mid new more e f = tt
none_behind (Err x) old mid new more e f = (more, f ∙ e)

-- two runs of bytes, one after the other
pub two_more : (old mid new a b : List ℕ) → mid ≡ old ++ a → new ≡ mid ++ b → new ≡ old ++ (a ++ b)
two_more old mid new a b e f = f ∙ (ap (λ x. x ++ b) e ∙ append_assoc old a b)
