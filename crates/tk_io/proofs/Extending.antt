-- What extends what: for the proofs of printers, those of other crates too.
use Rattle.std.proofs.Common.{◌≡◌, ℕ, List, [], ◌++◌, Result, Ok, Err, OnErr, sym, ap, ◌∙◌, append_assoc}
use Rattle.std.proofs.lemmas.List.{append-nil}
use Rattle.tk_io.specs.Writing.{Extends}

pub extends_self : (xs : List ℕ) → Extends xs xs
extends_self xs = ([], sym (append-nil xs))

pub extends_more : (old mid new : List ℕ) → Extends old mid → Extends mid new → Extends old new
extends_more old mid new p q = (p.0 ++ q.0, q.1 ∙ (ap (λ (z : List ℕ). z ++ q.0) p.1 ∙ append_assoc old p.0 q.0))

-- whatever the answer is
pub extends_on_err : {T E : Type 0} (result : Result T E) (old new more : List ℕ) → new ≡ old ++ more → OnErr result (Extends old new)
extends_on_err (Ok x) old new more e = tt
extends_on_err (Err x) old new more e = (more, e)
