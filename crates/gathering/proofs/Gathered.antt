-- What was given to a sink that gathers, by what the sink behind it holds.
use Rattle.std.proofs.Common.{◌∙◌, ◌+◌, ℕ, List, ◌++◌, take, drop, Option, Some, None, Result, Ok, Err, ap, sym, append_assoc, drop-drop, take-append-drop}
use Rattle.std.proofs.KnownBytes.{Appends-kept, Appends-trans}
use Rattle.std.specs.Io.KnownBytes.{Appends, Keeps, WriteAppends, append_known}
use Rattle.gathering.specs.Growing.{Grew}

pub grew_more : (a b c : Option (List ℕ)) (bs : List ℕ) → Grew a b → Appends b c bs → Grew a c
grew_more a b c bs grew more = (grew.0 ++ bs, Appends-trans a b c grew.0 bs grew.1 more)

pub grew_kept : (a b c : Option (List ℕ)) → Grew a b → Keeps b c → Grew a c
grew_kept a b c grew kept = (grew.0, Appends-kept a b c grew.0 grew.1 kept)

-- .. by a write
pub grew_written : {E : Type 0} (a b c : Option (List ℕ)) (r : Result ℕ E) (piece : List ℕ) → Grew a b → WriteAppends b c r piece → Grew a c
grew_written a b c (Ok n) piece grew more = grew_more a b c (take n piece) grew more
grew_written a b c (Err e) piece grew same = grew_kept a b c grew same

-- some of what is held is handed on
pub handed : (a b : Option (List ℕ)) (h n : ℕ) (held : List ℕ) → Appends a b (take n (drop h held)) → Keeps (append_known a (drop h held)) (append_known b (drop (h + n) held))
handed None b h n held more = tt
handed (Some x) None h n held more = absurd more
handed (Some x) (Some y) h n held more =
    ap (λ l. l ++ drop (h + n) held) more ∙ append_assoc x (take n (drop h held)) (drop (h + n) held)
    ∙ ap (λ l. x ++ (take n (drop h held) ++ l)) (sym (drop-drop n h held))
    ∙ ap (λ l. x ++ l) (take-append-drop n (drop h held))

-- nothing of what is held is
pub kept : (a b : Option (List ℕ)) (held : List ℕ) → Keeps a b → Keeps (append_known a held) (append_known b held)
kept None b held same = tt
kept (Some x) None held same = absurd same
kept (Some x) (Some y) held same = ap (λ l. l ++ held) same
