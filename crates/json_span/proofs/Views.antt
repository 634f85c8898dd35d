-- Lists of values and of members, as lists and as trees.
use Rattle.std.proofs.Common.{◌≡◌, List, [], ◌∷◌, refl, ap}
use Rattle.json_span.specs.Tree.{Entry, Members, no_members, a_member, members_of, entries_in}

pub members_of-in : (ms : Members) → members_of (entries_in ms) ≡ ms
members_of-in no_members = refl
members_of-in (a_member name start end n ms) = ap (a_member name start end n) (members_of-in ms)

pub entries_in-of : (es : List Entry) → entries_in (members_of es) ≡ es
entries_in-of [] = refl
entries_in-of (e ∷ es) = ap (λ z. e ∷ z) (entries_in-of es)
