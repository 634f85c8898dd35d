-- The stack of a search, seen as the nodes on the way from the root.
use Rattle.std.specs.Prelude.{◌≡◌, ℕ, ◌+◌, List, [], ◌∷◌, ◌++◌, set, Option, None, IsSomeAnd}
use Rattle.std.specs.declared.vec.Vec.{Vec}
use Rattle.std.specs.declared.alloc.Global.{Global}
use Rattle.ring.specs.declared.search.Frame.{Frame}
use Rattle.ring.specs.declared.search.Mark.{Mark}
use Rattle.ring.specs.declared.search.Mark.TheVariants.{New, Open, Done}

-- the nodes of the frames
abbrev pub nodes : List Frame → List ℕ
nodes [] = []
nodes (f ∷ fs) = f.node ∷ nodes fs

-- the end of a list of nodes, from one of them on
pub record IsEndFrom (node : ℕ) (all part : List ℕ) : Type 0 where
  pub before : List ℕ
  pub rest : List ℕ
  pub whole : all ≡ before ++ part
  pub begins : part ≡ node ∷ rest

-- what comes of a need, by its mark: the ring that is told, the marks and the stack
abbrev pub LooksAt : Mark → List Mark → List Frame → Frame → ℕ → Option (Vec ℕ Global) → List Mark → List Frame → Type 0
LooksAt Done marks stack top need told marks' stack' =
    (told ≡ None) × (marks' ≡ marks) × (stack' ≡ stack ++ (record { node = top.node; next = top.next + 1 }) ∷ [])
LooksAt New marks stack top need told marks' stack' =
    (told ≡ None) × (marks' ≡ set marks need Open) × (stack' ≡ (stack ++ top ∷ []) ++ (record { node = need; next = 0 }) ∷ [])
LooksAt Open marks stack top need told marks' stack' =
    IsSomeAnd told (λ ring. IsEndFrom need (nodes (stack ++ top ∷ [])) ring.items)
