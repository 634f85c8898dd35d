use Rattle.std.proofs.Common.{◌≡◌, ℕ, zero, suc, ◌+◌, ◌-◌, ◌<◌, List, [], ◌∷◌, ◌++◌, length, get_or, set, arith}
use Rattle.std.specs.declared.vec.Vec.{Vec}
use Rattle.std.specs.declared.alloc.Global.{Global}
use Rattle.ring.specs.Graph.{needs_in}
use Rattle.ring.specs.declared.search.Frame.{Frame}
use Rattle.ring.specs.declared.search.Mark.{Mark}
use Rattle.ring.specs.declared.search.Mark.TheVariants.{New, Open, Done}

abbrev pub weight : Mark → ℕ → ℕ
weight New n = n + 2
weight Open n = 0
weight Done n = 0

-- the steps to come at nodes that are new
abbrev pub new_work : List (Vec ℕ Global) → List Mark → ℕ
new_work [] ms = 0
new_work (row ∷ rows) [] = 0
new_work (row ∷ rows) (m ∷ ms) = weight m (length row.items) + new_work rows ms

-- the steps to come at the frames
abbrev pub left_work : List (Vec ℕ Global) → List Frame → ℕ
left_work graph [] = 0
left_work graph (f ∷ fs) = (length (needs_in graph f.node) - f.next) + 1 + left_work graph fs

pub left_append : (graph : List (Vec ℕ Global)) (xs ys : List Frame) → left_work graph (xs ++ ys) ≡ left_work graph xs + left_work graph ys
left_append graph [] ys = omega arith
left_append graph (f ∷ fs) ys = omega (arith, left_append graph fs ys)

pub work_set : (graph : List (Vec ℕ Global)) (ms : List Mark) (v : ℕ) (m : Mark) → length ms ≡ length graph → v < length ms →
    new_work graph (set ms v m) + weight (get_or ms v New) (length (needs_in graph v)) ≡ new_work graph ms + weight m (length (needs_in graph v))
work_set [] [] v m e h = absurd (omega arith)
work_set [] (n ∷ ms) v m e h = absurd (omega arith)
work_set (row ∷ rows) [] v m e h = absurd (omega arith)
work_set (row ∷ rows) (n ∷ ms) zero m e h = omega arith
work_set (row ∷ rows) (n ∷ ms) (suc v) m e h = omega (arith, work_set rows ms v m (omega arith) (omega arith))
