use Rattle.std.proofs.Common.{◌≡◌, ◌++◌, ◌∷◌, take}
use Rattle.std.specs.List.{flat_map}
use Rattle.tk_io.specs.Characters.{full_stop}
use Rattle.json_span.specs.Spelling.{inside_text}
use Rattle.json_out.proofs.writing.append_behind_points.Given as goal

abbrev pub invariant-loop-name : goal.invariant-loop-name
invariant-loop-name l = l.out ≡ l.fn.out ++ flat_map (λ name. full_stop ∷ inside_text name) (take l.name-index l.names)
