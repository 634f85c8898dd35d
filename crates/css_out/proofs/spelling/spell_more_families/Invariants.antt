-- What the families still to come add to the line now, all families add to it at the start.
use Rattle.std.proofs.Common.{◌≡◌, ◌∷◌, drop}
use Rattle.std.specs.List.{flat_map}
use Rattle.css_out.specs.Piece.{comma}
use Rattle.css_out.specs.PlatformValue.{family_marks}
use Rattle.css_out.specs.inner.Added.{with_marks}
use Rattle.css_out.proofs.spelling.spell_more_families.Given as goal

abbrev pub invariant-loop-family : goal.invariant-loop-family
invariant-loop-family l =
    with_marks l.line (flat_map (λ y. comma ∷ family_marks y) (drop l.family-index l.families)) ≡ with_marks l.fn.line (flat_map (λ y. comma ∷ family_marks y) l.families)
