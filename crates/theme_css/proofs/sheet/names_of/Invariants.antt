-- The names so far.
use Rattle.std.proofs.Common.{◌≡◌, take, map}
use Rattle.permutations.specs.View.{perms_view}
use Rattle.theme_css.proofs.sheet.names_of.Given as goal

abbrev pub invariant-loop-perm : goal.invariant-loop-perm
invariant-loop-perm l = map (λ n. n.now) l.names.items ≡ map (λ p. p.name) (perms_view (take l.perm-index l.perms))
