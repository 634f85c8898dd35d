-- The names so far can be printed.
use Rattle.std.proofs.Common.{◌≡◌, drop, filter, map, not}
use Rattle.resolver_doc.specs.View.{sets_view}
use Rattle.transforms.specs.Quoted.{is_printable}
use Rattle.theme_css.proofs.names.bad_context.Given as goal

abbrev pub invariant-loop-context : goal.invariant-loop-context
invariant-loop-context l = filter (λ c. not (is_printable c)) (map (λ c. c.name) (sets_view (drop l.context-index l.contexts))) ≡ filter (λ c. not (is_printable c)) (map (λ c. c.name) (sets_view l.contexts))
