-- What plans and refusals are seen as.
use Rattle.std.specs.Prelude.{List, map}
use Rattle.json_span.specs.Flaw.{equal_names, too_deep}
use Rattle.json_span.specs.View.{node_view}
use Rattle.permutations.specs.Permutation.{TokenSource, file, inline, Permutation}
use Rattle.file_plan.specs.Plan.{stopped, has_flaw, breaks, too_many, too_many_sources, Planned, refused}
use Rattle.file_plan.specs.declared.refusal.PlanRefusal.{PlanRefusal}
use Rattle.file_plan.specs.declared.refusal.PlanRefusal.TheVariants.{Syntax, Duplicate, Depth, Broken, TooMany, TooManySources, NoMemory}
use Rattle.file_plan.specs.declared.source.PlanSource.{PlanSource}
use Rattle.file_plan.specs.declared.source.PlanSource.TheVariants.{File, Inline}
use Rattle.file_plan.specs.declared.source.PlanPerm.{PlanPerm}

abbrev pub plan_source_view : PlanSource → TokenSource
plan_source_view (File name start end) = file name start end
plan_source_view (Inline node) = inline (node_view node)

abbrev pub plan_sources_view : List PlanSource → List TokenSource
plan_sources_view sources = map plan_source_view sources

abbrev pub plan_perm_view : PlanPerm → Permutation
plan_perm_view p = record { name = p.name; sources = plan_sources_view p.sources }

abbrev pub plan_view : List PlanPerm → List Permutation
plan_view perms = map plan_perm_view perms

-- the refusal is what is found; memory may always run out
abbrev pub IsPlanRefusal : (Planned → Type 0) → PlanRefusal → Type 0
IsPlanRefusal found (Syntax at) = found (refused (stopped at))
IsPlanRefusal found (Duplicate start end) = found (refused (has_flaw (equal_names start end)))
IsPlanRefusal found (Depth start end) = found (refused (has_flaw (too_deep start end)))
IsPlanRefusal found (Broken rule start end ring) = found (refused (breaks (record { rule = rule; start = start; end = end }) ring))
IsPlanRefusal found (TooMany start end count) = found (refused (too_many start end count))
IsPlanRefusal found (TooManySources start end count) = found (refused (too_many_sources start end count))
IsPlanRefusal found NoMemory = Unit {0}
