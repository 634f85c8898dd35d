-- What is told of a plan that breaks a rule.
use Rattle.std.specs.Prelude.{[], ◌∷◌, map, Option, Some, None}
use Rattle.json_span.specs.Flaw.{Flaw, equal_names, too_deep}
use Rattle.file_plan.specs.InUse.{resolver_path}
use Rattle.file_plan.specs.Plan.{PlanBreak, stopped, has_flaw, breaks, too_many, too_many_sources}
use Rattle.file_plan.specs.declared.refusal.PlanRefusal.{PlanRefusal}
use Rattle.file_plan.specs.declared.refusal.PlanRefusal.TheVariants.{Syntax, Duplicate, Depth, Broken, TooMany, TooManySources, NoMemory}
use Rattle.refusals.specs.Refusal.{Report, report, counted, ring_set}
use Rattle.refusals.specs.declared.rule.Rule.TheVariants as rule

abbrev pub flaw_report : Flaw → Report
flaw_report (equal_names start end) = report rule.JsonDuplicate resolver_path start end []
flaw_report (too_deep start end) = report rule.JsonDepth resolver_path start end []

-- each break at its span, with the sets of a ring, or with a number that is beyond a limit
abbrev pub plan_report : PlanBreak → Report
plan_report (stopped at) = report rule.JsonSyntax resolver_path at at []
plan_report (has_flaw f) = flaw_report f
plan_report (breaks told ring) = report (rule.Plan told.rule) resolver_path told.start told.end (map ring_set ring)
plan_report (too_many start end n) = report rule.PlanPermutations resolver_path start end (counted n ∷ [])
plan_report (too_many_sources start end n) = report rule.PlanSources resolver_path start end (counted n ∷ [])

-- the break that a refusal tells; out of memory is none
abbrev pub break_of : PlanRefusal → Option PlanBreak
break_of (Syntax at) = Some (stopped at)
break_of (Duplicate start end) = Some (has_flaw (equal_names start end))
break_of (Depth start end) = Some (has_flaw (too_deep start end))
break_of (Broken broken start end ring) = Some (breaks (record { rule = broken; start = start; end = end }) ring)
break_of (TooMany start end count) = Some (too_many start end count)
break_of (TooManySources start end count) = Some (too_many_sources start end count)
break_of NoMemory = None
