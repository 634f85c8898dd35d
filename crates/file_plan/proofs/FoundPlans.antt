-- What is refused, told by what it is found of.
use Rattle.std.proofs.Common.{ℕ, List, Option, Some, None, Result, Ok, Err}
use Rattle.std.specs.Result.{IfErr}
use Rattle.json_span.specs.Answer.{IsJsonFault}
use Rattle.json_span.specs.Flaw.{equal_names, too_deep}
use Rattle.json_span.specs.declared.reader.JsonFault.{JsonFault}
use Rattle.json_span.specs.declared.reader.JsonFault.TheVariants as json
use Rattle.file_plan.specs.Plan.{Planned, refused, stopped, has_flaw, breaks, too_many, too_many_sources}
use Rattle.file_plan.specs.Trees.{IsTreeOf, IsRead}
use Rattle.file_plan.specs.View.{IsPlanRefusal}
use Rattle.file_plan.specs.declared.refusal.PlanRefusal.{PlanRefusal}
use Rattle.file_plan.specs.declared.tree.Tree.{Tree}
use Rattle.file_plan.specs.declared.tree.Tree.TheVariants.{Flawed}
use Rattle.file_plan.specs.declared.refusal.PlanRefusal.TheVariants.{Syntax, Duplicate, Depth, Broken, TooMany, TooManySources, NoMemory}

refused_so : (F G : Planned → Type 0) → ((p : Planned) → F p → G p) → (e : PlanRefusal) → IsPlanRefusal F e → IsPlanRefusal G e
refused_so F G so (Syntax at) is = so (refused (stopped at)) is
refused_so F G so (Duplicate start end) is = so (refused (has_flaw (equal_names start end))) is
refused_so F G so (Depth start end) is = so (refused (has_flaw (too_deep start end))) is
refused_so F G so (Broken rule start end ring) is = so (refused (breaks (record { rule = rule; start = start; end = end }) ring)) is
refused_so F G so (TooMany start end count) is = so (refused (too_many start end count)) is
refused_so F G so (TooManySources start end count) is = so (refused (too_many_sources start end count)) is
refused_so F G so NoMemory is = tt

pub if_refused_so : {X : Type 0} (F G : Planned → Type 0) → ((p : Planned) → F p → G p) → (r : Result X PlanRefusal) → IfErr r (IsPlanRefusal F) → IfErr r (IsPlanRefusal G)
if_refused_so F G so (Ok x) is = is
if_refused_so F G so (Err e) is = refused_so F G so e is

-- a tree of a text that is not read tells why
pub is_unread : (text : List ℕ) (fault : JsonFault) → IsTreeOf text (Flawed fault) → IsJsonFault text fault
is_unread text (json.Syntax at) is = is
is_unread text (json.Dup start end) is = is
is_unread text (json.Deep start end) is = is
is_unread text json.NoMemory is = tt

-- What is said of each text of a document's tree is said of files with that document.

pub read_by : (claim : Option (List ℕ) → Type 0) (tree : Tree) → ((text : List ℕ) → IsTreeOf text tree → claim (Some text)) → (text : Option (List ℕ)) → IsRead text (Some tree) → claim text
read_by claim tree each None is = absurd is
read_by claim tree each (Some text) is = each text is
