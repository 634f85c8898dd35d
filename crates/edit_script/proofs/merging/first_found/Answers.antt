use Rattle.std.proofs.Common.{ap, sym, ◌∙◌}
use Rattle.std.specs.Option.{option_map}
use Rattle.edit_script.specs.inner.Merge.{lent_view}
use Rattle.edit_script.proofs.Rising.{low_none, low_next, turned, step_new, step_gone, step_same, step_other}
use Rattle.edit_script.proofs.merging.first_found.Goals as goal

pub returns-in_default : goal.returns-in_default
returns-in_default c os ns old new = step_new os ns c.in_ok-path.path.now c.in_ok-path.bytes.now (new ∙ ap (option_map lent_view) c.in_ok-path.was) (λ _. low_none os c.in_ok-path.path.now (old ∙ ap (option_map lent_view) c.in_default.is))

pub returns-in_default-new : goal.returns-in_default-new
returns-in_default-new c os ns old new = step_gone os ns c.in-Some.old_path.now c.in-Some.old_bytes.now (old ∙ ap (option_map lent_view) c.in-Some.is) (λ _. low_none ns c.in-Some.old_path.now (new ∙ ap (option_map lent_view) c.in_default-new.is))

pub returns-in-Less : goal.returns-in-Less
returns-in-Less c os ns old new =
    step_gone os ns c.in-Some.old_path.now c.in-Some.old_bytes.now (old ∙ ap (option_map lent_view) c.in-Some.is)
    (low_next ns c.in-Some.old_path.now c.in-Some-new.new_path.now c.in-Some-new.new_bytes.now (new ∙ ap (option_map lent_view) c.in-Some-new.is) (sym c.cmp.ensures ∙ c.in-Less.is))

pub returns-in-Greater : goal.returns-in-Greater
returns-in-Greater c os ns old new =
    step_new os ns c.in-Some-new.new_path.now c.in-Some-new.new_bytes.now (new ∙ ap (option_map lent_view) c.in-Some-new.is)
    (low_next os c.in-Some-new.new_path.now c.in-Some.old_path.now c.in-Some.old_bytes.now (old ∙ ap (option_map lent_view) c.in-Some.is) (turned c.in-Some.old_path.now c.in-Some-new.new_path.now (sym c.cmp.ensures ∙ c.in-Greater.is)))

pub returns-then-are_same : goal.returns-then-are_same
returns-then-are_same c os ns old new =
    step_same os ns c.in-Some.old_path.now c.in-Some.old_bytes.now c.in-Some-new.new_path.now c.in-Some-new.new_bytes.now
    (old ∙ ap (option_map lent_view) c.in-Some.is) (new ∙ ap (option_map lent_view) c.in-Some-new.is) (sym c.cmp.ensures ∙ c.in-Equal.is) (sym c.are_same.ensures ∙ c.if-are_same.true)

pub returns-else-are_same : goal.returns-else-are_same
returns-else-are_same c os ns old new =
    step_other os ns c.in-Some.old_path.now c.in-Some.old_bytes.now c.in-Some-new.new_path.now c.in-Some-new.new_bytes.now
    (old ∙ ap (option_map lent_view) c.in-Some.is) (new ∙ ap (option_map lent_view) c.in-Some-new.is) (sym c.cmp.ensures ∙ c.in-Equal.is) (sym c.are_same.ensures ∙ c.if-are_same.false)
