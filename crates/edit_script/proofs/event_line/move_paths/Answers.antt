use Rattle.std.proofs.Common.{ap, ◌∙◌}
use Rattle.edit_script.specs.Script.{is_path}
use Rattle.edit_script.proofs.Spelled.{path_cut, true_or_false}
use Rattle.edit_script.proofs.event_line.move_paths.Goals as goal
use Rattle.edit_script.proofs.event_line.move_paths.Goals.{then-not-is_path-via-then-not-is_path, then-not-is_path-via-else-not-is_path+then-not-is_path-2}

pub returns-then-not-is_path : goal.returns-then-not-is_path
returns-then-not-is_path c first second fits words =
    let (a, b) = path_cut c.args.words.now c.in_ok-first.first.now c.in_ok-first.second.now first second c.in_ok-first.ensures fits.0 words in
    elim c.then-not-is_path.branch [
      | then-not-is_path-via-then-not-is_path w ↦ true_or_false (is_path c.in_ok-first.first.now) (ap is_path a ∙ fits.0) (cc)
      | then-not-is_path-via-else-not-is_path+then-not-is_path-2 w ↦ true_or_false (is_path c.in_ok-first.second.now) (ap is_path b ∙ fits.1) (cc)
    ]
