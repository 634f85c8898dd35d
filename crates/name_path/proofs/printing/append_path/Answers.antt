use Rattle.std.proofs.Common.{ℕ, List, ◌∷◌, ◌++◌, sym, ap, ◌∙◌, append_assoc}
use Rattle.std.specs.List.{flat_map}
use Rattle.std.proofs.lemmas.Result.{on_ok_weaker, on_err_weaker}
use Rattle.tk_io.proofs.Extending.{extends_more}
use Rattle.name_path.specs.Reference.{path_text}
use Rattle.name_path.proofs.Joins.{names_join}
use Rattle.name_path.proofs.printing.append_path.Goals as goal

pub returns-clause-ok : goal.returns-clause-ok
returns-clause-ok c =
    on_ok_weaker c.append_behind_points.result (λ e. e ∙ (ap (λ (z : List ℕ). z ++ flat_map (λ name. 46 ∷ name) c.in-Some.rest.now) (c.in_ok-append.ensures.ok ∙ ap (λ (z : List ℕ). c.args.out.now ++ z) (c.as_bytes.ensures.value ∙ c.as_str.ensures))
    ∙ (append_assoc c.args.out.now c.in-Some.first.now (flat_map (λ name. 46 ∷ name) c.in-Some.rest.now)
    ∙ ap (λ (z : List ℕ). c.args.out.now ++ z) (names_join c.in-Some.first.now c.in-Some.rest.now ∙ ap path_text (sym c.in-Some.ensures.cases.0))))) c.append_behind_points.ensures.ok

pub returns-clause-err : goal.returns-clause-err
returns-clause-err c =
    on_err_weaker c.append_behind_points.result (extends_more c.args.out.now c.append.new.self c.append_behind_points.new.out (c.as_bytes.result.now, c.in_ok-append.ensures.ok)) c.append_behind_points.ensures.err
