use Rattle.std.proofs.Common.{Some, None}
use Rattle.std.proofs.lemmas.Bool.Decides.{Decides-eqb}
use Rattle.std.proofs.lemmas.Slice.Eq.{strip_suffix_is}
use Rattle.out_store.proofs.Deciding.{decided_no, file_decided}
use Rattle.out_store.proofs.output_path.is_file_of.Goals as goal

pub returns-in-Some : goal.returns-in-Some
returns-in-Some c =
    file_decided c.in-Some.name.now c.args.file.now c.args.path.now c.is_name.result c.is_name.ensures (strip_suffix_is Decides-eqb c.args.path.now c.args.file.now (Some c.in-Some.name) c.in-Some.ensures.cases)

pub returns-in-None : goal.returns-in-None
returns-in-None c =
    decided_no (λ w. strip_suffix_is Decides-eqb c.args.path.now c.args.file.now None c.in-None.ensures.cases w.0 w.2)
