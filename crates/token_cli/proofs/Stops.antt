-- Why a run stops.
use Rattle.std.proofs.Common.{◌≡◌, ◌+◌, ℕ, Bool, List, Option, Result, Ok, Err, sym, subst}
use Rattle.std.specs.Prelude.{IfErr, IsErrAnd}
use Rattle.edit_script.specs.Script.{EventData}
use Rattle.tk_io.specs.FilesData.{FilesData}
use Rattle.build_plain.specs.Out.{Builds}
use Rattle.build_plain.specs.Work.{Work}
use Rattle.rebuild_core.specs.Work.{IsWorkFrom}
use Rattle.token_cli.specs.declared.stop.Stop.{Stop}
use Rattle.token_cli.specs.declared.stop.Stop.TheVariants as stop
use Rattle.token_cli.specs.inner.Ending.{Way, Writes}
use Rattle.token_cli.specs.inner.Step.{State, CommitFails, Cuts}
use Rattle.token_cli.specs.declared.telling.Telling.{Telling}

-- an answer with this cause
pub if_err_is : {T E : Type 0} (r : Result T E) (x : E) (P : E → Type 0) → IsErrAnd r (λ e. e ≡ x) → P x → IfErr r P
if_err_is (Ok y) x P h p = tt
if_err_is (Err e) x P h p = subst P (sym h) p

-- a commit that isn't written whole fails by the same cause
pub cut_fails : (told : Telling) (why : Stop) (s : State) (next : FilesData) (work : Work) (old new : Option (List ℕ)) (before now : ℕ) → Builds s.files next → IsWorkFrom s.kept s.files work
    → Cuts told why s.held next (s.commits + 1) work old new before now → CommitFails told why s old new before now
cut_fails told stop.NoMemory s next work old new before now built done cut = cut
cut_fails told stop.WriteFault s next work old new before now built done cut =
    let (rose, (delta, is_delta, front)) = cut in (rose, (next, work, delta, (built, done, is_delta), front))
cut_fails told stop.Usage s next work old new before now built done cut = absurd cut
cut_fails told (stop.BadScript at) s next work old new before now built done cut = absurd cut
cut_fails told (stop.BadEvent number) s next work old new before now built done cut = absurd cut
cut_fails told stop.ReadFault s next work old new before now built done cut = absurd cut
cut_fails told stop.TooLong s next work old new before now built done cut = absurd cut

-- writing that ends with this cause
pub writes_err : (r : Result Bool Stop) (x : Stop) (way : Way) (es : List EventData) (old new : Option (List ℕ)) (before now : ℕ) → IsErrAnd r (λ e. e ≡ x) → Writes (Err x) way es old new before now → Writes r way es old new before now
writes_err (Ok y) x way es old new before now h p = absurd h
writes_err (Err e) x way es old new before now h p = let P : Stop → Type 0 = λ s. Writes (Err s) way es old new before now in subst P (sym h) p
