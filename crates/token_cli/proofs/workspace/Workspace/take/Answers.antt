use Rattle.std.proofs.Common.{◌≡◌, ℕ, List, Option, Result, Ok, Err, OnOk, ◌⊎◌, ap, inl, inr, refl, subst, sym}
use Rattle.std.specs.Prelude.{IfErr}
use Rattle.std.specs.Borrow.{Bor}
use Rattle.edit_script.specs.Script.{EventData, commit}
use Rattle.edit_script.specs.View.{event_view}
use Rattle.edit_script.specs.declared.event.Event.{Event}
use Rattle.edit_script.specs.declared.event.Event.TheVariants.{Commit, Del, Move, Patch, Put}
use Rattle.token_cli.specs.inner.Step.{CommitFails, Fails, IsCommitTold, IsEdited, IsEventTold, State}
use Rattle.token_cli.specs.inner.View.{workspace_view}
use Rattle.token_cli.specs.declared.stop.Stop.{Stop}
use Rattle.token_cli.specs.declared.telling.Telling.{Telling}
use Rattle.token_cli.proofs.workspace.Workspace.take.Goals as goal

-- a commit that was taken into the files is told, or fails
told_on : {T : Type 0} (r : Result T Stop) (told : Telling) (e : EventData) (s m t : State) (old new : Option (List ℕ)) → e ≡ commit → IsEdited e s m → OnOk r (IsCommitTold told m t old new) → OnOk r (IsEventTold told e s t old new)
told_on (Ok x) told e s m t old new is edit h = subst (λ (x : EventData). IsEventTold told x s t old new) (sym is) (m, subst (λ (x : EventData). IsEdited x s m) is edit, h)
told_on (Err why) told e s m t old new is edit h = tt

fails_on : {T : Type 0} (r : Result T Stop) (told : Telling) (e : EventData) (s m : State) (old new : Option (List ℕ)) (before now : ℕ) → e ≡ commit → IsEdited e s m
    → IfErr r (λ why. CommitFails told why m old new before now) → IfErr r (λ why. Fails told why e s old new before now)
fails_on (Ok x) told e s m old new before now is edit h = tt
fails_on (Err why) told e s m old new before now is edit h = inr (is, (m, edit, h))

pub returns-in-Commit-clause-ok : goal.returns-in-Commit-clause-ok
returns-in-Commit-clause-ok g c =
    told_on c.commit.result c.args.telling (event_view c.args.event.now) (workspace_view c.args.self.now) (workspace_view c.edit.new.self) (workspace_view c.commit.new.self) (g.K.Sink.written c.args.out.now) (g.K.Sink.written c.commit.new.out)
    (ap event_view c.in-Commit.is) c.in_ok-edit.ensures.ok c.commit.ensures.ok

pub returns-in-Commit-clause-err : goal.returns-in-Commit-clause-err
returns-in-Commit-clause-err g c =
    fails_on c.commit.result c.args.telling (event_view c.args.event.now) (workspace_view c.args.self.now) (workspace_view c.edit.new.self) (g.K.Sink.written c.args.out.now) (g.K.Sink.written c.commit.new.out) (g.K.Sink.faults c.args.out.now) (g.K.Sink.faults c.commit.new.out)
    (ap event_view c.in-Commit.is) c.in_ok-edit.ensures.ok c.commit.ensures.err

-- an event of another kind
abbrev IsEdit : Event → Type 0
IsEdit e =
    ((p : Bor (List ℕ)) × (text : Bor (List ℕ)) × (e ≡ Put p text))
    ⊎ (((p : Bor (List ℕ)) × (e ≡ Del p))
    ⊎ (((p : Bor (List ℕ)) × (q : Bor (List ℕ)) × (e ≡ Move p q))
    ⊎ ((p : Bor (List ℕ)) × (from : ℕ) × (to : ℕ) × (bytes : Bor (List ℕ)) × (e ≡ Patch p from to bytes))))

-- .. is taken, and nothing is told
untold : (told : Telling) (e : Event) (s t : State) (old : Option (List ℕ)) → IsEdit e → IsEdited (event_view e) s t → IsEventTold told (event_view e) s t old old
untold told (Put p text) s t old is edit = (t, edit, (refl, refl))
untold told (Del p) s t old is edit = (t, edit, (refl, refl))
untold told (Move p q) s t old is edit = (t, edit, (refl, refl))
untold told (Patch p from to bytes) s t old is edit = (t, edit, (refl, refl))
untold told Commit s t old (inl (p, text, is)) edit = absurd (cc)
untold told Commit s t old (inr (inl (p, is))) edit = absurd (cc)
untold told Commit s t old (inr (inr (inl (p, q, is)))) edit = absurd (cc)
untold told Commit s t old (inr (inr (inr (p, from, to, bytes, is)))) edit = absurd (cc)

pub returns-in-Put-clause-ok : goal.returns-in-Put-clause-ok
returns-in-Put-clause-ok g c =
    untold c.args.telling c.args.event.now (workspace_view c.args.self.now) (workspace_view c.edit.new.self) (g.K.Sink.written c.args.out.now) c.in-Put.is c.in_ok-edit.ensures.ok

pub returns-in-Put-2-clause-ok : goal.returns-in-Put-2-clause-ok
returns-in-Put-2-clause-ok g c =
    untold c.args.telling c.args.event.now (workspace_view c.args.self.now) (workspace_view c.edit.new.self) (g.K.Sink.written c.args.out.now) c.in-Put.is c.in_ok-edit.ensures.ok

pub returns-in-Put-3-clause-ok : goal.returns-in-Put-3-clause-ok
returns-in-Put-3-clause-ok g c =
    untold c.args.telling c.args.event.now (workspace_view c.args.self.now) (workspace_view c.edit.new.self) (g.K.Sink.written c.args.out.now) c.in-Put.is c.in_ok-edit.ensures.ok

pub returns-in-Put-4-clause-ok : goal.returns-in-Put-4-clause-ok
returns-in-Put-4-clause-ok g c =
    untold c.args.telling c.args.event.now (workspace_view c.args.self.now) (workspace_view c.edit.new.self) (g.K.Sink.written c.args.out.now) c.in-Put.is c.in_ok-edit.ensures.ok
