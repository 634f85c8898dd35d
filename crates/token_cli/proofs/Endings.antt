-- How a replay ends, by what stood before.
use Rattle.std.proofs.Common.{◌≡◌, ◌∙◌, ◌⊎◌, inl, inr, ◌<◌, ◌≤◌, ◌+◌, ℕ, zero, suc, Bool, List, [], ◌∷◌, ◌++◌, length, take, Option, Some, Err, ap, sym, subst, refl, arith, append_assoc, append-nil, length-append}
use Rattle.std.proofs.KnownBytes.{Appends-nil, Appends-trans}
use Rattle.std.proofs.lemmas.List.{take_all}
use Rattle.std.specs.FinMap as map
use Rattle.std.specs.List.{slice_get}
use Rattle.std.specs.Io.KnownBytes.{Appends}
use Rattle.tk_io.specs.Writing.{AppendsFront, AppendsPart}
use Rattle.edit_script.specs.Script.{EventData, commit}
use Rattle.edit_script.specs.Files.{EveryFits, IsUnfit, as_one_commit, commit_count, present_of}
use Rattle.tk_io.specs.FilesData.{FilesData}
use Rattle.edit_script.specs.Delta.{Delta}
use Rattle.edit_script.specs.Stream.{line_text}
use Rattle.edit_script.specs.declared.line.Line.TheVariants.{Done}
use Rattle.edit_script.proofs.Standing.{count_parts}
use Rattle.edit_script.proofs.UnfitEvents.{fits_or_not}
use Rattle.edit_script.proofs.Written.{front_of_part, part_after}
use Rattle.file_plan.specs.Loading.{FitsFiles}
use Rattle.token_cli.specs.inner.Edits.{AreEdited, EditsFail}
use Rattle.token_cli.specs.inner.Ending.{Way, Writes, WroteSomeBy, each_commit, one_commit}
use Rattle.build_plain.specs.Work.{Work}
use Rattle.token_cli.specs.Headline.{AreCommits, AreWorks, WroteUpTo, WroteWhole, WrotePart, is_refused}
use Rattle.token_cli.specs.inner.Step.{State, IsCommitted, IsEdited, CommitFails, EditFails, Fails}
use Rattle.token_cli.specs.Told.{commit_text, commits_so_far, head_line, whole_text}
use Rattle.token_cli.specs.declared.telling.Telling.{Telling}
use Rattle.token_cli.specs.declared.telling.Telling.TheVariants.{Records}
use Rattle.token_cli.specs.declared.stop.Stop.{Stop}
use Rattle.token_cli.specs.declared.stop.Stop.TheVariants as stop
use Rattle.token_cli.proofs.Edited.{Edited, edited_more, first_unfit_here, fit_commits, unfit_kind}
use Rattle.file_plan.proofs.EventsTaken.{take_more}
use Rattle.token_cli.proofs.Standing.{Stands, as_many, commit_kept, commits_more, no_commit, no_work, nothing_yet, one_committed, one_text, one_work, stands_as, text_here, works_more}
use Rattle.token_cli.proofs.Told.{some_last, text_is}

next : {m n : ℕ} → (m < n) ⊎ (m ≡ n) → (suc m < suc n) ⊎ (suc m ≡ suc n)
next (inl h) = inl (omega (arith, h))
next (inr e) = inr (ap suc e)

le_split : (m n : ℕ) → m ≤ n → (m < n) ⊎ (m ≡ n)
le_split zero zero h = inr refl
le_split zero (suc n) h = inl (omega arith)
le_split (suc m) zero h = absurd (omega (arith, h))
le_split (suc m) (suc n) h = next (le_split m n (omega (arith, h)))

-- a prefix of what stands before the end is less than all
less_than_all : (old new : Option (List ℕ)) (all first last : List ℕ) → AppendsFront old new first → all ≡ first ++ last → 0 < length last → AppendsPart old new all
less_than_all old new all first last front e some =
    let (done, rest, split, appended) = front in
    (done, rest ++ last, e ∙ (ap (λ l. l ++ last) split ∙ append_assoc done rest last), omega (arith, some, length-append rest last), appended)

-- a prefix of what some commits gave is a part of the stream
pub part_is : (told : Telling) (es : List EventData) (held : List FilesData) (deltas : List Delta) (works : List Work) (old new : Option (List ℕ)) → AreCommits es held deltas → AreWorks es held works → AppendsFront old new (commits_so_far told works deltas) → WrotePart told es old new
part_is told es held deltas works old new commits done front =
    elim (le_split (length held) (commit_count es) commits.count) [
      | inl h ↦ (held, deltas, works, commits, done, inl (h, front))
      | inr h ↦
          (held, deltas, works, commits, done, inr (h, less_than_all old new (whole_text told works deltas) (commits_so_far told works deltas) (line_text (Done (length deltas))) front (text_is told works deltas) (some_last (length deltas))))
    ]

-- .. and of what is told of events in a way, where so many commits come before the first event that does not fit
pub some_is : (way : Way) (es : List EventData) (held : List FilesData) (deltas : List Delta) (works : List Work) (old new : Option (List ℕ)) → AreCommits way.told held deltas → AreWorks way.told held works
    → ((number : ℕ) → IsUnfit es number → length held ≤ way.before number) → AppendsFront old new (commits_so_far way.telling works deltas) → WroteSomeBy way es old new
some_is way es held deltas works old new commits done bound front =
    elim (fits_or_not es) [
      | inl fits ↦ inl (fits, part_is way.telling way.told held deltas works old new commits done front)
      | inr (number, unfit) ↦ inr (number, unfit, (held, deltas, works, commits, done, bound number unfit, front))
    ]

-- a prefix of the header is a part
pub some_first : (way : Way) (es : List EventData) (old new : Option (List ℕ)) → AppendsFront old new (line_text (head_line way.telling)) → WroteSomeBy way es old new
some_first way es old new front =
    some_is way es [] [] [] old new (no_commit way.told) (no_work way.told) (λ number unfit. omega arith)
    (subst (λ (l : List ℕ). AppendsFront old new l) (sym (nothing_yet way.telling)) front)

-- nothing is a part
pub some_nothing : (way : Way) (es : List EventData) (old : Option (List ℕ)) → WroteSomeBy way es old old
some_nothing way es old = some_first way es old old ([], line_text (head_line way.telling), refl, Appends-nil old)

-- .. and a part of the header
pub some_part : (way : Way) (es : List EventData) (old new : Option (List ℕ)) → AppendsPart old new (line_text (head_line way.telling)) → WroteSomeBy way es old new
some_part way es old new part = some_first way es old new (front_of_part old new (line_text (head_line way.telling)) part)

-- .. and all of it
pub some_header : (way : Way) (es : List EventData) (old new : Option (List ℕ)) → Appends old new (line_text (head_line way.telling)) → WroteSomeBy way es old new
some_header way es old new whole =
    let header = line_text (head_line way.telling) in
    some_first way es old new (header, [], sym (append-nil header), whole)

-- the commits that are told come before an event that does not fit
commits_below : (told : Telling) (es : List EventData) (i : ℕ) (s : State) (old now : Option (List ℕ)) → (stands : Stands told es i s old now) → EveryFits (take i es) → (number : ℕ) → IsUnfit es number → length stands.held ≤ commit_count (take number es)
commits_below told es i s old now stands fits number unfit =
    omega (arith, stands.length, stands.count, fit_commits es i number fits unfit)

-- what was written so far is a part
pub some_standing : (told : Telling) (es : List EventData) (i : ℕ) (s : State) (old now : Option (List ℕ)) → Stands told es i s old now → EveryFits (take i es) → WroteSomeBy (each_commit told es) es old now
some_standing told es i s old now stands fits =
    let so_far = commits_so_far told stands.works stands.deltas in
    some_is (each_commit told es) es stands.held stands.deltas stands.works old now stands.commits stands.done (commits_below told es i s old now stands fits) (so_far, [], sym (append-nil so_far), stands.text)

-- and so is what was written of the next commit
pub some_commit : (told : Telling) (es : List EventData) (i : ℕ) (s : State) (old now new : Option (List ℕ)) (next : FilesData) (w : Work) (d : Delta) → (stands : Stands told es i s old now) → EveryFits (take (i + 1) es) → slice_get es i ≡ Some commit → IsCommitted s next w d → AppendsPart now new (commit_text told (s.commits + 1) w d) → WroteSomeBy (each_commit told es) es old new
some_commit told es i s old now new next w d stands fits here leads part =
    let ds = stands.deltas in
    let ws = stands.works in
    let held = stands.held in
    let all = text_here told es i s old now w d stands ∙ ap (λ l. commits_so_far told ws ds ++ l) (sym (append-nil (commit_text told (s.commits + 1) w d))) in
    some_is (each_commit told es) es (held ++ (next ∷ [])) (ds ++ (d ∷ [])) (ws ++ (w ∷ [])) old new (commits_more told es i s old now next w d stands here leads) (works_more told es i s old now next w d stands here leads)
    (λ number unfit. omega (arith, length-append held (next ∷ []), stands.length, stands.count, ap commit_count (take_more es i commit here), count_parts (take i es) (commit ∷ []), fit_commits es (i + 1) number fits unfit))
    (front_of_part old new (commits_so_far told (ws ++ (w ∷ [])) (ds ++ (d ∷ []))) (part_after old now new (commits_so_far told (ws ++ (w ∷ [])) (ds ++ (d ∷ []))) (commits_so_far told ws ds) (commit_text told (s.commits + 1) w d) [] stands.text part all))

-- an event that does not fit ends the replay once all before it is written
unfit_at : (told : Telling) (es : List EventData) (i : ℕ) (e : EventData) (s : State) (old now : Option (List ℕ)) (number : ℕ) → slice_get es i ≡ Some e → Edited es i s → (stands : Stands told es i s old now) → ¬ (FitsFiles e s.files s.made) → number ≡ s.taken + 1
    → WroteUpTo told es (commit_count (take number es)) old now
unfit_at told es i e s old now number at edited stands not is =
    let here : i + 1 ≡ number = omega (arith, edited.count, is) in
    let none = unfit_kind e (present_of e (map.get s.files)) s.made not in
    let count : commit_count (take i es) ≡ commit_count (take number es) =
    omega (arith, none, ap commit_count (take_more es i e at), count_parts (take i es) (e ∷ []), ap (λ n. commit_count (take n es)) here) in
    (stands.held, stands.deltas, stands.works, stands.commits, stands.done, stands.length ∙ (stands.count ∙ count), stands.text)

-- an event that isn't taken into the files ends the replay by its cause
edit_ends : (told : Telling) (why : Stop) (es : List EventData) (i : ℕ) (e : EventData) (s : State) (old now new : Option (List ℕ)) (first after : ℕ) → slice_get es i ≡ Some e → Edited es i s → Stands told es i s old now → EditFails why e s → new ≡ now → Writes (Err why) (each_commit told es) es old new first after
edit_ends told stop.NoMemory es i e s old now new first after at edited stands fails same =
    subst (λ (x : Option (List ℕ)). WroteSomeBy (each_commit told es) es old x) (sym same) (some_standing told es i s old now stands edited.events.fits)
edit_ends told (stop.BadEvent number) es i e s old now new first after at edited stands (not, is) same = (
  first_unfit_here es i e s number at edited not is,
  subst (λ (x : Option (List ℕ)). WroteUpTo told es (commit_count (take number es)) old x) (sym same) (unfit_at told es i e s old now number at edited stands not is),
)
edit_ends told stop.WriteFault es i e s old now new first after at edited stands fails same = absurd fails
edit_ends told stop.Usage es i e s old now new first after at edited stands fails same = absurd fails
edit_ends told (stop.BadScript n) es i e s old now new first after at edited stands fails same = absurd fails
edit_ends told stop.ReadFault es i e s old now new first after at edited stands fails same = absurd fails
edit_ends told stop.TooLong es i e s old now new first after at edited stands fails same = absurd fails

-- .. and so does a commit that isn't told
commit_ends : (told : Telling) (why : Stop) (es : List EventData) (i : ℕ) (s : State) (old now new : Option (List ℕ)) (first before after : ℕ) → slice_get es i ≡ Some commit → EveryFits (take i es) → EveryFits (take (i + 1) es) → Stands told es i s old now → first ≤ before → CommitFails told why s now new before after
    → Writes (Err why) (each_commit told es) es old new first after
commit_ends told stop.NoMemory es i s old now new first before after at fits more stands later fails =
    subst (λ (x : Option (List ℕ)). WroteSomeBy (each_commit told es) es old x) (sym fails) (some_standing told es i s old now stands fits)
commit_ends told stop.WriteFault es i s old now new first before after at fits more stands later (rose, (next, w, d, leads, part)) =
    (omega (arith, later, rose), some_commit told es i s old now new next w d stands more at leads part)
commit_ends told stop.Usage es i s old now new first before after at fits more stands later fails = absurd fails
commit_ends told (stop.BadScript n) es i s old now new first before after at fits more stands later fails = absurd fails
commit_ends told (stop.BadEvent n) es i s old now new first before after at fits more stands later fails = absurd fails
commit_ends told stop.ReadFault es i s old now new first before after at fits more stands later fails = absurd fails
commit_ends told stop.TooLong es i s old now new first before after at fits more stands later fails = absurd fails

-- a commit that was taken into the files and isn't told
taken_ends : (told : Telling) (why : Stop) (es : List EventData) (i : ℕ) (s m : State) (old now new : Option (List ℕ)) (first before after : ℕ) → slice_get es i ≡ Some commit → Edited es i s → Stands told es i s old now → first ≤ before → IsEdited commit s m → CommitFails told why m now new before after
    → Writes (Err why) (each_commit told es) es old new first after
taken_ends told why es i s m old now new first before after at edited stands later edit fails =
    commit_ends told why es i m old now new first before after at edited.events.fits (edited_more es i commit s m at edited edit).events.fits
    (stands_as told es i s m old now stands (commit_kept s m edit) edit.held edit.kept edit.commits) later fails

-- an event that isn't taken and told ends the replay by its cause
pub ends_at : (told : Telling) (why : Stop) (es : List EventData) (i : ℕ) (e : EventData) (s : State) (old now new : Option (List ℕ)) (first before after : ℕ) → slice_get es i ≡ Some e → Edited es i s → Stands told es i s old now → first ≤ before → Fails told why e s now new before after
    → Writes (Err why) (each_commit told es) es old new first after
ends_at told why es i e s old now new first before after at edited stands later (inl (fails, same)) =
    edit_ends told why es i e s old now new first after at edited stands fails same
ends_at told why es i e s old now new first before after at edited stands later (inr (is, (m, edit, fails))) =
    taken_ends told why es i s m old now new first before after (at ∙ ap (λ x. Some x) is) edited stands later (subst (λ (x : EventData). IsEdited x s m) is edit) fails

-- Taking all events into the files, and one commit at their end.

-- .. ends by its cause
pub all_end : (why : Stop) (es : List EventData) (old new : Option (List ℕ)) (first after : ℕ) → Appends old new (line_text (head_line Records)) → EditsFail why es → Writes (Err why) (one_commit es) es old new first after
all_end stop.NoMemory es old new first after header fails = some_header (one_commit es) es old new header
all_end (stop.BadEvent number) es old new first after header unfit =
    (unfit, ([], [], [], no_commit (as_one_commit es), no_work (as_one_commit es), refl, subst (λ (l : List ℕ). Appends old new l) (sym (nothing_yet Records)) header))
all_end stop.WriteFault es old new first after header fails = absurd fails
all_end stop.Usage es old new first after header fails = absurd fails
all_end (stop.BadScript n) es old new first after header fails = absurd fails
all_end stop.ReadFault es old new first after header fails = absurd fails
all_end stop.TooLong es old new first after header fails = absurd fails

-- an event that isn't taken ends it by its cause
pub edits_end : (why : Stop) (es : List EventData) (i : ℕ) (e : EventData) (s : State) → slice_get es i ≡ Some e → Edited es i s → EditFails why e s → EditsFail why es
edits_end stop.NoMemory es i e s at edited fails = tt
edits_end (stop.BadEvent number) es i e s at edited (not, is) = first_unfit_here es i e s number at edited not is
edits_end stop.WriteFault es i e s at edited fails = absurd fails
edits_end stop.Usage es i e s at edited fails = absurd fails
edits_end (stop.BadScript n) es i e s at edited fails = absurd fails
edits_end stop.ReadFault es i e s at edited fails = absurd fails
edits_end stop.TooLong es i e s at edited fails = absurd fails

-- the one commit isn't told whole
pub end_cut : (why : Stop) (es : List EventData) (s : State) (old now new : Option (List ℕ)) (first before after : ℕ) → AreEdited es s → Appends old now (line_text (head_line Records)) → first ≤ before → CommitFails Records why s now new before after
    → Writes (Err why) (one_commit es) es old new first after
end_cut stop.NoMemory es s old now new first before after edited header later fails =
    subst (λ (x : Option (List ℕ)). WroteSomeBy (one_commit es) es old x) (sym fails) (some_header (one_commit es) es old now header)
end_cut stop.WriteFault es s old now new first before after edited header later (rose, (next, w, d, leads, part)) =
    let text = commit_text Records 1 w d in
    let first_part : AppendsPart now new text = subst (λ (n : ℕ). AppendsPart now new (commit_text Records (n + 1) w d)) edited.commits part in
    let all = one_text w d ∙ ap (λ l. line_text (head_line Records) ++ l) (sym (append-nil text)) in (
      omega (arith, later, rose),
      inl (
        edited.fits,
        part_is Records (as_one_commit es) (next ∷ []) (d ∷ []) (w ∷ []) old new (one_committed es s next w d edited leads) (one_work es s next w d edited leads)
            (front_of_part old new (commits_so_far Records (w ∷ []) (d ∷ [])) (part_after old now new (commits_so_far Records (w ∷ []) (d ∷ [])) (line_text (head_line Records)) text [] header first_part all)),
      ),
    )
end_cut stop.Usage es s old now new first before after edited header later fails = absurd fails
end_cut (stop.BadScript n) es s old now new first before after edited header later fails = absurd fails
end_cut (stop.BadEvent n) es s old now new first before after edited header later fails = absurd fails
end_cut stop.ReadFault es s old now new first before after edited header later fails = absurd fails
end_cut stop.TooLong es s old now new first before after edited header later fails = absurd fails

-- when all events were taken, all commits were
all_taken : (told : Telling) (es : List EventData) (i : ℕ) (s : State) (old now : Option (List ℕ)) → length es ≤ i → (stands : Stands told es i s old now) → length stands.held ≡ commit_count es
all_taken told es i s old now h stands = stands.length ∙ (stands.count ∙ ap commit_count (take_all i es h))

text_ends : (told : Telling) (es : List EventData) (i : ℕ) (s : State) (old now : Option (List ℕ)) → (stands : Stands told es i s old now) → whole_text told stands.works stands.deltas ≡ commits_so_far told stands.works stands.deltas ++ line_text (Done s.commits)
text_ends told es i s old now stands =
    let number = as_many map.empty stands.held stands.deltas stands.commits.changes ∙ stands.length in
    text_is told stands.works stands.deltas ∙ ap (λ n. commits_so_far told stands.works stands.deltas ++ line_text (Done n)) number

pub ends_whole : (told : Telling) (es : List EventData) (i : ℕ) (s : State) (old now new : Option (List ℕ)) (refused : Bool) → length es ≤ i → Stands told es i s old now → Appends now new (line_text (Done s.commits)) → is_refused s.held ≡ refused → WroteWhole told es refused old new
ends_whole told es i s old now new refused h stands last refusal =
    let P : List ℕ → Type 0 = λ l. Appends old new l in (
      stands.held,
      stands.deltas,
      stands.works,
      stands.commits,
      stands.done,
      all_taken told es i s old now h stands,
      sym (ap is_refused stands.last) ∙ refusal,
      subst P (sym (text_ends told es i s old now stands)) (Appends-trans old now new (commits_so_far told stands.works stands.deltas) (line_text (Done s.commits)) stands.text last),
    )

pub ends_cut : (told : Telling) (es : List EventData) (i : ℕ) (s : State) (old now new : Option (List ℕ)) → length es ≤ i → Stands told es i s old now → AppendsPart now new (line_text (Done s.commits)) → WrotePart told es old new
ends_cut told es i s old now new h stands last =
    let ds = stands.deltas in
    let ws = stands.works in
    let whole : whole_text told ws ds ≡ commits_so_far told ws ds ++ (line_text (Done s.commits) ++ []) =
    text_ends told es i s old now stands ∙ ap (λ l. commits_so_far told ws ds ++ l) (sym (append-nil (line_text (Done s.commits)))) in
    (stands.held, ds, ws, stands.commits, stands.done, inr (all_taken told es i s old now h stands, part_after old now new (whole_text told ws ds) (commits_so_far told ws ds) (line_text (Done s.commits)) [] stands.text last whole))
