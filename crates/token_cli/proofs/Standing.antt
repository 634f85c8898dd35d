-- What stands when the first events of a script were taken, and what was written by then.
use Rattle.std.proofs.Common.{◌≡◌, ◌∙◌, ◌⊎◌, ◌≤◌, ◌<◌, ◌+◌, ℕ, zero, suc, List, [], ◌∷◌, ◌++◌, length, length-append, append-nil, take, drop, Option, Some, ap, sym, subst, refl, inl, inr, arith, append_assoc}
use Rattle.std.proofs.KnownBytes.{Appends-trans}
use Rattle.std.proofs.lemmas.List.{take_all}
use Rattle.std.proofs.lemmas.Option.{none-some, same_Some}
use Rattle.std.specs.FinMap as map
use Rattle.std.specs.List.{slice_get}
use Rattle.std.specs.Io.KnownBytes.{Appends}
use Rattle.edit_script.specs.Script.{EventData, put, del, move, patch, commit}
use Rattle.tk_io.specs.FilesData.{FilesData}
use Rattle.edit_script.specs.Files.{AreFilesAfter, AreFilesAt, as_one_commit, commit_count, up_to}
use Rattle.edit_script.specs.Delta.{Delta, IsDelta, AreDeltas}
use Rattle.build_plain.specs.Out.{Builds}
use Rattle.build_plain.specs.Work.{Work}
use Rattle.edit_script.specs.Stream.{line_text}
use Rattle.edit_script.proofs.Deltas.{one_more_delta}
use Rattle.edit_script.proofs.Standing.{empty_files, commit_files, up_to_here, count_parts}
use Rattle.edit_script.proofs.UnfitEvents.{one_commit, whole_count, whole_files}
use Rattle.token_cli.specs.Headline.{AreCommits, AreWorks, BuildsAt, IsKeptAt, IsWorkAt, last_held}
use Rattle.token_cli.specs.inner.Edits.{AreEdited}
use Rattle.token_cli.specs.inner.Step.{State, IsEdited, IsEventTold, IsCommitTold, IsCommitted, first_state}
use Rattle.token_cli.specs.Told.{all_commits, commit_text, commits_so_far, head_line}
use Rattle.token_cli.specs.declared.telling.Telling.{Telling}
use Rattle.token_cli.specs.declared.telling.Telling.TheVariants.{Records}
use Rattle.file_plan.proofs.EventsTaken.{split_here, take_more}
use Rattle.token_cli.proofs.Lists.{at_pushed, last_pushed}
use Rattle.token_cli.proofs.Edited.{Edited, edited_more}
use Rattle.token_cli.proofs.Told.{no_text, more_text}

pub record Stands (told : Telling) (es : List EventData) (i : ℕ) (s : State) (old now : Option (List ℕ)) : Type 0 where
  pub held : List FilesData
  pub deltas : List Delta
  pub works : List Work
  pub files : AreFilesAfter (take i es) s.files
  pub commits : AreCommits es held deltas
  pub done : AreWorks es held works
  pub kept : IsKeptAt es s.commits s.kept
  pub count : s.commits ≡ commit_count (take i es)
  pub length : length held ≡ s.commits
  pub last : s.held ≡ last_held held
  pub text : Appends old now (commits_so_far told works deltas)

pub as_many : (before : FilesData) (held : List FilesData) (deltas : List Delta) → AreDeltas before held deltas → length deltas ≡ length held
as_many before [] [] h = refl
as_many before [] (d ∷ ds) h = absurd h
as_many before (o ∷ os) [] h = absurd h
as_many before (o ∷ os) (d ∷ ds) h = ap suc (as_many o os ds h.1)

no_held : (es : List EventData) (k : ℕ) (out : FilesData) → slice_get [] k ≡ Some out → BuildsAt es (suc k) out
no_held es k out e = absurd (none-some out e)

pub no_commit : (es : List EventData) → AreCommits es [] []
no_commit es = record { count = omega arith; built = no_held es; changes = tt }

no_done : (es : List EventData) (n : ℕ) (w : Work) → slice_get [] n ≡ Some w → IsWorkAt es n w
no_done es n w e = absurd (none-some w e)

pub no_work : (es : List EventData) → AreWorks es [] []
no_work es = record { count = refl; done = no_done es }

pub nothing_yet : (told : Telling) → commits_so_far told [] [] ≡ line_text (head_line told)
nothing_yet told = ap (λ l. line_text (head_line told) ++ l) (no_text told 1) ∙ append-nil (line_text (head_line told))

-- after the header
pub stands_first : (told : Telling) (es : List EventData) (s : State) (old now : Option (List ℕ)) → s ≡ first_state → Appends old now (line_text (head_line told)) → Stands told es 0 s old now
stands_first told es s old now is written =
    let P : List ℕ → Type 0 = λ l. Appends old now l in
    let Q : State → Type 0 = λ t. Stands told es 0 t old now in
    subst Q (sym is) (record { held = []; deltas = []; works = []; files = empty_files; commits = no_commit es; done = no_work es; kept = refl; count = refl; length = refl; last = refl; text = subst P (sym (nothing_yet told)) written })

pub one_more_text : (told : Telling) (ws : List Work) (ds : List Delta) (w : Work) (d : Delta) (k : ℕ) → k ≡ length ds → length ws ≡ length ds
    → commits_so_far told (ws ++ (w ∷ [])) (ds ++ (d ∷ [])) ≡ commits_so_far told ws ds ++ commit_text told (k + 1) w d
one_more_text told ws ds w d k e same =
    let number : 1 + length ds ≡ k + 1 = omega (arith, e) in
    ap (λ l. line_text (head_line told) ++ l) (more_text told 1 ws ds w d same ∙ ap (λ n. all_commits told 1 ws ds ++ commit_text told n w d) number)
    ∙ sym (append_assoc (line_text (head_line told)) (all_commits told 1 ws ds) (commit_text told (k + 1) w d))

-- the k-th outputs of the files at the k-th commit, where one more commit was taken
built_more : (es : List EventData) (held : List FilesData) (next out : FilesData) (k : ℕ) → BuildsAt es (suc (length held)) next → ((j : ℕ) → (o : FilesData) → slice_get held j ≡ Some o → BuildsAt es (suc j) o) → (slice_get held k ≡ Some out) ⊎ ((k ≡ length held) × (next ≡ out)) → BuildsAt es (suc k) out
built_more es held next out k new before (inl e) = before k out e
built_more es held next out k new before (inr (n, e)) =
    let P : FilesData → Type 0 = λ o. BuildsAt es (suc k) o in
    let Q : ℕ → Type 0 = λ j. BuildsAt es (suc j) next in
    subst P e (subst Q (sym n) new)

-- the files at the commit that comes next
pub files_here : (es : List EventData) (i k : ℕ) (files : FilesData) → slice_get es i ≡ Some commit → AreFilesAfter (take i es) files → k ≡ commit_count (take i es) → AreFilesAt es (suc k) files
files_here es i k files e stand count =
    let before = take i es in
    let shape = split_here es i commit e in
    let P : List EventData → Type 0 = λ l. AreFilesAfter l files in
    let here : up_to (suc k) es ≡ before ++ (commit ∷ []) =
    ap (λ n. up_to (suc n) es) count ∙ ap (λ l. up_to (suc (commit_count before)) l) shape ∙ up_to_here before (drop (suc i) es) in
    subst P (sym here) (commit_files before files stand)

-- there is a commit more than those before this one
pub count_below : (es : List EventData) (i : ℕ) → slice_get es i ≡ Some commit → commit_count (take i es) < commit_count es
count_below es i e =
    let before = take i es in
    omega (arith, ap commit_count (split_here es i commit e), count_parts before (commit ∷ drop (suc i) es))

pub commits_more : (told : Telling) (es : List EventData) (i : ℕ) (s : State) (old now : Option (List ℕ)) (next : FilesData) (w : Work) (d : Delta) → (stands : Stands told es i s old now) → slice_get es i ≡ Some commit → IsCommitted s next w d → AreCommits es (stands.held ++ (next ∷ [])) (stands.deltas ++ (d ∷ []))
commits_more told es i s old now next w d stands e leads =
    let held = stands.held in
    let many : length held ≡ commit_count (take i es) = stands.length ∙ stands.count in
    let here : BuildsAt es (suc (length held)) next = (s.files, files_here es i (length held) s.files e stands.files many, leads.0) in
    let P : FilesData → Type 0 = λ o. IsDelta o next d in
    record {
      count = omega (arith, many, count_below es i e, length-append held (next ∷ []));
      built = λ k out at. built_more es held next out k here stands.commits.built (at_pushed held next out k at);
      changes = one_more_delta map.empty held stands.deltas next d stands.commits.changes (subst P stands.last leads.2);
    }

-- what is done at each commit, where one more commit was taken
done_more : (es : List EventData) (works : List Work) (w x : Work) (n : ℕ) → IsWorkAt es (length works) w → ((m : ℕ) → (v : Work) → slice_get works m ≡ Some v → IsWorkAt es m v) → (slice_get works n ≡ Some x) ⊎ ((n ≡ length works) × (w ≡ x)) → IsWorkAt es n x
done_more es works w x n new before (inl e) = before n x e
done_more es works w x n new before (inr (m, e)) =
    let P : Work → Type 0 = λ v. IsWorkAt es n v in
    let Q : ℕ → Type 0 = λ k. IsWorkAt es k w in
    subst P e (subst Q (sym m) new)

pub works_more : (told : Telling) (es : List EventData) (i : ℕ) (s : State) (old now : Option (List ℕ)) (next : FilesData) (w : Work) (d : Delta) → (stands : Stands told es i s old now) → slice_get es i ≡ Some commit → IsCommitted s next w d → AreWorks es (stands.held ++ (next ∷ [])) (stands.works ++ (w ∷ []))
works_more told es i s old now next w d stands e leads =
    let held = stands.held in
    let works = stands.works in
    let many : length works ≡ s.commits = stands.done.count ∙ stands.length in
    let kept : IsKeptAt es (length works) s.kept = subst (λ (n : ℕ). IsKeptAt es n s.kept) (sym many) stands.kept in
    let here : IsWorkAt es (length works) w = (s.kept, s.files, kept, files_here es i (length works) s.files e stands.files (many ∙ stands.count), leads.1) in
    record {
      count = omega (arith, stands.done.count, length-append held (next ∷ []), length-append works (w ∷ []));
      done = λ n x at. done_more es works w x n here stands.done.done (at_pushed works w x n at);
    }

-- the files of a commit are kept
pub kept_here : (es : List EventData) (i : ℕ) (s : State) (kept : Option FilesData) (k : ℕ) → slice_get es i ≡ Some commit → AreFilesAfter (take i es) s.files → s.commits ≡ commit_count (take i es) → kept ≡ Some s.files → k ≡ s.commits + 1 → IsKeptAt es k kept
kept_here es i s kept k e stand count is more =
    let here : IsKeptAt es (suc s.commits) (Some s.files) = files_here es i s.commits s.files e stand count in
    let number : suc s.commits ≡ k = omega (arith, more) in
    subst (λ (n : ℕ). IsKeptAt es n kept) number (subst (λ (o : Option FilesData). IsKeptAt es (suc s.commits) o) (sym is) here)

-- what is kept stays so
kept_as : (es : List EventData) (s t : State) → IsKeptAt es s.commits s.kept → t.kept ≡ s.kept → t.commits ≡ s.commits → IsKeptAt es t.commits t.kept
kept_as es s t is kept commits =
    subst (λ (n : ℕ). IsKeptAt es n t.kept) (sym commits) (subst (λ (o : Option FilesData). IsKeptAt es s.commits o) (sym kept) is)

-- what is told stands where the files, what is held, what is kept and the commits do
pub stands_as : (told : Telling) (es : List EventData) (i : ℕ) (s t : State) (old now : Option (List ℕ)) → Stands told es i s old now → t.files ≡ s.files → t.held ≡ s.held → t.kept ≡ s.kept → t.commits ≡ s.commits → Stands told es i t old now
stands_as told es i s t old now stands files held kept commits = record {
  held = stands.held;
  deltas = stands.deltas;
  works = stands.works;
  files = subst (λ (f : FilesData). AreFilesAfter (take i es) f) (sym files) stands.files;
  commits = stands.commits;
  done = stands.done;
  kept = kept_as es s t stands.kept kept commits;
  count = commits ∙ stands.count;
  length = stands.length ∙ sym commits;
  last = held ∙ stands.last;
  text = stands.text;
}

-- one event more that is no commit
stands_edit : (told : Telling) (es : List EventData) (i : ℕ) (e : EventData) (s m : State) (old now : Option (List ℕ)) → slice_get es i ≡ Some e → commit_count (e ∷ []) ≡ 0 → Edited es i s → Stands told es i s old now → IsEdited e s m → Stands told es (i + 1) m old now
stands_edit told es i e s m old now at none edited stands edit = record {
  held = stands.held;
  deltas = stands.deltas;
  works = stands.works;
  files = (edited_more es i e s m at edited edit).events.files;
  commits = stands.commits;
  done = stands.done;
  kept = kept_as es s m stands.kept edit.kept edit.commits;
  count = omega (arith, edit.commits, stands.count, ap commit_count (take_more es i e at), count_parts (take i es) (e ∷ []), none);
  length = stands.length ∙ sym edit.commits;
  last = edit.held ∙ stands.last;
  text = stands.text;
}

-- what is told with one commit more
pub text_here : (told : Telling) (es : List EventData) (i : ℕ) (s : State) (old now : Option (List ℕ)) (w : Work) (d : Delta) → (stands : Stands told es i s old now)
    → commits_so_far told (stands.works ++ (w ∷ [])) (stands.deltas ++ (d ∷ [])) ≡ commits_so_far told stands.works stands.deltas ++ commit_text told (s.commits + 1) w d
text_here told es i s old now w d stands =
    let many : length stands.deltas ≡ length stands.held = as_many map.empty stands.held stands.deltas stands.commits.changes in
    one_more_text told stands.works stands.deltas w d s.commits (sym (many ∙ stands.length)) (stands.done.count ∙ sym many)

-- one commit more
pub stands_commit : (told : Telling) (es : List EventData) (i : ℕ) (s t : State) (old now new : Option (List ℕ)) → slice_get es i ≡ Some commit → Stands told es i s old now → IsCommitTold told s t now new → Stands told es (i + 1) t old new
stands_commit told es i s t old now new e stands follows =
    let d = follows.delta in
    let w = follows.work in
    let more = take_more es i commit e in
    let P : List EventData → Type 0 = λ l. AreFilesAfter l t.files in
    let F : FilesData → Type 0 = λ f. AreFilesAfter (take i es ++ (commit ∷ [])) f in
    let T : List ℕ → Type 0 = λ l. Appends old new l in
    let held = stands.held in
    record {
      held = held ++ (t.held ∷ []);
      deltas = stands.deltas ++ (d ∷ []);
      works = stands.works ++ (w ∷ []);
      files = subst P (sym more) (subst F (sym follows.files) (commit_files (take i es) s.files stands.files));
      commits = commits_more told es i s old now t.held w d stands e follows.leads;
      done = works_more told es i s old now t.held w d stands e follows.leads;
      kept = kept_here es i s t.kept t.commits e stands.files stands.count follows.kept follows.commits;
      count = omega (arith, follows.commits, stands.count, ap commit_count more, count_parts (take i es) (commit ∷ []));
      length = omega (arith, length-append held (t.held ∷ []), stands.length, follows.commits);
      last = sym (last_pushed held map.empty t.held map.empty);
      text = subst T (sym (text_here told es i s old now w d stands)) (Appends-trans old now new (commits_so_far told stands.works stands.deltas) (commit_text told (s.commits + 1) w d) stands.text follows.text);
    }

-- where nothing is told of an event, it stands as it was edited
stands_same : (told : Telling) (es : List EventData) (i : ℕ) (m t : State) (old now new : Option (List ℕ)) → Stands told es i m old now → t ≡ m → new ≡ now → Stands told es i t old new
stands_same told es i m t old now new stands same written =
    subst (λ (o : Option (List ℕ)). Stands told es i t old o) (sym written) (subst (λ (s : State). Stands told es i s old now) (sym same) stands)

-- the files that a commit finds are those that it was taken into
pub commit_kept : (s m : State) → IsEdited commit s m → m.files ≡ s.files
commit_kept s m edit = edit.taken.files

-- one event more
pub stands_more : (told : Telling) (es : List EventData) (i : ℕ) (e : EventData) (s t : State) (old now new : Option (List ℕ)) → slice_get es i ≡ Some e → Edited es i s → Stands told es i s old now → IsEventTold told e s t now new → Stands told es (i + 1) t old new
stands_more told es i (put p text) s t old now new at edited stands (m, edit, (same, written)) =
    stands_same told es (i + 1) m t old now new (stands_edit told es i (put p text) s m old now at refl edited stands edit) same written
stands_more told es i (del p) s t old now new at edited stands (m, edit, (same, written)) =
    stands_same told es (i + 1) m t old now new (stands_edit told es i (del p) s m old now at refl edited stands edit) same written
stands_more told es i (move p q) s t old now new at edited stands (m, edit, (same, written)) =
    stands_same told es (i + 1) m t old now new (stands_edit told es i (move p q) s m old now at refl edited stands edit) same written
stands_more told es i (patch p from to bytes) s t old now new at edited stands (m, edit, (same, written)) =
    stands_same told es (i + 1) m t old now new (stands_edit told es i (patch p from to bytes) s m old now at refl edited stands edit) same written
stands_more told es i commit s t old now new at edited stands (m, edit, follows) =
    stands_commit told es i m t old now new at (stands_as told es i s m old now stands (commit_kept s m edit) edit.held edit.kept edit.commits) follows

-- One commit at the end of events that were all taken.

one_held : (es : List EventData) (files next out : FilesData) (k : ℕ) → AreFilesAfter es files → Builds files next → slice_get (next ∷ []) k ≡ Some out → BuildsAt (as_one_commit es) (suc k) out
one_held es files next out zero stand built e =
    subst (λ (o : FilesData). BuildsAt (as_one_commit es) 1 o) (same_Some next out e) (files, whole_files es files stand, built)
one_held es files next out (suc k) stand built e = absurd (none-some out e)

pub one_committed : (es : List EventData) (s : State) (next : FilesData) (w : Work) (d : Delta) → AreEdited es s → IsCommitted s next w d → AreCommits (as_one_commit es) (next ∷ []) (d ∷ [])
one_committed es s next w d edited leads = record {
  count = omega (arith, whole_count es);
  built = λ k out at. one_held es s.files next out k edited.files leads.0 at;
  changes = (subst (λ (o : FilesData). IsDelta o next d) edited.held leads.2, tt);
}

one_done : (es : List EventData) (w x : Work) (n : ℕ) → IsWorkAt (as_one_commit es) 0 w → slice_get (w ∷ []) n ≡ Some x → IsWorkAt (as_one_commit es) n x
one_done es w x zero here e = subst (λ (v : Work). IsWorkAt (as_one_commit es) 0 v) (same_Some w x e) here
one_done es w x (suc n) here e = absurd (none-some x e)

pub one_work : (es : List EventData) (s : State) (next : FilesData) (w : Work) (d : Delta) → AreEdited es s → IsCommitted s next w d → AreWorks (as_one_commit es) (next ∷ []) (w ∷ [])
one_work es s next w d edited leads =
    let here : IsWorkAt (as_one_commit es) 0 w = (s.kept, s.files, edited.kept, whole_files es s.files edited.files, leads.1) in
    record { count = refl; done = λ n x at. one_done es w x n here at }

-- .. what is told of it
pub one_text : (w : Work) (d : Delta) → commits_so_far Records (w ∷ []) (d ∷ []) ≡ line_text (head_line Records) ++ commit_text Records 1 w d
one_text w d = one_more_text Records [] [] w d 0 refl refl ∙ ap (λ l. l ++ commit_text Records 1 w d) (nothing_yet Records)

pub stands_end : (es : List EventData) (s t : State) (old now new : Option (List ℕ)) → AreEdited es s → Appends old now (line_text (head_line Records)) → IsCommitTold Records s t now new
    → Stands Records (as_one_commit es) (length (as_one_commit es)) t old new
stands_end es s t old now new edited header follows =
    let fs = as_one_commit es in
    let d = follows.delta in
    let w = follows.work in
    let all : take (length fs) fs ≡ fs = take_all (length fs) fs (omega arith) in
    let files : AreFilesAfter fs s.files = subst (λ (l : List EventData). AreFilesAfter l s.files) (one_commit es) (whole_files es s.files edited.files) in
    let first : Appends now new (commit_text Records 1 w d) = subst (λ (n : ℕ). Appends now new (commit_text Records (n + 1) w d)) edited.commits follows.text in
    let once : t.commits ≡ 1 = omega (arith, follows.commits, edited.commits) in
    let here : IsKeptAt fs 1 (Some s.files) = whole_files es s.files edited.files in
    record {
      held = t.held ∷ [];
      deltas = d ∷ [];
      works = w ∷ [];
      files = subst (λ (l : List EventData). AreFilesAfter l t.files) (sym all) (subst (λ (f : FilesData). AreFilesAfter fs f) (sym follows.files) files);
      commits = one_committed es s t.held w d edited follows.leads;
      done = one_work es s t.held w d edited follows.leads;
      kept = subst (λ (n : ℕ). IsKeptAt fs n t.kept) (sym once) (subst (λ (o : Option FilesData). IsKeptAt fs 1 o) (sym follows.kept) here);
      count = omega (arith, follows.commits, edited.commits, ap commit_count all, whole_count es);
      length = omega (arith, follows.commits, edited.commits);
      last = refl;
      text = subst (λ (l : List ℕ). Appends old new l) (sym (one_text w d)) (Appends-trans old now new (line_text (head_line Records)) (commit_text Records 1 w d) header first);
    }

-- no more commits than events
pub count_taken : (es : List EventData) (i : ℕ) → commit_count (take i es) ≤ i
count_taken es zero = omega arith
count_taken [] (suc i) = omega arith
count_taken (put p text ∷ es) (suc i) = let ih = count_taken es i in omega (arith, ih)
count_taken (del p ∷ es) (suc i) = let ih = count_taken es i in omega (arith, ih)
count_taken (move p q ∷ es) (suc i) = let ih = count_taken es i in omega (arith, ih)
count_taken (patch p from to bytes ∷ es) (suc i) = let ih = count_taken es i in omega (arith, ih)
count_taken (commit ∷ es) (suc i) = let ih = count_taken es i in omega (arith, ih)
