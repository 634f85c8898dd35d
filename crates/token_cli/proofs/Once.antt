-- What was written in part, and not all, was not written whole.
use Rattle.std.proofs.Common.{◌≡◌, ◌∙◌, inl, inr, ◌<◌, ◌≤◌, ℕ, zero, suc, Bool, List, [], ◌∷◌, length, take, Option, Some, None, ap, sym, subst, refl, arith, length-append}
use Rattle.std.proofs.KnownBytes.{Appends-nil}
use Rattle.std.specs.Io.KnownBytes.{Appends}
use Rattle.std.proofs.lemmas.Option.{none-some}
use Rattle.std.specs.FinMap as map
use Rattle.std.specs.List.{slice_get}
use Rattle.edit_script.specs.Script.{EventData}
use Rattle.tk_io.specs.FilesData.{FilesData}
use Rattle.edit_script.specs.Delta.{Delta, AreDeltas}
use Rattle.edit_script.specs.Stream.{line_text}
use Rattle.edit_script.specs.declared.line.Line.TheVariants.{Done}
use Rattle.build_plain.specs.Laws.{OneBuild}
use Rattle.build_plain.specs.Work.{Work}
use Rattle.rebuild_core.specs.Laws.{OneWorkFrom}
use Rattle.token_cli.specs.Headline.{AreCommits, AreWorks, WrotePart, WroteWhole, is_refused, last_held}
use Rattle.token_cli.specs.Told.{all_commits, commits_so_far, head_line, whole_text}
use Rattle.token_cli.specs.declared.telling.Telling.{Telling}
use Rattle.token_cli.proofs.Streams.{one_deltas, one_held, one_works}
use Rattle.token_cli.proofs.Told.{no_longer, some_last, text_is}

taken_at : {A : Type 0} (n : ℕ) (xs : List A) (k : ℕ) (x : A) → slice_get (take n xs) k ≡ Some x → slice_get xs k ≡ Some x
taken_at zero xs k x e = absurd (none-some x e)
taken_at (suc n) [] k x e = absurd (none-some x e)
taken_at (suc n) (y ∷ ys) zero x e = e
taken_at (suc n) (y ∷ ys) (suc k) x e = taken_at n ys k x e

first_changes : (n : ℕ) (before : FilesData) (os : List FilesData) (ds : List Delta) → AreDeltas before os ds → AreDeltas before (take n os) (take n ds)
first_changes zero before os ds h = tt
first_changes (suc n) before [] [] h = tt
first_changes (suc n) before [] (d ∷ ds) h = absurd h
first_changes (suc n) before (o ∷ os) [] h = absurd h
first_changes (suc n) before (o ∷ os) (d ∷ ds) h = (h.0, first_changes n o os ds h.1)

taken_length : {A : Type 0} (n : ℕ) (xs : List A) → n ≤ length xs → length (take n xs) ≡ n
taken_length zero xs h = refl
taken_length (suc n) [] h = absurd (omega (arith, h))
taken_length (suc n) (x ∷ xs) h = ap suc (taken_length n xs (omega (arith, h)))

first_commits : (n : ℕ) (es : List EventData) (held : List FilesData) (deltas : List Delta) → n ≤ length held → AreCommits es held deltas → AreCommits es (take n held) (take n deltas)
first_commits n es held deltas h commits = record {
  count = omega (arith, taken_length n held h, h, commits.count);
  built = λ k out at. commits.built k out (taken_at n held k out at);
  changes = first_changes n map.empty held deltas commits.changes;
}

first_works : (n : ℕ) (es : List EventData) (held : List FilesData) (works : List Work) → n ≤ length held → AreWorks es held works → AreWorks es (take n held) (take n works)
first_works n es held works h are = record {
  count = omega (arith, taken_length n held h, h, are.count, taken_length n works (omega (arith, h, are.count)));
  done = λ k w at. are.done k w (taken_at n works k w at);
}

-- A script decides what is told of it.
module _ (told : Telling) (one : OneBuild) (once : OneWorkFrom) (es : List EventData) where
  -- the first commits of a script make less than all
  less_than_all : (held others : List FilesData) (deltas changes : List Delta) (works counts : List Work) → AreCommits es held deltas → AreCommits es others changes → AreWorks es held works → AreWorks es others counts
      → length held < length others → length (commits_so_far told works deltas) < length (whole_text told counts changes)
  less_than_all held others deltas changes works counts left right done done_too below =
      let n = length held in
      let within : n ≤ length others = omega (arith, below) in
      let many = sym (taken_length n others within) in
      let same : deltas ≡ take n changes = one_deltas one es held (take n others) deltas (take n changes) left (first_commits n es others changes within right) many in
      let alike : works ≡ take n counts = one_works once es held (take n others) works (take n counts) done (first_works n es others counts within done_too) many in
      let front : length (commits_so_far told works deltas) ≡ length (commits_so_far told (take n counts) (take n changes)) =
      ap (λ ds. length (commits_so_far told works ds)) same ∙ ap (λ ws. length (commits_so_far told ws (take n changes))) alike in
      let last = line_text (Done (length changes)) in
      omega (arith, front, no_longer told n 1 counts changes, some_last (length changes), ap length (text_is told counts changes), length-append (commits_so_far told counts changes) last, length-append (line_text (head_line told)) (all_commits told 1 counts changes), length-append (line_text (head_line told)) (all_commits told 1 (take n counts) (take n changes)))

-- bytes that grew by less than a text did not grow by it
grew_less : (old new : Option (List ℕ)) (before front text : List ℕ) → old ≡ Some before → Appends old new front → Appends old new text → length front < length text → ⊥
grew_less None new before front text e p q h = none-some before e
grew_less (Some xs) None before front text e p q h = p
grew_less (Some xs) (Some ys) before front text e p q h = omega (arith, ap length p, ap length q, length-append xs front, length-append xs text, h)

pub part_or_whole : (told : Telling) (one : OneBuild) (once : OneWorkFrom) (es : List EventData) (refused : Bool) (old new : Option (List ℕ)) (before : List ℕ) → old ≡ Some before → WrotePart told es old new → WroteWhole told es refused old new → ⊥
part_or_whole told one once es refused old new before holds (held, deltas, works, commits, done, inl (below, front)) wrote =
    let (others, changes, counts, all, done_too, count, refusal, text) = wrote in
    let (first, rest, split, appended) = front in
    grew_less old new before first (whole_text told counts changes) holds appended text
    (omega (arith, ap length split, length-append first rest, less_than_all told one once es held others deltas changes works counts commits all done done_too (omega (arith, below, count))))
part_or_whole told one once es refused old new before holds (held, deltas, works, commits, done, inr (whole, part)) wrote =
    let (others, changes, counts, all, done_too, count, refusal, text) = wrote in
    let (first, rest, split, some, appended) = part in
    let same : deltas ≡ changes = one_deltas one es held others deltas changes commits all (whole ∙ sym count) in
    let alike : works ≡ counts = one_works once es held others works counts done done_too (whole ∙ sym count) in
    grew_less old new before first (whole_text told counts changes) holds appended text
    (omega (arith, ap length split, length-append first rest, some, ap (λ ds. length (whole_text told works ds)) same, ap (λ ws. length (whole_text told ws changes)) alike))

-- nothing was written where nothing changed
pub none_or_whole : (told : Telling) (es : List EventData) (refused : Bool) (old new : Option (List ℕ)) (before : List ℕ) → old ≡ Some before → new ≡ old → WroteWhole told es refused old new → ⊥
none_or_whole told es refused old new before holds same wrote =
    let (others, changes, counts, all, done, count, refusal, text) = wrote in
    let P : Option (List ℕ) → Type 0 = λ o. Appends old o [] in
    let last = line_text (Done (length changes)) in
    grew_less old new before [] (whole_text told counts changes) holds (subst P (sym same) (Appends-nil old)) text
    (omega (arith, ap length (text_is told counts changes), length-append (commits_so_far told counts changes) last, some_last (length changes)))

-- two whole streams of a script end alike
pub one_end : (told : Telling) (one : OneBuild) (es : List EventData) (x y : Bool) (old new : Option (List ℕ)) → WroteWhole told es x old new → WroteWhole told es y old new → x ≡ y
one_end told one es x y old new left right =
    let (held, deltas, works, commits, done, count, refusal, text) = left in
    let (others, changes, counts, all, done_too, total, ending, text_too) = right in
    sym refusal ∙ (ap (λ h. is_refused (last_held h)) (one_held one es held others deltas changes commits all (count ∙ sym total)) ∙ ending)
