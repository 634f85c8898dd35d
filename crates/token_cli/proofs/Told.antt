-- What is told of commits, commit after commit and at their end, both as records and as numbers.
use Rattle.std.proofs.Common.{◌≡◌, ◌∙◌, ◌<◌, ◌≤◌, ◌+◌, ℕ, zero, suc, List, [], ◌∷◌, ◌++◌, length, take, map as map_list, ap, sym, refl, arith, append_assoc, append-nil, length-append}
use Rattle.std.specs.FinMap as map
use Rattle.std.specs.List.{flat_map}
use Rattle.edit_script.specs.Delta.{ChangeData, Delta}
use Rattle.edit_script.specs.View.{Lined, with_line}
use Rattle.edit_script.specs.Stats.{without_lines, stats_line}
use Rattle.edit_script.specs.Stream.{commits_text, line_text, record_of}
use Rattle.edit_script.specs.declared.line.Line.TheVariants.{StatsHead, Commit, Done}
use Rattle.edit_script.proofs.Deltas.{no_commits, more_commits, next_count, same_count, stream_is}
use Rattle.build_plain.specs.Work.{Work}
use Rattle.token_cli.specs.inner.Step.{changes_text, records_of}
use Rattle.token_cli.specs.Told.{all_commits, commit_text, commits_so_far, numbers_line, numbers_lines, stats_of, whole_text}
use Rattle.token_cli.specs.declared.telling.Telling.{Telling}
use Rattle.token_cli.specs.declared.telling.Telling.TheVariants.{Records, Numbers}
use Rattle.token_cli.proofs.Records.{with_lines}

no_lines : (k : ℕ) → numbers_lines k [] [] ≡ []
unfolding numbers_lines
no_lines k = refl

-- the lines of commits of which one more is told
more_lines : (k : ℕ) (ws : List Work) (ds : List Delta) (w : Work) (d : Delta) → length ws ≡ length ds
    → numbers_lines k (ws ++ w ∷ []) (ds ++ d ∷ []) ≡ numbers_lines k ws ds ++ line_text (numbers_line (k + length ds) w d)
unfolding numbers_lines
more_lines k [] [] w d same = append-nil (line_text (numbers_line k w d)) ∙ ap (λ n. line_text (numbers_line n w d)) (same_count k)
more_lines k [] (e ∷ ds) w d same = absurd (omega (arith, same))
more_lines k (v ∷ ws) [] w d same = absurd (omega (arith, same))
more_lines k (v ∷ ws) (e ∷ ds) w d same =
    ap (λ l. line_text (numbers_line k v e) ++ l) (more_lines (k + 1) ws ds w d (omega (arith, same)))
    ∙ (ap (λ n. line_text (numbers_line k v e) ++ (numbers_lines (k + 1) ws ds ++ line_text (numbers_line n w d))) (next_count k (length ds))
    ∙ sym (append_assoc (line_text (numbers_line k v e)) (numbers_lines (k + 1) ws ds) (line_text (numbers_line (k + suc (length ds)) w d))))

stats_are : (ws : List Work) (ds : List Delta) → stats_of ws ds ≡ line_text StatsHead ++ numbers_lines 1 ws ds ++ line_text (Done (length ds))
unfolding stats_of
stats_are ws ds = refl

pub no_text : (told : Telling) (k : ℕ) → all_commits told k [] [] ≡ []
no_text Records k = no_commits k
no_text Numbers k = no_lines k

pub more_text : (told : Telling) (k : ℕ) (ws : List Work) (ds : List Delta) (w : Work) (d : Delta) → length ws ≡ length ds
    → all_commits told k (ws ++ w ∷ []) (ds ++ d ∷ []) ≡ all_commits told k ws ds ++ commit_text told (k + length ds) w d
more_text Records k ws ds w d same = more_commits k ds d ∙ append_assoc (commits_text k ds) (line_text (Commit (k + length ds))) (flat_map record_of (map.entries d))
more_text Numbers k ws ds w d same = more_lines k ws ds w d same

pub text_is : (told : Telling) (ws : List Work) (ds : List Delta) → whole_text told ws ds ≡ commits_so_far told ws ds ++ line_text (Done (length ds))
text_is Records ws ds = stream_is ds
text_is Numbers ws ds = stats_are ws ds

longer_record : (a b c d : List ℕ) → length c ≤ length d → length (a ++ b ++ c) ≤ length (a ++ b ++ d)
longer_record a b c d h = omega (arith, h, length-append (a ++ b) c, length-append (a ++ b) d)

longer_line : (a b c : List ℕ) → length b ≤ length c → length (a ++ b) ≤ length (a ++ c)
longer_line a b c h = omega (arith, h, length-append a b, length-append a c)

fewer_records : (n k : ℕ) (ds : List Delta) → length (commits_text k (take n ds)) ≤ length (commits_text k ds)
unfolding commits_text
fewer_records zero k ds = omega arith
fewer_records (suc n) k [] = omega arith
fewer_records (suc n) k (d ∷ ds) = longer_record (line_text (Commit k)) (flat_map record_of (map.entries d)) (commits_text (k + 1) (take n ds)) (commits_text (k + 1) ds) (fewer_records n (k + 1) ds)

fewer_lines : (n k : ℕ) (ws : List Work) (ds : List Delta) → length (numbers_lines k (take n ws) (take n ds)) ≤ length (numbers_lines k ws ds)
unfolding numbers_lines
fewer_lines zero k ws ds = omega arith
fewer_lines (suc n) k [] ds = omega arith
fewer_lines (suc n) k (w ∷ ws) [] = omega arith
fewer_lines (suc n) k (w ∷ ws) (d ∷ ds) =
    longer_line (line_text (numbers_line k w d)) (numbers_lines (k + 1) (take n ws) (take n ds)) (numbers_lines (k + 1) ws ds) (fewer_lines n (k + 1) ws ds)

-- what is told of the first commits is no longer than what is told of all
pub no_longer : (told : Telling) (n k : ℕ) (ws : List Work) (ds : List Delta) → length (all_commits told k (take n ws) (take n ds)) ≤ length (all_commits told k ws ds)
no_longer Records n k ws ds = fewer_records n k ds
no_longer Numbers n k ws ds = fewer_lines n k ws ds

pub some_last : (n : ℕ) → 0 < length (line_text (Done n))
some_last n = omega arith

bare_lines : (cs : List ChangeData) → without_lines (map_list with_line cs) ≡ cs
bare_lines [] = refl
bare_lines (c ∷ cs) = ap (λ l. c ∷ l) (bare_lines cs)

-- what is told of a commit is told of the listed changes
pub told_of_changes : (told : Telling) (k : ℕ) (w : Work) (d : Delta) (changes : List Lined) → changes ≡ map_list with_line (map.entries d) → commit_text told k w d ≡ changes_text told k w changes
told_of_changes Records k w d changes e = ap (λ l. line_text (Commit k) ++ l) (sym (ap records_of e ∙ with_lines (map.entries d)))
told_of_changes Numbers k w d changes e = ap (λ cs. line_text (stats_line k w.parses w.merges w.evals cs)) (sym (ap without_lines e ∙ bare_lines (map.entries d)))
