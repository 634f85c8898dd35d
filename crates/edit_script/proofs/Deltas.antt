-- Deltas: there is one, and it makes the new outputs of the old; and the pieces of a stream.
use Rattle.std.proofs.Common.{◌≡◌, ℕ, zero, suc, ◌≤◌, ◌+◌, true, false, cond, T, List, [], ◌∷◌, ◌++◌, length, take, get_or, Option, Some, None, refl, sym, ap, subst, ◌∙◌, arith, append_assoc, append-nil}
use Rattle.std.proofs.lemmas.Slice.Eq.{bytes_eq-Decides}
use Rattle.std.proofs.lemmas.List.{get_or_default}
use Rattle.std.specs.Cmp.Lexicographic.{nat_list_cmp_total}
use Rattle.std.specs.FinMap as map
use Rattle.std.specs.FinMap.{find, is_sorted}
use Rattle.std.specs.FinMap.Entries.{below_all}
use Rattle.std.specs.List.{concat, flat_map}
use Rattle.std.specs.Option.{unwrap_or}
use Rattle.std.specs.Ordering.{is_lt, eq_by_cmp}
use Rattle.std.specs.Str.{bytes_eq}
use Rattle.tk_io.specs.Order.{text_cmp}
use Rattle.tk_io.specs.FilesData.{FilesData}
use Rattle.edit_script.specs.Delta.{ChangeData, Delta, IsDelta, AreDeltas, change_of, changed, applied, replayed, held_at}
use Rattle.edit_script.specs.inner.Merge.{AreChanges}
use Rattle.edit_script.specs.Stream.{commits_text, commits_pieces, stream_of, stream_pieces, line_text, pieces_of, record_line, record_of}
use Rattle.edit_script.specs.declared.line.Line.TheVariants.{StreamHead, Commit, Done}
use Rattle.edit_script.proofs.Rising.{same_key, equal, missing, not_below, first, second}

-- changes of the entries of outputs are a delta
pub delta_of : (old new : FilesData) (ds : List ChangeData) → AreChanges (map.entries old) (map.entries new) ds → IsDelta old new (map.from_sorted ds) × (ds ≡ map.entries (map.from_sorted {R = text_cmp} ds))
delta_of old new ds m = (
  λ q.
      map.get-from_sorted text_cmp ds q m.rise
      ∙ (m.each q ∙ (ap (λ o. change_of o (find text_cmp q (map.entries new))) (sym (map.get-entries old q)) ∙ ap (λ o. change_of (map.get old q) o) (sym (map.get-entries new q)))),
  sym (map.entries-from_sorted text_cmp ds m.rise),
)

pub one_delta : (old new : FilesData) (d e : Delta) → IsDelta old new d → IsDelta old new e → d ≡ e
one_delta old new d e g h = map.same_map nat_list_cmp_total same_key d e (λ q. g q ∙ sym (h q))

-- what stands at a path after a change of this path, or of another
changed_at : (held : FilesData) (p q : List ℕ) (v : Option (List ℕ)) → map.get (changed held (p, v)) q ≡ cond (eq_by_cmp text_cmp q p) v (map.get held q)
changed_at held p q None = map.get-remove nat_list_cmp_total held p q
changed_at held p q (Some b) = map.get-insert nat_list_cmp_total held p b q

-- what stands at a path after changes of rising paths
applied_at : (cs : List ChangeData) (held : FilesData) (q : List ℕ) → T (is_sorted text_cmp cs) → map.get (applied cs held) q ≡ unwrap_or (find text_cmp q cs) (map.get held q)
applied_at [] held q h = refl
applied_at ((p, v) ∷ cs) held q h =
    applied_at cs (changed held (p, v)) q (second (below_all text_cmp p cs) (is_sorted text_cmp cs) h)
    ∙ (ap (λ o. unwrap_or (find text_cmp q cs) o) (changed_at held p q v)
    ∙ elim (eq_by_cmp text_cmp q p) as (λ t. eq_by_cmp text_cmp q p ≡ t → unwrap_or (find text_cmp q cs) (cond t v (map.get held q)) ≡ unwrap_or (cond t (Some v) (find text_cmp q cs)) (map.get held q)) [
      | true ↦ λ t.
          let same : q ≡ p = same_key q p (equal _ t) in
          let absent : is_lt (text_cmp p q) ≡ false = ap (λ k. is_lt (text_cmp p k)) same ∙ not_below p in
          ap (λ o. unwrap_or o v) (missing p q cs (first (below_all text_cmp p cs) (is_sorted text_cmp cs) h) absent)
      | false ↦ λ t. refl
    ] refl)

made : (o n : Option (List ℕ)) → unwrap_or (change_of o n) o ≡ n
made None None = refl
made None (Some b) = refl
made (Some a) None = refl
made (Some a) (Some b) =
    elim (bytes_eq a b) as (λ t. bytes_eq a b ≡ t → unwrap_or (cond t None (Some (Some b))) (Some a) ≡ Some b) [
      | true ↦ λ t. ap (λ x. Some x) ((bytes_eq-Decides a b).0 t)
      | false ↦ λ t. refl
    ] refl

pub delta_makes : (old new : FilesData) (d : Delta) → IsDelta old new d → applied (map.entries d) old ≡ new
delta_makes old new d h =
    map.same_map nat_list_cmp_total same_key (applied (map.entries d) old) new (λ q.
    applied_at (map.entries d) old q (map.entries_sorted d)
    ∙ (ap (λ o. unwrap_or o (map.get old q)) (sym (map.get-entries d q) ∙ h q) ∙ made (map.get old q) (map.get new q)))

-- the default at an index within a list
another : (os : List FilesData) (o b : FilesData) (k : ℕ) → k ≤ length os → get_or (o ∷ os) k o ≡ get_or (o ∷ os) k b
another os o b k l = get_or_default (o ∷ os) k o b (omega arith)

pub deltas_make : (before : FilesData) (held : List FilesData) (ds : List Delta) (k : ℕ) → AreDeltas before held ds → k ≤ length held → replayed (take k ds) before ≡ held_at before held k
deltas_make before held ds zero h l = refl
deltas_make before [] ds (suc k) h l = absurd (omega arith)
deltas_make before (o ∷ os) [] (suc k) h l = absurd h
deltas_make before (o ∷ os) (d ∷ ds) (suc k) h l =
    ap (λ m. replayed (take k ds) m) (delta_makes before o d h.0) ∙ (deltas_make o os ds k h.1 (omega arith) ∙ another os o before k (omega arith))

pieces_append : (xs ys : List (List ℕ)) → concat (xs ++ ys) ≡ concat xs ++ concat ys
pieces_append [] ys = refl
pieces_append (x ∷ xs) ys = ap (λ l. x ++ l) (pieces_append xs ys) ∙ sym (append_assoc x (concat xs) (concat ys))

three : (l b : List ℕ) → l ++ (b ++ (10 ∷ [] ++ [])) ≡ l ++ b ++ 10 ∷ []
three l b = sym (append_assoc l b (10 ∷ []))

pub pieces_record : (c : ChangeData) → concat (pieces_of c) ≡ record_of c
pieces_record (p, None) = append-nil (record_line (p, None))
pieces_record (p, Some b) = three (record_line (p, Some b)) b

pieces_records : (cs : List ChangeData) → concat (flat_map pieces_of cs) ≡ flat_map record_of cs
pieces_records [] = refl
pieces_records (c ∷ cs) = pieces_append (pieces_of c) (flat_map pieces_of cs) ∙ (ap (λ l. l ++ concat (flat_map pieces_of cs)) (pieces_record c) ∙ ap (λ l. record_of c ++ l) (pieces_records cs))

pieces_commits : (k : ℕ) (ds : List Delta) → concat (commits_pieces k ds) ≡ commits_text k ds
unfolding commits_text commits_pieces
pieces_commits k [] = refl
pieces_commits k (d ∷ ds) =
    ap (λ l. line_text (Commit k) ++ l) (pieces_append (flat_map pieces_of (map.entries d)) (commits_pieces (k + 1) ds)
    ∙ (ap (λ l. l ++ concat (commits_pieces (k + 1) ds)) (pieces_records (map.entries d)) ∙ ap (λ l. flat_map record_of (map.entries d) ++ l) (pieces_commits (k + 1) ds)))
    ∙ sym (append_assoc (line_text (Commit k)) (flat_map record_of (map.entries d)) (commits_text (k + 1) ds))

pub pieces_stream : (ds : List Delta) → concat (stream_pieces ds) ≡ stream_of ds
unfolding stream_of stream_pieces
pieces_stream ds =
    let last = line_text (Done (length ds)) in
    ap (λ l. line_text StreamHead ++ l) (pieces_append (commits_pieces 1 ds) (last ∷ [])
    ∙ (ap (λ l. l ++ (last ++ [])) (pieces_commits 1 ds) ∙ ap (λ l. commits_text 1 ds ++ l) (append-nil last)))
    ∙ sym (append_assoc (line_text StreamHead) (commits_text 1 ds) last)

pub one_more_delta : (before : FilesData) (held : List FilesData) (ds : List Delta) (new : FilesData) (d : Delta) → AreDeltas before held ds → IsDelta (held_at before held (length held)) new d → AreDeltas before (held ++ new ∷ []) (ds ++ d ∷ [])
one_more_delta before [] [] new d h is = (is, tt)
one_more_delta before [] (e ∷ ds) new d h is = absurd h
one_more_delta before (o ∷ os) [] new d h is = absurd h
one_more_delta before (o ∷ os) (e ∷ ds) new d h is = (h.0, one_more_delta o os ds new d h.1 (subst (λ b. IsDelta b new d) (sym (another os o before (length os) (omega arith))) is))

pub no_commits : (k : ℕ) → commits_text k [] ≡ []
unfolding commits_text
no_commits k = refl

pub same_count : (k : ℕ) → k ≡ k + 0
same_count k = omega arith

pub next_count : (k n : ℕ) → k + 1 + n ≡ k + suc n
next_count k n = omega arith

grouped : (a b c d : List ℕ) → a ++ ((b ++ c) ++ d) ≡ ((a ++ b) ++ c) ++ d
grouped a b c d = simp append_assoc

pub more_commits : (k : ℕ) (ds : List Delta) (d : Delta) → commits_text k (ds ++ d ∷ []) ≡ commits_text k ds ++ line_text (Commit (k + length ds)) ++ flat_map record_of (map.entries d)
unfolding commits_text
more_commits k [] d = append-nil (line_text (Commit k) ++ flat_map record_of (map.entries d)) ∙ ap (λ n. line_text (Commit n) ++ flat_map record_of (map.entries d)) (same_count k)
more_commits k (e ∷ ds) d =
    ap (λ l. line_text (Commit k) ++ flat_map record_of (map.entries e) ++ l) (more_commits (k + 1) ds d)
    ∙ (ap (λ n. line_text (Commit k) ++ flat_map record_of (map.entries e) ++ (commits_text (k + 1) ds ++ line_text (Commit n) ++ flat_map record_of (map.entries d))) (next_count k (length ds))
    ∙ grouped (line_text (Commit k) ++ flat_map record_of (map.entries e)) (commits_text (k + 1) ds) (line_text (Commit (k + suc (length ds)))) (flat_map record_of (map.entries d)))

pub stream_is : (ds : List Delta) → stream_of ds ≡ line_text StreamHead ++ commits_text 1 ds ++ line_text (Done (length ds))
unfolding stream_of
stream_is ds = refl
