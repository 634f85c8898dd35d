-- What stands after events, and the events up to a commit.
use Rattle.std.proofs.Common.{◌≡◌, ◌<◌, ◌≤◌, ℕ, zero, suc, ◌+◌, true, false, cond, List, [], ◌∷◌, ◌++◌, length, take, drop, ◌-◌, ltb, ltb-true, ltb-false, take-append-drop, Option, Some, None, option_map, refl, sym, ap, subst, ◌∙◌, arith, length-append}
use Rattle.std.proofs.lemmas.Slice.Eq.{bytes_eq-Decides}
use Rattle.std.proofs.lemmas.List.{length-take-le, take_all}
use Rattle.std.specs.Cmp.{both_ways}
use Rattle.std.specs.Cmp.Lexicographic.{nat_list_cmp_total}
use Rattle.std.specs.FinMap as map
use Rattle.std.specs.List.{slice_get}
use Rattle.std.specs.Option.{is_some}
use Rattle.std.specs.Ordering.{is_eq, eq_by_cmp}
use Rattle.std.specs.Str.{bytes_eq}
use Rattle.tk_io.specs.Order.{text_cmp}
use Rattle.tk_io.specs.FilesData.{FilesData}
use Rattle.edit_script.specs.Effect.{files_by, outcome_of}
use Rattle.edit_script.specs.Files.{AreFilesAfter, Fits, FitsAfter, Texts, made_after, patched, present_of, text_by, text_next, text_at, text_after, up_to, commit_count}
use Rattle.edit_script.specs.Script.{EventData, put, del, move, patch, commit}
use Rattle.edit_script.proofs.Rising.{same_key, tied, equal}

-- the order of paths ties a path with itself alone
same_path : (p q : List ℕ) → eq_by_cmp text_cmp q p ≡ bytes_eq p q
same_path p q =
    both_ways (eq_by_cmp text_cmp q p) (bytes_eq p q)
    (λ t. (bytes_eq-Decides p q).1 (sym (same_key q p (equal _ t))))
    (λ t. let same : p ≡ q = (bytes_eq-Decides p q).0 t in ap (λ k. is_eq (text_cmp q k)) same ∙ ap is_eq (tied q))

-- events before others stand where they stood
pub get_front : {X : Type 0} (xs ys : List X) (n : ℕ) → n < length xs → slice_get (xs ++ ys) n ≡ slice_get xs n
get_front [] ys n h = absurd (omega (arith, h))
get_front (x ∷ xs) ys zero h = refl
get_front (x ∷ xs) ys (suc n) h = get_front xs ys n (omega (arith, h))

pub get_next : {X : Type 0} (xs : List X) (x : X) (ys : List X) → slice_get (xs ++ x ∷ ys) (length xs) ≡ Some x
get_next [] x ys = refl
get_next (y ∷ xs) x ys = get_next xs x ys

pub get_behind : {X : Type 0} (xs : List X) (n : ℕ) → length xs ≤ n → slice_get xs n ≡ None
get_behind [] n h = refl
get_behind (x ∷ xs) zero h = absurd (omega (arith, h))
get_behind (x ∷ xs) (suc n) h = get_behind xs n (omega (arith, h))

pub length_push : {X : Type 0} (xs : List X) (x : X) → length (xs ++ x ∷ []) ≡ suc (length xs)
length_push xs x = omega (arith, length-append xs (x ∷ []))

pub text_front : (xs ys : List EventData) (n : ℕ) (path : List ℕ) → n ≤ length xs → text_at (xs ++ ys) n path ≡ text_at xs n path
text_front xs ys zero path h = refl
text_front xs ys (suc n) path h =
    λ i. text_next (get_front xs ys n (omega (arith, h)) i) (λ other. text_front xs ys n other (omega (arith, h)) i) path

-- the text after one event more
pub text_push : (es : List EventData) (e : EventData) (path : List ℕ) → text_after (es ++ e ∷ []) path ≡ text_by e (text_after es) path
text_push es e path =
    ap (λ n. text_at (es ++ e ∷ []) n path) (length_push es e)
    ∙ (λ i. text_next (get_next es e [] i) (λ other. text_front es (e ∷ []) (length es) other (omega arith) i) path)

zero_more : (n : ℕ) → zero + n ≡ n
zero_more n = omega arith

one_more : (k n : ℕ) → suc k + n ≡ suc (k + n)
one_more k n = omega arith

text_behind : (es : List EventData) (k : ℕ) (path : List ℕ) → text_at es (k + length es) path ≡ text_after es path
text_behind es zero path = ap (λ n. text_at es n path) (zero_more (length es))
text_behind es (suc k) path =
    ap (λ n. text_at es n path) (one_more k (length es))
    ∙ (ap (λ o. text_next o (λ other. text_at es (k + length es) other) path) (get_behind es (k + length es) (omega arith)) ∙ text_behind es k path)

-- the texts after the first events are those after the events up to there
pub texts_first : (es : List EventData) (n : ℕ) (path : List ℕ) → text_at es n path ≡ text_after (take n es) path
texts_first es n path =
    elim (ltb (length es) n) as (λ t. ltb (length es) n ≡ t → text_at es n path ≡ text_after (take n es) path) [
      | true ↦ λ t.
          let behind = ltb-true (length es) n t in
          let far : n ≡ (n - length es) + length es = omega (arith, behind) in
          ap (λ m. text_at es m path) far ∙ (text_behind es (n - length es) path ∙ ap (λ l. text_after l path) (sym (take_all n es (omega (arith, behind)))))
      | false ↦ λ t.
          let size = length-take-le n es (ltb-false (length es) n t) in
          ap (λ l. text_at l n path) (sym (take-append-drop n es))
          ∙ (text_front (take n es) (drop n es) n path (omega (arith, size)) ∙ ap (λ m. text_at (take n es) m path) (sym size))
    ] refl

pub empty_files : AreFilesAfter [] map.empty
empty_files q = map.get-empty text_cmp q

-- what stands at a path after a put of another or the same
placed : (files : FilesData) (path text q : List ℕ) → map.get (map.insert files path text) q ≡ cond (bytes_eq path q) (Some text) (map.get files q)
placed files path text q = map.get-insert nat_list_cmp_total files path text q ∙ ap (λ b. cond b (Some text) (map.get files q)) (same_path path q)

-- .. after a del
left : (files : FilesData) (path q : List ℕ) → map.get (map.remove files path) q ≡ cond (bytes_eq path q) None (map.get files q)
left files path q = map.get-remove nat_list_cmp_total files path q ∙ ap (λ b. cond b None (map.get files q)) (same_path path q)

pub put_files : (es : List EventData) (files : FilesData) (path text : List ℕ) → AreFilesAfter es files → AreFilesAfter (es ++ put path text ∷ []) (map.insert files path text)
put_files es files path text h q =
    placed files path text q ∙ (ap (λ o. cond (bytes_eq path q) (Some text) o) (h q) ∙ sym (text_push es (put path text) q))

pub del_files : (es : List EventData) (files : FilesData) (path : List ℕ) → AreFilesAfter es files → AreFilesAfter (es ++ del path ∷ []) (map.remove files path)
del_files es files path h q =
    left files path q ∙ (ap (λ o. cond (bytes_eq path q) None o) (h q) ∙ sym (text_push es (del path) q))

pub move_files : (es : List EventData) (files : FilesData) (first second text : List ℕ) → AreFilesAfter es files → map.get files first ≡ Some text
    → AreFilesAfter (es ++ move first second ∷ []) (map.insert (map.remove files first) second text)
move_files es files first second text h there q =
    placed (map.remove files first) second text q
    ∙ (ap (λ o. cond (bytes_eq second q) (Some text) o) (left files first q)
    ∙ (ap (λ o. cond (bytes_eq second q) (Some text) (cond (bytes_eq first q) None o)) (h q)
    ∙ (ap (λ o. cond (bytes_eq second q) o (cond (bytes_eq first q) None (text_after es q))) (sym there ∙ h first)
    ∙ sym (text_push es (move first second) q))))

-- a text that is mended, at its path and elsewhere
mended : (f : List ℕ → List ℕ) (texts : Texts) (path text q : List ℕ) → texts path ≡ Some text → cond (bytes_eq path q) (Some (f text)) (texts q) ≡ cond (bytes_eq path q) (option_map f (texts q)) (texts q)
mended f texts path text q there =
    elim (bytes_eq path q) as (λ b. bytes_eq path q ≡ b → cond b (Some (f text)) (texts q) ≡ cond b (option_map f (texts q)) (texts q)) [
      | true ↦ λ t. let same : path ≡ q = (bytes_eq-Decides path q).0 t in ap (option_map f) (sym there ∙ ap texts same)
      | false ↦ λ t. refl
    ] refl

pub patch_files : (es : List EventData) (files : FilesData) (path : List ℕ) (start end : ℕ) (bytes text : List ℕ) → AreFilesAfter es files → map.get files path ≡ Some text
    → AreFilesAfter (es ++ patch path start end bytes ∷ []) (map.insert files path (patched text start end bytes))
patch_files es files path start end bytes text h there q =
    placed files path (patched text start end bytes) q
    ∙ (ap (λ o. cond (bytes_eq path q) (Some (patched text start end bytes)) o) (h q)
    ∙ (mended (λ t. patched t start end bytes) (text_after es) path text q (sym (h path) ∙ there) ∙ sym (text_push es (patch path start end bytes) q)))

pub commit_files : (es : List EventData) (files : FilesData) → AreFilesAfter es files → AreFilesAfter (es ++ commit ∷ []) files
commit_files es files h q = h q ∙ sym (text_push es commit q)

-- an event looks at what the files have
pub present_same : (es : List EventData) (files : FilesData) (e : EventData) → AreFilesAfter es files → present_of e (map.get files) ≡ present_of e (text_after es)
present_same es files (put path text) h = h path
present_same es files (del path) h = h path
present_same es files (move first second) h = h first
present_same es files (patch path start end bytes) h = h path
present_same es files commit h = refl

no_text : {P : Type 0} (o : Option (List ℕ)) → o ≡ None → is_some o ≡ true → P
no_text o e h = absurd (cc)

moved_files : (es : List EventData) (files : FilesData) (first second : List ℕ) (o : Option (List ℕ)) → map.get files first ≡ o → AreFilesAfter es files → is_some (text_after es first) ≡ true
    → AreFilesAfter (es ++ move first second ∷ []) (files_by (outcome_of (move first second) o) files)
moved_files es files first second None there h fits = no_text (text_after es first) (sym (h first) ∙ there) fits
moved_files es files first second (Some text) there h fits = move_files es files first second text h there

patched_files : (es : List EventData) (files : FilesData) (path : List ℕ) (start end : ℕ) (bytes : List ℕ) (o : Option (List ℕ)) → map.get files path ≡ o → AreFilesAfter es files → FitsAfter es (patch path start end bytes)
    → AreFilesAfter (es ++ patch path start end bytes ∷ []) (files_by (outcome_of (patch path start end bytes) o) files)
patched_files es files path start end bytes None there h fits = absurd (subst (λ o. Fits (patch path start end bytes) o (made_after es)) (sym (h path) ∙ there) fits)
patched_files es files path start end bytes (Some text) there h fits = patch_files es files path start end bytes text h there

-- the files by what comes of an event that fits
pub outcome_files : (es : List EventData) (files : FilesData) (e : EventData) → AreFilesAfter es files → FitsAfter es e → AreFilesAfter (es ++ e ∷ []) (files_by (outcome_of e (present_of e (map.get files))) files)
outcome_files es files (put path text) h fits = put_files es files path text h
outcome_files es files (del path) h fits = del_files es files path h
outcome_files es files (move first second) h fits = moved_files es files first second (map.get files first) refl h fits
outcome_files es files (patch path start end bytes) h fits = patched_files es files path start end bytes (map.get files path) refl h fits
outcome_files es files commit h fits = commit_files es files h

pub one_files : (es : List EventData) (files others : FilesData) → AreFilesAfter es files → AreFilesAfter es others → files ≡ others
one_files es files others g h = map.same_map nat_list_cmp_total same_key files others (λ q. g q ∙ sym (h q))

pub up_to_here : (before after : List EventData) → up_to (suc (commit_count before)) (before ++ commit ∷ after) ≡ before ++ commit ∷ []
up_to_here [] after = refl
up_to_here (put p text ∷ es) after = ap (λ l. put p text ∷ l) (up_to_here es after)
up_to_here (del p ∷ es) after = ap (λ l. del p ∷ l) (up_to_here es after)
up_to_here (move p q ∷ es) after = ap (λ l. move p q ∷ l) (up_to_here es after)
up_to_here (patch p i j s ∷ es) after = ap (λ l. patch p i j s ∷ l) (up_to_here es after)
up_to_here (commit ∷ es) after = ap (λ l. commit ∷ l) (up_to_here es after)

pub count_parts : (xs ys : List EventData) → commit_count (xs ++ ys) ≡ commit_count xs + commit_count ys
count_parts [] ys = omega arith
count_parts (put p text ∷ xs) ys = count_parts xs ys
count_parts (del p ∷ xs) ys = count_parts xs ys
count_parts (move p q ∷ xs) ys = count_parts xs ys
count_parts (patch p i j s ∷ xs) ys = count_parts xs ys
count_parts (commit ∷ xs) ys = let ih = count_parts xs ys in omega arith
