-- The files that stand after events, and whether each event fits what stands before it.
use Rattle.std.specs.Prelude.{◌≡◌, ◌<◌, ◌≤◌, ℕ, zero, suc, ◌+◌, List, [], ◌∷◌, ◌++◌, length, take, drop, slice_get, Option, Some, None, IsSome, IsSomeAnd, IfSome, option_and_then, option_map, if◌then◌else◌}
use Rattle.std.specs.FinMap as map
use Rattle.std.specs.Str.{IsCharBoundary, bytes_eq}
use Rattle.tk_io.specs.FilesData.{FilesData}
use Rattle.edit_script.specs.Script.{EventData, put, del, move, patch, commit}

-- the text with its bytes from start to end replaced by these
abbrev pub patched : List ℕ → ℕ → ℕ → List ℕ → List ℕ
patched text start end bytes = take start text ++ bytes ++ drop end text

-- of each path its text, or none
abbrev pub Texts : Type 0
Texts = List ℕ → Option (List ℕ)

-- the text of the path after the event, by the texts before it; a move onto itself changes nothing
abbrev pub text_by : EventData → Texts → List ℕ → Option (List ℕ)
text_by (put p text) before path = if bytes_eq p path then Some text else before path
text_by (del p) before path = if bytes_eq p path then None else before path
text_by (move first second) before path = if bytes_eq second path then before first else (if bytes_eq first path then None else before path)
text_by (patch p start end bytes) before path = if bytes_eq p path then option_map (λ text. patched text start end bytes) (before path) else before path
text_by commit before path = before path

-- .. where there is an event
abbrev pub text_next : Option EventData → Texts → List ℕ → Option (List ℕ)
text_next None before path = before path
text_next (Some event) before path = text_by event before path

-- the text of the path after the first n events: before them none, and then the n-th decides
abbrev pub text_at : List EventData → ℕ → List ℕ → Option (List ℕ)
text_at es zero path = None
text_at es (suc n) path = text_next (slice_get es n) (λ other. text_at es n other) path

-- .. after all events
abbrev pub text_after : List EventData → List ℕ → Option (List ℕ)
text_after es path = text_at es (length es) path

-- the files have at each path the text that the events leave there
abbrev pub AreFilesAfter : List EventData → FilesData → Type 0
AreFilesAfter es files = (path : List ℕ) → map.get files path ≡ text_after es path

-- the path whose text an event looks at: its own, and of a move the first
abbrev pub path_of : EventData → Option (List ℕ)
path_of (put path text) = Some path
path_of (del path) = Some path
path_of (move first second) = Some first
path_of (patch path start end bytes) = Some path
path_of commit = None

-- the text there, of these
abbrev pub present_of : EventData → Texts → Option (List ℕ)
present_of event texts = option_and_then texts (path_of event)

-- the length of the text that an event makes of the present one: a patch makes one
abbrev pub made_by : EventData → Option (List ℕ) → ℕ
made_by (put path text) present = 0
made_by (del path) present = 0
made_by (move first second) present = 0
made_by (patch path start end bytes) None = 0
made_by (patch path start end bytes) (Some text) = length (patched text start end bytes)
made_by commit present = 0

-- .. where there is an event
abbrev pub made_next : Option EventData → Texts → ℕ
made_next None before = 0
made_next (Some event) before = made_by event (present_of event before)

-- the sum of the lengths of the texts that the patches among the first n events make
abbrev pub made_at : List EventData → ℕ → ℕ
made_at es zero = 0
made_at es (suc n) = made_at es n + made_next (slice_get es n) (text_at es n)

-- .. among all events
abbrev pub made_after : List EventData → ℕ
made_after es = made_at es (length es)

-- the most that the lengths of patched texts have as their sum
abbrev pub most_patched : ℕ
most_patched = 1073741824

-- the patch fits the text where the earlier patches made this sum: it replaces whole characters, of which none stands
-- behind the end, and the sum of all stays within its bound
abbrev pub FitsText : ℕ → ℕ → List ℕ → ℕ → List ℕ → Type 0
FitsText start end bytes made text =
    (start ≤ end) × IsCharBoundary text start × IsCharBoundary text end × (made + length (patched text start end bytes) ≤ most_patched)

-- the event fits the present text, where the earlier patches made this sum: a move wants a text, and a patch one that it fits
abbrev pub Fits : EventData → Option (List ℕ) → ℕ → Type 0
Fits (put path text) present made = Unit {0}
Fits (del path) present made = Unit {0}
Fits (move first second) present made = IsSome present
Fits (patch path start end bytes) present made = IsSomeAnd present (FitsText start end bytes made)
Fits commit present made = Unit {0}

-- the event fits what stands after these
abbrev pub FitsAfter : List EventData → EventData → Type 0
FitsAfter es event = Fits event (present_of event (text_after es)) (made_after es)

-- the event behind the first n, where there is one, fits what stands after them
abbrev pub FitsAt : List EventData → ℕ → Type 0
FitsAt es n = IfSome (slice_get es n) (λ event. Fits event (present_of event (text_at es n)) (made_at es n))

-- every event fits what stands before it
abbrev pub EveryFits : List EventData → Type 0
EveryFits es = (n : ℕ) → FitsAt es n

-- the number of the first event that does not fit, where all events are counted from 1
abbrev pub IsUnfit : List EventData → ℕ → Type 0
IsUnfit es zero = ⊥
IsUnfit es (suc n) = ¬ (FitsAt es n) × ((m : ℕ) → m < n → FitsAt es m)

-- the events up to the k-th commit, or all where there are fewer commits
abbrev pub up_to : ℕ → List EventData → List EventData
up_to zero es = []
up_to (suc k) [] = []
up_to (suc k) (put path text ∷ es) = put path text ∷ up_to (suc k) es
up_to (suc k) (del path ∷ es) = del path ∷ up_to (suc k) es
up_to (suc k) (move first second ∷ es) = move first second ∷ up_to (suc k) es
up_to (suc k) (patch path start end bytes ∷ es) = patch path start end bytes ∷ up_to (suc k) es
up_to (suc k) (commit ∷ es) = commit ∷ up_to k es

-- the files are those at the k-th commit
abbrev pub AreFilesAt : List EventData → ℕ → FilesData → Type 0
AreFilesAt es k files = AreFilesAfter (up_to k es) files

abbrev pub commit_count : List EventData → ℕ
commit_count [] = 0
commit_count (put path text ∷ es) = commit_count es
commit_count (del path ∷ es) = commit_count es
commit_count (move first second ∷ es) = commit_count es
commit_count (patch path start end bytes ∷ es) = commit_count es
commit_count (commit ∷ es) = suc (commit_count es)

-- the events but for the commits
abbrev pub without_commits : List EventData → List EventData
without_commits [] = []
without_commits (put path text ∷ es) = put path text ∷ without_commits es
without_commits (del path ∷ es) = del path ∷ without_commits es
without_commits (move first second ∷ es) = move first second ∷ without_commits es
without_commits (patch path start end bytes ∷ es) = patch path start end bytes ∷ without_commits es
without_commits (commit ∷ es) = without_commits es

-- the events with their commits taken out and one at the end
abbrev pub as_one_commit : List EventData → List EventData
as_one_commit es = without_commits es ++ commit ∷ []
