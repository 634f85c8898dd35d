-- Which breaks are told with which names.
use Rattle.std.proofs.Common.{◌≡◌, ◌⊎◌, inl, inr, ℕ, Bool, true, false, cond, ◌||◌, List, [], ◌∷◌, ◌++◌, map, refl, sym, ap, subst, ◌∙◌}
use Rattle.std.proofs.lemmas.Slice.Eq.{bytes_eq-Decides}
use Rattle.std.specs.List.{list_any}
use Rattle.std.specs.Str.{bytes_eq}
use Rattle.ring.specs.Lists.{In, AreApart}
use Rattle.ring.proofs.Ends.{in_cases, in_left, in_right}
use Rattle.permutations.specs.Permutation.{Permutation}
use Rattle.transforms.specs.Config.{Settings}
use Rattle.tk_io.specs.FilesData.{FilesData}
use Rattle.refusals.specs.Refusal.{Report, report_text}
use Rattle.all_breaks.specs.All.{TellsFrom}
use Rattle.all_breaks.specs.Laws.{IsHad, IsToldOf, OneTelling, ToldAreHad, ToldDiffer}
use Rattle.all_breaks.specs.Telling.{Tells}
use Rattle.all_breaks.specs.Told.{ToldBreak, told_break, with_break, with_breaks, with_name}

-- Names.

any_in : (names : List (List ℕ)) (n : List ℕ) → list_any (bytes_eq n) names ≡ true → In n names
any_in [] n e = absurd (cc)
any_in (m ∷ names) n e = at (bytes_eq n m) refl (any_in names n)
  where
    at : (b : Bool) → bytes_eq n m ≡ b → (list_any (bytes_eq n) names ≡ true → In n names) → In n (m ∷ names)
    at true same rest = inl ((bytes_eq-Decides n m).0 same)
    at false same rest = inr (rest (subst (λ b. (b || list_any (bytes_eq n) names) ≡ true) same e))

kept_name : (names : List (List ℕ)) (n a : List ℕ) → In a names → In a (with_name names n)
kept_name names n a i = at (list_any (bytes_eq n) names)
  where
    at : (b : Bool) → In a (cond b names (names ++ n ∷ []))
    at true = i
    at false = in_left names (n ∷ []) a i

new_name : (names : List (List ℕ)) (n : List ℕ) → In n (with_name names n)
new_name names n = at (list_any (bytes_eq n) names) refl
  where
    at : (b : Bool) → list_any (bytes_eq n) names ≡ b → In n (cond b names (names ++ n ∷ []))
    at true e = any_in names n e
    at false e = in_right names (n ∷ []) n (inl refl)

one_of : (names : List (List ℕ)) (n a : List ℕ) → In a names ⊎ In a (n ∷ []) → In a names ⊎ (a ≡ n)
one_of names n a (inl i) = inl i
one_of names n a (inr (inl e)) = inr e
one_of names n a (inr (inr i)) = absurd i

old_name : (names : List (List ℕ)) (n a : List ℕ) → In a (with_name names n) → In a names ⊎ (a ≡ n)
old_name names n a i = at (list_any (bytes_eq n) names) i
  where
    at : (b : Bool) → In a (cond b names (names ++ n ∷ [])) → In a names ⊎ (a ≡ n)
    at true j = inl j
    at false j = one_of names n a (in_cases names (n ∷ []) a j)

-- Pairs of a name and a text.

abbrev pub Pair : List ToldBreak → List ℕ → List ℕ → Type 0
Pair told name text = (t : ToldBreak) × In t told × (t.text ≡ text) × In name t.names

later : (u : ToldBreak) (ts : List ToldBreak) (name text : List ℕ) → Pair ts name text → Pair (u ∷ ts) name text
later u ts name text (t, i, reads, named) = (t, inr i, reads, named)

pub kept_pair : (told : List ToldBreak) (n x name text : List ℕ) → Pair told name text → Pair (with_break told n x) name text
kept_pair [] n x name text (t, i, reads, named) = absurd i
kept_pair (u ∷ ts) n x name text (t, i, reads, named) = at (bytes_eq x u.text) i (λ j. kept_pair ts n x name text (t, j, reads, named))
  where
    at : (b : Bool) → (t ≡ u) ⊎ In t ts → (In t ts → Pair (with_break ts n x) name text)
        → Pair (cond b (told_break u.text (with_name u.names n) ∷ ts) (u ∷ with_break ts n x)) name text
    at true (inl e) rest = (
      told_break u.text (with_name u.names n),
      inl refl,
      ap (λ (v : ToldBreak). v.text) (sym e) ∙ reads,
      kept_name u.names n name (subst (λ (v : ToldBreak). In name v.names) e named),
    )
    at true (inr j) rest = (t, inr j, reads, named)
    at false (inl e) rest = (t, inl e, reads, named)
    at false (inr j) rest = later u (with_break ts n x) name text (rest j)

pub new_pair : (told : List ToldBreak) (n x : List ℕ) → Pair (with_break told n x) n x
new_pair [] n x = (told_break x (n ∷ []), inl refl, refl, inl refl)
new_pair (u ∷ ts) n x = at (bytes_eq x u.text) refl (new_pair ts n x)
  where
    at : (b : Bool) → bytes_eq x u.text ≡ b → Pair (with_break ts n x) n x → Pair (cond b (told_break u.text (with_name u.names n) ∷ ts) (u ∷ with_break ts n x)) n x
    at true e rest = (told_break u.text (with_name u.names n), inl refl, sym ((bytes_eq-Decides x u.text).0 e), new_name u.names n)
    at false e rest = later u (with_break ts n x) n x rest

-- the pair was there, or is the new one
abbrev pub Before : List ToldBreak → List ℕ → List ℕ → List ℕ → List ℕ → Type 0
Before told n x name text = Pair told name text ⊎ ((name ≡ n) × (text ≡ x))

also_later : (u : ToldBreak) (ts : List ToldBreak) (n x name text : List ℕ) → Before ts n x name text → Before (u ∷ ts) n x name text
also_later u ts n x name text (inl p) = inl (later u ts name text p)
also_later u ts n x name text (inr e) = inr e

pub old_pair : (told : List ToldBreak) (n x name text : List ℕ) → Pair (with_break told n x) name text → Before told n x name text
old_pair [] n x name text (t, inl e, reads, named) = only (subst (λ (v : ToldBreak). In name v.names) e named)
  where
    only : In name (n ∷ []) → Before [] n x name text
    only (inl same) = inr (same, sym reads ∙ ap (λ (v : ToldBreak). v.text) e)
    only (inr i) = absurd i
old_pair [] n x name text (t, inr i, reads, named) = absurd i
old_pair (u ∷ ts) n x name text (t, i, reads, named) = at (bytes_eq x u.text) refl i (λ j. old_pair ts n x name text (t, j, reads, named))
  where
    head : bytes_eq x u.text ≡ true → u.text ≡ text → In name u.names ⊎ (name ≡ n) → Before (u ∷ ts) n x name text
    head same is (inl j) = inl (u, inl refl, is, j)
    head same is (inr e) = inr (e, sym is ∙ sym ((bytes_eq-Decides x u.text).0 same))

    at : (b : Bool) → bytes_eq x u.text ≡ b → In t (cond b (told_break u.text (with_name u.names n) ∷ ts) (u ∷ with_break ts n x))
        → (In t (with_break ts n x) → Before ts n x name text) → Before (u ∷ ts) n x name text
    at true same (inl e) rest =
        head same (ap (λ (v : ToldBreak). v.text) (sym e) ∙ reads) (old_name u.names n name (subst (λ (v : ToldBreak). In name v.names) e named))
    at true same (inr j) rest = inl (t, inr j, reads, named)
    at false same (inl e) rest = inl (t, inl e, reads, named)
    at false same (inr j) rest = also_later u ts n x name text (rest j)

-- Texts.

abbrev texts : List ToldBreak → List (List ℕ)
texts told = map (λ (t : ToldBreak). t.text) told

old_text : (told : List ToldBreak) (n x y : List ℕ) → In y (texts (with_break told n x)) → In y (texts told) ⊎ (y ≡ x)
old_text [] n x y (inl e) = inr e
old_text [] n x y (inr i) = absurd i
old_text (u ∷ ts) n x y i = at (bytes_eq x u.text) i (old_text ts n x y)
  where
    more : In y (texts ts) ⊎ (y ≡ x) → In y (texts (u ∷ ts)) ⊎ (y ≡ x)
    more (inl j) = inl (inr j)
    more (inr e) = inr e

    at : (b : Bool) → In y (texts (cond b (told_break u.text (with_name u.names n) ∷ ts) (u ∷ with_break ts n x)))
        → (In y (texts (with_break ts n x)) → In y (texts ts) ⊎ (y ≡ x)) → In y (texts (u ∷ ts)) ⊎ (y ≡ x)
    at true j rest = inl j
    at false (inl e) rest = inl (inl e)
    at false (inr j) rest = more (rest j)

pub still_apart : (told : List ToldBreak) (n x : List ℕ) → AreApart (texts told) → AreApart (texts (with_break told n x))
still_apart [] n x apart = (λ i. i, tt)
still_apart (u ∷ ts) n x apart = at (bytes_eq x u.text) refl (still_apart ts n x apart.1)
  where
    other : bytes_eq x u.text ≡ false → In u.text (texts ts) ⊎ (u.text ≡ x) → ⊥
    other differ (inl i) = apart.0 i
    other differ (inr e) = let same : bytes_eq x u.text ≡ true = (bytes_eq-Decides x u.text).1 (sym e) in absurd (cc)

    at : (b : Bool) → bytes_eq x u.text ≡ b → AreApart (texts (with_break ts n x)) → AreApart (texts (cond b (told_break u.text (with_name u.names n) ∷ ts) (u ∷ with_break ts n x)))
    at true e rest = apart
    at false e rest = (λ i. other e (old_text ts n x u.text i), rest)

-- The breaks of a permutation.

pub kept_pairs : (told : List ToldBreak) (n : List ℕ) (xs : List (List ℕ)) (name text : List ℕ) → Pair told name text → Pair (with_breaks told n xs) name text
kept_pairs told n [] name text p = p
kept_pairs told n (x ∷ xs) name text p = kept_pairs (with_break told n x) n xs name text (kept_pair told n x name text p)

pub new_pairs : (told : List ToldBreak) (n : List ℕ) (xs : List (List ℕ)) (text : List ℕ) → In text xs → Pair (with_breaks told n xs) n text
new_pairs told n [] text i = absurd i
new_pairs told n (x ∷ xs) text (inl e) = kept_pairs (with_break told n x) n xs n text (subst (λ y. Pair (with_break told n x) n y) (sym e) (new_pair told n x))
new_pairs told n (x ∷ xs) text (inr i) = new_pairs (with_break told n x) n xs text i

abbrev BeforeAll : List ToldBreak → List ℕ → List (List ℕ) → List ℕ → List ℕ → Type 0
BeforeAll told n xs name text = Pair told name text ⊎ ((name ≡ n) × In text xs)

pub old_pairs : (told : List ToldBreak) (n : List ℕ) (xs : List (List ℕ)) (name text : List ℕ) → Pair (with_breaks told n xs) name text → BeforeAll told n xs name text
old_pairs told n [] name text p = inl p
old_pairs told n (x ∷ xs) name text p = at (old_pairs (with_break told n x) n xs name text p)
  where
    first : Before told n x name text → BeforeAll told n (x ∷ xs) name text
    first (inl q) = inl q
    first (inr (e, is)) = inr (e, inl is)

    at : BeforeAll (with_break told n x) n xs name text → BeforeAll told n (x ∷ xs) name text
    at (inl q) = first (old_pair told n x name text q)
    at (inr (e, i)) = inr (e, inr i)

pub all_apart : (told : List ToldBreak) (n : List ℕ) (xs : List (List ℕ)) → AreApart (texts told) → AreApart (texts (with_breaks told n xs))
all_apart told n [] apart = apart
all_apart told n (x ∷ xs) apart = all_apart (with_break told n x) n xs (still_apart told n x apart)

-- Of all permutations.

module _ (settings : Settings) (files : FilesData) where
  had_later : (p : Permutation) (ps : List Permutation) (name text : List ℕ) → IsHad settings files ps name text → IsHad settings files (p ∷ ps) name text
  had_later p ps name text h = record { perm = h.perm; among = inr h.among; named = h.named; reports = h.reports; tells = h.tells; printed = h.printed }

  pub kept_from : (ps : List Permutation) (before told : List ToldBreak) → TellsFrom settings files ps before told → (name text : List ℕ) → Pair before name text → Pair told name text
  kept_from [] before told is name text p = subst (λ (ts : List ToldBreak). Pair ts name text) (sym is) p
  kept_from (p ∷ ps) before told (reports, tells, rest) name text q =
      let xs = map (report_text files) reports in
      kept_from ps (with_breaks before p.name xs) told rest name text (kept_pairs before p.name xs name text q)

  pub old_from : (ps : List Permutation) (before told : List ToldBreak) → TellsFrom settings files ps before told → (name text : List ℕ) → Pair told name text
      → Pair before name text ⊎ IsHad settings files ps name text
  old_from [] before told is name text p = inl (subst (λ (ts : List ToldBreak). Pair ts name text) is p)
  old_from (p ∷ ps) before told (reports, tells, rest) name text q = at (old_from ps (with_breaks before p.name (map (report_text files) reports)) told rest name text q)
    where
      here : BeforeAll before p.name (map (report_text files) reports) name text → Pair before name text ⊎ IsHad settings files (p ∷ ps) name text
      here (inl r) = inl r
      here (inr (e, i)) = inr (record { perm = p; among = inl refl; named = sym e; reports = reports; tells = tells; printed = i })

      at : Pair (with_breaks before p.name (map (report_text files) reports)) name text ⊎ IsHad settings files ps name text → Pair before name text ⊎ IsHad settings files (p ∷ ps) name text
      at (inl r) = here (old_pairs before p.name (map (report_text files) reports) name text r)
      at (inr h) = inr (had_later p ps name text h)

  pub apart_from : (ps : List Permutation) (before told : List ToldBreak) → TellsFrom settings files ps before told → AreApart (texts before) → AreApart (texts told)
  apart_from [] before told is apart = subst (λ (ts : List ToldBreak). AreApart (texts ts)) (sym is) apart
  apart_from (p ∷ ps) before told (reports, tells, rest) apart =
      apart_from ps (with_breaks before p.name (map (report_text files) reports)) told rest (all_apart before p.name (map (report_text files) reports) apart)

  pub had_told : OneTelling → (ps : List Permutation) (before told : List ToldBreak) → TellsFrom settings files ps before told → (name text : List ℕ) (q : Permutation) → In q ps → q.name ≡ name
      → (rs : List Report) → Tells settings files q rs → In text (map (report_text files) rs) → Pair told name text
  had_told one [] before told from name text q i named rs are printed = absurd i
  had_told one (p ∷ ps) before told (reports, tells, rest) name text q (inl e) named rs are printed =
      let xs = map (report_text files) reports in
      let same = one settings files p rs reports (subst (λ (x : Permutation). Tells settings files x rs) e are) tells in
      let i : In text xs = subst (λ (zs : List Report). In text (map (report_text files) zs)) same printed in
      let n : p.name ≡ name = ap (λ (x : Permutation). x.name) (sym e) ∙ named in
      kept_from ps (with_breaks before p.name xs) told rest name text (subst (λ m. Pair (with_breaks before p.name xs) m text) n (new_pairs before p.name xs text i))
  had_told one (p ∷ ps) before told (reports, tells, rest) name text q (inr i) named rs are printed =
      had_told one ps (with_breaks before p.name (map (report_text files) reports)) told rest name text q i named rs are printed

-- The laws.

told_of : (told : List ToldBreak) (name text : List ℕ) → Pair told name text → IsToldOf told name text
told_of told name text (t, i, reads, named) = record { entry = t; there = i; reads = reads; named = named }

none_first : (settings : Settings) (files : FilesData) (ps : List Permutation) (name text : List ℕ) → Pair [] name text ⊎ IsHad settings files ps name text → IsHad settings files ps name text
none_first settings files ps name text (inl (t, i, reads, held)) = absurd i
none_first settings files ps name text (inr h) = h

pub told_are_had : OneTelling → ToldAreHad
told_are_had one settings files perms told from name text = (
  λ t. none_first settings files perms name text (old_from settings files perms [] told from name text (t.entry, t.there, t.reads, t.named)),
  λ h. told_of told name text (had_told settings files one perms [] told from name text h.perm h.among h.named h.reports h.tells h.printed),
)

pub told_differ : ToldDiffer
told_differ settings files perms told from = apart_from settings files perms [] told from tt
