-- Files that are put beside those seen, by their names.
use Rattle.std.proofs.Common.{◌≡◌, ℕ, ◌+◌, ◌≤◌, Bool, true, false, cond, List, [], ◌∷◌, ◌++◌, ◌⊎◌, inl, inr, Option, Some, None, refl, sym, ap, ◌∙◌, subst, arith}
use Rattle.std.proofs.lemmas.Map.Text.{is_eq-slice_cmp}
use Rattle.std.proofs.lemmas.Slice.Eq.{bytes_eq-Decides}
use Rattle.std.specs.Cmp.Lexicographic.{nat_list_cmp_total}
use Rattle.std.specs.FinMap as finite
use Rattle.std.specs.List.{flat_map}
use Rattle.std.specs.Ordering.{eq_by_cmp}
use Rattle.ring.specs.Lists.{In}
use Rattle.ring.proofs.Ends.{in_cases, in_left}
use Rattle.tk_io.specs.FilesData.{FilesData}
use Rattle.tk_io.specs.Order.{text_cmp}
use Rattle.tk_io.proofs.TextMaps.{text_cmp-IsAntisymmetric}
use Rattle.permutations.specs.Permutation.{TokenSource, file, inline, Permutation}
use Rattle.file_plan.specs.InUse.{resolver_path, source_names, names_in, file_names, beside, with_named, in_use_by, resolver_in, files_in_use, AreAmong}
use Rattle.file_plan.specs.Laws.{IsSourceFile, IsWanted, WantedAreInUse}

pub some_none : {A : Type 0} {x : A} → Some x ≡ None → ⊥
some_none e = cc

pub some_is : {A : Type 0} {x y : A} → Some x ≡ Some y → x ≡ y
some_is e = cc

-- Names, where they are equal.

pub is_key : (q name : List ℕ) → eq_by_cmp text_cmp q name ≡ true → q ≡ name
is_key q name e = (bytes_eq-Decides q name).0 (sym (is_eq-slice_cmp q name) ∙ e)

pub key_is : (q : List ℕ) → eq_by_cmp text_cmp q q ≡ true
key_is q = is_eq-slice_cmp q q ∙ (bytes_eq-Decides q q).1 refl

-- One file beside those seen.

-- a text that stands there is that of the file, or stood there before
beside_found : (seen : FilesData) (name : List ℕ) (o : Option (List ℕ)) (q text : List ℕ) → finite.get (beside seen name o) q ≡ Some text
    → (finite.get seen q ≡ Some text) ⊎ ((q ≡ name) × (o ≡ Some text))
beside_found seen name None q text e = inl e
beside_found seen name (Some found) q text e = at (eq_by_cmp text_cmp q name) refl (sym (finite.get-insert nat_list_cmp_total seen name found q) ∙ e)
  where
    at : (b : Bool) → eq_by_cmp text_cmp q name ≡ b → cond b (Some found) (finite.get seen q) ≡ Some text → (finite.get seen q ≡ Some text) ⊎ ((q ≡ name) × (Some found ≡ Some text))
    at true is f = inr (is_key q name is, f)
    at false is f = inl f

-- the file stands there
beside_added : (seen : FilesData) (name : List ℕ) (o : Option (List ℕ)) (text : List ℕ) → o ≡ Some text → finite.get (beside seen name o) name ≡ Some text
beside_added seen name None text e = absurd (some_none (sym e))
beside_added seen name (Some found) text e =
    finite.get-insert nat_list_cmp_total seen name found name ∙ (ap (λ b. cond b (Some found) (finite.get seen name)) (key_is name) ∙ e)

-- what stood there stands there, where the file has the text that stood there
beside_kept : (seen : FilesData) (name : List ℕ) (o : Option (List ℕ)) (q text : List ℕ) → ((t : List ℕ) → finite.get seen name ≡ Some t → o ≡ Some t)
    → finite.get seen q ≡ Some text → finite.get (beside seen name o) q ≡ Some text
beside_kept seen name None q text same e = e
beside_kept seen name (Some found) q text same e = finite.get-insert nat_list_cmp_total seen name found q ∙ at (eq_by_cmp text_cmp q name) refl
  where
    at : (b : Bool) → eq_by_cmp text_cmp q name ≡ b → cond b (Some found) (finite.get seen q) ≡ Some text
    at true is = same text (ap (λ p. finite.get seen p) (sym (is_key q name is)) ∙ e)
    at false is = e

-- a file that was seen changes nothing
beside_seen : (seen : FilesData) (name text : List ℕ) → finite.get seen name ≡ Some text → finite.insert seen name text ≡ seen
beside_seen seen name text e = finite.same_map nat_list_cmp_total text_cmp-IsAntisymmetric (finite.insert seen name text) seen
    (λ q. finite.get-insert nat_list_cmp_total seen name text q ∙ at q (eq_by_cmp text_cmp q name) refl)
  where
    at : (q : List ℕ) (b : Bool) → eq_by_cmp text_cmp q name ≡ b → cond b (Some text) (finite.get seen q) ≡ finite.get seen q
    at q true is = sym (ap (λ p. finite.get seen p) (is_key q name is) ∙ e)
    at q false is = refl

beside_no_fewer : (seen : FilesData) (name : List ℕ) (o : Option (List ℕ)) → finite.len seen ≤ finite.len (beside seen name o)
beside_no_fewer seen name None = omega arith
beside_no_fewer seen name (Some found) = at (finite.contains_key seen name) (finite.len-insert nat_list_cmp_total seen name found)
  where
    at : (b : Bool) → finite.len (finite.insert seen name found) ≡ cond b (finite.len seen) (finite.len seen + 1) → finite.len seen ≤ finite.len (finite.insert seen name found)
    at true e = omega (arith, e)
    at false e = omega (arith, e)

module _ (files : FilesData) where
  pub named_absent : (seen : FilesData) (name : List ℕ) → finite.get files name ≡ None → with_named files seen name ≡ seen
  named_absent seen name e = ap (beside seen name) e

  pub named_seen : (seen : FilesData) (name text : List ℕ) → finite.get files name ≡ Some text → finite.get seen name ≡ Some text → with_named files seen name ≡ seen
  named_seen seen name text e s = ap (beside seen name) e ∙ beside_seen seen name text s

  pub named_new : (seen : FilesData) (name text : List ℕ) → finite.get files name ≡ Some text → with_named files seen name ≡ finite.insert seen name text
  named_new seen name text e = ap (beside seen name) e

  pub among_none : AreAmong finite.empty files
  among_none q text e = absurd (some_none (sym e ∙ finite.get-empty text_cmp q))

  pub among_named : (seen : FilesData) (name : List ℕ) → AreAmong seen files → AreAmong (with_named files seen name) files
  among_named seen name among q text e = at (beside_found seen name (finite.get files name) q text e)
    where
      at : (finite.get seen q ≡ Some text) ⊎ ((q ≡ name) × (finite.get files name ≡ Some text)) → finite.get files q ≡ Some text
      at (inl s) = among q text s
      at (inr (is, f)) = ap (λ p. finite.get files p) is ∙ f

  pub among_all : (names : List (List ℕ)) (seen : FilesData) → AreAmong seen files → AreAmong (in_use_by files seen names) files
  among_all [] seen among = among
  among_all (name ∷ names) seen among = among_all names (with_named files seen name) (among_named seen name among)

  pub no_fewer_named : (seen : FilesData) (name : List ℕ) → finite.len seen ≤ finite.len (with_named files seen name)
  no_fewer_named seen name = beside_no_fewer seen name (finite.get files name)

  pub no_fewer : (names : List (List ℕ)) (seen : FilesData) → finite.len seen ≤ finite.len (in_use_by files seen names)
  no_fewer [] seen = omega arith
  no_fewer (name ∷ names) seen = omega (arith, no_fewer_named seen name, no_fewer names (with_named files seen name))

  pub in_use_append : (names more : List (List ℕ)) (seen : FilesData) → in_use_by files seen (names ++ more) ≡ in_use_by files (in_use_by files seen names) more
  in_use_append [] more seen = refl
  in_use_append (name ∷ names) more seen = in_use_append names more (with_named files seen name)

  -- Where a file stands.

  kept : (names : List (List ℕ)) (seen : FilesData) (q text : List ℕ) → AreAmong seen files → finite.get seen q ≡ Some text → finite.get (in_use_by files seen names) q ≡ Some text
  kept [] seen q text among e = e
  kept (name ∷ names) seen q text among e =
      kept names (with_named files seen name) q text (among_named seen name among)
      (beside_kept seen name (finite.get files name) q text (λ t s. among name t s) e)

  named_in_use : (names : List (List ℕ)) (seen : FilesData) (q text : List ℕ) → AreAmong seen files → In q names → finite.get files q ≡ Some text → finite.get (in_use_by files seen names) q ≡ Some text
  named_in_use [] seen q text among i e = absurd i
  named_in_use (name ∷ names) seen q text among (inl is) e =
      kept names (with_named files seen name) q text (among_named seen name among)
      (subst (λ (p : List ℕ). finite.get (with_named files seen name) p ≡ Some text) (sym is)
      (beside_added seen name (finite.get files name) text (ap (λ p. finite.get files p) (sym is) ∙ e)))
  named_in_use (name ∷ names) seen q text among (inr i) e = named_in_use names (with_named files seen name) q text (among_named seen name among) i e

  found : (names : List (List ℕ)) (seen : FilesData) (q text : List ℕ) → finite.get (in_use_by files seen names) q ≡ Some text → (finite.get seen q ≡ Some text) ⊎ In q names
  found [] seen q text e = inl e
  found (name ∷ names) seen q text e = at (found names (with_named files seen name) q text e)
    where
      before : (finite.get seen q ≡ Some text) ⊎ ((q ≡ name) × (finite.get files name ≡ Some text)) → (finite.get seen q ≡ Some text) ⊎ In q (name ∷ names)
      before (inl s) = inl s
      before (inr (is, f)) = inr (inl is)

      at : (finite.get (with_named files seen name) q ≡ Some text) ⊎ In q names → (finite.get seen q ≡ Some text) ⊎ In q (name ∷ names)
      at (inl s) = before (beside_found seen name (finite.get files name) q text s)
      at (inr i) = inr (inr i)

-- Names of sources.

in_right : {N : Type 0} (xs ys : List N) (x : N) → In x ys → In x (xs ++ ys)
in_right [] ys x i = i
in_right (y ∷ xs) ys x i = inr (in_right xs ys x i)

module _ {A B : Type 0} (f : A → List B) where
  in_flat : (xs : List A) (a : A) (b : B) → In a xs → In b (f a) → In b (flat_map f xs)
  in_flat [] a b i j = absurd i
  in_flat (x ∷ xs) a b (inl is) j = in_left (f x) (flat_map f xs) b (subst (λ (y : A). In b (f y)) is j)
  in_flat (x ∷ xs) a b (inr i) j = in_right (f x) (flat_map f xs) b (in_flat xs a b i j)

  from_flat : (xs : List A) (b : B) → In b (flat_map f xs) → (a : A) × In a xs × In b (f a)
  from_flat [] b i = absurd i
  from_flat (x ∷ xs) b i = at (λ j. from_flat xs b j) (in_cases (f x) (flat_map f xs) b i)
    where
      at : (In b (flat_map f xs) → (a : A) × In a xs × In b (f a)) → In b (f x) ⊎ In b (flat_map f xs) → (a : A) × In a (x ∷ xs) × In b (f a)
      at rest (inl j) = (x, inl refl, j)
      at rest (inr j) = let (a, k, l) = rest j in (a, inr k, l)

of_source : (path : List ℕ) (s : TokenSource) (ss : List TokenSource) → In s ss → In path (source_names s) → (start : ℕ) × (end : ℕ) × In (file path start end) ss
of_source path (file name start end) ss i (inl is) = (start, end, subst (λ (n : List ℕ). In (file n start end) ss) (sym is) i)
of_source path (file name start end) ss i (inr none) = absurd none
of_source path (inline n) ss i none = absurd none

named_from : (perms : List Permutation) (path : List ℕ) → In path (file_names perms) → IsSourceFile perms path
named_from perms path i =
    let (p, among, j) = from_flat (λ (x : Permutation). names_in x.sources) perms path i in
    let (s, k, l) = from_flat source_names p.sources path j in
    let (start, end, source) = of_source path s p.sources k l in
    record { perm = p; among = among; start = start; end = end; source = source }

from_named : (perms : List Permutation) (path : List ℕ) → IsSourceFile perms path → In path (file_names perms)
from_named perms path n =
    in_flat (λ (x : Permutation). names_in x.sources) perms n.perm path n.among
    (in_flat source_names n.perm.sources (file path n.start n.end) path n.source (inl refl))

-- Files in use.

pub in_use_among : (files : FilesData) (perms : List Permutation) → AreAmong (files_in_use files perms) files
in_use_among files perms = among_all files (file_names perms) (resolver_in files) (among_named files finite.empty resolver_path (among_none files))

pub wanted_are_in_use : WantedAreInUse
wanted_are_in_use files perms path text = record {
  there = in_use_among files perms path text;
  wanted = λ e. at (found files (file_names perms) (resolver_in files) path text e);
  all = λ e w. wanted_there e w;
}
  where
    resolver_among : AreAmong (resolver_in files) files
    resolver_among = among_named files finite.empty resolver_path (among_none files)

    resolver_is : (finite.get {R = text_cmp} finite.empty path ≡ Some text) ⊎ ((path ≡ resolver_path) × (finite.get files resolver_path ≡ Some text)) → path ≡ resolver_path
    resolver_is (inl s) = absurd (some_none (sym s ∙ finite.get-empty text_cmp path))
    resolver_is (inr (is, f)) = is

    at : (finite.get (resolver_in files) path ≡ Some text) ⊎ In path (file_names perms) → IsWanted perms path
    at (inl s) = inl (resolver_is (beside_found finite.empty resolver_path (finite.get files resolver_path) path text s))
    at (inr i) = inr (named_from perms path i)

    wanted_there : finite.get files path ≡ Some text → IsWanted perms path → finite.get (files_in_use files perms) path ≡ Some text
    wanted_there e (inl is) =
        kept files (file_names perms) (resolver_in files) path text resolver_among
        (subst (λ (p : List ℕ). finite.get (resolver_in files) p ≡ Some text) (sym is)
        (beside_added finite.empty resolver_path (finite.get files resolver_path) text (ap (λ p. finite.get files p) (sym is) ∙ e)))
    wanted_there e (inr n) = named_in_use files (file_names perms) (resolver_in files) path text resolver_among (from_named perms path n) e
