-- The outputs of each permutation stand at paths of its own, and at no other path anything stands.
use Rattle.std.proofs.Common.{◌≡◌, ℕ, Bool, true, false, cond, List, [], ◌∷◌, ◌++◌, Option, Some, inl, inr, refl, sym, ap, subst, ◌∙◌, codes, map}
use Rattle.std.specs.Cmp.{tied_itself as tied_itself_by}
use Rattle.std.specs.Cmp.Lexicographic.{nat_list_cmp_total}
use Rattle.std.specs.FinMap as finite
use Rattle.std.specs.FinMap.{slice_cmp-IsAntisymmetric, nat_cmp-IsAntisymmetric}
use Rattle.std.specs.List.{AllByRecursion}
use Rattle.std.specs.Ordering.{eq_by_cmp, is_eq}
use Rattle.std.specs.Prelude.{◌==◌, ◌⊎◌, if◌then◌else◌}
use Rattle.std.specs.declared.cmp.Ordering.{Ordering}
use Rattle.std.specs.declared.cmp.Ordering.TheVariants.{Less, Equal, Greater}
use Rattle.ring.specs.Lists.{In, AreApart}
use Rattle.tk_io.specs.FilesData.{FilesData}
use Rattle.tk_io.specs.Order.{text_cmp}
use Rattle.permutations.specs.Permutation.{Permutation}
use Rattle.transforms.specs.Config.{Settings}
use Rattle.refusals.specs.Refusal.{Report}
use Rattle.token_cells.specs.Breaks.{verdict}
use Rattle.token_cells.specs.TokenCell.{TokenCell}
use Rattle.build_plain.specs.Breaks.{Finds}
use Rattle.build_plain.specs.Denotes.{IsOfOne, names_by}
use Rattle.build_plain.specs.Out.{Output, perm_outputs, put_beside, GivesFrom}

-- Paths are split at their last '/'.

abbrev has_slash : List ℕ → Bool
has_slash [] = false
has_slash (x ∷ xs) = if x == 47 then true else has_slash xs

slash_or : (b r : Bool) → r ≡ true → (if b then true else r) ≡ true
slash_or true r e = refl
slash_or false r e = e

has_one : (xs a : List ℕ) → has_slash (xs ++ 47 ∷ a) ≡ true
has_one [] a = refl
has_one (x ∷ xs) a = slash_or (x == 47) (has_slash (xs ++ 47 ∷ a)) (has_one xs a)

true_false : (b : Bool) → b ≡ true → b ≡ false → ⊥
true_false true p q = cc
true_false false p q = cc

not_behind : (xs a b : List ℕ) → has_slash a ≡ false → a ≡ xs ++ 47 ∷ b → ⊥
not_behind xs a b none e = true_false (has_slash a) (ap has_slash e ∙ has_one xs b) none

tail_same : (x y : ℕ) (xs ys : List ℕ) → x ∷ xs ≡ y ∷ ys → xs ≡ ys
tail_same x y xs ys e = cc

head_same : (x y : ℕ) (xs ys zs : List ℕ) (ws : List ℕ) → x ∷ zs ≡ y ∷ ws → xs ≡ ys → x ∷ xs ≡ y ∷ ys
head_same x y xs ys zs ws e same = cc

fronts_same : (xs ys a b : List ℕ) → has_slash a ≡ false → has_slash b ≡ false → xs ++ 47 ∷ a ≡ ys ++ 47 ∷ b → xs ≡ ys
fronts_same [] [] a b none also e = refl
fronts_same [] (y ∷ ys) a b none also e = absurd (not_behind ys a b none (tail_same 47 y a (ys ++ 47 ∷ b) e))
fronts_same (x ∷ xs) [] a b none also e = absurd (not_behind xs b a also (sym (tail_same x 47 (xs ++ 47 ∷ a) b e)))
fronts_same (x ∷ xs) (y ∷ ys) a b none also e =
    head_same x y xs ys (xs ++ 47 ∷ a) (ys ++ 47 ∷ b) e (fronts_same xs ys a b none also (tail_same x y (xs ++ 47 ∷ a) (ys ++ 47 ∷ b) e))

-- a path under a name
record IsUnder (name path : List ℕ) : Type 0 where
  last : List ℕ
  plain : has_slash last ≡ false
  joined : path ≡ name ++ 47 ∷ last

under_one : (m n path other : List ℕ) → IsUnder m path → IsUnder n other → path ≡ other → m ≡ n
under_one m n path other u v e = fronts_same m n u.last v.last u.plain v.plain (sym u.joined ∙ (e ∙ v.joined))

-- Entries put into a map.

same_path : (o : Ordering) → is_eq o ≡ true → o ≡ Equal
same_path Less h = cc
same_path Equal h = refl
same_path Greater h = cc

tied_same : (j k : List ℕ) → eq_by_cmp text_cmp j k ≡ true → j ≡ k
tied_same j k e = slice_cmp-IsAntisymmetric nat_cmp-IsAntisymmetric j k (same_path (text_cmp j k) e)

get_put : (m : FilesData) (k v q : List ℕ) → finite.get (finite.insert m k v) q ≡ cond (eq_by_cmp text_cmp q k) (Some v) (finite.get m q)
get_put m k v q = finite.get-insert nat_list_cmp_total m k v q

-- at another path
other_at : (b : Bool) (q k : List ℕ) (x y : Option (List ℕ)) → eq_by_cmp text_cmp q k ≡ b → (q ≡ k → ⊥) → cond b x y ≡ y
other_at true q k x y e apart = absurd (apart (tied_same q k e))
other_at false q k x y e apart = refl

get_other : (m : FilesData) (k v q : List ℕ) → (q ≡ k → ⊥) → finite.get (finite.insert m k v) q ≡ finite.get m q
get_other m k v q apart = get_put m k v q ∙ other_at (eq_by_cmp text_cmp q k) q k (Some v) (finite.get m q) refl apart

-- at its own path
tied_itself : (q : List ℕ) → eq_by_cmp text_cmp q q ≡ true
tied_itself q = ap is_eq (tied_itself_by nat_list_cmp_total q)

get_own : (m : FilesData) (k v : List ℕ) → finite.get (finite.insert m k v) k ≡ Some v
get_own m k v = get_put m k v k ∙ ap (λ b. cond b (Some v) (finite.get m k)) (tied_itself k)

-- it is the one that is put, or was there
either_at : (b : Bool) (q k v : List ℕ) (y : Option (List ℕ)) (bytes : List ℕ) → eq_by_cmp text_cmp q k ≡ b → cond b (Some v) y ≡ Some bytes → (q ≡ k) ⊎ (y ≡ Some bytes)
either_at true q k v y bytes e is = inl (tied_same q k e)
either_at false q k v y bytes e is = inr is

-- Outputs put beside others.

abbrev AreApartFrom : List ℕ → List Output → Type 0
AreApartFrom path os = AllByRecursion (λ o. path ≡ o.0 → ⊥) os

-- no two have one path
abbrev HaveOwnPaths : List Output → Type 0
HaveOwnPaths [] = Unit {0}
HaveOwnPaths (o ∷ os) = AreApartFrom o.0 os × HaveOwnPaths os

put_other : (before : FilesData) (os : List Output) (path : List ℕ) → AreApartFrom path os → finite.get (put_beside before os) path ≡ finite.get before path
put_other before [] path apart = refl
put_other before (o ∷ os) path apart = put_other (finite.insert before o.0 o.1) os path apart.1 ∙ get_other before o.0 o.1 path apart.0

put_there : (before : FilesData) (os : List Output) (o : Output) → HaveOwnPaths os → In o os → finite.get (put_beside before os) o.0 ≡ Some o.1
put_there before [] o own i = absurd i
put_there before (x ∷ xs) o own (inl same) =
    subst (λ (z : Output). finite.get (put_beside (finite.insert before x.0 x.1) xs) z.0 ≡ Some z.1) (sym same)
    (put_other (finite.insert before x.0 x.1) xs x.0 own.0 ∙ get_own before x.0 x.1)
put_there before (x ∷ xs) o own (inr i) = put_there (finite.insert before x.0 x.1) xs o own.1 i

-- one of them has the path
record HasPath (path : List ℕ) (os : List Output) : Type 0 where
  one : Output
  among : In one os
  at : path ≡ one.0

later_path : (path : List ℕ) (o : Output) (os : List Output) → HasPath path os → HasPath path (o ∷ os)
later_path path o os h = record { one = h.one; among = inr h.among; at = h.at }

put_only : (before : FilesData) (os : List Output) (path bytes : List ℕ) → finite.get (put_beside before os) path ≡ Some bytes → HasPath path os ⊎ (finite.get before path ≡ Some bytes)
put_only before [] path bytes is = inr is
put_only before (o ∷ os) path bytes is =
    elim (put_only (finite.insert before o.0 o.1) os path bytes is) as (λ _. HasPath path (o ∷ os) ⊎ (finite.get before path ≡ Some bytes)) [
      | inl h ↦ inl (later_path path o os h)
      | inr was ↦ elim (either_at (eq_by_cmp text_cmp path o.0) path o.0 o.1 (finite.get before path) bytes refl (sym (get_put before o.0 o.1 path) ∙ was)) as (λ _. HasPath path (o ∷ os) ⊎ (finite.get before path ≡ Some bytes)) [
        | inl same ↦ inl (record { one = o; among = inl refl; at = same })
        | inr there ↦ inr there
      ]
    ]

-- The outputs of a permutation.

abbrev AreUnder : List ℕ → List Output → Type 0
AreUnder name os = AllByRecursion (λ o. IsUnder name o.0) os

module _ (files : FilesData) (name : List ℕ) (cells : List TokenCell) where
  are_under : (breaks : List Report) → AreUnder name (perm_outputs files name cells (verdict breaks))
  are_under [] = (
    record { last = codes "Tokens.swift"; plain = refl; joined = refl },
    (record { last = codes "tokens.css"; plain = refl; joined = refl }, (record { last = codes "tokens.json"; plain = refl; joined = refl }, (record { last = codes "tokens.xml"; plain = refl; joined = refl }, tt))),
  )
  are_under (r ∷ rs) = (record { last = codes "REFUSED"; plain = refl; joined = refl }, tt)

  behind_same : (xs a b : List ℕ) → xs ++ a ≡ xs ++ b → a ≡ b
  behind_same [] a b e = e
  behind_same (x ∷ xs) a b e = behind_same xs a b (tail_same x x (xs ++ a) (xs ++ b) e)

  -- the test of equality of two endings is false
  differ : (a b : List ℕ) → eq_by_cmp text_cmp a b ≡ false → name ++ a ≡ name ++ b → ⊥
  differ a b apart e = true_false (eq_by_cmp text_cmp a b) (ap (λ z. eq_by_cmp text_cmp a z) (sym (behind_same name a b e)) ∙ tied_itself a) apart

  own_paths : (breaks : List Report) → HaveOwnPaths (perm_outputs files name cells (verdict breaks))
  own_paths [] = (
    (differ (codes "/Tokens.swift") (codes "/tokens.css") refl, (differ (codes "/Tokens.swift") (codes "/tokens.json") refl, (differ (codes "/Tokens.swift") (codes "/tokens.xml") refl, tt))),
    (
      (differ (codes "/tokens.css") (codes "/tokens.json") refl, (differ (codes "/tokens.css") (codes "/tokens.xml") refl, tt)),
      ((differ (codes "/tokens.json") (codes "/tokens.xml") refl, tt), (tt, tt)),
    ),
  )
  own_paths (r ∷ rs) = (tt, tt)

  -- the paths are the name with one of the endings
  record HasEnding (path : List ℕ) (breaks : List Report) : Type 0 where
    ending : List ℕ
    among : In ending (names_by breaks)
    joined : path ≡ name ++ ending

  ended : (breaks : List Report) (o : Output) → In o (perm_outputs files name cells (verdict breaks)) → HasEnding o.0 breaks
  ended [] o (inl e) = record { ending = codes "/Tokens.swift"; among = inl refl; joined = ap (λ (x : Output). x.0) e }
  ended [] o (inr (inl e)) = record { ending = codes "/tokens.css"; among = inr (inl refl); joined = ap (λ (x : Output). x.0) e }
  ended [] o (inr (inr (inl e))) = record { ending = codes "/tokens.json"; among = inr (inr (inl refl)); joined = ap (λ (x : Output). x.0) e }
  ended [] o (inr (inr (inr (inl e)))) = record { ending = codes "/tokens.xml"; among = inr (inr (inr (inl refl))); joined = ap (λ (x : Output). x.0) e }
  ended [] o (inr (inr (inr (inr i)))) = absurd i
  ended (r ∷ rs) o (inl e) = record { ending = codes "/REFUSED"; among = inl refl; joined = ap (λ (x : Output). x.0) e }
  ended (r ∷ rs) o (inr i) = absurd i

-- a path under one name is none of the outputs under another
apart_under : (m n path : List ℕ) (os : List Output) → IsUnder m path → AreUnder n os → (m ≡ n → ⊥) → AreApartFrom path os
apart_under m n path [] u all other = tt
apart_under m n path (o ∷ os) u all other = ((λ e. other (under_one m n path o.0 u all.0 e)), apart_under m n path os u all.1 other)

-- What a permutation comes to, with its outputs.
pub record Stands (settings : Settings) (files : FilesData) (p : Permutation) (out : FilesData) : Type 0 where
  pub cells : List TokenCell
  pub breaks : List Report
  pub found : Finds settings files p cells breaks
  pub there : (o : Output) → In o (perm_outputs files p.name cells (verdict breaks)) → finite.get out o.0 ≡ Some o.1

under_each : (name : List ℕ) (os : List Output) (o : Output) → AreUnder name os → In o os → IsUnder name o.0
under_each name [] o all i = absurd i
under_each name (x ∷ xs) o all (inl same) = subst (λ (z : Output). IsUnder name z.0) (sym same) all.0
under_each name (x ∷ xs) o all (inr i) = under_each name xs o all.1 i

module _ (settings : Settings) (files : FilesData) where
  abbrev names : List Permutation → List (List ℕ)
  names ps = map (λ (p : Permutation). p.name) ps

  -- under a name that no other has the outputs stay
  stays : (ps : List Permutation) (before out : FilesData) (name path : List ℕ) → GivesFrom settings files ps before out → IsUnder name path → (In name (names ps) → ⊥)
      → finite.get out path ≡ finite.get before path
  stays [] before out name path given u none = ap (λ (m : FilesData). finite.get m path) given
  stays (p ∷ ps) before out name path (next, (cells, breaks, found, made), rest) u none =
      stays ps next out name path rest u (λ i. none (inr i))
      ∙ (ap (λ (m : FilesData). finite.get m path) made
      ∙ put_other before (perm_outputs files p.name cells (verdict breaks)) path
      (apart_under name p.name path (perm_outputs files p.name cells (verdict breaks)) u (are_under files p.name cells breaks) (λ e. none (inl e))))

  pub each_stands : (ps : List Permutation) (before out : FilesData) → GivesFrom settings files ps before out → AreApart (names ps) → (p : Permutation) → In p ps → Stands settings files p out
  each_stands [] before out given apart p i = absurd i
  each_stands (q ∷ qs) before out (next, (cells, breaks, found, made), rest) apart p (inl same) =
      let os = perm_outputs files q.name cells (verdict breaks) in
      subst (λ (x : Permutation). Stands settings files x out) (sym same) (record {
        cells = cells;
        breaks = breaks;
        found = found;
        there = λ o i.
            stays qs next out q.name o.0 rest (under_each q.name os o (are_under files q.name cells breaks) i) apart.0
            ∙ (ap (λ (m : FilesData). finite.get m o.0) made ∙ put_there before os o (own_paths files q.name cells breaks) i);
      })
  each_stands (q ∷ qs) before out (next, gives, rest) apart p (inr i) = each_stands qs next out rest apart.1 p i

  of_head : (p : Permutation) (ps : List Permutation) (path : List ℕ) (cells : List TokenCell) (breaks : List Report) → Finds settings files p cells breaks
      → HasPath path (perm_outputs files p.name cells (verdict breaks)) → IsOfOne settings files (p ∷ ps) path
  of_head p ps path cells breaks found h =
      let e = ended files p.name cells breaks h.one h.among in
      record {
        perm = p;
        among = inl refl;
        own = record { cells = cells; breaks = breaks; found = found; ending = e.ending; among = e.among; joined = h.at ∙ e.joined };
      }

  of_later : (p : Permutation) (ps : List Permutation) (path : List ℕ) → IsOfOne settings files ps path → IsOfOne settings files (p ∷ ps) path
  of_later p ps path h = record { perm = h.perm; among = inr h.among; own = h.own }

  pub only_own : (ps : List Permutation) (before out : FilesData) (path bytes : List ℕ) → GivesFrom settings files ps before out → finite.get out path ≡ Some bytes
      → IsOfOne settings files ps path ⊎ (finite.get before path ≡ Some bytes)
  only_own [] before out path bytes given is = inr (ap (λ (m : FilesData). finite.get m path) (sym given) ∙ is)
  only_own (p ∷ ps) before out path bytes (next, (cells, breaks, found, made), rest) is =
      elim (only_own ps next out path bytes rest is) as (λ _. IsOfOne settings files (p ∷ ps) path ⊎ (finite.get before path ≡ Some bytes)) [
        | inl h ↦ inl (of_later p ps path h)
        | inr was ↦ elim (put_only before (perm_outputs files p.name cells (verdict breaks)) path bytes (ap (λ (m : FilesData). finite.get m path) (sym made) ∙ was))
            as (λ _. IsOfOne settings files (p ∷ ps) path ⊎ (finite.get before path ≡ Some bytes)) [
              | inl h ↦ inl (of_head p ps path cells breaks found h)
              | inr there ↦ inr there
            ]
      ]
