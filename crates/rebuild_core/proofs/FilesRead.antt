-- The files in use that are read: the resolver document, and the others.
use Rattle.std.proofs.Common.{◌≡◌, ◌≢◌, inl, inr, ℕ, ◌+◌, ◌≤◌, Bool, true, false, ◌&&◌, T, Ordering, Less, Equal, Greater, List, [], ◌∷◌, Option, Some, None, refl, sym, ap, subst, ◌∙◌, arith}
use Rattle.std.specs.Cmp.{tied_itself}
use Rattle.std.specs.Cmp.Lexicographic.{nat_list_cmp_total}
use Rattle.std.specs.FinMap as finite
use Rattle.std.specs.FinMap.{nat_cmp-IsAntisymmetric, slice_cmp-IsAntisymmetric}
use Rattle.std.specs.FinMap.Entries.{is_sorted, below_all}
use Rattle.std.specs.Ordering.{is_lt}
use Rattle.ring.specs.Lists.{In}
use Rattle.tk_io.specs.FilesData.{FilesData}
use Rattle.tk_io.specs.Order.{text_cmp}
use Rattle.file_plan.specs.InUse.{resolver_path}
use Rattle.tree_changes.proofs.MapEntries.{entry_found, entry_there}
use Rattle.rebuild_core.specs.Sums.{IsSum}
use Rattle.rebuild_core.specs.Work.{ReadBeside}
use Rattle.rebuild_core.specs.inner.Reading.{TextAt, ReadsOne, ReadsFirst, ReadsOther, ReadOthers}
use Rattle.rebuild_core.proofs.Decided.{Decided, same_texts, same_options}
use Rattle.rebuild_core.proofs.Summing.{one_unless, each_unless, one_sum, each_sum, sum_so}

first : (a b : Bool) → T (a && b) → T a
first true b p = tt
first false b p = p

second : (a b : Bool) → T (a && b) → T b
second true b p = p
second false b p = absurd p

not_less : (o : Ordering) → o ≡ Equal → T (is_lt o) → ⊥
not_less Less e p = cc
not_less Equal e p = p
not_less Greater e p = p

some_none : {X : Type 0} {x : X} → Some x ≡ None → ⊥
some_none e = cc

-- a key below those of a list is none of them
none_of : (q t : List ℕ) (es : List TextAt) → T (below_all text_cmp q es) → In (q, t) es → ⊥
none_of q t [] h i = i
none_of q t (e ∷ es) h (inl is) =
    not_less (text_cmp q e.0) (ap (λ (x : TextAt). text_cmp q x.0) (sym is) ∙ tied_itself nat_list_cmp_total q) (first (is_lt (text_cmp q e.0)) (below_all text_cmp q es) h)
none_of q t (e ∷ es) h (inr i) = none_of q t es (second (is_lt (text_cmp q e.0)) (below_all text_cmp q es) h) i

module _ (old : FilesData) where
  one_few : (file : TextAt) (n : ℕ) → ReadsOne old file n → n ≤ 1
  one_few file n (inl (same, e)) = omega (arith, e)
  one_few file n (inr (other, e)) = omega (arith, e)

  pub reads_few : (file : TextAt) (n : ℕ) → ReadsOther old file n → n ≤ 1
  reads_few file n (inl (is, e)) = omega (arith, e)
  reads_few file n (inr (is, reads)) = one_few file n reads

  pub reads_other : (file : TextAt) (n : ℕ) → file.0 ≢ resolver_path → ReadsOther old file n → ReadsOne old file n
  reads_other file n other (inl (is, e)) = absurd (other is)
  reads_other file n other (inr (is, reads)) = reads

  no_first : (es : List TextAt) (n : ℕ) → ((t : List ℕ) → In (resolver_path, t) es → ⊥) → IsSum (ReadsOther old) es n → IsSum (ReadsOne old) es n
  no_first es n none is = sum_so (ReadsOther old) (ReadsOne old) es n other is
    where
      other : (file : TextAt) (k : ℕ) → In file es → ReadsOther old file k → ReadsOne old file k
      other file k i (inl (is, e)) = absurd (none file.1 (subst (λ (p : List ℕ). In (p, file.1) es) is i))
      other file k i (inr (is, reads)) = reads

  with_first : (es : List TextAt) (t : List ℕ) (r m : ℕ) → T (is_sorted text_cmp es) → In (resolver_path, t) es → ReadsOne old (resolver_path, t) r
      → IsSum (ReadsOther old) es m → IsSum (ReadsOne old) es (r + m)
  with_first [] t r m sorted i reads is = absurd i
  with_first (e ∷ es) t r m sorted (inl is) reads (a, b, here, later, sum) = go here
    where
      below : T (below_all text_cmp e.0 es)
      below = first (below_all text_cmp e.0 es) (is_sorted text_cmp es) sorted

      key : e.0 ≡ resolver_path
      key = ap (λ (x : TextAt). x.0) (sym is)

      rest : IsSum (ReadsOne old) es b
      rest = no_first es b (λ s i. none_of e.0 s es below (subst (λ (p : List ℕ). In (p, s) es) (sym key) i)) later

      go : ReadsOther old e a → IsSum (ReadsOne old) (e ∷ es) (r + m)
      go (inl (is_first, zero)) = (r, b, subst (λ (x : TextAt). ReadsOne old x r) is reads, rest, omega (arith, sum, zero))
      go (inr (is_other, reads_too)) = absurd (is_other key)
  with_first (e ∷ es) t r m sorted (inr i) reads (a, b, here, later, sum) =
      go (with_first es t r b (second (below_all text_cmp e.0 es) (is_sorted text_cmp es) sorted) i reads later) here
    where
      below : T (below_all text_cmp e.0 es)
      below = first (below_all text_cmp e.0 es) (is_sorted text_cmp es) sorted

      go : IsSum (ReadsOne old) es (r + b) → ReadsOther old e a → IsSum (ReadsOne old) (e ∷ es) (r + m)
      go rest (inl (is_first, zero)) = absurd (none_of e.0 t es below (subst (λ (p : List ℕ). In (p, t) es) (sym is_first) i))
      go rest (inr (is_other, reads_too)) = (a, r + b, reads_too, rest, omega (arith, sum))

  -- the resolver document and the others are all
  pub joined : (used : FilesData) (o : Option (List ℕ)) (r m : ℕ) → finite.get used resolver_path ≡ o → ReadsFirst old o r → ReadOthers old used m → ReadBeside old used (r + m)
  joined used None r m there none is =
      subst (ReadBeside old used) (omega (arith, none))
      (no_first (finite.entries used) m
      (λ t i. some_none (sym (entry_found nat_list_cmp_total (slice_cmp-IsAntisymmetric nat_cmp-IsAntisymmetric) used resolver_path t i) ∙ there)) is)
  joined used (Some t) r m there reads is =
      with_first (finite.entries used) t r m (finite.entries_sorted used)
      (entry_there nat_list_cmp_total (slice_cmp-IsAntisymmetric nat_cmp-IsAntisymmetric) used resolver_path t there) reads is

  unless_one : (file : TextAt) → (n : ℕ) × ReadsOne old file n
  unless_one file = each_unless (finite.get old file.0 ≡ Some file.1) (same_options same_texts (finite.get old file.0) (Some file.1))

  other_one : (file : TextAt) → (n : ℕ) × ReadsOther old file n
  other_one file = go (same_texts file.0 resolver_path)
    where
      go : Decided (file.0 ≡ resolver_path) → (n : ℕ) × ReadsOther old file n
      go (inl is) = (0, inl (is, refl))
      go (inr is) = let (n, reads) = unless_one file in (n, inr (is, reads))

  pub first_one : (o : Option (List ℕ)) → (n : ℕ) × ReadsFirst old o n
  first_one None = (0, refl)
  first_one (Some t) = unless_one (resolver_path, t)

  -- .. and apart again
  pub parted : (used : FilesData) (o : Option (List ℕ)) (n r : ℕ) → finite.get used resolver_path ≡ o → ReadBeside old used n → ReadsFirst old o r
      → (m : ℕ) × ReadOthers old used m × (n ≡ r + m)
  parted used o n r there is reads =
      let (m, others) = each_sum (ReadsOther old) other_one (finite.entries used) in
      (m, others, one_sum (ReadsOne old) (λ file a b. one_unless (finite.get old file.0 ≡ Some file.1) a b) (finite.entries used) n (r + m) is (joined used o r m there reads others))
