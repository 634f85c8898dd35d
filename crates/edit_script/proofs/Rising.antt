-- Two lists of outputs gone over together: the changes at each first path, and those of all.
use Rattle.std.proofs.Common.{◌≡◌, ◌<◌, ◌≤◌, ℕ, zero, suc, ◌+◌, ◌-◌, Bool, true, false, cond, T, ◌&&◌, List, [], ◌∷◌, ◌++◌, length, drop, Option, Some, None, Ordering, Less, Equal, Greater, refl, sym, ap, subst, ◌∙◌, arith, append_assoc, append-nil, length-drop}
use Rattle.std.proofs.lemmas.List.{drop-drop}
use Rattle.std.proofs.lemmas.Option.{none-some, same_Some}
use Rattle.std.specs.Borrow.{Bor}
use Rattle.std.specs.List.{slice_get}
use Rattle.std.specs.Option.{option_map}
use Rattle.std.specs.Cmp.Lexicographic.{nat_list_cmp_total}
use Rattle.std.specs.FinMap.{find, is_sorted, IsAntisymmetric, slice_cmp-IsAntisymmetric, nat_cmp-IsAntisymmetric}
use Rattle.std.specs.FinMap.Entries.{below_all}
use Rattle.std.specs.Ordering.{is_lt, is_eq, eq_by_cmp, ordering_reverse}
use Rattle.std.specs.Str.{bytes_eq}
use Rattle.tk_io.specs.Order.{text_cmp}
use Rattle.edit_script.specs.Delta.{ChangeData, change_of}
use Rattle.edit_script.specs.inner.Merge.{Entries, AreChanges, IsStep, lent_view}

pub same_key : IsAntisymmetric text_cmp
same_key = slice_cmp-IsAntisymmetric nat_cmp-IsAntisymmetric

both : (a b : Bool) → T a → T b → T (a && b)
both true b p q = q
both false b p q = p

pub first : (a b : Bool) → T (a && b) → T a
first true b p = tt
first false b p = p

pub second : (a b : Bool) → T (a && b) → T b
second true b p = p
second false b p = absurd p

pub less : (o : Ordering) → T (is_lt o) → o ≡ Less
less Less p = refl
less Equal p = absurd p
less Greater p = absurd p

pub equal : (o : Ordering) → is_eq o ≡ true → o ≡ Equal
equal Less e = cc
equal Equal e = refl
equal Greater e = cc

-- where a path is below all keys, what is not above it is not found
pub missing : {X : Type 0} (p q : List ℕ) (es : List (List ℕ × X)) → T (below_all text_cmp p es) → is_lt (text_cmp p q) ≡ false → find text_cmp q es ≡ None
missing p q [] h absent = refl
missing p q (e ∷ es) h absent =
    elim (eq_by_cmp text_cmp q e.0) as (λ b. eq_by_cmp text_cmp q e.0 ≡ b → cond b (Some e.1) (find text_cmp q es) ≡ None) [
      | true ↦ λ t.
          let same : q ≡ e.0 = same_key q e.0 (equal _ t) in
          let above = first (is_lt (text_cmp p e.0)) (below_all text_cmp p es) h in
          absurd (subst T (ap (λ k. is_lt (text_cmp p k)) (sym same) ∙ absent) above)
      | false ↦ λ t. missing p q es (second (is_lt (text_cmp p e.0)) (below_all text_cmp p es) h) absent
    ] refl

itself : (o : Ordering) → o ≡ ordering_reverse o → o ≡ Equal
itself Less e = cc
itself Equal e = refl
itself Greater e = cc

pub tied : (p : List ℕ) → text_cmp p p ≡ Equal
tied p = itself (text_cmp p p) (nat_list_cmp_total.antisymm p p)

found_first : {X : Type 0} (e : List ℕ × X) (es : List (List ℕ × X)) → find text_cmp e.0 (e ∷ es) ≡ Some e.1
found_first e es = ap (λ o. cond (is_eq o) (Some e.1) (find text_cmp e.0 es)) (tied e.0)

later_none : {A : Type 0} (b : Bool) (v : A) (o : Option A) → cond b (Some v) o ≡ None → o ≡ None
later_none true v o e = absurd (none-some v (sym e))
later_none false v o e = e

-- where only keys above a path are found, the path is below all
below_found : {X : Type 0} (p : List ℕ) (es : List (List ℕ × X)) → ((q : List ℕ) → is_lt (text_cmp p q) ≡ false → find text_cmp q es ≡ None) → T (below_all text_cmp p es)
below_found p [] h = tt
below_found p (e ∷ es) h =
    both (is_lt (text_cmp p e.0)) (below_all text_cmp p es)
    (elim (is_lt (text_cmp p e.0)) as (λ b. is_lt (text_cmp p e.0) ≡ b → T b) [
      | true ↦ λ _. tt
      | false ↦ λ t. absurd (none-some e.1 (sym (h e.0 t) ∙ found_first e es))
    ] refl)
    (below_found p es (λ q absent. later_none (eq_by_cmp text_cmp q e.0) e.1 (find text_cmp q es) (h q absent)))

lower : {X : Type 0} (p q : List ℕ) (es : List (List ℕ × X)) → text_cmp p q ≡ Less → T (below_all text_cmp q es) → T (below_all text_cmp p es)
lower p q [] l h = tt
lower p q (e ∷ es) l h =
    both (is_lt (text_cmp p e.0)) (below_all text_cmp p es)
    (subst (λ o. T (is_lt o)) (sym (nat_list_cmp_total.trans p q e.0 l (less _ (first (is_lt (text_cmp q e.0)) (below_all text_cmp q es) h)))) tt)
    (lower p q es l (second (is_lt (text_cmp q e.0)) (below_all text_cmp q es) h))

pub not_below : (p : List ℕ) → is_lt (text_cmp p p) ≡ false
not_below p = ap is_lt (tied p)

module _ (p : List ℕ) (os ns : Entries) (ds : List ChangeData) (low_old : T (below_all text_cmp p os)) (low_new : T (below_all text_cmp p ns)) (m : AreChanges os ns ds) where
  later_low : T (below_all text_cmp p ds)
  later_low = below_found p ds (λ q absent. m.each q ∙ (ap (λ o. change_of o (find text_cmp q ns)) (missing p q os low_old absent) ∙ ap (λ o. change_of None o) (missing p q ns low_new absent)))

  none_at : (q : List ℕ) → eq_by_cmp text_cmp q p ≡ true → (find text_cmp q os ≡ None) × (find text_cmp q ns ≡ None) × (find text_cmp q ds ≡ None)
  none_at q t =
      let same : q ≡ p = same_key q p (equal _ t) in
      let absent : is_lt (text_cmp p q) ≡ false = ap (λ k. is_lt (text_cmp p k)) same ∙ not_below p in
      (missing p q os low_old absent, missing p q ns low_new absent, missing p q ds later_low absent)

  pub gone_at : (b : List ℕ) → AreChanges ((p, b) ∷ os) ns ((p, None) ∷ ds)
  gone_at b = record {
    rise = both (below_all text_cmp p ds) (is_sorted text_cmp ds) later_low m.rise;
    each = λ q. elim (eq_by_cmp text_cmp q p) as (λ t. eq_by_cmp text_cmp q p ≡ t → cond t (Some None) (find text_cmp q ds) ≡ change_of (cond t (Some b) (find text_cmp q os)) (find text_cmp q ns)) [
      | true ↦ λ t. sym (ap (λ o. change_of (Some b) o) (none_at q t).1)
      | false ↦ λ t. m.each q
    ] refl;
  }

  pub new_at : (b : List ℕ) → AreChanges os ((p, b) ∷ ns) ((p, Some b) ∷ ds)
  new_at b = record {
    rise = both (below_all text_cmp p ds) (is_sorted text_cmp ds) later_low m.rise;
    each = λ q. elim (eq_by_cmp text_cmp q p) as (λ t. eq_by_cmp text_cmp q p ≡ t → cond t (Some (Some b)) (find text_cmp q ds) ≡ change_of (find text_cmp q os) (cond t (Some b) (find text_cmp q ns))) [
      | true ↦ λ t. sym (ap (λ o. change_of o (Some b)) (none_at q t).0)
      | false ↦ λ t. m.each q
    ] refl;
  }

  pub same_at : (a b : List ℕ) → bytes_eq a b ≡ true → AreChanges ((p, a) ∷ os) ((p, b) ∷ ns) ds
  same_at a b same = record {
    rise = m.rise;
    each = λ q. elim (eq_by_cmp text_cmp q p) as (λ t. eq_by_cmp text_cmp q p ≡ t → find text_cmp q ds ≡ change_of (cond t (Some a) (find text_cmp q os)) (cond t (Some b) (find text_cmp q ns))) [
      | true ↦ λ t. (none_at q t).2 ∙ ap (λ x. cond x None (Some (Some b))) (sym same)
      | false ↦ λ t. m.each q
    ] refl;
  }

  pub other_at : (a b : List ℕ) → bytes_eq a b ≡ false → AreChanges ((p, a) ∷ os) ((p, b) ∷ ns) ((p, Some b) ∷ ds)
  other_at a b other = record {
    rise = both (below_all text_cmp p ds) (is_sorted text_cmp ds) later_low m.rise;
    each = λ q. elim (eq_by_cmp text_cmp q p) as (λ t. eq_by_cmp text_cmp q p ≡ t → cond t (Some (Some b)) (find text_cmp q ds) ≡ change_of (cond t (Some a) (find text_cmp q os)) (cond t (Some b) (find text_cmp q ns))) [
      | true ↦ λ t. ap (λ x. cond x None (Some (Some b))) (sym other)
      | false ↦ λ t. m.each q
    ] refl;
  }

-- the path below the first entry of a rising list, or before an empty one, is below all
pub low_none : {X : Type 0} (es : List (List ℕ × X)) (p : List ℕ) → slice_get es 0 ≡ None → T (below_all text_cmp p es)
low_none [] p e = tt
low_none (x ∷ es) p e = absurd (none-some x (sym e))

pub low_next : (es : Entries) (p q b : List ℕ) → slice_get es 0 ≡ Some (q, b) → text_cmp p q ≡ Less → T (is_sorted text_cmp es) → T (below_all text_cmp p es)
low_next [] p q b e l h = absurd (none-some (q, b) e)
low_next (x ∷ es) p q b e l h =
    let l : text_cmp p x.0 ≡ Less = ap (λ y. text_cmp p y.0) (same_Some x (q, b) e) ∙ l in
    both (is_lt (text_cmp p x.0)) (below_all text_cmp p es) (subst (λ o. T (is_lt o)) (sym l) tt)
    (lower p x.0 es l (first (below_all text_cmp x.0 es) (is_sorted text_cmp es) h))

pub turned : (p q : List ℕ) → text_cmp p q ≡ Greater → text_cmp q p ≡ Less
turned p q e = nat_list_cmp_total.antisymm q p ∙ ap ordering_reverse e

rest_low : (x : List ℕ × List ℕ) (es : Entries) (p b : List ℕ) → x ≡ (p, b) → T (is_sorted text_cmp (x ∷ es)) → T (below_all text_cmp p es)
rest_low x es p b e h = subst (λ y. T (below_all text_cmp y.0 es)) e (first (below_all text_cmp x.0 es) (is_sorted text_cmp es) h)

pub step_new : (os ns : Entries) (p b : List ℕ) → slice_get ns 0 ≡ Some (p, b) → (T (is_sorted text_cmp os) → T (below_all text_cmp p os)) → IsStep os ns ((p, Some b) ∷ []) 0 1
step_new os [] p b e low = absurd (none-some (p, b) e)
step_new os (n ∷ ns) p b e low =
    let same : n ≡ (p, b) = same_Some n (p, b) e in
    record {
      some = omega arith;
      old_bound = omega arith;
      new_bound = omega arith;
      whole = λ so sn ds m. subst (λ x. AreChanges os (x ∷ ns) ((p, Some b) ∷ ds)) (sym same) (new_at p os ns ds (low so) (rest_low n ns p b same sn) m b);
    }

pub step_gone : (os ns : Entries) (p b : List ℕ) → slice_get os 0 ≡ Some (p, b) → (T (is_sorted text_cmp ns) → T (below_all text_cmp p ns)) → IsStep os ns ((p, None) ∷ []) 1 0
step_gone [] ns p b e low = absurd (none-some (p, b) e)
step_gone (o ∷ os) ns p b e low =
    let same : o ≡ (p, b) = same_Some o (p, b) e in
    record {
      some = omega arith;
      old_bound = omega arith;
      new_bound = omega arith;
      whole = λ so sn ds m. subst (λ x. AreChanges (x ∷ os) ns ((p, None) ∷ ds)) (sym same) (gone_at p os ns ds (rest_low o os p b same so) (low sn) m b);
    }

pub step_same : (os ns : Entries) (p a q b : List ℕ) → slice_get os 0 ≡ Some (p, a) → slice_get ns 0 ≡ Some (q, b) → text_cmp p q ≡ Equal → bytes_eq a b ≡ true → IsStep os ns [] 1 1
step_same [] ns p a q b e f tie alike = absurd (none-some (p, a) e)
step_same (o ∷ os) [] p a q b e f tie alike = absurd (none-some (q, b) f)
step_same (o ∷ os) (n ∷ ns) p a q b e f tie alike =
    let old : o ≡ (p, a) = same_Some o (p, a) e in
    let new : n ≡ (p, b) = same_Some n (q, b) f ∙ ap (λ k. (k, b)) (sym (same_key p q tie)) in
    record {
      some = omega arith;
      old_bound = omega arith;
      new_bound = omega arith;
      whole = λ so sn ds m. subst (λ x. AreChanges (x ∷ os) (n ∷ ns) ds) (sym old) (subst (λ x. AreChanges ((p, a) ∷ os) (x ∷ ns) ds) (sym new)
          (same_at p os ns ds (rest_low o os p a old so) (rest_low n ns p b new sn) m a b alike));
    }

pub step_other : (os ns : Entries) (p a q b : List ℕ) → slice_get os 0 ≡ Some (p, a) → slice_get ns 0 ≡ Some (q, b) → text_cmp p q ≡ Equal → bytes_eq a b ≡ false → IsStep os ns ((q, Some b) ∷ []) 1 1
step_other [] ns p a q b e f tie differ = absurd (none-some (p, a) e)
step_other (o ∷ os) [] p a q b e f tie differ = absurd (none-some (q, b) f)
step_other (o ∷ os) (n ∷ ns) p a q b e f tie differ =
    let key : q ≡ p = sym (same_key p q tie) in
    let old : o ≡ (q, a) = same_Some o (p, a) e ∙ ap (λ k. (k, a)) (sym key) in
    let new : n ≡ (q, b) = same_Some n (q, b) f in
    record {
      some = omega arith;
      old_bound = omega arith;
      new_bound = omega arith;
      whole = λ so sn ds m. subst (λ x. AreChanges (x ∷ os) (n ∷ ns) ((q, Some b) ∷ ds)) (sym old) (subst (λ x. AreChanges ((q, a) ∷ os) (x ∷ ns) ((q, Some b) ∷ ds)) (sym new)
          (other_at q os ns ds (rest_low o os q a old so) (rest_low n ns q b new sn) m a b differ));
    }

pub sorted_drop : (i : ℕ) (es : Entries) → T (is_sorted text_cmp es) → T (is_sorted text_cmp (drop i es))
sorted_drop zero es h = h
sorted_drop (suc i) [] h = tt
sorted_drop (suc i) (e ∷ es) h = sorted_drop i es (second (below_all text_cmp e.0 es) (is_sorted text_cmp es) h)

pub head_drop : (i : ℕ) (es : Entries) → slice_get (drop i es) 0 ≡ slice_get es i
head_drop zero [] = refl
head_drop zero (e ∷ es) = refl
head_drop (suc i) [] = refl
head_drop (suc i) (e ∷ es) = head_drop i es

pub none_rest : (es : Entries) → slice_get es 0 ≡ None → es ≡ []
none_rest [] e = refl
none_rest (x ∷ es) e = absurd (none-some x (sym e))

pub no_changes : AreChanges [] [] []
no_changes = record { rise = tt; each = λ q. refl }

-- from the changes of what is left come those of all
abbrev pub Leads : Entries → Entries → List ChangeData → ℕ → ℕ → Type 0
Leads old new ds i j = (rest : List ChangeData) → AreChanges (drop i old) (drop j new) rest → AreChanges old new (ds ++ rest)

pub leads_on : (old new : Entries) (ds cs : List ChangeData) (i j m n : ℕ) → T (is_sorted text_cmp old) → T (is_sorted text_cmp new) → Leads old new ds i j → IsStep (drop i old) (drop j new) cs m n → Leads old new (ds ++ cs) (i + m) (j + n)
leads_on old new ds cs i j m n so sn leads step rest changes =
    let a : drop m (drop i old) ≡ drop (i + m) old = drop-drop m i old in
    let b : drop n (drop j new) ≡ drop (j + n) new = drop-drop n j new in
    let here = subst (λ x. AreChanges x (drop n (drop j new)) rest) (sym a) (subst (λ x. AreChanges (drop (i + m) old) x rest) (sym b) changes) in
    subst (λ x. AreChanges old new x) (sym (append_assoc ds cs rest)) (leads (cs ++ rest) (step.whole (sorted_drop i old so) (sorted_drop j new sn) rest here))

-- where nothing is left, the changes are all
pub leads_all : (old new : Entries) (ds : List ChangeData) (i j : ℕ) → slice_get old i ≡ None → slice_get new j ≡ None → Leads old new ds i j → AreChanges old new ds
leads_all old new ds i j p q leads =
    let a : drop i old ≡ [] = none_rest (drop i old) (head_drop i old ∙ p) in
    let b : drop j new ≡ [] = none_rest (drop j new) (head_drop j new ∙ q) in
    subst (λ x. AreChanges old new x) (append-nil ds) (leads [] (subst (λ x. AreChanges x (drop j new) []) (sym a) (subst (λ x. AreChanges [] x []) (sym b) no_changes)))

-- the first of what is left, as a look-up at the index shows it
pub at_head : (es : Entries) (i : ℕ) (head : Option (Bor (List ℕ) × Bor (List ℕ))) → option_map lent_view head ≡ slice_get es i → slice_get (drop i es) 0 ≡ option_map lent_view head
at_head es i head e = head_drop i es ∙ sym e

pub step_bound : (es : Entries) (i m : ℕ) → i ≤ length es → m ≤ length (drop i es) → i + m ≤ length es
step_bound es i m h l = omega (arith, length-drop i es)

pub nearer : (i m j n a b : ℕ) → 0 < m + n → i + m ≤ a → j + n ≤ b → (a - (i + m)) + (b - (j + n)) < (a - i) + (b - j)
nearer i m j n a b some p q = omega arith
