-- Lists of members in the order of their names: the lemmas on sorted lists at the order of texts.
use Rattle.std.proofs.Common.{◌≡◌, ℕ, zero, suc, ◌+◌, ◌-◌, ◌<◌, ◌≤◌, T, List, [], ◌∷◌, length, get_or, set, Some, None, Result, Ok, Err, OnOk, OnErr, Bool, Bor, Ordering, Less, Equal, Greater, refl, sym, ap, subst, ◌∙◌, arith}
use Rattle.std.proofs.lemmas.List.{length-map}
use Rattle.std.specs.Cmp.Lexicographic.{nat_list_cmp_total}
use Rattle.std.specs.FinMap as finite
use Rattle.std.specs.FinMap.{is_sorted, find, put}
use Rattle.std.specs.FinMap.Entries.{is_sorted-put}
use Rattle.std.specs.Fn.{Called}
use Rattle.std.specs.List.{insert}
use Rattle.std.specs.List.Sorted.{IsSortedBy, IsStableBy, IsSortedByClosure, IsStableByClosure}
use Rattle.std.specs.Ordering.{is_lt}
use Rattle.std.proofs.lemmas.Fn.{always_returns_same}
use Rattle.std.proofs.lemmas.List.Sorted.{ranks_by}
use denote.Param.Members.{Mut}
use Rattle.tk_io.specs.Order.{text_cmp}
use Rattle.tk_io.proofs.TextMaps.{text_cmp-IsAntisymmetric}
use Rattle.token_tree.specs.Tree.{Child as ChildData, Named}
use Rattle.token_tree.specs.View.{member_view, child_view}
use Rattle.token_tree.specs.MembersView.{entries_of, kept_entries, kept_named}
use Rattle.token_tree.specs.inner.Lists.{IsPlaceOf, IsGapFor, NamesApart}
use Rattle.token_tree.specs.declared.tree.Member.{Member}
use Rattle.token_tree.specs.declared.tree.Members.TheInside.{Inside}
use Rattle.token_tree.proofs.SortedLists as sorted
use Rattle.token_tree.proofs.StableSorts as stable

-- what a comparison with the member at a place says

same_item : (list : List Member) (i : ℕ) (c d : Member) → i < length list → get_or list i c ≡ get_or list i d
same_item [] i c d h = absurd (omega (arith, h))
same_item (m ∷ list) zero c d h = refl
same_item (m ∷ list) (suc i) c d h = same_item list i c d (omega (arith, h))

pub none_before : (list : List Member) (name : List ℕ) (i : ℕ) (m : Member) → T (is_sorted text_cmp (entries_of list)) → i < length list → text_cmp (get_or list i m).name name ≡ Less → (j : ℕ) (d : Member) → j < i + 1 → text_cmp (get_or list j d).name name ≡ Less
none_before list name i m s h l j d k = sorted.before_less nat_list_cmp_total member_view list j i name d m s (omega (arith, k)) h l

pub none_behind : (list : List Member) (name : List ℕ) (i : ℕ) (m : Member) → T (is_sorted text_cmp (entries_of list)) → text_cmp (get_or list i m).name name ≡ Greater → (j : ℕ) (d : Member) → i ≤ j → j < length list → text_cmp (get_or list j d).name name ≡ Greater
none_behind list name i m s l j d k r = sorted.behind_greater nat_list_cmp_total member_view list i j name d m s k r l

pub stands_there : (list : List Member) (name : List ℕ) (i : ℕ) (m : Member) → i < length list → text_cmp (get_or list i m).name name ≡ Equal → IsPlaceOf list name i
stands_there list name i m h l = (h, λ d. ap (λ x. x.name) (same_item list i d m h) ∙ text_cmp-IsAntisymmetric (get_or list i m).name name l)

-- after the last, where that is less
pub behind_last : (list : List Member) (name : List ℕ) (last : Member) → T (is_sorted text_cmp (entries_of list)) → 0 < length list → last ≡ get_or list (length list - 1) last → text_cmp last.name name ≡ Less → IsGapFor list name (length list)
behind_last list name last s some e l =
    let at_last : text_cmp (get_or list (length list - 1) last).name name ≡ Less = subst (λ x. text_cmp x.name name ≡ Less) e l in (
      omega arith,
      (
        (λ j d low high. sorted.before_less nat_list_cmp_total member_view list j (length list - 1) name d last s (omega (arith, high)) (omega (arith, some)) at_last),
        (λ j d low high. absurd (omega (arith, low, high))),
      ),
    )

pub put_there : (list : List Member) (m : Member) (i : ℕ) → T (is_sorted text_cmp (entries_of list)) → IsPlaceOf list m.name i → entries_of (set list i m) ≡ put text_cmp m.name (child_view m.child) (entries_of list)
put_there list m i s p = sym (sorted.put_here nat_list_cmp_total member_view list i m m s p.0 (p.1 m))

-- another child under the name that is there
pub put_named : (list new : List Member) (name : List ℕ) (m : Member) (i : ℕ) → T (is_sorted text_cmp (entries_of list)) → IsPlaceOf list name i → m.name ≡ name → new ≡ set list i m
    → entries_of new ≡ put text_cmp name (child_view m.child) (entries_of list)
put_named list new name m i s p n e =
    ap entries_of e
    ∙ (put_there list m i s (subst (λ x. IsPlaceOf list x i) (sym n) p) ∙ ap (λ x. put text_cmp x (child_view m.child) (entries_of list)) n)

pub put_between : (list new : List Member) (m : Member) (i : ℕ) → IsGapFor list m.name i → new ≡ insert list i m → entries_of new ≡ put text_cmp m.name (child_view m.child) (entries_of list)
put_between list new m i g e =
    ap entries_of e
    ∙ sym (sorted.put_gap nat_list_cmp_total member_view list i m g.0 (λ j d l. g.1.0 j d (omega arith) l) (λ j d l h. g.1.1 j d l h))

-- what is found in the map of a list

pub get_there : (list : List Member) (m : Named) (name : List ℕ) (i : ℕ) (d : Member) → entries_of list ≡ finite.entries m → IsPlaceOf list name i → Some (child_view (get_or list i d).child) ≡ finite.get m name
get_there list m name i d e p =
    let s : T (is_sorted text_cmp (entries_of list)) = subst (λ es. T (is_sorted text_cmp es)) (sym e) (finite.entries_sorted m) in
    sym (finite.get-entries m name ∙ (ap (find text_cmp name) (sym e) ∙ sorted.find_here nat_list_cmp_total member_view list i name d s p.0 (p.1 d)))

pub get_none : (list : List Member) (m : Named) (name : List ℕ) (i : ℕ) → entries_of list ≡ finite.entries m → IsGapFor list name i → None ≡ finite.get m name
get_none list m name i e g =
    sym (finite.get-entries m name ∙ (ap (find text_cmp name) (sym e)
    ∙ sorted.find_gap nat_list_cmp_total member_view list i name g.0 (λ j d l. g.1.0 j d (omega arith) l) (λ j d l h. g.1.1 j d l h)))

pub how_many : (list : List Member) (m : Named) → entries_of list ≡ finite.entries m → length list ≡ finite.len m
how_many list m e = sym (length-map list member_view) ∙ (ap length e ∙ sym (finite.len-entries m))

-- the list and the map that it is seen as

pub listed : (m : Inside) (now : Named) → T (is_sorted text_cmp (kept_entries m)) → kept_named m ≡ now → kept_entries m ≡ finite.entries now
listed m now s e = sym (finite.entries-from_sorted text_cmp (kept_entries m) s) ∙ ap finite.entries e

pub still_sorted : (name : List ℕ) (c : ChildData) (es fs : List (List ℕ × ChildData)) → T (is_sorted text_cmp es) → fs ≡ put text_cmp name c es → T (is_sorted text_cmp fs)
still_sorted name c es fs s e = subst (λ l. T (is_sorted text_cmp l)) (sym e) (is_sorted-put text_cmp nat_list_cmp_total name c es s)

pub put_listed : (m : Inside) (now : Named) (list : List Member) (name : List ℕ) (c : ChildData) → T (is_sorted text_cmp (kept_entries m)) → kept_named m ≡ now → entries_of list ≡ put text_cmp name c (kept_entries m)
    → finite.from_sorted (entries_of list) ≡ finite.insert now name c
put_listed m now list name c s v e =
    finite.same_entries_map _ _
    (finite.entries-from_sorted text_cmp (entries_of list) (still_sorted name c (kept_entries m) (entries_of list) s e)
    ∙ (e ∙ (ap (put text_cmp name c) (listed m now s v) ∙ sym (finite.entries-insert nat_list_cmp_total now name c))))

-- whether the member was put or not, the list is in order
pub either_sorted : {A B : Type 0} (r : Result A B) (name : List ℕ) (c : ChildData) (old new : List Member) → T (is_sorted text_cmp (entries_of old)) → OnOk r (entries_of new ≡ put text_cmp name c (entries_of old)) → OnErr r (new ≡ old) → T (is_sorted text_cmp (entries_of new))
either_sorted (Ok x) name c old new s ok err = still_sorted name c (entries_of old) (entries_of new) s ok
either_sorted (Err x) name c old new s ok err = subst (λ l. T (is_sorted text_cmp (entries_of l))) (sym err) s

pub where_ok : {A B : Type 0} {P Q : Type 0} (r : Result A B) → (P → Q) → OnOk r P → OnOk r Q
where_ok (Ok x) f p = f p
where_ok (Err x) f p = tt

-- a sort by names

abbrev pub before : Member → Member → Bool
before x y = is_lt (text_cmp x.name y.name)

pub sorts : {F : Type 0} {g : Mut F (Bor Member × (Bor Member × Unit {0})) Ordering} {f : F} (list : List Member) → IsSortedByClosure g f list
    → ((a : Bor Member × (Bor Member × Unit {0})) (r : Ordering) (f' : F) → Called g f a r f' → (r ≡ text_cmp a.0.now.name a.1.0.now.name) × (f' ≡ f)) → IsSortedBy before list
sorts {g = g} {f = f} list s h = s before (ranks_by nat_list_cmp_total (λ m. m.name)) (always_returns_same g (λ a r. is_lt r ≡ before a.0.now a.1.0.now) f (λ a r f' k. (ap is_lt (h a r f' k).0, (h a r f' k).1)))

pub keeps_ties : {F : Type 0} {g : Mut F (Bor Member × (Bor Member × Unit {0})) Ordering} {f : F} (old new : List Member) → IsStableByClosure g f old new
    → ((a : Bor Member × (Bor Member × Unit {0})) (r : Ordering) (f' : F) → Called g f a r f' → (r ≡ text_cmp a.0.now.name a.1.0.now.name) × (f' ≡ f)) → IsStableBy before old new
keeps_ties {g = g} {f = f} old new s h = s before (ranks_by nat_list_cmp_total (λ m. m.name)) (always_returns_same g (λ a r. is_lt r ≡ before a.0.now a.1.0.now) f (λ a r f' k. (ap is_lt (h a r f' k).0, (h a r f' k).1)))

pub in_order : (old new : List Member) → NamesApart old → IsSortedBy before new → IsStableBy before old new → T (is_sorted text_cmp (entries_of new))
in_order old new = stable.sorted_strictly nat_list_cmp_total text_cmp-IsAntisymmetric member_view old new

pub same_map : (old new : List Member) → T (is_sorted text_cmp (entries_of new)) → IsStableBy before old new → finite.from_sorted {R = text_cmp} (entries_of new) ≡ finite.from_entries (entries_of old)
same_map old new = stable.same_sorted nat_list_cmp_total text_cmp-IsAntisymmetric member_view old new
