-- The rows of a graph and the sets that are their reverse.
use Rattle.std.proofs.Common.{◌≡◌, ℕ, ◌<◌, Bool, true, false, cond, ◌||◌, List, [], ◌∷◌, inl, inr, refl, sym, ap, ◌∙◌, subst, length, get_or, set, arith, nat_eq, All, length-set, get_or-set_same, get_or-set_other}
use Rattle.std.specs.List.{list_any}
use Rattle.std.specs.Ordering.{nat_cmp}
use Rattle.std.specs.BTreeMap.{is_at}
use Rattle.std.specs.BTreeSet.{BTreeSet}
use Rattle.std.specs.declared.vec.Vec.{Vec}
use Rattle.std.specs.declared.alloc.Global.{Global}
use Rattle.std.proofs.lemmas.Bool.{cases_eq, cases_lt}
use Rattle.std.proofs.lemmas.Bool.Decides.{nat_tests}
use Rattle.std.proofs.lemmas.List.{get_or-map, get_or_past}
use Rattle.std.proofs.lemmas.List.Folds.{list_any_at}
use Rattle.ref_graph.specs.Edges.{is_in, has_source, rows_of, IsReversed, IsReplaced}
use Rattle.ref_graph.specs.Walk.{targets_of}
use Rattle.ref_graph.proofs.Sets.{has_read, neq, eq_self}

-- the row that was read
pub row_read : (rows : List (Vec ℕ Global)) (v : ℕ) (row : Vec ℕ Global) → v < length rows → row ≡ get_or rows v row → targets_of (rows_of rows) v ≡ row.items
row_read rows v row h e = get_or-map (λ (r : Vec ℕ Global). r.items) rows v row [] h ∙ ap (λ (r : Vec ℕ Global). r.items) (sym e)

-- one row is replaced, and its node among the sources
pub reversed : (edges : List (List ℕ)) (old new : List (BTreeSet ℕ)) (node : ℕ) (to : List ℕ) → IsReversed edges old → node < length edges → All (λ w. w < length edges) to
    → length new ≡ length old → IsReplaced old new node to → IsReversed (set edges node to) new
reversed edges old new node to r in_graph to_within long replaced =
    let same : targets_of (set edges node to) node ≡ to = get_or-set_same edges node to [] in_graph in
    let n = length (set edges node to) in
    let all_within : (xs : List ℕ) → All (λ w. w < length edges) xs → All (λ w. w < n) xs = λ xs h k d less. omega (arith, h k d less, length-set edges node to) in
    record {
      long = long ∙ (r.long ∙ sym (length-set edges node to));
      within = λ v. elim (cases_eq v node) [
        | inl p ↦ subst (λ (x : ℕ). All (λ w. w < n) (targets_of (set edges node to) x)) (sym p) (subst (All (λ w. w < n)) (sym same) (all_within to to_within))
        | inr q ↦ subst (All (λ w. w < n)) (sym (get_or-set_other edges node v to [] q)) (all_within (targets_of edges v) (r.within v))
      ];
      agree = λ w v. elim (cases_eq v node) [
        | inl p ↦ subst (λ (x : ℕ). has_source new w x ≡ is_in (targets_of (set edges node to) x) w) (sym p)
            (replaced w node ∙ (ap (λ (b : Bool). cond b (is_in to w) (has_source old w node)) (eq_self node) ∙ ap (λ (xs : List ℕ). is_in xs w) (sym same)))
        | inr q ↦ replaced w v ∙ (ap (λ (b : Bool). cond b (is_in to w) (has_source old w v)) (neq v node q) ∙ (r.agree w v ∙ ap (λ (xs : List ℕ). is_in xs w) (sym (get_or-set_other edges node v to [] q))))
      ];
    }

compared : (a b : ℕ) → is_at (nat_cmp a) b ≡ nat_eq a b
compared a b = grind (arith, nat_tests)

in_keys : (ks : List ℕ) (v : ℕ) → list_any (is_at (nat_cmp v)) ks ≡ is_in ks v
in_keys [] v = refl
in_keys (k ∷ ks) v = ap (λ (b : Bool). b || list_any (is_at (nat_cmp v)) ks) (compared v k) ∙ ap (λ (b : Bool). nat_eq v k || b) (in_keys ks v)

has_row : (edges : List (List ℕ)) (v w : ℕ) → is_in (targets_of edges v) w ≡ true → v < length edges
has_row edges v w e = elim (cases_lt v (length edges)) [
  | inl h ↦ h
  | inr h ↦ absurd (let f : false ≡ true = ap (λ (xs : List ℕ). is_in xs w) (sym (get_or_past edges v [] h)) ∙ e in cc)
]

module _ {edges : List (List ℕ)} {sources : List (BTreeSet ℕ)} {node : ℕ} {keys : BTreeSet ℕ} where
  -- the sources of a node are those with an edge to it
  pub are_sources : IsReversed edges sources → node < length edges → keys ≡ get_or sources node keys
      → (v : ℕ) → is_in keys.keys v ≡ is_in (targets_of edges v) node
  are_sources r h e v = sym (in_keys keys.keys v) ∙ (sym (has_read sources node keys v (omega (arith, h, r.long)) e) ∙ r.agree node v)

  pub sources_within : IsReversed edges sources → node < length edges → keys ≡ get_or sources node keys
      → All (λ v. v < length edges) keys.keys
  sources_within r h e k d less =
      let v = get_or keys.keys k d in
      has_row edges v node (sym (are_sources r h e v) ∙ list_any_at (nat_eq v) keys.keys k d less (eq_self v))
