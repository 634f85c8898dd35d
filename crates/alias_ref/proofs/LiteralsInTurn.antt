-- The parts of a literal, one after the other.
use Rattle.std.proofs.Common.{◌≡◌, ℕ, ◌+◌, ◌<◌, List, [], ◌∷◌, ◌++◌, Bool, false, cond, Some, None, map, refl, sym, ap, ap₂, ◌∙◌, subst, append_assoc, append-nil, codes}
use Rattle.std.specs.Prelude.{Result, Ok, Err, IfOk, is_some}
use Rattle.std.specs.Str.{bytes_eq}
use Rattle.std.specs.Fmt.{decimal}
use Rattle.json_span.specs.Tree.{Tree, a_null, a_boolean, a_number, a_string, an_array, an_object, Placed, Entry as Member, tree_of, elements_in, array_in, object_in, value_of_name}
use Rattle.json_span.specs.Plain.{plain_array, plains_of}
use Rattle.json_span.specs.PlainView.{Value, ValueEntry, plain_view, plain_items_view, plain_fields_view}
use Rattle.json_span.specs.declared.plain.PlainItems.{PlainItems}
use Rattle.json_span.specs.declared.plain.PlainFields.{PlainFields}
use Rattle.json_span.specs.declared.plain.Plain.{Plain, Arr, Obj}
use Rattle.token_tree.specs.Shape.{has}
use Rattle.alias_ref.specs.Written.{Step, array, object, leaf, parts, Parts, parts_by_index, parts_by_name, parts_of, steps_of, of_value, Role, reference_written, object_pointed, written_as}
use Rattle.alias_ref.specs.Visits.{most_on_branch}
use Rattle.alias_ref.specs.inner.Literals.{IsLiteral, literal_leaf, literal_parts, AreLiterals, no_literals, more_literals, ReadSoFar}
use Rattle.alias_ref.proofs.ContentsOfValues.{object_is}
use Rattle.alias_ref.proofs.PartsInTurn.{push_map}
use Rattle.alias_ref.proofs.PlainViews.{array_view, object_view}

pub all_read : {i j : ℕ} {all rest : Parts} (es : List ValueEntry) → ReadSoFar i all rest j es → rest ≡ [] → AreLiterals i all es j
all_read {i} {j} {all} {rest} es so_far e =
    subst (λ xs. AreLiterals i all xs j) (append-nil es) (so_far [] j (subst (λ ps. AreLiterals j ps [] j) (sym e) no_literals))

-- the next part is an item, or a member
module _ {i j k : ℕ} {all : Parts} (es : List ValueEntry) {n : Placed} {v : Value} where
  one_read : {s : Step} {rest : Parts} {gs : List ValueEntry} → ReadSoFar i all ((s, n) ∷ rest) j es → IsLiteral j n v k
      → gs ≡ es ++ record { name = s; value = v } ∷ [] → ReadSoFar i all rest k gs
  one_read {s} so_far here e = λ more l h.
      let entry : ValueEntry = record { name = s; value = v } in
      let joined = ap (λ xs. xs ++ more) e ∙ append_assoc es (entry ∷ []) more in
      subst (λ xs. AreLiterals i all xs l) (sym joined) (so_far (entry ∷ more) l (more_literals here h))

  pub item_read : {ns ms : List Placed} {vs ws : List Value} (index : ℕ) → ReadSoFar i all (parts_by_index index ns) j es → ns ≡ n ∷ ms
      → vs ≡ map (λ e. e.value) es → IsLiteral j n v k → ws ≡ vs ++ v ∷ []
      → (next : ℕ) × (gs : List ValueEntry) × (ws ≡ map (λ e. e.value) gs) × ReadSoFar i all (parts_by_index next ms) k gs
  item_read index so_far first values here pushed =
      let entry : ValueEntry = record { name = decimal index; value = v } in
      let read = one_read (subst (λ xs. ReadSoFar i all (parts_by_index index xs) j es) first so_far) here refl in
      (index + 1, es ++ entry ∷ [], pushed ∙ ap (λ xs. xs ++ v ∷ []) values ∙ sym (push_map (λ e. e.value) es entry), read)

  pub field_read : {fs gs : List Member} {f : Member} {s : Step} {hs : List ValueEntry} → ReadSoFar i all (parts_by_name fs) j es → fs ≡ f ∷ gs
      → s ≡ f.name → n ≡ f.value → IsLiteral j n v k → hs ≡ es ++ record { name = s; value = v } ∷ []
      → ReadSoFar i all (parts_by_name gs) k hs
  field_read {gs = gs} so_far first name value here e =
      let make : Step → Placed → Step × Placed = λ x y. (x, y) in
      let next = ap parts_by_name first ∙ ap₂ (λ x y. make x y ∷ parts_by_name gs) (sym name) (sym value) in
      one_read (subst (λ ps. ReadSoFar i all ps j es) next so_far) here e

-- no name so far is `$ref`
pub not_named : {ms rest : List Member} {m : Member} {s : Step} → ms ≡ m ∷ rest → s ≡ m.name → bytes_eq s (codes "$ref") ≡ false → has (codes "$ref") ms ≡ has (codes "$ref") rest
not_named {rest = rest} {m = m} first name other =
    ap (has (codes "$ref")) first
    ∙ ap (λ b. is_some (cond b (Some m.value) (value_of_name (codes "$ref") rest))) (ap (λ x. bytes_eq x (codes "$ref")) (sym name) ∙ other)

-- a value without parts
pub leaf_literal : {i : ℕ} {E : Type 0} (r : Result Plain E) (n : Placed) → i < most_on_branch → array_in (tree_of n) ≡ None → object_in (tree_of n) ≡ None
    → IfOk r (λ v. array_in (tree_of n) ≡ None → object_in (tree_of n) ≡ None → written_as of_value (tree_of n) ≡ leaf (plain_view v))
    → IfOk r (λ v. IsLiteral i n (plain_view v) (i + 1))
leaf_literal (Err e) n few a o h = tt
leaf_literal (Ok v) n few a o h = literal_leaf few (h a o)

-- an array
array_is : (role : Role) (v : Tree) (ns : List Placed) → array_in v ≡ Some ns → (written_as role v ≡ parts array (steps_of (parts_by_index 0 ns))) × (parts_of v ≡ parts_by_index 0 ns)
array_is role a_null ns e = absurd (cc)
array_is role (a_boolean b) ns e = absurd (cc)
array_is role (a_number k) ns e = absurd (cc)
array_is role (a_string s) ns e = absurd (cc)
array_is role (an_array es) ns e = let same : elements_in es ≡ ns = cc in (ap (λ xs. parts array (steps_of (parts_by_index 0 xs))) same, ap (parts_by_index 0) same)
array_is role (an_object ms) ns e = absurd (cc)

pub array_literal : {i j : ℕ} (n : Placed) (ns : List Placed) (l : PlainItems) → i < most_on_branch → array_in (tree_of n) ≡ Some ns
    → (es : List ValueEntry) × AreLiterals (i + 1) (parts_by_index 0 ns) es j × (plain_items_view l ≡ map (λ e. e.value) es)
    → IsLiteral i n (plain_view (Arr l)) j
array_literal {i} {j} n ns l few there (es, read, values) =
    let k = array_is of_value (tree_of n) ns there in
    subst (λ v. IsLiteral i n v j) (sym (array_view l ∙ ap (λ vs. plain_array (plains_of vs)) values))
    (literal_parts few (k.0 ∙ ap (λ ps. parts array (steps_of ps)) (sym k.1)) (subst (λ ps. AreLiterals (i + 1) ps es j) (sym k.1) read))

-- an object without a member `$ref`
object_plain : (b : Bool) (es : List Member) → b ≡ false
    → cond b (reference_written (object_pointed es)) (parts object (steps_of (parts_by_name es))) ≡ parts object (steps_of (parts_by_name es))
object_plain b es e = ap (λ x. cond x (reference_written (object_pointed es)) (parts object (steps_of (parts_by_name es)))) e

pub object_literal : {i j : ℕ} (n : Placed) (ms : List Member) (l : PlainFields) → i < most_on_branch → object_in (tree_of n) ≡ Some ms → has (codes "$ref") ms ≡ false
    → AreLiterals (i + 1) (parts_by_name ms) (plain_fields_view l) j → IsLiteral i n (plain_view (Obj l)) j
object_literal {i} {j} n ms l few there plain read =
    let k = object_is of_value (tree_of n) ms there in
    subst (λ v. IsLiteral i n v j) (sym (object_view l))
    (literal_parts few (k.0 ∙ object_plain (has (codes "$ref") ms) ms plain ∙ ap (λ ps. parts object (steps_of ps)) (sym k.1))
    (subst (λ ps. AreLiterals (i + 1) ps (plain_fields_view l) j) (sym k.1) read))
