-- Breaks of members, one by one.
use Rattle.std.proofs.Common.{◌≡◌, ℕ, zero, suc, ◌+◌, Bool, true, false, not, List, [], ◌∷◌, ◌++◌, drop, Option, Some, refl, sym, ap, ap₂, ◌∙◌, subst, cond, codes}
use Rattle.std.specs.Prelude.{slice_get, unwrap_or}
use Rattle.std.specs.List.{flat_map}
use Rattle.std.specs.Str.{bytes_eq}
use Rattle.json_span.specs.Tree.{Tree, a_null, a_boolean, a_number, a_string, an_array, an_object, Placed, placed, Members, Entry, tree_of, value_of_name}
use Rattle.json_span.proofs.Views.{entries_in-of}
use Rattle.token_tree.specs.declared.fault.Rule.TheVariants as rule
use Rattle.token_tree.specs.declared.fault.ShapeFault.{ShapeFault}
use Rattle.token_tree.specs.declared.fault.ShapeFault.TheVariants.{Broken, NoMemory}
use Rattle.token_tree.specs.Answer.{TellsFirst, IsObjectOf}
use Rattle.token_tree.specs.Texts.{is_reserved}
use Rattle.token_tree.specs.Shape.{Break, entries_at, is_object, has, has_token_form, at_value, at_name, token_member_breaks, token_breaks, token_value}
use Rattle.token_tree.proofs.Names.{same_text}
use Rattle.token_tree.proofs.Steps.{next}

-- the first of a list stays the first where others follow
pub first_stays : (xs ys : List Break) (e : ShapeFault) → TellsFirst xs e → TellsFirst (xs ++ ys) e
first_stays [] ys (Broken r start end) h = absurd (cc)
first_stays (x ∷ xs) ys (Broken r start end) h = h
first_stays xs ys NoMemory h = tt

pub first_of : (xs ys : List Break) (e : ShapeFault) → xs ≡ ys → TellsFirst xs e → TellsFirst ys e
first_of xs ys e h k = subst (λ z. TellsFirst z e) h k

-- the breaks of what is left begin with those of the next member
pub next_breaks : (f : Entry → List Break) (es : List Entry) (i : ℕ) (e : Entry) → slice_get es i ≡ Some e → flat_map f (drop i es) ≡ f e ++ flat_map f (drop (i + 1) es)
next_breaks f es i e g = ap (flat_map f) (next es i e g)

front_none : {A : Type 0} (xs ys : List A) → xs ++ ys ≡ [] → xs ≡ []
front_none [] ys e = refl
front_none (x ∷ xs) ys e = absurd (cc)

back_none : {A : Type 0} (xs ys : List A) → xs ++ ys ≡ [] → ys ≡ []
back_none [] ys e = e
back_none (x ∷ xs) ys e = absurd (cc)

-- where there are no breaks a member has none
pub sound_at : (f : Entry → List Break) (es : List Entry) (i : ℕ) (e : Entry) → slice_get es i ≡ Some e → flat_map f es ≡ [] → f e ≡ []
sound_at f [] i e g h = absurd (cc)
sound_at f (x ∷ es) zero e g h = let k : x ≡ e = cc in ap f (sym k) ∙ front_none (f x) (flat_map f es) h
sound_at f (x ∷ es) (suc i) e g h = sound_at f es i e g (back_none (f x) (flat_map f es) h)

-- a member of a name
pub record Among (name : List ℕ) (es : List Entry) (n : Placed) : Type 0 where
  pub index : ℕ
  pub entry : Entry
  pub there : slice_get es index ≡ Some entry
  pub named : entry.name ≡ name
  pub holds : entry.value ≡ n

later : (name : List ℕ) (e : Entry) (es : List Entry) (n : Placed) → Among name es n → Among name (e ∷ es) n
later name e es n a = record { index = suc a.index; entry = a.entry; there = a.there; named = a.named; holds = a.holds }

pub among : (name : List ℕ) (es : List Entry) (n : Placed) → value_of_name name es ≡ Some n → Among name es n
among name [] n h = absurd (cc)
among name (e ∷ es) n h =
    elim (bytes_eq e.name name) as (λ b. bytes_eq e.name name ≡ b → cond b (Some e.value) (value_of_name name es) ≡ Some n → Among name (e ∷ es) n) [
      | true ↦ λ t k. record { index = 0; entry = e; there = refl; named = same_text e.name name t; holds = cc }
      | false ↦ λ t k. later name e es n (among name es n k)
    ] refl h

formed : (b : Bool) (n : Placed) → cond b [] (at_value rule.Property n) ≡ [] → b ≡ true
formed true n e = refl
formed false n e = absurd (cc)

-- in a sound token what stands under `$extensions` is an object
pub extensions_object : (es : List Entry) (n : Placed) → value_of_name (codes "$extensions") es ≡ Some n → token_breaks es ≡ [] → is_object (tree_of n) ≡ true
extensions_object es n u h =
    let a = among (codes "$extensions") es n u in
    let valued = has (codes "$value") es in
    let k = sound_at (token_member_breaks valued) es a.index a.entry a.there h in
    let m : cond (is_object (tree_of a.entry.value)) [] (at_value rule.Property a.entry.value) ≡ [] =
    subst (λ name. cond (not (is_reserved name)) (at_name rule.TokenChild a.entry) (cond (has_token_form valued name (tree_of a.entry.value)) [] (at_value rule.Property a.entry.value)) ≡ []) a.named k in
    ap (λ z. is_object (tree_of z)) (sym a.holds) ∙ formed (is_object (tree_of a.entry.value)) a.entry.value m

pub object_members : (v : Tree) → is_object v ≡ true → (ms : Members) × (v ≡ an_object ms)
object_members a_null e = absurd (cc)
object_members (a_boolean b) e = absurd (cc)
object_members (a_number k) e = absurd (cc)
object_members (a_string s) e = absurd (cc)
object_members (an_array ns) e = absurd (cc)
object_members (an_object ms) e = (ms, refl)

-- the members of an object
pub entries_are : (n : Placed) (es : List Entry) → IsObjectOf n es → entries_at n ≡ es
entries_are (placed v start end) es e = ap (λ z. entries_at (placed z start end)) e ∙ entries_in-of es

-- an object's value as a token
pub value_from : (n : Placed) (es : List Entry) → IsObjectOf n es → token_value n ≡ unwrap_or (value_of_name (codes "$ref") es) (unwrap_or (value_of_name (codes "$value") es) n)
value_from n es h = ap (λ z. unwrap_or (value_of_name (codes "$ref") z) (unwrap_or (value_of_name (codes "$value") z) n)) (entries_are n es h)

pub value_is : (n : Placed) (es : List Entry) (r v : Option Placed) → IsObjectOf n es → value_of_name (codes "$ref") es ≡ r → value_of_name (codes "$value") es ≡ v → token_value n ≡ unwrap_or r (unwrap_or v n)
value_is n es r v h e f = value_from n es h ∙ ap₂ (λ a b. unwrap_or a (unwrap_or b n)) e f
