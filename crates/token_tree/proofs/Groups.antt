-- Groups, member by member.
use Rattle.std.proofs.Common.{◌≡◌, ℕ, Bool, true, false, not, List, [], ◌++◌, Some, None, refl, sym, ap, ◌∙◌, cond}
use Rattle.std.specs.Prelude.{slice_get}
use Rattle.std.specs.Str.{bytes_eq}
use Rattle.json_span.specs.Tree.{Tree, a_null, a_boolean, a_number, a_string, an_array, an_object, Placed, placed, Entry, entries_in, members_of, tree_of, start_of, end_of, object_in}
use Rattle.json_span.proofs.Views.{entries_in-of}
use Rattle.token_tree.specs.declared.fault.Rule.{Rule}
use Rattle.token_tree.specs.declared.fault.Rule.TheVariants as rule
use Rattle.token_tree.specs.Tree.{a_token, a_group}
use Rattle.token_tree.specs.Answer.{IsObjectOf}
use Rattle.token_tree.specs.Shape.{Break, root_breaks, members_in, entries_at, is_object, are_token, is_token, at_value, token_breaks, group_breaks, child_breaks, shape_breaks, child_of, def_of, group_of}
use Rattle.name_path.specs.Names.{root_name}
use Rattle.token_tree.specs.inner.Outcomes.{breaks_under, rule_under}
use Rattle.token_tree.proofs.Keeps.{members_again}
use Rattle.token_tree.proofs.Sound.{entries_are}

-- a value with members is an object of these
pub object_is : {v : Tree} {es : List Entry} → object_in v ≡ Some es → v ≡ an_object (members_of es)
object_is {v = a_null} e = absurd (cc)
object_is {v = a_boolean b} e = absurd (cc)
object_is {v = a_number k} e = absurd (cc)
object_is {v = a_string s} e = absurd (cc)
object_is {v = an_array ns} e = absurd (cc)
object_is {v = an_object ms} {es} e = let h : entries_in ms ≡ es = cc in ap an_object (sym (members_again ms) ∙ ap members_of h)

pub no_object : (v : Tree) → None ≡ object_in v → is_object v ≡ false
no_object a_null e = refl
no_object (a_boolean b) e = refl
no_object (a_number k) e = refl
no_object (a_string s) e = refl
no_object (an_array ns) e = refl
no_object (an_object ms) e = absurd (cc)

if_true : {A : Type 0} (b : Bool) (x y : A) → b ≡ true → cond b x y ≡ x
if_true b x y e = ap (λ t. cond t x y) e

if_false : {A : Type 0} (b : Bool) (x y : A) → b ≡ false → cond b x y ≡ y
if_false b x y e = ap (λ t. cond t x y) e

-- what the breaks of an object of these members are

breaks_of : (n : Placed) (es : List Entry) → IsObjectOf n es → child_breaks n ≡ cond (are_token es) (token_breaks es) (group_breaks (members_of es))
breaks_of (placed v start end) es h =
    ap (λ z. child_breaks (placed z start end)) h
    ∙ ap (λ z. cond (are_token z) (token_breaks z) (group_breaks (members_of es))) (entries_in-of es)

token_is : (n : Placed) (es : List Entry) → IsObjectOf n es → is_token n ≡ are_token es
token_is n es h = ap are_token (entries_are n es h)

-- and what child it is

pub group_child : (file text : List ℕ) (n : Placed) (es : List Entry) → IsObjectOf n es → are_token es ≡ false → child_of file text n ≡ a_group (group_of file text (an_object (members_of es)))
group_child file text (placed v start end) es h t =
    if_false (is_token (placed v start end)) (a_token (def_of file text (placed v start end))) (a_group (group_of file text v)) (token_is (placed v start end) es h ∙ t)
    ∙ ap (λ z. a_group (group_of file text z)) h

pub token_child : (file text : List ℕ) (n : Placed) (es : List Entry) → IsObjectOf n es → are_token es ≡ true → child_of file text n ≡ a_token (def_of file text n)
token_child file text (placed v start end) es h t =
    if_true (is_token (placed v start end)) (a_token (def_of file text (placed v start end))) (a_group (group_of file text v)) (token_is (placed v start end) es h ∙ t)

-- the first of these breaks
pub first_at : (r : Rule) (n : Placed) (bs : List Break) (s e : ℕ) → s ≡ start_of n → e ≡ end_of n → slice_get (at_value r n ++ bs) 0 ≡ Some (record { rule = r; start = s; end = e })
first_at r n bs s e p q = λ i. Some (record { rule = r; start = sym p i; end = sym q i })

-- the root

pub no_root : (n : Placed) → is_object (tree_of n) ≡ false → shape_breaks n ≡ at_value rule.Root n
unfolding shape_breaks
no_root n e = ap (λ t. cond (not t) (at_value rule.Root n) (cond (is_token n) (at_value rule.Root n ++ token_breaks (entries_at n)) (group_breaks (members_in (tree_of n))))) e

root_cases : (n : Placed) (es : List Entry) → IsObjectOf n es → shape_breaks n ≡ cond (are_token es) (at_value rule.Root n ++ token_breaks (entries_at n)) (group_breaks (members_of es))
unfolding shape_breaks
root_cases (placed v start end) es h =
    let n = placed v start end in
    ap (λ z. cond (not (is_object z)) (at_value rule.Root n) (cond (is_token n) (at_value rule.Root n ++ token_breaks (entries_at n)) (group_breaks (members_in z)))) h
    ∙ ap (λ t. cond t (at_value rule.Root n ++ token_breaks (entries_at n)) (group_breaks (members_of es))) (token_is n es h)

pub group_root : (n : Placed) (es : List Entry) → IsObjectOf n es → are_token es ≡ false → shape_breaks n ≡ group_breaks (members_of es)
group_root n es h t = root_cases n es h ∙ if_false (are_token es) (at_value rule.Root n ++ token_breaks (entries_at n)) (group_breaks (members_of es)) t

pub token_root : (n : Placed) (es : List Entry) → IsObjectOf n es → are_token es ≡ true → shape_breaks n ≡ at_value rule.Root n ++ token_breaks (entries_at n)
token_root n es h t = root_cases n es h ∙ if_true (are_token es) (at_value rule.Root n ++ token_breaks (entries_at n)) (group_breaks (members_of es)) t

-- a value under a child's name

no_token : (n : Placed) → None ≡ object_in (tree_of n) → is_token n ≡ false
no_token (placed a_null start end) e = refl
no_token (placed (a_boolean b) start end) e = refl
no_token (placed (a_number k) start end) e = refl
no_token (placed (a_string s) start end) e = refl
no_token (placed (an_array ns) start end) e = refl
no_token (placed (an_object ms) start end) e = absurd (cc)

no_child : (n : Placed) → None ≡ object_in (tree_of n) → child_breaks n ≡ at_value rule.Member n
no_child (placed a_null start end) e = refl
no_child (placed (a_boolean b) start end) e = refl
no_child (placed (a_number k) start end) e = refl
no_child (placed (a_string s) start end) e = refl
no_child (placed (an_array ns) start end) e = refl
no_child (placed (an_object ms) start end) e = absurd (cc)

none_under : (name : List ℕ) (n : Placed) → None ≡ object_in (tree_of n) → breaks_under name n ≡ at_value (rule_under name) n
none_under name n e =
    elim (bytes_eq name root_name) as (λ b. cond b (root_breaks n) (child_breaks n) ≡ at_value (cond b rule.RootToken rule.Member) n) [
      | true ↦ if_false (is_token n) (token_breaks (entries_at n)) (at_value rule.RootToken n) (no_token n e)
      | false ↦ no_child n e
    ]

pub first_under : (name : List ℕ) (n : Placed) (r : Rule) (s e : ℕ) → None ≡ object_in (tree_of n) → r ≡ rule_under name → s ≡ start_of n → e ≡ end_of n
    → slice_get (breaks_under name n) 0 ≡ Some (record { rule = r; start = s; end = e })
first_under name n r s e none is p q =
    ap (λ z. slice_get z 0) (none_under name n none) ∙ λ i. Some (record { rule = sym is i; start = sym p i; end = sym q i })

pub token_under : (name : List ℕ) (n : Placed) (es : List Entry) → IsObjectOf n es → are_token es ≡ true → breaks_under name n ≡ token_breaks es
token_under name n es h t =
    elim (bytes_eq name root_name) as (λ b. cond b (root_breaks n) (child_breaks n) ≡ token_breaks es) [
      | true ↦ if_true (is_token n) (token_breaks (entries_at n)) (at_value rule.RootToken n) (token_is n es h ∙ t) ∙ ap token_breaks (entries_are n es h)
      | false ↦ breaks_of n es h ∙ if_true (are_token es) (token_breaks es) (group_breaks (members_of es)) t
    ]

pub first_root : (name : List ℕ) (n : Placed) (es : List Entry) (s e : ℕ) → bytes_eq name root_name ≡ true → IsObjectOf n es → are_token es ≡ false → s ≡ start_of n → e ≡ end_of n
    → slice_get (breaks_under name n) 0 ≡ Some (record { rule = rule.RootToken; start = s; end = e })
first_root name n es s e root h t p q =
    ap (λ z. slice_get z 0) (if_true (bytes_eq name root_name) (root_breaks n) (child_breaks n) root
    ∙ if_false (is_token n) (token_breaks (entries_at n)) (at_value rule.RootToken n) (token_is n es h ∙ t))
    ∙ first_at rule.RootToken n [] s e p q

pub group_under : (name : List ℕ) (n : Placed) (es : List Entry) → bytes_eq name root_name ≡ false → IsObjectOf n es → are_token es ≡ false → breaks_under name n ≡ group_breaks (members_of es)
group_under name n es other h t =
    if_false (bytes_eq name root_name) (root_breaks n) (child_breaks n) other
    ∙ (breaks_of n es h ∙ if_false (are_token es) (token_breaks es) (group_breaks (members_of es)) t)
