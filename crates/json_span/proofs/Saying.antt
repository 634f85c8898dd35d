-- Values without places: what follows a text doesn't change what it says, and what a text shows it says.
use Rattle.std.proofs.Common.{ℕ, List, ◌++◌, ap, ◌∙◌, append_assoc}
use Rattle.json_span.specs.Plain.{PlainValue, Plains, PlainMembers}
use Rattle.json_span.specs.Tree.{Tree, Placed, Elements, Members}
use Rattle.json_span.specs.Reading.{ValueAt, with_span, Shape, null_shape, false_shape, true_shape, number_shape, string_shape, array_shape, object_shape, ElementsAt, no_element, first_element, MoreElements, last_element, next_element, MemberAt, member_at, MembersAt, no_member, first_member, MoreMembers, last_member, next_member, Shows}
use Rattle.json_span.specs.Says.{Says, says_null, says_false, says_true, says_number, says_string, says_list, says_object, SaysItems, says_no_item, says_items, SaysMoreItems, says_no_more_item, says_more_items, SaysMember, says_member, SaysMembers, says_no_member, says_members, SaysMoreMembers, says_no_more_member, says_more_members, SaysText, plain_of, plain_tree, plain_elements, plain_fields}
use Rattle.json_span.proofs.Slices.{frame, string_frame}

module _ {K : Type 0} (num : List ℕ → K) where
  mutual
    pub says_frame : {t u : List ℕ} {v : PlainValue K} → Says num t v u → (s : List ℕ) → Says num (t ++ s) v (u ++ s)
    says_frame (says_null x) s = says_null (frame x s)
    says_frame (says_false x) s = says_false (frame x s)
    says_frame (says_true x) s = says_true (frame x s)
    says_frame {u = u} (says_number k x e) s = says_number k (frame x s) (ap (λ z. z ++ s) e ∙ append_assoc k u s)
    says_frame (says_string x) s = says_string (string_frame x s)
    says_frame (says_list x y) s = says_list (frame x s) (items_frame y s)
    says_frame (says_object x y) s = says_object (frame x s) (members_frame y s)

    items_frame : {t u : List ℕ} {vs : Plains K} → SaysItems num t vs u → (s : List ℕ) → SaysItems num (t ++ s) vs (u ++ s)
    items_frame (says_no_item x) s = says_no_item (frame x s)
    items_frame (says_items x b y) s = says_items (says_frame x s) (frame b s) (more_items_frame y s)

    more_items_frame : {t u : List ℕ} {vs : Plains K} → SaysMoreItems num t vs u → (s : List ℕ) → SaysMoreItems num (t ++ s) vs (u ++ s)
    more_items_frame (says_no_more_item x) s = says_no_more_item (frame x s)
    more_items_frame (says_more_items c x b y) s = says_more_items (frame c s) (says_frame x s) (frame b s) (more_items_frame y s)

    pub member_frame : {t u q : List ℕ} {v : PlainValue K} → SaysMember num t q v u → (s : List ℕ) → SaysMember num (t ++ s) q v (u ++ s)
    member_frame (says_member x b c y) s = says_member (string_frame x s) (frame b s) (frame c s) (says_frame y s)

    members_frame : {t u : List ℕ} {ms : PlainMembers K} → SaysMembers num t ms u → (s : List ℕ) → SaysMembers num (t ++ s) ms (u ++ s)
    members_frame (says_no_member x) s = says_no_member (frame x s)
    members_frame (says_members x b y) s = says_members (member_frame x s) (frame b s) (more_members_frame y s)

    more_members_frame : {t u : List ℕ} {ms : PlainMembers K} → SaysMoreMembers num t ms u → (s : List ℕ) → SaysMoreMembers num (t ++ s) ms (u ++ s)
    more_members_frame (says_no_more_member x) s = says_no_more_member (frame x s)
    more_members_frame (says_more_members c x b y) s = says_more_members (frame c s) (member_frame x s) (frame b s) (more_members_frame y s)

  mutual
    pub value_says : {total : ℕ} {t u : List ℕ} {n : Placed} → ValueAt total t n u → Says num t (plain_of num n) u
    value_says (with_span x s e) = shape_says x

    shape_says : {total : ℕ} {t u : List ℕ} {v : Tree} → Shape total t v u → Says num t (plain_tree num v) u
    shape_says (null_shape x) = says_null x
    shape_says (false_shape x) = says_false x
    shape_says (true_shape x) = says_true x
    shape_says (number_shape {k = k} x e) = says_number k x e
    shape_says (string_shape x) = says_string x
    shape_says (array_shape x y) = says_list x (elements_say y)
    shape_says (object_shape x y) = says_object x (members_say y)

    elements_say : {total : ℕ} {t u : List ℕ} {ns : Elements} → ElementsAt total t ns u → SaysItems num t (plain_elements num ns) u
    elements_say (no_element x) = says_no_item x
    elements_say (first_element x b y) = says_items (value_says x) b (more_elements_say y)

    more_elements_say : {total : ℕ} {t u : List ℕ} {ns : Elements} → MoreElements total t ns u → SaysMoreItems num t (plain_elements num ns) u
    more_elements_say (last_element x) = says_no_more_item x
    more_elements_say (next_element c x b y) = says_more_items c (value_says x) b (more_elements_say y)

    member_says : {total : ℕ} {t u s : List ℕ} {start end : ℕ} {n : Placed} → MemberAt total t s start end n u → SaysMember num t s (plain_of num n) u
    member_says (member_at x p q b c y) = says_member x b c (value_says y)

    members_say : {total : ℕ} {t u : List ℕ} {ms : Members} → MembersAt total t ms u → SaysMembers num t (plain_fields num ms) u
    members_say (no_member x) = says_no_member x
    members_say (first_member x b y) = says_members (member_says x) b (more_members_say y)

    more_members_say : {total : ℕ} {t u : List ℕ} {ms : Members} → MoreMembers total t ms u → SaysMoreMembers num t (plain_fields num ms) u
    more_members_say (last_member x) = says_no_more_member x
    more_members_say (next_member c x b y) = says_more_members c (member_says x) b (more_members_say y)

  -- what a text shows it says
  pub shows_says : (text : List ℕ) (n : Placed) → Shows text n → SaysText num text (plain_of num n)
  shows_says text n (t, m, b, x, c) = record { before = t; after = m; lead = b; says = value_says x; trail = c }
