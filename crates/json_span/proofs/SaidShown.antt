-- What a text says it shows, with places, and so it says one thing.
use Rattle.std.proofs.Common.{◌≡◌, ℕ, ◌-◌, ◌≤◌, List, length, refl, sym, ap, ◌∙◌, arith, true, false}
use Rattle.grammar.proofs.Steps.{no_longer}
use Rattle.json_span.specs.Plain.{PlainValue, plain_null, plain_boolean, plain_number, plain_string, plain_array, plain_object, Plains, plains, PlainMembers, plain_members}
use Rattle.json_span.specs.Says.{Says, says_null, says_false, says_true, says_number, says_string, says_list, says_object, SaysItems, says_no_item, says_items, SaysMoreItems, says_no_more_item, says_more_items, SaysMember, says_member, SaysMembers, says_no_member, says_members, SaysMoreMembers, says_no_more_member, says_more_members, SaysText, plain_of, plain_tree, plain_elements, plain_fields}
use Rattle.json_span.specs.Tree.{Tree, a_null, a_boolean, a_number, a_string, an_array, an_object, Placed, placed, Elements, no_elements, an_element, Members, no_members, a_member}
use Rattle.json_span.specs.Reading.{BeginsAt, ValueAt, with_span, Shape, null_shape, false_shape, true_shape, number_shape, string_shape, array_shape, object_shape, ElementsAt, no_element, first_element, MoreElements, last_element, next_element, MemberAt, member_at, MembersAt, no_member, first_member, MoreMembers, last_member, next_member, Shows}
use Rattle.json_span.proofs.Unique.{shows_one}

begins : (total : ℕ) (t : List ℕ) → length t ≤ total → BeginsAt total t (total - length t)
begins total t h = omega arith

module _ {K : Type 0} (num : List ℕ → K) (total : ℕ) where
  -- with places, what is the same without them
  record HasValue (t : List ℕ) (v : PlainValue K) (u : List ℕ) : Type 0 where
    pub root : Placed
    pub shown : ValueAt total t root u
    pub same : plain_of num root ≡ v
    pub shorter : length u ≤ length t

  record HasElements (t : List ℕ) (vs : Plains K) (u : List ℕ) : Type 0 where
    pub list : Elements
    pub shown : ElementsAt total t list u
    pub same : plain_elements num list ≡ vs
    pub shorter : length u ≤ length t

  record HasMore (t : List ℕ) (vs : Plains K) (u : List ℕ) : Type 0 where
    pub list : Elements
    pub shown : MoreElements total t list u
    pub same : plain_elements num list ≡ vs
    pub shorter : length u ≤ length t

  record HasMember (t s : List ℕ) (v : PlainValue K) (u : List ℕ) : Type 0 where
    pub start : ℕ
    pub end : ℕ
    pub root : Placed
    pub shown : MemberAt total t s start end root u
    pub same : plain_of num root ≡ v
    pub shorter : length u ≤ length t

  record HasMembers (t : List ℕ) (ms : PlainMembers K) (u : List ℕ) : Type 0 where
    pub list : Members
    pub shown : MembersAt total t list u
    pub same : plain_fields num list ≡ ms
    pub shorter : length u ≤ length t

  record HasMoreMembers (t : List ℕ) (ms : PlainMembers K) (u : List ℕ) : Type 0 where
    pub list : Members
    pub shown : MoreMembers total t list u
    pub same : plain_fields num list ≡ ms
    pub shorter : length u ≤ length t

  put : (t u : List ℕ) (v : Tree) (w : PlainValue K) → length t ≤ total → length u ≤ length t → Shape total t v u → plain_tree num v ≡ w → HasValue t w u
  put t u v w h l x e = record { root = placed v (total - length t) (total - length u); shown = with_span x (begins total t h) (begins total u (omega (arith, h, l))); same = e; shorter = l }

  mutual
    value_placed : {t u : List ℕ} {v : PlainValue K} → Says num t v u → length t ≤ total → HasValue t v u
    value_placed {t} {u} (says_null x) h = put t u a_null plain_null h (no_longer x) (null_shape x) refl
    value_placed {t} {u} (says_false x) h = put t u (a_boolean false) (plain_boolean false) h (no_longer x) (false_shape x) refl
    value_placed {t} {u} (says_true x) h = put t u (a_boolean true) (plain_boolean true) h (no_longer x) (true_shape x) refl
    value_placed {t} {u} (says_number k x e) h = put t u (a_number k) (plain_number (num k)) h (no_longer x) (number_shape x e) refl
    value_placed {t} {u} (says_string {s = s} x) h = put t u (a_string s) (plain_string s) h (no_longer x.reads) (string_shape x) refl
    value_placed {t} {u} (says_list {vs = vs} x y) h =
        let l = no_longer x in
        let i = items_placed y (omega (arith, l, h)) in
        put t u (an_array i.list) (plain_array vs) h (omega (arith, l, i.shorter)) (array_shape x i.shown) (ap plain_array i.same)
    value_placed {t} {u} (says_object {ms = ms} x y) h =
        let l = no_longer x in
        let i = members_placed y (omega (arith, l, h)) in
        put t u (an_object i.list) (plain_object ms) h (omega (arith, l, i.shorter)) (object_shape x i.shown) (ap plain_object i.same)

    items_placed : {t u : List ℕ} {vs : Plains K} → SaysItems num t vs u → length t ≤ total → HasElements t vs u
    items_placed (says_no_item x) h = record { list = no_elements; shown = no_element x; same = refl; shorter = no_longer x }
    items_placed (says_items x b y) h =
        let p = value_placed x h in
        let l = no_longer b in
        let q = more_placed y (omega (arith, l, p.shorter, h)) in
        record { list = an_element p.root q.list; shown = first_element p.shown b q.shown; same = λ i. plains (p.same i) (q.same i); shorter = omega (arith, l, p.shorter, q.shorter) }

    more_placed : {t u : List ℕ} {vs : Plains K} → SaysMoreItems num t vs u → length t ≤ total → HasMore t vs u
    more_placed (says_no_more_item x) h = record { list = no_elements; shown = last_element x; same = refl; shorter = no_longer x }
    more_placed (says_more_items c x b y) h =
        let k = no_longer c in
        let p = value_placed x (omega (arith, k, h)) in
        let l = no_longer b in
        let q = more_placed y (omega (arith, k, l, p.shorter, h)) in
        record { list = an_element p.root q.list; shown = next_element c p.shown b q.shown; same = λ i. plains (p.same i) (q.same i); shorter = omega (arith, k, l, p.shorter, q.shorter) }

    member_placed : {t u s : List ℕ} {v : PlainValue K} → SaysMember num t s v u → length t ≤ total → HasMember t s v u
    member_placed {t} (says_member {l = m} x b c y) h =
        let k = no_longer x.reads in
        let l = no_longer b in
        let j = no_longer c in
        let p = value_placed y (omega (arith, k, l, j, h)) in
        record { start = total - length t; end = total - length m; root = p.root; shown = member_at x (begins total t h) (begins total m (omega (arith, k, h))) b c p.shown; same = p.same; shorter = omega (arith, k, l, j, p.shorter) }

    members_placed : {t u : List ℕ} {ms : PlainMembers K} → SaysMembers num t ms u → length t ≤ total → HasMembers t ms u
    members_placed (says_no_member x) h = record { list = no_members; shown = no_member x; same = refl; shorter = no_longer x }
    members_placed (says_members {s = s} x b y) h =
        let p = member_placed x h in
        let l = no_longer b in
        let q = more_members_placed y (omega (arith, l, p.shorter, h)) in
        record { list = a_member s p.start p.end p.root q.list; shown = first_member p.shown b q.shown; same = λ i. plain_members s (p.same i) (q.same i); shorter = omega (arith, l, p.shorter, q.shorter) }

    more_members_placed : {t u : List ℕ} {ms : PlainMembers K} → SaysMoreMembers num t ms u → length t ≤ total → HasMoreMembers t ms u
    more_members_placed (says_no_more_member x) h = record { list = no_members; shown = last_member x; same = refl; shorter = no_longer x }
    more_members_placed (says_more_members {s = s} c x b y) h =
        let k = no_longer c in
        let p = member_placed x (omega (arith, k, h)) in
        let l = no_longer b in
        let q = more_members_placed y (omega (arith, k, l, p.shorter, h)) in
        record { list = a_member s p.start p.end p.root q.list; shown = next_member c p.shown b q.shown; same = λ i. plain_members s (p.same i) (q.same i); shorter = omega (arith, k, l, p.shorter, q.shorter) }

-- a text that says a value shows it
pub says_shows : {K : Type 0} (num : List ℕ → K) (text : List ℕ) (v : PlainValue K) → SaysText num text v → (n : Placed) × Shows text n × (plain_of num n ≡ v)
says_shows num text v x =
    let p = value_placed num (length text) x.says (no_longer x.lead) in
    (p.root, (x.before, x.after, x.lead, p.shown, x.trail), p.same)

-- a text says at most one value
pub says_one : {K : Type 0} (num : List ℕ → K) (text : List ℕ) (v w : PlainValue K) → SaysText num text v → SaysText num text w → v ≡ w
says_one num text v w x y =
    let p = says_shows num text v x in
    let q = says_shows num text w y in
    sym p.2 ∙ ap (plain_of num) (shows_one text p.0 q.0 p.1 q.1) ∙ q.2
