-- Each entry of the list of a file's breaks breaks its rule at its place, and each broken rule is an entry.
use Rattle.std.proofs.Common.{◌≡◌, ◌≢◌, ◌⊎◌, inl, inr, ℕ, Bool, true, false, not, List, [], ◌∷◌, ◌++◌, codes, if◌then◌else◌, refl, sym, ap, ◌∙◌, subst}
use Rattle.std.proofs.lemmas.Slice.Eq.{bytes_eq-Decides}
use Rattle.std.specs.List.{flat_map}
use Rattle.std.specs.Str.{bytes_eq}
use Rattle.json_span.specs.Tree.{a_null, a_boolean, a_number, a_string, an_array, an_object, Placed, placed, Members, no_members, a_member, Entry, tree_of, entries_in}
use Rattle.name_path.specs.Names.{root_name}
use Rattle.ring.proofs.Ends.{in_left, in_right, in_cases}
use Rattle.ring.specs.Lists.{In}
use Rattle.token_tree.specs.Shape.{Break, members_in, entries_at, is_object, has, are_token, is_token, has_group_form, has_token_form, at_value, at_name, token_member_breaks, token_breaks, root_breaks, reserved_breaks, group_member_breaks, group_breaks, child_breaks, shape_breaks}
use Rattle.token_tree.specs.Texts.{is_reserved, is_name}
use Rattle.token_tree.specs.declared.fault.Rule.TheVariants as rule
use Rattle.source_trees.specs.ShapeRules.{IsToken, IsGroup, IsReserved, IsChild, Role, a_group, a_token, Stands, root_group, root_as_token, child_group, child_token, own_token, at, at_name_of, BreaksShape, no_object, token_as_root, bad_name, no_member, group_property, token_property, token_child, no_root_token, ShapeBreaksBreak, BrokenShapesAreListed}

in_flat : {A B : Type 0} (f : A → List B) (xs : List A) (a : A) (b : B) → In a xs → In b (f a) → In b (flat_map f xs)
in_flat f [] a b i j = absurd i
in_flat f (x ∷ xs) a b (inl is) j = in_left (f x) (flat_map f xs) b (subst (λ y. In b (f y)) is j)
in_flat f (x ∷ xs) a b (inr i) j = in_right (f x) (flat_map f xs) b (in_flat f xs a b i j)

from_flat : {A B : Type 0} (f : A → List B) (xs : List A) (b : B) → In b (flat_map f xs) → (a : A) × In a xs × In b (f a)
from_flat f [] b i = absurd i
from_flat {A} f (x ∷ xs) b i = go (λ j. from_flat f xs b j) (in_cases (f x) (flat_map f xs) b i)
  where
    go : (In b (flat_map f xs) → (a : A) × In a xs × In b (f a)) → In b (f x) ⊎ In b (flat_map f xs) → (a : A) × In a (x ∷ xs) × In b (f a)
    go later (inl j) = (x, inl refl, j)
    go later (inr j) = (let r = later j in (r.0, inr r.1, r.2))

alone : {x b : Break} → In b (x ∷ []) → b ≡ x
alone (inl e) = e
alone (inr i) = absurd i

-- the members of an object, and of any value
members_are : (n : Placed) → entries_in (members_in (tree_of n)) ≡ entries_at n
members_are n = refl

-- a token is an object
object_token : (n : Placed) → is_token n ≡ true → is_object (tree_of n) ≡ true
object_token (placed a_null start end) e = cc
object_token (placed (a_boolean b) start end) e = cc
object_token (placed (a_number k) start end) e = cc
object_token (placed (a_string s) start end) e = cc
object_token (placed (an_array ns) start end) e = cc
object_token (placed (an_object ms) start end) e = refl

no_two : {t : Bool} → t ≡ true → t ≡ false → ⊥
no_two e f = (let k : true ≡ false = sym e ∙ f in cc)

is_root_name : (name : List ℕ) → bytes_eq name root_name ≡ true → name ≡ root_name
is_root_name name e = (bytes_eq-Decides name root_name).0 e

other_name : (name : List ℕ) → bytes_eq name root_name ≡ false → name ≢ root_name
other_name name e is = no_two ((bytes_eq-Decides name root_name).1 is) e

-- `$root` begins with `$`
root_reserved : (name : List ℕ) → name ≡ root_name → is_reserved name ≡ true
root_reserved name e = ap is_reserved e

plain_other : (name : List ℕ) → is_reserved name ≡ false → bytes_eq name root_name ≡ false
plain_other name p = go (bytes_eq name root_name) refl
  where
    go : (t : Bool) → bytes_eq name root_name ≡ t → t ≡ false
    go true e = absurd (no_two (root_reserved name (is_root_name name e)) p)
    go false e = refl

differs : (name : List ℕ) → name ≢ root_name → bytes_eq name root_name ≡ false
differs name h = go (bytes_eq name root_name) refl
  where
    go : (t : Bool) → bytes_eq name root_name ≡ t → t ≡ false
    go true e = absurd (h (is_root_name name e))
    go false e = refl

module _ (root : Placed) where
  as_told : (b told : Break) → b ≡ told → BreaksShape root told → BreaksShape root b
  as_told b told e x = subst (BreaksShape root) (sym e) x

  -- Each entry breaks its rule.

  token : (t : Placed) → Stands root a_token t → (b : Break) → In b (token_breaks (entries_at t)) → BreaksShape root b
  token t s b i = go (from_flat (token_member_breaks (has (codes "$value") (entries_at t))) (entries_at t) b i)
    where
      by : (e : Entry) → In e (entries_at t) → (p : Bool) → is_reserved e.name ≡ p → (q : Bool) → has_token_form (has (codes "$value") (entries_at t)) e.name (tree_of e.value) ≡ q
          → In b (if not p then at_name rule.TokenChild e else if q then [] else at_value rule.Property e.value) → BreaksShape root b
      by e j true p true q k = absurd k
      by e j true p false q k = as_told b (at rule.Property e.value) (alone k) (token_property s (record { among = j; reserved = p }) q)
      by e j false p q f k = as_told b (at_name_of rule.TokenChild e) (alone k) (token_child s (record { among = j; plain = p }))

      go : (e : Entry) × In e (entries_at t) × In b (token_member_breaks (has (codes "$value") (entries_at t)) e) → BreaksShape root b
      go (e, j, k) = by e j (is_reserved e.name) refl (has_token_form (has (codes "$value") (entries_at t)) e.name (tree_of e.value)) refl k

  -- a member of a group that is none of its children
  root_member : (g : Placed) → Stands root a_group g → (e : Entry) → In e (entries_at g) → e.name ≡ root_name → (b : Break) → In b (root_breaks e.value) → BreaksShape root b
  root_member g s e i is b j = go (is_token e.value) refl j
    where
      go : (t : Bool) → is_token e.value ≡ t → In b (if t then token_breaks (entries_at e.value) else at_value rule.RootToken e.value) → BreaksShape root b
      go true p k = token e.value (own_token e s i is p) b k
      go false p k = as_told b (at rule.RootToken e.value) (alone k) (no_root_token e s i is p)

  reserved_member : (g : Placed) → Stands root a_group g → (e : Entry) → In e (entries_at g) → e.name ≢ root_name → is_reserved e.name ≡ true → (b : Break) → In b (reserved_breaks e) → BreaksShape root b
  reserved_member g s e i other p b j = go (has_group_form e.name (tree_of e.value)) refl j
    where
      go : (t : Bool) → has_group_form e.name (tree_of e.value) ≡ t → In b (if t then [] else at_value rule.Property e.value) → BreaksShape root b
      go true f k = absurd k
      go false f k = as_told b (at rule.Property e.value) (alone k) (group_property s (record { among = i; reserved = p }) other f)

  member : (g : Placed) → Stands root a_group g → (e : Entry) → In e (entries_at g) → (b : Break)
      → (is_reserved e.name ≡ false → In b (child_breaks e.value) → BreaksShape root b) → In b (group_member_breaks e (child_breaks e.value)) → BreaksShape root b
  member g s e i b child j = go (bytes_eq e.name root_name) refl (is_reserved e.name) refl (is_name e.name) refl j
    where
      named : is_reserved e.name ≡ false → is_name e.name ≡ false → In b (at_name rule.Name e) ⊎ In b (child_breaks e.value) → BreaksShape root b
      named p f (inl k) = as_told b (at_name_of rule.Name e) (alone k) (bad_name s (record { among = i; plain = p }) f)
      named p f (inr k) = child p k

      go : (x : Bool) → bytes_eq e.name root_name ≡ x → (y : Bool) → is_reserved e.name ≡ y → (z : Bool) → is_name e.name ≡ z
          → In b (if x then root_breaks e.value else if y then reserved_breaks e else if z then child_breaks e.value else at_name rule.Name e ++ child_breaks e.value) → BreaksShape root b
      go true x y p z f k = root_member g s e i (is_root_name e.name x) b k
      go false x true p z f k = reserved_member g s e i (other_name e.name x) p b k
      go false x false p true f k = child p k
      go false x false p false f k = named p f (in_cases (at_name rule.Name e) (child_breaks e.value) b k)

  either : {A B C : Type 0} → (A → C) → (B → C) → A ⊎ B → C
  either f g (inl x) = f x
  either f g (inr y) = g y

  by_kind : (n : Placed) (others : List Break) (b : Break) (t : Bool) → is_token n ≡ t → (is_token n ≡ true → In b (token_breaks (entries_at n)) → BreaksShape root b)
      → (is_token n ≡ false → In b others → BreaksShape root b) → In b (if t then token_breaks (entries_at n) else others) → BreaksShape root b
  by_kind n others b true e of_token of_group j = of_token e j
  by_kind n others b false e of_token of_group j = of_group e j

  mutual
    group : (g : Placed) → Stands root a_group g → (ms : Members) → ((e : Entry) → In e (entries_in ms) → In e (entries_at g)) → (b : Break) → In b (group_breaks ms) → BreaksShape root b
    group g s no_members into b i = absurd i
    group g s (a_member name start end n ms) into b i =
        either (member g s (record { name = name; start = start; end = end; value = n }) (into (record { name = name; start = start; end = end; value = n }) (inl refl)) b
        (λ p j. child g s name start end n (into (record { name = name; start = start; end = end; value = n }) (inl refl)) p b j)) (λ j. group g s ms (λ e k. into e (inr k)) b j)
        (in_cases (group_member_breaks (record { name = name; start = start; end = end; value = n }) (child_breaks n)) (group_breaks ms) b i)

    child : (g : Placed) → Stands root a_group g → (name : List ℕ) (start end : ℕ) (n : Placed) → In (record { name = name; start = start; end = end; value = n }) (entries_at g)
        → is_reserved name ≡ false → (b : Break) → In b (child_breaks n) → BreaksShape root b
    child g s name start end (placed a_null x y) i p b j = as_told b (at rule.Member (placed a_null x y)) (alone j) (no_member s (record { among = i; plain = p }) refl)
    child g s name start end (placed (a_boolean c) x y) i p b j = as_told b (at rule.Member (placed (a_boolean c) x y)) (alone j) (no_member s (record { among = i; plain = p }) refl)
    child g s name start end (placed (a_number c) x y) i p b j = as_told b (at rule.Member (placed (a_number c) x y)) (alone j) (no_member s (record { among = i; plain = p }) refl)
    child g s name start end (placed (a_string c) x y) i p b j = as_told b (at rule.Member (placed (a_string c) x y)) (alone j) (no_member s (record { among = i; plain = p }) refl)
    child g s name start end (placed (an_array c) x y) i p b j = as_told b (at rule.Member (placed (an_array c) x y)) (alone j) (no_member s (record { among = i; plain = p }) refl)
    child g s name start end (placed (an_object ms) x y) i p b j =
        by_kind (placed (an_object ms) x y) (group_breaks ms) b (are_token (entries_in ms)) refl
        (λ t k. token (placed (an_object ms) x y) (child_token s (record { among = i; plain = p }) t) b k)
        (λ t k. group (placed (an_object ms) x y) (child_group s (record { among = i; plain = p }) (record { object = refl; no_token = t })) ms (λ e m. m) b k) j

  pub breaks : (b : Break) → In b (shape_breaks root) → BreaksShape root b
  unfolding shape_breaks
  breaks b i = go (is_object (tree_of root)) refl (is_token root) refl i
    where
      of_root : is_token root ≡ true → In b (at_value rule.Root root) ⊎ In b (token_breaks (entries_at root)) → BreaksShape root b
      of_root t (inl j) = as_told b (at rule.Root root) (alone j) (token_as_root t)
      of_root t (inr j) = token root (root_as_token t) b j

      go : (o : Bool) → is_object (tree_of root) ≡ o → (t : Bool) → is_token root ≡ t
          → In b (if not o then at_value rule.Root root else if t then at_value rule.Root root ++ token_breaks (entries_at root) else group_breaks (members_in (tree_of root))) → BreaksShape root b
      go false o t e j = as_told b (at rule.Root root) (alone j) (no_object o)
      go true o true e j = of_root e (in_cases (at_value rule.Root root) (token_breaks (entries_at root)) b j)
      go true o false e j = group root (root_group (record { object = o; no_token = e })) (members_in (tree_of root)) (λ x k. k) b j

  -- Each broken rule is an entry.

  abbrev breaks_at : Role → Placed → List Break
  breaks_at a_group n = group_breaks (members_in (tree_of n))
  breaks_at a_token n = token_breaks (entries_at n)

  -- what is told of a group's member
  of_member : (ms : Members) (e : Entry) → In e (entries_in ms) → (b : Break) → In b (group_member_breaks e (child_breaks e.value)) → In b (group_breaks ms)
  of_member no_members e i b j = absurd i
  of_member (a_member name start end n ms) e (inl same) b j =
      in_left (group_member_breaks (record { name = name; start = start; end = end; value = n }) (child_breaks n)) (group_breaks ms) b
      (subst (λ (x : Entry). In b (group_member_breaks x (child_breaks x.value))) same j)
  of_member (a_member name start end n ms) e (inr i) b j =
      in_right (group_member_breaks (record { name = name; start = start; end = end; value = n }) (child_breaks n)) (group_breaks ms) b (of_member ms e i b j)

  of_child : (g : Placed) (e : Entry) → IsChild g e → (b : Break) → In b (child_breaks e.value) → In b (breaks_at a_group g)
  of_child g e c b i = of_member (members_in (tree_of g)) e c.among b (go (bytes_eq e.name root_name) (plain_other e.name c.plain) (is_reserved e.name) c.plain (is_name e.name))
    where
      go : (x : Bool) → x ≡ false → (y : Bool) → y ≡ false → (z : Bool)
          → In b (if x then root_breaks e.value else if y then reserved_breaks e else if z then child_breaks e.value else at_name rule.Name e ++ child_breaks e.value)
      go true p y q z = cc
      go false p true q z = cc
      go false p false q true = i
      go false p false q false = in_right (at_name rule.Name e) (child_breaks e.value) b i

  of_root_member : (g : Placed) (e : Entry) → In e (entries_at g) → e.name ≡ root_name → (b : Break) → In b (root_breaks e.value) → In b (breaks_at a_group g)
  of_root_member g e i is b j =
      of_member (members_in (tree_of g)) e i b
      (subst (λ x. In b (if x then root_breaks e.value else if is_reserved e.name then reserved_breaks e else if is_name e.name then child_breaks e.value else at_name rule.Name e ++ child_breaks e.value))
      (sym ((bytes_eq-Decides e.name root_name).1 is)) j)

  of_reserved : (g : Placed) (e : Entry) → IsReserved g e → e.name ≢ root_name → (b : Break) → In b (reserved_breaks e) → In b (breaks_at a_group g)
  of_reserved g e r other b j = of_member (members_in (tree_of g)) e r.among b (go (bytes_eq e.name root_name) (differs e.name other) (is_reserved e.name) r.reserved)
    where
      go : (x : Bool) → x ≡ false → (y : Bool) → y ≡ true
          → In b (if x then root_breaks e.value else if y then reserved_breaks e else if is_name e.name then child_breaks e.value else at_name rule.Name e ++ child_breaks e.value)
      go true p y q = cc
      go false p true q = j
      go false p false q = cc

  -- an object as a child: a token's members, or a group's
  token_inside : (n : Placed) → IsToken n → (b : Break) → In b (token_breaks (entries_at n)) → In b (child_breaks n)
  token_inside (placed a_null x y) t b i = absurd i
  token_inside (placed (a_boolean c) x y) t b i = absurd i
  token_inside (placed (a_number c) x y) t b i = absurd i
  token_inside (placed (a_string c) x y) t b i = absurd i
  token_inside (placed (an_array c) x y) t b i = absurd i
  token_inside (placed (an_object ms) x y) t b i = subst (λ s. In b (if s then token_breaks (entries_in ms) else group_breaks ms)) (sym t) i

  group_inside : (n : Placed) → IsGroup n → (b : Break) → In b (breaks_at a_group n) → In b (child_breaks n)
  group_inside (placed a_null x y) g b i = absurd i
  group_inside (placed (a_boolean c) x y) g b i = absurd i
  group_inside (placed (a_number c) x y) g b i = absurd i
  group_inside (placed (a_string c) x y) g b i = absurd i
  group_inside (placed (an_array c) x y) g b i = absurd i
  group_inside (placed (an_object ms) x y) g b i = subst (λ s. In b (if s then token_breaks (entries_in ms) else group_breaks ms)) (sym g.no_token) i

  no_object_inside : (n : Placed) → is_object (tree_of n) ≡ false → In (at rule.Member n) (child_breaks n)
  no_object_inside (placed a_null x y) e = inl refl
  no_object_inside (placed (a_boolean c) x y) e = inl refl
  no_object_inside (placed (a_number c) x y) e = inl refl
  no_object_inside (placed (a_string c) x y) e = inl refl
  no_object_inside (placed (an_array c) x y) e = inl refl
  no_object_inside (placed (an_object ms) x y) e = cc

  abbrev whole : Bool → Bool → List Break
  whole o t = if not o then at_value rule.Root root else if t then at_value rule.Root root ++ token_breaks (entries_at root) else group_breaks (members_in (tree_of root))

  in_whole : (o t : Bool) → is_object (tree_of root) ≡ o → is_token root ≡ t → (b : Break) → In b (whole o t) → In b (shape_breaks root)
  unfolding shape_breaks
  in_whole o t p q b i = subst (λ x. In b (whole x (is_token root))) (sym p) (subst (λ x. In b (whole o x)) (sym q) i)

  listed : {role : Role} {n : Placed} → Stands root role n → (b : Break) → In b (breaks_at role n) → In b (shape_breaks root)
  listed (root_group g) b i = in_whole true false g.object g.no_token b i
  listed (root_as_token t) b i = in_whole true true (object_token root t) t b (in_right (at_value rule.Root root) (token_breaks (entries_at root)) b i)
  listed (child_group {g} {e} s c x) b i = listed s b (of_child g e c b (group_inside e.value x b i))
  listed (child_token {g} {e} s c t) b i = listed s b (of_child g e c b (token_inside e.value t b i))
  listed (own_token {g} e s i is t) b j =
      listed s b (of_root_member g e i is b (subst (λ x. In b (if x then token_breaks (entries_at e.value) else at_value rule.RootToken e.value)) (sym t) j))

  -- a token's member
  of_token_member : (t : Placed) (e : Entry) → In e (entries_at t) → (p q : Bool) → is_reserved e.name ≡ p → has_token_form (has (codes "$value") (entries_at t)) e.name (tree_of e.value) ≡ q → (b : Break)
      → In b (if not p then at_name rule.TokenChild e else if q then [] else at_value rule.Property e.value) → In b (token_breaks (entries_at t))
  of_token_member t e i p q x y b j =
      in_flat (token_member_breaks (has (codes "$value") (entries_at t))) (entries_at t) e b i
      (subst (λ z. In b (if not z then at_name rule.TokenChild e else if has_token_form (has (codes "$value") (entries_at t)) e.name (tree_of e.value) then [] else at_value rule.Property e.value)) (sym x)
      (subst (λ z. In b (if not p then at_name rule.TokenChild e else if z then [] else at_value rule.Property e.value)) (sym y) j))

  pub told : {b : Break} → BreaksShape root b → In b (shape_breaks root)
  told (no_object o) = in_whole false (is_token root) o refl (at rule.Root root) (inl refl)
  told (token_as_root t) = in_whole true true (object_token root t) t (at rule.Root root) (inl refl)
  told (bad_name {g} {e} s c f) =
      listed s (at_name_of rule.Name e) (of_member (members_in (tree_of g)) e c.among (at_name_of rule.Name e) (go (bytes_eq e.name root_name) (plain_other e.name c.plain) (is_reserved e.name) c.plain (is_name e.name) f))
    where
      go : (x : Bool) → x ≡ false → (y : Bool) → y ≡ false → (z : Bool) → z ≡ false
          → In (at_name_of rule.Name e) (if x then root_breaks e.value else if y then reserved_breaks e else if z then child_breaks e.value else at_name rule.Name e ++ child_breaks e.value)
      go true p y q z r = cc
      go false p true q z r = cc
      go false p false q true r = cc
      go false p false q false r = inl refl
  told (no_member {g} {e} s c o) = listed s (at rule.Member e.value) (of_child g e c (at rule.Member e.value) (no_object_inside e.value o))
  told (group_property {g} {e} s r other f) =
      listed s (at rule.Property e.value) (of_reserved g e r other (at rule.Property e.value)
      (subst (λ z. In (at rule.Property e.value) (if z then [] else at_value rule.Property e.value)) (sym f) (inl refl)))
  told (token_property {t} {e} s r f) = listed s (at rule.Property e.value) (of_token_member t e r.among true false r.reserved f (at rule.Property e.value) (inl refl))
  told (token_child {t} {e} s c) =
      listed s (at_name_of rule.TokenChild e) (of_token_member t e c.among false (has_token_form (has (codes "$value") (entries_at t)) e.name (tree_of e.value)) c.plain refl (at_name_of rule.TokenChild e) (inl refl))
  told (no_root_token {g} e s i is f) =
      listed s (at rule.RootToken e.value) (of_root_member g e i is (at rule.RootToken e.value)
      (subst (λ x. In (at rule.RootToken e.value) (if x then token_breaks (entries_at e.value) else at_value rule.RootToken e.value)) (sym f) (inl refl)))

pub shape_breaks_break : ShapeBreaksBreak
shape_breaks_break root b i = breaks root b i

pub broken_shapes_are_listed : BrokenShapesAreListed
broken_shapes_are_listed root b x = told root x
