-- What holds of the tokens and the strings of trees, and that members have names, stays so where trees are merged, expanded and made flat.
use Rattle.std.proofs.Common.{arith, ◌≡◌, ℕ, Bool, true, false, cond, All, List, [], ◌∷◌, ◌++◌, Option, Some, None, inl, inr, refl, sym, subst, ◌∙◌}
use Rattle.std.proofs.lemmas.List.Elements.{All-nil, All-push}
use Rattle.std.specs.Cmp.Lexicographic.{nat_list_cmp_total}
use Rattle.std.specs.FinMap as finite
use Rattle.std.specs.FinMap.{put, slice_cmp-IsAntisymmetric, nat_cmp-IsAntisymmetric}
use Rattle.std.specs.FinMap.Entries.{by_order}
use Rattle.std.specs.List.{AllByRecursion}
use Rattle.std.specs.Ordering.{eq_by_cmp, is_eq}
use Rattle.std.specs.Prelude.{◌⊎◌, option_and_then, unwrap_or, length}
use Rattle.std.specs.declared.cmp.Ordering.{Ordering}
use Rattle.std.specs.declared.cmp.Ordering.TheVariants.{Less, Equal, Greater}
use Rattle.ring.specs.Lists.{In}
use Rattle.tk_io.specs.Order.{text_cmp}
use Rattle.name_path.specs.Names.{IsName, AreNames, IsTokenPath, root_name}
use Rattle.token_tree.specs.Tree.{Definition, Properties, Child, a_token, a_group, Group, group, Children, no_children, child, Named, children_of, group_with}
use Rattle.token_tree.specs.declared.mark.Mark.{Mark}
use Rattle.token_tree.specs.declared.mark.Mark.TheVariants.{No, Yes, Because}
use Rattle.group_inherit.specs.Expansion.{properties_in, without_extension, over_inherited, Expands, expands, AreExpanded, no_member, own_token, child_group, IsInherited, no_target, its_target}
use Rattle.group_inherit.specs.Extension.{GroupPath, as_group, group_at, children_in, at_path, target_path}
use Rattle.group_inherit.specs.Flattening.{Nearest, nearest, TokenAt, tokens_in, tokens_among, tokens_at, nothing_above}
use Rattle.group_inherit.specs.Merging.{either, over_properties, children_by_name, over, over_members, over_child, empty_group, merged_over}

-- what holds of strings, which are the names of members and the reasons of marks, and of the definitions of tokens
pub record Holding : Type 1 where
  pub string : List ℕ → Type 0
  pub token : Definition → Type 0

-- a name of a token
abbrev pub IsTokenName : List ℕ → Type 0
IsTokenName name = IsName name ⊎ (name ≡ root_name)

-- a mark without a reason, or with one of which this holds
abbrev pub IsMarked : Holding → Option Mark → Type 0
IsMarked holds None = Unit {0}
IsMarked holds (Some No) = Unit {0}
IsMarked holds (Some Yes) = Unit {0}
IsMarked holds (Some (Because reason)) = holds.string reason

-- a token at a path that one can have, of whose strings and definition this holds
pub record IsTokenWith (holds : Holding) (token : TokenAt) : Type 0 where
  pub path : IsTokenPath token.0
  pub names : All holds.string token.0
  pub mark : IsMarked holds token.1.group_mark
  pub sound : holds.token token.1.def

pub is_equal : (o : Ordering) → is_eq o ≡ true → o ≡ Equal
is_equal Less h = cc
is_equal Equal h = refl
is_equal Greater h = cc

same_key : (j k : List ℕ) → text_cmp j k ≡ Equal → j ≡ k
same_key j k e = slice_cmp-IsAntisymmetric nat_cmp-IsAntisymmetric j k e

in_either : {A : Type 0} (x : A) (xs ys : List A) → In x (xs ++ ys) → In x xs ⊎ In x ys
in_either x [] ys i = inr i
in_either x (y ∷ xs) ys (inl same) = inl (inl same)
in_either x (y ∷ xs) ys (inr i) = elim (in_either x xs ys i) as (λ _. In x (y ∷ xs) ⊎ In x ys) [ inl a ↦ inl (inr a) | inr b ↦ inr b ]

module _ (holds : Holding) where
  nearer_marked : (own above : Option Mark) → IsMarked holds own → IsMarked holds above → IsMarked holds (either own above)
  nearer_marked None above h k = k
  nearer_marked (Some m) above h k = h

  -- groups stand under names, and tokens under names or `$root`
  abbrev mutual
    pub WellFormed : Group → Type 0
    WellFormed (group ps cs) = IsMarked holds ps.deprecated × AreWellFormed cs

    pub AreWellFormed : Children → Type 0
    AreWellFormed no_children = Unit {0}
    AreWellFormed (child name c cs) = IsWellFormed name c × AreWellFormed cs

    pub IsWellFormed : List ℕ → Child → Type 0
    IsWellFormed name (a_token d) = IsTokenName name × holds.string name × holds.token d
    IsWellFormed name (a_group g) = IsName name × holds.string name × WellFormed g

  -- Maps of children as lists of entries.

  abbrev AllFormed : List (List ℕ × Child) → Type 0
  AllFormed es = AllByRecursion (λ e. IsWellFormed e.0 e.1) es

  children_formed : (es : List (List ℕ × Child)) → AllFormed es → AreWellFormed (children_of es)
  children_formed [] h = tt
  children_formed (e ∷ es) (here, rest) = (here, children_formed es rest)

  placed_formed : (o : Ordering) (k : List ℕ) (c : Child) (e : List ℕ × Child) (es more : List (List ℕ × Child)) → text_cmp k e.0 ≡ o → IsWellFormed k c → AllFormed (e ∷ es) → AllFormed more
      → AllFormed (by_order o ((k, c) ∷ e ∷ es) ((e.0, c) ∷ es) (e ∷ more))
  placed_formed Less k c e es more is h all rest = (h, all)
  placed_formed Equal k c e es more is h all rest = (subst (λ n. IsWellFormed n c) (same_key k e.0 is) h, all.1)
  placed_formed Greater k c e es more is h all rest = (all.0, rest)

  put_formed : (k : List ℕ) (c : Child) (es : List (List ℕ × Child)) → IsWellFormed k c → AllFormed es → AllFormed (put text_cmp k c es)
  put_formed k c [] h all = (h, tt)
  put_formed k c (e ∷ es) h all = placed_formed (text_cmp k e.0) k c e es (put text_cmp k c es) refl h all (put_formed k c es h all.1)

  abbrev pub AreFormed : Named → Type 0
  AreFormed m = AllFormed (finite.entries m)

  no_entries : (es : List (List ℕ × Child)) → length es ≡ 0 → AllFormed es
  no_entries [] none = tt
  no_entries (e ∷ es) none = absurd (omega (arith, none))

  pub none_formed : AreFormed finite.empty
  none_formed = no_entries (finite.entries finite.empty) (sym (finite.len-entries finite.empty) ∙ finite.len-empty text_cmp Child)

  pub more_formed : (m : Named) (k : List ℕ) (c : Child) → AreFormed m → IsWellFormed k c → AreFormed (finite.insert m k c)
  more_formed m k c all h = subst AllFormed (sym (finite.entries-insert nat_list_cmp_total m k c)) (put_formed k c (finite.entries m) h all)

  found_formed : (b : Bool) (k : List ℕ) (e : List ℕ × Child) (rest : Option Child) (c : Child) → eq_by_cmp text_cmp k e.0 ≡ b → cond b (Some e.1) rest ≡ Some c → IsWellFormed e.0 e.1
      → (rest ≡ Some c → IsWellFormed k c) → IsWellFormed k c
  found_formed true k e rest c same is here later =
      let one : e.1 ≡ c = cc in
      subst (IsWellFormed k) one (subst (λ n. IsWellFormed n e.1) (sym (same_key k e.0 (is_equal (text_cmp k e.0) same))) here)
  found_formed false k e rest c same is here later = later is

  find_formed : (es : List (List ℕ × Child)) (k : List ℕ) (c : Child) → AllFormed es → finite.find text_cmp k es ≡ Some c → IsWellFormed k c
  find_formed [] k c all is = cc
  find_formed (e ∷ es) k c (here, rest) is = found_formed (eq_by_cmp text_cmp k e.0) k e (finite.find text_cmp k es) c refl is here (find_formed es k c rest)

  get_formed : (m : Named) (k : List ℕ) (c : Child) → AreFormed m → finite.get m k ≡ Some c → IsWellFormed k c
  get_formed m k c all is = find_formed (finite.entries m) k c all (sym (finite.get-entries m k) ∙ is)

  map_formed : (cs : Children) → AreWellFormed cs → AreFormed (children_by_name cs)
  map_formed no_children h = none_formed
  map_formed (child name c cs) h = more_formed (children_by_name cs) name c (map_formed cs h.1) h.0

  pub group_formed : (ps : Properties) (m : Named) → IsMarked holds ps.deprecated → AreFormed m → WellFormed (group_with ps m)
  group_formed ps m mark h = (mark, children_formed (finite.entries m) h)

  -- Merged groups.

  mutual
    pub over_formed : (g h : Group) → WellFormed g → WellFormed h → WellFormed (over g h)
    over_formed (group ps cs) (group qs ds) o p =
        group_formed (over_properties ps qs) (over_members cs (children_by_name ds)) (nearer_marked ps.deprecated qs.deprecated o.0 p.0) (members_formed cs (children_by_name ds) o.1 (map_formed ds p.1))

    members_formed : (cs : Children) (es : Named) → AreWellFormed cs → AreFormed es → AreFormed (over_members cs es)
    members_formed no_children es o h = h
    members_formed (child name c cs) es o h =
        more_formed (over_members cs es) name (over_child c (finite.get es name)) (members_formed cs es o.1 h) (child_formed name c (finite.get es name) o.0 (λ d e. get_formed es name d h e))

    child_formed : (name : List ℕ) (c : Child) (old : Option Child) → IsWellFormed name c → ((d : Child) → old ≡ Some d → IsWellFormed name d) → IsWellFormed name (over_child c old)
    child_formed name (a_token d) old o h = o
    child_formed name (a_group g) None o h = o
    child_formed name (a_group g) (Some (a_token d)) o h = o
    child_formed name (a_group g) (Some (a_group k)) o h = (o.0, o.1, over_formed g k o.2 (h (a_group k) refl).2)

  -- trees, each over those before it
  pub merged_formed : (before : Group) (trees : List Group) → WellFormed before → AllByRecursion WellFormed trees → WellFormed (merged_over before trees)
  merged_formed before [] h all = h
  merged_formed before (g ∷ gs) h all = merged_formed (over g before) gs (over_formed g before all.0 h) all.1

  -- Expanded groups. The names of a group are those that its children have.

  -- what holds of children, whatever stands under the groups
  abbrev FrontFormed : Children → Type 0
  FrontFormed no_children = Unit {0}
  FrontFormed (child name (a_token d) cs) = IsWellFormed name (a_token d) × FrontFormed cs
  FrontFormed (child name (a_group g) cs) = (IsName name × holds.string name) × FrontFormed cs

  front : (cs : Children) → AreWellFormed cs → FrontFormed cs
  front no_children h = tt
  front (child name (a_token d) cs) h = (h.0, front cs h.1)
  front (child name (a_group g) cs) h = ((h.0.0, h.0.1), front cs h.1)

  -- the same of a group
  abbrev IsFront : Group → Type 0
  IsFront g = IsMarked holds (properties_in g).deprecated × FrontFormed (children_in g)

  module _ (tree : Group) (fronts : (path : GroupPath) → IsFront (at_path tree path)) where
    mutual
      expanded_formed : (path : GroupPath) {e : Group} → Expands tree path e → WellFormed e
      expanded_formed path (expands {members = ms} a t) =
          let g = at_path tree path in
          inherited_formed (target_path g) (group_with (without_extension (properties_in g)) (children_by_name ms)) t
          (group_formed (without_extension (properties_in g)) (children_by_name ms) (fronts path).0 (map_formed ms (all_expanded path (children_in g) a (fronts path).1)))

      all_expanded : (path : GroupPath) (cs : Children) {ms : Children} → AreExpanded tree path cs ms → FrontFormed cs → AreWellFormed ms
      all_expanded path no_children no_member h = tt
      all_expanded path (child name (a_token d) cs) (own_token a) h = (h.0, all_expanded path cs a h.1)
      all_expanded path (child name (a_group g) cs) (child_group x a) h = ((h.0.0, h.0.1, expanded_formed (path ++ name ∷ []) x), all_expanded path cs a h.1)

      inherited_formed : (o : Option GroupPath) (local : Group) {i : Option Group} → IsInherited tree o i → WellFormed local → WellFormed (over_inherited local i)
      inherited_formed None local no_target h = h
      inherited_formed (Some path) local (its_target {e = e} x) h = over_formed local e h (expanded_formed path x)

  -- The group at a path.

  group_in_child : (name : List ℕ) (c : Child) (g : Group) → IsWellFormed name c → as_group c ≡ Some g → WellFormed g
  group_in_child name (a_token d) g h is = cc
  group_in_child name (a_group k) g h is = let same : k ≡ g = cc in subst WellFormed same h.2

  behind_formed : (o : Option Child) (name : List ℕ) (path : GroupPath) (g : Group) → ((c : Child) → o ≡ Some c → IsWellFormed name c)
      → ((k : Group) → WellFormed k → group_at k path ≡ Some g → WellFormed g) → option_and_then (λ h. group_at h path) (option_and_then as_group o) ≡ Some g → WellFormed g
  behind_formed None name path g all later is = cc
  behind_formed (Some (a_token d)) name path g all later is = cc
  behind_formed (Some (a_group k)) name path g all later is = later k (all (a_group k) refl).2 is

  at_formed : (path : GroupPath) (tree g : Group) → WellFormed tree → group_at tree path ≡ Some g → WellFormed g
  at_formed [] tree g h is = let same : tree ≡ g = cc in subst WellFormed same h
  at_formed (name ∷ path) (group ps cs) g h is =
      behind_formed (finite.get (children_by_name cs) name) name path g (λ c e. get_formed (children_by_name cs) name c (map_formed cs h.1) e) (λ k w e. at_formed path k g w e) is

  or_empty : (o : Option Group) → ((g : Group) → o ≡ Some g → WellFormed g) → IsFront (unwrap_or o empty_group)
  or_empty None h = (tt, tt)
  or_empty (Some (group ps cs)) h = ((h (group ps cs) refl).0, front cs (h (group ps cs) refl).1)

  fronts_formed : (tree : Group) → WellFormed tree → (path : GroupPath) → IsFront (at_path tree path)
  fronts_formed tree h path = or_empty (group_at tree path) (λ g e. at_formed path tree g h e)

  expansion_formed : (tree e : Group) → WellFormed tree → Expands tree [] e → WellFormed e
  expansion_formed tree e h x = expanded_formed tree (fronts_formed tree h) [] x

  -- Tokens of a group.

  -- what holds of the path of a group and of what the groups above it say
  abbrev IsAbove : GroupPath → Nearest → Type 0
  IsAbove path near = AreNames path × All holds.string path × IsMarked holds near.mark

  mutual
    tokens_formed : (path : GroupPath) (near : Nearest) (g : Group) → IsAbove path near → WellFormed g → (t : TokenAt) → In t (tokens_in path near g) → IsTokenWith holds t
    tokens_formed path near (group ps cs) above h t i = among_formed path (nearest ps near) cs (above.0, above.1, nearer_marked ps.deprecated near.mark h.0 above.2) h.1 t i

    among_formed : (path : GroupPath) (near : Nearest) (cs : Children) → IsAbove path near → AreWellFormed cs → (t : TokenAt) → In t (tokens_among path near cs) → IsTokenWith holds t
    among_formed path near no_children above h t i = absurd i
    among_formed path near (child name c cs) above h t i =
        elim (in_either t (tokens_at (path ++ name ∷ []) near c) (tokens_among path near cs) i) as (λ _. IsTokenWith holds t) [
          | inl j ↦ child_tokens path name near c above h.0 t j
          | inr j ↦ among_formed path near cs above h.1 t j
        ]

    child_tokens : (path : GroupPath) (name : List ℕ) (near : Nearest) (c : Child) → IsAbove path near → IsWellFormed name c → (t : TokenAt) → In t (tokens_at (path ++ name ∷ []) near c) → IsTokenWith holds t
    child_tokens path name near (a_token d) above h t (inl same) =
        subst (IsTokenWith holds) (sym same) (record {
          path = record { front = path; last = name; whole = refl; names = above.0; ends = h.0 };
          names = All-push holds.string path name above.1 h.1;
          mark = above.2;
          sound = h.2;
        })
    child_tokens path name near (a_token d) above h t (inr i) = absurd i
    child_tokens path name near (a_group g) above h t i =
        tokens_formed (path ++ name ∷ []) near g (All-push IsName path name above.0 h.0, All-push holds.string path name above.1 h.1, above.2) h.2 t i

  -- the tokens of the expansion of a tree
  pub expanded_tokens : (tree e : Group) (tokens : List TokenAt) → WellFormed tree → Expands tree [] e → tokens ≡ tokens_in [] nothing_above e → (t : TokenAt) → In t tokens → IsTokenWith holds t
  expanded_tokens tree e tokens h x list t i =
      tokens_formed [] nothing_above e (All-nil IsName, All-nil holds.string, tt) (expansion_formed tree e h x) t (subst (In t) list i)
