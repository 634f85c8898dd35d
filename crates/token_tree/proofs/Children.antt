-- The children of an object as a list, and what stands at each name.
use Rattle.std.proofs.Common.{◌≡◌, ℕ, Bool, true, false, ◌||◌, cond, List, [], ◌∷◌, ◌++◌, append_assoc, Option, Some, None, option_map, refl, sym, ap, ◌∙◌, Ordering, Less, Equal, Greater}
use Rattle.std.specs.Cmp.{tied_itself}
use Rattle.std.specs.Cmp.Lexicographic.{nat_list_cmp_total}
use Rattle.std.specs.FinMap as map
use Rattle.std.specs.FinMap.{find}
use Rattle.std.specs.FinMap.Entries.{find_tied}
use Rattle.std.specs.Option.{option_or}
use Rattle.std.specs.Ordering.{is_eq, eq_by_cmp}
use Rattle.std.specs.Str.{bytes_eq}
use Rattle.tk_io.specs.Order.{text_cmp}
use Rattle.tk_io.proofs.TextMaps.{text_cmp-IsAntisymmetric}
use Rattle.json_span.specs.Tree.{Placed, placed, Entry, an_object, entries_in, members_of, tree_of, value_of_name}
use Rattle.json_span.proofs.Views.{members_of-in}
use Rattle.json_span.specs.Flaw.{is_seen, flaw_in, flaw_in_members, equal_names}
use Rattle.token_tree.specs.Answer.{IsObjectOf}
use Rattle.token_tree.specs.Promise.{StandsIn}
use Rattle.token_tree.specs.Tree.{Child, Named, children_of, child_among, child_at}
use Rattle.token_tree.specs.Shape.{entries_at, is_object, is_child, child_of, group_of, put_children}
use Rattle.token_tree.specs.inner.Lists.{KeysAreApart, child_in, with_front}
use Rattle.token_tree.proofs.PartsWithoutFlaws.{not_seen, rest_none, right_none}
use Rattle.token_tree.proofs.Names.{same_bool, same_text, text_same}
use Rattle.token_tree.proofs.Places.{names_differ}
use Rattle.token_tree.proofs.Sound.{object_members, entries_are}

abbrev pub children_in : List ℕ → List ℕ → List Entry → List (List ℕ × Child)
children_in file text [] = []
children_in file text (e ∷ es) = with_front (child_in file text e) (children_in file text es)

front_first : {A : Type 0} (o : Option A) (xs : List A) → with_front o [] ++ xs ≡ with_front o xs
front_first None xs = refl
front_first (Some x) xs = refl

-- a child goes over from what is left to what is read
pub one_read : (file text : List ℕ) (done new : List (List ℕ × Child)) (e : Entry) (left before : List Entry) (o : Option (List ℕ × Child)) (all : List (List ℕ × Child)) → before ≡ e ∷ left → new ≡ done ++ with_front o [] → o ≡ child_in file text e
    → done ++ children_in file text before ≡ all → new ++ children_in file text left ≡ all
one_read file text done new e left before o all steps pushed same h =
    ap (λ z. z ++ children_in file text left) (pushed ∙ ap (λ z. done ++ with_front z []) same)
    ∙ (append_assoc done (with_front (child_in file text e) []) (children_in file text left)
    ∙ (ap (λ z. done ++ z) (front_first (child_in file text e) (children_in file text left))
    ∙ (ap (λ l. done ++ children_in file text l) (sym steps) ∙ h)))

tied : (r : Ordering) → is_eq r ≡ true → r ≡ Equal
tied Less e = absurd (cc)
tied Equal e = refl
tied Greater e = absurd (cc)

seen_first : (names : List (List ℕ)) (s q : List ℕ) → q ≡ s → is_seen (s ∷ names) q ≡ true
seen_first names s q e = ap (λ b. b || is_seen names q) (text_same s q (sym e))

seen_later : (names : List (List ℕ)) (s q : List ℕ) → is_seen names q ≡ true → is_seen (s ∷ names) q ≡ true
seen_later names s q e = later (bytes_eq s q) (is_seen names q) e
  where
    later : (a b : Bool) → b ≡ true → (a || b) ≡ true
    later true b e = refl
    later false b e = e

apart : (b : Bool) → b ≡ true → b ≡ false → ⊥
apart true p q = cc
apart false p q = cc

module _ (file text : List ℕ) where
  -- a name that was seen before is none of the members'
  not_again : (room : ℕ) (names : List (List ℕ)) (es : List Entry) (q : List ℕ) → flaw_in_members room names (members_of es) ≡ None → is_seen names q ≡ true → find text_cmp q (children_in file text es) ≡ None
  not_again room names [] q f h = refl
  not_again room names (e ∷ es) q f h =
      let o = right_none (flaw_in room e.value) _ (rest_none (is_seen names e.name) (equal_names e.start e.end) _ f) in
      let rest : find text_cmp q (children_in file text es) ≡ None = not_again room (e.name ∷ names) es q o (seen_later names e.name q h) in
      elim (is_child e.name) as (λ b. find text_cmp q (with_front (cond b (Some (e.name, child_of file text e.value)) None) (children_in file text es)) ≡ None) [
        | true ↦ elim (eq_by_cmp text_cmp q e.name) as (λ b. eq_by_cmp text_cmp q e.name ≡ b → cond b (Some (child_of file text e.value)) (find text_cmp q (children_in file text es)) ≡ None) [
          | true ↦ λ t. absurd (apart (is_seen names e.name) (ap (is_seen names) (sym (text_cmp-IsAntisymmetric q e.name (tied _ t))) ∙ h) (not_seen (is_seen names e.name) (equal_names e.start e.end) _ f))
          | false ↦ λ t. rest
        ] refl
        | false ↦ rest
      ]

  pub children_apart : (room : ℕ) (names : List (List ℕ)) (es : List Entry) → flaw_in_members room names (members_of es) ≡ None → KeysAreApart text_cmp (children_in file text es)
  children_apart room names [] f = tt
  children_apart room names (e ∷ es) f =
      let o = right_none (flaw_in room e.value) _ (rest_none (is_seen names e.name) (equal_names e.start e.end) _ f) in
      let rest = children_apart room (e.name ∷ names) es o in
      elim (is_child e.name) as (λ b. KeysAreApart text_cmp (with_front (cond b (Some (e.name, child_of file text e.value)) None) (children_in file text es))) [
        | true ↦ (not_again room (e.name ∷ names) es e.name o (seen_first names e.name e.name refl), rest)
        | false ↦ rest
      ]

  -- what stands at a name when the children are put
  pub get_put : (es : List Entry) (cs : Named) (q : List ℕ) → KeysAreApart text_cmp (children_in file text es) → map.get (put_children file text (members_of es) cs) q ≡ option_or (find text_cmp q (children_in file text es)) (map.get cs q)
  get_put [] cs q a = refl
  get_put (e ∷ es) cs q a =
      let c = child_of file text e.value in
      let l = children_in file text es in
      elim (is_child e.name) as (λ b. KeysAreApart text_cmp (with_front (cond b (Some (e.name, c)) None) l)
      → map.get (put_children file text (members_of es) (cond b (map.insert cs e.name c) cs)) q ≡ option_or (find text_cmp q (with_front (cond b (Some (e.name, c)) None) l)) (map.get cs q)) [
        | true ↦ λ a. get_put es (map.insert cs e.name c) q a.1
            ∙ (ap (option_or (find text_cmp q l)) (map.get-insert nat_list_cmp_total cs e.name c q)
            ∙ elim (eq_by_cmp text_cmp q e.name) as (λ b. eq_by_cmp text_cmp q e.name ≡ b → option_or (find text_cmp q l) (cond b (Some c) (map.get cs q)) ≡ option_or (cond b (Some c) (find text_cmp q l)) (map.get cs q)) [
              | true ↦ λ t. ap (λ x. option_or x (Some c)) (sym (find_tied text_cmp nat_list_cmp_total q e.name (tied _ t) l) ∙ a.0)
              | false ↦ λ t. refl
            ] refl)
        | false ↦ λ a. get_put es cs q a
      ] a

  alone : (x : Option Child) → option_or x None ≡ x
  alone None = refl
  alone (Some c) = refl

  pub put_all : (es : List Entry) → KeysAreApart text_cmp (children_in file text es) → map.from_entries (children_in file text es) ≡ put_children file text (members_of es) map.empty
  put_all es a = map.same_map nat_list_cmp_total text_cmp-IsAntisymmetric _ _ (λ q.
      map.get-from_entries nat_list_cmp_total (children_in file text es) q
      ∙ sym (get_put es map.empty q a ∙ (ap (option_or (find text_cmp q (children_in file text es))) (map.get-empty text_cmp q) ∙ alone _)))

-- what is looked for by name

same_test : (k q : List ℕ) → eq_by_cmp text_cmp q k ≡ bytes_eq k q
same_test k q = same_bool (eq_by_cmp text_cmp q k) (bytes_eq k q)
    (λ t. text_same k q (sym (text_cmp-IsAntisymmetric q k (tied _ t))))
    (λ t. ap (λ x. is_eq (text_cmp q x)) (same_text k q t) ∙ ap is_eq (tied_itself nat_list_cmp_total q))

among_found : (es : List (List ℕ × Child)) (q : List ℕ) → child_among q (children_of es) ≡ find text_cmp q es
among_found [] q = refl
among_found (e ∷ es) q = λ i. cond (sym (same_test e.0 q) i) (Some e.1) (among_found es q i)

none_or : (b : Bool) (o : Option Child) → o ≡ None → None ≡ cond b o None
none_or true o e = sym e
none_or false o e = refl

find_under : (file text : List ℕ) (es : List Entry) (q : List ℕ) → find text_cmp q (children_in file text es) ≡ cond (is_child q) (option_map (child_of file text) (value_of_name q es)) None
find_under file text [] q = none_or (is_child q) None refl
find_under file text (e ∷ es) q =
    let c = child_of file text e.value in
    let l = children_in file text es in
    let rest = find_under file text es q in
    elim (bytes_eq e.name q) as (λ b. bytes_eq e.name q ≡ b → find text_cmp q (with_front (child_in file text e) l) ≡ cond (is_child q) (option_map (child_of file text) (cond b (Some e.value) (value_of_name q es))) None) [
      | true ↦ λ t.
          let same : is_child e.name ≡ is_child q = ap is_child (same_text e.name q t) in
          let here : eq_by_cmp text_cmp q e.name ≡ true = same_test e.name q ∙ t in
          elim (is_child q) as (λ b. is_child q ≡ b → find text_cmp q (with_front (cond (is_child e.name) (Some (e.name, c)) None) l) ≡ cond b (Some c) None) [
            | true ↦ λ u. ap (λ b. find text_cmp q (with_front (cond b (Some (e.name, c)) None) l)) (same ∙ u) ∙ ap (λ b. cond b (Some c) (find text_cmp q l)) here
            | false ↦ λ u. ap (λ b. find text_cmp q (with_front (cond b (Some (e.name, c)) None) l)) (same ∙ u) ∙ (rest ∙ ap (λ b. cond b (option_map (child_of file text) (value_of_name q es)) None) u)
          ] refl
      | false ↦ λ t.
          let apart : eq_by_cmp text_cmp q e.name ≡ false = same_test e.name q ∙ t in
          elim (is_child e.name) as (λ b. find text_cmp q (with_front (cond b (Some (e.name, c)) None) l) ≡ cond (is_child q) (option_map (child_of file text) (value_of_name q es)) None) [
            | true ↦ ap (λ b. cond b (Some c) (find text_cmp q l)) apart ∙ rest
            | false ↦ rest
          ]
    ] refl

-- at a name of the group that an object shows stands what the member of that name shows
pub children_by_name : (file text : List ℕ) (n : Placed) (name : List ℕ) → StandsIn text n → is_object (tree_of n) ≡ true
    → child_at name (group_of file text (tree_of n)) ≡ cond (is_child name) (option_map (child_of file text) (value_of_name name (entries_at n))) None
children_by_name file text (placed v start end) name s o =
    let (ms, e) = object_members v o in
    let es = entries_in ms in
    let members : IsObjectOf (placed v start end) es = e ∙ ap an_object (sym (members_of-in ms)) in
    let differ = names_differ text (placed v start end) es members s in
    let apart = children_apart file text differ.0 [] es differ.1 in
    ap (λ z. child_at name (group_of file text z)) members
    ∙ (among_found (map.entries (put_children file text (members_of es) map.empty)) name
    ∙ (sym (map.get-entries (put_children file text (members_of es) map.empty) name)
    ∙ (ap (λ m. map.get m name) (sym (put_all file text es apart))
    ∙ (map.get-from_entries nat_list_cmp_total (children_in file text es) name
    ∙ (find_under file text es name
    ∙ ap (λ z. cond (is_child name) (option_map (child_of file text) (value_of_name name z)) None) (sym (entries_are (placed v start end) es members)))))))
