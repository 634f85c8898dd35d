-- A value in which no reference is written means itself; its walk breaks no rule, and it has no links.
use Rattle.std.proofs.Common.{◌≡◌, ℕ, ◌+◌, ◌<◌, ◌≤◌, List, [], ◌∷◌, ◌++◌, Bool, true, false, cond, Option, Some, None, length, refl, sym, ap, ap₂, ◌∙◌, subst, append_assoc, length-append, arith}
use Rattle.std.specs.FinMap as flat_map
use Rattle.name_path.specs.declared.kind.Kind.{Kind}
use Rattle.name_path.specs.declared.place.Place.{Place}
use Rattle.json_span.specs.Tree.{Placed, tree_of}
use Rattle.json_span.specs.PlainView.{Value, ValueEntry}
use Rattle.group_inherit.specs.Flattening.{Flattened}
use Rattle.group_inherit.specs.Merging.{either}
use Rattle.alias_ref.specs.Written.{Step, Written, leaf, parts, whole, part, is_reference, is_misspelled, Parts, parts_of, steps_of, of_value, written_as, role_at, written_in}
use Rattle.alias_ref.specs.Meaning.{Means, means_leaf, means_parts, EachMeans, none_left, one_more}
use Rattle.alias_ref.specs.Visits.{visit, since, same_place, visits_each, most_on_branch, own_break, walked, walk_break}
use Rattle.alias_ref.specs.Kinds.{KindOf, LinksAt, links_leaf, links_parts, LinksEach, each_done, each_more, own_in, group_in}
use Rattle.alias_ref.specs.Laws.{Flat}
use Rattle.alias_ref.specs.inner.Linking.{kind_with}
use Rattle.alias_ref.specs.inner.Literals.{IsLiteral, literal_leaf, literal_parts, AreLiterals, no_literals, more_literals, IsWholeLiteral, has_token, IsLiteralVisit}
use Rattle.alias_ref.specs.declared.trace.Trace.{Trace}
use Rattle.std.specs.Cmp.Lexicographic.{pointwise}
use Rattle.std.specs.Str.{bytes_eq}
use Rattle.alias_ref.specs.inner.Seen.{Clean}
use Rattle.alias_ref.specs.inner.Spots.{IsValueAt, IsFlawless, IsHolder}
use Rattle.alias_ref.proofs.FirstBreaks.{clean_nil, clean_append, unbroken}
use Rattle.alias_ref.proofs.LinksOfParts.{alone, whole_of}
use Rattle.alias_ref.proofs.SamePlaces.{same_place-is, same_steps}
use Rattle.alias_ref.proofs.SpotsStand.{part_stands_at, holder_part, own_is, group_is}
use Rattle.alias_ref.proofs.WalksInTurns.{leaf_clean, walk_clean}
use Rattle.alias_ref.proofs.WrittenParts.{role_at-end, written_stands, whole_stands}

-- the places of this token have shorter trails, so that a place of it with a trail of this length is none of them
abbrev pub AllShorter : List Step → ℕ → List Place → Type 0
AllShorter t k [] = Unit {0}
AllShorter t k (q ∷ b) = (q.token ≡ t → length q.trail < k) × AllShorter t k b

fails : (b : Bool) → (b ≡ true → ⊥) → b ≡ false
fails true h = absurd (h refl)
fails false h = refl

since_shorter : (p : Place) (b : List Place) → AllShorter p.token (length p.trail) b → since p b ≡ None
since_shorter p [] h = refl
since_shorter p (q ∷ b) (h, hs) =
    let other : same_place q p ≡ false = fails (same_place q p) (λ e. let same = same_place-is q p e in omega (arith, h (ap (λ x. x.token) same), ap (λ x. length x.trail) same)) in
    ap (λ c. cond c (Some (q ∷ b)) (since p b)) other ∙ since_shorter p b hs

shorter_more : (t : List Step) (k : ℕ) (b : List Place) (p : Place) → AllShorter t k b → length p.trail ≡ k → AllShorter t (k + 1) (b ++ p ∷ [])
shorter_more t k [] p h e = (λ same. omega (arith, e), tt)
shorter_more t k (q ∷ b) p (h, hs) e = (λ same. omega (arith, h same), shorter_more t k b p hs e)

-- none of the places is of the token
none_shorter : (t : List Step) (b : List Place) → has_token t b ≡ false → AllShorter t 0 b
none_shorter t [] h = tt
none_shorter t (q ∷ b) h = go (pointwise bytes_eq q.token t) refl h (none_shorter t b)
  where
    go : (c : Bool) → pointwise bytes_eq q.token t ≡ c → cond c true (has_token t b) ≡ false → (has_token t b ≡ false → AllShorter t 0 b) → AllShorter t 0 (q ∷ b)
    go true e k rest = absurd (cc)
    go false e k rest = (λ same. let there : true ≡ false = sym (same_steps q.token t same) ∙ e in absurd (cc), rest k)

module _ (flat : Flat) (f : Flattened) where
  -- a value of the token, where no text is a pointer
  record Stands (p : Place) (n : Placed) : Type 0 where
    value : IsValueAt flat p f n
    role : role_at f.def.by_ref p.trail ≡ of_value
    sound : IsFlawless n

  -- what a walk would find at a place whose value is a literal, and at parts
  pub record Literal (p : Place) (v : Value) (i j : ℕ) : Type 0 where
    pub means : Means (written_in flat) p v
    pub kind : (k : Option Kind) → k ≡ kind_with f None → p.trail ≡ [] → KindOf (written_in flat) (own_in flat) (group_in flat) p.token k
    pub links : LinksAt (written_in flat) (own_in flat) (group_in flat) p []
    pub clean : (b : List Place) → length b ≤ i → AllShorter p.token (length p.trail) b → Clean (written_in flat) i j (walked (written_in flat) b p)

  record Literals (p : Place) (steps : List Step) (es : List ValueEntry) (i j : ℕ) : Type 0 where
    means : EachMeans (written_in flat) p steps es
    links : LinksEach (written_in flat) (own_in flat) (group_in flat) p steps []
    clean : (b : List Place) → length b ≤ i → AllShorter p.token (length p.trail + 1) b → Clean (written_in flat) i j (visits_each (walked (written_in flat) b) p steps)

  shows : (p : Place) (n : Placed) (w : Written) → Stands p n → written_as of_value (tree_of n) ≡ w → written_in flat p ≡ Some w
  shows p n w k e = written_stands flat p f n k.value ∙ ap (λ r. Some (written_as r (tree_of n))) k.role ∙ ap Some e

  kinds : (p : Place) (n : Placed) (k : Option Kind) → Stands p n → k ≡ kind_with f None → k ≡ either (own_in flat p.token) (group_in flat p.token)
  kinds p n k st e = e ∙ ap₂ either (sym (own_is flat p f n st.value)) (sym (group_is flat p f n st.value))

  enters : (p : Place) (b : List Place) (i : ℕ) (w : Written) → written_in flat p ≡ Some w → is_misspelled (Some w) ≡ false
      → i < most_on_branch → length b ≤ i → AllShorter p.token (length p.trail) b → own_break (written_in flat) i (visit b p) ≡ None
  enters p b i w is spelled few short hs = unbroken (written_in flat) i b p (since_shorter p b hs) (omega (arith, few, short)) (omega (arith, few)) (ap is_misspelled is ∙ spelled)

  mutual
    unfolding visits_each

    literal : {i j : ℕ} {p : Place} {n : Placed} {v : Value} → Stands p n → IsLiteral i n v j → Literal p v i j
    literal {i = i} {p = p} {n = n} st (literal_leaf {v = v} few e) =
        let is = shows p n (leaf v) st e in
        record {
          means = means_leaf is;
          kind = λ k same at. alone (written_in flat) (own_in flat) (group_in flat) p (leaf v) k is refl at (kinds p n k st same);
          links = links_leaf is;
          clean = λ b short hs. leaf_clean (written_in flat) b p v is (enters p b i (leaf v) is refl few short hs) refl;
        }
    literal {i = i} {p = p} {n = n} st (literal_parts {c = c} few e read) =
        let steps = steps_of (parts_of (tree_of n)) in
        let is = shows p n (parts c steps) st e in
        let holder : IsHolder flat p f (parts_of (tree_of n)) = record {
          value = n;
          stands = st.value;
          parts = refl;
          plain = ap (λ r. is_reference (Some (written_as r (tree_of n)))) st.role ∙ ap (λ w. is_reference (Some w)) e;
          sound = st.sound;
        } in
        let found = literals p (parts_of (tree_of n)) [] (parts_of (tree_of n)) holder refl read in
        record {
          means = means_parts is found.means;
          kind = λ k same at. alone (written_in flat) (own_in flat) (group_in flat) p (parts c steps) k is refl at (kinds p n k st same);
          links = links_parts is found.links;
          clean = λ b short hs. walk_clean (written_in flat) i b (b ++ p ∷ []) p (parts c steps) is (enters p b i (parts c steps) is refl few short hs) refl refl
              (found.clean (b ++ p ∷ []) (omega (arith, short, length-append b (p ∷ []))) (shorter_more p.token (length p.trail) b p hs refl));
        }

    literals : (p : Place) (ps front rest : Parts) → IsHolder flat p f ps → ps ≡ front ++ rest
        → {es : List ValueEntry} {i j : ℕ} → AreLiterals i rest es j → Literals p (steps_of rest) es i j
    literals p ps front [] holder e no_literals = record { means = none_left; links = each_done; clean = λ b short hs. clean_nil (written_in flat) _ }
    literals p ps front ((s, n) ∷ rest) holder e (more_literals here more) =
        let at = holder_part flat p f ps front s n rest holder e in
        let st : Stands (part p s) n = record { value = part_stands_at flat p f s n at; role = role_at-end f.def.by_ref p.trail s ∙ at.role; sound = at.sound } in
        let x = literal st here in
        let y = literals p ps (front ++ (s, n) ∷ []) rest holder (e ∙ sym (append_assoc front ((s, n) ∷ []) rest)) more in
        record {
          means = one_more x.means y.means;
          links = each_more x.links y.links refl;
          clean = λ b short hs.
              let c = x.clean b short (subst (λ k. AllShorter p.token k b) (sym (length-append p.trail (s ∷ []))) hs) in
              clean_append (written_in flat) (walked (written_in flat) b (part p s)) (visits_each (walked (written_in flat) b) p (steps_of rest)) c (y.clean b (omega (arith, short, c.counted)) hs);
        }

  -- a token whose whole value is a literal
  pub whole_literal : (token : List Step) (v : Value) (i j : ℕ) → flat_map.get flat token ≡ Some f → IsWholeLiteral f.def v i j → Literal (whole token) v i j
  whole_literal token v i j there k = literal (record { value = whole_stands flat token f there; role = ap (λ b. role_at b []) k.own; sound = k.sound }) k.literal

  pub literal_unbroken : (token : List Step) (v : Value) (j : ℕ) → Literal (whole token) v 0 j → walk_break (written_in flat) token ≡ None
  literal_unbroken token v j k = let c = k.clean [] (omega arith) tt in c.unbroken

  pub literal_counted : (token : List Step) (v : Value) (j : ℕ) → Literal (whole token) v 0 j → length (walked (written_in flat) [] (whole token)) ≡ j
  literal_counted token v j k = let c = k.clean [] (omega arith) tt in omega (arith, c.counted)

  -- a literal that is visited below a branch
  pub literal_visited : {old new : Trace} {p : Place} {v : Value} {n : Placed} → IsValueAt flat p f n → IsLiteralVisit old new p f.def v → Literal p v old.visits new.visits
  literal_visited {old} {new} {p} {v} st k = subst (λ x. Literal x v old.visits new.visits) (sym (whole_of p k.apart.whole)) (whole_literal p.token v old.visits new.visits st.token k.literal)

  pub visited_clean : {old new : Trace} {p : Place} {v : Value} → IsLiteralVisit old new p f.def v → Literal p v old.visits new.visits → Clean (written_in flat) old.visits new.visits (walked (written_in flat) old.places.items p)
  visited_clean {old} {p = p} k x =
      let shorter = subst (λ ss. AllShorter p.token (length ss) old.places.items) (sym k.apart.whole) (none_shorter p.token old.places.items k.apart.is_new) in
      x.clean old.places.items k.apart.visited shorter
