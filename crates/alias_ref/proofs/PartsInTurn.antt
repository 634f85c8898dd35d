-- The parts of a place, one after the other: their visits, meanings and links.
use Rattle.std.proofs.Common.{◌≡◌, ℕ, ◌+◌, List, [], ◌∷◌, ◌++◌, Bool, true, false, Option, Some, map, refl, sym, ap, ap₂, ◌∙◌, subst, append_assoc, append-nil}
use Rattle.name_path.specs.declared.kind.Kind.{Kind}
use Rattle.name_path.specs.declared.link.Link.{Link}
use Rattle.name_path.specs.declared.place.Place.{Place}
use Rattle.std.specs.Fmt.{decimal}
use Rattle.json_span.specs.Tree.{Placed, Entry as Member}
use Rattle.json_span.specs.PlainView.{Value, ValueEntry}
use Rattle.alias_ref.specs.Written.{Step, Container, leaf, parts, refers, WrittenPlaces, Parts, part, parts_by_index, parts_by_name, steps_of, is_reference}
use Rattle.alias_ref.specs.Meaning.{Leads, Settles, stays, follows, Means, EachMeans, none_left, one_more}
use Rattle.alias_ref.specs.Visits.{Visit, Way, way_of, settle_by, visits_each, first_break, walked, passed}
use Rattle.alias_ref.specs.Kinds.{Kinds, KindOf, each_done, links_leaf, links_parts}
use Rattle.alias_ref.specs.inner.Seen.{Clean, IsFault}
use Rattle.alias_ref.specs.inner.Spots.{HasGrown, HasGrownEach}
use Rattle.alias_ref.specs.inner.Turns.{PartsWalked}
use Rattle.alias_ref.specs.declared.fault.RefFault.{RefFault}
use Rattle.alias_ref.proofs.FirstBreaks.{clean_nil, clean_append, fault_later, fault_first}
use Rattle.alias_ref.proofs.LinksOfParts.{one_more_part, refers_links}
use Rattle.alias_ref.specs.inner.Linking.{links_added, link_here}
use Rattle.alias_ref.proofs.WaysSettle.{settle_by-settles, pass_visits-settles, way_of-leads}

visits_each-append : (walk : Place → List Visit) (p : Place) (xs ys : List Step) → visits_each walk p (xs ++ ys) ≡ visits_each walk p xs ++ visits_each walk p ys
unfolding visits_each
visits_each-append walk p [] ys = refl
visits_each-append walk p (x ∷ xs) ys = ap (λ es. walk (part p x) ++ es) (visits_each-append walk p xs ys) ∙ sym (append_assoc (walk (part p x)) (visits_each walk p xs) (visits_each walk p ys))

visits_each-one : (walk : Place → List Visit) (p : Place) (s : Step) (ss : List Step) → visits_each walk p (s ∷ ss) ≡ walk (part p s) ++ visits_each walk p ss
unfolding visits_each
visits_each-one walk p s ss = refl

visits_each-none : (walk : Place → List Visit) (p : Place) → visits_each walk p [] ≡ []
unfolding visits_each
visits_each-none walk p = refl

steps_append : (ps qs : Parts) → steps_of (ps ++ qs) ≡ steps_of ps ++ steps_of qs
steps_append [] qs = refl
steps_append (p ∷ ps) qs = ap (λ ss. p.0 ∷ ss) (steps_append ps qs)

pub push_map : {A B : Type 0} (f : A → B) (xs : List A) (x : A) → map f (xs ++ x ∷ []) ≡ map f xs ++ f x ∷ []
push_map f [] x = refl
push_map f (y ∷ xs) x = ap (λ l. f y ∷ l) (push_map f xs x)

module _ (T : WrittenPlaces) where
  pub lead_by : (b : List Place) (p q : Place) (t steps : List Step) → T p ≡ Some (refers t steps) → (way_of T (settle_by T (passed T b)) p t steps).ends ≡ Some q → Leads T p q
  unfolding passed
  lead_by b p q t steps is h = way_of-leads T (settle_by T (passed T b)) (settle_by-settles T (passed T b) (pass_visits-settles T _ b)) p q t steps is h

  means_end : {p : Place} {ss : List Step} {es : List ValueEntry} → EachMeans T p ss es → (s : Step) (v : Value) → Means T (part p s) v → EachMeans T p (ss ++ s ∷ []) (es ++ record { name = s; value = v } ∷ [])
  means_end none_left s v m = one_more m none_left
  means_end (one_more k ks) s v m = one_more k (means_end ks s v m)

  each_none : (n : ℕ) (walk : Place → List Visit) (p : Place) → Clean T n n (visits_each walk p [])
  each_none n walk p = subst (Clean T n n) (sym (visits_each-none walk p)) (clean_nil T n)

  each_clean : {n m k : ℕ} (walk : Place → List Visit) (p : Place) (xs : List Step) (s : Step) → Clean T n m (visits_each walk p xs) → Clean T m k (walk (part p s)) → Clean T n k (visits_each walk p (xs ++ s ∷ []))
  each_clean {n} {m} {k} walk p xs s c d =
      let e = visits_each-append walk p xs (s ∷ []) ∙ ap (λ es. visits_each walk p xs ++ es) (visits_each-one walk p s [] ∙ ap (λ es. walk (part p s) ++ es) (visits_each-none walk p) ∙ append-nil (walk (part p s))) in
      subst (λ es. Clean T n k es) (sym e) (clean_append T (visits_each walk p xs) (walk (part p s)) c d)

  each_fault : (f : RefFault) {n m : ℕ} (walk : Place → List Visit) (p : Place) (all xs : List Step) (s : Step) (rest : List Step) → all ≡ xs ++ s ∷ rest → Clean T n m (visits_each walk p xs) → IsFault f (first_break T m (walk (part p s))) → IsFault f (first_break T n (visits_each walk p all))
  each_fault f {n} {m} walk p all xs s rest is c h =
      let e = ap (visits_each walk p) is ∙ visits_each-append walk p xs (s ∷ rest) ∙ ap (λ es. visits_each walk p xs ++ es) (visits_each-one walk p s rest) in
      subst (λ es. IsFault f (first_break T n es)) (sym e)
      (fault_later T f (visits_each walk p xs) (walk (part p s) ++ visits_each walk p rest) c (fault_first T f m (walk (part p s)) (visits_each walk p rest) h))

  -- the links of a container are those of its parts
  pub grown_parts : {c : Container} (kinds groups : Kinds) (own : Bool) (p : Place) (steps : List Step) (old new : List Link) → T p ≡ Some (parts c steps) → HasGrownEach own T kinds groups p steps old new → HasGrown own T kinds groups p old new
  grown_parts kinds groups true p steps old new is (ls, k, e) = (ls, links_parts is k, e)
  grown_parts kinds groups false p steps old new is h = h

module _ (T : WrittenPlaces) (kinds groups : Kinds) (p : Place) where
  grown_more : (own : Bool) (steps : List Step) (s : Step) (old now new : List Link) → HasGrownEach own T kinds groups p steps old now → HasGrown own T kinds groups (part p s) now new → HasGrownEach own T kinds groups p (steps ++ s ∷ []) old new
  grown_more true steps s old now new h (more, l, e) = one_more_part T kinds groups p steps s old now new more h l e
  grown_more false steps s old now new h k = k ∙ h

  none_grown : (own : Bool) (links : List Link) → HasGrownEach own T kinds groups p [] links links
  none_grown true links = ([], each_done, sym (append-nil links))
  none_grown false links = refl

-- a walk over the parts of a place: what was walked so far, what comes next, and what the next part adds
module _ {T : WrittenPlaces} {kinds groups : Kinds} {branch : List Place} {p : Place} where
  pub none_walked : {own : Bool} {all rest : Parts} {n : ℕ} {es : List ValueEntry} {links : List Link} → all ≡ rest → es ≡ [] → PartsWalked T own kinds groups branch p all rest n n es links links
  none_walked {own} {all} {rest} {n} {es} {links} same e = record {
    front = [];
    split = same;
    clean = each_none T n (walked T branch) p;
    means = subst (EachMeans T p []) (sym e) none_left;
    links = none_grown T kinds groups p own links;
  }

  -- the next part is an item, or a member
  pub next_item : {own : Bool} {all : Parts} {n i : ℕ} {es : List ValueEntry} {old now : List Link} (k : ℕ) {ns ms : List Placed} {s : Step} {m : Placed} → PartsWalked T own kinds groups branch p all (parts_by_index k ns) n i es old now
      → ns ≡ m ∷ ms → s ≡ decimal k → PartsWalked T own kinds groups branch p all ((s, m) ∷ parts_by_index (k + 1) ms) n i es old now
  next_item {own} {all} {n} {i} {es} {old} {now} k {ns} {ms} {s} {m} w first is =
      subst (λ ps. PartsWalked T own kinds groups branch p all ps n i es old now) (ap (parts_by_index k) first ∙ ap (λ (z : Step). (z, m) ∷ parts_by_index (k + 1) ms) (sym is)) w

  pub next_field : {own : Bool} {all : Parts} {n i : ℕ} {es : List ValueEntry} {old now : List Link} {fs gs : List Member} {f : Member} {s : Step} {m : Placed} → PartsWalked T own kinds groups branch p all (parts_by_name fs) n i es old now
      → fs ≡ f ∷ gs → s ≡ f.name → m ≡ f.value → PartsWalked T own kinds groups branch p all ((s, m) ∷ parts_by_name gs) n i es old now
  next_field {own} {all} {n} {i} {es} {old} {now} {fs} {gs} {f} {s} {m} w first name value =
      let make : Step → Placed → Step × Placed = λ x y. (x, y) in
      subst (λ ps. PartsWalked T own kinds groups branch p all ps n i es old now) (ap parts_by_name first ∙ ap₂ (λ x y. make x y ∷ parts_by_name gs) (sym name) (sym value)) w

  pub walked_more : {own : Bool} {all rest : Parts} {s : Step} {m : Placed} {n i k : ℕ} {es gs : List ValueEntry} {v : Value} {old now : List Link} {b : List Place} (new : List Link) → PartsWalked T own kinds groups branch p all ((s, m) ∷ rest) n i es old now
      → b ≡ branch → Clean T i k (walked T b (part p s)) → Means T (part p s) v → HasGrown own T kinds groups (part p s) now new → gs ≡ es ++ record { name = s; value = v } ∷ []
      → PartsWalked T own kinds groups branch p all rest n k gs old new
  walked_more {own} {all} {rest} {s} {m} {n} {i} {k} {es} {gs} {v} {old} {now} {b} new w same c means h e =
      let steps = steps_append w.front ((s, m) ∷ []) in
      let clean = subst (λ x. Clean T i k (walked T x (part p s))) same c in
      record {
        front = w.front ++ (s, m) ∷ [];
        split = w.split ∙ sym (append_assoc w.front ((s, m) ∷ []) rest);
        clean = subst (λ ss. Clean T n k (visits_each (walked T branch) p ss)) (sym steps) (each_clean T (walked T branch) p (steps_of w.front) s w.clean clean);
        means = subst (λ xs. EachMeans T p (steps_of (w.front ++ (s, m) ∷ [])) xs) (sym e) (subst (λ ss. EachMeans T p ss (es ++ record { name = s; value = v } ∷ [])) (sym steps) (means_end T w.means s v means));
        links = subst (λ ss. HasGrownEach own T kinds groups p ss old new) (sym steps) (grown_more T kinds groups p own (steps_of w.front) s old now new w.links h);
      }

  -- what the next item adds to the values of the items
  pub items_more : {own : Bool} {all rest : Parts} {s : Step} {m : Placed} {n i k : ℕ} {es : List ValueEntry} {vs ws : List Value} {v : Value} {old now : List Link} {b : List Place} (new : List Link) → PartsWalked T own kinds groups branch p all ((s, m) ∷ rest) n i es old now
      → vs ≡ map (λ e. e.value) es → b ≡ branch → Clean T i k (walked T b (part p s)) → Means T (part p s) v → HasGrown own T kinds groups (part p s) now new → ws ≡ vs ++ v ∷ []
      → (gs : List ValueEntry) × (ws ≡ map (λ e. e.value) gs) × PartsWalked T own kinds groups branch p all rest n k gs old new
  items_more {s = s} {es = es} {v = v} new w values same c means h pushed =
      let entry : ValueEntry = record { name = s; value = v } in
      (es ++ entry ∷ [], pushed ∙ ap (λ xs. xs ++ v ∷ []) values ∙ sym (push_map (λ e. e.value) es entry), walked_more new w same c means h refl)

  pub walked_fault : {own : Bool} {all rest : Parts} {s : Step} {m : Placed} {n i : ℕ} {es : List ValueEntry} {old now : List Link} {b : List Place} (f : RefFault) → PartsWalked T own kinds groups branch p all ((s, m) ∷ rest) n i es old now
      → b ≡ branch → IsFault f (first_break T i (walked T b (part p s))) → IsFault f (first_break T n (visits_each (walked T branch) p (steps_of all)))
  walked_fault {all = all} {rest = rest} {s = s} {m = m} {i = i} f w same h =
      each_fault T f (walked T branch) p (steps_of all) (steps_of w.front) s (steps_of rest) (ap steps_of w.split ∙ steps_append w.front ((s, m) ∷ rest)) w.clean
      (subst (λ x. IsFault f (first_break T i (walked T x (part p s)))) same h)

-- the links and the kind of a place that is no reference
module _ (T : WrittenPlaces) (kinds groups : Kinds) where
  pub leaf_grown : (own : Bool) (p : Place) (v : Value) (links : List Link) → T p ≡ Some (leaf v) → HasGrown own T kinds groups p links links
  leaf_grown true p v links is = ([], links_leaf is, sym (append-nil links))
  leaf_grown false p v links is = refl

-- a place that settles is no reference
settles_plain : {T : WrittenPlaces} {p q : Place} → Settles T p q → is_reference (T q) ≡ false
settles_plain (stays h) = h
settles_plain (follows a b) = settles_plain b

pub settled_plain : (T : WrittenPlaces) (b : List Place) (p q : Place) → (settle_by T (passed T b) p).ends ≡ Some q → is_reference (T q) ≡ false
unfolding passed
settled_plain T b p q h = settles_plain (settle_by-settles T (passed T b) (pass_visits-settles T _ b) p q h)

-- the links of a reference, where it is in the token's own value
module _ (T : WrittenPlaces) (kinds groups : Kinds) where
  pub refers_grown : (own : Bool) (settle : Place → Way) (p q : Place) (u steps : List Step) (k : Option Kind) (old mid new : List Link) → T p ≡ Some (refers u steps) → (way_of T settle p u steps).ends ≡ Some q → (q.trail ≡ [] → KindOf T kinds groups q.token k)
      → mid ≡ old → new ≡ mid ++ links_added own p u k steps → HasGrown own T kinds groups p old new
  refers_grown true settle p q u steps k old mid new is ends kind e f = (link_here p u k steps, refers_links T kinds groups settle p q u steps k (link_here p u k steps) is ends kind refl, f ∙ ap (λ ls. ls ++ link_here p u k steps) e)
  refers_grown false settle p q u steps k old mid new is ends kind e f = f ∙ append-nil mid ∙ e
