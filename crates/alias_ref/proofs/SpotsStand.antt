-- What stands at the spots of a walk.
use Rattle.std.proofs.Common.{◌≡◌, ℕ, ◌+◌, ◌<◌, ◌^◌, Bool, true, false, cond, List, [], ◌∷◌, ◌++◌, length, Option, Some, None, option_map, refl, sym, ap, ap₂, ◌∙◌, subst, codes, arith}
use Rattle.std.specs.Prelude.{option_and_then, unwrap_or, is_some}
use Rattle.std.specs.Fmt.{decimal}
use Rattle.std.specs.Str.{bytes_eq}
use Rattle.name_path.specs.declared.kind.Kind.{Kind}
use Rattle.name_path.specs.declared.place.Place.{Place}
use Rattle.json_span.specs.Tree.{Tree, a_null, a_boolean, a_number, a_string, an_array, an_object, Placed, Entry, tree_of, start_of, elements_in, entries_in, value_of_name}
use Rattle.token_tree.proofs.Names.{same_text}
use Rattle.group_inherit.specs.Flattening.{Flattened}
use Rattle.group_inherit.specs.Merging.{either}
use Rattle.alias_ref.specs.Written.{Step, object, leaf, parts, whole, part, is_reference, is_written, Parts, parts_by_index, parts_by_name, parts_of, steps_of, part_under, part_behind, value_at, Role, of_value, of_ref, reference_written, object_pointed, object_written, written_as, role_behind, role_at, written_in}
use Rattle.alias_ref.specs.Kinds.{own_in, group_in}
use Rattle.alias_ref.specs.Visits.{settle_by, passed}
use Rattle.alias_ref.specs.Laws.{Flat}
use Rattle.alias_ref.specs.inner.Contents.{content_view, content_parts, content_items, role_of, IsContent}
use Rattle.alias_ref.specs.inner.Spots.{IsValueAt, IsFlawless, IsSpot, IsPartAt, IsHolder, start_in}
use Rattle.json_span.specs.View.{items_view}
use Rattle.json_span.specs.PlainView.{plain_view}
use Rattle.json_span.specs.declared.plain.Plain.{Plain}
use Rattle.alias_ref.specs.declared.content.Content.{Content}
use Rattle.alias_ref.specs.declared.content.Content.TheVariants as content
use Rattle.alias_ref.specs.declared.spot.Spot.{Spot}
use Rattle.alias_ref.proofs.ContentsOfValues.{under_named}
use Rattle.alias_ref.proofs.PartsInTurn.{settled_plain}
use Rattle.alias_ref.proofs.IndexSteps.{index_role}
use Rattle.alias_ref.proofs.SoundValues.{sound_part, distinct_parts, found_under, items_few}
use Rattle.alias_ref.proofs.WrittenParts.{role_at-end, written_stands, part_stands, part_lost}

pub spot_written : (flat : Flat) (s : Spot) → IsSpot flat s → written_in flat s.place ≡ Some (content_view s.content)
spot_written flat s k = written_stands flat s.place s.token.now k.value k.stands ∙ ap Some (sym k.content.written)

pub start_is : (flat : Flat) (p : Place) (f : Flattened) (n : Placed) → IsValueAt flat p f n → start_of n ≡ start_in flat p
start_is flat p f n k =
    sym (ap (λ o. unwrap_or (option_map start_of (option_and_then (λ g. value_at g.def.value p.trail) o)) 0) k.token ∙ ap (λ o. unwrap_or (option_map start_of o) 0) k.value)

pub spot_start : (flat : Flat) (s : Spot) → IsSpot flat s → s.start ≡ start_in flat s.place
spot_start flat s k = k.start ∙ start_is flat s.place s.token.now k.value k.stands

pub whole_role : (b : Bool) → role_of b ≡ role_at b []
whole_role true = refl
whole_role false = refl

-- no value that is no reference has a part whose text would be that of a `$ref`

fails : (b : Bool) → (b ≡ true → ⊥) → b ≡ false
fails true h = absurd (h refl)
fails false h = refl

behind_is : (s : Step) → bytes_eq s (codes "$ref") ≡ false → role_behind s ≡ of_value
behind_is s e = ap (λ b. cond b of_ref of_value) e

item_role : (s : Step) (i : ℕ) (ns : List Placed) (m : Placed) → part_under s (parts_by_index i ns) ≡ Some m → role_behind s ≡ of_value
item_role s i [] m e = absurd (cc)
item_role s i (n ∷ ns) m e = go (bytes_eq (decimal i) s) refl e (item_role s (i + 1) ns m)
  where
    go : (b : Bool) → bytes_eq (decimal i) s ≡ b → cond b (Some n) (part_under s (parts_by_index (i + 1) ns)) ≡ Some m → (part_under s (parts_by_index (i + 1) ns) ≡ Some m → role_behind s ≡ of_value) → role_behind s ≡ of_value
    go true k f rec = ap role_behind (sym (same_text (decimal i) s k)) ∙ index_role i
    go false k f rec = rec f

spelled_refers : (o : Option Place) → is_reference (Some (reference_written o)) ≡ true
spelled_refers (Some p) = refl
spelled_refers None = refl

ref_refers : (es : List Entry) (m : Placed) → value_of_name (codes "$ref") es ≡ Some m → is_reference (Some (object_written es)) ≡ true
ref_refers es m e = ap (λ o. is_reference (Some (cond (is_some o) (reference_written (object_pointed es)) (parts object (steps_of (parts_by_name es)))))) e ∙ spelled_refers (object_pointed es)

member_role : (s : Step) (es : List Entry) (m : Placed) → is_reference (Some (object_written es)) ≡ false → part_under s (parts_by_name es) ≡ Some m → role_behind s ≡ of_value
member_role s es m h e =
    behind_is s (fails (bytes_eq s (codes "$ref")) (λ k.
    let same = same_text s (codes "$ref") k in
    let there : value_of_name (codes "$ref") es ≡ Some m = ap (λ x. value_of_name x es) (sym same) ∙ sym (under_named s es) ∙ e in
    let bad : true ≡ false = sym (ref_refers es m there) ∙ h in cc))

pub part_role : (role : Role) (v : Tree) (s : Step) (m : Placed) → is_reference (Some (written_as role v)) ≡ false → part_under s (parts_of v) ≡ Some m → role_behind s ≡ of_value
part_role role a_null s m h e = absurd (cc)
part_role role (a_boolean b) s m h e = absurd (cc)
part_role role (a_number k) s m h e = absurd (cc)
part_role role (a_string t) s m h e = absurd (cc)
part_role role (an_array ns) s m h e = item_role s 0 (elements_in ns) m e
part_role role (an_object ms) s m h e = member_role s (entries_in ms) m h e

-- a part of a spot that is no reference
pub spot_part : (flat : Flat) (s : Spot) (step : Step) (m : Placed) → IsSpot flat s → is_reference (Some (content_view s.content)) ≡ false → part_under step (content_parts s.content) ≡ Some m → IsPartAt flat s.place s.token.now step m
spot_part flat s step m k h e =
    let role = role_at s.token.now.def.by_ref s.place.trail in
    let there : part_behind k.value step ≡ Some m = ap (part_under step) (sym (k.content.parts h)) ∙ e in
    let settled : is_reference (Some (written_as role (tree_of k.value))) ≡ false = ap (λ w. is_reference (Some w)) (sym k.content.written) ∙ h in
    record {
      value = k.value;
      stands = k.stands;
      part = there;
      role = part_role role (tree_of k.value) step m settled there;
      sound = sound_part k.value step m k.sound there;
    }

pub spot_no_part : (flat : Flat) (s : Spot) (step : Step) → IsSpot flat s → is_reference (Some (content_view s.content)) ≡ false → part_under step (content_parts s.content) ≡ None → written_in flat (part s.place step) ≡ None
spot_no_part flat s step k h e = part_lost flat s.place s.token.now k.value step k.stands (ap (part_under step) (sym (k.content.parts h)) ∙ e)

-- the spot of a part
pub part_content : (flat : Flat) (p : Place) (f : Flattened) (s : Step) (m : Placed) (c : Content) → IsPartAt flat p f s m → IsContent c (role_of false) (tree_of m) → IsContent c (role_at f.def.by_ref (part p s).trail) (tree_of m)
part_content flat p f s m c k is =
    let role : of_value ≡ role_at f.def.by_ref (p.trail ++ s ∷ []) = sym (role_at-end f.def.by_ref p.trail s ∙ k.role) in
    subst (λ r. IsContent c r (tree_of m)) role is

pub part_stands_at : (flat : Flat) (p : Place) (f : Flattened) (s : Step) (m : Placed) → IsPartAt flat p f s m → IsValueAt flat (part p s) f m
part_stands_at flat p f s m k = part_stands flat p f k.value m s k.stands k.part

pub part_shows : (flat : Flat) (p : Place) (f : Flattened) (s : Step) (m : Placed) (c : Content) → IsPartAt flat p f s m → IsContent c (role_of false) (tree_of m) → written_in flat (part p s) ≡ Some (content_view c)
part_shows flat p f s m c k is = written_stands flat (part p s) f m (part_stands_at flat p f s m k) ∙ ap Some (sym (part_content flat p f s m c k is).written)

-- .. where a leaf is written
pub leaf_shows : {flat : Flat} {p : Place} {f : Flattened} {s : Step} {m : Placed} {c : Content} {v : Plain} → IsPartAt flat p f s m → IsContent c (role_of false) (tree_of m) → c ≡ content.Leaf v → written_in flat (part p s) ≡ Some (leaf (plain_view v))
leaf_shows {flat} {p} {f} {s} {m} {c} k is e = part_shows flat p f s m c k is ∙ ap (λ x. Some (content_view x)) e

pub part_start : {flat : Flat} {p : Place} {f : Flattened} {s : Step} {m : Placed} → IsPartAt flat p f s m → start_of m ≡ start_in flat (part p s)
part_start {flat} {p} {f} {s} {m} k = start_is flat (part p s) f m (part_stands_at flat p f s m k)

pub holder_part : (flat : Flat) (p : Place) (f : Flattened) (ps front : Parts) (s : Step) (m : Placed) (rest : Parts) → IsHolder flat p f ps → ps ≡ front ++ (s, m) ∷ rest → IsPartAt flat p f s m
holder_part flat p f ps front s m rest k e =
    let there : part_behind k.value s ≡ Some m = found_under (parts_of (tree_of k.value)) front s m rest (distinct_parts k.value k.sound) (sym k.parts ∙ e) in
    record {
      value = k.value;
      stands = k.stands;
      part = there;
      role = part_role (role_at f.def.by_ref p.trail) (tree_of k.value) s m k.plain there;
      sound = sound_part k.value s m k.sound there;
    }

-- the items of an array are not too many
content_few : (c : Content) (n : Placed) → (is_reference (Some (content_view c)) ≡ false → content_parts c ≡ parts_of (tree_of n)) → IsFlawless n → length (content_items c) < 2 ^ 64
content_few (content.Leaf x) n e k = omega arith
content_few (content.Array items) n e k = items_few n (items_view items) k (e refl)
content_few (content.Object fields) n e k = omega arith
content_few (content.Refers p) n e k = omega arith
content_few content.Misspelled n e k = omega arith

pub items_fit : (flat : Flat) (s : Spot) → IsSpot flat s → length (content_items s.content) < 2 ^ 64
items_fit flat s k = content_few s.content k.value k.content.parts k.sound

pub holder_few : (flat : Flat) (p : Place) (f : Flattened) (ns : List Placed) → IsHolder flat p f (parts_by_index 0 ns) → length ns < 2 ^ 64
holder_few flat p f ns k = items_few k.value ns k.sound k.parts

pub spot_whole : (flat : Flat) (s : Spot) (token : List Step) → IsSpot flat s → s.place ≡ whole token → is_written (written_in flat (whole token)) ≡ true
spot_whole flat s token k e = ap is_written (subst (λ p. written_in flat p ≡ Some (content_view s.content)) e (spot_written flat s k))

-- a spot of this content
pub spot_shows : (flat : Flat) (s : Spot) (c : Content) → IsSpot flat s → s.content ≡ c → written_in flat s.place ≡ Some (content_view c)
spot_shows flat s c k e = spot_written flat s k ∙ ap (λ x. Some (content_view x)) e

-- the kinds at a spot
pub own_is : (flat : Flat) (p : Place) (f : Flattened) (n : Placed) → IsValueAt flat p f n → own_in flat p.token ≡ f.def.kind
own_is flat p f n k = ap (option_and_then (λ g. g.def.kind)) k.token

pub group_is : (flat : Flat) (p : Place) (f : Flattened) (n : Placed) → IsValueAt flat p f n → group_in flat p.token ≡ f.group_kind
group_is flat p f n k = ap (option_and_then (λ g. g.group_kind)) k.token

pub kinds_at : (flat : Flat) (s : Spot) (k : Option Kind) → IsSpot flat s → k ≡ either s.token.now.def.kind s.token.now.group_kind → k ≡ either (own_in flat s.place.token) (group_in flat s.place.token)
kinds_at flat s k at e = e ∙ ap₂ either (sym (own_is flat s.place s.token.now at.value at.stands)) (sym (group_is flat s.place s.token.now at.value at.stands))

-- a spot where a way settles
pub settled_spot : (flat : Flat) (b : List Place) (p : Place) (e : Spot) → IsSpot flat e → (settle_by (written_in flat) (passed (written_in flat) b) p).ends ≡ Some e.place → is_reference (Some (content_view e.content)) ≡ false
settled_spot flat b p e k h = ap is_reference (sym (spot_written flat e k)) ∙ settled_plain (written_in flat) b p e.place h
