-- What a place means: where references lead, where they settle, and the value without references.
use Rattle.std.specs.Prelude.{◌≡◌, List, [], ◌∷◌, true, false, Some, map}
use Rattle.name_path.specs.declared.place.Place.{Place}
use Rattle.json_span.specs.Plain.{plain_array, plain_object, plains_of, plain_members_of}
use Rattle.json_span.specs.PlainView.{Value, ValueEntry}
use Rattle.alias_ref.specs.Written.{Step, Container, array, object, leaf, parts, refers, WrittenPlaces, whole, part, is_reference, is_written}

mutual
  -- q is where the steps of the reference at p end
  pub data Leads (T : WrittenPlaces) : Place → Place → Type 0 where
    leads : {p q : Place} {token steps : List Step} → T p ≡ Some (refers token steps) → is_written (T (whole token)) ≡ true → Goes T (whole token) steps q → Leads T p q

  -- the steps lead from p to q; before each step the place reached is settled
  pub data Goes (T : WrittenPlaces) : Place → List Step → Place → Type 0 where
    arrived : {p : Place} → Goes T p [] p
    onward : {p q r : Place} {s : Step} {steps : List Step} → Settles T p q → is_written (T (part q s)) ≡ true → Goes T (part q s) steps r → Goes T p (s ∷ steps) r

  -- the references from p on end at q, which is none
  pub data Settles (T : WrittenPlaces) : Place → Place → Type 0 where
    stays : {p : Place} → is_reference (T p) ≡ false → Settles T p p
    follows : {p q r : Place} → Leads T p q → Settles T q r → Settles T p r

-- parts with their steps, put together
abbrev pub put_together : Container → List ValueEntry → Value
put_together array es = plain_array (plains_of (map (λ e. e.value) es))
put_together object es = plain_object (plain_members_of es)

mutual
  -- the place means the value
  pub data Means (T : WrittenPlaces) : Place → Value → Type 0 where
    means_leaf : {p : Place} {v : Value} → T p ≡ Some (leaf v) → Means T p v
    means_parts : {p : Place} {c : Container} {steps : List Step} {es : List ValueEntry} → T p ≡ Some (parts c steps) → EachMeans T p steps es → Means T p (put_together c es)
    means_target : {p q : Place} {v : Value} → Leads T p q → Means T q v → Means T p v

  -- the parts of p after these steps mean these values, in order
  pub data EachMeans (T : WrittenPlaces) : Place → List Step → List ValueEntry → Type 0 where
    none_left : {p : Place} → EachMeans T p [] []
    one_more : {p : Place} {s : Step} {steps : List Step} {v : Value} {es : List ValueEntry} → Means T (part p s) v → EachMeans T p steps es → EachMeans T p (s ∷ steps) (record { name = s; value = v } ∷ es)
