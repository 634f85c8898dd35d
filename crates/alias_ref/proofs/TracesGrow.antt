-- The trace of a walk, as visits begin and end.
use Rattle.std.proofs.Common.{◌≡◌, ℕ, zero, suc, ◌+◌, ◌<◌, List, [], ◌∷◌, ◌++◌, Bool, true, false, cond, Option, Some, None, length, get_or, drop, map, refl, sym, ap, ap₂, ◌∙◌, subst, arith, add-one, drop-cons}
use Rattle.std.specs.Prelude.{Contains, IfNone, IfSome}
use Rattle.std.specs.FinMap as flat_map
use Rattle.name_path.specs.declared.place.Place.{Place}
use Rattle.alias_ref.specs.Written.{Step, WrittenPlaces, whole, is_written, is_misspelled, written_in}
use Rattle.alias_ref.specs.Visits.{visit, same_place, since, own_break}
use Rattle.alias_ref.specs.Laws.{Flat}
use Rattle.alias_ref.specs.inner.Contents.{content_view}
use Rattle.alias_ref.specs.inner.Spots.{IsSpot, start_in, HasStarts, IsClear, IsSameBranch}
use Rattle.alias_ref.specs.declared.spot.Spot.{Spot}
use Rattle.alias_ref.specs.declared.trace.Trace.{Trace}
use Rattle.alias_ref.proofs.FirstBreaks.{unbroken}
use Rattle.alias_ref.proofs.SamePlaces.{same_place-is}
use Rattle.alias_ref.proofs.SpotsStand.{spot_written, spot_start}
use Rattle.alias_ref.proofs.WrittenParts.{token_lost}

fails : (b : Bool) → (b ≡ true → ⊥) → b ≡ false
fails true h = absurd (h refl)
fails false h = refl

-- where no value starts so, the place does not stand among these
pub no_start : (f : Place → ℕ) (p : Place) (ps : List Place) → (Contains (map f ps) (f p) → ⊥) → since p ps ≡ None
no_start f p [] h = refl
no_start f p (q ∷ ps) h =
    ap (λ b. cond b (Some (q ∷ ps)) (since p ps)) (fails (same_place q p) (λ e. h (0, omega arith, ap f (same_place-is q p e))))
    ∙ no_start f p ps (λ k. h (suc k.0, omega (arith, k.1), k.2))

-- a visit that finds no such start on the branch, and room, breaks no rule where the place is spelled well
pub clear_visit : (flat : Flat) (T : WrittenPlaces) (t : Trace) (p : Place) (start : ℕ) → IsClear t start → HasStarts flat t → start ≡ start_in flat p → is_misspelled (T p) ≡ false → own_break T t.visits (visit t.places.items p) ≡ None
clear_visit flat T t p start k h e spelled =
    let new = no_start (start_in flat) p t.places.items (λ there.
    k.is_new (subst (λ xs. Contains xs start) (sym h) (subst (Contains (map (start_in flat) t.places.items)) (sym e) there))) in
    unbroken T t.visits t.places.items p new k.room k.few spelled

-- what is said of a visit of any place, at the place of a spot
pub spot_own : {flat : Flat} {s : Spot} {P : WrittenPlaces → Type 0} (t : Trace) → IsSpot flat s → HasStarts flat t → ((f : Flat) (T : WrittenPlaces) → HasStarts f t → s.start ≡ start_in f s.place → T s.place ≡ Some (content_view s.content) → P T) → P (written_in flat)
spot_own {flat} {s} t at starts h = h flat (written_in flat) starts (spot_start flat s at) (spot_written flat s at)

map_more : (f : Place → ℕ) (ps : List Place) (p : Place) → map f (ps ++ p ∷ []) ≡ map f ps ++ f p ∷ []
map_more f [] p = refl
map_more f (q ∷ ps) p = ap (λ xs. f q ∷ xs) (map_more f ps p)

pub starts_more : (f : Place → ℕ) (ps qs : List Place) (xs ys : List ℕ) (p : Place) (x : ℕ) → xs ≡ map f ps → qs ≡ ps ++ p ∷ [] → ys ≡ xs ++ x ∷ [] → x ≡ f p → ys ≡ map f qs
starts_more f ps qs xs ys p x h e g s = g ∙ ap₂ (λ zs z. zs ++ z ∷ []) h s ∙ sym (map_more f ps p) ∙ ap (map f) (sym e)

pub same_starts : (flat : Flat) (old new : Trace) → HasStarts flat old → IsSameBranch old new → HasStarts flat new
same_starts flat old new h s = s.1 ∙ h ∙ ap (map (start_in flat)) (sym s.0)

pub same_then : (a b c : Trace) → IsSameBranch a b → IsSameBranch b c → IsSameBranch a c
same_then a b c s t = (t.0 ∙ s.0, t.1 ∙ s.1)

pub none_case : {A : Type 0} (o : Option A) (P : Type 0) → o ≡ None → IfNone o P → P
none_case None P e h = h
none_case (Some x) P e h = absurd (cc)

pub not_there : (flat : Flat) (token : List Step) → flat_map.get flat token ≡ None → is_written (written_in flat (whole token)) ≡ false
not_there flat token e = ap is_written (token_lost flat (whole token) e)

-- what is left of a list begins with the item at the index
pub drop_at : (xs : List Step) (i : ℕ) (x : Step) → i < length xs → x ≡ get_or xs i x → drop i xs ≡ x ∷ drop (i + 1) xs
drop_at xs i x h e = drop-cons xs i x h ∙ ap (λ k. get_or xs i x ∷ drop k xs) (sym (add-one i)) ∙ ap (λ y. y ∷ drop (i + 1) xs) (sym e)

pub drop_all : (xs : List Step) (i : ℕ) → (i < length xs → ⊥) → drop i xs ≡ []
drop_all [] zero h = refl
drop_all [] (suc i) h = refl
drop_all (x ∷ xs) zero h = absurd (h (omega arith))
drop_all (x ∷ xs) (suc i) h = drop_all xs i (λ k. h (omega (arith, k)))

pub some_case : {A : Type 0} (o : Option A) (x : A) (P : A → Type 0) → o ≡ Some x → IfSome o P → P x
some_case None x P e h = absurd (cc)
some_case (Some y) x P e h = let same : y ≡ x = cc in subst P same h
