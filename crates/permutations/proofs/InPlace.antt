-- Drafts that are added to in place.
use Rattle.std.proofs.Common.{◌≡◌, ◌+◌, ◌<◌, ℕ, List, [], ◌∷◌, ◌++◌, append-nil, append_assoc, length, length-take-le, map, take, drop, set, get_or, refl, sym, ap, ◌∙◌, subst, arith}
use Rattle.std.proofs.lemmas.List.{take_more, take_all, drop_more, drop_all, map-append, map-set, length-map, set_at, get_or_at, get_or-map}
use Rattle.std.proofs.lemmas.List.Concat.{flat_map_single}
use Rattle.permutations.specs.Permutation.{Permutation}
use Rattle.permutations.specs.declared.draft.Draft.{Draft}
use Rattle.permutations.specs.inner.Drafts.{DraftData, draft_view, drafts_view, with_more, with_each, finished}

module _ (F : DraftData → DraftData) (xs now : List Draft) (i : ℕ) (old new : Draft) (h : i < length xs) (same : length now ≡ length xs)
    (is : drafts_view now ≡ map F (drafts_view (take i xs)) ++ drafts_view (drop i xs)) (read : old ≡ get_or now i old) (made : draft_view new ≡ F (draft_view old)) where
  abbrev front : List DraftData
  front = map F (drafts_view (take i xs))

  abbrev x : Draft
  x = get_or xs i old

  abbrev back : List DraftData
  back = drafts_view (drop (i + 1) xs)

  split : drafts_view now ≡ front ++ draft_view x ∷ back
  split = is ∙ ap (λ (ds : List Draft). front ++ drafts_view ds) (drop_more xs i old h)

  long : length front ≡ i
  long = length-map (drafts_view (take i xs)) F ∙ (length-map (take i xs) draft_view ∙ length-take-le i xs (omega arith))

  old_is : draft_view old ≡ draft_view x
  old_is =
      ap draft_view read
      ∙ (sym (get_or-map draft_view now i old (draft_view old) (subst (λ (n : ℕ). i < n) (sym same) h))
      ∙ (ap (λ (ds : List DraftData). get_or ds i (draft_view old)) split ∙ get_or_at front (draft_view x) back (draft_view old) i long))

  pub one_more : drafts_view (set now i new) ≡ map F (drafts_view (take (i + 1) xs)) ++ back
  one_more =
      map-set draft_view now i new
      ∙ (ap (λ (ds : List DraftData). set ds i (draft_view new)) split
      ∙ (set_at front (draft_view x) back (draft_view new) i long
      ∙ (ap (λ (d : DraftData). front ++ d ∷ back) (made ∙ ap F old_is)
      ∙ (sym (append_assoc front (F (draft_view x) ∷ []) back)
      ∙ ap (λ (ds : List DraftData). ds ++ back) (sym (
      ap (λ (ds : List Draft). map F (drafts_view ds)) (take_more xs i old h)
      ∙ (ap (map F) (map-append draft_view (take i xs) (x ∷ [])) ∙ map-append F (drafts_view (take i xs)) (draft_view x ∷ []))))))))

pub single : (xs : List Draft) (x : Draft) → length xs ≡ 1 → x ≡ get_or xs 0 x → xs ≡ x ∷ []
single [] x h is = absurd (omega arith)
single (y ∷ []) x h is = ap (λ (z : Draft). z ∷ []) (sym is)
single (y ∷ z ∷ zs) x h is = absurd (omega arith)

pub with_one : (ds : List DraftData) (option : DraftData) → with_each ds (option ∷ []) ≡ map (λ d. with_more d option) ds
with_one ds option = flat_map_single (λ d. with_more d option) ds

-- what a slice of all of them leaves
pub all_back : (items new : List Draft) (n : ℕ) → length new ≡ length items → n ≡ length items → take n (new ++ drop (length new) items) ≡ new
all_back items new n same all =
    ap (λ (ds : List Draft). take n (new ++ ds)) (drop_all (length new) items (omega arith))
    ∙ (ap (take n) (append-nil new) ∙ take_all n new (omega arith))

pub finished_views : (ds : List Draft) → map (λ d. finished (draft_view d)) ds ≡ map finished (drafts_view ds)
finished_views [] = refl
finished_views (d ∷ ds) = ap (λ (ps : List Permutation). finished (draft_view d) ∷ ps) (finished_views ds)
