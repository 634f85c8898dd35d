-- What is printed of a report, line after line.
use Rattle.std.proofs.Common.{◌≡◌, ◌+◌, ◌<◌, ℕ, length, take, get_or, List, [], ◌∷◌, ◌++◌, ap, sym, ◌∙◌, append_assoc, map, flat_map}
use Rattle.std.proofs.lemmas.List.{append-nil, take_more, flat_map_more}
use Rattle.std.proofs.lemmas.List.Folds.{flat_map-map}
use Rattle.name_path.specs.declared.place.Place.{Place}
use Rattle.tk_io.specs.FilesData.{FilesData}
use Rattle.refusals.specs.Refusal.{Detail, ring_group, ring_place, ring_set, detail_line, detail_lines, refusal_text, report, report_text, file_text}
use Rattle.refusals.specs.declared.rule.Rule.{Rule}

module _ (files : FilesData) (rule : Rule) (file : List ℕ) (start end : ℕ) where
  -- nothing else is said
  pub bare : (text b : List ℕ) → text ≡ file_text files file → b ≡ refusal_text rule file text start end → b ≡ report_text files (report rule file start end [])
  unfolding report_text
  bare text b there is = is ∙ (ap (λ t. refusal_text rule file t start end) there ∙ sym (append-nil _))

  -- details are appended
  pub told : (b c : List ℕ) (details : List Detail) → b ≡ report_text files (report rule file start end []) → c ≡ b ++ detail_lines details
      → c ≡ report_text files (report rule file start end details)
  unfolding report_text
  told b c details is more = more ∙ ap (λ x. x ++ detail_lines details) (is ∙ append-nil _)

-- one line, and three, one after another
pub one_more : (b c x : List ℕ) → c ≡ b ++ x → c ≡ b ++ (x ++ [])
one_more b c x is = is ∙ ap (λ z. b ++ z) (sym (append-nil x))

pub two_more : (b c d x y : List ℕ) → c ≡ b ++ x → d ≡ c ++ y → d ≡ b ++ (x ++ y)
two_more b c d x y f g = g ∙ (ap (λ o. o ++ y) f ∙ append_assoc b x y)

pub three_more : (b c d e x y z : List ℕ) → c ≡ b ++ x → d ≡ c ++ y → e ≡ d ++ z → e ≡ b ++ (x ++ (y ++ z))
three_more b c d e x y z f g h = two_more b c e x (y ++ z) f (h ∙ (ap (λ o. o ++ z) g ∙ append_assoc c y z))

pub ring_lines : (ring : List Place) → flat_map (λ place. detail_line (ring_place place)) ring ≡ detail_lines (map ring_place ring)
ring_lines ring = sym (flat_map-map detail_line ring_place ring)

pub group_lines : (ring : List (List (List ℕ))) → flat_map (λ group. detail_line (ring_group group)) ring ≡ detail_lines (map ring_group ring)
group_lines ring = sym (flat_map-map detail_line ring_group ring)

pub set_lines : (ring : List (List ℕ)) → flat_map (λ name. detail_line (ring_set name)) ring ≡ detail_lines (map ring_set ring)
set_lines ring = sym (flat_map-map detail_line ring_set ring)

-- one line more
pub line_more : (g : List ℕ → List ℕ) (before out new : List ℕ) (xs : List (List ℕ)) (i : ℕ) (x : List ℕ) → i < length xs → x ≡ get_or xs i x
    → out ≡ before ++ flat_map g (take i xs) → new ≡ out ++ g x → new ≡ before ++ flat_map g (take (i + 1) xs)
line_more g before out new xs i x h is so_far more =
    more ∙ (ap (λ o. o ++ g x) so_far ∙ (flat_map_more g before (take i xs) x
    ∙ ap (λ (ys : List (List ℕ)). before ++ flat_map g ys) (ap (λ (y : List ℕ). take i xs ++ y ∷ []) is ∙ sym (take_more xs i x h))))
