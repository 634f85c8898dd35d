-- Whether two lists hold the same, item after item.
use Rattle.std.proofs.Common.{◌≡◌, ◌≢◌, ℕ, ◌+◌, ◌<◌, ◌≤◌, List, [], ◌∷◌, ◌++◌, Some, None, refl, sym, ap, ap₂, ◌∙◌, get_or, length, take}
use Rattle.std.proofs.lemmas.List.{take_all, map_more, length-map}
use Rattle.std.proofs.lemmas.Option.{slice_get-get_or}
use Rattle.std.specs.List.{slice_get}
use Rattle.std.specs.Prelude.{map, option_map, slice_range, unwrap_or}
use Rattle.json_span.specs.Tree.{start_of, end_of}
use Rattle.json_span.specs.View.{node_view}
use Rattle.json_span.specs.declared.node.Node.{Node}
use Rattle.tk_io.specs.FilesData.{FilesData}
use Rattle.file_plan.specs.View.{plan_source_view}
use Rattle.file_plan.specs.declared.source.PlanSource.{PlanSource}
use Rattle.file_plan.specs.declared.source.PlanSource.TheVariants.{File, Inline}
use Rattle.source_trees.specs.Contents.{a_file, a_missing_file, a_slice, source_content}
use Rattle.source_trees.specs.Sources.{HomeAt}
use Rattle.std.specs.FinMap as finite
use Rattle.rebuild_core.proofs.ZippedLists.{mapped_at}

some_is : {X : Type 0} {x y : X} → Some x ≡ Some y → x ≡ y
some_is e = cc

pub map_twice : {A B C : Type 0} (f : B → C) (g : A → B) (xs : List A) → map f (map g xs) ≡ map (λ x. f (g x)) xs
map_twice f g [] = refl
map_twice f g (x ∷ xs) = ap (λ l. f (g x) ∷ l) (map_twice f g xs)

module _ {A B C : Type 0} (f : A → C) (g : B → C) (xs : List A) (ys : List B) where
  pub same_next : (i : ℕ) (x : A) (y : B) → i < length xs → i < length ys → map f (take i xs) ≡ map g (take i ys) → f (get_or xs i x) ≡ g (get_or ys i y)
      → map f (take (i + 1) xs) ≡ map g (take (i + 1) ys)
  same_next i x y within within_too so_far same =
      map_more f xs i x within ∙ (ap₂ (λ l c. l ++ c ∷ []) so_far same ∙ sym (map_more g ys i y within_too))

  pub same_end : (i : ℕ) → length xs ≤ i → length ys ≤ i → map f (take i xs) ≡ map g (take i ys) → map f xs ≡ map g ys
  same_end i all all_too so_far = ap (map f) (sym (take_all i xs all)) ∙ (so_far ∙ ap (map g) (take_all i ys all_too))

  pub other_at : (i : ℕ) (x : A) (y : B) → i < length xs → i < length ys → f (get_or xs i x) ≢ g (get_or ys i y) → map f xs ≢ map g ys
  other_at i x y within within_too other e =
      other (some_is (sym (mapped_at f xs i (get_or xs i x) (slice_get-get_or xs i x within)) ∙ (ap (λ l. slice_get l i) e ∙ mapped_at g ys i (get_or ys i y) (slice_get-get_or ys i y within_too))))

  pub other_long : length xs ≢ length ys → map f xs ≢ map g ys
  other_long other e = other (sym (length-map xs f) ∙ (ap length e ∙ length-map ys g))

-- What decides what a source comes to.

module _ (files : FilesData) (home : HomeAt) (source : PlanSource) where
  pub file_content : (name : List ℕ) (start end : ℕ) (kept text : List ℕ) → source ≡ File name start end → kept ≡ name → finite.get files kept ≡ Some text
      → a_file kept text ≡ source_content files home (plan_source_view source)
  file_content name start end kept text is same there =
      ap (λ n. a_file n text) same
      ∙ (ap (λ o. unwrap_or (option_map (a_file name) o) (a_missing_file home.file start end)) (sym (ap (finite.get files) (sym same) ∙ there))
      ∙ ap (λ s. source_content files home (plan_source_view s)) (sym is))

  pub missing_content : (name : List ℕ) (start end : ℕ) (kept : List ℕ) → source ≡ File name start end → kept ≡ name → finite.get files kept ≡ None
      → a_missing_file home.file start end ≡ source_content files home (plan_source_view source)
  missing_content name start end kept is same there =
      ap (λ o. unwrap_or (option_map (a_file name) o) (a_missing_file home.file start end)) (sym (ap (finite.get files) (sym same) ∙ there))
      ∙ ap (λ s. source_content files home (plan_source_view s)) (sym is)

  pub object_content : (node : Node) (slice : List ℕ) (at start end : ℕ) → source ≡ Inline node → slice ≡ slice_range home.text start end → start ≡ start_of (node_view node) → end ≡ end_of (node_view node)
      → at ≡ start_of (node_view node) → a_slice home.file slice at ≡ source_content files home (plan_source_view source)
  object_content node slice at start end is made begins ends same =
      ap₂ (λ t a. a_slice home.file t a) made same ∙ (ap₂ (λ a b. a_slice home.file (slice_range home.text a b) (start_of (node_view node))) begins ends
      ∙ ap (λ s. source_content files home (plan_source_view s)) (sym is))
