-- What sources come to is decided by their contents.
use Rattle.std.proofs.Common.{◌≡◌, ℕ, List, [], ◌∷◌, ◌++◌, map, Option, Some, None, option_map, MatchOption, sym, ap, subst, ◌∙◌}
use Rattle.std.specs.Prelude.{unwrap_or}
use Rattle.std.specs.FinMap as finite
use Rattle.tk_io.specs.FilesData.{FilesData}
use Rattle.permutations.specs.Permutation as perm
use Rattle.permutations.specs.Permutation.{TokenSource}
use Rattle.token_tree.specs.Laws.{OneShape}
use Rattle.token_tree.specs.Shape.{shape_breaks, shape_of}
use Rattle.token_tree.specs.Tree.{Group}
use Rattle.group_inherit.specs.Answer.{IsFlat}
use Rattle.group_inherit.specs.Laws.{OneFlat}
use Rattle.group_inherit.specs.Merging.{merged, empty_group}
use Rattle.source_trees.specs.declared.source.SourceFault.TheVariants.{Missing}
use Rattle.source_trees.specs.Contents.{SourceContent, a_file, a_missing_file, a_slice, source_content}
use Rattle.source_trees.specs.Laws.{ContentsAgree, FoundByContent, MergedByContent, FlatByContent}
use Rattle.source_trees.specs.Merging.{InlineStands, AllInlineStand}
use Rattle.source_trees.specs.Sources.{HomeAt, BreakAt, break_at, shape_break, FoundIn, SourceFound, SourcesFound}
use Rattle.source_trees.proofs.OneMerge.{Same, found_one, laid_one}

-- Contents that agree have the same parts.

file_name : {f g t u : List ℕ} → a_file f t ≡ a_file g u → f ≡ g
file_name e = cc

file_text : {f g t u : List ℕ} → a_file f t ≡ a_file g u → t ≡ u
file_text e = cc

missing_home : {f g : List ℕ} {s e t d : ℕ} → a_missing_file f s e ≡ a_missing_file g t d → f ≡ g
missing_home e = cc

missing_start : {f g : List ℕ} {s e t d : ℕ} → a_missing_file f s e ≡ a_missing_file g t d → s ≡ t
missing_start e = cc

missing_end : {f g : List ℕ} {s e t d : ℕ} → a_missing_file f s e ≡ a_missing_file g t d → e ≡ d
missing_end e = cc

slice_file : {f g s t : List ℕ} {a b : ℕ} → a_slice f s a ≡ a_slice g t b → f ≡ g
slice_file e = cc

slice_text : {f g s t : List ℕ} {a b : ℕ} → a_slice f s a ≡ a_slice g t b → s ≡ t
slice_text e = cc

slice_start : {f g s t : List ℕ} {a b : ℕ} → a_slice f s a ≡ a_slice g t b → a ≡ b
slice_start e = cc

first_same : {x y : SourceContent} {xs ys : List SourceContent} → x ∷ xs ≡ y ∷ ys → x ≡ y
first_same e = cc

rest_same : {x y : SourceContent} {xs ys : List SourceContent} → x ∷ xs ≡ y ∷ ys → xs ≡ ys
rest_same e = cc

-- and contents of one kind are none of another
file_or_missing : {f g t : List ℕ} {s e : ℕ} → a_file f t ≡ a_missing_file g s e → ⊥
file_or_missing e = cc

file_or_slice : {f g t u : List ℕ} {s : ℕ} → a_file f t ≡ a_slice g u s → ⊥
file_or_slice e = cc

missing_or_slice : {f g u : List ℕ} {s e a : ℕ} → a_missing_file f s e ≡ a_slice g u a → ⊥
missing_or_slice e = cc

none_or_more : {x : SourceContent} {xs : List SourceContent} → [] ≡ x ∷ xs → ⊥
none_or_more e = cc

-- One source.

missing_same : (f g : List ℕ) (s e t d : ℕ) → a_missing_file f s e ≡ a_missing_file g t d → break_at Missing f s e ∷ [] ≡ break_at Missing g t d ∷ []
missing_same f g s e t d h =
    let file = missing_home h in
    let start = missing_start h in
    let end = missing_end h in
    λ i. break_at Missing (file i) (start i) (end i) ∷ []

module _ (home origin : HomeAt) (bs cs : List BreakAt) (ts us : List Group) where
  abbrev OfFile : HomeAt → List ℕ → ℕ → ℕ → List BreakAt → List Group → Option (List ℕ) → Type 0
  OfFile at name start end found trees file =
      MatchOption file ((found ≡ break_at Missing at.file start end ∷ []) × (trees ≡ [])) (λ text. FoundIn name text found trees)

  abbrev content : HomeAt → List ℕ → ℕ → ℕ → Option (List ℕ) → SourceContent
  content at name start end file = unwrap_or (option_map (a_file name) file) (a_missing_file at.file start end)

  files_same : (name other : List ℕ) (s e t d : ℕ) (o p : Option (List ℕ)) → content home name s e o ≡ content origin other t d p
      → OfFile home name s e bs ts o → OfFile origin other t d cs us p → Same bs cs ts us
  files_same name other s e t d None None h x y = (x.0 ∙ (missing_same home.file origin.file s e t d h ∙ sym y.0), x.1 ∙ sym y.1)
  files_same name other s e t d None (Some text) h x y = absurd (file_or_missing (sym h))
  files_same name other s e t d (Some text) None h x y = absurd (file_or_missing h)
  files_same name other s e t d (Some text) (Some more) h x y =
      let to_other : FoundIn other text bs ts = subst (λ z. FoundIn z text bs ts) (file_name h) x in
      found_one other more bs cs ts us (subst (λ z. FoundIn other z bs ts) (file_text h) to_other) y

  module _ (shape : OneShape) (files others : FilesData) where
    source_same : (s r : TokenSource) → source_content files home s ≡ source_content others origin r → InlineStands home.text s → InlineStands origin.text r
        → SourceFound files home s bs ts → SourceFound others origin r cs us → Same bs cs ts us
    source_same (perm.file name s e) (perm.file other t d) h i j f g =
        files_same name other s e t d (finite.get files name) (finite.get others other) h f g
    source_same (perm.file name s e) (perm.inline m) h i j f g = absurd (no_slice (finite.get files name) h)
      where
        no_slice : (o : Option (List ℕ)) → content home name s e o ≡ source_content others origin (perm.inline m) → ⊥
        no_slice None k = missing_or_slice k
        no_slice (Some text) k = file_or_slice k
    source_same (perm.inline n) (perm.file other t d) h i j f g = absurd (no_slice (finite.get others other) h)
      where
        no_slice : (o : Option (List ℕ)) → source_content files home (perm.inline n) ≡ content origin other t d o → ⊥
        no_slice None k = missing_or_slice (sym k)
        no_slice (Some text) k = file_or_slice (sym k)
    source_same (perm.inline n) (perm.inline m) h i j f g =
        let same = shape home.file home.text origin.text n m i j (slice_text h) (slice_start h) in
        let breaks : map (shape_break home.file) (shape_breaks n) ≡ map (shape_break origin.file) (shape_breaks m) =
        ap (map (shape_break home.file)) same.0 ∙ ap (λ z. map (shape_break z) (shape_breaks m)) (slice_file h) in
        let tree : shape_of home.file home.text n ≡ shape_of origin.file origin.text m =
        same.1 ∙ ap (λ z. shape_of z origin.text m) (slice_file h) in
        (f.0 ∙ (breaks ∙ sym g.0), f.1 ∙ (ap (λ x. x ∷ []) tree ∙ sym g.1))

-- All sources.

module _ (shape : OneShape) (files others : FilesData) (home origin : HomeAt) where
  sources_same : (sources more : List TokenSource) (bs cs : List BreakAt) (ts us : List Group) → ContentsAgree files home sources others origin more
      → AllInlineStand home.text sources → AllInlineStand origin.text more → SourcesFound files home sources bs ts → SourcesFound others origin more cs us → Same bs cs ts us
  sources_same [] [] bs cs ts us h i j f g = (f.0 ∙ sym g.0, f.1 ∙ sym g.1)
  sources_same [] (r ∷ rs) bs cs ts us h i j f g = absurd (none_or_more h)
  sources_same (s ∷ ss) [] bs cs ts us h i j f g = absurd (none_or_more (sym h))
  sources_same (s ∷ ss) (r ∷ rs) bs cs ts us h i j (b, bs', t, ts', f, fs, eb, et) (c, cs', u, us', g, gs, ec, eu) =
      let here = source_same home origin b c t u shape files others s r (first_same h) i.0 j.0 f g in
      let later = sources_same ss rs bs' cs' ts' us' (rest_same h) i.1 j.1 fs gs in
      (eb ∙ (ap (λ x. x ++ bs') here.0 ∙ (ap (λ x. c ++ x) later.0 ∙ sym ec)), et ∙ (ap (λ x. x ++ ts') here.1 ∙ (ap (λ x. u ++ x) later.1 ∙ sym eu)))

pub found_by_content : OneShape → FoundByContent
found_by_content shape files others home origin sources more bs cs ts us h i j f g =
    sources_same shape files others home origin sources more bs cs ts us h i j f g

pub merged_by_content : OneShape → MergedByContent
merged_by_content shape files others home origin sources more m n h i j (bs, ts, f, l) (cs, us, g, k) =
    laid_one bs cs ts us empty_group m n (sources_same shape files others home origin sources more bs cs ts us h i j f g) l k

pub flat_by_content : OneShape → OneFlat → FlatByContent
flat_by_content shape one files others home origin sources more flat other h f g =
    let same = sources_same shape files others home origin sources more [] [] f.trees g.trees h f.inline g.inline f.unbroken g.unbroken in
    one (merged g.trees) flat other (subst (λ ts. IsFlat (merged ts) flat) same.1 f.is_flat) g.is_flat
