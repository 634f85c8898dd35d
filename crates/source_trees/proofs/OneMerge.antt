-- Sources come to one thing.
use Rattle.std.proofs.Common.{◌≡◌, ℕ, List, [], ◌∷◌, ◌++◌, Option, Some, None, MatchOption, sym, ap, subst, ◌∙◌}
use Rattle.std.specs.FinMap as finite
use Rattle.json_span.proofs.OneAnswer.{one_answer}
use Rattle.tk_io.specs.FilesData.{FilesData}
use Rattle.permutations.specs.Permutation as perm
use Rattle.permutations.specs.Permutation.{TokenSource}
use Rattle.token_tree.specs.Tree.{Group}
use Rattle.group_inherit.specs.Answer.{IsFlat}
use Rattle.group_inherit.specs.Laws.{OneFlat}
use Rattle.group_inherit.specs.Merging.{merged, merged_over, empty_group}
use Rattle.source_trees.specs.declared.laying.Merged.{Merged}
use Rattle.source_trees.specs.declared.laying.Merged.TheVariants.{Tree, Broken}
use Rattle.source_trees.specs.declared.source.SourceFault.TheVariants.{Missing}
use Rattle.source_trees.specs.Laws.{OneFound, SameMerged, OneMerge, OneFlatOf}
use Rattle.source_trees.specs.Merging.{IsLaid}
use Rattle.source_trees.specs.Sources.{HomeAt, BreakAt, break_at, answer_breaks, answer_trees, FoundIn, SourceFound, SourcesFound}

abbrev pub Same : List BreakAt → List BreakAt → List Group → List Group → Type 0
Same bs cs ts us = (bs ≡ cs) × (ts ≡ us)

pub found_one : (file text : List ℕ) (bs cs : List BreakAt) (ts us : List Group) → FoundIn file text bs ts → FoundIn file text cs us → Same bs cs ts us
found_one file text bs cs ts us (a, is, b, t) (d, is', c, u) =
    let same = one_answer text a d is is' in
    (b ∙ (ap (answer_breaks file) same ∙ sym c), t ∙ (ap (answer_trees file text) same ∙ sym u))

source_one : (files : FilesData) (home : HomeAt) (s : TokenSource) (bs cs : List BreakAt) (ts us : List Group) → SourceFound files home s bs ts → SourceFound files home s cs us → Same bs cs ts us
source_one files home (perm.file name start end) bs cs ts us f g = at (finite.get files name) f g
  where
    at : (o : Option (List ℕ)) → MatchOption o ((bs ≡ break_at Missing home.file start end ∷ []) × (ts ≡ [])) (λ text. FoundIn name text bs ts)
        → MatchOption o ((cs ≡ break_at Missing home.file start end ∷ []) × (us ≡ [])) (λ text. FoundIn name text cs us) → Same bs cs ts us
    at None x y = (x.0 ∙ sym y.0, x.1 ∙ sym y.1)
    at (Some text) x y = found_one name text bs cs ts us x y
source_one files home (perm.inline n) bs cs ts us f g = (f.0 ∙ sym g.0, f.1 ∙ sym g.1)

pub sources_one : (files : FilesData) (home : HomeAt) (ss : List TokenSource) (bs cs : List BreakAt) (ts us : List Group) → SourcesFound files home ss bs ts → SourcesFound files home ss cs us → Same bs cs ts us
sources_one files home [] bs cs ts us f g = (f.0 ∙ sym g.0, f.1 ∙ sym g.1)
sources_one files home (s ∷ ss) bs cs ts us (b, bs', t, ts', f, fs, eb, et) (c, cs', u, us', g, gs, ec, eu) =
    let here = source_one files home s b c t u f g in
    let later = sources_one files home ss bs' cs' ts' us' fs gs in
    (eb ∙ (ap (λ x. x ++ bs') here.0 ∙ (ap (λ x. c ++ x) later.0 ∙ sym ec)), et ∙ (ap (λ x. x ++ ts') here.1 ∙ (ap (λ x. u ++ x) later.1 ∙ sym eu)))

none_some : {A : Type 0} {x : A} {xs : List A} → [] ≡ x ∷ xs → ⊥
none_some e = cc

head_is : {A : Type 0} {x y : A} {xs ys : List A} → x ∷ xs ≡ y ∷ ys → x ≡ y
head_is e = cc

pub laid_one : (bs cs : List BreakAt) (ts us : List Group) (before : Group) (m n : Merged) → Same bs cs ts us → IsLaid bs ts before m → IsLaid cs us before n → SameMerged m n
laid_one bs cs ts us before (Tree g) (Tree h) same l k = l.1 ∙ (ap (merged_over before) same.1 ∙ sym k.1)
laid_one bs cs ts us before (Tree g) (Broken b) same l k = none_some (sym l.0 ∙ (same.0 ∙ k.1))
laid_one bs cs ts us before (Broken b) (Tree g) same l k = none_some (sym k.0 ∙ (sym same.0 ∙ l.1))
laid_one bs cs ts us before (Broken b) (Broken c) same l k = head_is (sym l.1 ∙ (same.0 ∙ k.1))

pub one_merge : OneMerge
one_merge files home sources m n (bs, ts, f, l) (cs, us, g, k) = laid_one bs cs ts us empty_group m n (sources_one files home sources bs cs ts us f g) l k

pub one_found : OneFound
one_found = sources_one

pub one_flat_of : OneFlat → OneFlatOf
one_flat_of one files home sources flat other f g =
    let same = sources_one files home sources [] [] f.trees g.trees f.unbroken g.unbroken in
    one (merged g.trees) flat other (subst (λ ts. IsFlat (merged ts) flat) same.1 f.is_flat) g.is_flat
