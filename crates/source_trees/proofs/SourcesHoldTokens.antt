-- Of the flat tree of sources without a break: its paths are those of tokens, its definitions are what their sources show and stand in their files, and all is of texts where the files are.
use Rattle.std.proofs.Common.{◌≡◌, ℕ, Bool, true, false, cond, List, [], ◌∷◌, ◌++◌, map, Option, Some, None, MatchOption, inl, inr, refl, sym, ap₂, subst, ◌∙◌}
use Rattle.std.specs.FinMap as finite
use Rattle.std.specs.FinMap.{slice_cmp-IsAntisymmetric, nat_cmp-IsAntisymmetric}
use Rattle.std.specs.List.{AllByRecursion}
use Rattle.std.specs.Ordering.{eq_by_cmp}
use Rattle.std.specs.Str.{IsUtf8}
use Rattle.json_span.specs.Answer.{Answer, IsAnswer, shows, flawed, stops}
use Rattle.json_span.specs.FitsIn.{SaidFits}
use Rattle.json_span.specs.Flaw.{equal_names, too_deep}
use Rattle.json_span.specs.Laws.{ShowsSay}
use Rattle.json_span.specs.Parts.{itself}
use Rattle.json_span.specs.Tree.{a_null, a_boolean, a_number, a_string, an_array, an_object, Placed, placed, Members, tree_of}
use Rattle.permutations.specs.Permutation as perm
use Rattle.permutations.specs.Permutation.{TokenSource}
use Rattle.ring.specs.Lists.{In}
use Rattle.tk_io.specs.FilesData.{FilesData}
use Rattle.tk_io.specs.Order.{names_cmp}
use Rattle.token_tree.specs.Laws.{NamesTest}
use Rattle.token_tree.specs.Promise.{IsDefinition, StandsIn}
use Rattle.token_tree.specs.Shape.{Break, shape_breaks, shape_of, is_token}
use Rattle.token_tree.specs.Tree.{Definition, Group}
use Rattle.token_tree.proofs.Keeps.{keeps}
use Rattle.token_tree.proofs.Objects.{object_at}
use Rattle.group_inherit.specs.Flattening.{Flattened, TokenAt}
use Rattle.group_inherit.specs.Laws.{FlatAsList}
use Rattle.group_inherit.specs.Merging.{merged_over, empty_group}
use Rattle.source_trees.specs.MergedTokens.{IsFlatOf, IsTextOfFile, StandsInFile, PathsAreOfTokens, TokensAreDefinitions, TokensAreOfTexts, TokensStandInFiles}
use Rattle.source_trees.specs.Merging.{InlineStands, AllInlineStand}
use Rattle.source_trees.specs.Sources.{HomeAt, BreakAt, break_at, shape_break, answer_breaks, answer_trees, FoundIn, SourceFound, SourcesFound}
use Rattle.source_trees.specs.Texts.{IsText, AreTexts}
use Rattle.source_trees.specs.declared.source.SourceFault.TheVariants.{Missing}
use Rattle.source_trees.proofs.MergingKeepsTokens.{Holding, IsMarked, IsTokenWith, WellFormed, is_equal, merged_formed, expanded_tokens}
use Rattle.source_trees.proofs.ShapesHoldTokens.{HoldsOfText, shape_formed}
use Rattle.source_trees.proofs.StringsAreTexts.{names_are_texts, string_is_text, object_is_text}

-- the files, and the file that names the sources, are texts
abbrev InMemory : FilesData → HomeAt → Type 0
InMemory files home = AreTexts files × IsText home.text

file_in_memory : (files : FilesData) (home : HomeAt) (file text : List ℕ) → IsTextOfFile files home file text
    → InMemory files home → IsText text
file_in_memory files home file text (inl there) texts = texts.0 file text there
file_in_memory files home file text (inr same) texts = subst IsText (sym same.1) texts.1

-- what holds of the definition of each token
record IsSound (files : FilesData) (home : HomeAt) (def : Definition) : Type 0 where
  shown : IsDefinition def
  in_file : StandsInFile files home def
  source : InMemory files home → IsText def.source

-- what holds of each token and of each string
abbrev holding : FilesData → HomeAt → Holding
holding files home = record { string = λ s. InMemory files home → IsUtf8 s; token = IsSound files home }

token_object : (n : Placed) → is_token n ≡ true → (ms : Members) × (tree_of n ≡ an_object ms)
token_object (placed a_null start end) e = absurd (cc)
token_object (placed (a_boolean b) start end) e = absurd (cc)
token_object (placed (a_number k) start end) e = absurd (cc)
token_object (placed (a_string s) start end) e = absurd (cc)
token_object (placed (an_array ns) start end) e = absurd (cc)
token_object (placed (an_object ms) start end) e = (ms, refl)

-- what stands in one text
text_holds : (said : SaidFits ℕ) (shown : ShowsSay ℕ) (files : FilesData) (home : HomeAt) (file text : List ℕ)
    → IsTextOfFile files home file text → HoldsOfText (holding files home) file text
text_holds said shown files home file text of_file = record {
  names = λ n stands. names_are_texts said shown text n stands (InMemory files home) in_memory;
  strings = λ n s stands is texts. string_is_text said shown text n stands s is (in_memory texts);
  tokens = λ n stands is sound.
      let (ms, object) = token_object n is in
      let at = object_at text stands.root n stands.shown stands.part ms object in
      record {
        shown = keeps file text n stands is sound;
        in_file = record { text = text; of_file = of_file; within = at.within; slice = refl };
        source = λ texts. object_is_text text n at (in_memory texts);
      };
}
  where
    in_memory : InMemory files home → IsText text
    in_memory texts = file_in_memory files home file text of_file texts

no_break : (b : BreakAt) (bs : List BreakAt) → [] ≡ b ∷ bs → ⊥
no_break b bs e = cc

none_mapped : (file : List ℕ) (bs : List Break) → [] ≡ map (shape_break file) bs → bs ≡ []
none_mapped file [] e = refl
none_mapped file (b ∷ bs) e = absurd (no_break _ _ e)

none_first : (xs ys : List BreakAt) → [] ≡ xs ++ ys → xs ≡ []
none_first [] ys e = refl
none_first (x ∷ xs) ys e = absurd (no_break _ _ e)

none_behind : (xs ys : List BreakAt) → [] ≡ xs ++ ys → ys ≡ []
none_behind [] ys e = sym e
none_behind (x ∷ xs) ys e = absurd (no_break _ _ e)

both_formed : (holds : Group → Type 0) (gs hs : List Group) → AllByRecursion holds gs → AllByRecursion holds hs
    → AllByRecursion holds (gs ++ hs)
both_formed holds [] hs a b = b
both_formed holds (g ∷ gs) hs a b = (a.0, both_formed holds gs hs a.1 b)

-- the laws of the layers below that are needed
pub record TextLaws : Type 0 where
  pub names : NamesTest
  pub list : FlatAsList
  pub shown : ShowsSay ℕ
  pub said : SaidFits ℕ

module _ (laws : TextLaws) (files : FilesData) (home : HomeAt) where
  abbrev IsFormed : Group → Type 0
  IsFormed tree = WellFormed (holding files home) tree

  abbrev AllFormed : List Group → Type 0
  AllFormed trees = AllByRecursion IsFormed trees

  of_value : (file text : List ℕ) (n : Placed) → IsTextOfFile files home file text → StandsIn text n → shape_breaks n ≡ [] → IsFormed (shape_of file text n)
  of_value file text n of_file stands none =
      shape_formed (holding files home) laws.names file text
      (text_holds laws.said laws.shown files home file text of_file) n stands none

  of_answer : (file text : List ℕ) (answer : Answer) → IsTextOfFile files home file text → IsAnswer text answer → [] ≡ answer_breaks file answer → AllFormed (answer_trees file text answer)
  of_answer file text (shows n) of_file is none =
      (of_value file text n of_file (record { root = n; shown = is.0; flawless = is.1; part = itself }) (none_mapped file (shape_breaks n) none), tt)
  of_answer file text (flawed (equal_names start end)) of_file is none = absurd (no_break _ _ none)
  of_answer file text (flawed (too_deep start end)) of_file is none = absurd (no_break _ _ none)
  of_answer file text (stops at) of_file is none = absurd (no_break _ _ none)

  of_text : (file text : List ℕ) (breaks : List BreakAt) (trees : List Group) → IsTextOfFile files home file text → FoundIn file text breaks trees → breaks ≡ [] → AllFormed trees
  of_text file text breaks trees of_file (answer, is, found, shown) none = subst AllFormed (sym shown) (of_answer file text answer of_file is (sym none ∙ found))

  of_file_at : (name : List ℕ) (start end : ℕ) (o : Option (List ℕ)) (breaks : List BreakAt) (trees : List Group) → finite.get files name ≡ o
      → MatchOption o ((breaks ≡ break_at Missing home.file start end ∷ []) × (trees ≡ [])) (λ text. FoundIn name text breaks trees) → breaks ≡ [] → AllFormed trees
  of_file_at name start end None breaks trees there found none = absurd (no_break _ _ (sym none ∙ found.0))
  of_file_at name start end (Some text) breaks trees there found none = of_text name text breaks trees (inl there) found none

  of_source : (source : TokenSource) (breaks : List BreakAt) (trees : List Group) → InlineStands home.text source → SourceFound files home source breaks trees → breaks ≡ [] → AllFormed trees
  of_source (perm.file name start end) breaks trees stands found none = of_file_at name start end (finite.get files name) breaks trees refl found none
  of_source (perm.inline n) breaks trees stands found none =
      subst AllFormed (sym found.1) (of_value home.file home.text n (inr (refl, refl)) stands (none_mapped home.file (shape_breaks n) (sym none ∙ found.0)), tt)

  of_sources : (sources : List TokenSource) (breaks : List BreakAt) (trees : List Group) → AllInlineStand home.text sources → SourcesFound files home sources breaks trees → breaks ≡ [] → AllFormed trees
  of_sources [] breaks trees stand found none = subst AllFormed (sym found.1) tt
  of_sources (s ∷ ss) breaks trees stand (b, bs, t, ts, here, later, broken, shown) none =
      let all : [] ≡ b ++ bs = sym none ∙ broken in
      subst AllFormed (sym shown)
      (both_formed IsFormed t ts (of_source s b t stand.0 here (none_first b bs all)) (of_sources ss bs ts stand.1 later (none_behind b bs all)))

  -- the tokens of the flat tree
  flat_tokens : (sources : List TokenSource) (flat : finite.FinMap names_cmp Flattened) → IsFlatOf files home sources flat
      → (token : TokenAt) → In token (finite.entries flat) → IsTokenWith (holding files home) token
  flat_tokens sources flat is token there =
      let tree = merged_over empty_group is.trees in
      let (e, x, made) = is.is_flat in
      let formed : IsFormed tree = merged_formed (holding files home) empty_group is.trees (tt, tt)
      (of_sources sources [] is.trees is.inline is.unbroken refl) in
      expanded_tokens (holding files home) tree e (finite.entries flat) formed x
      (laws.list tree e flat is.is_flat x).0 token there

-- what is found stands in the list

listed_by : (b : Bool) (path : List (List ℕ)) (e : TokenAt) (es : List TokenAt) (f : Flattened) (rest : Option Flattened)
    → eq_by_cmp names_cmp path e.0 ≡ b → cond b (Some e.1) rest ≡ Some f → (rest ≡ Some f → In (path, f) es)
    → In (path, f) (e ∷ es)
listed_by true path e es f rest same is later =
    let value : e.1 ≡ f = cc in
    let key : path ≡ e.0 = slice_cmp-IsAntisymmetric (slice_cmp-IsAntisymmetric nat_cmp-IsAntisymmetric) path e.0
    (is_equal (names_cmp path e.0) same) in
    inl (ap₂ (λ k x. (k, x)) key (sym value))
listed_by false path e es f rest same is later = inr (later is)

listed : (es : List TokenAt) (path : List (List ℕ)) (f : Flattened) → finite.find names_cmp path es ≡ Some f
    → In (path, f) es
listed [] path f is = cc
listed (e ∷ es) path f is =
    listed_by (eq_by_cmp names_cmp path e.0) path e es f (finite.find names_cmp path es) refl is (listed es path f)

module _ (laws : TextLaws) where
  token_at : (files : FilesData) (home : HomeAt) (sources : List TokenSource) (flat : finite.FinMap names_cmp Flattened)
      → IsFlatOf files home sources flat → (path : List (List ℕ)) (f : Flattened) → finite.get flat path ≡ Some f
      → IsTokenWith (holding files home) (path, f)
  token_at files home sources flat is path f at =
      flat_tokens laws files home sources flat is (path, f)
      (listed (finite.entries flat) path f (sym (finite.get-entries flat path) ∙ at))

  pub paths_of_tokens : PathsAreOfTokens
  paths_of_tokens files home sources flat is token there = (flat_tokens laws files home sources flat is token there).path

  pub tokens_are_definitions : TokensAreDefinitions
  tokens_are_definitions files home sources flat is path f at =
      (token_at files home sources flat is path f at).sound.shown

  pub tokens_stand_in_files : TokensStandInFiles
  tokens_stand_in_files files home sources flat is path f at =
      (token_at files home sources flat is path f at).sound.in_file

  pub tokens_are_of_texts : TokensAreOfTexts
  tokens_are_of_texts files home sources flat is texts home_text path f at =
      let token = token_at files home sources flat is path f at in
      let in_memory : InMemory files home = (texts, home_text) in
      record {
        names = λ k d within. token.names k d within in_memory;
        mark = λ reason marked.
            (subst (IsMarked (holding files home)) marked token.mark) in_memory;
        source = token.sound.source in_memory;
      }
