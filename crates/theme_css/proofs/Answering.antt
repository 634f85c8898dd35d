-- What files come to: their outputs, what their resolver document says, and so what is answered.
use Rattle.std.proofs.Common.{◌≡◌, ◌∙◌, ℕ, List, [], ◌∷◌, map, Option, Some, None, Result, Ok, Err, inl, inr, refl, sym, ap}
use Rattle.std.specs.Prelude.{IfOk, IfErr}
use Rattle.std.specs.FinMap as finite
use Rattle.std.proofs.lemmas.Option.{none-some, same_Some}
use Rattle.tk_io.specs.FilesData.{FilesData}
use Rattle.json_span.specs.Laws.{ShowsOne}
use Rattle.json_span.specs.Tree.{Placed}
use Rattle.resolver_doc.specs.Document.{ItemData, ResolverData, SetData, resolver_of}
use Rattle.permutations.specs.Name.{name_of}
use Rattle.permutations.specs.Permutation.{Pick, choices, permutation, permutations}
use Rattle.file_plan.specs.InUse.{resolver_path}
use Rattle.file_plan.specs.Trees.{IsRead, IsTreeOf}
use Rattle.file_plan.specs.declared.tree.Tree.{Tree}
use Rattle.css_out.specs.Laws.{BlocksJoin, ReadOnce}
use Rattle.build_plain.specs.Laws.{OneBuild}
use Rattle.build_plain.specs.Out.{Builds}
use Rattle.theme_css.specs.Blocks.{blocks_after}
use Rattle.theme_css.specs.Sheet.{written}
use Rattle.theme_css.specs.Themes.{HasBadName, HasRefusal, IsAnswered, IsThemeSheet, IsThemeStop, Resolves, by_weight, chosen, first_bad, first_refused, pages, usual}
use Rattle.theme_css.specs.declared.stop.ThemeStop.{ThemeStop}
use Rattle.theme_css.specs.declared.stop.ThemeStop.TheVariants.{Refused, Name, NoMemory}
use Rattle.theme_css.specs.inner.Pages.{IsAnswerOf, IsBadName, IsSheetOfOrder}
use Rattle.theme_css.proofs.CascadeDenotes.{denotes_each}

abbrev Answer : Type 0
Answer = Result (List ℕ) ThemeStop

-- a document says one order
pub one_order : ShowsOne → (text : Option (List ℕ)) (a b : List ItemData) → Resolves text a → Resolves text b → a ≡ b
one_order one None a b h i = h ∙ sym i
one_order one (Some text) a b h i =
    h.3 ∙ (ap (λ (root : Placed). (resolver_of root).order) (one text h.0 i.0 (h.1).0 (i.1).0) ∙ sym i.3)

two_refusals : (out other : FilesData) (path : List ℕ) → out ≡ other → first_refused out ≡ None → first_refused other ≡ Some path → ⊥
two_refusals out other path same none some = none-some path (sym none ∙ (ap first_refused same ∙ some))

two_names : (a b : List ItemData) (name : List ℕ) → a ≡ b → first_bad a ≡ None → first_bad b ≡ Some name → ⊥
two_names a b name same none some = none-some name (sym none ∙ (ap first_bad same ∙ some))

module _ (build : OneBuild) (files : FilesData) where
  pub refused_answer : (result : Answer) → IfOk result (IsThemeSheet files) → IfErr result (IsThemeStop files) → (path : List ℕ) → HasRefusal files path → IsAnswered (Err (Refused path)) result
  refused_answer (Ok sheet) ok err path (out, builds, first) = absurd (two_refusals ok.out out path (build files ok.out out ok.builds builds) ok.unrefused first)
  refused_answer (Err (Refused other)) ok (o, b, f) path (out, builds, first) =
      inl (ap (λ (p : List ℕ). Err (Refused p)) (same_Some other path (sym f ∙ (ap first_refused (build files o out b builds) ∙ first))))
  refused_answer (Err (Name name)) ok err path (out, builds, first) = absurd (two_refusals err.out out path (build files err.out out err.builds builds) err.unrefused first)
  refused_answer (Err NoMemory) ok err path h = inr refl

  pub named_answer : ShowsOne → (result : Answer) → IfOk result (IsThemeSheet files) → IfErr result (IsThemeStop files) → (name : List ℕ) → HasBadName files name → IsAnswered (Err (Name name)) result
  named_answer one (Ok sheet) ok err name h =
      absurd (two_names ok.order h.order name (one_order one (finite.get files resolver_path) ok.order h.order ok.resolves h.resolves) ok.named h.named)
  named_answer one (Err (Refused path)) ok (o, b, f) name h = absurd (two_refusals h.out o path (build files h.out o h.builds b) h.unrefused f)
  named_answer one (Err (Name other)) ok err name h =
      inl (ap (λ (n : List ℕ). Err (Name n)) (same_Some other name (sym err.named ∙ (ap first_bad (one_order one (finite.get files resolver_path) err.order h.order err.resolves h.resolves) ∙ h.named))))
  named_answer one (Err NoMemory) ok err name h = inr refl

-- the names of permutations are those of their contexts
named_picks : (sets : List SetData) (cs : List (List Pick)) → map (λ p. p.name) (map (permutation sets) cs) ≡ map name_of (map chosen cs)
named_picks sets [] = refl
named_picks sets (c ∷ cs) = ap (λ (l : List (List ℕ)). name_of (chosen c) ∷ l) (named_picks sets cs)

pub permutation_names : (plan : ResolverData) → map (λ p. p.name) (permutations plan) ≡ map name_of (pages plan.order)
permutation_names plan = named_picks plan.sets (choices plan.order)

-- an answer of an order is one of a document that says the order
pub answer_of : (out : FilesData) (says : List ItemData → Type 0) (order : List ItemData) (result : Answer) → says order → IfOk result (IsSheetOfOrder out order) → IfErr result (IsBadName order) → IsAnswerOf out says result
answer_of out says order (Ok sheet) said ok err = (order, said, ok)
answer_of out says order (Err (Refused path)) said ok err = err
answer_of out says order (Err (Name name)) said ok err = (order, said, err)
answer_of out says order (Err NoMemory) said ok err = tt

-- what is answered of a text that was read
pub of_text : (P : Option (List ℕ) → Type 0) (tree : Tree) (text : Option (List ℕ)) → IsRead text (Some tree) → ((t : List ℕ) → IsTreeOf t tree → P (Some t)) → P text
of_text P tree None h f = absurd h
of_text P tree (Some t) h f = f t h

-- the whole sheet
pub whole_sheet : BlocksJoin → ReadOnce → (files out : FilesData) (result : Answer) → Builds files out → first_refused out ≡ None → IsAnswerOf out (Resolves (finite.get files resolver_path)) result → IfOk result (IsThemeSheet files)
whole_sheet join once files out (Ok sheet) builds none (order, said, (named, themes, are, is)) =
    record {
      out = out;
      builds = builds;
      unrefused = none;
      order = order;
      resolves = said;
      named = named;
      themes = themes;
      are_themes = are;
      is_sheet = is;
      denotes_each = denotes_each join once out (usual order) (by_weight (usual order) (pages order)) themes (written (blocks_after is.names [] themes)) are is.once is.shows_each;
    }
whole_sheet join once files out (Err stop) builds none h = tt

pub whole_stop : (files out : FilesData) (result : Answer) → Builds files out → first_refused out ≡ None → IsAnswerOf out (Resolves (finite.get files resolver_path)) result → IfErr result (IsThemeStop files)
whole_stop files out (Ok sheet) builds none h = tt
whole_stop files out (Err (Refused path)) builds none h = absurd h
whole_stop files out (Err (Name name)) builds none (order, said, named) =
    record { out = out; builds = builds; unrefused = none; order = order; resolves = said; named = named }
whole_stop files out (Err NoMemory) builds none h = tt
