-- Files have one sheet.
use Rattle.std.proofs.Common.{◌≡◌, ◌∙◌, ℕ, cond, not, Bool, true, false, List, [], ◌∷◌, ◌++◌, filter, map, Option, Some, None, is_some, Less, inl, inr, refl, sym, ap, ap₂, subst}
use Rattle.std.specs.Prelude.{IfSome}
use Rattle.std.specs.FinMap as finite
use Rattle.std.specs.List.{AllByRecursion, AllZip}
use Rattle.std.specs.List.Sorted.{IsStrictlySortedBy}
use Rattle.std.specs.Cmp.Lexicographic.{nat_list_cmp_total}
use Rattle.std.proofs.lemmas.Option.{same_Some}
use Rattle.dec_fix.proofs.Again.{both}
use Rattle.ring.specs.Lists.{In}
use Rattle.json_span.specs.Laws.{ShowsOne}
use Rattle.tk_io.specs.FilesData.{FilesData}
use Rattle.tk_io.specs.Order.{text_cmp}
use Rattle.permutations.specs.Name.{Choice}
use Rattle.resolver_doc.specs.Document.{ItemData}
use Rattle.file_plan.specs.InUse.{resolver_path}
use Rattle.build_plain.specs.Laws.{OneBuild}
use Rattle.theme_css.specs.Blocks.{Theme, block_after, blocks_after, changed, gone, is_gone, none_for}
use Rattle.theme_css.specs.Cascade.{Block, Declaration, Offer, cascade, strongest, value_in}
use Rattle.theme_css.specs.Laws.{OneThemeSheet}
use Rattle.theme_css.specs.Sheet.{sheet_text}
use Rattle.theme_css.specs.Themes.{AreNamesOf, AreThemes, IsTheme, by_weight, pages, usual}
use Rattle.theme_css.specs.inner.Offers.{value_of}
use Rattle.theme_css.proofs.Answering.{one_order}
use Rattle.theme_css.proofs.LinesOnce.{declares_once}
use Rattle.theme_css.proofs.Rising.{less_self, not_in}
use Rattle.theme_css.proofs.Shows.{AreKnown, HoldKnown, all-append, block_known, value_is_known}

-- Lists that rise and have the same names are one list.

abbrev Rise : List (List ℕ) → Type 0
Rise names = IsStrictlySortedBy text_cmp names

no_less : (x y : List ℕ) → text_cmp x y ≡ Less → text_cmp y x ≡ Less → ⊥
no_less x y h i = less_self x (nat_list_cmp_total.trans x y x h i)

below_all : (x : List ℕ) (ys : List (List ℕ)) (y : List ℕ) → AllByRecursion (λ z. text_cmp x z ≡ Less) ys → In y ys → text_cmp x y ≡ Less
below_all x [] y h i = absurd i
below_all x (z ∷ ys) y h (inl e) = subst (λ (w : List ℕ). text_cmp x w ≡ Less) (sym e) h.0
below_all x (z ∷ ys) y h (inr i) = below_all x ys y h.1 i

first_same : (x y : List ℕ) (xs ys : List (List ℕ)) → AllByRecursion (λ z. text_cmp x z ≡ Less) xs → AllByRecursion (λ z. text_cmp y z ≡ Less) ys → In x (y ∷ ys) → In y (x ∷ xs) → x ≡ y
first_same x y xs ys h k (inl e) j = e
first_same x y xs ys h k (inr i) (inl e) = sym e
first_same x y xs ys h k (inr i) (inr j) = absurd (no_less x y (below_all x xs y h j) (below_all y ys x k i))

-- behind the first of each
behind_first : (x y n : List ℕ) (xs ys : List (List ℕ)) → x ≡ y → AllByRecursion (λ z. text_cmp x z ≡ Less) xs → In n xs → In n (y ∷ ys) → In n ys
behind_first x y n xs ys e h i (inr j) = j
behind_first x y n xs ys e h i (inl f) = absurd (not_in x xs h (subst (λ (z : List ℕ). In z xs) (f ∙ sym e) i))

rising_same : (xs ys : List (List ℕ)) → Rise xs → Rise ys → ((n : List ℕ) → In n xs → In n ys) → ((n : List ℕ) → In n ys → In n xs) → xs ≡ ys
unfolding IsStrictlySortedBy
rising_same [] [] h k f g = refl
rising_same [] (y ∷ ys) h k f g = absurd (g y (inl refl))
rising_same (x ∷ xs) [] h k f g = absurd (f x (inl refl))
rising_same (x ∷ xs) (y ∷ ys) h k f g =
    let same : x ≡ y = first_same x y xs ys h.0 k.0 (f x (inl refl)) (g y (inl refl)) in
    ap₂ (λ (z : List ℕ) (l : List (List ℕ)). z ∷ l) same
    (rising_same xs ys h.1 k.1 (λ n i. behind_first x y n xs ys same h.0 i (f n (inr i))) (λ n i. behind_first y x n ys xs (sym same) k.0 i (g n (inr i))))

-- Names that pass a test.

module _ (p : List ℕ → Bool) where
  filter_above : (x : List ℕ) (xs : List (List ℕ)) → AllByRecursion (λ z. text_cmp x z ≡ Less) xs → AllByRecursion (λ z. text_cmp x z ≡ Less) (filter p xs)
  filter_above x [] h = tt
  filter_above x (y ∷ ys) h = go (p y) (filter_above x ys h.1)
    where
      go : (b : Bool) → AllByRecursion (λ z. text_cmp x z ≡ Less) (filter p ys) → AllByRecursion (λ z. text_cmp x z ≡ Less) (cond b (y ∷ filter p ys) (filter p ys))
      go true k = (h.0, k)
      go false k = k

  filter_rises : (xs : List (List ℕ)) → Rise xs → Rise (filter p xs)
  unfolding IsStrictlySortedBy
  filter_rises [] h = tt
  filter_rises (x ∷ xs) h = go (p x) (filter_rises xs h.1)
    where
      go : (b : Bool) → Rise (filter p xs) → Rise (cond b (x ∷ filter p xs) (filter p xs))
      go true k = (filter_above x xs h.0, k)
      go false k = k

  passes : (n : List ℕ) (xs : List (List ℕ)) → In n (filter p xs) → p n ≡ true
  passes n [] i = absurd i
  passes n (x ∷ xs) i = go (p x) refl (λ j. passes n xs j) i
    where
      go : (b : Bool) → p x ≡ b → (In n (filter p xs) → p n ≡ true) → In n (cond b (x ∷ filter p xs) (filter p xs)) → p n ≡ true
      go true e more (inl same) = ap p same ∙ e
      go true e more (inr j) = more j
      go false e more j = more j

  into_filter : (n : List ℕ) (xs : List (List ℕ)) → p n ≡ true → In n xs → In n (filter p xs)
  into_filter n [] e i = absurd i
  into_filter n (x ∷ xs) e (inl same) = go (p x) (ap p (sym same) ∙ e)
    where
      go : (b : Bool) → b ≡ true → In n (cond b (x ∷ filter p xs) (filter p xs))
      go true h = inl same
      go false h = cc
  into_filter n (x ∷ xs) e (inr i) = go (p x) (into_filter n xs e i)
    where
      go : (b : Bool) → In n (filter p xs) → In n (cond b (x ∷ filter p xs) (filter p xs))
      go true j = inr j
      go false j = j

  filter_alike : (xs ys : List (List ℕ)) → Rise xs → Rise ys → ((n : List ℕ) → p n ≡ true → In n xs × In n ys) → filter p xs ≡ filter p ys
  filter_alike xs ys h k all =
      rising_same (filter p xs) (filter p ys) (filter_rises xs h) (filter_rises ys k)
      (λ n i. let e = passes n xs i in into_filter n ys e (all n e).1)
      (λ n i. let e = passes n ys i in into_filter n xs e (all n e).0)

-- Blocks over either names.

offer_known : (names : List (List ℕ)) (name : List ℕ) (s : Option Offer) → IfSome s (λ e. In name names) → is_some (value_of s) ≡ true → In name names
offer_known names name None h e = cc
offer_known names name (Some o) h e = h

module _ (names others : List (List ℕ)) (rise : Rise names) (rises : Rise others) where
  gone_alike : (bs : List Block) (t : Theme) → HoldKnown names bs → HoldKnown others bs → gone names (cascade bs t.page) t.own ≡ gone others (cascade bs t.page) t.own
  gone_alike bs t known known_too =
      ap (map none_for) (filter_alike (is_gone (cascade bs t.page) t.own) names others rise rises (λ n e.
      let some = (both (is_some (cascade bs t.page n)) (not (is_some (value_in t.own n))) e).0 in (
        offer_known names n (strongest t.page n None bs) (value_is_known names bs t.page n known) some,
        offer_known others n (strongest t.page n None bs) (value_is_known others bs t.page n known_too) some,
      )))

  block_alike : (bs : List Block) (t : Theme) → HoldKnown names bs → HoldKnown others bs → block_after names bs t ≡ block_after others bs t
  block_alike bs t known known_too =
      let B : List Declaration → Block = λ ds. record { attributes = t.odd; declarations = changed (cascade bs t.page) t.own ++ ds } in
      ap B (gone_alike bs t known known_too)

  blocks_alike : (bs : List Block) (ts : List Theme) → HoldKnown names bs → HoldKnown others bs → AreNamesOf names ts → AreNamesOf others ts → blocks_after names bs ts ≡ blocks_after others bs ts
  unfolding blocks_after
  blocks_alike bs [] known known_too own own_too = refl
  blocks_alike bs (t ∷ ts) known known_too own own_too =
      let b = block_after names bs t in
      let same : b ≡ block_after others bs t = block_alike bs t known known_too in
      let K : Block → Type 0 = λ x. AreKnown others x.declarations in
      blocks_alike (bs ++ b ∷ []) ts
      (all-append (λ c. AreKnown names c.declarations) bs (b ∷ []) known (block_known names bs t own.0, tt))
      (all-append (λ c. AreKnown others c.declarations) bs (b ∷ []) known_too (subst K (sym same) (block_known others bs t own_too.0), tt))
      own.1 own_too.1
      ∙ ap (λ (x : Block). blocks_after others (bs ++ x ∷ []) ts) same

-- Themes.

abbrev theme_of : List Choice → List Choice → List Declaration → Theme
theme_of page unusual own = record { page = page; odd = unusual; own = own }

one_theme : (out : FilesData) (us contexts : List Choice) (t u : Theme) → IsTheme out us contexts t → IsTheme out us contexts u → t ≡ u
one_theme out us contexts t u h i =
    let bytes : h.bytes ≡ i.bytes = same_Some h.bytes i.bytes (sym h.there ∙ i.there) in
    let own : t.own ≡ u.own = declares_once h.bytes i.bytes t.own u.own bytes h.lines i.lines in
    ap (λ (p : List Choice). theme_of p t.odd t.own) (h.all ∙ sym i.all)
    ∙ (ap (λ (o : List Choice). theme_of u.page o t.own) (h.unusual ∙ sym i.unusual) ∙ ap (theme_of u.page u.odd) own)

one_list : (out : FilesData) (us : List Choice) (all : List (List Choice)) (ts vs : List Theme) → AllZip (IsTheme out us) all ts → AllZip (IsTheme out us) all vs → ts ≡ vs
one_list out us [] [] [] h i = refl
one_list out us [] [] (v ∷ vs) h i = absurd i
one_list out us [] (t ∷ ts) vs h i = absurd h
one_list out us (c ∷ all) [] vs h i = absurd h
one_list out us (c ∷ all) (t ∷ ts) [] h i = absurd i
one_list out us (c ∷ all) (t ∷ ts) (v ∷ vs) h i = ap₂ (λ (x : Theme) (l : List Theme). x ∷ l) (one_theme out us c t v h.0 i.0) (one_list out us all ts vs h.1 i.1)

pub one_sheet : OneBuild → ShowsOne → OneThemeSheet
one_sheet build one files sheet other h i =
    let out : h.out ≡ i.out = build files h.out i.out h.builds i.builds in
    let order : h.order ≡ i.order = one_order one (finite.get files resolver_path) h.order i.order h.resolves i.resolves in
    let A : FilesData → List ItemData → Type 0 = λ o l. AreThemes o l h.themes in
    let are : AreThemes i.out i.order h.themes = subst (A i.out) order (subst (λ (o : FilesData). A o h.order) out h.are_themes) in
    let themes : h.themes ≡ i.themes = one_list i.out (usual i.order) (by_weight (usual i.order) (pages i.order)) h.themes i.themes are i.are_themes in
    let N : List Theme → Type 0 = λ ts. AreNamesOf h.is_sheet.names ts in
    h.is_sheet.text
    ∙ (ap (λ (ts : List Theme). sheet_text (blocks_after h.is_sheet.names [] ts)) themes
    ∙ (ap sheet_text (blocks_alike h.is_sheet.names i.is_sheet.names h.is_sheet.rise i.is_sheet.rise [] i.themes tt tt (subst N themes h.is_sheet.all) i.is_sheet.all)
    ∙ sym i.is_sheet.text))
