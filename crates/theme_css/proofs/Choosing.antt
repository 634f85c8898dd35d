-- Rows of choices that are put together item by item.
use Rattle.std.proofs.Common.{◌≡◌, ◌∙◌, ◌<◌, ◌≤◌, ◌+◌, ℕ, zero, suc, Bool, true, false, Option, arith, List, [], ◌∷◌, ◌++◌, map, length, take, drop, get_or, append-nil, append_assoc, refl, sym, ap, ap₂}
use Rattle.std.specs.Prelude.{if◌then◌else◌}
use Rattle.std.specs.List.{flat_map}
use Rattle.std.specs.Str.{bytes_eq}
use Rattle.std.proofs.lemmas.List.{map-append, at_drop_more, at_drop_all, take_more}
use Rattle.std.proofs.lemmas.List.Concat.{flat_map-append}
use Rattle.permutations.specs.Name.{Choice}
use Rattle.permutations.specs.Permutation.{Pick, choices, context_pick, picks}
use Rattle.resolver_doc.specs.Document.{ItemData, SetData}
use Rattle.resolver_doc.specs.View.{item_view, order_view, sets_view}
use Rattle.resolver_doc.specs.declared.written.Item.{Item}
use Rattle.resolver_doc.specs.declared.written.Item.TheVariants.{Modifier, Set as SetItem}
use Rattle.resolver_doc.specs.declared.written.SetDef.{SetDef}
use Rattle.resolver_doc.specs.declared.written.WrittenSource.{WrittenSource}
use Rattle.theme_css.specs.declared.choice.Choice.{Choice as Chosen}
use Rattle.theme_css.specs.declared.choices.Row.{Row}
use Rattle.theme_css.specs.Themes.{chosen, odd, pages}
use Rattle.theme_css.specs.inner.Choices.{choice_of, odd_at, options}
use Rattle.theme_css.specs.inner.Pages.{row_view, rows_view, with_each}
use Rattle.theme_css.specs.inner.Views.{choice_view, choices_view}

abbrev pub Rows : Type 0
Rows = List (List Choice)

each_nil : (rows : Rows) → with_each rows ([] ∷ []) ≡ rows
each_nil [] = refl
each_nil (row ∷ rows) = ap₂ (λ (r : List Choice) (rs : Rows). r ∷ rs) (append-nil row) (each_nil rows)

more_of_more : (d e : List Choice) (fs : Rows) → map (λ o. (d ++ e) ++ o) fs ≡ map (λ o. d ++ o) (map (λ o. e ++ o) fs)
more_of_more d e [] = refl
more_of_more d e (f ∷ fs) = ap₂ (λ (r : List Choice) (rs : Rows). r ∷ rs) (append_assoc d e f) (more_of_more d e fs)

each_of_more : (d : List Choice) (es fs : Rows) → with_each (map (λ o. d ++ o) es) fs ≡ map (λ o. d ++ o) (with_each es fs)
each_of_more d [] fs = refl
each_of_more d (e ∷ es) fs =
    ap₂ (λ (xs ys : Rows). xs ++ ys) (more_of_more d e fs) (each_of_more d es fs)
    ∙ sym (map-append (λ o. d ++ o) (map (λ o. e ++ o) fs) (with_each es fs))

each_assoc : (ds es fs : Rows) → with_each (with_each ds es) fs ≡ with_each ds (with_each es fs)
each_assoc [] es fs = refl
each_assoc (d ∷ ds) es fs =
    flat_map-append (λ e. map (λ o. e ++ o) fs) (map (λ o. d ++ o) es) (with_each ds es)
    ∙ ap₂ (λ (xs ys : Rows). xs ++ ys) (each_of_more d es fs) (each_assoc ds es fs)

each_chosen : (p : Pick) (cs : List (List Pick)) → map chosen (map (λ rest. p ∷ rest) cs) ≡ map (λ o. p.chosen ++ o) (map chosen cs)
each_chosen p [] = refl
each_chosen p (c ∷ cs) = ap (λ (rs : Rows). chosen (p ∷ c) ∷ rs) (each_chosen p cs)

all_chosen : (ps : List Pick) (cs : List (List Pick)) → map chosen (flat_map (λ p. map (λ rest. p ∷ rest) cs) ps) ≡ with_each (map (λ p. p.chosen) ps) (map chosen cs)
all_chosen [] cs = refl
all_chosen (p ∷ ps) cs =
    map-append chosen (map (λ rest. p ∷ rest) cs) (flat_map (λ q. map (λ rest. q ∷ rest) cs) ps)
    ∙ ap₂ (λ (xs ys : Rows). xs ++ ys) (each_chosen p cs) (all_chosen ps cs)

step : (rows : Rows) (item : ItemData) (items : List ItemData) → with_each rows (pages (item ∷ items)) ≡ with_each (with_each rows (options item)) (pages items)
step rows item items =
    ap (λ (rs : Rows). with_each rows rs) (all_chosen (picks item) (choices items)) ∙ sym (each_assoc rows (options item) (pages items))

pub first_rows : (all : Rows) → with_each ([] ∷ []) all ≡ all
first_rows all = append-nil (map (λ o. [] ++ o) all) ∙ same all
  where
    same : (rs : Rows) → map (λ o. [] ++ o) rs ≡ rs
    same [] = refl
    same (r ∷ rs) = ap (λ (l : Rows). r ∷ l) (same rs)

pub next_rows : (order : List Item) (i : ℕ) (item : Item) (rows new all : Rows) → i < length order → item ≡ get_or order i item → new ≡ with_each rows (options (item_view item))
    → with_each rows (pages (order_view (drop i order))) ≡ all → with_each new (pages (order_view (drop (i + 1) order))) ≡ all
next_rows order i item rows new all below is e before =
    ap (λ (rs : Rows). with_each rs (pages (order_view (drop (i + 1) order)))) (e ∙ ap (λ (x : Item). with_each rows (options (item_view x))) is)
    ∙ (sym (step rows (item_view (get_or order i item)) (order_view (drop (i + 1) order)))
    ∙ (sym (at_drop_more (λ l. with_each rows (pages (order_view l))) order i item below) ∙ before))

pub last_rows : (order : List Item) (i : ℕ) (rows all : Rows) → length order ≤ i → with_each rows (pages (order_view (drop i order))) ≡ all → rows ≡ all
last_rows order i rows all over before = sym (each_nil rows) ∙ (sym (at_drop_all (λ l. with_each rows (pages (order_view l))) order i over) ∙ before)

pub next_with : (rows : List Row) (i : ℕ) (row : Row) (opts old new : Rows) → i < length rows → row ≡ get_or rows i row → old ≡ with_each (rows_view (take i rows)) opts → new ≡ old ++ map (λ o. row_view row ++ o) opts
    → new ≡ with_each (rows_view (take (i + 1) rows)) opts
next_with rows i row opts old new below is h e =
    let more : take (i + 1) rows ≡ take i rows ++ row ∷ [] = take_more rows i row below ∙ ap (λ (x : Row). take i rows ++ x ∷ []) (sym is) in
    let mine : Rows = map (λ o. row_view row ++ o) opts in
    let whole : with_each (rows_view (take (i + 1) rows)) opts ≡ with_each (rows_view (take i rows)) opts ++ mine =
    ap (λ (l : List Row). with_each (rows_view l) opts) more
    ∙ (ap (λ (l : Rows). with_each l opts) (map-append row_view (take i rows) (row ∷ []))
    ∙ (flat_map-append (λ (r : List Choice). map (λ o. r ++ o) opts) (rows_view (take i rows)) (row_view row ∷ []) ∙ ap (λ (l : Rows). with_each (rows_view (take i rows)) opts ++ l) (append-nil mine))) in
    e ∙ (ap (λ (l : Rows). l ++ mine) h ∙ sym whole)

pub set_extends : (item : Item) (sources : List WrittenSource) (rows : Rows) → item ≡ SetItem sources → rows ≡ with_each rows (options (item_view item))
set_extends item sources rows is = sym (each_nil rows) ∙ ap (λ (x : Item). with_each rows (options (item_view x))) (sym is)

options_are : (name : List ℕ) (contexts : List SetData) → map (λ p. p.chosen) (map (context_pick name) contexts) ≡ map (choice_of name) contexts
options_are name [] = refl
options_are name (c ∷ cs) = ap (λ (rs : Rows). choice_of name c ∷ rs) (options_are name cs)

pub modifier_extends : (item : Item) (name : List ℕ) (contexts : List SetDef) (default : Option (List ℕ)) (rows slice : List Row) (n : List ℕ) (cs : List SetDef) (all : Rows) → item ≡ Modifier name contexts default → slice ≡ rows → n ≡ name → cs ≡ contexts
    → all ≡ with_each (rows_view slice) (map (choice_of n) (sets_view cs)) → all ≡ with_each (rows_view rows) (options (item_view item))
modifier_extends item name contexts default rows slice n cs all is same named same_contexts e =
    e ∙ (ap (λ (l : List Row). with_each (rows_view l) (map (choice_of n) (sets_view cs))) same
    ∙ (ap (λ (m : List ℕ). with_each (rows_view rows) (map (choice_of m) (sets_view cs))) named
    ∙ (ap (λ (l : List SetDef). with_each (rows_view rows) (map (choice_of name) (sets_view l))) same_contexts
    ∙ (ap (λ (rs : Rows). with_each (rows_view rows) rs) (sym (options_are name (sets_view contexts)))
    ∙ ap (λ (x : Item). with_each (rows_view rows) (options (item_view x))) (sym is)))))

-- The unusual ones.

pub odd_none : (us : List Choice) → odd us [] ≡ []
odd_none [] = refl
odd_none (u ∷ us) = refl

odd_more : (u x : Choice) (us page acc new total : List Choice) (b : Bool) → new ≡ acc ++ (if b then [] else x ∷ []) → acc ++ (if b then odd us page else x ∷ odd us page) ≡ total → new ++ odd us page ≡ total
odd_more u x us page acc new total true e h = ap (λ (l : List Choice). l ++ odd us page) (e ∙ append-nil acc) ∙ h
odd_more u x us page acc new total false e h = ap (λ (l : List Choice). l ++ odd us page) e ∙ (append_assoc acc (x ∷ []) (odd us page) ∙ h)

odd_step : (us : List Choice) (x : Choice) (page acc new total : List Choice) → new ≡ acc ++ odd_at us x → acc ++ odd us (x ∷ page) ≡ total → new ++ odd (drop 1 us) page ≡ total
odd_step [] x page acc new total e h = ap (λ (l : List Choice). l ++ page) e ∙ (append_assoc acc (x ∷ []) page ∙ h)
odd_step (u ∷ us) x page acc new total e h = odd_more u x us page acc new total (bytes_eq x.context u.context) e h

tail_drop : {X Y : Type 0} (v : X → Y) (xs : List X) (i : ℕ) → map v (drop (i + 1) xs) ≡ drop 1 (map v (drop i xs))
tail_drop v [] i = ap (map v) (drop_none (i + 1)) ∙ ap (λ l. drop 1 (map v l)) (sym (drop_none i))
  where
    drop_none : {Z : Type 0} (n : ℕ) → drop {A = Z} n [] ≡ []
    drop_none zero = refl
    drop_none (suc n) = refl
tail_drop v (x ∷ xs) zero = refl
tail_drop v (x ∷ xs) (suc i) =
    let one : suc i + 1 ≡ suc (i + 1) = omega arith in
    ap (λ k. map v (drop k (x ∷ xs))) one ∙ tail_drop v xs i

pub next_odd : (usual page : List Chosen) (i : ℕ) (d : Chosen) (acc new total : List Choice) → i < length page → new ≡ acc ++ odd_at (choices_view (drop i usual)) (choice_view (get_or page i d))
    → acc ++ odd (choices_view (drop i usual)) (choices_view (drop i page)) ≡ total → new ++ odd (choices_view (drop (i + 1) usual)) (choices_view (drop (i + 1) page)) ≡ total
next_odd usual page i d acc new total below e h =
    let us = choices_view (drop i usual) in
    let x = choice_view (get_or page i d) in
    let whole : acc ++ odd us (x ∷ choices_view (drop (i + 1) page)) ≡ total = sym (at_drop_more (λ l. acc ++ odd us (choices_view l)) page i d below) ∙ h in
    ap (λ l. new ++ odd l (choices_view (drop (i + 1) page))) (tail_drop choice_view usual i) ∙ odd_step us x (choices_view (drop (i + 1) page)) acc new total e whole

pub last_odd : (usual page : List Chosen) (i : ℕ) (acc total : List Choice) → length page ≤ i → acc ++ odd (choices_view (drop i usual)) (choices_view (drop i page)) ≡ total → acc ≡ total
last_odd usual page i acc total over h =
    sym (append-nil acc) ∙ (ap (λ l. acc ++ l) (sym (odd_none (choices_view (drop i usual)))) ∙ (sym (at_drop_all (λ l. acc ++ odd (choices_view (drop i usual)) (choices_view l)) page i over) ∙ h))
