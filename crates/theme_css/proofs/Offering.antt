-- What stands for the names after declarations are put.
use Rattle.std.proofs.Common.{◌≡◌, ◌<◌, ◌-◌, ◌∙◌, ◌++◌, ap₂, zero, suc, ℕ, Bool, true, false, List, [], ◌∷◌, length, map, get_or, slice_set, Option, Some, None, refl, sym, ap, subst, arith, ◌+◌, ◌≤◌, drop, replicate, take}
use Rattle.std.proofs.lemmas.List.{length-map, map-set, drop_more, at_drop_more, drop_all}
use Rattle.std.specs.Prelude.{if◌then◌else◌, nat_le, option_map}
use Rattle.std.specs.List.{list_all}
use Rattle.std.specs.Option.{option_or}
use Rattle.std.specs.Str.{bytes_eq}
use Rattle.std.proofs.lemmas.Bool.Decides.{nat_tests}
use Rattle.ring.specs.Lists.{AreApart}
use Rattle.theme_css.specs.Cascade.{Offer as OfferData, stronger, strongest, is_among, offer, value_in}
use Rattle.theme_css.specs.inner.Offers.{AreRanked, AreAllRanked, offered, all_offered}
use Rattle.theme_css.specs.inner.Views.{block_view, blocks_view, choice_view, choices_view, declarations_at, offer_of, offer_view, offers_view}
use Rattle.theme_css.specs.declared.offers.Declared.{Declared}
use Rattle.theme_css.specs.declared.offers.Offer.{Offer}
use Rattle.theme_css.specs.declared.offers.ThemeBlock.{ThemeBlock}
use Rattle.permutations.specs.Name.{Choice}
use Rattle.theme_css.proofs.Named.{set_named, map_alike}

pub put_stronger : (os : List (Option Offer)) (r : ℕ) (x : Offer) (b : Bool) → b ≡ true
    → stronger (get_or (offers_view os) r None) (Some (offer_view x)) ≡ (if b then Some (offer_view x) else get_or (offers_view os) r None)
    → offers_view (slice_set os r (Some x)) ≡ slice_set (offers_view os) r (stronger (get_or (offers_view os) r None) (Some (offer_view x)))
put_stronger os r x true e h = map-set (option_map offer_view) os r (Some x) ∙ ap (slice_set (offers_view os) r) (sym h)
put_stronger os r x false e h = cc

pub one_put : (names : List (List ℕ)) (g : List ℕ → Option OfferData) (os new : List (Option OfferData)) (weight : ℕ) (d : Declared) → AreApart names → d.rank < length os → os ≡ map g names
    → new ≡ slice_set os d.rank (stronger (get_or os d.rank None) (Some (offer_of weight d)))
    → new ≡ map (λ n. offered names weight n (g n) d) names
one_put names g os new weight d apart below is e =
    let o = offer_of weight d in
    let here : d.rank < length names = omega (arith, below, ap length is, length-map names g) in
    e ∙ (ap (λ l. slice_set l d.rank (stronger (get_or l d.rank None) (Some o))) is ∙ set_named g (λ s. stronger s (Some o)) names d.rank None apart here)

-- after the first declarations of a block, with the others still to come
abbrev pub HasPut : ℕ → List Declared → List (Option OfferData) → List (Option OfferData) → ℕ → Type 0
HasPut weight ds old now i = (names : List (List ℕ)) (f : List ℕ → Option OfferData) → AreApart names → old ≡ map f names
    → (g : List ℕ → Option OfferData) × (now ≡ map g names)
    × ((n : List ℕ) → all_offered names weight n (g n) (drop i ds) ≡ all_offered names weight n (f n) ds)

pub none_put : (weight : ℕ) (ds : List Declared) (old : List (Option OfferData)) → HasPut weight ds old old 0
none_put weight ds old names f apart is = (f, is, λ n. refl)

pub next_put : (weight : ℕ) (ds : List Declared) (old now new : List (Option OfferData)) (i : ℕ) (d : Declared) → HasPut weight ds old now i
    → i < length ds → (get_or ds i d).rank < length now
    → new ≡ slice_set now (get_or ds i d).rank (stronger (get_or now (get_or ds i d).rank None) (Some (offer_of weight (get_or ds i d))))
    → HasPut weight ds old new (i + 1)
next_put weight ds old now new i d has below known e names f apart is =
    let (g, same, all) = has names f apart is in
    let x = get_or ds i d in (
      λ n. offered names weight n (g n) x,
      one_put names g now new weight x apart known same e,
      λ n. sym (at_drop_more (all_offered names weight n (g n)) ds i d below) ∙ all n,
    )

pub all_put : (weight : ℕ) (ds : List Declared) (old now : List (Option OfferData)) (i : ℕ) → HasPut weight ds old now i → length ds ≤ i
    → (names : List (List ℕ)) (f : List ℕ → Option OfferData) → AreApart names → old ≡ map f names
    → now ≡ map (λ n. all_offered names weight n (f n) ds) names
all_put weight ds old now i has over names f apart is =
    let (g, same, all) = has names f apart is in
    same ∙ map_alike g (λ n. all_offered names weight n (f n) ds) names (λ n i0.
    ap (all_offered names weight n (g n)) (sym (drop_all i ds over)) ∙ all n)

pub first_ranked : (count : ℕ) (ds : List Declared) (i : ℕ) (d : Declared) → i < length ds → AreRanked count (drop i ds) → ((get_or ds i d).rank < count) × AreRanked count (drop (i + 1) ds)
first_ranked count ds i d below h = subst (AreRanked count) (drop_more ds i d below) h

-- Blocks.

nat_self : (w : ℕ) → nat_le w w ≡ true
nat_self w = grind (arith, nat_tests)

-- of two offers with as many attributes the later one holds
twice : (s : Option OfferData) (w : ℕ) (u v : List ℕ) → stronger (stronger s (Some (record { weight = w; value = u }))) (Some (record { weight = w; value = v })) ≡ stronger s (Some (record { weight = w; value = v }))
twice None w u v = rw (nat_self w) refl
twice (Some e) w u v = go (nat_le e.weight w) refl
  where
    go : (b : Bool) → nat_le e.weight w ≡ b → stronger (if b then Some (record { weight = w; value = u }) else Some e) (Some (record { weight = w; value = v })) ≡ stronger (Some e) (Some (record { weight = w; value = v }))
    go true h = rw (nat_self w, h) refl
    go false h = refl

abbrev pub weighed : ℕ → Option (List ℕ) → Option OfferData
weighed w r = option_map (λ v. record { weight = w; value = v }) r

stronger_none : (s : Option OfferData) → stronger s None ≡ s
stronger_none None = refl
stronger_none (Some e) = refl

offered_one : (s : Option OfferData) (w : ℕ) (v : List ℕ) (b : Bool) (r : Option (List ℕ))
    → stronger (if b then stronger s (Some (record { weight = w; value = v })) else s) (weighed w r) ≡ stronger s (weighed w (option_or r (if b then Some v else None)))
offered_one s w v true None = stronger_none (stronger s (Some (record { weight = w; value = v })))
offered_one s w v true (Some u) = twice s w v u
offered_one s w v false None = refl
offered_one s w v false (Some u) = refl

pub offered_all : (names : List (List ℕ)) (w : ℕ) (n : List ℕ) (s : Option OfferData) (ds : List Declared) → all_offered names w n s ds ≡ stronger s (weighed w (value_in (declarations_at names ds) n))
offered_all names w n s [] = sym (stronger_none s)
offered_all names w n s (d ∷ ds) =
    offered_all names w n (offered names w n s d) ds
    ∙ offered_one s w d.value.now (bytes_eq (get_or names d.rank []) n) (value_in (declarations_at names ds) n)

pub block_offer : (names : List (List ℕ)) (page : List Choice) (b : ThemeBlock) (n : List ℕ) (s : Option OfferData) (r : Bool) → r ≡ list_all (is_among page) (choices_view b.odd.now) → r ≡ true
    → all_offered names (length b.odd.now) n s b.declared.items ≡ stronger s (offer page n (block_view names b))
block_offer names page b n s r e t =
    let v = value_in (declarations_at names b.declared.items) n in
    let yes : list_all (is_among page) (choices_view b.odd.now) ≡ true = sym e ∙ t in
    offered_all names (length b.odd.now) n s b.declared.items
    ∙ (ap (λ k. stronger s (weighed k v)) (sym (length-map b.odd.now choice_view)) ∙ rw yes refl)

-- .. by declarations that are those of the block
pub block_offer_by : (names : List (List ℕ)) (page : List Choice) (b : ThemeBlock) (n : List ℕ) (s : Option OfferData) (r : Bool) (ds : List Declared) → ds ≡ b.declared.items → r ≡ list_all (is_among page) (choices_view b.odd.now) → r ≡ true
    → all_offered names (length b.odd.now) n s ds ≡ stronger s (offer page n (block_view names b))
block_offer_by names page b n s r ds e is held = ap (all_offered names (length b.odd.now) n s) e ∙ block_offer names page b n s r is held

pub block_unmatched : (names : List (List ℕ)) (page : List Choice) (b : ThemeBlock) (n : List ℕ) (s : Option OfferData) (r : Bool) → r ≡ list_all (is_among page) (choices_view b.odd.now) → r ≡ false
    → s ≡ stronger s (offer page n (block_view names b))
block_unmatched names page b n s r e t =
    let no : list_all (is_among page) (choices_view b.odd.now) ≡ false = sym e ∙ t in
    sym (rw no (stronger_none s))

take_nil : {X : Type 0} (n : ℕ) → take {A = X} n [] ≡ []
take_nil zero = refl
take_nil (suc n) = refl

pub filled : {X : Type 0} (xs : List X) (n k : ℕ) (x : X) → xs ≡ [] → k ≡ 0 → take n xs ++ replicate (n - k) x ≡ replicate n x
filled xs n k x e z =
    let all : n - k ≡ n = omega (arith, z) in
    ap₂ (λ ys m. ys ++ replicate m x) (ap (take n) e ∙ take_nil n) all

pub nothing : (k : ℕ) (names : List (List ℕ)) → length names ≡ k → offers_view (replicate k None) ≡ map (λ n. None) names
nothing zero [] e = refl
nothing zero (n ∷ ns) e = absurd (omega (arith, e))
nothing (suc k) [] e = absurd (omega (arith, e))
nothing (suc k) (n ∷ ns) e = ap (λ (l : List (Option OfferData)). None ∷ l) (nothing k ns (omega (arith, e)))

-- after the first blocks, with the others still to come
abbrev pub HasPutBlocks : List Choice → List ThemeBlock → ℕ → List (Option OfferData) → ℕ → Type 0
HasPutBlocks page bs count now i = (names : List (List ℕ)) → AreApart names → length names ≡ count
    → (g : List ℕ → Option OfferData) × (now ≡ map g names)
    × ((n : List ℕ) → strongest page n (g n) (blocks_view names (drop i bs)) ≡ strongest page n None (blocks_view names bs))

pub next_block : (page : List Choice) (bs : List ThemeBlock) (count : ℕ) (now new : List (Option OfferData)) (i : ℕ) (b : ThemeBlock) → HasPutBlocks page bs count now i → i < length bs → b ≡ get_or bs i b
    → ((names : List (List ℕ)) (f : List ℕ → Option OfferData) → AreApart names → now ≡ map f names → new ≡ map (λ n. stronger (f n) (offer page n (block_view names b))) names)
    → HasPutBlocks page bs count new (i + 1)
next_block page bs count now new i b has below is put names apart len =
    let (g, same, all) = has names apart len in (
      λ n. stronger (g n) (offer page n (block_view names b)),
      put names g apart same,
      λ n. ap (λ (x : ThemeBlock). strongest page n (stronger (g n) (offer page n (block_view names x))) (blocks_view names (drop (i + 1) bs))) is
          ∙ (sym (at_drop_more (λ l. strongest page n (g n) (blocks_view names l)) bs i b below) ∙ all n),
    )

pub all_blocks : (page : List Choice) (bs : List ThemeBlock) (count : ℕ) (now : List (Option OfferData)) (i : ℕ) → HasPutBlocks page bs count now i → length bs ≤ i
    → (names : List (List ℕ)) → AreApart names → length names ≡ count → now ≡ map (λ n. strongest page n None (blocks_view names bs)) names
all_blocks page bs count now i has over names apart len =
    let (g, same, all) = has names apart len in
    same ∙ map_alike g (λ n. strongest page n None (blocks_view names bs)) names (λ n k.
    ap (λ l. strongest page n (g n) (blocks_view names l)) (sym (drop_all i bs over)) ∙ all n)

pub first_block : (count : ℕ) (bs : List ThemeBlock) (i : ℕ) (b : ThemeBlock) → i < length bs → b ≡ get_or bs i b → AreAllRanked count (drop i bs) → AreRanked count b.declared.items × AreAllRanked count (drop (i + 1) bs)
first_block count bs i b below is h =
    subst (λ (x : ThemeBlock). AreRanked count x.declared.items × AreAllRanked count (drop (i + 1) bs)) (sym is) (subst (AreAllRanked count) (drop_more bs i b below) h)
