-- On each theme's page the blocks give the values of its own sheet.
use Rattle.std.proofs.Common.{◌≡◌, ◌≤◌, ◌∙◌, ℕ, cond, Bool, true, false, List, [], ◌∷◌, ◌++◌, filter, map, length, Option, Some, None, inl, inr, refl, sym, ap, subst, append-nil, append_assoc}
use Rattle.std.specs.Prelude.{IfSome, if◌then◌else◌, nat_le, option_map}
use Rattle.std.specs.List.{AllByRecursion, list_all}
use Rattle.std.specs.Option.{option_or}
use Rattle.std.specs.Str.{bytes_eq}
use Rattle.ring.specs.Lists.{In}
use Rattle.permutations.specs.Name.{Choice}
use Rattle.theme_css.specs.Blocks.{Theme, block_after, blocks_after, changed, differs, gone, is_gone, none_for}
use Rattle.theme_css.specs.Cascade.{Block, Declaration, Offer, cascade, initial, is_among, matches, offer, stronger, strongest, value_in}
use Rattle.theme_css.specs.Sheet.{are_some, written}
use Rattle.theme_css.specs.Themes.{ShowsEach}
use Rattle.theme_css.specs.inner.Offers.{value_of}
use Rattle.theme_css.specs.inner.Order.{AllFollow, Follows, HasNoInitial}
use Rattle.theme_css.proofs.Named.{eq_is}
use Rattle.theme_css.proofs.Showing.{needed_shows, none_wins, weighs}

-- What holds of each offer holds of the strongest.
module _ (P : Offer → Type 0) where
  stronger_keeps : (s t : Option Offer) → IfSome s P → IfSome t P → IfSome (stronger s t) P
  stronger_keeps None t h i = i
  stronger_keeps (Some e) None h i = h
  stronger_keeps (Some e) (Some f) h i = go (nat_le e.weight f.weight)
    where
      go : (b : Bool) → IfSome (if b then Some f else Some e) P
      go true = i
      go false = h

  strongest_keeps : (page : List Choice) (name : List ℕ) (s : Option Offer) (bs : List Block) → IfSome s P → AllByRecursion (λ b. IfSome (offer page name b) P) bs → IfSome (strongest page name s bs) P
  strongest_keeps page name s [] h all = h
  strongest_keeps page name s (b ∷ bs) h all = strongest_keeps page name (stronger s (offer page name b)) bs (stronger_keeps s (offer page name b) h all.0) all.1

  offer_keeps : (page : List Choice) (name : List ℕ) (b : Block) → IfSome (value_in b.declarations name) (λ v. P (weighs (length b.attributes) v)) → IfSome (offer page name b) P
  offer_keeps page name b h = go (matches page b) (value_in b.declarations name) h
    where
      go : (m : Bool) (r : Option (List ℕ)) → IfSome r (λ v. P (weighs (length b.attributes) v)) → IfSome (if m then option_map (weighs (length b.attributes)) r else None) P
      go true None h = tt
      go true (Some v) h = h
      go false r h = tt

all_map : {X : Type 0} (P Q : X → Type 0) (xs : List X) → ((x : X) → P x → Q x) → AllByRecursion P xs → AllByRecursion Q xs
all_map P Q [] f h = tt
all_map P Q (x ∷ xs) f h = (f x h.0, all_map P Q xs f h.1)

pub all-append : {X : Type 0} (P : X → Type 0) (xs ys : List X) → AllByRecursion P xs → AllByRecursion P ys → AllByRecursion P (xs ++ ys)
all-append P [] ys h i = i
all-append P (x ∷ xs) ys h i = (h.0, all-append P xs ys h.1 i)

-- Names that are known.

abbrev pub AreKnown : List (List ℕ) → List Declaration → Type 0
AreKnown names ds = AllByRecursion (λ d. In d.name names) ds

abbrev pub HoldKnown : List (List ℕ) → List Block → Type 0
HoldKnown names bs = AllByRecursion (λ b. AreKnown names b.declarations) bs

value_known : (names : List (List ℕ)) (name : List ℕ) (ds : List Declaration) → AreKnown names ds → IfSome (value_in ds name) (λ v. In name names)
value_known names name [] k = tt
value_known names name (d ∷ ds) k = go (value_in ds name) (bytes_eq d.name name) refl (value_known names name ds k.1)
  where
    go : (r : Option (List ℕ)) (b : Bool) → bytes_eq d.name name ≡ b → IfSome r (λ v. In name names) → IfSome (option_or r (if b then Some d.value else None)) (λ v. In name names)
    go (Some v) b e h = h
    go None true e h = subst (λ z. In z names) (eq_is d.name name e) k.0
    go None false e h = tt

some_map : {X : Type 0} (P Q : X → Type 0) (r : Option X) → ((x : X) → P x → Q x) → IfSome r P → IfSome r Q
some_map P Q None f h = tt
some_map P Q (Some x) f h = f x h

any_value : (r : Option (List ℕ)) (P : Type 0) → P → IfSome r (λ v. P)
any_value None P p = tt
any_value (Some v) P p = p

filter_known : (names : List (List ℕ)) (p : Declaration → Bool) (ds : List Declaration) → AreKnown names ds → AreKnown names (filter p ds)
filter_known names p [] k = tt
filter_known names p (d ∷ ds) k = go (p d) (filter_known names p ds k.1)
  where
    go : (b : Bool) → AreKnown names (filter p ds) → AreKnown names (cond b (d ∷ filter p ds) (filter p ds))
    go true h = (k.0, h)
    go false h = h

gone_known : (names : List (List ℕ)) (p : List ℕ → Bool) (ns : List (List ℕ)) → AllByRecursion (λ n. In n names) ns → AreKnown names (map none_for (filter p ns))
gone_known names p [] k = tt
gone_known names p (n ∷ ns) k = go (p n) (gone_known names p ns k.1)
  where
    go : (b : Bool) → AreKnown names (map none_for (filter p ns)) → AreKnown names (map none_for (cond b (n ∷ filter p ns) (filter p ns)))
    go true h = (k.0, h)
    go false h = h

weaken : (names : List (List ℕ)) (n : List ℕ) (ns : List (List ℕ)) → AllByRecursion (λ m. In m names) ns → AllByRecursion (λ m. In m (n ∷ names)) ns
weaken names n ns h = all_map (λ m. In m names) (λ m. In m (n ∷ names)) ns (λ m i. inr i) h

own_names : (names : List (List ℕ)) → AllByRecursion (λ n. In n names) names
own_names [] = tt
own_names (n ∷ ns) = (inl refl, weaken ns n ns (own_names ns))

pub block_known : (names : List (List ℕ)) (bs : List Block) (t : Theme) → AreKnown names t.own → AreKnown names (block_after names bs t).declarations
block_known names bs t k =
    all-append (λ d. In d.name names) (changed (cascade bs t.page) t.own) (gone names (cascade bs t.page) t.own)
    (filter_known names (λ d. differs (cascade bs t.page) t.own d.name) t.own k)
    (gone_known names (is_gone (cascade bs t.page) t.own) names (own_names names))

-- a name that has a value is known
pub value_is_known : (names : List (List ℕ)) (bs : List Block) (page : List Choice) (name : List ℕ) → HoldKnown names bs → IfSome (strongest page name None bs) (λ e. In name names)
value_is_known names bs page name known =
    strongest_keeps (λ e. In name names) page name None bs tt
    (all_map (λ c. AreKnown names c.declarations) (λ c. IfSome (offer page name c) (λ e. In name names)) bs
    (λ c k. offer_keeps (λ e. In name names) page name c (value_known names name c.declarations k)) known)

-- Blocks after others.

strongest-append : (page : List Choice) (name : List ℕ) (s : Option Offer) (bs cs : List Block) → strongest page name s (bs ++ cs) ≡ strongest page name (strongest page name s bs) cs
strongest-append page name s [] cs = refl
strongest-append page name s (b ∷ bs) cs = strongest-append page name (stronger s (offer page name b)) bs cs

record Added (names : List (List ℕ)) (bs : List Block) (ts : List Theme) : Type 0 where
  more : List Block
  are : blocks_after names bs ts ≡ bs ++ more
  asked : map (λ b. b.attributes) more ≡ map (λ t. t.odd) ts

added : (names : List (List ℕ)) (bs : List Block) (ts : List Theme) → Added names bs ts
unfolding blocks_after
added names bs [] = record { more = []; are = sym (append-nil bs); asked = refl }
added names bs (t ∷ ts) =
    let b = block_after names bs t in
    let rest = added names (bs ++ b ∷ []) ts in
    record { more = b ∷ rest.more; are = rest.are ∙ append_assoc bs (b ∷ []) rest.more; asked = ap (λ (l : List (List Choice)). t.odd ∷ l) rest.asked }

-- blocks that don't match the page change nothing
unmatched : (page : List Choice) (name : List ℕ) (s : Option Offer) (bs : List Block) → AllByRecursion (λ asked. list_all (is_among page) asked ≡ false) (map (λ b. b.attributes) bs) → strongest page name s bs ≡ s
unmatched page name s [] h = refl
unmatched page name s (b ∷ bs) h =
    ap (λ z. strongest page name z bs) (ap (stronger s) (rw (h.0) refl) ∙ none_wins s) ∙ unmatched page name s bs h.1

others : (t : Theme) (ts : List Theme) → AllByRecursion (Follows t) ts → AllByRecursion (λ asked. list_all (is_among t.page) asked ≡ false) (map (λ u. u.odd) ts)
others t [] h = tt
others t (u ∷ us) h = ((h.0).other, others t us h.1)

-- a theme's own block decides on its page
one_shows : (names : List (List ℕ)) (bs : List Block) (t : Theme) (ts : List Theme) → HoldKnown names bs → AllByRecursion (λ b. length b.attributes ≤ length t.odd) bs
    → list_all (is_among t.page) t.odd ≡ true → AllByRecursion (Follows t) ts → ((name : List ℕ) → IfSome (value_in t.own name) (λ v. bytes_eq v initial ≡ false))
    → (name : List ℕ) → cascade (blocks_after names bs (t ∷ ts)) t.page name ≡ value_in t.own name
unfolding blocks_after
one_shows names bs t ts known light own later some name =
    let page = t.page in
    let b = block_after names bs t in
    let rest = added names (bs ++ b ∷ []) ts in
    let s = strongest page name None bs in
    let w = length t.odd in
    let offered : offer page name b ≡ option_map (weighs w) (value_in b.declarations name) = rw own refl in
    let heavy : IfSome s (λ e. e.weight ≤ w) =
    strongest_keeps (λ e. e.weight ≤ w) page name None bs tt
    (all_map (λ c. length c.attributes ≤ w) (λ c. IfSome (offer page name c) (λ e. e.weight ≤ w)) bs
    (λ c k. offer_keeps (λ e. e.weight ≤ w) page name c (any_value (value_in c.declarations name) (length c.attributes ≤ w) k)) light) in
    let there : IfSome s (λ e. In name names) = value_is_known names bs page name known in
    ap (λ cs. cascade cs page name) rest.are
    ∙ (ap value_of (strongest-append page name None (bs ++ b ∷ []) rest.more)
    ∙ (ap value_of (unmatched page name (strongest page name None (bs ++ b ∷ [])) rest.more (subst (AllByRecursion (λ asked. list_all (is_among page) asked ≡ false)) (sym rest.asked) (others t ts later)))
    ∙ (ap value_of (strongest-append page name None bs (b ∷ []))
    ∙ (ap (λ o. value_of (stronger s o)) offered
    ∙ needed_shows names s w (cascade bs page) t.own name refl heavy (some name) there))))

-- the blocks before are no heavier than any that is still to come
light_more : (names : List (List ℕ)) (bs : List Block) (t : Theme) (ts : List Theme) → AllByRecursion (λ u. AllByRecursion (λ b. length b.attributes ≤ length u.odd) bs) ts → AllByRecursion (Follows t) ts
    → AllByRecursion (λ u. AllByRecursion (λ b. length b.attributes ≤ length u.odd) (bs ++ block_after names bs t ∷ [])) ts
light_more names bs t [] h f = tt
light_more names bs t (u ∷ us) h f =
    (all-append (λ b. length b.attributes ≤ length u.odd) bs (block_after names bs t ∷ []) h.0 ((f.0).weight, tt), light_more names bs t us h.1 f.1)

module _ (names : List (List ℕ)) where
  all_show : (bs : List Block) (ts : List Theme) → HoldKnown names bs → AllByRecursion (λ u. AllByRecursion (λ b. length b.attributes ≤ length u.odd) bs) ts → AllFollow ts
      → AllByRecursion HasNoInitial ts → AllByRecursion (λ t. AreKnown names t.own) ts → (t : Theme) → In t ts → (name : List ℕ) → cascade (blocks_after names bs ts) t.page name ≡ value_in t.own name
  unfolding blocks_after
  all_show bs [] known light follow some own t i name = absurd i
  all_show bs (u ∷ us) known light follow some own t (inl e) name =
      subst (λ z. cascade (blocks_after names bs (u ∷ us)) z.page name ≡ value_in z.own name) (sym e) (one_shows names bs u us known light.0 follow.0 follow.1 some.0 name)
  all_show bs (u ∷ us) known light follow some own t (inr i) name =
      let b = block_after names bs u in
      all_show (bs ++ b ∷ []) us (all-append (λ c. AreKnown names c.declarations) bs (b ∷ []) known (block_known names bs u own.0, tt)) (light_more names bs u us light.1 follow.1) follow.2 some.1 own.1 t i name

-- Blocks that are not written declare nothing.

empty_offer : (page : List Choice) (name : List ℕ) (b : Block) → are_some b.declarations ≡ false → offer page name b ≡ None
empty_offer page name b h = go (matches page b) b.declarations h
  where
    go : (m : Bool) (ds : List Declaration) → are_some ds ≡ false → (if m then option_map (weighs (length b.attributes)) (value_in ds name) else None) ≡ None
    go true [] e = refl
    go true (d ∷ ds) e = cc
    go false ds e = refl

filter_same : (page : List Choice) (name : List ℕ) (s : Option Offer) (bs : List Block) → strongest page name s (filter (λ b. are_some b.declarations) bs) ≡ strongest page name s bs
filter_same page name s [] = refl
filter_same page name s (b ∷ bs) =
    go (are_some b.declarations) refl (filter_same page name (stronger s (offer page name b)) bs) (filter_same page name s bs)
  where
    go : (k : Bool) → are_some b.declarations ≡ k → strongest page name (stronger s (offer page name b)) (filter (λ (c : Block). are_some c.declarations) bs) ≡ strongest page name (stronger s (offer page name b)) bs
        → strongest page name s (filter (λ (c : Block). are_some c.declarations) bs) ≡ strongest page name s bs
        → strongest page name s (cond k (b ∷ filter (λ (c : Block). are_some c.declarations) bs) (filter (λ (c : Block). are_some c.declarations) bs)) ≡ strongest page name (stronger s (offer page name b)) bs
    go true e h i = h
    go false e h i = i ∙ ap (λ z. strongest page name z bs) (sym (ap (stronger s) (empty_offer page name b e) ∙ none_wins s))

written_same : (bs : List Block) (page : List Choice) (name : List ℕ) → cascade (written bs) page name ≡ cascade bs page name
written_same [] page name = refl
written_same (b ∷ bs) page name = ap value_of (filter_same page name (stronger None (offer page name b)) bs)

none_light : (ts : List Theme) → AllByRecursion (λ (u : Theme). AllByRecursion (λ (b : Block). length b.attributes ≤ length u.odd) []) ts
none_light [] = tt
none_light (t ∷ ts) = (tt, none_light ts)

pub shows_each : (names : List (List ℕ)) (ts : List Theme) → AllFollow ts → AllByRecursion HasNoInitial ts → AllByRecursion (λ t. AreKnown names t.own) ts → ShowsEach (written (blocks_after names [] ts)) ts
shows_each names ts follow some own t i name = written_same (blocks_after names [] ts) t.page name ∙ all_show names [] ts tt (none_light ts) follow some own t i name
