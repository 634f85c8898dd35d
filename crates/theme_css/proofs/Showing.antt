-- What a block that declares what is needed makes of the values before it.
use Rattle.std.proofs.Common.{◌≡◌, ◌≤◌, ◌∙◌, ◌&&◌, ℕ, not, cond, Bool, true, false, List, [], ◌∷◌, ◌++◌, filter, map, Option, Some, None, is_some, inl, inr, refl, sym, ap, arith}
use Rattle.std.specs.Prelude.{IfSome, if◌then◌else◌, nat_le, option_map}
use Rattle.std.specs.Option.{option_or}
use Rattle.std.specs.Str.{bytes_eq}
use Rattle.std.proofs.lemmas.Bool.Decides.{nat_tests}
use Rattle.std.proofs.lemmas.Slice.Eq.{bytes_eq-Decides}
use Rattle.ring.specs.Lists.{In}
use Rattle.theme_css.specs.Blocks.{changed, differs, gone, is_gone, is_same_value, needed, none_for}
use Rattle.theme_css.specs.Cascade.{Declaration, Offer, initial, stronger, value_in}
use Rattle.theme_css.specs.inner.Offers.{value_of}
use Rattle.theme_css.proofs.Named.{eq_is}

-- What declarations give, put together of parts.

or_none : {X : Type 0} (r : Option X) → option_or r None ≡ r
or_none None = refl
or_none (Some x) = refl

or_assoc : {X : Type 0} (r s t : Option X) → option_or (option_or r s) t ≡ option_or r (option_or s t)
or_assoc None s t = refl
or_assoc (Some x) s t = refl

module _ (name : List ℕ) where
  abbrev one : Declaration → Option (List ℕ)
  one d = if bytes_eq d.name name then Some d.value else None

  pub value_in-append : (ds es : List Declaration) → value_in (ds ++ es) name ≡ option_or (value_in es name) (value_in ds name)
  value_in-append [] es = sym (or_none (value_in es name))
  value_in-append (d ∷ ds) es = ap (λ r. option_or r (one d)) (value_in-append ds es) ∙ or_assoc (value_in es name) (value_in ds name) (one d)

  kept : (d : Declaration) (fs : List Declaration) (v : Option (List ℕ)) (b c e : Bool) → bytes_eq d.name name ≡ e → (e ≡ true → b ≡ c) → value_in fs name ≡ (if c then v else None)
      → value_in (cond b (d ∷ fs) fs) name ≡ (if c then option_or v (if e then Some d.value else None) else None)
  kept d fs v true true e is same h = ap (λ r. option_or r (one d)) h ∙ ap (λ z. option_or v (if z then Some d.value else None)) is
  kept d fs v true false true is same h = let no : true ≡ false = same refl in cc
  kept d fs v true false false is same h = ap (λ r. option_or r (one d)) h ∙ ap (λ z. option_or None (if z then Some d.value else None)) is
  kept d fs v false true true is same h = let no : false ≡ true = same refl in cc
  kept d fs v false true false is same h = h ∙ sym (or_none v)
  kept d fs v false false e is same h = h

  nothing_in : (c : Bool) → ◌≡◌ {A = Option (List ℕ)} None (if c then None else None)
  nothing_in true = refl
  nothing_in false = refl

  pub value_in-filter : (q : List ℕ → Bool) (ds : List Declaration) → value_in (filter (λ d. q d.name) ds) name ≡ (if q name then value_in ds name else None)
  value_in-filter q [] = nothing_in (q name)
  value_in-filter q (d ∷ ds) =
      kept d (filter (λ e. q e.name) ds) (value_in ds name) (q d.name) (q name) (bytes_eq d.name name) refl (λ e. ap q (eq_is d.name name e)) (value_in-filter q ds)

  -- `initial` for names
  is_initial : (names : List (List ℕ)) → IfSome (value_in (map none_for names) name) (λ v. v ≡ initial)
  is_initial [] = tt
  is_initial (n ∷ ns) = go (value_in (map none_for ns) name) (bytes_eq n name) (is_initial ns)
    where
      go : (r : Option (List ℕ)) (b : Bool) → IfSome r (λ v. v ≡ initial) → IfSome (option_or r (if b then Some initial else None)) (λ v. v ≡ initial)
      go (Some v) b h = h
      go None true h = refl
      go None false h = tt

  pub all_none : (names : List (List ℕ)) → In name names → value_in (map none_for names) name ≡ Some initial
  all_none [] i = absurd i
  all_none (n ∷ ns) (inr i) = ap (λ r. option_or r (one (none_for n))) (all_none ns i)
  all_none (n ∷ ns) (inl e) = go (value_in (map none_for ns) name) (bytes_eq n name) (is_initial ns) (here n e)
    where
      here : (m : List ℕ) → name ≡ m → bytes_eq m name ≡ true
      here m e = (bytes_eq-Decides m name).1 (sym e)

      go : (r : Option (List ℕ)) (b : Bool) → IfSome r (λ v. v ≡ initial) → b ≡ true → option_or r (if b then Some initial else None) ≡ Some initial
      go (Some v) b h e = ap Some h
      go None true h e = refl
      go None false h e = cc

map_kept : (p : List ℕ → Bool) (n : List ℕ) (ns : List (List ℕ)) (b : Bool) (rest : List Declaration) → map none_for (filter p ns) ≡ rest
    → map none_for (cond b (n ∷ filter p ns) (filter p ns)) ≡ cond b (none_for n ∷ rest) rest
map_kept p n ns true rest e = ap (λ (l : List Declaration). none_for n ∷ l) e
map_kept p n ns false rest e = e

pub gone_is : (p : List ℕ → Bool) (names : List (List ℕ)) → map none_for (filter p names) ≡ filter (λ d. p d.name) (map none_for names)
gone_is p [] = refl
gone_is p (n ∷ ns) = map_kept p n ns (p n) (filter (λ d. p d.name) (map none_for ns)) (gone_is p ns)

-- what is needed, by what there is before and in the own sheet
needed_value : (names : List (List ℕ)) (before : List ℕ → Option (List ℕ)) (own : List Declaration) (name : List ℕ) → value_in (needed names before own) name
    ≡ option_or (if is_gone before own name then value_in (map none_for names) name else None) (if differs before own name then value_in own name else None)
needed_value names before own name =
    value_in-append name (changed before own) (gone names before own)
    ∙ (ap (λ r. option_or r (value_in (changed before own) name)) (ap (λ ds. value_in ds name) (gone_is (is_gone before own) names) ∙ value_in-filter name (is_gone before own) (map none_for names))
    ∙ ap (option_or (if is_gone before own name then value_in (map none_for names) name else None)) (value_in-filter name (differs before own) own))

-- Offers.

abbrev pub weighs : ℕ → List ℕ → Offer
weighs w v = record { weight = w; value = v }

lighter : (a b : ℕ) → a ≤ b → nat_le a b ≡ true
lighter a b h = grind (arith, nat_tests, h)

pub last_wins : (s : Option Offer) (o : Offer) → IfSome s (λ e. e.weight ≤ o.weight) → stronger s (Some o) ≡ Some o
last_wins None o h = refl
last_wins (Some e) o h = rw (lighter e.weight o.weight h) refl

pub none_wins : (s : Option Offer) → stronger s None ≡ s
none_wins None = refl
none_wins (Some e) = refl

said : (w : ℕ) (v : List ℕ) → bytes_eq v initial ≡ false → value_of (Some (weighs w v)) ≡ Some v
said w v h = rw h refl

won : (s : Option Offer) (w : ℕ) (v : List ℕ) → IfSome s (λ e. e.weight ≤ w) → bytes_eq v initial ≡ false → value_of (stronger s (Some (weighs w v))) ≡ Some v
won s w v h k = ap value_of (last_wins s (weighs w v) h) ∙ said w v k

hidden : (s : Option Offer) (w : ℕ) → IfSome s (λ e. e.weight ≤ w) → value_of (stronger s (Some (weighs w initial))) ≡ None
hidden s w h = ap value_of (last_wins s (weighs w initial) h)

abbrev after : Option Offer → ℕ → Option (List ℕ) → Option (List ℕ) → Option (List ℕ) → Option (List ℕ)
after s w c o g = value_of (stronger s (option_map (weighs w) (option_or (if is_some c && not (is_some o) then g else None) (if not (is_same_value c o) then o else None))))

same_or : (e : Offer) (w : ℕ) (v : List ℕ) (k : Bool) → bytes_eq e.value v ≡ k → bytes_eq e.value initial ≡ false → e.weight ≤ w → bytes_eq v initial ≡ false
    → value_of (stronger (Some e) (option_map (weighs w) (if not k then Some v else None))) ≡ Some v
same_or e w v true is k h some = rw k (ap Some (eq_is e.value v is))
same_or e w v false is k h some = won (Some e) w v h some

there_was : (e : Offer) (w : ℕ) (o g : Option (List ℕ)) (b : Bool) → bytes_eq e.value initial ≡ b → e.weight ≤ w → IfSome o (λ v. bytes_eq v initial ≡ false) → g ≡ Some initial
    → after (Some e) w (if b then None else Some e.value) o g ≡ o
there_was e w None g true is h some i = rw is refl
there_was e w (Some v) g true is h some i = won (Some e) w v h some
there_was e w None g false is h some i =
    ap (λ z. value_of (stronger (Some e) (option_map (weighs w) (option_or z None)))) i ∙ hidden (Some e) w h
there_was e w (Some v) g false is h some i = same_or e w v (bytes_eq e.value v) refl is h some

-- the value after the block
pub after_block : (s : Option Offer) (w : ℕ) (o g : Option (List ℕ)) → IfSome s (λ e. e.weight ≤ w) → IfSome o (λ v. bytes_eq v initial ≡ false) → IfSome s (λ e. g ≡ Some initial)
    → after s w (value_of s) o g ≡ o
after_block None w None g h some i = refl
after_block None w (Some v) g h some i = said w v some
after_block (Some e) w o g h some i = there_was e w o g (bytes_eq e.value initial) refl h some i

pub needed_shows : (names : List (List ℕ)) (s : Option Offer) (w : ℕ) (before : List ℕ → Option (List ℕ)) (own : List Declaration) (name : List ℕ) → before name ≡ value_of s
    → IfSome s (λ e. e.weight ≤ w) → IfSome (value_in own name) (λ v. bytes_eq v initial ≡ false) → IfSome s (λ e. In name names)
    → value_of (stronger s (option_map (weighs w) (value_in (needed names before own) name))) ≡ value_in own name
needed_shows names s w before own name is h some known =
    ap (λ r. value_of (stronger s (option_map (weighs w) r))) (needed_value names before own name)
    ∙ (ap (λ c. after s w c (value_in own name) (value_in (map none_for names) name)) is
    ∙ after_block s w (value_in own name) (value_in (map none_for names) name) h some (there s known))
  where
    there : (t : Option Offer) → IfSome t (λ e. In name names) → IfSome t (λ e. value_in (map none_for names) name ≡ Some initial)
    there None i = tt
    there (Some e) i = all_none name names i
