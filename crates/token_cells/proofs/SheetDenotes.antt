-- The style sheet of cells without a break denotes the values of their tokens.
use Rattle.token_cells.specs.declared.format.Format.TheVariants as Form
use Rattle.std.proofs.Common.{◌≡◌, ℕ, zero, suc, Bool, true, false, List, [], ◌∷◌, ◌++◌, map, flat_map, Option, Some, None, Ok, refl, sym, ap, ap₂, subst, ◌∙◌, inl, inr}
use Rattle.std.proofs.lemmas.Cmp.{tied_itself, lists_total}
use Rattle.std.specs.Cmp.Lexicographic.{nat_list_cmp_total}
use Rattle.std.specs.FinMap as finite
use Rattle.std.specs.FinMap.{find, slice_cmp-IsAntisymmetric, nat_cmp-IsAntisymmetric}
use Rattle.std.specs.List.{AllZip, zip}
use Rattle.std.specs.Ordering.{eq_by_cmp, is_eq}
use Rattle.std.specs.Prelude.{cond, AllPairs}
use Rattle.std.specs.declared.cmp.Ordering.{Ordering}
use Rattle.std.specs.declared.cmp.Ordering.TheVariants.{Less, Equal, Greater}
use Rattle.tk_io.specs.Order.{names_cmp}
use Rattle.json_span.specs.PlainView.{Value as Plain}
use Rattle.name_path.specs.Names.{IsTokenPath}
use Rattle.name_path.specs.declared.kind.Kind.{Kind}
use Rattle.name_path.specs.declared.link.Link.{Link}
use Rattle.name_path.specs.declared.place.Place.{Place}
use Rattle.group_inherit.specs.Flattening.{Flattened, TokenAt}
use Rattle.alias_ref.specs.Depth.{LinkDepth}
use Rattle.alias_ref.specs.Kinds.{own_in, group_in}
use Rattle.alias_ref.specs.Laws.{Flat, OneMeaning, OneKind, PartsMean, UnbrokenDepth}
use Rattle.alias_ref.specs.Meaning.{Means}
use Rattle.alias_ref.specs.PlainParts.{plain_at}
use Rattle.alias_ref.specs.Written.{WrittenPlaces, whole, is_written, written_in}
use Rattle.type_rules.specs.Trails.{plain_at as type_plain_at}
use Rattle.type_rules.specs.Checked.{Checked}
use Rattle.composite_rules.specs.Laws.{ValuesKeep, PartsAreTyped}
use Rattle.composite_rules.specs.Parts.{part_at}
use Rattle.composite_rules.specs.Sound.{kind_of}
use Rattle.composite_rules.specs.Value.{value_of}
use Rattle.composite_rules.specs.declared.typed.Typed.{Typed}
use Rattle.transforms.specs.Clash.{Taken, NamedToken, AllAdded, ShareNoName, TokenNamesApart, first_taken, with_names}
use Rattle.transforms.specs.Config.{Settings}
use Rattle.transforms.specs.PlatformName.{is_property}
use Rattle.transforms.specs.Sheet.{sheet_text}
use Rattle.transforms.specs.declared.platform.Platform.TheVariants.{Css, Android, Swift}
use Rattle.css_out.specs.Laws.{SheetsDenote, ReferencesDenote}
use Rattle.ring.specs.Lists.{In, Each}
use Rattle.css_out.specs.Sheets.{Cell, css_frame, cell_name, cell_text, cell_names, sheet_bytes, sheet_values, LeadsTo, LinksLead, no_links, link_leads, IsSheet}
use Rattle.css_out.specs.Sources.{HasRoom}
use Rattle.css_out.specs.Rounds.{Denotes}
use Rattle.token_cells.specs.Cell.{IsValueOf, AreCells}
use Rattle.token_cells.specs.Breaks.{Celled, cell_reports, names_on, clashes_on, name_clashes, clashes_from, clash_reports, taken_behind, token_reports}
use Rattle.token_cells.specs.Denotes.{SheetDenotes}
use Rattle.token_cells.specs.Sheets.{bodies_for, sheet_for}
use Rattle.token_cells.specs.TokenCell.{TokenCell, Refused, Made}
use Rattle.token_cells.proofs.LinkedTokens.{Stands, links_stand, link_means, written_there, token_written}
use Rattle.token_cells.proofs.PlainPaths.{same_part}

-- the laws of the crates below that are needed
pub record Laws : Type 0 where
  pub meaning : OneMeaning
  pub kind : OneKind
  pub parts : PartsMean
  pub depth : UnbrokenDepth
  pub keeps : ValuesKeep
  pub typed : PartsAreTyped
  pub apart : TokenNamesApart
  pub denote : SheetsDenote
  pub references : ReferencesDenote

-- lists

nil_cons : {A : Type 0} (x : A) (xs : List A) → x ∷ xs ≡ [] → ⊥
nil_cons x xs e = cc

nil_left : {A : Type 0} (xs ys : List A) → xs ++ ys ≡ [] → xs ≡ []
nil_left [] ys e = refl
nil_left (x ∷ xs) ys e = absurd (nil_cons x (xs ++ ys) e)

nil_right : {A : Type 0} (xs ys : List A) → xs ++ ys ≡ [] → ys ≡ []
nil_right [] ys e = e
nil_right (x ∷ xs) ys e = absurd (nil_cons x (xs ++ ys) e)

-- a token and what it has

pub record Has (flat : Flat) (settings : Settings) (token : TokenAt) (c : Cell) : Type 0 where
  pub path : c.path ≡ token.0
  pub value : IsValueOf flat settings token.0 c.typed c.links
  pub room : HasRoom c.typed
  pub named : IsTokenPath token.0 → is_property (cell_name settings c) ≡ true

abbrev pub named_of : Celled → NamedToken
named_of e = record { path = e.0.0; names = names_on Css e.1 }

-- cells without a break are those of a sheet
pub record AreMade (flat : Flat) (settings : Settings) (tokens : List TokenAt) (cells : List TokenCell) : Type 0 where
  pub sheet : List Cell
  pub have : AllZip (Has flat settings) tokens sheet
  pub bodies : flat_map (bodies_for Form.Css) cells ≡ map (cell_text settings) sheet
  pub names : map named_of (zip tokens cells) ≡ map (cell_names settings) sheet

module _ (flat : Flat) (settings : Settings) where
  pub are_made : (tokens : List TokenAt) (cells : List TokenCell) → AreCells flat settings tokens cells → flat_map (cell_reports flat) (zip tokens cells) ≡ [] → AreMade flat settings tokens cells
  are_made [] [] found none = record { sheet = []; have = tt; bodies = refl; names = refl }
  are_made [] (c ∷ cells) found none = absurd found
  are_made (t ∷ tokens) [] found none = absurd found
  are_made (t ∷ tokens) (Refused rule place ring ∷ cells) found none = absurd (nil_cons _ _ none)
  are_made (t ∷ tokens) (Made css android ios json ∷ cells) (here, found) none =
      let rest = are_made tokens cells found none in
      let cell : Cell = record { path = t.0; links = here.links; typed = here.typed } in
      record {
        sheet = cell ∷ rest.sheet;
        have = (record { path = refl; value = here.value; room = here.gives.css_of.room; named = here.gives.css_of.named }, rest.have);
        bodies = ap₂ (λ (x : List ℕ) (xs : List (List ℕ)). x ∷ xs) here.gives.css_of.body rest.bodies;
        names = ap₂ (λ (ns : List (List ℕ)) (xs : List NamedToken). record { path = t.0; names = ns } ∷ xs) here.gives.css_of.names rest.names;
      }

-- names without a clash

abbrev Adds : Taken → List Celled → Type 0
Adds taken es = (after : Taken) × AllAdded taken (map named_of es) after

added_behind : (taken : Taken) (e : Celled) (es : List Celled) → ((t : Taken) → clashes_from Css (names_on Css) t es ≡ [] → Adds t es) → (o : Option (List (List ℕ))) → first_taken taken (names_on Css e.1) ≡ o
    → clash_reports Css e.0 o ++ clashes_from Css (names_on Css) (taken_behind taken (names_on Css e.1) e.0.0 o) es ≡ [] → Adds taken (e ∷ es)
added_behind taken e es again None is h = let (after, all) = again (with_names taken (names_on Css e.1) e.0.0) h in (after, (is, all))
added_behind taken e es again (Some other) is h = absurd (nil_cons _ _ h)

added : (taken : Taken) (es : List Celled) → clashes_from Css (names_on Css) taken es ≡ [] → Adds taken es
added taken [] none = (taken, refl)
added taken (e ∷ es) none = added_behind taken e es (λ t h. added t es h) (first_taken taken (names_on Css e.1)) refl none

-- where an element of the one list stands beside one of the other

module _ {A B : Type 0} (R : A → B → Type 0) where
  right_of : (xs : List A) (ys : List B) (x : A) → AllZip R xs ys → In x xs → (y : B) × In y ys × R x y
  right_of [] [] x z i = absurd i
  right_of [] (y ∷ ys) x z i = absurd i
  right_of (a ∷ xs) [] x z i = absurd z
  right_of (a ∷ xs) (y ∷ ys) x (r, z) (inl same) = (y, inl refl, subst (λ w. R w y) (sym same) r)
  right_of (a ∷ xs) (y ∷ ys) x (r, z) (inr i) = let (b, j, s) = right_of xs ys x z i in (b, inr j, s)

  left_of : (xs : List A) (ys : List B) (y : B) → AllZip R xs ys → In y ys → (x : A) × In x xs × R x y
  left_of [] [] y z i = absurd i
  left_of [] (b ∷ ys) y z i = absurd z
  left_of (a ∷ xs) [] y z i = absurd i
  left_of (a ∷ xs) (b ∷ ys) y (r, z) (inl same) = (a, inl refl, subst (λ w. R a w) (sym same) r)
  left_of (a ∷ xs) (b ∷ ys) y (r, z) (inr i) = let (x, j, s) = left_of xs ys y z i in (x, inr j, s)

weaker : {A B : Type 0} (R S : A → B → Type 0) → ((x : A) (y : B) → R x y → S x y) → (xs : List A) (ys : List B) → AllZip R xs ys → AllZip S xs ys
weaker R S f [] [] z = tt
weaker R S f [] (y ∷ ys) z = absurd z
weaker R S f (x ∷ xs) [] z = absurd z
weaker R S f (x ∷ xs) (y ∷ ys) (r, z) = (f x y r, weaker R S f xs ys z)

-- a token that stands at a path is an entry

is_equal : (o : Ordering) → is_eq o ≡ true → o ≡ Equal
is_equal Less h = cc
is_equal Equal h = refl
is_equal Greater h = cc

chosen : (b : Bool) (u : List (List ℕ)) (t : TokenAt) (ts : List TokenAt) (s : Flattened) → eq_by_cmp names_cmp u t.0 ≡ b → cond b (Some t.1) (find names_cmp u ts) ≡ Some s
    → (find names_cmp u ts ≡ Some s → In (u, s) ts) → In (u, s) (t ∷ ts)
chosen true u t ts s h e again =
    let key : u ≡ t.0 = slice_cmp-IsAntisymmetric (slice_cmp-IsAntisymmetric nat_cmp-IsAntisymmetric) u t.0 (is_equal (names_cmp u t.0) h) in
    let same : s ≡ t.1 = cc in
    inl (ap (λ k. (k, s)) key ∙ ap (λ x. (t.0, x)) same)
chosen false u t ts s h e again = inr (again e)

found_among : (ts : List TokenAt) (u : List (List ℕ)) (s : Flattened) → find names_cmp u ts ≡ Some s → In (u, s) ts
found_among [] u s e = cc
found_among (t ∷ ts) u s e = chosen (eq_by_cmp names_cmp u t.0) u t ts s refl e (found_among ts u s)

found_in : (flat : Flat) (u : List (List ℕ)) (s : Flattened) → finite.get flat u ≡ Some s → In (u, s) (finite.entries flat)
found_in flat u s e = found_among (finite.entries flat) u s (sym (finite.get-entries flat u) ∙ e)

-- .. and an entry is found at its path

find_here : (b : Bool) (v : Flattened) (rest : Option Flattened) → b ≡ true → (s : Flattened) × (cond b (Some v) rest ≡ Some s)
find_here true v rest h = (v, refl)
find_here false v rest h = cc

find_later : (b : Bool) (v : Flattened) (rest : Option Flattened) → ((s : Flattened) × (rest ≡ Some s)) → (s : Flattened) × (cond b (Some v) rest ≡ Some s)
find_later true v rest h = (v, refl)
find_later false v rest h = h

found_again : (ts : List TokenAt) (t : TokenAt) → In t ts → (s : Flattened) × (find names_cmp t.0 ts ≡ Some s)
found_again [] t i = absurd i
found_again (x ∷ ts) t (inl same) = find_here (eq_by_cmp names_cmp t.0 x.0) x.1 (find names_cmp t.0 ts) (ap is_eq (ap (λ z. names_cmp t.0 z.0) (sym same) ∙ tied_itself (lists_total nat_list_cmp_total) t.0))
found_again (x ∷ ts) t (inr i) = find_later (eq_by_cmp names_cmp t.0 x.0) x.1 (find names_cmp t.0 ts) (found_again ts t i)

written_token : (flat : Flat) (t : TokenAt) → In t (finite.entries flat) → is_written (written_in flat (whole t.0)) ≡ true
written_token flat t i =
    let (s, found) = found_again (finite.entries flat) t i in
    token_written flat t.0 s (finite.get-entries flat t.0 ∙ found)

module _ (laws : Laws) (flat : Flat) (settings : Settings) (sheet : List Cell) (have : AllZip (Has flat settings) (finite.entries flat) sheet) where
  abbrev T : WrittenPlaces
  T = written_in flat

  abbrev Pl : List (List ℕ) → List (List ℕ) → Place
  Pl token trail = record { token = token; trail = trail }

  -- the cell of a link's token
  abbrev Target : ℕ → Cell → Link → Type 0
  Target k c l = (j : ℕ) × (k ≡ suc j) × (to : Cell) × In to sheet × LeadsTo c l to × ((token : TokenAt) × In token (finite.entries flat) × Has flat settings token to × LinkDepth T j (whole token.0))

  ok_same : (found : Checked Typed) (t u : Typed) → found ≡ Ok t → found ≡ Ok u → t ≡ u
  ok_same found t u e f = let h : ◌≡◌ {A = Checked Typed} (Ok t) (Ok u) = sym e ∙ f in cc

  some_kind : (k l : Kind) → Some k ≡ Some l → k ≡ l
  some_kind k l e = cc

  module _ (k : ℕ) (token : TokenAt) (c : Cell) (h : Has flat settings token c) (l : Link) (s : Stands T (own_in flat) (group_in flat) k (whole token.0) l) where
    meaning : (w : Plain) × (plain_at h.value.meaning s.steps ≡ Some w) × Means T (Pl token.0 l.trail) w
    meaning = laws.parts flat (whole token.0) (Pl token.0 l.trail) s.steps h.value.meaning s.below h.value.meant.means

    target_means : Means T (whole l.target) meaning.0 × (is_written (T (whole l.target)) ≡ true)
    target_means = link_means T (own_in flat) (group_in flat) (Pl token.0 l.trail) l.target meaning.0 s.written meaning.2

    target_there : (f : Flattened) × (finite.get flat l.target ≡ Some f)
    target_there = written_there flat l.target target_means.1

    target_token : In (l.target, target_there.0) (finite.entries flat)
    target_token = found_in flat l.target target_there.0 target_there.1

    target_cell : (to : Cell) × In to sheet × Has flat settings (l.target, target_there.0) to
    target_cell = right_of (Has flat settings) (finite.entries flat) sheet (l.target, target_there.0) have target_token

    same : (part : Typed) → part_at c.typed l.trail ≡ Some part → l.kind ≡ Some (kind_of part) → target_cell.0.typed ≡ part
    same part at kinded =
        let to = target_cell.2 in
        let steps : s.steps ≡ l.trail = sym s.trail in
        let found : type_plain_at h.value.meaning l.trail ≡ Some meaning.0 = sym (same_part h.value.meaning l.trail) ∙ (ap (plain_at h.value.meaning) (sym steps) ∙ meaning.1) in
        let checks : value_of settings.legacy (kind_of part) meaning.0 ≡ Ok part = laws.typed settings.legacy h.value.kind h.value.meaning meaning.0 c.typed part l.trail h.value.is_typed found at in
        let one : to.value.meaning ≡ meaning.0 = laws.meaning T (whole l.target) to.value.meaning meaning.0 to.value.meant.means target_means.0 in
        let kind : to.value.kind ≡ kind_of part = some_kind to.value.kind (kind_of part) (laws.kind T (own_in flat) (group_in flat) l.target (Some to.value.kind) l.kind to.value.meant.kind_of s.kind ∙ kinded) in
        ok_same (value_of settings.legacy to.value.kind to.value.meaning) target_cell.0.typed part to.value.is_typed (ap₂ (λ x y. value_of settings.legacy x y) kind one ∙ checks)

    target : Target k c l
    target = (s.less, s.deep, target_cell.0, target_cell.1, record { target = target_cell.2.path; same = same }, ((l.target, target_there.0), target_token, target_cell.2, s.behind))

  -- links lead as deep as references
  abbrev Deep : ℕ → Type 0
  Deep k = (token : TokenAt) (c : Cell) → In token (finite.entries flat) → Has flat settings token c → LinkDepth T k (whole token.0) → LinksLead sheet k c c.links

  some_lead : (k : ℕ) → ((j : ℕ) → k ≡ suc j → Deep j) → (c : Cell) (links : List Link) → ((l : Link) → In l links → Target k c l) → LinksLead sheet k c links
  some_lead k deep c [] targets = no_links
  some_lead k deep c (l ∷ links) targets =
      let (j, more, to, there, leads, (token, here, has, depth)) = targets l (inl refl) in
      let P : ℕ → Type 0 = λ m. LinksLead sheet m c links in
      let Q : ℕ → Type 0 = λ m. LinksLead sheet m c (l ∷ links) in
      let rest : LinksLead sheet k c links = some_lead k deep c links (λ m i. targets m (inr i)) in
      subst Q (sym more) (link_leads to there leads (deep j more token to here has depth) (subst P more rest))

  deep_at : (k : ℕ) → ((j : ℕ) → k ≡ suc j → Deep j) → Deep k
  deep_at k less token c i h depth =
      some_lead k less c c.links (λ l j. target k token c h l (links_stand T (own_in flat) (group_in flat) k (whole token.0) c.links h.value.are_links depth l j))

  deep : (k : ℕ) → Deep k
  deep zero = deep_at zero (λ j more. cc)
  deep (suc k) = deep_at (suc k) (λ j more. let same : k ≡ j = cc in subst Deep same (deep k))

  all_lead : Each sheet (λ c. LinksLead sheet 256 c c.links)
  all_lead c i =
      let (token, j, h) = left_of (Has flat settings) (finite.entries flat) sheet c have i in
      deep 256 token c j h (laws.depth flat token.0 (written_token flat token j) h.value.meant.unbroken)

  pub is_sheet : ((token : TokenAt) → In token (finite.entries flat) → IsTokenPath token.0) → AllPairs ShareNoName (map (cell_names settings) sheet) → IsSheet settings sheet
  is_sheet paths apart = record {
    typed = λ c i. let (token, j, h) = left_of (Has flat settings) (finite.entries flat) sheet c have i in laws.keeps settings.legacy h.value.kind h.value.meaning c.typed h.value.is_typed;
    room = λ c i. let (token, j, h) = left_of (Has flat settings) (finite.entries flat) sheet c have i in h.room;
    named = λ c i. let (token, j, h) = left_of (Has flat settings) (finite.entries flat) sheet c have i in h.named (paths token j);
    apart = apart;
    links = all_lead;
  }

-- the whole sheet
pub sheet_denotes : (laws : Laws) (flat : Flat) (settings : Settings) (cells : List TokenCell) → AreCells flat settings (finite.entries flat) cells
    → token_reports flat (zip (finite.entries flat) cells) ≡ [] → ((token : TokenAt) → In token (finite.entries flat) → IsTokenPath token.0)
    → SheetDenotes flat settings (sheet_for Form.Css cells)
sheet_denotes laws flat settings cells found none paths =
    let es = zip (finite.entries flat) cells in
    let made = are_made flat settings (finite.entries flat) cells found (nil_left (flat_map (cell_reports flat) es) (name_clashes es) none) in
    let (after, all) = added finite.empty es (nil_left (clashes_on Css es) (clashes_on Android es ++ clashes_on Swift es) (nil_right (flat_map (cell_reports flat) es) (name_clashes es) none)) in
    let apart = subst (λ ns. AllPairs ShareNoName ns) made.names (laws.apart (map named_of es) after all) in
    let sheet = is_sheet laws flat settings made.sheet made.have paths apart in
    let bytes : sheet_bytes settings made.sheet ≡ sheet_for Form.Css cells = ap (sheet_text css_frame) (sym made.bodies) in
    record {
      tokens = made.sheet;
      values = weaker (Has flat settings) (λ token c. (c.path ≡ token.0) × IsValueOf flat settings token.0 c.typed c.links) (λ token c h. (h.path, h.value)) (finite.entries flat) made.sheet made.have;
      denotes = subst (λ b. Denotes b (sheet_values settings made.sheet)) bytes (laws.denote settings made.sheet sheet);
      references = laws.references settings made.sheet sheet;
    }
