-- A token comes to one thing.
use Rattle.std.proofs.Common.{◌≡◌, ℕ, List, [], ◌∷◌, Some, None, Ok, Err, sym, ap, ap₂, ◌∙◌, subst, refl}
use Rattle.json_span.specs.PlainView.{Value as Plain}
use Rattle.name_path.specs.declared.kind.Kind.{Kind}
use Rattle.name_path.specs.declared.link.Link.{Link}
use Rattle.group_inherit.specs.Flattening.{TokenAt, Flattened}
use Rattle.alias_ref.specs.Answer.{IsFirstBreak, in_walk, kind_missing, OneFirstBreak}
use Rattle.alias_ref.specs.Kinds.{own_in, group_in}
use Rattle.alias_ref.specs.Laws.{Flat, OneMeaning, OneKind, OneLinks}
use Rattle.alias_ref.specs.Visits.{RefBreak}
use Rattle.alias_ref.specs.Written.{whole, written_in}
use Rattle.type_rules.specs.Checked.{Break as ValueBreak, Checked}
use Rattle.composite_rules.specs.Value.{value_of}
use Rattle.composite_rules.specs.declared.typed.Typed.{Typed}
use Rattle.transforms.specs.Config.{Settings}
use Rattle.transforms.specs.Frag.{Frag}
use Rattle.token_cells.specs.Cell.{TokenPath, IsMeant, IsValueOf, TokenBreak, token_break, of_reference, of_value, IsTokenBreak, by_reference, by_value, IsCssOf, IsMade, IsCell, AreCells, GivesAll}
use Rattle.token_cells.specs.TokenCell.{TokenCell, Refused, Made}

-- the laws of references that are needed
pub record Laws : Type 0 where
  pub meaning : OneMeaning
  pub kind : OneKind
  pub links : OneLinks
  pub broken : OneFirstBreak

some_same : {A : Type 0} (x y : A) → Some x ≡ Some y → x ≡ y
some_same x y e = cc

ok_same : (x y : Typed) → (found : Checked Typed) → found ≡ Ok x → found ≡ Ok y → x ≡ y
ok_same x y found e f = let h : ◌≡◌ {A = Checked Typed} (Ok x) (Ok y) = sym e ∙ f in cc

err_same : (x y : ValueBreak) → (found : Checked Typed) → found ≡ Err x → found ≡ Err y → x ≡ y
err_same x y found e f = let h : ◌≡◌ {A = Checked Typed} (Err x) (Err y) = sym e ∙ f in cc

not_both : (x : Typed) (y : ValueBreak) → (found : Checked Typed) → found ≡ Ok x → found ≡ Err y → ⊥
not_both x y found e f = let h = sym e ∙ f in cc

module _ (laws : Laws) (flat : Flat) (settings : Settings) (path : TokenPath) where
  one_kind : (k l : Kind) (v w : Plain) → IsMeant flat path k v → IsMeant flat path l w → k ≡ l
  one_kind k l v w m n = some_same k l (laws.kind (written_in flat) (own_in flat) (group_in flat) path (Some k) (Some l) m.kind_of n.kind_of)

  one_meaning : (k l : Kind) (v w : Plain) → IsMeant flat path k v → IsMeant flat path l w → v ≡ w
  one_meaning k l v w m n = laws.meaning (written_in flat) (whole path) v w m.means n.means

  one_found : (k l : Kind) (v w : Plain) → IsMeant flat path k v → IsMeant flat path l w → value_of settings.legacy k v ≡ value_of settings.legacy l w
  one_found k l v w m n = ap₂ (λ x y. value_of settings.legacy x y) (one_kind k l v w m n) (one_meaning k l v w m n)

  -- a token with a meaning under a kind breaks no rule of references
  meant_unbroken : (k : Kind) (v : Plain) (b : RefBreak) → IsMeant flat path k v → IsFirstBreak flat path b → ⊥
  meant_unbroken k v b m (in_walk e) = let h = sym m.unbroken ∙ e in cc
  meant_unbroken k v b m (kind_missing u n is) = let h = laws.kind (written_in flat) (own_in flat) (group_in flat) path (Some k) None m.kind_of n in cc

  pub one_break : (s t : TokenBreak) → IsTokenBreak flat settings path s → IsTokenBreak flat settings path t → s ≡ t
  one_break s t (by_reference b is e) (by_reference c is_too f) = e ∙ (ap of_reference (laws.broken flat path b c is is_too) ∙ sym f)
  one_break s t (by_reference b is e) (by_value k v c m r f) = absurd (meant_unbroken k v b m is)
  one_break s t (by_value k v c m r f) (by_reference b is e) = absurd (meant_unbroken k v b m is)
  one_break s t (by_value k v b m r e) (by_value l w c n q f) =
      e ∙ (ap (of_value path) (err_same b c (value_of settings.legacy k v) r (one_found k l v w m n ∙ q)) ∙ sym f)

  broken_no_value : (t : TokenBreak) (typed : Typed) (links : List Link) → IsTokenBreak flat settings path t → IsValueOf flat settings path typed links → ⊥
  broken_no_value t typed links (by_reference b is e) v = meant_unbroken v.kind v.meaning b v.meant is
  broken_no_value t typed links (by_value k m b is r e) v = not_both typed b (value_of settings.legacy k m) (one_found k v.kind m v.meaning is v.meant ∙ v.is_typed) r

  pub one_typed : (t u : Typed) (ls ms : List Link) → IsValueOf flat settings path t ls → IsValueOf flat settings path u ms → t ≡ u
  one_typed t u ls ms v w = ok_same t u (value_of settings.legacy v.kind v.meaning) v.is_typed (one_found v.kind w.kind v.meaning w.meaning v.meant w.meant ∙ w.is_typed)

  pub one_links : (t u : Typed) (ls ms : List Link) → IsValueOf flat settings path t ls → IsValueOf flat settings path u ms → ls ≡ ms
  one_links t u ls ms v w = laws.links (written_in flat) (own_in flat) (group_in flat) (whole path) ls ms v.are_links w.are_links

  one_frag : (f g : Frag) → f.names ≡ g.names → f.body ≡ g.body → f ≡ g
  one_frag f g n b = ap₂ (λ (x : List (List ℕ)) (y : List ℕ). record { names = x; body = y }) n b

  one_css : (t : Typed) (ls : List Link) (f g : Frag) → IsCssOf settings path t ls f → IsCssOf settings path t ls g → f ≡ g
  one_css t ls f g i j = one_frag f g (i.names ∙ sym j.names) (i.body ∙ sym j.body)

  some_entry : (f g : Flattened) → Some f ≡ Some g → f ≡ g
  some_entry f g e = cc

  one_made : (css android ios json css2 android2 ios2 json2 : Frag) → IsMade flat settings path css android ios json → IsMade flat settings path css2 android2 ios2 json2
      → Made css android ios json ≡ Made css2 android2 ios2 json2
  one_made css android ios json css2 android2 ios2 json2 i j =
      let t = one_typed i.typed j.typed i.links j.links i.value j.value in
      let l = one_links i.typed j.typed i.links j.links i.value j.value in
      let e = some_entry i.entry j.entry (sym i.there ∙ j.there) in
      let P : Flattened → Type 0 = λ x. GivesAll settings path x i.typed i.links css android ios json in
      let Q : Typed → Type 0 = λ x. GivesAll settings path j.entry x i.links css android ios json in
      let R : List Link → Type 0 = λ x. GivesAll settings path j.entry j.typed x css android ios json in
      let g : GivesAll settings path j.entry j.typed j.links css android ios json = subst R l (subst Q t (subst P e i.gives)) in
      let h = j.gives in
      let a = one_css j.typed j.links css css2 g.css_of h.css_of in
      let b = one_frag android android2 (g.android_of.names ∙ sym h.android_of.names) (g.android_of.body ∙ sym h.android_of.body) in
      let c = one_frag ios ios2 (g.ios_of.names ∙ sym h.ios_of.names) (g.ios_of.body ∙ sym h.ios_of.body) in
      let d = one_frag json json2 (g.json_of.names ∙ sym h.json_of.names) (g.json_of.body ∙ sym h.json_of.body) in
      ap (λ (x : Frag). Made x android ios json) a ∙ (ap (λ (x : Frag). Made css2 x ios json) b ∙ (ap (λ (x : Frag). Made css2 android2 x json) c ∙ ap (λ (x : Frag). Made css2 android2 ios2 x) d))

  -- a token comes to one thing
  pub one_cell : (c d : TokenCell) → IsCell flat settings path c → IsCell flat settings path d → c ≡ d
  one_cell (Refused r p ring) (Refused s q other) i j =
      let same = one_break (token_break r p ring) (token_break s q other) i j in
      ap (λ (t : TokenBreak). Refused t.rule t.place t.ring) same
  one_cell (Refused r p ring) (Made css android ios json) i j = absurd (broken_no_value (token_break r p ring) j.typed j.links i j.value)
  one_cell (Made css android ios json) (Refused s q other) i j = absurd (broken_no_value (token_break s q other) i.typed i.links j i.value)
  one_cell (Made css android ios json) (Made css2 android2 ios2 json2) i j = one_made css android ios json css2 android2 ios2 json2 i j

-- tokens come to one list
pub one_cells : (laws : Laws) (flat : Flat) (settings : Settings) (tokens : List TokenAt) (cs ds : List TokenCell) → AreCells flat settings tokens cs → AreCells flat settings tokens ds → cs ≡ ds
one_cells laws flat settings [] [] [] i j = refl
one_cells laws flat settings [] [] (d ∷ ds) i j = absurd j
one_cells laws flat settings [] (c ∷ cs) ds i j = absurd i
one_cells laws flat settings (t ∷ ts) [] ds i j = absurd i
one_cells laws flat settings (t ∷ ts) (c ∷ cs) [] i j = absurd j
one_cells laws flat settings (t ∷ ts) (c ∷ cs) (d ∷ ds) i j =
    ap₂ (λ (x : TokenCell) (xs : List TokenCell). x ∷ xs) (one_cell laws flat settings t.0 c d i.0 j.0) (one_cells laws flat settings ts cs ds i.1 j.1)
