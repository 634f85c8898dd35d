-- What is kept for each listed name, member by member, and what it shows.
use Rattle.std.proofs.Common.{◌≡◌, ℕ, Bool, true, false, cond, List, [], ◌∷◌, Option, Some, None, is_some, codes, option_map, refl, sym, ap, ◌∙◌}
use Rattle.std.specs.Prelude.{option_and_then}
use Rattle.std.specs.Option.{option_or}
use Rattle.std.specs.Str.{bytes_eq}
use Rattle.json_span.specs.Tree.{Placed, Entry, tree_of, start_of, end_of, string_in, value_of_name}
use Rattle.json_span.specs.View.{ref_view}
use Rattle.token_tree.specs.Answer.{IsObjectOf}
use Rattle.token_tree.specs.Promise.{StandsIn}
use Rattle.token_tree.specs.Shape.{def_of, extension_at, kind_in, mark_in, properties_of, slice_of, token_breaks}
use Rattle.token_tree.specs.Texts.{is_reserved}
use Rattle.token_tree.specs.Tree.{Definition, Properties}
use Rattle.token_tree.specs.declared.listed_members.ListedMembers.{ListedMembers}
use Rattle.token_tree.specs.inner.Listed.{Kept, Each, AreListed, AreListedSoFar, IsNoted, if_named, said_in, value_among}
use Rattle.token_tree.specs.inner.Outcomes.{IsObjectIn}
use Rattle.token_tree.proofs.Keeps.{shown_def}
use Rattle.token_tree.proofs.Names.{same_text}
use Rattle.token_tree.proofs.Places.{under_stands}
use Rattle.token_tree.proofs.Sound.{extensions_object, value_is}

-- what follows of a name that begins with '$' follows of each listed name
each : {P R Q : Kept → List ℕ → Type 0} → ((kept : Kept) (name : List ℕ) → is_reserved name ≡ true → P kept name → R kept name → Q kept name) → Each P → Each R → Each Q
each f a b = record {
  value = f _ _ refl a.value b.value;
  reference = f _ _ refl a.reference b.reference;
  kind = f _ _ refl a.kind b.kind;
  description = f _ _ refl a.description b.description;
  extensions = f _ _ refl a.extensions b.extensions;
  deprecated = f _ _ refl a.deprecated b.deprecated;
  extends = f _ _ refl a.extends b.extends;
}

pure : {Q : Kept → List ℕ → Type 0} → ((kept : Kept) (name : List ℕ) → is_reserved name ≡ true → Q kept name) → Each Q
pure f = record {
  value = f _ _ refl;
  reference = f _ _ refl;
  kind = f _ _ refl;
  description = f _ _ refl;
  extensions = f _ _ refl;
  deprecated = f _ _ refl;
  extends = f _ _ refl;
}

one_more : (old : Option Placed) (b : Bool) (n : Placed) (left : Option Placed) → option_or (option_or old (cond b (Some n) None)) left ≡ option_or old (cond b (Some n) left)
one_more None true n left = refl
one_more None false n left = refl
one_more (Some m) b n left = refl

-- a member is taken in
pub taken_in : (old new : ListedMembers) (e : Entry) (left before es : List Entry) → before ≡ e ∷ left → IsNoted e.name e.value old new → AreListedSoFar old before es → AreListedSoFar new left es
taken_in old new e left before es steps noted so_far =
    each (λ kept name _ n h.
    ap (λ z. option_or z (value_of_name name left)) n
    ∙ (one_more (kept old) (bytes_eq e.name name) e.value (value_of_name name left)
    ∙ (sym (ap (λ z. option_or (kept old) (value_of_name name z)) steps) ∙ h))) noted so_far

alone : (o : Option Placed) → option_or o None ≡ o
alone None = refl
alone (Some n) = refl

-- none is to come
pub all_listed : (l : ListedMembers) (left es : List Entry) → left ≡ [] → AreListedSoFar l left es → AreListed l es
all_listed l left es none so_far =
    each (λ kept name _ h _. sym (alone (kept l)) ∙ (ap (λ z. option_or (kept l) (value_of_name name z)) (sym none) ∙ h)) so_far so_far

other : (name wanted : List ℕ) → is_reserved name ≡ false → is_reserved wanted ≡ true → bytes_eq name wanted ≡ false
other name wanted n w =
    elim (bytes_eq name wanted) as (λ b. bytes_eq name wanted ≡ b → b ≡ false) [
      | true ↦ λ t. (let e : is_reserved name ≡ is_reserved wanted = ap is_reserved (same_text name wanted t) in absurd (cc))
      | false ↦ λ t. refl
    ] refl

-- a value of another name is not kept
pub unnamed : (name wanted : List ℕ) (n : Placed) (kept : Option Placed) → bytes_eq name wanted ≡ false → kept ≡ option_or kept (if_named wanted name n)
unnamed name wanted n kept e = sym (ap (λ b. option_or kept (cond b (Some n) None)) e ∙ alone kept)

still_some : {A B : Type 0} (f : A → B) (o : Option A) → is_some o ≡ is_some (option_map f o)
still_some f None = refl
still_some f (Some x) = refl

-- whether it is there under a listed name
pub has_listed : {A B : Type 0} (f : A → B) (o : Option A) (under : Option B) (b : Bool) → b ≡ is_some o → option_map f o ≡ under → b ≡ is_some under
has_listed f o under b e h = e ∙ (still_some f o ∙ ap is_some h)

-- the object under `$extensions`
pub extensions_stand : (text : List ℕ) (n : Placed) (es : List Entry) (l : ListedMembers) → IsObjectOf n es → StandsIn text n → AreListed l es → token_breaks es ≡ [] → IsObjectIn text (option_map ref_view l.extensions)
extensions_stand text n es l are s a sound m u =
    let there = sym a.extensions ∙ u in
    (under_stands text n es are s (codes "$extensions") m there, extensions_object es m there sound)

-- the definition that the listed members show
pub listed_def : (file text : List ℕ) (n : Placed) (es : List Entry) (l : ListedMembers) (d : Definition) → IsObjectOf n es → AreListed l es → d.file ≡ file → d.source ≡ slice_of text n → d.start ≡ start_of n → d.end ≡ end_of n
    → d.value ≡ value_among l n → d.by_ref ≡ is_some l.reference → d.kind ≡ said_in kind_in l.kind → d.description ≡ said_in string_in l.description → d.extensions ≡ option_map (slice_of text) (option_map ref_view l.extensions)
    → d.deprecated ≡ said_in mark_in l.deprecated → d ≡ def_of file text n
listed_def file text n es l d are a f s b z v r k t x m =
    shown_def file text n es d are f s b z
    (v ∙ sym (value_is n es _ _ are (sym a.reference) (sym a.value)))
    (has_listed ref_view l.reference _ d.by_ref r a.reference)
    (k ∙ ap (option_and_then (λ n. kind_in (tree_of n))) a.kind)
    (t ∙ ap (option_and_then (λ n. string_in (tree_of n))) a.description)
    (x ∙ ap (option_map (slice_of text)) a.extensions)
    (m ∙ ap (option_and_then (λ n. mark_in (tree_of n))) a.deprecated)

-- and the properties of a group
pub listed_properties : (file : List ℕ) (es : List Entry) (l : ListedMembers) (p : Properties) → AreListed l es → p.kind ≡ said_in kind_in l.kind → p.deprecated ≡ said_in mark_in l.deprecated
    → p.extends ≡ option_and_then (extension_at file) (option_map ref_view l.extends) → p ≡ properties_of file es
listed_properties file es l p a k m x =
    let k2 = k ∙ ap (option_and_then (λ n. kind_in (tree_of n))) a.kind in
    let m2 = m ∙ ap (option_and_then (λ n. mark_in (tree_of n))) a.deprecated in
    let x2 = x ∙ ap (option_and_then (extension_at file)) a.extends in
    λ i. record { kind = k2 i; deprecated = m2 i; extends = x2 i }
