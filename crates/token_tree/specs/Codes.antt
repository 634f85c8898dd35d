-- Codes of definitions, by which a proof tells them apart.
use Rattle.std.specs.Prelude.{◌≡◌, ℕ, Bool, true, false, List, Option, Some, None, unwrap_or}
use Rattle.std.proofs.Common.{ap, ap₂, refl}
use Rattle.std.specs.Coded.{Coded, code_by, coded_ℕ, coded_bool, coded_option, coded×}
use base.Stored.{Gv, gnil, gnum, gcons}
use Rattle.name_path.specs.declared.kind.Kind.{Kind}
use Rattle.name_path.specs.declared.kind.Kind.TheVariants.{Color, Dimension, FontFamily, FontWeight, Duration, CubicBezier, Number, StrokeStyle, Border, Transition, Shadow, Gradient, Typography}
use Rattle.name_path.specs.Kinds.{kind_name}
pub use Rattle.json_span.specs.CodedText.{coded_text}
use Rattle.json_span.specs.Tree.{Tree, a_null, a_boolean, a_number, a_string, an_array, an_object, Placed, placed, Elements, no_elements, an_element, Members, no_members, a_member}
use Rattle.token_tree.specs.declared.mark.Mark.{Mark}
use Rattle.token_tree.specs.declared.mark.Mark.TheVariants.{No, Yes, Because}
use Rattle.token_tree.specs.Texts.{kind_named}
use Rattle.token_tree.specs.Tree.{Definition}

-- a JSON value

abbrev mutual
  pub code_tree : Tree → Gv
  code_tree a_null = gnil
  code_tree (a_boolean b) = gcons (gnum 1) (coded_bool.code b)
  code_tree (a_number s) = gcons (gnum 2) (coded_text.code s)
  code_tree (a_string s) = gcons (gnum 3) (coded_text.code s)
  code_tree (an_array ns) = gcons (gnum 4) (code_elements ns)
  code_tree (an_object ms) = gcons (gnum 5) (code_members ms)

  pub code_placed : Placed → Gv
  code_placed (placed v a b) = gcons (code_tree v) (gcons (gnum a) (gnum b))

  pub code_elements : Elements → Gv
  code_elements no_elements = gnil
  code_elements (an_element n ns) = gcons (code_placed n) (code_elements ns)

  pub code_members : Members → Gv
  code_members no_members = gnil
  code_members (a_member k a b n ms) = gcons (coded_text.code k) (gcons (gcons (gnum a) (gnum b)) (gcons (code_placed n) (code_members ms)))

rest : (x y a b : Gv) → gcons x a ≡ gcons y b → a ≡ b
rest x y a b e = cc

front : (x y a b : Gv) → gcons x a ≡ gcons y b → x ≡ y
front x y a b e = cc

number : (m n : ℕ) → gnum m ≡ gnum n → m ≡ n
number m n e = cc

mutual
  pub inj_tree : (x y : Tree) → code_tree x ≡ code_tree y → x ≡ y
  inj_tree a_null a_null e = refl
  inj_tree (a_boolean b) (a_boolean c) e = ap a_boolean (coded_bool.inj b c (rest _ _ _ _ e))
  inj_tree (a_number s) (a_number t) e = ap a_number (coded_text.inj s t (rest _ _ _ _ e))
  inj_tree (a_string s) (a_string t) e = ap a_string (coded_text.inj s t (rest _ _ _ _ e))
  inj_tree (an_array s) (an_array t) e = ap an_array (inj_elements s t (rest _ _ _ _ e))
  inj_tree (an_object s) (an_object t) e = ap an_object (inj_members s t (rest _ _ _ _ e))
  inj_tree x y e = cc

  pub inj_placed : (x y : Placed) → code_placed x ≡ code_placed y → x ≡ y
  inj_placed (placed d a b) (placed f g h) e =
      let p = inj_tree d f (front _ _ _ _ e) in
      let q = rest _ _ _ _ e in
      let m = number a g (front _ _ _ _ q) in
      let n = number b h (rest _ _ _ _ q) in
      λ i. placed (p i) (m i) (n i)

  pub inj_elements : (x y : Elements) → code_elements x ≡ code_elements y → x ≡ y
  inj_elements no_elements no_elements e = refl
  inj_elements (an_element s ss) (an_element t ts) e = ap₂ an_element (inj_placed s t (front _ _ _ _ e)) (inj_elements ss ts (rest _ _ _ _ e))
  inj_elements x y e = cc

  pub inj_members : (x y : Members) → code_members x ≡ code_members y → x ≡ y
  inj_members no_members no_members e = refl
  inj_members (a_member k a b s ms) (a_member l c d t ns) e =
      let p = coded_text.inj k l (front _ _ _ _ e) in
      let q = rest _ _ _ _ e in
      let m = number a c (front _ _ _ _ (front _ _ _ _ q)) in
      let n = number b d (rest _ _ _ _ (front _ _ _ _ q)) in
      let r = rest _ _ _ _ q in
      let u = inj_placed s t (front _ _ _ _ r) in
      let v = inj_members ms ns (rest _ _ _ _ r) in
      λ i. a_member (p i) (m i) (n i) (u i) (v i)
  inj_members x y e = cc

abbrev pub coded_placed : Coded Placed
coded_placed = record { code = code_placed; inj = inj_placed }

-- a kind is coded as its name

abbrev pub some_kind : List ℕ → Kind
some_kind text = unwrap_or (kind_named text) Color

pub kind_again : (k : Kind) → some_kind (kind_name k) ≡ k
kind_again Color = refl
kind_again Dimension = refl
kind_again FontFamily = refl
kind_again FontWeight = refl
kind_again Duration = refl
kind_again CubicBezier = refl
kind_again Number = refl
kind_again StrokeStyle = refl
kind_again Border = refl
kind_again Transition = refl
kind_again Shadow = refl
kind_again Gradient = refl
kind_again Typography = refl

abbrev pub coded_kind : Coded Kind
coded_kind = code_by (List ℕ) coded_text kind_name some_kind kind_again

-- a mark is coded as its flag and its text

abbrev pub mark_parts : Mark → Bool × Option (List ℕ)
mark_parts No = (false, None)
mark_parts Yes = (true, None)
mark_parts (Because text) = (true, Some text)

abbrev pub flag : Bool → Mark
flag true = Yes
flag false = No

abbrev pub marked : Bool → Option (List ℕ) → Mark
marked b (Some text) = Because text
marked b None = flag b

pub mark_again : (m : Mark) → marked (mark_parts m).0 (mark_parts m).1 ≡ m
mark_again No = refl
mark_again Yes = refl
mark_again (Because text) = refl

abbrev pub coded_mark : Coded Mark
coded_mark = code_by (Bool × Option (List ℕ)) (coded× coded_bool (coded_option coded_text)) mark_parts (λ p. marked p.0 p.1) mark_again

-- a definition is coded as its fields

abbrev pub PlaceFields : Type 0
PlaceFields = (List ℕ × List ℕ) × (ℕ × ℕ)

abbrev pub ValueFields : Type 0
ValueFields = Placed × Bool

abbrev pub SaidFields : Type 0
SaidFields = (Option Kind × Option Mark) × (Option (List ℕ) × Option (List ℕ))

abbrev pub DefinitionFields : Type 0
DefinitionFields = PlaceFields × (ValueFields × SaidFields)

abbrev pub coded_fields : Coded DefinitionFields
coded_fields =
    coded× (coded× (coded× coded_text coded_text) (coded× coded_ℕ coded_ℕ))
    (coded× (coded× coded_placed coded_bool) (coded× (coded× (coded_option coded_kind) (coded_option coded_mark)) (coded× (coded_option coded_text) (coded_option coded_text))))

abbrev pub fields_of : Definition → DefinitionFields
fields_of d = (((d.file, d.source), (d.start, d.end)), ((d.value, d.by_ref), ((d.kind, d.deprecated), (d.description, d.extensions))))

abbrev pub of_fields : DefinitionFields → Definition
of_fields f = record {
  file = f.0.0.0;
  source = f.0.0.1;
  start = f.0.1.0;
  end = f.0.1.1;
  value = f.1.0.0;
  by_ref = f.1.0.1;
  kind = f.1.1.0.0;
  description = f.1.1.1.0;
  extensions = f.1.1.1.1;
  deprecated = f.1.1.0.1;
}

abbrev pub coded_definition : Coded Definition
coded_definition = code_by DefinitionFields coded_fields fields_of of_fields (λ _. refl)
