-- What a content says is what is written as the value.
use Rattle.std.proofs.Common.{◌≡◌, ℕ, suc, List, [], ◌∷◌, Bool, true, false, cond, Option, Some, None, refl, sym, ap, ◌∙◌, codes, length, arith}
use Rattle.std.specs.Prelude.{Result, Ok, Err, IfOk, ◌==◌}
use Rattle.std.specs.Str.{bytes_eq}
use Rattle.json_span.specs.Tree.{Tree, a_null, a_boolean, a_number, a_string, an_array, an_object, Placed, Entry, tree_of, entries_in, string_in, object_in, value_of_name}
use Rattle.alias_ref.specs.References.{place_named}
use Rattle.alias_ref.specs.Written.{Step, parts_by_name, parts_of, part_under, Role, pointed, object_pointed, object_written, text_written, written_as, is_reference}
use Rattle.alias_ref.specs.inner.Contents.{content_view, content_parts, IsContent}
use Rattle.alias_ref.specs.declared.content.Content.{Content}

-- an object
pub object_is : (role : Role) (v : Tree) (es : List Entry) → object_in v ≡ Some es → (written_as role v ≡ object_written es) × (parts_of v ≡ parts_by_name es)
object_is role a_null es e = absurd (cc)
object_is role (a_boolean b) es e = absurd (cc)
object_is role (a_number k) es e = absurd (cc)
object_is role (a_string s) es e = absurd (cc)
object_is role (an_array ns) es e = absurd (cc)
object_is role (an_object ms) es e = let same : entries_in ms ≡ es = cc in (ap object_written same, ap parts_by_name same)

-- a string
pub string_is : (role : Role) (v : Tree) (s : List ℕ) → string_in v ≡ Some s → (written_as role v ≡ text_written role s) × (parts_of v ≡ [])
string_is role a_null s e = absurd (cc)
string_is role (a_boolean b) s e = absurd (cc)
string_is role (a_number k) s e = absurd (cc)
string_is role (a_string t) s e = let same : t ≡ s = cc in (ap (text_written role) same, refl)
string_is role (an_array ns) s e = absurd (cc)
string_is role (an_object ms) s e = absurd (cc)

pub object_content : {E : Type 0} (r : Result Content E) (role : Role) (v : Tree) (es : List Entry) → object_in v ≡ Some es → IfOk r (λ c. content_view c ≡ object_written es) → IfOk r (λ c. is_reference (Some (content_view c)) ≡ false → content_parts c ≡ parts_by_name es) → IfOk r (λ c. IsContent c role v)
object_content (Err x) role v es e p q = tt
object_content (Ok c) role v es e p q = let k = object_is role v es e in record { written = p ∙ sym k.0; parts = λ h. q h ∙ sym k.1 }

pub text_content : {E : Type 0} (r : Result Content E) (role : Role) (v : Tree) (s : List ℕ) → string_in v ≡ Some s → IfOk r (λ c. content_view c ≡ text_written role s) → IfOk r (λ c. content_parts c ≡ []) → IfOk r (λ c. IsContent c role v)
text_content (Err x) role v s e p q = tt
text_content (Ok c) role v s e p q = let k = string_is role v s e in record { written = p ∙ sym k.0; parts = λ h. q ∙ sym k.1 }

-- an object with a member `$ref`

one_if : (b : Bool) (x n : Placed) (o : Option Placed) → o ≡ None → Some n ≡ cond b (Some x) o → x ≡ n
one_if true x n o h e = cc
one_if false x n o h e = absurd (cc)

alone : (es : List Entry) (n : Placed) → Some n ≡ value_of_name (codes "$ref") es → (length es == 1) ≡ true → object_pointed es ≡ pointed (tree_of n)
alone [] n e f = absurd (cc)
alone (x ∷ []) n e f = ap (λ m. pointed (tree_of m)) (one_if (bytes_eq x.name (codes "$ref")) x.value n None refl e)
alone (x ∷ y ∷ es) n e f = let k : suc (suc (length es)) ≡ 1 = eq_is (suc (suc (length es))) f in absurd (omega (arith, k))
  where
    eq_is : (k : ℕ) → (k == 1) ≡ true → k ≡ 1
    eq_is k h = grind (arith, h)

pointed_text : (v : Tree) (s : List ℕ) → Some s ≡ string_in v → pointed v ≡ place_named s
pointed_text a_null s e = absurd (cc)
pointed_text (a_boolean b) s e = absurd (cc)
pointed_text (a_number k) s e = absurd (cc)
pointed_text (a_string t) s e = let same : t ≡ s = cc in ap place_named same
pointed_text (an_array ns) s e = absurd (cc)
pointed_text (an_object ms) s e = absurd (cc)

-- parts under names
pub under_named : (s : Step) (es : List Entry) → part_under s (parts_by_name es) ≡ value_of_name s es
under_named s [] = refl
under_named s (e ∷ es) = ap (cond (bytes_eq e.name s) (Some e.value)) (under_named s es)
