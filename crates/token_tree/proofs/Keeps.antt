-- What an object of a text shows is a definition of its own slice.
use Rattle.std.proofs.Common.{◌≡◌, ℕ, ◌+◌, ◌-◌, ◌≤◌, true, List, [], length, take, drop, map, Option, Some, None, option_map, refl, sym, ap, ap₂, ◌∙◌, subst, arith, codes}
use Rattle.std.specs.Prelude.{slice_range}
use Rattle.std.proofs.lemmas.List.{take-take, drop-take, drop-drop, take_rest}
use Rattle.json_span.specs.Tree.{a_null, a_boolean, a_number, a_string, an_array, an_object, Placed, placed, Members, no_members, a_member, Entry, entries_in, members_of, tree_of, start_of, end_of, value_of_name}
use Rattle.json_span.specs.Reading.{Shows}
use Rattle.json_span.specs.Flaw.{most_open, flaw_in}
use Rattle.json_span.specs.Parts.{moved}
use Rattle.token_tree.specs.Tree.{Definition}
use Rattle.token_tree.specs.Answer.{IsObjectOf}
use Rattle.token_tree.specs.Promise.{IsDefinition, StandsIn, moved_def}
use Rattle.token_tree.specs.Shape.{members_in, entries_at, is_token, has, token_breaks, slice_of, extensions_of, def_of, said_kind, said_description, said_deprecated, token_value}
use Rattle.token_tree.proofs.PartsWithoutFlaws.{part_flawless, unmoved}
use Rattle.token_tree.proofs.Moved.{moved_start, moved_end, entries_at_moved, under_moved, has_moved, kind_moved, description_moved, deprecated_moved, token_moved, value_moved, sound_moved, moved_entry}
use Rattle.token_tree.proofs.Objects.{ObjectAt, object_at}
use Rattle.token_tree.proofs.Places.{under_part}
use Rattle.token_tree.proofs.Sound.{extensions_object, object_members, entries_are}

-- a slice of a slice
pub slice_again : (text : List ℕ) (a b x y : ℕ) → x ≤ y → a + y ≤ b → slice_range (slice_range text a b) x y ≡ slice_range text (a + x) (a + y)
slice_again text a b x y h k =
    let m = b - a - x in
    let n : b - a ≡ x + m = omega arith in
    let size : y - x ≡ (a + y) - (a + x) = omega arith in
    let fits : y - x ≤ m = omega arith in
    ap (λ z. take (y - x) (drop x (take z (drop a text)))) n
    ∙ (ap (take (y - x)) (drop-take x m (drop a text))
    ∙ (take-take (y - x) m (drop x (drop a text)) fits
    ∙ ap₂ take size (drop-drop x a text)))

token_object : (n : Placed) → is_token n ≡ true → (ms : Members) × (tree_of n ≡ an_object ms)
token_object (placed a_null start end) e = absurd (cc)
token_object (placed (a_boolean b) start end) e = absurd (cc)
token_object (placed (a_number k) start end) e = absurd (cc)
token_object (placed (a_string s) start end) e = absurd (cc)
token_object (placed (an_array ns) start end) e = absurd (cc)
token_object (placed (an_object ms) start end) e = (ms, refl)

pub members_again : (ms : Members) → members_of (entries_in ms) ≡ ms
members_again no_members = refl
members_again (a_member name start end n ms) = ap (a_member name start end n) (members_again ms)

pub own_members : (n : Placed) (ms : Members) → tree_of n ≡ an_object ms → IsObjectOf n (entries_at n)
own_members (placed v start end) ms e = e ∙ (ap an_object (sym (members_again ms)) ∙ ap (λ z. an_object (members_of (entries_in (members_in z)))) (sym e))

-- the slice under `$extensions` is the same one in the object's own text
extensions_alone : (text s : List ℕ) (n m : Placed) → (o : ObjectAt text n) → m ≡ o.alone → s ≡ slice_of text n → (es : List Entry) → IsObjectOf m es → token_breaks es ≡ []
    → (u : Option Placed) → value_of_name (codes "$extensions") es ≡ u → option_map (slice_of text) (option_map (moved (start_of n)) u) ≡ option_map (slice_of s) u
extensions_alone text s n m o same cut es are sound None h = refl
extensions_alone text s n m o same cut es are sound (Some x) h =
    let (ms, is) = object_members (tree_of x) (extensions_object es x h sound) in
    let shown = subst (λ z. Shows z m) (sym cut) (subst (Shows (slice_of text n)) (sym same) o.shown) in
    let inner = object_at s m x shown (under_part m es (codes "$extensions") x are h) ms is in
    let long : end_of n ≡ start_of n + length s = o.long ∙ ap (λ z. start_of n + length z) (sym cut) in
    let again : slice_range (slice_range text (start_of n) (end_of n)) (start_of x) (end_of x) ≡ slice_range text (start_of n + start_of x) (start_of n + end_of x) =
    slice_again text (start_of n) (end_of n) (start_of x) (end_of x) (omega (arith, inner.long)) (omega (arith, inner.within, long)) in
    let places : slice_range text (start_of (moved (start_of n) x)) (end_of (moved (start_of n) x)) ≡ slice_range text (start_of n + start_of x) (start_of n + end_of x) =
    ap₂ (slice_range text) (moved_start (start_of n) x) (moved_end (start_of n) x) in
    ap Some (places ∙ (sym again ∙ ap (λ z. slice_range z (start_of x) (end_of x)) (sym cut)))

pub keeps : (file text : List ℕ) (n : Placed) → StandsIn text n → is_token n ≡ true → token_breaks (entries_at n) ≡ [] → IsDefinition (def_of file text n)
keeps file text n s tok sound =
    let (ms, is) = token_object n tok in
    let o = object_at text s.root n s.shown s.part ms is in
    let m = o.alone in
    let a = start_of n in
    let es = entries_at m in
    let part = slice_of text n in
    let token_m : is_token m ≡ true = sym (token_moved a m) ∙ (ap is_token o.placed_ ∙ tok) in
    let sound_m : token_breaks es ≡ [] = sound_moved a m (ap (λ z. token_breaks (entries_at z)) o.placed_ ∙ sound) in
    let (ns, js) = token_object m token_m in
    let all : entries_at n ≡ map (moved_entry a) es = ap entries_at (sym o.placed_) ∙ entries_at_moved a m in
    let source : part ≡ slice_of part m = sym (ap₂ (slice_range part) o.first o.last ∙ take_rest part 0) in
    let start : a ≡ a + start_of m = omega (arith, o.first) in
    let end : end_of n ≡ a + end_of m = o.long ∙ ap (λ z. a + z) (sym o.last) in
    let value : token_value n ≡ moved a (token_value m) = ap token_value (sym o.placed_) ∙ value_moved a m in
    let by_ref : has (codes "$ref") (entries_at n) ≡ has (codes "$ref") es = ap (has (codes "$ref")) all ∙ has_moved a (codes "$ref") es in
    let kind : said_kind (entries_at n) ≡ said_kind es = ap said_kind all ∙ kind_moved a es in
    let description : said_description (entries_at n) ≡ said_description es = ap said_description all ∙ description_moved a es in
    let deprecated : said_deprecated (entries_at n) ≡ said_deprecated es = ap said_deprecated all ∙ deprecated_moved a es in
    let extensions : extensions_of text (entries_at n) ≡ extensions_of part es =
    ap (extensions_of text) all ∙ (ap (option_map (slice_of text)) (under_moved a (codes "$extensions") es)
    ∙ extensions_alone text part n m o refl refl es (own_members m ns js) sound_m (value_of_name (codes "$extensions") es) refl) in
    let same : def_of file text n ≡ moved_def a (def_of file part m) =
    λ i. record {
      file = file;
      source = source i;
      start = start i;
      end = end i;
      value = value i;
      by_ref = by_ref i;
      kind = kind i;
      description = description i;
      extensions = extensions i;
      deprecated = deprecated i;
    } in
    record {
      object = m;
      shown = o.shown;
      flawless = unmoved a most_open m (ap (flaw_in most_open) o.placed_ ∙ part_flawless most_open s.part s.flawless);
      token = token_m;
      sound = sound_m;
      long = o.long;
      same = same;
    }

-- a definition, part by part
pub shown_def : (file text : List ℕ) (n : Placed) (es : List Entry) (d : Definition) → IsObjectOf n es → d.file ≡ file → d.source ≡ slice_of text n → d.start ≡ start_of n → d.end ≡ end_of n → d.value ≡ token_value n
    → d.by_ref ≡ has (codes "$ref") es → d.kind ≡ said_kind es → d.description ≡ said_description es → d.extensions ≡ extensions_of text es → d.deprecated ≡ said_deprecated es → d ≡ def_of file text n
shown_def file text n es d are f s a b v r k t x m =
    let all : es ≡ entries_at n = sym (entries_are n es are) in
    let r2 : d.by_ref ≡ has (codes "$ref") (entries_at n) = r ∙ ap (has (codes "$ref")) all in
    let k2 : d.kind ≡ said_kind (entries_at n) = k ∙ ap said_kind all in
    let t2 : d.description ≡ said_description (entries_at n) = t ∙ ap said_description all in
    let x2 : d.extensions ≡ extensions_of text (entries_at n) = x ∙ ap (extensions_of text) all in
    let m2 : d.deprecated ≡ said_deprecated (entries_at n) = m ∙ ap said_deprecated all in
    λ i. record { file = f i; source = s i; start = a i; end = b i; value = v i; by_ref = r2 i; kind = k2 i; description = t2 i; extensions = x2 i; deprecated = m2 i }
