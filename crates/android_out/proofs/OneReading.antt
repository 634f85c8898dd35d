-- A text and a file have one reading at most.
use Rattle.std.proofs.Common.{◌≡◌, ◌==◌, ℕ, Bool, true, false, List, [], ◌∷◌, ◌++◌, refl, sym, ◌∙◌, ap, subst, append_assoc, codes, Option, Some, None}
use Rattle.std.specs.Prelude.{if◌then◌else◌}
use Rattle.std.specs.List.{list_all}
use Rattle.std.proofs.lemmas.List.{append_cancel_left, append_cancel_right}
use Rattle.transforms.specs.PlatformName.{is_kept}
use Rattle.transforms.specs.declared.platform.Platform.TheVariants.{Android}
use Rattle.transforms.proofs.Endings.{kept_name}
use Rattle.transforms.proofs.RunsAreFirst.{runs_once}
use Rattle.android_out.specs.Element.{Content, Values, Tag, color_tag, dimen_tag, integer_tag, item_tag, string_tag, tag_of, tag_name, attributes, element_text}
use Rattle.android_out.proofs.ElementsAreTagged.{element_is}
use Rattle.android_out.specs.Reading.{content_in, no_markup, IsElement, is_blank, after_comment, Block, ended, blank_byte, comment, element, head, foot, Reads}

-- the tag whose name begins so
abbrev tag_at : List ℕ → Option Tag
tag_at [] = None
tag_at (c ∷ []) = None
tag_at (c ∷ d ∷ t) =
    if c == 99 then Some color_tag
    else if c == 100 then Some dimen_tag
    else if c == 115 then Some string_tag
    else if d == 110 then Some integer_tag
    else Some item_tag

tag_again : (tag : Tag) (t : List ℕ) → tag_at (tag_name tag ++ t) ≡ Some tag
tag_again color_tag t = refl
tag_again dimen_tag t = refl
tag_again integer_tag t = refl
tag_again item_tag t = refl
tag_again string_tag t = refl

-- an element before others, part after part
abbrev behind_content : Tag → List ℕ → List ℕ
behind_content tag t = 47 ∷ (tag_name tag ++ (62 ∷ t))

abbrev behind_name : Tag → List ℕ → List ℕ → List ℕ
behind_name tag inside t = 62 ∷ (inside ++ (60 ∷ behind_content tag t))

abbrev behind_tag : Tag → List ℕ → List ℕ → List ℕ → List ℕ
behind_tag tag name inside t = attributes tag ++ (codes " name=\"" ++ (name ++ (34 ∷ behind_name tag inside t)))

spread : (tag : Tag) (name inside t : List ℕ) → element_text tag name inside ++ t ≡ 60 ∷ (tag_name tag ++ behind_tag tag name inside t)
spread tag name inside t =
    let a = tag_name tag in
    let b = attributes tag in
    let n = codes " name=\"" in
    let q = codes "\">" in
    let s = codes "</" in
    let g = codes ">" in
    ap (λ x. 60 ∷ x)
    (append_assoc a (b ++ (n ++ (name ++ (q ++ (inside ++ (s ++ (a ++ g))))))) t
    ∙ ap (λ x. a ++ x)
    (append_assoc b (n ++ (name ++ (q ++ (inside ++ (s ++ (a ++ g)))))) t
    ∙ ap (λ x. b ++ (n ++ x))
    (append_assoc name (q ++ (inside ++ (s ++ (a ++ g)))) t
    ∙ ap (λ x. name ++ (q ++ x))
    (append_assoc inside (s ++ (a ++ g)) t
    ∙ ap (λ x. inside ++ (s ++ x)) (append_assoc a g t)))))

-- two elements before others
pub record AreSame (name other : List ℕ) (content another : Content) (s t : List ℕ) : Type 0 where
  pub names : name ≡ other
  pub contents : content ≡ another
  pub rests : s ≡ t

inside_once : (tag other : Tag) (same : tag ≡ other) (a b : List ℕ) (content another : Content) (s t : List ℕ) → list_all no_markup a ≡ true → list_all no_markup b ≡ true
    → content_in tag a ≡ Some content → content_in other b ≡ Some another → a ++ (60 ∷ behind_content tag s) ≡ b ++ (60 ∷ behind_content other t) → (content ≡ another) × (s ≡ t)
inside_once tag other same a b content another s t h i x y e =
    let (inside, behind) = runs_once no_markup a b 60 (behind_content tag s) (behind_content other t) h i refl e in
    let P : Tag → Type 0 = λ z. content_in z b ≡ Some another in
    let Q : Tag → Type 0 = λ z. behind_content tag s ≡ behind_content z t in
    let some : Some content ≡ Some another = sym x ∙ ap (content_in tag) inside ∙ subst P (sym same) y in
    let contents : content ≡ another = cc in
    let one : behind_content tag s ≡ behind_content tag t = subst Q (sym same) behind in
    let names : tag_name tag ++ (62 ∷ s) ≡ tag_name tag ++ (62 ∷ t) = cc in
    let ends : 62 ∷ s ≡ 62 ∷ t = append_cancel_left (tag_name tag) (62 ∷ s) (62 ∷ t) names in
    let rests : s ≡ t = cc in
    (contents, rests)

pub elements_once : (text other name another : List ℕ) (content said : Content) (s t : List ℕ) → IsElement text name content → IsElement other another said
    → text ++ s ≡ other ++ t → AreSame name another content said s t
elements_once text other name another content said s t x y e =
    let tag = tag_of content in
    let more = tag_of said in
    let long : 60 ∷ (tag_name tag ++ behind_tag tag name x.inside s) ≡ 60 ∷ (tag_name more ++ behind_tag more another y.inside t) =
    sym (spread tag name x.inside s) ∙ ap (λ z. z ++ s) (sym (element_is x)) ∙ e ∙ ap (λ z. z ++ t) (element_is y) ∙ spread more another y.inside t in
    let open_ : tag_name tag ++ behind_tag tag name x.inside s ≡ tag_name more ++ behind_tag more another y.inside t = cc in
    let some : Some tag ≡ Some more = sym (tag_again tag (behind_tag tag name x.inside s)) ∙ ap tag_at open_ ∙ tag_again more (behind_tag more another y.inside t) in
    let same : tag ≡ more = cc in
    let P : Tag → Type 0 = λ z. tag_name tag ++ behind_tag tag name x.inside s ≡ tag_name z ++ (attributes z ++ (codes " name=\"" ++ (another ++ (34 ∷ behind_name more y.inside t)))) in
    let one : tag_name tag ++ behind_tag tag name x.inside s ≡ tag_name tag ++ (attributes tag ++ (codes " name=\"" ++ (another ++ (34 ∷ behind_name more y.inside t)))) = subst P (sym same) open_ in
    let first = append_cancel_left (tag_name tag) (behind_tag tag name x.inside s) (attributes tag ++ (codes " name=\"" ++ (another ++ (34 ∷ behind_name more y.inside t)))) one in
    let second = append_cancel_left (attributes tag) (codes " name=\"" ++ (name ++ (34 ∷ behind_name tag x.inside s))) (codes " name=\"" ++ (another ++ (34 ∷ behind_name more y.inside t))) first in
    let third = append_cancel_left (codes " name=\"") (name ++ (34 ∷ behind_name tag x.inside s)) (another ++ (34 ∷ behind_name more y.inside t)) second in
    let (names, behind) = runs_once (is_kept Android) name another 34 (behind_name tag x.inside s) (behind_name more y.inside t) (kept_name name x.named) (kept_name another y.named) refl third in
    let last : x.inside ++ (60 ∷ behind_content tag s) ≡ y.inside ++ (60 ∷ behind_content more t) = cc in
    let (contents, rests) = inside_once tag more same x.inside y.inside content said s t x.plain y.plain x.says y.says last in
    record { names = names; contents = contents; rests = rests }

-- how an element begins
record Begins (t : List ℕ) : Type 0 where
  tag : Tag
  more : List ℕ
  whole : t ≡ 60 ∷ (tag_name tag ++ more)

begins : (t text name rest : List ℕ) (content : Content) → t ≡ text ++ rest → IsElement text name content → Begins t
begins t text name rest content e is = record {
  tag = tag_of content;
  more = behind_tag (tag_of content) name is.inside rest;
  whole = e ∙ ap (λ z. z ++ rest) (element_is is) ∙ spread (tag_of content) name is.inside rest;
}

no_blank : (c : ℕ) → is_blank c ≡ true → c ≡ 60 → ⊥
no_blank c h e = let same : is_blank 60 ≡ true = subst (λ z. is_blank z ≡ true) e h in cc

abbrev is_mark : List ℕ → Bool
is_mark [] = false
is_mark (c ∷ t) = c == 33

no_mark : (tag : Tag) (t u : List ℕ) → tag_name tag ++ t ≡ 33 ∷ u → ⊥
no_mark color_tag t u e = let no : false ≡ true = ap is_mark e in cc
no_mark dimen_tag t u e = let no : false ≡ true = ap is_mark e in cc
no_mark integer_tag t u e = let no : false ≡ true = ap is_mark e in cc
no_mark item_tag t u e = let no : false ≡ true = ap is_mark e in cc
no_mark string_tag t u e = let no : false ≡ true = ap is_mark e in cc

-- what stands after the end, a blank, a comment and an element
at_end : {t : List ℕ} {ws : Values} → Block t ws → t ≡ [] → [] ≡ ws
at_end (ended t f) e = refl
at_end (blank_byte t c rest ws f h x) e = cc
at_end (comment t inside rest ws f g x) e = cc
at_end (element t text name rest content ws f is x) e = let b = begins t text name rest content f is in let whole : t ≡ 60 ∷ (tag_name b.tag ++ b.more) = b.whole in cc

at_blank : {t : List ℕ} {ws : Values} → Block t ws → (c : ℕ) (u : List ℕ) → t ≡ c ∷ u → is_blank c ≡ true → Block u ws
at_blank (ended t f) c u e h = cc
at_blank (blank_byte t d rest ws f k x) c u e h = let same : rest ≡ u = cc in let P : List ℕ → Type 0 = λ z. Block z ws in subst P same x
at_blank (comment t inside rest ws f g x) c u e h = let same : c ≡ 60 = cc in absurd (no_blank c h same)
at_blank (element t text name rest content ws f is x) c u e h =
    let b = begins t text name rest content f is in let whole : t ≡ 60 ∷ (tag_name b.tag ++ b.more) = b.whole in let same : c ≡ 60 = cc in absurd (no_blank c h same)

at_comment : {t : List ℕ} {ws : Values} → Block t ws → (u r : List ℕ) → t ≡ codes "<!--" ++ u → after_comment u ≡ Some r → Block r ws
at_comment (ended t f) u r e g = cc
at_comment (blank_byte t c rest ws f h x) u r e g = let same : c ≡ 60 = cc in absurd (no_blank c h same)
at_comment (comment t inside rest ws f k x) u r e g =
    let inner : inside ≡ u = cc in let some : Some rest ≡ Some r = sym k ∙ ap after_comment inner ∙ g in let same : rest ≡ r = cc in
    let P : List ℕ → Type 0 = λ z. Block z ws in subst P same x
at_comment (element t text name rest content ws f is x) u r e g =
    let b = begins t text name rest content f is in
    let whole : 60 ∷ (tag_name b.tag ++ b.more) ≡ 60 ∷ 33 ∷ 45 ∷ 45 ∷ u = sym b.whole ∙ e in
    let more : tag_name b.tag ++ b.more ≡ 33 ∷ 45 ∷ 45 ∷ u = cc in
    absurd (no_mark b.tag b.more (45 ∷ 45 ∷ u) more)

at_element : {t : List ℕ} {ws : Values} → Block t ws → (text name r : List ℕ) (content : Content) → t ≡ text ++ r → IsElement text name content
    → (vs : Values) × (ws ≡ (name, content) ∷ vs) × Block r vs
at_element (ended t f) text name r content e is =
    let b = begins t text name r content e is in let whole : t ≡ 60 ∷ (tag_name b.tag ++ b.more) = b.whole in cc
at_element (blank_byte t c rest ws f h x) text name r content e is =
    let b = begins t text name r content e is in let whole : t ≡ 60 ∷ (tag_name b.tag ++ b.more) = b.whole in let same : c ≡ 60 = cc in absurd (no_blank c h same)
at_element (comment t inside rest ws f g x) text name r content e is =
    let b = begins t text name r content e is in
    let whole : 60 ∷ (tag_name b.tag ++ b.more) ≡ 60 ∷ 33 ∷ 45 ∷ 45 ∷ inside = sym b.whole ∙ f in
    let more : tag_name b.tag ++ b.more ≡ 33 ∷ 45 ∷ 45 ∷ inside = cc in
    absurd (no_mark b.tag b.more (45 ∷ 45 ∷ inside) more)
at_element (element t other another rest said ws f was x) text name r content e is =
    let one = elements_once other text another name said content rest r was is (sym f ∙ e) in
    let P : List ℕ → Type 0 = λ z. Block z ws in
    (ws, ap (λ n. (n, said) ∷ ws) one.names ∙ ap (λ c. (name, c) ∷ ws) one.contents, subst P one.rests x)

pub block_once : {t : List ℕ} {vs : Values} → Block t vs → {ws : Values} → Block t ws → vs ≡ ws
block_once (ended t e) y = at_end y e
block_once (blank_byte t c rest vs e h x) y = block_once x (at_blank y c rest e h)
block_once (comment t inside rest vs e f x) y = block_once x (at_comment y inside rest e f)
block_once (element t text name rest content vs e is x) y =
    let (more, same, b) = at_element y text name rest content e is in ap (λ z. (name, content) ∷ z) (block_once x b) ∙ sym same

same_inside : (s t : List ℕ) → head ++ (s ++ foot) ≡ head ++ (t ++ foot) → s ≡ t
same_inside s t e = append_cancel_right s t foot (append_cancel_left head (s ++ foot) (t ++ foot) e)

pub read_once : (bytes : List ℕ) (vs ws : Values) → Reads bytes vs → Reads bytes ws → vs ≡ ws
read_once bytes vs ws x y =
    let same = same_inside x.inside y.inside (sym x.frame ∙ y.frame) in
    let P : List ℕ → Type 0 = λ z. Block z vs in
    block_once (subst P same x.block) y.block
