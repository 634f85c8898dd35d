-- An element that is written as one reads as one: its tags are those of the reading.
use Rattle.std.proofs.Common.{◌≡◌, ◌∙◌, ℕ, List, ◌++◌, codes, refl}
use Rattle.android_out.specs.Element.{Content, Tag, color_tag, dimen_tag, integer_tag, item_tag, string_tag, tag_of, element_text}
use Rattle.android_out.specs.Reading.{IsElement, before_name, end_tag}

pub tagged : (tag : Tag) (name inside : List ℕ) → before_name tag ++ (name ++ (codes "\">" ++ (inside ++ end_tag tag))) ≡ element_text tag name inside
tagged color_tag name inside = refl
tagged dimen_tag name inside = refl
tagged integer_tag name inside = refl
tagged item_tag name inside = refl
tagged string_tag name inside = refl

pub element_is : {text name : List ℕ} {content : Content} → (is : IsElement text name content) → text ≡ element_text (tag_of content) name is.inside
element_is {text} {name} {content} is = is.whole ∙ tagged (tag_of content) name is.inside
