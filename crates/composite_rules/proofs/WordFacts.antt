-- What the words of stroke styles stand for.
use Rattle.std.proofs.Common.{◌≡◌, ℕ, List, Some, refl, ap, sym, ◌∙◌}
use Rattle.std.specs.Prelude.{◌↔◌}
use Rattle.type_rules.specs.Words.{meaning}
use Rattle.type_rules.proofs.WordFacts.{meaning_named}
use Rattle.composite_rules.specs.declared.stroke.StrokeWord.{StrokeWord}
use Rattle.composite_rules.specs.declared.stroke.StrokeWord.TheVariants.{Solid, Dashed, Dotted, Double, Groove, Ridge, Outset, Inset}
use Rattle.composite_rules.specs.declared.stroke.Cap.{Cap}
use Rattle.composite_rules.specs.declared.stroke.Cap.TheVariants.{Round, Butt, Square}
use Rattle.composite_rules.specs.Words.{stroke_words, all_stroke_words, stroke_word_name, caps, all_caps, cap_name}

pub word_found : (w : StrokeWord) → meaning stroke_words (stroke_word_name w) ≡ Some w
word_found Solid = refl
word_found Dashed = refl
word_found Dotted = refl
word_found Double = refl
word_found Groove = refl
word_found Ridge = refl
word_found Outset = refl
word_found Inset = refl

pub cap_found : (c : Cap) → meaning caps (cap_name c) ≡ Some c
cap_found Round = refl
cap_found Butt = refl
cap_found Square = refl

pub words_named : (word : List ℕ) (s : StrokeWord) → (meaning stroke_words word ≡ Some s) ↔ (stroke_word_name s ≡ word)
words_named word s = (meaning_named stroke_word_name all_stroke_words word s, λ e. ap (meaning stroke_words) (sym e) ∙ word_found s)

pub caps_named : (word : List ℕ) (c : Cap) → (meaning caps word ≡ Some c) ↔ (cap_name c ≡ word)
caps_named word c = (meaning_named cap_name all_caps word c, λ e. ap (meaning caps) (sym e) ∙ cap_found c)
