-- The words of stroke styles.
use Rattle.std.specs.Prelude.{ℕ, List, [], ◌∷◌, map, codes}
use Rattle.composite_rules.specs.declared.stroke.StrokeWord.{StrokeWord}
use Rattle.composite_rules.specs.declared.stroke.StrokeWord.TheVariants.{Solid, Dashed, Dotted, Double, Groove, Ridge, Outset, Inset}
use Rattle.composite_rules.specs.declared.stroke.Cap.{Cap}
use Rattle.composite_rules.specs.declared.stroke.Cap.TheVariants.{Round, Butt, Square}

abbrev pub stroke_word_name : StrokeWord → List ℕ
stroke_word_name Solid = codes "solid"
stroke_word_name Dashed = codes "dashed"
stroke_word_name Dotted = codes "dotted"
stroke_word_name Double = codes "double"
stroke_word_name Groove = codes "groove"
stroke_word_name Ridge = codes "ridge"
stroke_word_name Outset = codes "outset"
stroke_word_name Inset = codes "inset"

abbrev pub all_stroke_words : List StrokeWord
all_stroke_words = Solid ∷ Dashed ∷ Dotted ∷ Double ∷ Groove ∷ Ridge ∷ Outset ∷ Inset ∷ []

abbrev pub stroke_words : List (List ℕ × StrokeWord)
stroke_words = map (λ word. (stroke_word_name word, word)) all_stroke_words

abbrev pub cap_name : Cap → List ℕ
cap_name Round = codes "round"
cap_name Butt = codes "butt"
cap_name Square = codes "square"

abbrev pub all_caps : List Cap
all_caps = Round ∷ Butt ∷ Square ∷ []

abbrev pub caps : List (List ℕ × Cap)
caps = map (λ cap. (cap_name cap, cap)) all_caps
