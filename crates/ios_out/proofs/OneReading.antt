-- A text and a file have one reading at most.
use Rattle.std.proofs.Common.{◌≡◌, ◌==◌, ◌&&◌, ℕ, Bool, true, false, not, List, [], ◌∷◌, ◌++◌, refl, sym, ◌∙◌, ap, subst, codes, Some, None, arith}
use Rattle.std.specs.Char.{is_ascii_alphabetic, is_ascii_alphanumeric, is_ascii_digit}
use Rattle.std.specs.List.{list_all}
use Rattle.std.proofs.lemmas.Bool.Decides.{nat_tests}
use Rattle.std.proofs.lemmas.List.{append_cancel_left, append_cancel_right}
use Rattle.std.proofs.lemmas.List.Folds.{list_all-append}
use Rattle.transforms.specs.PlatformName.{is_kept, is_identifier}
use Rattle.transforms.specs.declared.platform.Platform.TheVariants.{Android}
use Rattle.dec_fix.specs.Decimal.{Decimal}
use Rattle.dec_fix.proofs.Again.{both}
use Rattle.transforms.specs.Quoted.{string_from}
use Rattle.transforms.specs.Runs.{first_run, behind_run}
use Rattle.transforms.proofs.Endings.{kept_name}
use Rattle.transforms.proofs.RunsAreFirst.{first_run-append, behind_run-append, runs_once}
use Rattle.ios_out.specs.Constant.{Quantity, Argument, labelled, bare, Content, number, string, made, Values}
use Rattle.ios_out.specs.Reading.{number_alone, quantity_in, is_swift_word, no_comma, no_bracket, no_newline, IsArgument, with_label, without, AreArguments, last, more, SaysContent, of_number, of_string, of_arguments, is_blank, Block, ended, blank_byte, comment, constant, head, foot, Reads}
use Rattle.ios_out.proofs.Arguments.{word_letters}

-- arguments
no_quantity : (c : ℕ) (t : List ℕ) → is_ascii_alphabetic c ≡ true → quantity_in (c ∷ t) ≡ None
no_quantity c t h =
    let a : is_ascii_digit c ≡ false = grind (arith, nat_tests) in
    let b : (c == 45) ≡ false = grind (arith, nat_tests) in
    rw (a, b) refl

no_label : (label u : List ℕ) (q : Quantity) → is_swift_word label ≡ true → quantity_in (label ++ (codes ": " ++ u)) ≡ Some q → ⊥
no_label [] u q w h = cc
no_label (c ∷ l) u q w h =
    let no : quantity_in (c ∷ (l ++ (codes ": " ++ u))) ≡ None = no_quantity c (l ++ (codes ": " ++ u)) ((both (is_ascii_alphabetic c) (list_all is_ascii_alphanumeric l) w).0) in
    let none : None ≡ Some q = sym no ∙ h in cc

argument_once : {t s : List ℕ} {a b : Argument} → IsArgument t a → IsArgument s b → t ≡ s → a ≡ b
argument_once (with_label t l u q e w h) (with_label s m v r f x k) same =
    let (labels, behind) = runs_once is_ascii_alphanumeric l m 58 (32 ∷ u) (32 ∷ v) (word_letters l w) (word_letters m x) refl (sym e ∙ same ∙ f) in
    let rests : u ≡ v = cc in
    let some : Some q ≡ Some r = sym h ∙ ap quantity_in rests ∙ k in
    let quantities : q ≡ r = cc in
    ap (λ z. labelled z q) labels ∙ ap (labelled m) quantities
argument_once (with_label t l u q e w h) (without s r k) same = absurd (no_label l u r w (ap quantity_in (sym e ∙ same) ∙ k))
argument_once (without t q h) (with_label s m v r f x k) same = absurd (no_label m v q x (ap quantity_in (sym f ∙ sym same) ∙ h))
argument_once (without t q h) (without s r k) same =
    let some : Some q ≡ Some r = sym h ∙ ap quantity_in same ∙ k in let quantities : q ≡ r = cc in ap bare quantities

has_comma : (s first rest_text : List ℕ) → list_all no_comma s ≡ true → s ≡ first ++ (44 ∷ rest_text) → ⊥
has_comma s first rest_text h e =
    let all : list_all no_comma first && false ≡ true = sym (list_all-append no_comma first (44 ∷ rest_text)) ∙ sym (ap (list_all no_comma) e) ∙ h in
    let no : false ≡ true = (both (list_all no_comma first) false all).1 in cc

arguments_once : {t s : List ℕ} {args bs : List Argument} → AreArguments t args → AreArguments s bs → t ≡ s → args ≡ bs
arguments_once (last t a h x) (last s b k y) same = ap (λ z. z ∷ []) (argument_once x y same)
arguments_once (last t a h x) (more s first r b bs f k y ys) same = absurd (has_comma t first (32 ∷ r) h (same ∙ f))
arguments_once (more t first r a args e h x xs) (last s b k y) same = absurd (has_comma s first (32 ∷ r) k (sym same ∙ e))
arguments_once (more t first r a args e h x xs) (more s other q b bs f k y ys) same =
    let (firsts, behind) = runs_once no_comma first other 44 (32 ∷ r) (32 ∷ q) h k refl (sym e ∙ same ∙ f) in
    let rests : r ≡ q = cc in
    ap (λ z. z ∷ args) (argument_once x y firsts) ∙ ap (λ z. b ∷ z) (arguments_once xs ys rests)

-- what stands after a name
no_quote : (ds : List ℕ) (d : Decimal) (r v : List ℕ) → number_alone ds ≡ Some d → ds ++ (10 ∷ r) ≡ 34 ∷ v → ⊥
no_quote [] d r v h e = cc
no_quote (c ∷ ds) d r v h e =
    let first : c ≡ 34 = cc in
    let no : None ≡ Some d = subst (λ z. number_alone (z ∷ ds) ≡ Some d) first h in cc

typed_once : (n m x y : List ℕ) → is_swift_word n ≡ true → is_swift_word m ≡ true → codes ": " ++ (n ++ (codes " = " ++ x)) ≡ codes ": " ++ (m ++ (codes " = " ++ y)) → (n ≡ m) × (x ≡ y)
typed_once n m x y h k e =
    let inner : n ++ (32 ∷ 61 ∷ 32 ∷ x) ≡ m ++ (32 ∷ 61 ∷ 32 ∷ y) = cc in
    let (names, behind) = runs_once is_ascii_alphanumeric n m 32 (61 ∷ 32 ∷ x) (61 ∷ 32 ∷ y) (word_letters n h) (word_letters m k) refl inner in
    let rests : x ≡ y = cc in
    (names, rests)

-- texts that a test of their start tells apart
apart : (p : List ℕ → Bool) (s t : List ℕ) → s ≡ t → p s ≡ true → p t ≡ false → ⊥
apart p s t e h k = let never : true ≡ false = sym h ∙ ap p e ∙ k in cc

abbrev is_colon : List ℕ → Bool
is_colon [] = false
is_colon (c ∷ t) = c == 58

abbrev is_solidus : List ℕ → Bool
is_solidus [] = false
is_solidus (c ∷ t) = c == 47

-- one content and one rest
pub record AreSame (c d : Content) (s t : List ℕ) : Type 0 where
  pub contents : c ≡ d
  pub rests : s ≡ t

says_once : {t s : List ℕ} {c d : Content} {r q : List ℕ} → SaysContent t c r → SaysContent s d q → t ≡ s → AreSame c d r q
says_once (of_number t n ds r d e w l h) (of_number s m es q f g x k i) same =
    let (types, behind) = typed_once n m (ds ++ (10 ∷ r)) (es ++ (10 ∷ q)) w x (sym e ∙ same ∙ g) in
    let (digits, rests) = runs_once no_newline ds es 10 r q l k refl behind in
    let some : Some d ≡ Some f = sym h ∙ ap number_alone digits ∙ i in
    let numbers : d ≡ f = cc in
    record { contents = ap (λ z. number z d) types ∙ ap (number m) numbers; rests = rests }
says_once (of_number t n ds r d e w l h) (of_string s m v text q g x i) same =
    let (types, behind) = typed_once n m (ds ++ (10 ∷ r)) (34 ∷ v) w x (sym e ∙ same ∙ g) in absurd (no_quote ds d r v h behind)
says_once (of_number t n ds r d e w l h) (of_arguments s m inside q args g x k i) same = absurd (apart is_colon t s same (ap is_colon e) (ap is_colon g))
says_once (of_string t n u text r e w h) (of_number s m es q f g x k i) same =
    let (types, behind) = typed_once n m (34 ∷ u) (es ++ (10 ∷ q)) w x (sym e ∙ same ∙ g) in absurd (no_quote es f q u i (sym behind))
says_once (of_string t n u text r e w h) (of_string s m v other q g x i) same =
    let (types, behind) = typed_once n m (34 ∷ u) (34 ∷ v) w x (sym e ∙ same ∙ g) in
    let insides : u ≡ v = cc in
    let pair : List ℕ × List ℕ = (text, 10 ∷ r) in
    let other_pair : List ℕ × List ℕ = (other, 10 ∷ q) in
    let some : Some pair ≡ Some other_pair = sym h ∙ ap (string_from false) insides ∙ i in
    let pairs : pair ≡ other_pair = cc in
    let ends : 10 ∷ r ≡ 10 ∷ q = ap (λ z. z.1) pairs in
    let rests : r ≡ q = cc in
    record { contents = ap (λ z. string z text) types ∙ ap (string m) (ap (λ z. z.0) pairs); rests = rests }
says_once (of_string t n u text r e w h) (of_arguments s m inside q args g x k i) same = absurd (apart is_colon t s same (ap is_colon e) (ap is_colon g))
says_once (of_arguments t n inside r args e w l h) (of_number s m es q f g x k i) same = absurd (apart is_colon s t (sym same) (ap is_colon g) (ap is_colon e))
says_once (of_arguments t n inside r args e w l h) (of_string s m v other q g x i) same = absurd (apart is_colon s t (sym same) (ap is_colon g) (ap is_colon e))
says_once (of_arguments t n inside r args e w l h) (of_arguments s m within q bs g x k i) same =
    let long : codes " = " ++ (n ++ (codes "(" ++ (inside ++ (codes ")\n" ++ r)))) ≡ codes " = " ++ (m ++ (codes "(" ++ (within ++ (codes ")\n" ++ q)))) = sym e ∙ same ∙ g in
    let inner : n ++ (40 ∷ (inside ++ (41 ∷ 10 ∷ r))) ≡ m ++ (40 ∷ (within ++ (41 ∷ 10 ∷ q))) = cc in
    let (makers, behind) = runs_once is_ascii_alphanumeric n m 40 (inside ++ (41 ∷ 10 ∷ r)) (within ++ (41 ∷ 10 ∷ q)) (word_letters n w) (word_letters m x) refl inner in
    let (insides, ends) = runs_once no_bracket inside within 41 (10 ∷ r) (10 ∷ q) l k refl behind in
    let rests : r ≡ q = cc in
    record { contents = ap (λ z. made z args) makers ∙ ap (made m) (arguments_once h i insides); rests = rests }

-- what stands after a name can't go on the name
record EndsName (u : List ℕ) : Type 0 where
  first : ℕ
  further : List ℕ
  whole : u ≡ first ∷ further
  ends : is_kept Android first ≡ false

ends_name : {u : List ℕ} {c : Content} {r : List ℕ} → SaysContent u c r → EndsName u
ends_name (of_number u n ds r d e w l h) = record { first = 58; further = 32 ∷ (n ++ (codes " = " ++ (ds ++ (10 ∷ r)))); whole = e; ends = refl }
ends_name (of_string u n v text r e w h) = record { first = 58; further = 32 ∷ (n ++ (codes " = \"" ++ v)); whole = e; ends = refl }
ends_name (of_arguments u m inside r args e w l h) = record { first = 32; further = 61 ∷ 32 ∷ (m ++ (codes "(" ++ (inside ++ (codes ")\n" ++ r)))); whole = e; ends = refl }

front_of : (n u : List ℕ) → list_all (is_kept Android) n ≡ true → EndsName u → first_run (is_kept Android) (n ++ u) ≡ n
front_of n u h x = ap (λ z. first_run (is_kept Android) (n ++ z)) x.whole ∙ first_run-append (is_kept Android) n (x.first ∷ x.further) h (ap not x.ends)

rest_of : (n u : List ℕ) → list_all (is_kept Android) n ≡ true → EndsName u → behind_run (is_kept Android) (n ++ u) ≡ u
rest_of n u h x = ap (λ z. behind_run (is_kept Android) (n ++ z)) x.whole ∙ behind_run-append (is_kept Android) n (x.first ∷ x.further) h (ap not x.ends) ∙ sym x.whole

names_once : (n m u v : List ℕ) → is_identifier n ≡ true → is_identifier m ≡ true → EndsName u → EndsName v → n ++ u ≡ m ++ v → (n ≡ m) × (u ≡ v)
names_once n m u v h k x y e = (
  sym (front_of n u (kept_name n h) x) ∙ ap (first_run (is_kept Android)) e ∙ front_of m v (kept_name m k) y,
  sym (rest_of n u (kept_name n h) x) ∙ ap (behind_run (is_kept Android)) e ∙ rest_of m v (kept_name m k) y,
)

-- what stands after the end, a blank, a comment and a constant
no_blank : (c d : ℕ) → is_blank c ≡ true → c ≡ d → is_blank d ≡ false → ⊥
no_blank c d h e k = let same : is_blank d ≡ true = subst (λ z. is_blank z ≡ true) e h in let never : false ≡ true = sym k ∙ same in cc

at_end : {t : List ℕ} {ws : Values} → Block t ws → t ≡ [] → [] ≡ ws
at_end (ended t f) e = refl
at_end (blank_byte t c r ws f h x) e = cc
at_end (comment t inside r ws f h x) e = cc
at_end (constant t name u r content ws f h says x) e = cc

at_blank : {t : List ℕ} {ws : Values} → Block t ws → (c : ℕ) (u : List ℕ) → t ≡ c ∷ u → is_blank c ≡ true → Block u ws
at_blank (ended t f) c u e h = cc
at_blank (blank_byte t d r ws f k x) c u e h = let same : r ≡ u = cc in let P : List ℕ → Type 0 = λ z. Block z ws in subst P same x
at_blank (comment t inside r ws f k x) c u e h = let same : c ≡ 47 = cc in absurd (no_blank c 47 h same refl)
at_blank (constant t name v r content ws f k says x) c u e h = let same : c ≡ 112 = cc in absurd (no_blank c 112 h same refl)

at_comment : {t : List ℕ} {ws : Values} → Block t ws → (inside r : List ℕ) → t ≡ codes "//" ++ (inside ++ (codes "\n" ++ r)) → list_all no_newline inside ≡ true → Block r ws
at_comment (ended t f) inside r e h = cc
at_comment (blank_byte t c q ws f k x) inside r e h = let same : c ≡ 47 = cc in absurd (no_blank c 47 k same refl)
at_comment (comment t within q ws f k x) inside r e h =
    let inner : within ++ (10 ∷ q) ≡ inside ++ (10 ∷ r) = cc in
    let (insides, rests) = runs_once no_newline within inside 10 q r k h refl inner in
    let P : List ℕ → Type 0 = λ z. Block z ws in subst P rests x
at_comment (constant t name u q content ws f k says x) inside r e h = absurd (apart is_solidus t t refl (ap is_solidus e) (ap is_solidus f))

-- two constants before others
record AreSameConstants (name other : List ℕ) (c d : Content) (r q : List ℕ) : Type 0 where
  names : name ≡ other
  contents : c ≡ d
  rests : r ≡ q

behind_words : (s t : List ℕ) → codes "public static let " ++ s ≡ codes "public static let " ++ t → s ≡ t
behind_words s t e = append_cancel_left (codes "public static let ") s t e

constants_once : (name other u v r q : List ℕ) (c d : Content) → is_identifier name ≡ true → is_identifier other ≡ true → SaysContent u c r → SaysContent v d q → name ++ u ≡ other ++ v
    → AreSameConstants name other c d r q
constants_once name other u v r q c d h k says was e =
    let (names, behind) = names_once name other u v h k (ends_name says) (ends_name was) e in
    let one = says_once says was behind in
    record { names = names; contents = one.contents; rests = one.rests }

at_constant : {t : List ℕ} {ws : Values} → Block t ws → (name u r : List ℕ) (content : Content) → t ≡ codes "public static let " ++ (name ++ u) → is_identifier name ≡ true
    → SaysContent u content r → (vs : Values) × (ws ≡ (name, content) ∷ vs) × Block r vs
at_constant (ended t f) name u r content e h says = cc
at_constant (blank_byte t c q ws f k x) name u r content e h says = let same : c ≡ 112 = cc in absurd (no_blank c 112 k same refl)
at_constant (comment t inside q ws f k x) name u r content e h says = absurd (apart is_solidus t t refl (ap is_solidus f) (ap is_solidus e))
at_constant (constant t other v q said ws f k was x) name u r content e h says =
    let one = constants_once other name v u q r said content k h was says (behind_words (other ++ v) (name ++ u) (sym f ∙ e)) in
    let P : List ℕ → Type 0 = λ z. Block z ws in
    (ws, ap (λ n. (n, said) ∷ ws) one.names ∙ ap (λ c. (name, c) ∷ ws) one.contents, subst P one.rests x)

pub block_once : {t : List ℕ} {vs : Values} → Block t vs → {ws : Values} → Block t ws → vs ≡ ws
block_once (ended t e) y = at_end y e
block_once (blank_byte t c r vs e h x) y = block_once x (at_blank y c r e h)
block_once (comment t inside r vs e h x) y = block_once x (at_comment y inside r e h)
block_once (constant t name u r content vs e h says x) y =
    let (others, same, b) = at_constant y name u r content e h says in ap (λ z. (name, content) ∷ z) (block_once x b) ∙ sym same

same_inside : (s t : List ℕ) → head ++ (s ++ foot) ≡ head ++ (t ++ foot) → s ≡ t
same_inside s t e = append_cancel_right s t foot (append_cancel_left head (s ++ foot) (t ++ foot) e)

pub read_once : (bytes : List ℕ) (vs ws : Values) → Reads bytes vs → Reads bytes ws → vs ≡ ws
read_once bytes vs ws x y =
    let same = same_inside x.inside y.inside (sym x.frame ∙ y.frame) in
    let P : List ℕ → Type 0 = λ z. Block z vs in
    block_once (subst P same x.block) y.block
