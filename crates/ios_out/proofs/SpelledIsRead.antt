-- What is spelled is read as it is.
use Rattle.std.proofs.Common.{◌≡◌, ℕ, true, List, [], ◌∷◌, ◌++◌, flat_map, refl, ◌∙◌, ap, append_assoc, codes, arith}
use Rattle.std.specs.List.{list_all, AllByRecursion}
use Rattle.std.proofs.lemmas.Bool.Decides.{nat_tests}
use Rattle.transforms.specs.PlatformName.{is_kept, is_identifier}
use Rattle.transforms.specs.declared.platform.Platform.TheVariants.{Android}
use Rattle.dec_fix.specs.Decimal.{Decimal, IsDec}
use Rattle.dec_fix.specs.Writing.{point_spelling}
use Rattle.dec_fix.proofs.Again.{both}
use Rattle.transforms.specs.Quoted.{escaped_character}
use Rattle.transforms.specs.Runs.{PassesNumbers}
use Rattle.transforms.proofs.Endings.{kept_name}
use Rattle.transforms.proofs.QuotedReadsBack.{string_again}
use Rattle.transforms.proofs.Spelled.{both as together}
use Rattle.ios_out.specs.Constant.{Argument, Content, number, string, made, Values}
use Rattle.ios_out.specs.Reading.{is_swift_word, no_newline, SaysContent, of_number, of_string, of_arguments, Block, ended, blank_byte, comment, constant}
use Rattle.ios_out.specs.Spelling.{arguments_text, content_text, line_text, omitted_text, body_text}
use Rattle.ios_out.proofs.Numbers.{number_passes, number_read}
use Rattle.ios_out.proofs.Arguments.{IsFineArgument, in_brackets, arguments_read}

-- contents that can be spelled
pub data IsFine : Content → Type 0 where
  fine_number : (type_name : List ℕ) (d : Decimal) → is_swift_word type_name ≡ true → IsDec d → IsFine (number type_name d)
  fine_string : (type_name text : List ℕ) → is_swift_word type_name ≡ true → IsFine (string type_name text)
  fine_made : (maker : List ℕ) (a : Argument) (args : List Argument) → is_swift_word maker ≡ true → AllByRecursion IsFineArgument (a ∷ args) → IsFine (made maker (a ∷ args))

-- a name and a content that are read as they are spelled
pub record IsSpellable (v : List ℕ × Content) : Type 0 where
  pub named : is_identifier v.0 ≡ true
  pub fine : IsFine v.1

newline_passes : PassesNumbers no_newline
newline_passes = record { digit = λ c h. grind (arith, nat_tests); minus = refl; point = refl }

-- contents before a line's end and what follows
number_says : (n : List ℕ) (d : Decimal) (t : List ℕ) → is_swift_word n ≡ true → IsDec d → SaysContent (content_text (number n d) ++ (10 ∷ t)) (number n d) t
number_says n d t w h =
    of_number (content_text (number n d) ++ (10 ∷ t)) n (point_spelling d) t d (ap (λ x. codes ": " ++ x) (append_assoc n (codes " = " ++ point_spelling d) (10 ∷ t)))
    w (number_passes no_newline newline_passes d h) (number_read d h)

string_says : (n s t : List ℕ) → is_swift_word n ≡ true → SaysContent (content_text (string n s) ++ (10 ∷ t)) (string n s) t
string_says n s t w =
    let inside = flat_map escaped_character s in
    of_string (content_text (string n s) ++ (10 ∷ t)) n (inside ++ (34 ∷ 10 ∷ t)) s t
    (ap (λ x. codes ": " ++ x) (append_assoc n (codes " = \"" ++ (inside ++ codes "\"")) (10 ∷ t) ∙ ap (λ x. n ++ (codes " = \"" ++ x)) (append_assoc inside (34 ∷ []) (10 ∷ t))))
    w (string_again s (10 ∷ t))

made_says : (m : List ℕ) (a : Argument) (args : List Argument) (t : List ℕ) → is_swift_word m ≡ true → AllByRecursion IsFineArgument (a ∷ args)
    → SaysContent (content_text (made m (a ∷ args)) ++ (10 ∷ t)) (made m (a ∷ args)) t
made_says m a args t w h =
    let inside = arguments_text (a ∷ args) in
    of_arguments (content_text (made m (a ∷ args)) ++ (10 ∷ t)) m inside t (a ∷ args)
    (ap (λ x. codes " = " ++ x) (append_assoc m (codes "(" ++ (inside ++ codes ")")) (10 ∷ t) ∙ ap (λ x. m ++ (codes "(" ++ x)) (append_assoc inside (41 ∷ []) (10 ∷ t))))
    w (in_brackets (a ∷ args) h) (arguments_read a args h)

content_says : {c : Content} → IsFine c → (t : List ℕ) → SaysContent (content_text c ++ (10 ∷ t)) c t
content_says (fine_number n d w h) t = number_says n d t w h
content_says (fine_string n s w) t = string_says n s t w
content_says (fine_made m a args w h) t = made_says m a args t w h

-- lines
line_read : (v : List ℕ × Content) (t : List ℕ) (ws : Values) → IsSpellable v → Block t ws → Block (line_text v ++ t) (v ∷ ws)
line_read v t ws h b =
    let text = codes "public static let " ++ (v.0 ++ (content_text v.1 ++ codes "\n")) in
    let u = content_text v.1 ++ (10 ∷ t) in
    let regroup : text ++ t ≡ codes "public static let " ++ (v.0 ++ u) =
    ap (λ x. codes "public static let " ++ x) (append_assoc v.0 (content_text v.1 ++ codes "\n") t ∙ ap (λ x. v.0 ++ x) (append_assoc (content_text v.1) (codes "\n") t)) in
    let whole : Block (text ++ t) (v ∷ ws) = constant (text ++ t) v.0 u t v.1 ws regroup h.named (content_says h.fine t) b in
    blank_byte _ 32 (32 ∷ (text ++ t)) (v ∷ ws) refl refl (blank_byte _ 32 (text ++ t) (v ∷ ws) refl refl whole)

lines_read : (vs : Values) → AllByRecursion IsSpellable vs → Block (flat_map line_text vs) vs
lines_read [] h = ended [] refl
lines_read (v ∷ vs) h = line_read v (flat_map line_text vs) vs h.0 (lines_read vs h.1)

-- a comment
named_in_line : (n : List ℕ) → list_all (is_kept Android) n ≡ true → list_all no_newline n ≡ true
named_in_line [] h = refl
named_in_line (c ∷ n) h =
    let l = both (is_kept Android c) (list_all (is_kept Android) n) h in let a : no_newline c ≡ true = grind (arith, l.0) in
    together (no_newline c) (list_all no_newline n) a (named_in_line n l.1)

omitted_read : (n : List ℕ) → is_identifier n ≡ true → Block (omitted_text n) []
omitted_read n h =
    let inside = codes " omitted " ++ n in
    let whole = codes "//" ++ (inside ++ codes "\n") in
    blank_byte _ 32 (32 ∷ whole) [] refl refl (blank_byte _ 32 whole [] refl refl (comment whole inside [] [] refl (named_in_line n (kept_name n h)) (ended [] refl)))

pub body_read : (n : List ℕ) (vs : Values) → is_identifier n ≡ true → AllByRecursion IsSpellable vs → Block (body_text n vs) vs
body_read n [] h all = omitted_read n h
body_read n (v ∷ vs) h all = lines_read (v ∷ vs) all
