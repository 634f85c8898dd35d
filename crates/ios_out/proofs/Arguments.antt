-- Arguments are read as they are spelled.
use Rattle.std.proofs.Common.{◌≡◌, ℕ, Bool, true, List, [], ◌∷◌, ◌++◌, refl, codes, arith}
use Rattle.std.specs.Char.{is_ascii_alphabetic, is_ascii_alphanumeric}
use Rattle.std.specs.List.{list_all, AllByRecursion}
use Rattle.std.proofs.lemmas.Bool.Decides.{nat_tests}
use Rattle.dec_fix.proofs.Again.{both}
use Rattle.transforms.specs.Runs.{PassesNumbers}
use Rattle.transforms.proofs.RunsAreFirst.{all-append}
use Rattle.transforms.proofs.Spelled.{both as together}
use Rattle.ios_out.specs.Constant.{Argument, labelled, bare}
use Rattle.ios_out.specs.Reading.{is_swift_word, no_comma, no_bracket, IsArgument, with_label, without, AreArguments, last, more}
use Rattle.ios_out.specs.Spelling.{quantity_text, argument_text, arguments_text}
use Rattle.ios_out.proofs.Numbers.{IsFineQuantity, quantity_read, quantity_passes}

abbrev pub IsFineArgument : Argument → Type 0
IsFineArgument (labelled label q) = (is_swift_word label ≡ true) × IsFineQuantity q
IsFineArgument (bare q) = IsFineQuantity q

-- a test that the bytes of arguments pass
pub record PassesMore (p : ℕ → Bool) : Type 0 where
  pub numbers : PassesNumbers p
  pub letter : (c : ℕ) → is_ascii_alphanumeric c ≡ true → p c ≡ true
  pub solidus : p 47 ≡ true
  pub colon : p 58 ≡ true
  pub blank : p 32 ≡ true

letter_or_digit : (c : ℕ) → is_ascii_alphabetic c ≡ true → is_ascii_alphanumeric c ≡ true
letter_or_digit c h = grind (arith, nat_tests)

pub word_letters : (w : List ℕ) → is_swift_word w ≡ true → list_all is_ascii_alphanumeric w ≡ true
word_letters [] h = cc
word_letters (c ∷ w) h =
    let l = both (is_ascii_alphabetic c) (list_all is_ascii_alphanumeric w) h in together (is_ascii_alphanumeric c) (list_all is_ascii_alphanumeric w) (letter_or_digit c l.0) l.1

module _ (p : ℕ → Bool) (passes : PassesMore p) where
  letters_pass : (w : List ℕ) → list_all is_ascii_alphanumeric w ≡ true → list_all p w ≡ true
  letters_pass [] h = refl
  letters_pass (c ∷ w) h =
      let l = both (is_ascii_alphanumeric c) (list_all is_ascii_alphanumeric w) h in together (p c) (list_all p w) (passes.letter c l.0) (letters_pass w l.1)

  pub argument_passes : (a : Argument) → IsFineArgument a → list_all p (argument_text a) ≡ true
  argument_passes (labelled label q) h =
      let inside : list_all p (quantity_text q) ≡ true = quantity_passes p passes.numbers passes.solidus q h.1 in
      all-append p label (codes ": " ++ quantity_text q) (letters_pass label (word_letters label h.0)) (rw (passes.colon, passes.blank) inside)
  argument_passes (bare q) h = quantity_passes p passes.numbers passes.solidus q h

  pub arguments_pass : p 44 ≡ true → (args : List Argument) → AllByRecursion IsFineArgument args → list_all p (arguments_text args) ≡ true
  arguments_pass comma [] h = refl
  arguments_pass comma (a ∷ []) h = argument_passes a h.0
  arguments_pass comma (a ∷ b ∷ args) h =
      let rest : list_all p (arguments_text (b ∷ args)) ≡ true = arguments_pass comma (b ∷ args) h.1 in
      all-append p (argument_text a) (codes ", " ++ arguments_text (b ∷ args)) (argument_passes a h.0) (rw (comma, passes.blank) rest)

comma_passes : PassesMore no_comma
comma_passes = record {
  numbers = record { digit = λ c h. grind (arith, nat_tests); minus = refl; point = refl };
  letter = λ c h. grind (arith, nat_tests);
  solidus = refl;
  colon = refl;
  blank = refl;
}

bracket_passes : PassesMore no_bracket
bracket_passes = record {
  numbers = record { digit = λ c h. grind (arith, nat_tests); minus = refl; point = refl };
  letter = λ c h. grind (arith, nat_tests);
  solidus = refl;
  colon = refl;
  blank = refl;
}

pub in_brackets : (args : List Argument) → AllByRecursion IsFineArgument args → list_all no_bracket (arguments_text args) ≡ true
in_brackets args h = arguments_pass no_bracket bracket_passes refl args h

argument_read : (a : Argument) → IsFineArgument a → IsArgument (argument_text a) a
argument_read (labelled label q) h = with_label (argument_text (labelled label q)) label (quantity_text q) q refl h.0 (quantity_read q h.1)
argument_read (bare q) h = without (quantity_text q) q (quantity_read q h)

pub arguments_read : (a : Argument) (args : List Argument) → AllByRecursion IsFineArgument (a ∷ args) → AreArguments (arguments_text (a ∷ args)) (a ∷ args)
arguments_read a [] h = last (argument_text a) a (argument_passes no_comma comma_passes a h.0) (argument_read a h.0)
arguments_read a (b ∷ args) h = more (arguments_text (a ∷ b ∷ args)) (argument_text a) (arguments_text (b ∷ args)) a (b ∷ args) refl
    (argument_passes no_comma comma_passes a h.0) (argument_read a h.0) (arguments_read b args h.1)
