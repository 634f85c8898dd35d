-- The characters that mean something by themselves in texts, each by its code.
use Rattle.std.specs.Prelude.{ℕ}

abbrev pub newline : ℕ
newline = 10

abbrev pub blank : ℕ
blank = 32

abbrev pub quote : ℕ
quote = 34

abbrev pub number_sign : ℕ
number_sign = 35

abbrev pub dollar_sign : ℕ
dollar_sign = 36

abbrev pub percent_sign : ℕ
percent_sign = 37

abbrev pub left_bracket : ℕ
left_bracket = 40

abbrev pub right_bracket : ℕ
right_bracket = 41

abbrev pub asterisk : ℕ
asterisk = 42

abbrev pub plus_sign : ℕ
plus_sign = 43

abbrev pub comma_sign : ℕ
comma_sign = 44

abbrev pub hyphen : ℕ
hyphen = 45

abbrev pub full_stop : ℕ
full_stop = 46

abbrev pub solidus : ℕ
solidus = 47

abbrev pub digit_zero : ℕ
digit_zero = 48

abbrev pub colon_sign : ℕ
colon_sign = 58

abbrev pub semicolon : ℕ
semicolon = 59

abbrev pub capital_e : ℕ
capital_e = 69

abbrev pub backslash : ℕ
backslash = 92

abbrev pub low_line : ℕ
low_line = 95

abbrev pub small_e : ℕ
small_e = 101

abbrev pub left_brace : ℕ
left_brace = 123

abbrev pub right_brace : ℕ
right_brace = 125

abbrev pub tilde : ℕ
tilde = 126
