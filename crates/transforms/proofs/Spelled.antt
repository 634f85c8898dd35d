-- Spelled names hold only what names can hold, and are not empty where the names are not.
use Rattle.std.proofs.Common.{◌≡◌, ap₂, append-nil, ℕ, ◌/◌, ◌%◌, ◌^◌, ◌<◌, ◌==◌, ◌&&◌, ◌||◌, zero, suc, Bool, true, false, List, [], ◌∷◌, ◌++◌, length, length-append, map, nat_lt, refl, sym, ap, ◌∙◌, arith, subst, inl, inr, codes, get_or}
use Rattle.std.proofs.lemmas.Bool.Decides.{nat_tests}
use Rattle.std.proofs.lemmas.List.Elements.{All-head}
use Rattle.std.proofs.lemmas.List.Folds.{list_all-append}
use Rattle.std.proofs.lemmas.Str.{encodes-chars, chars-IsAscii}
use Rattle.std.specs.Char.{digit_char, is_ascii_alphabetic, is_ascii_alphanumeric}
use Rattle.std.specs.List.{flat_map, join_with_byte, list_all}
use Rattle.std.specs.Prelude.{if◌then◌else◌, nat_le, not, encode_utf8_all, ◌⊎◌}
use Rattle.std.specs.Str.{bytes_eq, chars, IsUtf8}
use Rattle.name_path.specs.Names.{IsName, AreNames, IsTokenPath, root_name}
use Rattle.transforms.specs.Config.{is_prefix}
use Rattle.transforms.specs.Hexadecimal.{last_hex_digits, hex_number}
use Rattle.transforms.specs.PlatformName.{joint, is_kept, spelled_char, spelled, or_root, pieces, without_root, joined, begins_with_digit, is_property, is_identifier}
use Rattle.transforms.specs.inner.Joined.{joined_names, HasFirst}
use Rattle.transforms.specs.declared.platform.Platform.{Platform}
use Rattle.transforms.specs.declared.platform.Platform.TheVariants.{Css, Android, Swift}

pub both : (a b : Bool) → a ≡ true → b ≡ true → (a && b) ≡ true
both a b p q = rw (p, q) refl

pub first_of : (a b : Bool) → (a && b) ≡ true → a ≡ true
first_of true b h = refl
first_of false b h = cc

pub second_of : (a b : Bool) → (a && b) ≡ true → b ≡ true
second_of true b h = h
second_of false b h = cc

alphanumeric_is_kept : (p : Platform) (c : ℕ) → is_ascii_alphanumeric c ≡ true → is_kept p c ≡ true
alphanumeric_is_kept p c h = rw h refl

joint_is_kept : (p : Platform) → is_kept p (joint p) ≡ true
joint_is_kept Css = refl
joint_is_kept Android = refl
joint_is_kept Swift = refl

digit_is_alphanumeric : (d : ℕ) → d < 16 → is_ascii_alphanumeric (digit_char d) ≡ true
digit_is_alphanumeric d h = grind (arith, nat_tests)

digit_is_kept : (p : Platform) (n : ℕ) → is_kept p (digit_char (n % 16)) ≡ true
digit_is_kept p n = alphanumeric_is_kept p (digit_char (n % 16)) (digit_is_alphanumeric (n % 16) (omega arith))

last_digits_are_kept : (p : Platform) (k n : ℕ) → list_all (is_kept p) (last_hex_digits k n) ≡ true
last_digits_are_kept p zero n = refl
last_digits_are_kept p (suc k) n = both _ _ (digit_is_kept p (n / 16 ^ k)) (last_digits_are_kept p k n)

one_of_three : (p : Platform) (n : ℕ) (a b : Bool)
    → list_all (is_kept p) (if a then last_hex_digits 4 n else if b then last_hex_digits 5 n else last_hex_digits 6 n) ≡ true
one_of_three p n true b = last_digits_are_kept p 4 n
one_of_three p n false true = last_digits_are_kept p 5 n
one_of_three p n false false = last_digits_are_kept p 6 n

kept_or_joint : (p : Platform) (c : ℕ) (b : Bool) → is_kept p c ≡ b → is_kept p (if b then c else joint p) ≡ true
kept_or_joint p c true h = h
kept_or_joint p c false h = joint_is_kept p

either_way : (p : Platform) (c : ℕ) (b : Bool)
    → list_all (is_kept p) (if b then (if is_kept p c then c else joint p) ∷ [] else 117 ∷ hex_number c) ≡ true
either_way p c true = both _ _ (kept_or_joint p c (is_kept p c) refl) refl
either_way p c false = one_of_three p c (nat_lt c (16 ^ 4)) (nat_lt c (16 ^ 5))

chars_are_kept : (p : Platform) (cs : List ℕ) → list_all (is_kept p) (flat_map (spelled_char p) cs) ≡ true
chars_are_kept p [] = refl
chars_are_kept p (c ∷ cs) = list_all-append (is_kept p) (spelled_char p c) (flat_map (spelled_char p) cs) ∙ both _ _ (either_way p c (nat_lt c 128)) (chars_are_kept p cs)

names_are_kept : (p : Platform) (names : List (List ℕ)) → list_all (list_all (is_kept p)) (map (spelled p) names) ≡ true
names_are_kept p [] = refl
names_are_kept p (name ∷ names) = both _ _ (chars_are_kept p (chars name)) (names_are_kept p names)

join_is_kept : (p : Platform) (texts : List (List ℕ)) → list_all (list_all (is_kept p)) texts ≡ true → list_all (is_kept p) (join_with_byte (joint p) texts) ≡ true
join_is_kept p [] h = refl
join_is_kept p (x ∷ []) h = first_of _ _ h
join_is_kept p (x ∷ y ∷ ys) h =
    list_all-append (is_kept p) x (joint p ∷ join_with_byte (joint p) (y ∷ ys))
    ∙ both _ _ (first_of _ _ h) (both _ _ (joint_is_kept p) (join_is_kept p (y ∷ ys) (second_of _ _ h)))

rest_is_kept : (p : Platform) (cs : List ℕ) → list_all is_ascii_alphanumeric cs ≡ true → list_all (is_kept p) cs ≡ true
rest_is_kept p [] h = refl
rest_is_kept p (c ∷ cs) h = both _ _ (alphanumeric_is_kept p c (first_of _ _ h)) (rest_is_kept p cs (second_of _ _ h))

alphabetic_is_alphanumeric : (c : ℕ) → is_ascii_alphabetic c ≡ true → is_ascii_alphanumeric c ≡ true
alphabetic_is_alphanumeric c h = grind (arith, nat_tests)

prefix_is_kept : (p : Platform) (prefix : List ℕ) → is_prefix prefix ≡ true → list_all (is_kept p) prefix ≡ true
prefix_is_kept p [] h = refl
prefix_is_kept p (c ∷ cs) h =
    both _ _ (alphanumeric_is_kept p c (alphabetic_is_alphanumeric c (first_of _ _ h)))
    (rest_is_kept p cs (first_of (list_all is_ascii_alphanumeric cs) (nat_le (length cs) 31) (second_of (is_ascii_alphabetic c) _ h)))

-- each character of a joined name can stand in a name
pub joined_is_kept : (p : Platform) (prefix : List ℕ) (path : List (List ℕ)) → is_prefix prefix ≡ true → list_all (is_kept p) (joined p prefix path) ≡ true
joined_is_kept p [] path h = join_is_kept p (pieces p [] path) (names_are_kept p (or_root (without_root path)))
joined_is_kept p (c ∷ cs) path h = join_is_kept p (pieces p (c ∷ cs) path) (both _ _ (prefix_is_kept p (c ∷ cs) h) (names_are_kept p (or_root (without_root path))))

some_char : (p : Platform) (c : ℕ) (b : Bool) → 0 < length (if b then (if is_kept p c then c else joint p) ∷ [] else 117 ∷ hex_number c)
some_char p c true = omega arith
some_char p c false = omega arith

chars_are_some : (p : Platform) (cs : List ℕ) → 0 < length cs → 0 < length (flat_map (spelled_char p) cs)
chars_are_some p [] h = h
chars_are_some p (c ∷ cs) h = omega (arith, some_char p c (nat_lt c 128), length-append (spelled_char p c) (flat_map (spelled_char p) cs))

pub spelled_is_some : (p : Platform) (name : List ℕ) → IsUtf8 name → 0 < length name → 0 < length (spelled p name)
spelled_is_some p name utf8 h = chars_are_some p (chars name) (some (chars name) (encodes-chars name utf8))
  where
    some : (cs : List ℕ) → encode_utf8_all cs ≡ name → 0 < length cs
    some [] e = absurd (omega (arith, ap length e))
    some (c ∷ cs) e = omega arith

pub first_in_join : (c : ℕ) (x : List ℕ) (xs : List (List ℕ)) → 0 < length x → 0 < length (join_with_byte c (x ∷ xs))
first_in_join c x [] h = h
first_in_join c x (y ∷ ys) h = omega (arith, length-append x (c ∷ join_with_byte c (y ∷ ys)))

pub root_is_some : (p : Platform) → 0 < length (joined_names p [])
unfolding chars
root_is_some p = omega arith

-- without a last `$root`, the path of a token begins with no empty name
pub token_has_first : (path : List (List ℕ)) → IsTokenPath path → HasFirst (without_root path)
token_has_first path token = subst (λ names. HasFirst (without_root names)) (sym token.whole) (begins token.front token.last token.names token.ends)
  where
    alone : (last : List ℕ) → IsName last ⊎ (last ≡ root_name) → (b : Bool) → bytes_eq last root_name ≡ b → HasFirst (if b then [] else last ∷ [])
    alone last ends true e = tt
    alone last (inl name) false e = name.some
    alone last (inr is) false e = cc (ap (λ l. bytes_eq l root_name) is)

    kept : (name next : List ℕ) (rest : List (List ℕ)) → IsName name → HasFirst (without_root (name ∷ next ∷ rest))
    kept name next rest is = is.some

    begins : (front : List (List ℕ)) (last : List ℕ) → AreNames front → IsName last ⊎ (last ≡ root_name) → HasFirst (without_root (front ++ last ∷ []))
    begins [] last names ends = alone last ends (bytes_eq last root_name) refl
    begins (name ∷ []) last names ends = kept name last [] (All-head IsName name [] names)
    begins (name ∷ next ∷ rest) last names ends = kept name next (rest ++ last ∷ []) (All-head IsName name (next ∷ rest) names)

kept_is_ascii : (p : Platform) (c : ℕ) → is_kept p c ≡ true → c < 128
kept_is_ascii Css c h = grind (arith, nat_tests)
kept_is_ascii Android c h = grind (arith, nat_tests)
kept_is_ascii Swift c h = grind (arith, nat_tests)

kept_all_ascii : (p : Platform) (cs : List ℕ) → list_all (is_kept p) cs ≡ true → (i : ℕ) → get_or cs i 0 < 128
kept_all_ascii p [] h i = omega arith
kept_all_ascii p (c ∷ cs) h zero = kept_is_ascii p c (first_of _ _ h)
kept_all_ascii p (c ∷ cs) h (suc i) = kept_all_ascii p cs (second_of _ _ h) i

small_test : (c : ℕ) → c < 128 → nat_lt c 128 ≡ true
small_test c h = grind (arith, nat_tests)

kept_char : (p : Platform) (c : ℕ) → is_kept p c ≡ true → spelled_char p c ≡ c ∷ []
kept_char p c h = let small = small_test c (kept_is_ascii p c h) in rw (small, h) refl

kept_chars : (p : Platform) (cs : List ℕ) → list_all (is_kept p) cs ≡ true → flat_map (spelled_char p) cs ≡ cs
kept_chars p [] h = refl
kept_chars p (c ∷ cs) h = ap₂ (λ (xs ys : List ℕ). xs ++ ys) (kept_char p c (first_of _ _ h)) (kept_chars p cs (second_of _ _ h))

-- a name whose bytes can all stand in a name is spelled as it is
pub kept_whole : (p : Platform) (name : List ℕ) → list_all (is_kept p) name ≡ true → spelled p name ≡ name
kept_whole p name h = ap (flat_map (spelled_char p)) (chars-IsAscii name (kept_all_ascii p name h)) ∙ kept_chars p name h

-- a last name that is `$root` is left out, and no other
pub last_left_out : (front : List (List ℕ)) (last : List ℕ) → bytes_eq last root_name ≡ true → without_root (front ++ last ∷ []) ≡ front
last_left_out [] last e = rw e refl
last_left_out (name ∷ []) last e = rw e refl
last_left_out (name ∷ next ∷ rest) last e = ap (λ (names : List (List ℕ)). name ∷ names) (last_left_out (next ∷ rest) last e)

pub last_stays : (front : List (List ℕ)) (last : List ℕ) → bytes_eq last root_name ≡ false → without_root (front ++ last ∷ []) ≡ front ++ last ∷ []
last_stays [] last e = rw e refl
last_stays (name ∷ []) last e = rw e refl
last_stays (name ∷ next ∷ rest) last e = ap (λ (names : List (List ℕ)). name ∷ names) (last_stays (next ∷ rest) last e)

-- no names are spelled `root`
pub root_joined : (p : Platform) → joined_names p [] ≡ codes "root"
unfolding chars
root_joined p = refl

-- the first name, and the others after joints
pub first_joined : (p : Platform) (first : List ℕ) (rest : List (List ℕ)) → joined_names p (first ∷ rest) ≡ spelled p first ++ flat_map (λ name. joint p ∷ spelled p name) rest
first_joined p first [] = sym (append-nil (spelled p first))
first_joined p first (name ∷ names) = ap (λ (cs : List ℕ). spelled p first ++ (joint p ∷ cs)) (first_joined p name names)

-- a token's name is not empty
pub joined_is_some : (p : Platform) (prefix : List ℕ) (path : List (List ℕ)) → (HasFirst (without_root path) → 0 < length (joined_names p (without_root path)))
    → IsTokenPath path → 0 < length (joined p prefix path)
joined_is_some p [] path names token = names (token_has_first path token)
joined_is_some p (c ∷ cs) path names token = first_in_join (joint p) (c ∷ cs) (map (spelled p) (or_root (without_root path))) (omega arith)

pub is_property_behind : (name : List ℕ) → 0 < length name → list_all (is_kept Css) name ≡ true → is_property (codes "--" ++ name) ≡ true
is_property_behind name some kept = both _ _ refl (both _ _ (longer (length name) some) kept)
  where
    longer : (n : ℕ) → 0 < n → nat_lt 2 (suc (suc n)) ≡ true
    longer n h = grind (arith, nat_tests)

elsewhere : (p : Platform) → joint p ≡ 95 → (name : List ℕ) → list_all (is_kept p) name ≡ true → list_all (is_kept Android) name ≡ true
elsewhere p e name h = subst (λ j. list_all (λ c. is_ascii_alphanumeric c || ((c == 95) || (c == j))) name ≡ true) e h

pub is_identifier_behind : (p : Platform) (name : List ℕ) → joint p ≡ 95 → list_all (is_kept p) name ≡ true → is_identifier (95 ∷ name) ≡ true
is_identifier_behind p name e kept = both (nat_lt 0 (length (95 ∷ name))) _ (positive (length name)) (elsewhere p e name kept)
  where
    positive : (n : ℕ) → nat_lt 0 (suc n) ≡ true
    positive n = grind (arith, nat_tests)

pub is_identifier_alone : (p : Platform) (name : List ℕ) → joint p ≡ 95 → begins_with_digit name ≡ false → 0 < length name → list_all (is_kept p) name ≡ true
    → is_identifier name ≡ true
is_identifier_alone p name e digit some kept = both _ _ (longer (length name) some) (both _ _ (ap not digit) (elsewhere p e name kept))
  where
    longer : (n : ℕ) → 0 < n → nat_lt 0 n ≡ true
    longer n h = grind (arith, nat_tests)

pub nothing : {A : Type 0} (xs : List A) → length xs ≡ 0 → xs ≡ []
nothing [] e = refl
nothing (x ∷ xs) e = absurd (omega arith)
