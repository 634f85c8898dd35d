-- What a text of UTF-8 says has strings and names of UTF-8, and no list in it has more parts than the text has bytes.
use Rattle.std.proofs.Common.{◌≡◌, ℕ, suc, ◌<◌, ◌≤◌, List, [], ◌∷◌, ◌++◌, length, true, refl, subst, arith}
use Rattle.std.specs.Str.{IsAscii, IsUtf8}
use Rattle.grammar.specs.Grammar.{Rule, Reads, one_byte, both, by_name}
use Rattle.grammar.proofs.Steps.{no_longer}
use Rattle.json_span.specs.FitsIn.{FitsIn, ItemsFitIn, MembersFitIn}
use Rattle.json_span.specs.Grammar.{Name, one}
use Rattle.json_span.specs.Plain.{PlainValue, Plains, PlainMembers, plains_in, plain_entries_in}
use Rattle.json_span.specs.Reading.{StringAt}
use Rattle.json_span.specs.Says.{Says, says_null, says_false, says_true, says_number, says_string, says_list, says_object, SaysItems, says_no_item, says_items, SaysMoreItems, says_no_more_item, says_more_items, SaysMember, says_member, SaysMembers, says_no_member, says_members, SaysMoreMembers, says_no_more_member, says_more_members, SaysText}
use Rattle.json_span.specs.Predictive.{rules, symbol}
use Rattle.json_span.proofs.Boundaries.{is_ascii, ascii_front}
use Rattle.json_span.proofs.StringsAreUtf8.{behind_ascii, string_utf8}

-- what follows a reading is UTF-8, and no longer than the text
abbrev Behind : List ℕ → List ℕ → Type 0
Behind t u = IsUtf8 u × (length u ≤ length t)

behind_front : (k u : List ℕ) → IsAscii k → IsUtf8 (k ++ u) → IsUtf8 u
behind_front [] u a utf = utf
behind_front (c ∷ k) u a utf = behind_front k u (λ i. a (suc i)) (behind_ascii c (k ++ u) (a 0) utf)

past : {r : Rule Name} {t u : List ℕ} → Reads rules r t u → is_ascii r ≡ true → IsUtf8 t → Behind t u
past {u = u} x e utf = let (k, same, ascii) = ascii_front x e in (behind_front k u ascii (subst IsUtf8 same utf), no_longer x)

past_string : {t s u : List ℕ} → StringAt t s u → IsUtf8 t → IsUtf8 s × Behind t u
past_string x utf = let k = string_utf8 x utf in (k.0, (k.1, no_longer x.reads))

past_token : {c : ℕ} {t u : List ℕ} → Reads rules (symbol c) t u → length u < length t
past_token (both (one_byte h) w) = omega (arith, no_longer w)

past_bracket : {c : ℕ} {t u : List ℕ} → Reads rules (one c) t u → length u < length t
past_bracket (one_byte h) = omega arith

module _ {K : Type 0} (num : List ℕ → K) (n : ℕ) where
  mutual
    says_fits : {t u : List ℕ} {v : PlainValue K} → Says num t v u → length t ≤ n → IsUtf8 t → FitsIn n v × Behind t u
    says_fits (says_null x) h utf = (tt, past x refl utf)
    says_fits (says_false x) h utf = (tt, past x refl utf)
    says_fits (says_true x) h utf = (tt, past x refl utf)
    says_fits (says_number k (by_name x) e) h utf = (tt, past x refl utf)
    says_fits (says_string x) h utf = past_string x utf
    says_fits (says_list x y) h utf =
        let a = past x refl utf in
        let b = items_fit y (omega (arith, a.1, h)) a.0 in
        ((omega (arith, a.1, b.0, h), b.1), (b.2.0, omega (arith, a.1, b.2.1)))
    says_fits (says_object x y) h utf =
        let a = past x refl utf in
        let b = members_fit y (omega (arith, a.1, h)) a.0 in
        ((omega (arith, a.1, b.0, h), b.1), (b.2.0, omega (arith, a.1, b.2.1)))

    items_fit : {t u : List ℕ} {vs : Plains K} → SaysItems num t vs u → length t ≤ n → IsUtf8 t → (length (plains_in vs) ≤ length t) × ItemsFitIn n vs × Behind t u
    items_fit (says_no_item x) h utf = (omega arith, tt, past x refl utf)
    items_fit (says_items x w y) h utf =
        let a = says_fits x h utf in
        let b = past w refl a.1.0 in
        let c = more_fit y (omega (arith, a.1.1, b.1, h)) b.0 in
        (omega (arith, a.1.1, b.1, c.0), (a.0, c.1), (c.2.0, omega (arith, a.1.1, b.1, c.2.1)))

    more_fit : {t u : List ℕ} {vs : Plains K} → SaysMoreItems num t vs u → length t ≤ n → IsUtf8 t → (length (plains_in vs) < length t) × ItemsFitIn n vs × Behind t u
    more_fit (says_no_more_item x) h utf = (omega (arith, past_bracket x), tt, past x refl utf)
    more_fit (says_more_items s x w y) h utf =
        let k = past_token s in
        let a = says_fits x (omega (arith, k, h)) (past s refl utf).0 in
        let b = past w refl a.1.0 in
        let c = more_fit y (omega (arith, k, a.1.1, b.1, h)) b.0 in
        (omega (arith, k, a.1.1, b.1, c.0), (a.0, c.1), (c.2.0, omega (arith, k, a.1.1, b.1, c.2.1)))

    member_fits : {t u s : List ℕ} {v : PlainValue K} → SaysMember num t s v u → length t ≤ n → IsUtf8 t → IsUtf8 s × FitsIn n v × Behind t u
    member_fits (says_member x w s y) h utf =
        let a = past_string x utf in
        let b = past w refl a.1.0 in
        let c = past s refl b.0 in
        let d = says_fits y (omega (arith, a.1.1, b.1, c.1, h)) c.0 in
        (a.0, d.0, (d.1.0, omega (arith, a.1.1, b.1, c.1, d.1.1)))

    members_fit : {t u : List ℕ} {ms : PlainMembers K} → SaysMembers num t ms u → length t ≤ n → IsUtf8 t → (length (plain_entries_in ms) ≤ length t) × MembersFitIn n ms × Behind t u
    members_fit (says_no_member x) h utf = (omega arith, tt, past x refl utf)
    members_fit (says_members x w y) h utf =
        let a = member_fits x h utf in
        let b = past w refl a.2.0 in
        let c = more_members_fit y (omega (arith, a.2.1, b.1, h)) b.0 in
        (omega (arith, a.2.1, b.1, c.0), (a.0, a.1, c.1), (c.2.0, omega (arith, a.2.1, b.1, c.2.1)))

    more_members_fit : {t u : List ℕ} {ms : PlainMembers K} → SaysMoreMembers num t ms u → length t ≤ n → IsUtf8 t → (length (plain_entries_in ms) < length t) × MembersFitIn n ms × Behind t u
    more_members_fit (says_no_more_member x) h utf = (omega (arith, past_bracket x), tt, past x refl utf)
    more_members_fit (says_more_members s x w y) h utf =
        let k = past_token s in
        let a = member_fits x (omega (arith, k, h)) (past s refl utf).0 in
        let b = past w refl a.2.0 in
        let c = more_members_fit y (omega (arith, k, a.2.1, b.1, h)) b.0 in
        (omega (arith, k, a.2.1, b.1, c.0), (a.0, a.1, c.1), (c.2.0, omega (arith, k, a.2.1, b.1, c.2.1)))

pub said_fits : {K : Type 0} (num : List ℕ → K) (text : List ℕ) (v : PlainValue K) (n : ℕ) → IsUtf8 text → length text ≤ n → SaysText num text v → FitsIn n v
said_fits num text v n utf h x = let a = past x.lead refl utf in (says_fits num n x.says (omega (arith, a.1, h)) a.0).0
