-- What a text says alone, it says before any other.
use Rattle.std.proofs.Common.{ℕ, false, List, ◌++◌, sym, ◌∙◌, ap, subst, append_assoc, codes}
use Rattle.transforms.proofs.QuotedReadsBack.{reads_on}
use Rattle.ios_out.specs.Constant.{Content, Values}
use Rattle.ios_out.specs.Reading.{SaysContent, of_number, of_string, of_arguments, Block, ended, blank_byte, comment, constant}

-- what stands after a name
says_more : {u : List ℕ} {c : Content} {r : List ℕ} → SaysContent u c r → (t : List ℕ) → SaysContent (u ++ t) c (r ++ t)
says_more (of_number u n digits r d e w l s) t =
    of_number (u ++ t) n digits (r ++ t) d
    (ap (λ z. z ++ t) e ∙ ap (λ z. codes ": " ++ z) (append_assoc n (codes " = " ++ (digits ++ (codes "\n" ++ r))) t ∙ ap (λ z. n ++ (codes " = " ++ z)) (append_assoc digits (codes "\n" ++ r) t))) w l s
says_more (of_string u n v text r e w s) t =
    of_string (u ++ t) n (v ++ t) text (r ++ t) (ap (λ z. z ++ t) e ∙ ap (λ z. codes ": " ++ z) (append_assoc n (codes " = \"" ++ v) t)) w (reads_on false v t text (codes "\n" ++ r) s)
says_more (of_arguments u m inside r args e w l s) t =
    of_arguments (u ++ t) m inside (r ++ t) args
    (ap (λ z. z ++ t) e ∙ ap (λ z. codes " = " ++ z) (append_assoc m (codes "(" ++ (inside ++ (codes ")\n" ++ r))) t ∙ ap (λ z. m ++ (codes "(" ++ z)) (append_assoc inside (codes ")\n" ++ r) t))) w l s

pub joined : {s : List ℕ} {vs : Values} → Block s vs → {t : List ℕ} {ws : Values} → Block t ws → Block (s ++ t) (vs ++ ws)
joined (ended s e) {t} {ws} b = let P : List ℕ → Type 0 = λ z. Block (z ++ t) ws in subst P (sym e) b
joined (blank_byte s c rest vs e h x) {t} {ws} b = blank_byte (s ++ t) c (rest ++ t) (vs ++ ws) (ap (λ z. z ++ t) e) h (joined x b)
joined (comment s inside rest vs e h x) {t} {ws} b =
    comment (s ++ t) inside (rest ++ t) (vs ++ ws) (ap (λ z. z ++ t) e ∙ ap (λ z. codes "//" ++ z) (append_assoc inside (codes "\n" ++ rest) t)) h (joined x b)
joined (constant s name u rest content vs e h says x) {t} {ws} b =
    constant (s ++ t) name (u ++ t) (rest ++ t) content (vs ++ ws) (ap (λ z. z ++ t) e ∙ ap (λ z. codes "public static let " ++ z) (append_assoc name u t)) h (says_more says t) (joined x b)
