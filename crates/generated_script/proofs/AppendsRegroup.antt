-- What is appended piece by piece is the whole.
use Rattle.std.proofs.Common.{◌≡◌, ◌∙◌, ℕ, List, [], ◌∷◌, ◌++◌, refl, sym, ap, append_assoc}
use Rattle.std.proofs.lemmas.List.{flat_map_more}
use Rattle.std.proofs.lemmas.List.Concat.{flat_map-append}
use Rattle.std.specs.List.{flat_map, range_with_len}
use Rattle.edit_script.specs.Script.{event_text, header}
use Rattle.edit_script.specs.declared.version.Version.TheVariants.{First}
use Rattle.generated_script.specs.Script.{edit_events, events_of, first_events, script_of}

-- two pieces, and three
two : (o a b x y : List ℕ) → x ≡ o ++ a → y ≡ x ++ b → y ≡ o ++ (a ++ b)
two o a b x y p q = q ∙ (ap (λ t. t ++ b) p ∙ append_assoc o a b)

pub three : (o a b c x y z : List ℕ) → x ≡ o ++ a → y ≡ x ++ b → z ≡ y ++ c → z ≡ o ++ (a ++ (b ++ c))
three o a b c x y z p q r = two o a (b ++ c) x z p (two x b c y z q r)

-- one item more that is spelled
more : {E : Type 0} (f : E → List ℕ) (xs : List E) (x : E) (o p q : List ℕ) → p ≡ o ++ flat_map f xs → q ≡ p ++ f x → q ≡ o ++ flat_map f (xs ++ x ∷ [])
more f xs x o p q is next = next ∙ (ap (λ t. t ++ f x) is ∙ flat_map_more f o xs x)

append_none : (xs : List ℕ) → xs ≡ xs ++ []
append_none [] = refl
append_none (x ∷ xs) = ap (λ t. x ∷ t) (append_none xs)

-- seven items, one after another
pub seven : {E : Type 0} (f : E → List ℕ) (a b c d e g h : E) (o p q r s t u v : List ℕ) → p ≡ o ++ f a → q ≡ p ++ f b → r ≡ q ++ f c → s ≡ r ++ f d → t ≡ s ++ f e → u ≡ t ++ f g → v ≡ u ++ f h
    → v ≡ o ++ flat_map f (a ∷ b ∷ c ∷ d ∷ e ∷ g ∷ h ∷ [])
seven f a b c d e g h o p q r s t u v ap bq cr ds et gu hv =
    more f (a ∷ b ∷ c ∷ d ∷ e ∷ g ∷ []) h o u v
    (more f (a ∷ b ∷ c ∷ d ∷ e ∷ []) g o t u
    (more f (a ∷ b ∷ c ∷ d ∷ []) e o s t
    (more f (a ∷ b ∷ c ∷ []) d o r s
    (more f (a ∷ b ∷ []) c o q r
    (more f (a ∷ []) b o p q
    (more f [] a o o p (append_none o) ap) bq) cr) ds) et) gu) hv

-- the header, the first events and the edits are the script
pub whole : (seed size : ℕ) (x y z : List ℕ) → x ≡ header First → y ≡ x ++ flat_map event_text (first_events seed size) → z ≡ y ++ flat_map event_text (flat_map (edit_events seed size) (range_with_len 1 20)) → z ≡ script_of seed size
unfolding script_of events_of
whole seed size x y z p q r =
    let first = first_events seed size in
    let edits = flat_map (edit_events seed size) (range_with_len 1 20) in
    two (header First) (flat_map event_text first) (flat_map event_text edits) y z (q ∙ ap (λ t. t ++ flat_map event_text first) p) r
    ∙ ap (λ t. header First ++ t) (sym (flat_map-append event_text first edits))
