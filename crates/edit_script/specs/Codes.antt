-- A code of events, so that a list's model can hold them.
use Rattle.std.specs.Prelude.{◌≡◌, ℕ, List}
use Rattle.std.proofs.Common.{ap, ap₂, refl}
use Rattle.std.specs.Coded.{Coded, coded_ℕ, coded_list}
use base.Stored.{Gv, gnil, gnum, gcons}
use Rattle.edit_script.specs.Script.{EventData, put, del, move, patch, commit}

abbrev pub text_code : List ℕ → Gv
text_code = (coded_list coded_ℕ).code

abbrev pub event_code : EventData → Gv
event_code (put path body) = gcons (gnum 1) (gcons (text_code path) (text_code body))
event_code (del path) = gcons (gnum 2) (text_code path)
event_code (move first second) = gcons (gnum 3) (gcons (text_code first) (text_code second))
event_code (patch path start end bytes) =
    gcons (gnum 4) (gcons (text_code path) (gcons (gnum start) (gcons (gnum end) (text_code bytes))))
event_code commit = gnil

pub same_text_code : (s t : List ℕ) → text_code s ≡ text_code t → s ≡ t
same_text_code = (coded_list coded_ℕ).inj

rest : (x y a b : Gv) → gcons x a ≡ gcons y b → a ≡ b
rest x y a b e = cc

front : (x y a b : Gv) → gcons x a ≡ gcons y b → x ≡ y
front x y a b e = cc

same_number : (m n : ℕ) → gnum m ≡ gnum n → m ≡ n
same_number m n e = cc

same_patch : (p q : List ℕ) (i k j l : ℕ) (s t : List ℕ) → p ≡ q → i ≡ k → j ≡ l → s ≡ t → patch p i j s ≡ patch q k l t
same_patch p q i k j l s t a b c d = λ x. patch (a x) (b x) (c x) (d x)

pub same_event : (x y : EventData) → event_code x ≡ event_code y → x ≡ y
same_event (put p s) (put q t) e = let h = rest _ _ _ _ e in ap₂ put (same_text_code p q (front _ _ _ _ h)) (same_text_code s t (rest _ _ _ _ h))
same_event (del p) (del q) e = ap del (same_text_code p q (rest _ _ _ _ e))
same_event (move p q) (move r s) e = let h = rest _ _ _ _ e in ap₂ move (same_text_code p r (front _ _ _ _ h)) (same_text_code q s (rest _ _ _ _ h))
same_event (patch p i j s) (patch q k l t) e =
    let h = rest _ _ _ _ e in
    let i' = rest _ _ _ _ h in
    let j' = rest _ _ _ _ i' in
    same_patch p q i k j l s t (same_text_code p q (front _ _ _ _ h)) (same_number i k (front _ _ _ _ i')) (same_number j l (front _ _ _ _ j')) (same_text_code s t (rest _ _ _ _ j'))
same_event commit commit e = refl
same_event x y e = cc

abbrev pub coded_event : Coded EventData
coded_event = record { code = event_code; inj = same_event }
