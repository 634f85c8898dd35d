-- What a reading has read, before whatever follows.
use Rattle.std.proofs.Common.{◌≡◌, ℕ, List, [], ◌∷◌, ◌++◌, refl, sym, ap, ◌∙◌, append_assoc}
use Rattle.grammar.specs.Grammar.{Rule, Reads, no_byte, one_byte, both, left, right, no_more, more, by_name}

-- the prefix that was read, and its reading before anything
pub record Cut (R : List ℕ → List ℕ → Type 0) (t u : List ℕ) : Type 0 where
  pub front : List ℕ
  pub joined : t ≡ front ++ u
  pub reads : (s : List ℕ) → R (front ++ s) s

-- one after the other
pub cut_both : {R S Q : List ℕ → List ℕ → Type 0} (t m u : List ℕ) → ((a b c : List ℕ) → R a b → S b c → Q a c) → Cut R t m → Cut S m u → Cut Q t u
cut_both {R} {S} {Q} t m u f x y = record {
  front = x.front ++ y.front;
  joined = x.joined ∙ ap (λ z. x.front ++ z) y.joined ∙ sym (append_assoc x.front y.front u);
  reads = λ s. rw (append_assoc x.front y.front s) (f (x.front ++ (y.front ++ s)) (y.front ++ s) s (x.reads (y.front ++ s)) (y.reads s));
}

pub cut_map : {R Q : List ℕ → List ℕ → Type 0} (t u : List ℕ) → ((a b : List ℕ) → R a b → Q a b) → Cut R t u → Cut Q t u
cut_map t u f x = record { front = x.front; joined = x.joined; reads = λ s. f (x.front ++ s) s (x.reads s) }

pub reads_cut : {N : Type 0} {g : N → Rule N} {r : Rule N} {t u : List ℕ} → Reads g r t u → Cut (Reads g r) t u
reads_cut no_byte = record { front = []; joined = refl; reads = λ s. no_byte }
reads_cut (one_byte {c = c} h) = record { front = c ∷ []; joined = refl; reads = λ s. one_byte h }
reads_cut {t = t} {u = u} (both {u = m} x y) = cut_both t m u (λ a b c p q. both p q) (reads_cut x) (reads_cut y)
reads_cut {t = t} {u = u} (left x) = cut_map t u (λ a b p. left p) (reads_cut x)
reads_cut {t = t} {u = u} (right x) = cut_map t u (λ a b p. right p) (reads_cut x)
reads_cut no_more = record { front = []; joined = refl; reads = λ s. no_more }
reads_cut {t = t} {u = u} (more {u = m} x y) = cut_both t m u (λ a b c p q. more p q) (reads_cut x) (reads_cut y)
reads_cut {t = t} {u = u} (by_name x) = cut_map t u (λ a b p. by_name p) (reads_cut x)
