-- A viable prefix goes on to a derived text by bytes that pass a test alone.
use Rattle.std.proofs.Common.{◌≡◌, ℕ, List, [], ◌∷◌, ◌++◌, Bool, true, false, ◌&&◌, refl, append_assoc, append-nil}
use Rattle.std.specs.List.{list_all}
use Rattle.grammar.specs.Grammar.{within, Rule, empty, byte, seq, alt, many, named, Derives, IsFront, no_byte, one_byte, both, left, right, no_more, by_name, nothing, whole, in_first, in_second, in_left, in_right, in_next, in_named, each_begins}
use Rattle.grammar.specs.Laws.{IsProductiveBy}
use Rattle.grammar.proofs.Fronts.{widen, joined, after_all}

split : (a b : Bool) → (a && b) ≡ true → (a ≡ true) × (b ≡ true)
split true b e = (refl, e)
split false b e = cc

all_of : (a b : Bool) → a ≡ true → b ≡ true → (a && b) ≡ true
all_of true b e f = f
all_of false b e f = cc

module _ {N : Type 0} (test : ℕ → Bool) (grammar : N → Rule N) (ok : IsProductiveBy test grammar) where
  all_joined : (a b : List ℕ) → list_all test a ≡ true → list_all test b ≡ true → list_all test (a ++ b) ≡ true
  all_joined [] b e f = f
  all_joined (c ∷ a) b e f = let (p, q) = split (test c) (list_all test a) e in all_of (test c) (list_all test (a ++ b)) p (all_joined a b q f)

  -- the text goes on to one that the rule derives
  abbrev pub GoesOn : Rule N → List ℕ → Type 0
  GoesOn r t = (w : List ℕ) × ((list_all test w ≡ true) × Derives grammar r (t ++ w))

  -- a text that the rule derives
  example : (r : Rule N) → each_begins test r ≡ true → GoesOn r []
  example empty h = ([], (refl, no_byte))
  example (byte low high) h = let (p, q) = split (within low high low) (test low) h in (low ∷ [], (all_of (test low) true q refl, one_byte p))
  example (seq r s) h =
      let (p, q) = split (each_begins test r) (each_begins test s) h in
      let (a, (ga, da)) = example r p in
      let (b, (gb, db)) = example s q in
      (a ++ b, (all_joined a b ga gb, joined grammar da db))
  example (alt r s) h = let (p, q) = split (each_begins test r) (each_begins test s) h in let (a, (ga, da)) = example r p in (a, (ga, left da))
  example (many r) h = ([], (refl, no_more))
  example (named n) h = ok.spelled n

  pub goes_on : {r : Rule N} {t : List ℕ} → IsFront grammar r t → each_begins test r ≡ true → GoesOn r t
  goes_on {r} nothing h = example r h
  goes_on (whole {t = t} d) h = ([], (refl, rw append-nil d))
  goes_on (in_first {r} {s} {t} f) h =
      let (p, q) = split (each_begins test r) (each_begins test s) h in
      let (a, (ga, da)) = goes_on f p in
      let (b, (gb, db)) = example s q in
      (a ++ b, (all_joined a b ga gb, rw (← append_assoc t a b) (joined grammar da db)))
  goes_on (in_second {r} {s} {t} {u} x f) h =
      let (p, q) = split (each_begins test r) (each_begins test s) h in
      let (b, (gb, db)) = goes_on f q in
      (b, (gb, both (widen grammar x b) db))
  goes_on (in_left {r} {s} f) h = let (p, q) = split (each_begins test r) (each_begins test s) h in let (a, (ga, da)) = goes_on f p in (a, (ga, left da))
  goes_on (in_right {r} {s} f) h = let (p, q) = split (each_begins test r) (each_begins test s) h in let (a, (ga, da)) = goes_on f q in (a, (ga, right da))
  goes_on (in_next {r} {t} {u} x f) h = let (b, (gb, db)) = goes_on f h in (b, (gb, after_all grammar x b db))
  goes_on (in_named {n} f) h = let (a, (ga, da)) = goes_on f (ok.begins n) in (a, (ga, by_name da))
