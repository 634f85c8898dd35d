-- What is a command: of arguments that clap is not given, and both ways between arguments and what they spell.
use Rattle.std.proofs.Common.{◌≡◌, ◌∙◌, ◌⊎◌, inl, inr, ℕ, Bool, true, false, ◌&&◌, ◌||◌, cond, codes, List, [], ◌∷◌, Option, Some, None, decimal, refl, sym, ap, subst, arith}
use Rattle.std.proofs.lemmas.Bool.{false≢true}
use Rattle.std.proofs.lemmas.Slice.Eq.{bytes_eq-Decides}
use Rattle.std.specs.Str.{bytes_eq}
use Rattle.command_words.specs.Words.{IsCommand, command_named, command_of, gen_of, seed_of, token_count_of, greatest_seed, most_tokens}
use Rattle.command_words.specs.declared.command.Command.{Command}
use Rattle.command_words.specs.declared.command.Command.TheVariants.{Build, Replay, Stats, Gen}
use Rattle.command_words.specs.inner.ClapWords.{is_known, is_positional, is_ready}
use Rattle.command_words.proofs.NumbersSpelled.{gives, not_positional, spelled}

-- the numbers of `gen` are given only together
no_size : (seed : Option ℕ) → gen_of seed None ≡ None
no_size None = refl
no_size (Some seed) = refl

none_named : (b r s g : Bool) → (b || (r || (s || g))) ≡ false → cond b (Some Build) (cond r (Some Replay) (cond s (Some Stats) None)) ≡ None
none_named true r s g h = absurd (false≢true (sym h))
none_named false true s g h = absurd (false≢true (sym h))
none_named false false true g h = absurd (false≢true (sym h))
none_named false false false g h = refl

with_true : (b : Bool) → (b && true) ≡ b
with_true true = refl
with_true false = refl

-- one of the two is not positional, where the name is that of `gen`
lacking : (k g p q : Bool) → (g ≡ true → k ≡ true) → (k && ((p && (q && true)) && true)) ≡ false → (g ≡ false) ⊎ ((p ≡ false) ⊎ (q ≡ false))
lacking k false p q has h = inl refl
lacking k true false q has h = inr (inl refl)
lacking k true true false has h = inr (inr refl)
lacking k true true true has h = absurd (false≢true (sym h ∙ ap (λ b. b && true) (has refl)))

gen_known : (b r s g : Bool) → g ≡ true → (b || (r || (s || g))) ≡ true
gen_known true r s g h = refl
gen_known false true s g h = refl
gen_known false false true g h = refl
gen_known false false false g h = h

either_none : (t : Bool) (o : Option Command) → o ≡ None → cond t o None ≡ None
either_none true o h = h
either_none false o h = refl

-- arguments that clap is not given are no command
pub unready : (ws : List (List ℕ)) → is_ready ws ≡ false → command_of ws ≡ None
unready [] h = refl
unready (w ∷ []) h =
    none_named (bytes_eq w (codes "build")) (bytes_eq w (codes "replay")) (bytes_eq w (codes "stats")) (bytes_eq w (codes "gen"))
    (sym (with_true (is_known w)) ∙ h)
unready (w ∷ a ∷ []) h = refl
unready (w ∷ a ∷ b ∷ []) h =
    let known = gen_known (bytes_eq w (codes "build")) (bytes_eq w (codes "replay")) (bytes_eq w (codes "stats")) (bytes_eq w (codes "gen")) in
    elim (lacking (is_known w) (bytes_eq w (codes "gen")) (is_positional a) (is_positional b) known h) [
      | inl g ↦ ap (λ t. cond t (gen_of (seed_of a) (token_count_of b)) None) g
      | inr pq ↦ either_none (bytes_eq w (codes "gen")) (gen_of (seed_of a) (token_count_of b)) (elim pq [
        | inl p ↦ ap (λ s. gen_of s (token_count_of b)) (not_positional 0 greatest_seed a (omega arith) p)
        | inr q ↦ ap (λ s. gen_of (seed_of a) s) (not_positional 1 most_tokens b (omega arith) q) ∙ no_size (seed_of a)
      ])
    ]
unready (w ∷ a ∷ b ∷ c ∷ ws) h = refl

-- the arguments of a command are read as it
pub all : (words : List (List ℕ)) (c : Command) → IsCommand words c → command_of words ≡ Some c
all words Build is = ap command_of is.spelled
all words Replay is = ap command_of is.spelled
all words Stats is = ap command_of is.spelled
all words (Gen seed size) is =
    let seed_is : seed_of (decimal seed) ≡ Some seed =
    spelled 0 greatest_seed seed (decimal seed) (omega (arith, is.bounds.0)) refl (omega arith) is.bounds.0 in
    let size_is : token_count_of (decimal size) ≡ Some size =
    spelled 1 most_tokens size (decimal size) (omega (arith, is.bounds.2)) refl is.bounds.1 is.bounds.2 in
    ap command_of is.spelled ∙ λ i. gen_of (seed_is i) (size_is i)

-- which of the names it was
pub data Named (b r s : Bool) (c : Command) : Type 0 where
  build : b ≡ true → Build ≡ c → Named b r s c
  replay : r ≡ true → Replay ≡ c → Named b r s c
  stats : s ≡ true → Stats ≡ c → Named b r s c

no_command : (c : Command) → None ≡ Some c → ⊥
no_command c e = cc

same_command : (b c : Command) → Some b ≡ Some c → b ≡ c
same_command b c e = cc

by_name : (b r s : Bool) (c : Command) → cond b (Some Build) (cond r (Some Replay) (cond s (Some Stats) None)) ≡ Some c → Named b r s c
by_name true r s c e = build refl (same_command Build c e)
by_name false true s c e = replay refl (same_command Replay c e)
by_name false false true c e = stats refl (same_command Stats c e)
by_name false false false c e = absurd (no_command c e)

-- an argument that is a name spells the command of that name
one_word : (w name : List ℕ) (b c : Command) → bytes_eq w name ≡ true → b ≡ c → IsCommand (name ∷ []) b → IsCommand (w ∷ []) c
one_word w name b c t e is =
    subst (λ d. IsCommand (w ∷ []) d) e (subst (λ v. IsCommand (v ∷ []) b) (sym ((bytes_eq-Decides w name).0 t)) is)

named_word : (w : List ℕ) (c : Command) → command_named w ≡ Some c → IsCommand (w ∷ []) c
named_word w c e =
    elim (by_name (bytes_eq w (codes "build")) (bytes_eq w (codes "replay")) (bytes_eq w (codes "stats")) c e) [
      | build t same ↦ one_word w (codes "build") Build c t same (record { spelled = refl; bounds = tt })
      | replay t same ↦ one_word w (codes "replay") Replay c t same (record { spelled = refl; bounds = tt })
      | stats t same ↦ one_word w (codes "stats") Stats c t same (record { spelled = refl; bounds = tt })
    ]

-- the two numbers of `gen`
record Numbers (seed size : Option ℕ) (c : Command) : Type 0 where
  m : ℕ
  n : ℕ
  first : seed ≡ Some m
  second : size ≡ Some n
  same : Gen m n ≡ c

numbers : (t : Bool) (seed size : Option ℕ) (c : Command) → cond t (gen_of seed size) None ≡ Some c → (t ≡ true) × Numbers seed size c
numbers false seed size c e = absurd (no_command c e)
numbers true None size c e = absurd (no_command c e)
numbers true (Some m) None c e = absurd (no_command c e)
numbers true (Some m) (Some n) c e =
    (refl, record { m = m; n = n; first = refl; second = refl; same = same_command (Gen m n) c e })

gen_words : (w a b : List ℕ) (c : Command) → cond (bytes_eq w (codes "gen")) (gen_of (seed_of a) (token_count_of b)) None ≡ Some c → IsCommand (w ∷ a ∷ b ∷ []) c
gen_words w a b c e =
    let found = numbers (bytes_eq w (codes "gen")) (seed_of a) (token_count_of b) c e in
    let name : w ≡ codes "gen" = (bytes_eq-Decides w (codes "gen")).0 found.0 in
    let f = found.1 in
    let seed = gives 0 greatest_seed f.m a f.first in
    let size = gives 1 most_tokens f.n b f.second in
    subst (λ d. IsCommand (w ∷ a ∷ b ∷ []) d) f.same (record {
      spelled = λ i. name i ∷ seed.0 i ∷ size.0 i ∷ [];
      bounds = (seed.2, size.1, size.2);
    })

-- arguments that are read as a command are those that spell it
pub read : (words : List (List ℕ)) (c : Command) → command_of words ≡ Some c → IsCommand words c
read [] c e = absurd (no_command c e)
read (w ∷ []) c e = named_word w c e
read (w ∷ a ∷ []) c e = absurd (no_command c e)
read (w ∷ a ∷ b ∷ []) c e = gen_words w a b c e
read (w ∷ a ∷ b ∷ d ∷ ws) c e = absurd (no_command c e)
