-- Whether the arguments are a command, and whether clap takes them, are one question.
use Rattle.std.proofs.Common.{◌≡◌, ◌==◌, ◌≤◌, ◌⊎◌, inl, inr, ℕ, Bool, ◌&&◌, ◌||◌, cond, nat_le, codes, true, false, List, [], ◌∷◌, length, None, refl, sym, ap, subst, ◌∙◌}
use Rattle.std.proofs.lemmas.Bool.{and_parts, false≢true, leb-true}
use Rattle.std.proofs.lemmas.Slice.Eq.{bytes_eq-Decides}
use Rattle.std.specs.List.{list_all}
use Rattle.std.specs.Str.{bytes_eq}
use Rattle.clap.specs.Walk.{Text}
use Rattle.clap.specs.Simple.{App, HasMatchesOf, is_simple, subcommand_of, subcommand_rows_of}
use Rattle.clap.specs.declared.parser.matches.ArgMatches.{ArgMatches}
use Rattle.clap.specs.Takes.{takes}
use Rattle.clap.specs.Faults.{fault_of, is_simple_and_free}
use Rattle.clap.specs.Kinds.{Kinds}
use Rattle.clap.proofs.OnLiterals.{clap_on_literals}
use Rattle.clap.specs.declared.error.kind.ErrorKind.TheVariants as kind
use Rattle.command_words.specs.Words.{command_of, gen_of, seed_of, token_count_of}
use Rattle.command_words.specs.inner.ClapWords.{command_in, is_known, is_positional, is_ready, tokc_app}
use Rattle.command_words.proofs.PositionalWords.{positional_cases}

-- clap takes the arguments, and its matches show their command
pub record IsTaken (ws : List Text) : Type 0 where
  pub takes_them : takes tokc_app ws ≡ true
  pub gives : command_in (subcommand_of tokc_app ws) ≡ command_of ws

-- clap refuses the arguments, and they are no command
pub record IsRefused (ws : List Text) : Type 0 where
  pub fault : fault_of tokc_app ws ≡ [] → ⊥
  pub none : command_of ws ≡ None

abbrev pub Verdict : List Text → Type 0
Verdict ws = IsTaken ws ⊎ IsRefused ws

not_none : {k : _} (ks : Kinds) → ks ≡ k ∷ [] → ks ≡ [] → ⊥
not_none ks e f = let g : _ = sym e ∙ f in cc

-- the commands that are one argument
data Single : Type 0 where
  build : Single
  replay : Single
  stats : Single

abbrev name : Single → Text
name build = codes "build"
name replay = codes "replay"
name stats = codes "stats"

alone : (s : Single) → IsTaken (name s ∷ [])
unfolding clap_on_literals
alone build = record { takes_them = refl; gives = refl }
alone replay = record { takes_them = refl; gives = refl }
alone stats = record { takes_them = refl; gives = refl }

with_one : (s : Single) (x : ℕ) (xs : Text) → (x == 45) ≡ false → fault_of tokc_app (name s ∷ (x ∷ xs) ∷ []) ≡ kind.UnknownArgument ∷ []
unfolding clap_on_literals
with_one build x xs hx = simp hx
with_one replay x xs hx = simp hx
with_one stats x xs hx = simp hx

with_two : (s : Single) (x : ℕ) (xs b : Text) → (x == 45) ≡ false → fault_of tokc_app (name s ∷ (x ∷ xs) ∷ b ∷ []) ≡ kind.UnknownArgument ∷ []
unfolding clap_on_literals
with_two build x xs b hx = simp hx
with_two replay x xs b hx = simp hx
with_two stats x xs b hx = simp hx

with_three : (s : Single) (x : ℕ) (xs b d : Text) → (x == 45) ≡ false → fault_of tokc_app (name s ∷ (x ∷ xs) ∷ b ∷ d ∷ []) ≡ kind.UnknownArgument ∷ []
unfolding clap_on_literals
with_three build x xs b d hx = simp hx
with_three replay x xs b d hx = simp hx
with_three stats x xs b d hx = simp hx

not_gen : (s : Single) → bytes_eq (name s) (codes "gen") ≡ false
not_gen build = refl
not_gen replay = refl
not_gen stats = refl

single_verdict : (s : Single) (ws : List Text) → list_all is_positional ws ≡ true → length ws ≤ 3 → Verdict (name s ∷ ws)
single_verdict s ws p h =
    positional_cases (λ vs. Verdict (name s ∷ vs))
    (inl (alone s))
    (λ x xs hx. inr (record { fault = not_none _ (with_one s x xs hx); none = refl }))
    (λ x y xs ys hx hy. inr (record {
      fault = not_none _ (with_two s x xs (y ∷ ys) hx);
      none = ap (λ b. cond b (gen_of (seed_of (x ∷ xs)) (token_count_of (y ∷ ys))) None) (not_gen s);
    }))
    (λ x y z xs ys zs hx hy hz. inr (record { fault = not_none _ (with_three s x xs (y ∷ ys) (z ∷ zs) hx); none = refl }))
    ws p h

gen_taken : (x y : ℕ) (xs ys : Text) → (x == 45) ≡ false → (y == 45) ≡ false → IsTaken (codes "gen" ∷ (x ∷ xs) ∷ (y ∷ ys) ∷ [])
unfolding clap_on_literals
gen_taken x y xs ys hx hy = record { takes_them = simp (hx, hy); gives = simp (hx, hy) }

gen_alone : fault_of tokc_app (codes "gen" ∷ []) ≡ kind.MissingRequiredArgument ∷ []
unfolding clap_on_literals
gen_alone = refl

gen_one : (x : ℕ) (xs : Text) → (x == 45) ≡ false → fault_of tokc_app (codes "gen" ∷ (x ∷ xs) ∷ []) ≡ kind.MissingRequiredArgument ∷ []
unfolding clap_on_literals
gen_one x xs hx = simp hx

gen_three : (x y z : ℕ) (xs ys zs : Text) → (x == 45) ≡ false → (y == 45) ≡ false → (z == 45) ≡ false → fault_of tokc_app (codes "gen" ∷ (x ∷ xs) ∷ (y ∷ ys) ∷ (z ∷ zs) ∷ []) ≡ kind.UnknownArgument ∷ []
unfolding clap_on_literals
gen_three x y z xs ys zs hx hy hz = simp (hx, hy, hz)

gen_verdict : (ws : List Text) → list_all is_positional ws ≡ true → length ws ≤ 3 → Verdict (codes "gen" ∷ ws)
gen_verdict ws p h =
    positional_cases (λ vs. Verdict (codes "gen" ∷ vs))
    (inr (record { fault = not_none _ gen_alone; none = refl }))
    (λ x xs hx. inr (record { fault = not_none _ (gen_one x xs hx); none = refl }))
    (λ x y xs ys hx hy. inl (gen_taken x y xs ys hx hy))
    (λ x y z xs ys zs hx hy hz. inr (record { fault = not_none _ (gen_three x y z xs ys zs hx hy hz); none = refl }))
    ws p h

either : (a b : Bool) → (a || b) ≡ true → (a ≡ true) ⊎ (b ≡ true)
either true b h = inl refl
either false b h = inr h

named : (w v : Text) → bytes_eq w v ≡ true → w ≡ v
named w v h = (bytes_eq-Decides w v).0 h

known_verdict : (w : Text) (ws : List Text) → is_known w ≡ true → list_all is_positional ws ≡ true → length ws ≤ 3 → Verdict (w ∷ ws)
known_verdict w ws k p h =
    let single : (s : Single) → bytes_eq w (name s) ≡ true → Verdict (w ∷ ws) =
    λ s e. subst (λ v. Verdict (v ∷ ws)) (sym (named w (name s) e)) (single_verdict s ws p h) in
    elim (either _ _ k) [
      | inl e ↦ single build e
      | inr k2 ↦ elim (either _ _ k2) [
        | inl e ↦ single replay e
        | inr k3 ↦ elim (either _ _ k3) [
          | inl e ↦ single stats e
          | inr e ↦ subst (λ v. Verdict (v ∷ ws)) (sym (named w (codes "gen") e)) (gen_verdict ws p h)
        ]
      ]
    ]

pub verdict : (ws : List Text) → is_ready ws ≡ true → Verdict ws
verdict [] h = absurd (false≢true h)
verdict (w ∷ ws) h =
    let k = and_parts (is_known w) (list_all is_positional ws && nat_le (length ws) 3) h in
    let p = and_parts (list_all is_positional ws) (nat_le (length ws) 3) k.1 in
    known_verdict w ws k.0 p.0 (leb-true (length ws) 3 p.1)

free : is_simple_and_free tokc_app ≡ true
unfolding clap_on_literals
free = refl

simple : is_simple tokc_app ≡ true
unfolding clap_on_literals
simple = refl

-- matches that clap gives show the command of the arguments
pub ok_gives : (a : App) (ws : List Text) (m : ArgMatches) → a ≡ tokc_app → is_ready ws ≡ true → HasMatchesOf a ws m → (is_simple_and_free a ≡ true → fault_of a ws ≡ []) → command_in (subcommand_rows_of m) ≡ command_of ws
ok_gives a ws m e r has none =
    let h : HasMatchesOf tokc_app ws m = subst (λ (b : App). HasMatchesOf b ws m) e has in
    let f : is_simple_and_free tokc_app ≡ true → fault_of tokc_app ws ≡ [] = subst (λ (b : App). is_simple_and_free b ≡ true → fault_of b ws ≡ []) e none in
    elim (verdict ws r) [
      | inl t ↦ ap command_in (h simple).1 ∙ t.gives
      | inr u ↦ absurd (u.fault (f free))
    ]

-- arguments that clap need not take are no command
pub err_none : (a : App) (ws : List Text) → a ≡ tokc_app → is_ready ws ≡ true → (takes a ws ≡ true → ⊥) → command_of ws ≡ None
err_none a ws e r not_taken =
    elim (verdict ws r) [
      | inl t ↦ absurd (not_taken (ap (λ (b : App). takes b ws) e ∙ t.takes_them))
      | inr u ↦ u.none
    ]
