-- The permutations of a plan have names of letters, digits and five signs.
use Rattle.std.proofs.Common.{◌≡◌, inl, inr, ℕ, true, List, [], ◌∷◌, length, Option, Some, None, sym, subst, refl, arith}
use Rattle.std.specs.FinMap as finite
use Rattle.std.specs.List.{AllByRecursion}
use Rattle.std.specs.Prelude.{IfSome}
use Rattle.std.specs.Str.{IsUtf8}
use Rattle.ring.specs.Lists.{In}
use Rattle.json_span.specs.Answer.{Answer, IsAnswer, shows, flawed, stops}
use Rattle.json_span.specs.FitsIn.{SaidFits}
use Rattle.json_span.specs.Laws.{ShowsSay}
use Rattle.json_span.specs.Says.{plain_of}
use Rattle.json_span.specs.Tree.{Placed}
use Rattle.permutations.specs.Permutation.{Permutation}
use Rattle.file_plan.specs.InUse.{resolver_path}
use Rattle.file_plan.specs.Plan.{Planned, planned, refused, OfAnswer, OfDocument, broken, default_plan, listed, long, many, Plans}
use Rattle.build_plain.specs.Names.{PermutationsAreNamed, is_name}
use Rattle.build_plain.proofs.ResolverNames.{Fits, no_number, permutations_named}

abbrev IsNamed : Permutation → Type 0
IsNamed p = is_name p.name ≡ true

abbrev AreNamed : Planned → Type 0
AreNamed (planned perms) = AllByRecursion IsNamed perms
AreNamed (refused told) = Unit {0}

default_named : AreNamed (planned default_plan)
default_named = (refl, tt)

document_named : (n : ℕ) (root : Placed) (p : Planned) → Fits n root → OfDocument root p → AreNamed p
document_named n root p fits (broken told ring is) = tt
document_named n root p fits (many k is m) = tt
document_named n root p fits (long k is m) = tt
document_named n root p fits (listed is within) = permutations_named n root fits

one_of : {X : Type 0} (P : X → Type 0) (xs : List X) (x : X) → In x xs → AllByRecursion P xs → P x
one_of P [] x i h = absurd i
one_of P (y ∷ ys) x (inl same) h = subst P (sym same) h.0
one_of P (y ∷ ys) x (inr i) h = one_of P ys x i h.1

in_option : (o : Option (List ℕ)) → ((text : List ℕ) → o ≡ Some text → IsUtf8 text) → IfSome o IsUtf8
in_option None h = tt
in_option (Some text) h = h text refl

module _ (say : ShowsSay ℕ) (said : SaidFits ℕ) where
  answer_named : (text : List ℕ) (answer : Answer) (p : Planned) → IsUtf8 text → IsAnswer text answer → OfAnswer answer p → AreNamed p
  answer_named text (shows root) p utf8 is of =
      let all : length text ≡ length text = refl in
      document_named (length text) root p (said no_number text (plain_of no_number root) (length text) utf8 (omega (arith, all)) (say no_number text root is.0)) of
  answer_named text (flawed f) p utf8 is of = subst AreNamed (sym of) tt
  answer_named text (stops at) p utf8 is of = subst AreNamed (sym of) tt

  plan_named : (text : Option (List ℕ)) (p : Planned) → IfSome text IsUtf8 → Plans text p → AreNamed p
  plan_named None p utf8 plans = subst AreNamed (sym plans) default_named
  plan_named (Some text) p utf8 plans = answer_named text plans.0 p utf8 plans.1 plans.2

  pub permutations_are_named : PermutationsAreNamed
  permutations_are_named files perms utf8 plans p i =
      let text = finite.get files resolver_path in
      one_of IsNamed perms p i (plan_named text (planned perms) (in_option text utf8) plans)
