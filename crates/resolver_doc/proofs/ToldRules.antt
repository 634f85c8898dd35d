-- What is told of a document is a rule that is broken, and none before it.
use Rattle.std.proofs.Common.{◌≡◌, inl, inr, List, [], ◌∷◌, refl, sym, subst}
use Rattle.json_span.specs.Tree.{Placed}
use Rattle.ring.specs.Lists.{In}
use Rattle.resolver_doc.specs.declared.rule.Break.{Break}
use Rattle.resolver_doc.specs.Form.{form_breaks}
use Rattle.resolver_doc.specs.Naming.{naming_breaks}
use Rattle.resolver_doc.specs.Rules.{BreaksForm, BreaksNaming, UnbrokenBreaksNone, NoneBrokenIsUnbroken, IsFirstBroken, first_form, first_naming, first_ring, ToldIsFirstBroken}
use Rattle.resolver_doc.proofs.First.{first_is_told}
use Rattle.resolver_doc.proofs.FormRules.{form_breaks_break}
use Rattle.resolver_doc.proofs.FormsListed.{broken_forms_are_listed}
use Rattle.resolver_doc.proofs.NamesListed.{broken_names_are_listed}
use Rattle.resolver_doc.proofs.NamingRules.{naming_breaks_break}

none_listed : (xs : List Break) (b : Break) → xs ≡ [] → In b xs → ⊥
none_listed xs b e i = subst (λ (ys : List Break). In b ys) e i

nothing_in : (xs : List Break) → ((b : Break) → In b xs → ⊥) → xs ≡ []
nothing_in [] h = refl
nothing_in (x ∷ xs) h = absurd (h x (inl refl))

no_form : (root : Placed) → form_breaks root ≡ [] → (b : Break) → BreaksForm root b → ⊥
no_form root e b x = none_listed (form_breaks root) b e (broken_forms_are_listed root b x)

no_naming : (root : Placed) → naming_breaks root ≡ [] → (b : Break) → BreaksNaming root b → ⊥
no_naming root e b x = none_listed (naming_breaks root) b e (broken_names_are_listed root b x)

pub unbroken_breaks_none : UnbrokenBreaksNone
unbroken_breaks_none root u = record { forms = no_form root u.forms; names = no_naming root u.names; rings = u.rings }

pub none_broken_is_unbroken : NoneBrokenIsUnbroken
none_broken_is_unbroken root u =
    let forms : form_breaks root ≡ [] = nothing_in (form_breaks root) (λ b i. u.forms b (form_breaks_break root b i)) in
    record {
      forms = forms;
      names = nothing_in (naming_breaks root) (λ b i. u.names b (naming_breaks_break root b forms i));
      rings = u.rings;
    }

pub told_is_first_broken : ToldIsFirstBroken
told_is_first_broken root told ring (inl x) =
    let f = first_is_told (form_breaks root) told x.first in
    subst (IsFirstBroken root told) (sym x.no_ring) (first_form (form_breaks_break root told f.there) (λ b y. f.none_before b (broken_forms_are_listed root b y)))
told_is_first_broken root told ring (inr (inl x)) =
    let f = first_is_told (naming_breaks root) told x.first in
    subst (IsFirstBroken root told) (sym x.no_ring)
    (first_naming (no_form root x.forms) (naming_breaks_break root told x.forms f.there) (λ b y. f.none_before b (broken_names_are_listed root b y)))
told_is_first_broken root told ring (inr (inr x)) = first_ring (no_form root x.forms) (no_naming root x.names) x.rule x.ring
