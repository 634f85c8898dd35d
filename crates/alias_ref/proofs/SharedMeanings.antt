-- An alias means what the token means that it names.
use Rattle.std.proofs.Common.{◌≡◌, ℕ, true, List, Some, ap, subst}
use Rattle.std.specs.FinMap as flat_map
use Rattle.std.specs.List.{slice_get}
use Rattle.name_path.specs.declared.place.Place.{Place}
use Rattle.group_inherit.specs.Flattening.{TokenAt}
use Rattle.json_span.specs.PlainView.{Value}
use Rattle.alias_ref.specs.Written.{Step, WrittenPlaces, whole, is_written, written_in}
use Rattle.alias_ref.specs.Meaning.{Leads, leads, arrived, Means, means_leaf, means_parts, means_target}
use Rattle.alias_ref.specs.Answer.{MeansAsAt}
use Rattle.alias_ref.specs.Laws.{Flat}
use Rattle.alias_ref.specs.inner.Chains.{Targets, target_at, IsAlias, AreAliases}
use Rattle.alias_ref.proofs.OneMeaning.{lead_once, leaf_or_lead, parts_or_lead}
use Rattle.alias_ref.proofs.RememberedTokens.{entry_there}
use Rattle.alias_ref.proofs.WrittenParts.{written_stands, whole_stands}

-- a place that leads to another means what that one means
onward : (T : WrittenPlaces) (p q : Place) (v : Value) → Leads T p q → Means T p v → Means T q v
onward T p q v lead (means_leaf e) = absurd (leaf_or_lead T e lead)
onward T p q v lead (means_parts e each) = absurd (parts_or_lead T e lead)
onward T p q v lead (means_target other means) = subst (λ x. Means T x v) (lead_once T other lead) means

alias_leads : (flat : Flat) (token : List Step) (j : ℕ) (a : IsAlias flat token j) → Leads (written_in flat) (whole token) (whole a.named)
alias_leads flat token j a =
    let T = written_in flat in
    let stands = whole_stands flat a.named a.stands.0 (entry_there flat j (a.named, a.stands.0) a.stands.1) in
    let written : is_written (T (whole a.named)) ≡ true = ap is_written (written_stands flat (whole a.named) a.stands.0 a.stands.0.def.value stands) in
    leads a.written written arrived

-- each token means what it means itself
pub means_itself : (flat : Flat) (i : ℕ) (token : TokenAt) → slice_get (flat_map.entries flat) i ≡ Some token → MeansAsAt flat token.0 i
means_itself flat i token at = (token, at, λ v. (λ m. m, λ m. m))

-- .. and one that means what an alias means, what the token means that the alias names
pub means_further : (flat : Flat) (ts : Targets) (token : List Step) (i j : ℕ) → AreAliases flat ts → MeansAsAt flat token i → target_at ts i ≡ Some j → MeansAsAt flat token j
means_further flat ts token i j right (other, at, same) is =
    let a = right i j other at is in
    let T = written_in flat in
    let lead = alias_leads flat other.0 j a in
    ((a.named, a.stands.0), a.stands.1, λ v. (λ m. onward T (whole other.0) (whole a.named) v lead ((same v).0 m), λ m. (same v).1 (means_target lead m)))
