-- Walks that are remembered: what the walk of a place below a branch has in common with its walk from the beginning.
use Rattle.std.specs.Prelude.{◌≡◌, ◌≢◌, ◌↔◌, ◌⊎◌, ◌<◌, ◌≤◌, ℕ, ◌+◌, List, [], ◌∷◌, ◌++◌, length, map, Bool, true, false, if◌then◌else◌, Option, Some, None}
use Rattle.std.specs.Cmp.Lexicographic.{pointwise}
use Rattle.std.specs.Str.{bytes_eq}
use Rattle.std.specs.FinMap as flat_map
use Rattle.tk_io.specs.Order.{names_cmp}
use Rattle.group_inherit.specs.Flattening.{Flattened}
use Rattle.ring.specs.Lists.{In}
use Rattle.name_path.specs.declared.place.Place.{Place}
use Rattle.alias_ref.specs.Written.{Step, refers, WrittenPlaces, whole, written_in}
use Rattle.alias_ref.specs.Visits.{Visit, visit, lost, Way, most_on_branch, most_visits, RefBreak, own_break, first_break, walked, passed}
use Rattle.json_span.specs.PlainView.{Value}
use Rattle.name_path.specs.declared.kind.Kind.{Kind}
use Rattle.alias_ref.specs.Meaning.{Means}
use Rattle.alias_ref.specs.Kinds.{KindOf, own_in, group_in}
use Rattle.alias_ref.specs.Refs.{refs_of}
use Rattle.alias_ref.specs.Asking.{Lacks}
use Rattle.alias_ref.specs.declared.fault.RefRule.TheVariants as rule

-- the visit, with this branch in front of its own
abbrev pub below_visit : List Place → Visit → Visit
below_visit b (visit c p) = visit (b ++ c) p
below_visit b (lost p) = lost p

abbrev pub below : List Place → List Visit → List Visit
below b es = map (below_visit b) es

abbrev pub way_below : List Place → Way → Way
way_below b w = record { seen = below b w.seen; ends = w.ends }

-- no place of the branch is visited
abbrev pub Avoids : List Place → List Visit → Type 0
Avoids b es = (c : List Place) (x : Place) → In (visit c x) es → Lacks x b

-- The visits break no rule, where k come before them; there are n of them, and no branch among them is longer than d.
pub record HasMeasures (T : WrittenPlaces) (k : ℕ) (es : List Visit) (n d : ℕ) : Type 0 where
  pub unbroken : first_break T k es ≡ None
  pub counted : length es ≡ n
  pub within : (c : List Place) (x : Place) → In (visit c x) es → length c ≤ d

-- below a branch on which no place of a remembered walk stands, and which leaves it room, it is the same walk ..
abbrev pub RememberedWalks : Type 0
RememberedWalks = (T : WrittenPlaces) (b : List Place) (p : Place) (n d : ℕ) → HasMeasures T 0 (walked T [] p) n d → Avoids b (walked T [] p) → length b + d < most_on_branch
    → walked T b p ≡ below b (walked T [] p)

-- .. and behind k visits it breaks no rule exactly where there may be so many more
abbrev pub RememberedBreaks : Type 0
RememberedBreaks = (T : WrittenPlaces) (b : List Place) (p : Place) (n d k : ℕ) → HasMeasures T 0 (walked T [] p) n d → Avoids b (walked T [] p) → length b + d < most_on_branch
    → (first_break T k (walked T b p) ≡ None) ↔ (k + n ≤ most_visits)

-- the same of passing
abbrev pub RememberedPasses : Type 0
RememberedPasses = (T : WrittenPlaces) (b : List Place) (p : Place) (n d : ℕ) → HasMeasures T 0 (passed T [] p).seen n d → Avoids b (passed T [] p).seen → length b + d < most_on_branch
    → passed T b p ≡ way_below b (passed T [] p)

abbrev pub RememberedPassBreaks : Type 0
RememberedPassBreaks = (T : WrittenPlaces) (b : List Place) (p : Place) (n d k : ℕ) → HasMeasures T 0 (passed T [] p).seen n d → Avoids b (passed T [] p).seen → length b + d < most_on_branch
    → (first_break T k (passed T b p).seen ≡ None) ↔ (k + n ≤ most_visits)

-- A walk below a branch that breaks no rule is one that can be remembered: from the beginning it is the same walk, and breaks
-- none, no place of the branch is visited, and there is room for each branch.
pub record IsRememberable (T : WrittenPlaces) (b : List Place) (es : List Visit) : Type 0 where
  pub unbroken : first_break T 0 es ≡ None
  pub new : Avoids b es
  pub room : (c : List Place) (x : Place) → In (visit c x) es → length b + length c < most_on_branch

abbrev pub WalksAreRememberable : Type 0
WalksAreRememberable = (T : WrittenPlaces) (b : List Place) (p : Place) (k : ℕ) → first_break T k (walked T b p) ≡ None
    → (walked T b p ≡ below b (walked T [] p)) × IsRememberable T b (walked T [] p)

abbrev pub PassesAreRememberable : Type 0
PassesAreRememberable = (T : WrittenPlaces) (b : List Place) (p : Place) (k : ℕ) → first_break T k (passed T b p).seen ≡ None
    → (passed T b p ≡ way_below b (passed T [] p)) × IsRememberable T b (passed T [] p).seen

-- Measures are taken from the beginning to a branch, and back.
abbrev pub MeasuresBelow : Type 0
MeasuresBelow = (T : WrittenPlaces) (b : List Place) (p : Place) (n d k : ℕ) → HasMeasures T 0 (walked T [] p) n d → Avoids b (walked T [] p) → length b + d < most_on_branch → k + n ≤ most_visits
    → HasMeasures T k (walked T b p) n (length b + d)

abbrev pub MeasuresKept : Type 0
MeasuresKept = (T : WrittenPlaces) (b : List Place) (p : Place) (n d k : ℕ) → HasMeasures T k (walked T b p) n (length b + d) → HasMeasures T 0 (walked T [] p) n d

-- each reference that is written in one of these tokens names one of them
abbrev pub IsClosed : WrittenPlaces → (List Step → Bool) → Type 0
IsClosed T among = (p : Place) (token steps : List Step) → among p.token ≡ true → T p ≡ Some (refers token steps) → among token ≡ true

-- no place of the branch is in one of them
abbrev pub NoneAmong : (List Step → Bool) → List Place → Type 0
NoneAmong among b = (q : Place) → In q b → among q.token ≡ false

-- the walk of a place in one of them, below any branch, visits places in them alone, and so none of a branch that has none in them
abbrev pub ClosedAvoid : Type 0
ClosedAvoid = (T : WrittenPlaces) (among : List Step → Bool) → IsClosed T among → (b c : List Place) (p : Place) → among p.token ≡ true → NoneAmong among b
    → Avoids b (walked T c p) × Avoids b (passed T c p).seen

-- The tokens that have a number name tokens of numbers that are not greater.
abbrev pub NamesNoGreater : WrittenPlaces → (List Step → Option ℕ) → Type 0
NamesNoGreater T number = (p : Place) (token steps : List Step) (i : ℕ) → number p.token ≡ Some i → T p ≡ Some (refers token steps) → (j : ℕ) × (number token ≡ Some j) × (j ≤ i)

-- each place of the branch is in a token without a number or with a greater one
abbrev pub AboveOf : (List Step → Option ℕ) → ℕ → List Place → Type 0
AboveOf number i b = (q : Place) → In q b → (j : ℕ) → number q.token ≡ Some j → i < j

abbrev pub NumberedAvoid : Type 0
NumberedAvoid = (T : WrittenPlaces) (number : List Step → Option ℕ) → NamesNoGreater T number → (b c : List Place) (p : Place) (i : ℕ) → number p.token ≡ Some i → AboveOf number i b
    → Avoids b (walked T c p) × Avoids b (passed T c p).seen

-- a token without a number gets one that is no smaller than those of the other tokens that it names
abbrev pub with_number : List Step → ℕ → (List Step → Option ℕ) → List Step → Option ℕ
with_number token i number other = if pointwise bytes_eq other token then Some i else number other

abbrev pub HasNoGreater : (List Step → Option ℕ) → List Step → ℕ → List Step → Type 0
HasNoGreater number t i token = (token ≡ t) ⊎ ((j : ℕ) × (number token ≡ Some j) × (j ≤ i))

abbrev pub NumbersGrow : Type 0
NumbersGrow = (T : WrittenPlaces) (number : List Step → Option ℕ) (t : List Step) (i : ℕ) → NamesNoGreater T number → number t ≡ None
    → ((p : Place) (token steps : List Step) → p.token ≡ t → T p ≡ Some (refers token steps) → HasNoGreater number t i token) → NamesNoGreater T (with_number t i number)

-- A first break, but one of too deep or too long a walk, is the first one below a branch too, where no place up to it stands on the
-- branch, and there is room for the visits up to it.
abbrev pub RememberedFaults : Type 0
RememberedFaults = (T : WrittenPlaces) (b : List Place) (p : Place) (before after : List Visit) (last : Visit) (d k : ℕ) (br : RefBreak)
    → walked T [] p ≡ before ++ last ∷ after → first_break T 0 before ≡ None → own_break T (length before) last ≡ Some br → br.rule ≢ rule.Deep → br.rule ≢ rule.Big
    → Avoids b (before ++ last ∷ []) → ((c : List Place) (x : Place) → In (visit c x) (before ++ last ∷ []) → length c ≤ d) → length b + d < most_on_branch → k + length before < most_visits
    → first_break T k (walked T b p) ≡ Some br

-- Before each visit there are at least as many visits as places on its branch beyond the first ones, so that no depth has to be measured.
abbrev pub BranchesRise : Type 0
BranchesRise = (T : WrittenPlaces) (b : List Place) (p : Place) (c : List Place) (x : Place)
    → (In (visit c x) (walked T b p) → length c < length b + length (walked T b p)) × (In (visit c x) (passed T b p).seen → length c < length b + length (passed T b p).seen)

-- the walk of a place that breaks no rule, and its visits below a branch, where as many as there are visits may still stand on it
abbrev pub CountsBelow : Type 0
CountsBelow = (T : WrittenPlaces) (b : List Place) (p : Place) (k : ℕ) → first_break T 0 (walked T [] p) ≡ None → Avoids b (walked T [] p)
    → length b + length (walked T [] p) ≤ most_on_branch → k + length (walked T [] p) ≤ most_visits
    → (first_break T k (walked T b p) ≡ None) × (length (walked T b p) ≡ length (walked T [] p))

-- .. and back
abbrev pub CountsKept : Type 0
CountsKept = (T : WrittenPlaces) (b : List Place) (p : Place) (k : ℕ) → first_break T k (walked T b p) ≡ None
    → (first_break T 0 (walked T [] p) ≡ None) × (length (walked T [] p) ≡ length (walked T b p))

-- In a flat tree it is enough that the other tokens which its definition lists have numbers that are not greater.
abbrev pub ListedHaveNumbers : Type 0
ListedHaveNumbers = (flat : flat_map.FinMap names_cmp Flattened) (number : List Step → Option ℕ) (t : List Step) (i : ℕ) → NamesNoGreater (written_in flat) number → number t ≡ None
    → ((f : Flattened) → flat_map.get flat t ≡ Some f → (token : List Step) → In token (refs_of f.def) → HasNoGreater number t i token) → NamesNoGreater (written_in flat) (with_number t i number)

-- What a table keeps of a token: the measures of its walk, what it means, and its kind.
pub record IsKnown (flat : flat_map.FinMap names_cmp Flattened) (token : List Step) (n d : ℕ) (v : Value) (k : Option Kind) : Type 0 where
  pub measures : HasMeasures (written_in flat) 0 (walked (written_in flat) [] (whole token)) n d
  pub means : Means (written_in flat) (whole token) v
  pub kind : KindOf (written_in flat) (own_in flat) (group_in flat) token k

-- a known token is walked below a branch of greater numbers without a break, where there is room for it
abbrev pub KnownIsWalked : Type 0
KnownIsWalked = (flat : flat_map.FinMap names_cmp Flattened) (number : List Step → Option ℕ) (b : List Place) (token : List Step) (i n d k : ℕ) (v : Value) (kind : Option Kind)
    → NamesNoGreater (written_in flat) number → IsKnown flat token n d v kind → number token ≡ Some i → AboveOf number i b → length b + d < most_on_branch → k + n ≤ most_visits
    → HasMeasures (written_in flat) k (walked (written_in flat) b (whole token)) n (length b + d)

-- .. and a token that was walked below any branch without a break is known
abbrev pub WalkedIsKnown : Type 0
WalkedIsKnown = (flat : flat_map.FinMap names_cmp Flattened) (b : List Place) (token : List Step) (n d k : ℕ) (v : Value) (kind : Option Kind)
    → HasMeasures (written_in flat) k (walked (written_in flat) b (whole token)) n (length b + d) → Means (written_in flat) (whole token) v
    → KindOf (written_in flat) (own_in flat) (group_in flat) token kind → IsKnown flat token n d v kind
