-- What is known of values serves the aliases of tokens.
use Rattle.std.proofs.Common.{◌≡◌, ◌∙◌, ℕ, zero, suc, [], ◌∷◌, ◌++◌, set, Some, None, Ok, inl, inr, refl, sym, ap, subst}
use Rattle.std.specs.Prelude.{◌⊎◌}
use Rattle.std.specs.FinMap as finite
use Rattle.std.specs.List.{slice_get}
use Rattle.json_span.specs.PlainView.{plain_view}
use Rattle.name_path.specs.declared.kind.Kind.{Kind}
use Rattle.group_inherit.specs.Flattening.{TokenAt}
use Rattle.alias_ref.specs.Answer.{IsResolved, MeansAsAt}
use Rattle.alias_ref.specs.Laws.{Flat, OneMeaning}
use Rattle.alias_ref.specs.Meaning.{Means}
use Rattle.alias_ref.specs.Written.{whole, written_in}
use Rattle.alias_ref.specs.declared.resolved.Resolved.{Resolved}
use Rattle.composite_rules.specs.Value.{value_of}
use Rattle.composite_rules.specs.declared.typed.Typed.{Typed}
use Rattle.transforms.specs.Config.{Settings}
use Rattle.token_cells.specs.Cell.{TokenPath}
use Rattle.token_cells.specs.declared.typing.TypedValue.{TypedValue}
use Rattle.token_cells.specs.inner.Typing.{TypedList, typed_at, IsTypedAt, AreStill, IsKeptTyped, AreTyped}

same_some : {A : Type 0} {x y : A} → Some x ≡ Some y → x ≡ y
same_some {x = x} e = ap (λ o. elim o [ Some y ↦ y | None ↦ x ]) e

pub none_typed : (flat : Flat) (settings : Settings) (known : TypedList) → known ≡ [] → AreTyped flat settings known
none_typed flat settings known none i x token v is at means =
    let no : None ≡ Some x = subst (λ (k : TypedList). typed_at k i ≡ Some x) none is in
    cc

-- a token has the value that is known of one that means the same
pub typed_of : (flat : Flat) (settings : Settings) (known : TypedList) (place : ℕ) (kind : Kind) (typed : Typed) (path : TokenPath) (r : Resolved)
    → AreTyped flat settings known → IsTypedAt known place kind typed → MeansAsAt flat path place → IsResolved flat path r → value_of settings.legacy kind (plain_view r.plain.value) ≡ Ok typed
typed_of flat settings known place kind typed path r right (x, at, under, its) m h =
    let v = plain_view r.plain.value in
    let there = right place x m.0 v at m.1 ((m.2 v).0 h.meaning) in
    subst (λ k. value_of settings.legacy k v ≡ Ok typed) under (there ∙ ap Ok its)

-- .. which is known of it further on
pub typed_more : OneMeaning → (flat : Flat) (settings : Settings) (old new : TypedList) (place : ℕ) (kind : Kind) (typed : Typed) (path : TokenPath) (r : Resolved)
    → AreTyped flat settings old → IsKeptTyped old new place kind typed → MeansAsAt flat path place → IsResolved flat path r → value_of settings.legacy kind (plain_view r.plain.value) ≡ Ok typed
    → AreTyped flat settings new
typed_more once flat settings old new place kind typed path r right kept m h found i x token v is at meant =
    elim (kept i x is) as (λ _. value_of settings.legacy x.kind v ≡ Ok x.typed.value) [
      | inl (here, under, its) ↦
          let one : m.0 ≡ token = same_some (sym m.1 ∙ subst (λ k. slice_get (finite.entries flat) k ≡ Some token) (sym here) at) in
          let own : Means (written_in flat) (whole m.0.0) v = subst (λ (t : TokenAt). Means (written_in flat) (whole t.0) v) (sym one) meant in
          let same : plain_view r.plain.value ≡ v = once (written_in flat) (whole path) (plain_view r.plain.value) v h.meaning ((m.2 v).1 own) in
          subst (λ k. value_of settings.legacy k v ≡ Ok x.typed.value) (sym under) (subst (λ w. value_of settings.legacy kind w ≡ Ok x.typed.value) same (found ∙ ap Ok (sym its)))
      | inr was ↦ right i x token v was at meant
    ]

pub still_typed : (flat : Flat) (settings : Settings) (old new : TypedList) → AreTyped flat settings old → AreStill old new → AreTyped flat settings new
still_typed flat settings old new right still i x token v is at means = right i x token v (still i x is) at means

-- no more is known behind the end
pub none_behind : (known : TypedList) → AreStill known (known ++ None ∷ [])
none_behind [] zero x e = cc
none_behind [] (suc i) x e = cc
none_behind (k ∷ ks) zero x e = e
none_behind (k ∷ ks) (suc i) x e = none_behind ks i x e

pub still_more : (old middle new : TypedList) → AreStill old middle → AreStill middle new → AreStill old new
still_more old middle new first second i x e = first i x (second i x e)

set_typed : (known : TypedList) (j i : ℕ) (x y : TypedValue) → typed_at (set known j (Some y)) i ≡ Some x → ((j ≡ i) × (y ≡ x)) ⊎ (typed_at known i ≡ Some x)
set_typed [] j i x y e = inr e
set_typed (k ∷ ks) zero zero x y e = inl (refl, same_some e)
set_typed (k ∷ ks) zero (suc i) x y e = inr e
set_typed (k ∷ ks) (suc j) zero x y e = inr e
set_typed (k ∷ ks) (suc j) (suc i) x y e = elim (set_typed ks j i x y e) [
  | inl (same, is) ↦ inl (ap suc same, is)
  | inr was ↦ inr was
]

-- one more is known at a place
pub kept_typed : (old middle : TypedList) (j : ℕ) (y : TypedValue) → AreStill old middle → IsKeptTyped old (set middle j (Some y)) j y.kind y.typed.value
kept_typed old middle j y still i x e = elim (set_typed middle j i x y e) as (λ _. ((j ≡ i) × (x.kind ≡ y.kind) × (x.typed.value ≡ y.typed.value)) ⊎ (typed_at old i ≡ Some x)) [
  | inl (same, is) ↦ inl (same, sym (ap (λ (z : TypedValue). z.kind) is), sym (ap (λ (z : TypedValue). z.typed.value) is))
  | inr was ↦ inr (still i x was)
]
