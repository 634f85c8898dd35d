-- The test of two raw entries decides whether they are the same.
use Rattle.std.proofs.Common.{◌≡◌, Bool, true, false, ◌&&◌, not, Option, Some, None, refl, sym, ap, ◌∙◌}
use Rattle.std.specs.Bool.{Decides}
use Rattle.std.specs.Option.{option_eq}
use Rattle.std.specs.Str.{bytes_eq}
use Rattle.std.proofs.lemmas.Slice.Eq.{bytes_eq-Decides}
use Rattle.name_path.specs.Kinds.{kind_name}
use Rattle.name_path.specs.declared.kind.Kind.{Kind}
use Rattle.token_tree.specs.Texts.{kind_named}
use Rattle.token_tree.specs.declared.mark.Mark.{Mark}
use Rattle.token_tree.specs.declared.mark.Mark.TheVariants.{No, Yes, Because}
use Rattle.token_tree.proofs.Names.{and_left, and_right, and_both, kind_found}
use Rattle.alias_ref.specs.Unchanged.{Raw, same_kind, same_mark, same_raw, DifferDecides}

option_decides : {A : Type 0} {E : A → A → Bool} → ((x y : A) → Decides (E x y) (x ≡ y)) → (o p : Option A) → Decides (option_eq E o p) (o ≡ p)
option_decides d None None = (λ _. refl, λ _. refl)
option_decides d None (Some y) = (λ h. absurd (cc), λ e. cc)
option_decides d (Some x) None = (λ h. absurd (cc), λ e. cc)
option_decides d (Some x) (Some y) = (λ h. ap Some ((d x y).0 h), λ e. (d x y).1 (cc))

kinds_decide : (k l : Kind) → Decides (same_kind k l) (k ≡ l)
kinds_decide k l = (
  λ h. (let named : Some k ≡ Some l = sym (kind_found k) ∙ ap kind_named ((bytes_eq-Decides (kind_name k) (kind_name l)).0 h) ∙ kind_found l in cc),
  λ e. (bytes_eq-Decides (kind_name k) (kind_name l)).1 (ap kind_name e),
)

marks_decide : (m n : Mark) → Decides (same_mark m n) (m ≡ n)
marks_decide No No = (λ _. refl, λ _. refl)
marks_decide No Yes = (λ h. absurd (cc), λ e. cc)
marks_decide No (Because t) = (λ h. absurd (cc), λ e. cc)
marks_decide Yes No = (λ h. absurd (cc), λ e. cc)
marks_decide Yes Yes = (λ _. refl, λ _. refl)
marks_decide Yes (Because t) = (λ h. absurd (cc), λ e. cc)
marks_decide (Because s) No = (λ h. absurd (cc), λ e. cc)
marks_decide (Because s) Yes = (λ h. absurd (cc), λ e. cc)
marks_decide (Because s) (Because t) = (λ h. ap Because ((bytes_eq-Decides s t).0 h), λ e. (bytes_eq-Decides s t).1 (cc))

raws_decide : (a b : Raw) → Decides (same_raw a b) (a ≡ b)
raws_decide a b =
    let source = bytes_eq-Decides a.source b.source in
    let kinds = option_decides kinds_decide a.group_kind b.group_kind in
    let marks = option_decides marks_decide a.group_mark b.group_mark in
    let behind : Bool = option_eq same_kind a.group_kind b.group_kind && option_eq same_mark a.group_mark b.group_mark in (
      λ h. (let rest = and_right (bytes_eq a.source b.source) behind h in
          let s = source.0 (and_left (bytes_eq a.source b.source) behind h) in
          let k = kinds.0 (and_left (option_eq same_kind a.group_kind b.group_kind) _ rest) in
          let m = marks.0 (and_right (option_eq same_kind a.group_kind b.group_kind) _ rest) in
          λ i. record { source = s i; group_kind = k i; group_mark = m i }),
      λ e. and_both (bytes_eq a.source b.source) behind (source.1 (ap (λ r. r.source) e))
          (and_both (option_eq same_kind a.group_kind b.group_kind) _ (kinds.1 (ap (λ r. r.group_kind) e)) (marks.1 (ap (λ r. r.group_mark) e))),
    )

not_false : (b : Bool) → not b ≡ false → b ≡ true
not_false true h = refl
not_false false h = cc

pub differ_decides : DifferDecides
differ_decides a b = (λ h. (option_decides raws_decide a b).0 (not_false (option_eq same_raw a b) h), λ e. ap not ((option_decides raws_decide a b).1 e))
