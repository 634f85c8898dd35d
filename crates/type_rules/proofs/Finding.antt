-- Parts under names and at places.
use Rattle.std.proofs.Common.{◌≡◌, ℕ, List, Result, Ok}
use Rattle.std.specs.Prelude.{IfOk, IfErr, IsErrAnd, slice_get}
use Rattle.std.specs.Fmt.{decimal}
use Rattle.json_span.specs.PlainView.{Value, ValueEntry}
use Rattle.type_rules.specs.declared.fault.ValueFault.{ValueFault}
use Rattle.type_rules.specs.declared.fault.ValueRule.TheVariants.{ValueShape}
use Rattle.type_rules.specs.Checked.{Checked, or_broken, under}
use Rattle.type_rules.specs.Answer.{IsBreak, IsOutside}
use Rattle.type_rules.specs.Forms.{named, member, item}
use Rattle.type_rules.proofs.Breaks.{stays, next_ok, next_broken, under_ok, under_broken}

module _ {A : Type 0} (check : Value → Checked A) where
  -- a member that is missing
  pub missing : {T : Type 0} (name : List ℕ) (es : List ValueEntry) (x : ValueFault) (r : Result T ValueFault) → IsErrAnd r (λ e. e ≡ x) → IsBreak (or_broken ValueShape (named name es)) x → IfErr r (IsBreak (member check name es))
  unfolding member
  missing name es x r h b = stays (or_broken ValueShape (named name es)) (λ v. under name (check v)) x r h b

  -- a member, checked
  pub member_ok : (name : List ℕ) (es : List ValueEntry) (v : Value) (found r : Result A ValueFault) → or_broken ValueShape (named name es) ≡ Ok v → IfOk found (λ x. check v ≡ Ok x) → IfOk found (λ x. r ≡ Ok x) → IfErr found (λ e. IsErrAnd r (IsOutside name e)) → IfOk r (λ x. member check name es ≡ Ok x)
  unfolding member
  member_ok name es v found r e is same err = next_ok (or_broken ValueShape (named name es)) (λ v. under name (check v)) v r e (under_ok (check v) name found r is same err)

  pub member_broken : (name : List ℕ) (es : List ValueEntry) (v : Value) (found r : Result A ValueFault) → or_broken ValueShape (named name es) ≡ Ok v → IfErr found (IsBreak (check v)) → IfOk found (λ x. r ≡ Ok x) → IfErr found (λ e. IsErrAnd r (IsOutside name e)) → IfErr r (IsBreak (member check name es))
  unfolding member
  member_broken name es v found r e is same err = next_broken (or_broken ValueShape (named name es)) (λ v. under name (check v)) v r e (under_broken (check v) name found r is same err)

  -- the same of items
  pub no_item : {T : Type 0} (i : ℕ) (vs : List Value) (x : ValueFault) (r : Result T ValueFault) → IsErrAnd r (λ e. e ≡ x) → IsBreak (or_broken ValueShape (slice_get vs i)) x → IfErr r (IsBreak (item check i vs))
  unfolding item
  no_item i vs x r h b = stays (or_broken ValueShape (slice_get vs i)) (λ v. under (decimal i) (check v)) x r h b

  pub item_ok : (i : ℕ) (vs : List Value) (v : Value) (r : Result A ValueFault) → or_broken ValueShape (slice_get vs i) ≡ Ok v → IfOk r (λ x. under (decimal i) (check v) ≡ Ok x) → IfOk r (λ x. item check i vs ≡ Ok x)
  unfolding item
  item_ok i vs v r e is = next_ok (or_broken ValueShape (slice_get vs i)) (λ v. under (decimal i) (check v)) v r e is

  pub item_broken : (i : ℕ) (vs : List Value) (v : Value) (r : Result A ValueFault) → or_broken ValueShape (slice_get vs i) ≡ Ok v → IfErr r (IsBreak (under (decimal i) (check v))) → IfErr r (IsBreak (item check i vs))
  unfolding item
  item_broken i vs v r e is = next_broken (or_broken ValueShape (slice_get vs i)) (λ v. under (decimal i) (check v)) v r e is
