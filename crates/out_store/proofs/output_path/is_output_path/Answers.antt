use Rattle.std.proofs.Common.{inl, inr, ◌∙◌, ap, bytes_eq, sym}
use Rattle.out_store.proofs.Deciding.{decided_yes, first_decided, last_decided}
use Rattle.out_store.proofs.output_path.is_output_path.Goals as goal

pub returns-then-eq : goal.returns-then-eq
returns-then-eq c = first_decided c.args.path.now (ap (bytes_eq c.args.path.now) (sym c.as_slice.ensures) ∙ (sym c.eq.ensures ∙ c.if-eq.true))

pub returns-then-is_file_of : goal.returns-then-is_file_of
returns-then-is_file_of c = decided_yes (inr (inl (c.is_file_of.ensures.0 c.if-is_file_of.true)))

pub returns-then-is_file_of-2 : goal.returns-then-is_file_of-2
returns-then-is_file_of-2 c = decided_yes (inr (inr (inl (c.is_file_of-2.ensures.0 c.if-is_file_of-2.true))))

pub returns-then-is_file_of-3 : goal.returns-then-is_file_of-3
returns-then-is_file_of-3 c = decided_yes (inr (inr (inr (inl (c.is_file_of-3.ensures.0 c.if-is_file_of-3.true)))))

pub returns-then-is_file_of-4 : goal.returns-then-is_file_of-4
returns-then-is_file_of-4 c = decided_yes (inr (inr (inr (inr (inl (c.is_file_of-4.ensures.0 c.if-is_file_of-4.true))))))

pub returns : goal.returns
returns c =
    last_decided c.args.path.now _ _ _ _ c.is_file_of-5.result (ap (bytes_eq c.args.path.now) (sym c.as_slice.ensures) ∙ (sym c.eq.ensures ∙ c.if-eq.false))
    c.is_file_of.ensures c.if-is_file_of.false c.is_file_of-2.ensures c.if-is_file_of-2.false
    c.is_file_of-3.ensures c.if-is_file_of-3.false c.is_file_of-4.ensures c.if-is_file_of-4.false
    c.is_file_of-5.ensures
