use Rattle.std.proofs.Common.{◌≡◌, ℕ, suc, ◌++◌, true, false, arith, List, [], sym, ap, subst, ◌∙◌}
use Rattle.std.specs.FinMap as map
use Rattle.std.specs.Prelude.{slice_get}
use Rattle.std.proofs.lemmas.List.{append-nil}
use Rattle.std.proofs.lemmas.Result.{err_from_is_err_and}
use Rattle.tk_io.specs.Order.{text_cmp}
use Rattle.json_span.specs.Tree.{Entry, members_of}
use Rattle.json_span.specs.View.{ref_view, field_view, fields_view}
use Rattle.token_tree.specs.Answer.{IsObjectOf}
use Rattle.token_tree.specs.inner.Outcomes.{NamesDiffer}
use Rattle.token_tree.specs.Tree.{a_token}
use Rattle.std.specs.Str.{bytes_eq}
use Rattle.name_path.specs.Names.{root_name}
use Rattle.token_tree.specs.Shape.{are_token, token_breaks, group_breaks, group_member_breaks, child_breaks}
use Rattle.token_tree.specs.inner.Outcomes.{breaks_under}
use Rattle.token_tree.specs.MembersView.{entries_of}
use Rattle.token_tree.specs.inner.Lists.{KeysAreApart}
use Rattle.token_tree.specs.declared.tree.Member.{Member}
use Rattle.token_tree.proofs.Children.{children_in, children_apart, one_read, put_all}
use Rattle.token_tree.proofs.Groups.{object_is, group_child, token_child, first_under, token_under, first_root, group_under}
use Rattle.token_tree.proofs.NamesStand.{names_stand}
use Rattle.token_tree.proofs.Places.{members_stand, names_differ}
use Rattle.token_tree.proofs.Sound.{first_stays, first_of}
use Rattle.token_tree.proofs.Weights.{tree_weight, members_weight, weight_of}
use Rattle.token_tree.proofs.group.+group.Goals as goal

pub read_child-among-requires : goal.read_child-among-requires
read_child-among-requires t c =
    let es = fields_view c.in-Some.fields in
    names_stand c.args.text.now (ref_view c.args.node) es (object_is (sym c.in-Some.ensures)) c.requires.1.1

pub read_child-read_object-requires : goal.read_child-read_object-requires
read_child-read_object-requires t c =
    let es = fields_view c.in-Some.fields in
    let are : IsObjectOf (ref_view c.args.node) es = object_is (sym c.in-Some.ensures) in
    (omega (arith, ap tree_weight are, weight_of (ref_view c.args.node)), (c.requires.1.1, (are, c.in_ok-listed.ensures)))

pub read_child-returns-in_default-clause-broken : goal.read_child-returns-in_default-clause-broken
read_child-returns-in_default-clause-broken t c =
    first_under c.args.name.now (ref_view c.args.node) c.rule_under.result c.start.result c.end.result c.in_default.ensures c.rule_under.ensures c.start.ensures c.end.ensures

pub read_object-read_members-requires : goal.read_object-read_members-requires
read_object-read_members-requires t c =
    let n = ref_view c.args.node in
    let es = fields_view c.args.fields.now in
    (omega arith, (members_stand c.args.text.now n es c.requires.1.1.1.0 c.requires.1.1.0, names_differ c.args.text.now n es c.requires.1.1.1.0 c.requires.1.1.0))

pub read_object-returns-in_err-def-clause-broken : goal.read_object-returns-in_err-def-clause-broken
read_object-returns-in_err-def-clause-broken t c =
    let n = ref_view c.args.node in
    let es = fields_view c.args.fields.now in
    let are : IsObjectOf n es = c.requires.1.1.1.0 in
    let some : are_token es ≡ true = sym (c.are_token.ensures es c.requires.1.1.1.1) ∙ c.if-are_token.true in
    let p = err_from_is_err_and c.from_residual.result c.from_residual.ensures.1 in
    rw (p.1, p.2) (first_of (token_breaks es) (breaks_under c.args.name.now n) _ (sym (token_under c.args.name.now n es are some)) c.in_err-def.ensures.broken)

pub read_object-returns-then-are_token-clause-sound : goal.read_object-returns-then-are_token-clause-sound
read_object-returns-then-are_token-clause-sound t c =
    let n = ref_view c.args.node in
    let es = fields_view c.args.fields.now in
    let are : IsObjectOf n es = c.requires.1.1.1.0 in
    let some : are_token es ≡ true = sym (c.are_token.ensures es c.requires.1.1.1.1) ∙ c.if-are_token.true in
    token_under c.args.name.now n es are some ∙ c.in_ok-def.ensures.sound

pub read_object-returns-then-is_word-clause-broken : goal.read_object-returns-then-is_word-clause-broken
read_object-returns-then-is_word-clause-broken t c =
    let n = ref_view c.args.node in
    let es = fields_view c.args.fields.now in
    let none : are_token es ≡ false = sym (c.are_token.ensures es c.requires.1.1.1.1) ∙ c.if-are_token.false in
    first_root c.args.name.now n es c.start.result c.end.result (sym c.is_word.ensures ∙ c.if-is_word.true) c.requires.1.1.1.0 none c.start.ensures c.end.ensures

pub read_object-returns-in_err-members-clause-broken : goal.read_object-returns-in_err-members-clause-broken
read_object-returns-in_err-members-clause-broken t c =
    let n = ref_view c.args.node in
    let es = fields_view c.args.fields.now in
    let are : IsObjectOf n es = c.requires.1.1.1.0 in
    let none : are_token es ≡ false = sym (c.are_token.ensures es c.requires.1.1.1.1) ∙ c.if-are_token.false in
    let other : bytes_eq c.args.name.now root_name ≡ false = sym c.is_word.ensures ∙ c.if-is_word.false in
    let p = err_from_is_err_and c.from_residual-in_err-members.result c.from_residual-in_err-members.ensures.1 in
    rw (p.1, p.2) (first_of (group_breaks (members_of es)) (breaks_under c.args.name.now n) _ (sym (group_under c.args.name.now n es other are none)) c.in_err-members.ensures.broken)

pub read_object-returns-then-are_token-clause-ok : goal.read_object-returns-then-are_token-clause-ok
read_object-returns-then-are_token-clause-ok t c =
    let es = fields_view c.args.fields.now in
    let some : are_token es ≡ true = sym (c.are_token.ensures es c.requires.1.1.1.1) ∙ c.if-are_token.true in
    ap a_token c.in_ok-def.ensures.ok
    ∙ sym (token_child c.args.file.now c.args.text.now (ref_view c.args.node) es c.requires.1.1.1.0 some)

pub read_object-returns-clause-sound : goal.read_object-returns-clause-sound
read_object-returns-clause-sound t c =
    let n = ref_view c.args.node in
    let es = fields_view c.args.fields.now in
    let are : IsObjectOf n es = c.requires.1.1.1.0 in
    let none : are_token es ≡ false = sym (c.are_token.ensures es c.requires.1.1.1.1) ∙ c.if-are_token.false in
    let other : bytes_eq c.args.name.now root_name ≡ false = sym c.is_word.ensures ∙ c.if-is_word.false in
    group_under c.args.name.now n es other are none ∙ c.in_ok-members.ensures.sound

pub read_object-returns-clause-ok : goal.read_object-returns-clause-ok
read_object-returns-clause-ok t c =
    let n = ref_view c.args.node in
    let es = fields_view c.args.fields.now in
    let are : IsObjectOf n es = c.requires.1.1.1.0 in
    let none : are_token es ≡ false = sym (c.are_token.ensures es c.requires.1.1.1.1) ∙ c.if-are_token.false in
    c.in_ok-child.ensures c.args.text.now es c.requires.1.1.1.1 c.in_ok-members.ensures.ok
    ∙ sym (group_child c.args.file.now c.args.text.now n es are none)

pub read_members-read_member-requires : goal.read_members-read_member-requires
read_members-read_member-requires t c =
    let steps = c.in-Some.ensures.steps in
    let w = ap (λ l. members_weight (members_of l)) steps in
    (omega (arith, w, c.loop-field.invariant.lighter), c.loop-field.invariant.stand 0 (field_view c.in-Some.field) (ap (λ l. slice_get l 0) steps))

all_read : (list : List Member) (file text : List ℕ) (left es : List Entry) → left ≡ [] → entries_of list ++ children_in file text left ≡ children_in file text es → entries_of list ≡ children_in file text es
all_read list file text left es none h = sym (append-nil (entries_of list)) ∙ (ap (λ l. entries_of list ++ children_in file text l) (sym none) ∙ h)

pub read_members-from_list-requires : goal.read_members-from_list-requires
read_members-from_list-requires t c =
    let es = fields_view c.args.fields.now in
    let all = all_read c.loop-field.list.items c.args.file.now c.args.text.now (fields_view c.loop-field.field-iterator) es c.in-None.ensures.steps.0 c.loop-field.invariant.children in
    let differ : NamesDiffer es = c.requires.1.1.1 in
    subst (KeysAreApart text_cmp) (sym all) (children_apart c.args.file.now c.args.text.now differ.0 [] es differ.1)

pub read_members-returns-in_err-member-clause-broken : goal.read_members-returns-in_err-member-clause-broken
read_members-returns-in_err-member-clause-broken t c =
    let es = fields_view c.args.fields.now in
    let e = field_view c.in-Some.field in
    let here = group_member_breaks e (child_breaks e.value) in
    let rest = group_breaks (members_of (fields_view c.next.new.self)) in
    let p = err_from_is_err_and c.from_residual-in_err-member.result c.from_residual-in_err-member.ensures.1 in
    rw (p.1, p.2) (first_of (here ++ rest) (group_breaks (members_of es)) _ (sym (ap (λ l. group_breaks (members_of l)) c.in-Some.ensures.steps) ∙ c.loop-field.invariant.breaks)
    (first_stays here rest _ c.in_err-member.ensures.broken))

pub read_members-loop-field-preserved : goal.read_members-loop-field-preserved
read_members-loop-field-preserved t c =
    let steps = c.in-Some.ensures.steps in
    let e = field_view c.in-Some.field in
    let left = fields_view c.next.new.self in
    let w = ap (λ l. members_weight (members_of l)) steps in
    record {
      breaks = sym (ap (λ z. z ++ group_breaks (members_of left)) c.in_ok-member.ensures.sound)
          ∙ (sym (ap (λ l. group_breaks (members_of l)) steps) ∙ c.loop-field.invariant.breaks);
      children = one_read c.args.file.now c.args.text.now (entries_of c.loop-field.list.items) (entries_of c.push_some.new.list.items) e left (fields_view c.loop-field.field-iterator) _ _ steps
          c.in_ok-push_some.ensures c.in_ok-member.ensures.ok c.loop-field.invariant.children;
      stand = λ i f g. c.loop-field.invariant.stand (suc i) f (ap (λ l. slice_get l (suc i)) steps ∙ g);
      lighter = omega (arith, w, c.loop-field.invariant.lighter);
    }

pub read_members-returns-clause-ok : goal.read_members-returns-clause-ok
read_members-returns-clause-ok t c =
    let es = fields_view c.args.fields.now in
    let all = all_read c.loop-field.list.items c.args.file.now c.args.text.now (fields_view c.loop-field.field-iterator) es c.in-None.ensures.steps.0 c.loop-field.invariant.children in
    let differ : NamesDiffer es = c.requires.1.1.1 in
    c.in_ok-members.ensures ∙ (ap map.from_entries all ∙ put_all c.args.file.now c.args.text.now es (children_apart c.args.file.now c.args.text.now differ.0 [] es differ.1))
