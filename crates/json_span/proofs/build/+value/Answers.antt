use Rattle.std.proofs.Common.{◌≡◌, ℕ, [], true, refl, sym, ◌∙◌, arith, rules, append-nil, Ok}
use Rattle.std.proofs.lemmas.Result.{err_from_is_err_and}
use Rattle.json_span.specs.Predictive.{square, curly}
use Rattle.json_span.specs.inner.Alternatives.{bracket_of}
use Rattle.json_span.specs.inner.Scan.{rule_of}
use Rattle.json_span.specs.declared.alternative.Bracket.TheVariants.{Square, Curly}
use Rattle.json_span.specs.declared.alternative.Alternative.TheVariants.{Scalar}
use Rattle.json_span.specs.declared.build.Built.{Built}
use Rattle.json_span.specs.declared.stop.Stop.TheVariants.{Syntax}
use Rattle.json_span.proofs.Skips as skip
use Rattle.json_span.proofs.AlternativesRead.{value_scan, value_stops, no_value}
use Rattle.json_span.proofs.Lists as list
use Rattle.json_span.proofs.MemberLists as members
use Rattle.json_span.proofs.Naming.{named_at}
use Rattle.json_span.proofs.Gives as gives
use Rattle.json_span.proofs.build.+value.Goals.{build_object-In_ok-built}
use Rattle.json_span.proofs.build.+value.Goals as goal

pub build_array-loop-end-init : goal.build_array-loop-end-init
build_array-loop-end-init t c = record {
  within = c.requires.1.1.0.blanks.within_text;
  leads = list.open_leads c.args.text.now Square c.args.at c.args.inner c.requires.1.1.0;
  elements = record { items = []; left = list.elements_start c.args.text.now c.args.room c.args.inner; made = c.in_ok-push.ensures.items };
  index = search rules;
  same = refl;
  small = gives.opened_small c.args.text.now c.args.at c.args.inner c.args.nodes.now.items _ _ c.requires.1.1.1 c.requires.1.1.0.blanks c.in_ok-push.ensures.items;
}

pub build_array-returns-in_err-end-clause-stop : goal.build_array-returns-in_err-end-clause-stop
build_array-returns-in_err-end-clause-stop t c =
    let l = c.loop-end in
    let p = err_from_is_err_and c.from_residual-in_err-end.result c.from_residual-in_err-end.ensures.1 in
    rw (p.1, p.2) (list.bad_value c.args.text.now square c.args.at l.next l.invariant.leads c.in_err-end.field-0.0 (gives.nothing_before l.invariant.within) c.in_err-end.ensures.stop)

pub build_array-returns-in_err-end-in-Flawed-clause-stop : goal.build_array-returns-in_err-end-in-Flawed-clause-stop
build_array-returns-in_err-end-in-Flawed-clause-stop t c =
    let l = c.loop-end in
    let nothing = gives.nothing_before l.invariant.within in
    let b = gives.built_as c.in-Flawed.is c.in_ok-end.ensures.ok in
    let p = err_from_is_err_and c.from_residual-in_err-end-in-Flawed.result c.from_residual-in_err-end-in-Flawed.ensures.1 in
    rw (p.1, p.2) (list.bad_rest c.args.text.now square c.args.at l.next l.invariant.leads c.in_err-end-in-Flawed.field-0.0 nothing b.reads c.in_err-end-in-Flawed.ensures.stop)

pub build_array-returns-in-Flawed-clause-ok : goal.build_array-returns-in-Flawed-clause-ok
build_array-returns-in-Flawed-clause-ok t c =
    let held = c.loop-end.invariant in
    gives.array_flawed c.requires.1.1.0 held.leads held.elements held.within (gives.built_as c.in-Flawed.is c.in_ok-end.ensures.ok) c.in_ok-end-in-Flawed.ensures.end

pub build_array-returns-in_err-item-clause-stop : goal.build_array-returns-in_err-item-clause-stop
build_array-returns-in_err-item-clause-stop t c =
    let l = c.loop-end in
    let nothing = gives.nothing_before l.invariant.within in
    let b = gives.built_as c.in-Whole.is c.in_ok-end.ensures.ok in
    let p = err_from_is_err_and c.from_residual-in_err-item.result c.from_residual-in_err-item.ensures.1 in
    rw (p.1, p.2) (list.bad_rest c.args.text.now square c.args.at l.next l.invariant.leads (Syntax c.in_err-item.field-0.0) nothing b.reads c.in_err-item.ensures.stop)

pub build_array-loop-end-preserved : goal.build_array-loop-end-preserved
build_array-loop-end-preserved t c =
    let held = c.loop-end.invariant in
    let b = gives.built_as c.in-Whole.is c.in_ok-end.ensures.ok in
    let comma = gives.comma_as square c.in-Item.is c.in_ok-item.ensures.ok in
    let (h, leads, left, more) = gives.array_next c.requires.1.1.0 held.leads held.elements held.within b comma in
    record { within = h; leads = leads; elements = left; index = search rules; same = c.in_ok-end.ensures.names ∙ held.same; small = gives.small_after c.in-Whole.end held.small b.kept.1 comma }

pub build_array-loop-end-smaller : goal.build_array-loop-end-smaller
build_array-loop-end-smaller t c =
    let held = c.loop-end.invariant in
    let b = gives.built_as c.in-Whole.is c.in_ok-end.ensures.ok in
    let comma = gives.comma_as square c.in-Item.is c.in_ok-item.ensures.ok in
    let more = (gives.array_next c.requires.1.1.0 held.leads held.elements held.within b comma).3 in
    omega arith

pub build_array-returns-in-Closed-clause-ok : goal.build_array-returns-in-Closed-clause-ok
build_array-returns-in-Closed-clause-ok t c =
    let held = c.loop-end.invariant in
    let b = gives.built_as c.in-Whole.is c.in_ok-end.ensures.ok in
    let close = gives.close_as c.in-Closed.is c.in_ok-item.ensures.ok in
    gives.array_whole c.requires.1.1.0 held.leads held.elements held.within b close (search rules)

pub build_list-returns-then-room-eq0-clause-ok : goal.build_list-returns-then-room-eq0-clause-ok
build_list-returns-then-room-eq0-clause-ok t c =
    gives.gives_deep (bracket_of c.args.bracket) c.if-room-eq0.true (omega (arith, c.requires.1.1.0)) c.requires.1.1.1.0 c.in_ok-end.ensures.end

pub build_list-returns-then-has-clause-ok : goal.build_list-returns-then-has-clause-ok
build_list-returns-then-has-clause-ok t c =
    gives.gives_empty c.args.bracket c.requires.1.1.1.1 c.if-room-eq0.false c.requires.1.1.0 c.requires.1.1.1.0 c.blanks_end-inner.ensures c.if-has.ensures.bound
    (skip.close_sees c.args.text.now [] c.args.bracket (rule_of c.close.result) c.blanks_end-inner.result true c.close.ensures (sym c.if-has.ensures.test)) (search rules)

pub build_list-build_array-requires : goal.build_list-build_array-requires
build_list-build_array-requires t c =
    let opened = gives.opens_as c.in-Square.is c.requires.1.1.0 c.requires.1.1.1.0 c.blanks_end-inner.ensures c.close.ensures c.if-has.ensures.test in
    (search rules, (opened, c.requires.1.1.1.1))

pub build_list-build_object-requires : goal.build_list-build_object-requires
build_list-build_object-requires t c =
    let opened = gives.opens_as c.in-Curly.is c.requires.1.1.0 c.requires.1.1.1.0 c.blanks_end-inner.ensures c.close.ensures c.if-has.ensures.test in
    (search rules, (opened, c.requires.1.1.1.1))

pub build_value-returns-in_ok-push-in-Some-Scalar-clause-ok : goal.build_value-returns-in_ok-push-in-Some-Scalar-clause-ok
build_value-returns-in_ok-push-in-Some-Scalar-clause-ok t c =
    let T = c.args.text.now in
    let end = c.in_ok-end-in-Some-Scalar.end in
    gives.gives_scalar c.in-Some-Scalar.scalar c.requires.1.1.0 c.requires.1.1.1 c.in_ok-end-in-Some-Scalar.ensures
    (value_scan T c.args.at (Scalar c.in-Some-Scalar.scalar) (Ok end) (rw c.in-Some-Scalar.field-0-is at c.in-Some-Scalar.ensures.found) c.in_ok-end-in-Some-Scalar.ensures) (search rules)

pub build_value-returns-in_err-end-in-Some-Scalar-clause-stop : goal.build_value-returns-in_err-end-in-Some-Scalar-clause-stop
build_value-returns-in_err-end-in-Some-Scalar-clause-stop t c =
    let T = c.args.text.now in
    let stop = c.in_err-end-in-Some-Scalar.field-0.0 in
    let p = err_from_is_err_and c.from_residual.result c.from_residual.ensures.1 in
    rw (p.1, p.2) (value_stops T c.args.at (Scalar c.in-Some-Scalar.scalar) (Syntax stop) (rw c.in-Some-Scalar.field-0-is at c.in-Some-Scalar.ensures.found) c.in_err-end-in-Some-Scalar.ensures)

pub build_value-returns-in-None-clause-stop : goal.build_value-returns-in-None-clause-stop
build_value-returns-in-None-clause-stop t c = no_value c.args.text.now c.args.at c.requires.1.1.0 c.in-None.ensures.none

pub build_object-loop-front-init : goal.build_object-loop-front-init
build_object-loop-front-init t c = record {
  within = c.requires.1.1.0.blanks.within_text;
  leads = list.open_leads c.args.text.now Curly c.args.at c.args.inner c.requires.1.1.0;
  members = record {
    fields = [];
    left = members.members_start c.args.text.now c.args.room c.args.inner;
    made = c.in_ok-push.ensures.items;
    own = [];
    behind = sym (append-nil c.args.names.now.items);
    are = tt;
  };
  base = search rules;
  index = search rules;
  small = gives.opened_small c.args.text.now c.args.at c.args.inner c.args.nodes.now.items _ _ c.requires.1.1.1 c.requires.1.1.0.blanks c.in_ok-push.ensures.items;
}

pub build_object-returns-in_err-front-clause-stop : goal.build_object-returns-in_err-front-clause-stop
build_object-returns-in_err-front-clause-stop t c =
    let l = c.loop-front in
    let p = err_from_is_err_and c.from_residual-in_err-front.result c.from_residual-in_err-front.ensures.1 in
    rw (p.1, p.2) (list.bad_front c.args.text.now curly c.args.at l.next l.invariant.leads c.in_err-front.field-0.0 c.in_err-front.ensures.stop)

pub build_object-returns-in_err-built-clause-stop : goal.build_object-returns-in_err-built-clause-stop
build_object-returns-in_err-built-clause-stop t c =
    let l = c.loop-front in
    let before = gives.name_before c.in_ok-front.ensures.own.reads c.in_ok-front.ensures.colon in
    let p = err_from_is_err_and c.from_residual-in_err-built.result c.from_residual-in_err-built.ensures.1 in
    rw (p.1, p.2) (list.bad_value c.args.text.now curly c.args.at l.next l.invariant.leads c.in_err-built.field-0.0 before c.in_err-built.ensures.stop)

-- a turn that read a member, under the arm of what its value was built as
turn : (t : ℕ) (c : build_object-In_ok-built t) {b : Built} → c.in_ok-built.built ≡ b →
    gives.ObjectTurn c.args.text.now c.args.room c.args.at c.args.inner c.loop-front.next c.args.name c.args.name_end
    c.args.nodes.now.items c.build_value.new.nodes.items c.args.names.now.items c.build_value.new.names.items b
turn t c is =
    let held = c.loop-front.invariant in
    let own = c.in_ok-front.ensures.own in
    record {
      nodes = c.loop-front.nodes.items;
      names = c.loop-front.names.items;
      opens = c.requires.1.1.0;
      leads = held.leads;
      before = held.members;
      within_text = held.within;
      n = c.in_ok-front.front.own;
      value_start = c.in_ok-front.front.value;
      own = named_at c.args.text.now c.loop-front.next c.in_ok-front.front.own own;
      reads = own.reads;
      colon = c.in_ok-front.ensures.colon;
      built = gives.built_at own.start is c.in_ok-built.ensures.ok;
      pushed = c.in_ok-built.ensures.names ∙ c.in_ok-front.ensures.names;
    }

pub build_object-returns-in_err-end-in-Flawed-clause-stop : goal.build_object-returns-in_err-end-in-Flawed-clause-stop
build_object-returns-in_err-end-in-Flawed-clause-stop t c =
    let r = turn t (goal.at.build_object-returns-in_err-end-in-Flawed-clause-stop t c).In_ok-built c.in-Flawed.is in
    let p = err_from_is_err_and c.from_residual-in_err-end-in-Flawed.result c.from_residual-in_err-end-in-Flawed.ensures.1 in
    rw (p.1, p.2) (gives.rest_stops r c.in_err-end-in-Flawed.field-0.0 c.in_err-end-in-Flawed.ensures.stop)

pub build_object-returns-in-Flawed-clause-ok : goal.build_object-returns-in-Flawed-clause-ok
build_object-returns-in-Flawed-clause-ok t c =
    let r = turn t (goal.at.build_object-returns-in-Flawed-clause-ok t c).In_ok-built c.in-Flawed.is in
    let told = c.in_ok-first-in-Flawed.ensures.flaw _ (gives.names_read r c.loop-front.invariant.base) in
    rw c.unwrap_or.ensures (gives.object_flawed r c.in_ok-first-in-Flawed.first told c.in_ok-end-in-Flawed.ensures.end)

pub build_object-returns-in_err-item-clause-stop : goal.build_object-returns-in_err-item-clause-stop
build_object-returns-in_err-item-clause-stop t c =
    let r = turn t (goal.at.build_object-returns-in_err-item-clause-stop t c).In_ok-built c.in-Whole.is in
    let p = err_from_is_err_and c.from_residual-in_err-item.result c.from_residual-in_err-item.ensures.1 in
    rw (p.1, p.2) (gives.rest_stops r (Syntax c.in_err-item.field-0.0) c.in_err-item.ensures.stop)

pub build_object-loop-front-preserved : goal.build_object-loop-front-preserved
build_object-loop-front-preserved t c =
    let r = turn t (goal.at.build_object-loop-front-preserved t c).In_ok-built c.in-Whole.is in
    let held = c.loop-front.invariant in
    let comma = gives.comma_as curly c.in-Item.is c.in_ok-item.ensures.ok in
    let (h, leads, left, more) = gives.object_next r comma in
    record { within = h; leads = leads; members = left; base = held.base; index = search rules; small = gives.small_after c.in-Whole.end held.small r.built.kept.1 comma }

pub build_object-loop-front-smaller : goal.build_object-loop-front-smaller
build_object-loop-front-smaller t c =
    let r = turn t (goal.at.build_object-loop-front-smaller t c).In_ok-built c.in-Whole.is in
    let (h, leads, left, more) = gives.object_next r (gives.comma_as curly c.in-Item.is c.in_ok-item.ensures.ok) in
    omega (arith, h, more)

pub build_object-close_names-requires-clause-are : goal.build_object-close_names-requires-clause-are
build_object-close_names-requires-clause-are t c =
    let r = turn t (goal.at.build_object-close_names-requires-clause-are t c).In_ok-built c.in-Flawed.is in
    (_, gives.names_read r c.loop-front.invariant.base)

pub build_object-close_names-requires-in-Closed-clause-are : goal.build_object-close_names-requires-in-Closed-clause-are
build_object-close_names-requires-in-Closed-clause-are t c =
    let r = turn t (goal.at.build_object-close_names-requires-in-Closed-clause-are t c).In_ok-built c.in-Whole.is in
    (_, gives.names_read r c.loop-front.invariant.base)

pub build_object-returns-in-Some-clause-ok : goal.build_object-returns-in-Some-clause-ok
build_object-returns-in-Some-clause-ok t c =
    let r = turn t (goal.at.build_object-returns-in-Some-clause-ok t c).In_ok-built c.in-Whole.is in
    let told = c.in_ok-again-in-Closed.ensures.flaw _ (gives.names_read r c.loop-front.invariant.base) in
    gives.object_again r (gives.close_as c.in-Closed.is c.in_ok-item.ensures.ok) (gives.told_as c.in-Some.is told)

pub build_object-returns-in-Closed-clause-ok : goal.build_object-returns-in-Closed-clause-ok
build_object-returns-in-Closed-clause-ok t c =
    let r = turn t (goal.at.build_object-returns-in-Closed-clause-ok t c).In_ok-built c.in-Whole.is in
    let told = c.in_ok-again-in-Closed.ensures.flaw _ (gives.names_read r c.loop-front.invariant.base) in
    gives.object_whole r (gives.close_as c.in-Closed.is c.in_ok-item.ensures.ok) (gives.told_as c.in_default.is told) (search rules)
