-- What a cursor has ahead of it: its first element or member, and those that are left after a step.
use Rattle.std.proofs.Common.{◌≡◌, ℕ, ◌+◌, ◌<◌, ◌≤◌, [], sym, ap, subst}
use Rattle.json_span.specs.Tree.{Placed, Elements, an_element, Members, a_member, Entry, elements_in, entries_in}
use Rattle.json_span.specs.Table.{size, LiesIn, AllLieIn, MemberLiesIn, MembersLieIn}
use Rattle.json_span.specs.declared.table.Document.{Document}
use Rattle.json_span.specs.declared.items.Items.{Items}
use Rattle.json_span.specs.declared.fields.Fields.{Fields}
use Rattle.json_span.proofs.Lying.{none_left, one_left, no_member_left, member_left}

-- an element, and the others
pub record ElementAhead (d : Document) (at stop : ℕ) (ns : Elements) : Type 0 where
  pub element : Placed
  pub others : Elements
  pub lies : LiesIn d 0 0 at element
  pub left : AllLieIn d (at + size element) stop others
  pub whole : ns ≡ an_element element others

pub element_ahead : (i : Items) → i.at < i.stop → ElementAhead i.document.now.value i.at i.stop i.stand.0
element_ahead i h =
    let d = i.document.now.value in
    let (n, ns, lies, left, whole) = one_left d.text.now d.nodes.items i.at i.stop i.stand.0 i.stand.1 h in
    record { element = n; others = ns; lies = lies; left = left; whole = whole }

pub elements_after : (i : Items) (next : ℕ) (first : ElementAhead i.document.now.value i.at i.stop i.stand.0) → next ≡ i.at + size first.element →
    AllLieIn i.document.now.value next i.stop first.others
elements_after i next first same = subst (λ k. AllLieIn i.document.now.value k i.stop first.others) (sym same) first.left

pub no_element_ahead : (i : Items) → i.stop ≤ i.at → elements_in i.stand.0 ≡ []
no_element_ahead i h =
    let d = i.document.now.value in
    ap elements_in (none_left d.text.now d.nodes.items i.at i.stop i.stand.0 i.stand.1 h)

-- a member, and the others
pub record MemberAhead (d : Document) (at stop : ℕ) (ms : Members) : Type 0 where
  pub entry : Entry
  pub others : Members
  pub lies : MemberLiesIn d at entry
  pub left : MembersLieIn d (at + size entry.value) stop others
  pub whole : ms ≡ a_member entry.name entry.start entry.end entry.value others

pub member_ahead : (i : Fields) → i.at < i.stop → MemberAhead i.document.now.value i.at i.stop i.stand.0
member_ahead i h =
    let d = i.document.now.value in
    let (e, ms, lies, left, whole) = member_left d.text.now d.nodes.items i.at i.stop i.stand.0 i.stand.1 h in
    record { entry = e; others = ms; lies = lies; left = left; whole = whole }

pub members_after : (i : Fields) (next : ℕ) (first : MemberAhead i.document.now.value i.at i.stop i.stand.0) → next ≡ i.at + size first.entry.value →
    MembersLieIn i.document.now.value next i.stop first.others
members_after i next first same = subst (λ k. MembersLieIn i.document.now.value k i.stop first.others) (sym same) first.left

pub no_member_ahead : (i : Fields) → i.stop ≤ i.at → entries_in i.stand.0 ≡ []
no_member_ahead i h =
    let d = i.document.now.value in
    ap entries_in (no_member_left d.text.now d.nodes.items i.at i.stop i.stand.0 i.stand.1 h)
