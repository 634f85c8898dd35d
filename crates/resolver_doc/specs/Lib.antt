-- `resolver_of` is what a document says, by its members alone. `form_breaks` lists every place
-- where its form is not met, put together form by form (a needed member, an optional one, a list of
-- objects), and `naming_breaks` every reference that names nothing and every item whose name stands
-- twice; `first_of` is the first of a list by start and then by rule, and `break_laws` says that it
-- is one of them and that none comes before it. Rings of sets are `ring`'s, over the numbers of
-- sets, with the document as a root that needs each set. `read_resolver` answers what the document
-- says only where nothing is broken, and else the first break of the first phase that has one;
-- `plan_laws` says that there is one answer.
--
-- What is promised, with the calls and clauses that carry it:
-- * a resolver document is read as its sets and the items of its order, or refused exactly where it
--   breaks a rule: the first break, by start and then by rule, of the first phase that has one: its
--   form, then what references name and names that stand twice, then rings of sets, with the ring's
--   names and the string that closes it (`read_resolver`: `sound`, `ok`, `broken`; `plan_laws`,
--   `break_laws`, `naming_laws`)
-- * the lists of breaks are what the rules say: `Rules` states, place by place, what stands where in
--   a document and which place breaks which rule, and each entry of a list is a rule that is broken
--   at its place, and each rule that is broken an entry (`rule_laws`); what is told is a rule that is
--   broken, and none before it (`told_laws`)
-- * each document breaks no rule, or a break is told of it (`each_document_answers`)
-- * an item of the order has a default exactly where it is a modifier with one
--   (`Resolver::default_of`)

pub mod Break
pub mod Form
pub mod Document
pub mod View
pub mod Naming
pub mod Rings
pub mod ResolverView
pub mod Default
pub mod Answer
pub mod Rules
pub mod Laws
pub mod inner
