-- Laws of the definitions: a document has one answer, and names are what they are said to be.
use Rattle.std.specs.Prelude.{◌≡◌, ◌≢◌, ◌⊎◌, ℕ, zero, suc, List, ◌∷◌, Some, None, slice_get}
use Rattle.std.specs.List.{AllByRecursion}
use Rattle.tk_io.specs.Characters.{full_stop, solidus}
use Rattle.json_span.specs.Tree.{Placed, Entry}
use Rattle.json_span.specs.Flaw.{first_flaw}
use Rattle.ring.specs.Lists.{In}
use Rattle.resolver_doc.specs.declared.rule.Break.{Break}
use Rattle.resolver_doc.specs.declared.fault.PlanFault.{PlanFault}
use Rattle.resolver_doc.specs.declared.fault.PlanFault.TheVariants.{NoMemory}
use Rattle.resolver_doc.specs.Answer.{IsUnbroken, IsPlanBreak, IsPlanFault}
use Rattle.resolver_doc.specs.Document.{resolver_of, pointer, pointed_number, name_in, without_dots, HasContextsApart}

-- one break is told
abbrev pub OneFault : Type 0
OneFault = (root : Placed) (a b : PlanFault) → a ≢ NoMemory → b ≢ NoMemory → IsPlanFault root a → IsPlanFault root b → a ≡ b

-- and none of a document that breaks no rule
abbrev pub UnbrokenIsNotRefused : Type 0
UnbrokenIsNotRefused = (root : Placed) (a : PlanFault) → IsUnbroken root → a ≢ NoMemory → IsPlanFault root a → ⊥

-- a break is told of the document
abbrev pub IsBroken : Placed → Type 0
IsBroken root = (told : Break) × (ring : List (List ℕ)) × IsPlanBreak root told ring

-- each document breaks no rule, or a break is told of it
abbrev pub EachDocumentAnswers : Type 0
EachDocumentAnswers = (root : Placed) → IsUnbroken root ⊎ IsBroken root

-- Names of files, and what pointers name.

-- the name after some `./`
abbrev pub behind_dots : ℕ → List ℕ → List ℕ
behind_dots zero name = name
behind_dots (suc n) name = full_stop ∷ (solidus ∷ behind_dots n name)

pub record IsWithoutDots (text name : List ℕ) : Type 0 where
  pub times : ℕ
  pub whole : text ≡ behind_dots times name
  pub first : (rest : List ℕ) → name ≢ full_stop ∷ (solidus ∷ rest)

-- a file's name is what stands after all leading `./`
abbrev pub DotsAreTaken : Type 0
DotsAreTaken = (text : List ℕ) → IsWithoutDots text (without_dots text)

-- what a text points to has a name that spells it
abbrev pub PointersSpell : Type 0
PointersSpell = (part : List ℕ) (es : List Entry) (text : List ℕ) (v : ℕ) → pointed_number part es text ≡ Some v
    → (e : Entry) × (slice_get es v ≡ Some e) × (text ≡ pointer part e)

-- the pointer to a member finds one of its name
abbrev pub PointersFind : Type 0
PointersFind = (part : List ℕ) (es : List Entry) (e : Entry) → In e es → (v : ℕ) × (pointed_number part es (pointer part e) ≡ Some v) × (name_in es v ≡ e.name)

-- in a document without a flaw the contexts of a modifier have different names
abbrev pub ContextsAreApart : Type 0
ContextsAreApart = (root : Placed) → first_flaw root ≡ None → AllByRecursion HasContextsApart (resolver_of root).order
