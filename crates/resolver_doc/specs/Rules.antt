-- The rules of resolver documents, one by one: what stands where in a document, which place breaks a rule, and the laws that the
-- lists of breaks have just these.
use Rattle.std.specs.Prelude.{◌≡◌, ◌≢◌, ◌⊎◌, ℕ, false, List, [], ◌∷◌, ◌++◌, codes, Some, None}
use Rattle.tk_io.specs.Characters.{dollar_sign}
use Rattle.json_span.specs.Tree.{Placed, Entry, start_of, end_of, tree_of, string_in, array_in, object_in, value_of_name}
use Rattle.edit_script.specs.Script.{is_path}
use Rattle.ring.specs.Lists.{In}
use Rattle.resolver_doc.specs.declared.rule.PlanRule.{PlanRule}
use Rattle.resolver_doc.specs.declared.rule.PlanRule.TheVariants.{Version, Shape, Reference, ModifierInSet, Contexts, Default, Duplicate, Cycle}
use Rattle.resolver_doc.specs.declared.rule.Break.{Break}
use Rattle.resolver_doc.specs.Answer.{IsUnbroken, IsPlanBreak}
use Rattle.resolver_doc.specs.Break.{is_before}
use Rattle.resolver_doc.specs.Document.{resolver_of, elements_at, text_at, set_entries, modifier_entries, order_items, pointer, without_dots}
use Rattle.resolver_doc.specs.Form.{entries_at, form_breaks}
use Rattle.resolver_doc.specs.Naming.{naming_breaks}
use Rattle.resolver_doc.specs.Rings.{HasNoRingOfSets, IsSetRing}

-- the value of a member, and that there is none
abbrev pub HasMember : Placed → List ℕ → Placed → Type 0
HasMember n name m = value_of_name name (entries_at n) ≡ Some m

abbrev pub Lacks : Placed → List ℕ → Type 0
Lacks n name = value_of_name name (entries_at n) ≡ None

-- a member that counts: its name does not begin with `$`
pub record Counts (n : Placed) (e : Entry) : Type 0 where
  pub among : In e (entries_at n)
  pub counted : (rest : List ℕ) → e.name ≢ dollar_sign ∷ rest

-- an item that is no reference, and the word that is its type
pub record IsOwn (n : Placed) (word : List ℕ) : Type 0 where
  pub no_reference : Lacks n (codes "$ref")
  pub type : Placed
  pub typed : HasMember n (codes "type") type
  pub says : string_in (tree_of type) ≡ Some word

-- a set or a modifier that stands in the order
abbrev pub IsSetOrModifier : Placed → Type 0
IsSetOrModifier n = IsOwn n (codes "set") ⊎ IsOwn n (codes "modifier")

-- What stands where in a document.
pub data Role : Type 0 where
  a_document : Role
  a_text : Role
  sets : Role
  a_set : Role
  modifiers : Role
  a_modifier : Role
  contexts : Role
  sources : Role
  a_source : Role
  order : Role
  an_item : Role

pub data Stands (root : Placed) : Role → Placed → Type 0 where
  document_stands : Stands root a_document root
  name_stands : {n : Placed} → HasMember root (codes "name") n → Stands root a_text n
  description_stands : {n : Placed} → HasMember root (codes "description") n → Stands root a_text n
  sets_stand : {n : Placed} → HasMember root (codes "sets") n → Stands root sets n
  set_stands : {n : Placed} {e : Entry} → Stands root sets n → Counts n e → Stands root a_set e.value
  modifiers_stand : {n : Placed} → HasMember root (codes "modifiers") n → Stands root modifiers n
  modifier_stands : {n : Placed} {e : Entry} → Stands root modifiers n → Counts n e → Stands root a_modifier e.value
  order_stands : {n : Placed} → HasMember root (codes "resolutionOrder") n → Stands root order n
  item_stands : {n m : Placed} → Stands root order n → In m (elements_at n) → Stands root an_item m
  type_stands : {n m : Placed} → Stands root an_item n → Lacks n (codes "$ref") → HasMember n (codes "type") m → Stands root a_text m
  own_name_stands : {n m : Placed} → Stands root an_item n → IsSetOrModifier n → HasMember n (codes "name") m → Stands root a_text m
  own_set_stands : {n : Placed} → Stands root an_item n → IsOwn n (codes "set") → Stands root a_set n
  own_modifier_stands : {n : Placed} → Stands root an_item n → IsOwn n (codes "modifier") → Stands root a_modifier n
  sources_stand : {n m : Placed} → Stands root a_set n → HasMember n (codes "sources") m → Stands root sources m
  contexts_stand : {n m : Placed} → Stands root a_modifier n → HasMember n (codes "contexts") m → Stands root contexts m
  default_stands : {n m : Placed} → Stands root a_modifier n → HasMember n (codes "default") m → Stands root a_text m
  context_stands : {n : Placed} {e : Entry} → Stands root contexts n → Counts n e → Stands root sources e.value
  source_stands : {n m : Placed} → Stands root sources n → In m (elements_at n) → Stands root a_source m
  source_reference_stands : {n m : Placed} → Stands root a_source n → HasMember n (codes "$ref") m → Stands root a_text m
  item_reference_stands : {n m : Placed} → Stands root an_item n → HasMember n (codes "$ref") m → Stands root a_text m

-- the value is a text, a list, an object, as its role has it
abbrev pub IsObject : Placed → Type 0
IsObject n = (es : List Entry) × (object_in (tree_of n) ≡ Some es)

abbrev pub IsOfOtherForm : Role → Placed → Type 0
IsOfOtherForm a_document n = object_in (tree_of n) ≡ None
IsOfOtherForm a_text n = string_in (tree_of n) ≡ None
IsOfOtherForm sets n = object_in (tree_of n) ≡ None
IsOfOtherForm a_set n = object_in (tree_of n) ≡ None
IsOfOtherForm modifiers n = object_in (tree_of n) ≡ None
IsOfOtherForm a_modifier n = object_in (tree_of n) ≡ None
IsOfOtherForm contexts n = object_in (tree_of n) ≡ None
IsOfOtherForm sources n = array_in (tree_of n) ≡ None
IsOfOtherForm a_source n = object_in (tree_of n) ≡ None
IsOfOtherForm order n = array_in (tree_of n) ≡ None
IsOfOtherForm an_item n = object_in (tree_of n) ≡ None

-- a context of the modifier has the name that the value says
pub record NamesContext (modifier n : Placed) : Type 0 where
  pub all : Placed
  pub there : HasMember modifier (codes "contexts") all
  pub context : Entry
  pub counts : Counts all context
  pub named : string_in (tree_of n) ≡ Some context.name

-- a break at a value, and at the string of a member's name
abbrev pub at : PlanRule → Placed → Break
at rule n = record { rule = rule; start = start_of n; end = end_of n }

abbrev pub at_name_of : PlanRule → Entry → Break
at_name_of rule e = record { rule = rule; start = e.start; end = e.end }

-- The form of a document is broken: its version; a value of another form than its place asks for; an object without a member
-- that it needs; an item of no known type; a member beside `$ref`; a modifier without a context, or with a default that is
-- none of its contexts.
pub data BreaksForm (root : Placed) : Break → Type 0 where
  no_version : Lacks root (codes "version") → BreaksForm root (at Version root)
  other_version : {n : Placed} → HasMember root (codes "version") n → string_in (tree_of n) ≢ Some (codes "2025.10") → BreaksForm root (at Version n)
  other_form : {role : Role} {n : Placed} → Stands root role n → IsOfOtherForm role n → BreaksForm root (at Shape n)
  no_order : IsObject root → Lacks root (codes "resolutionOrder") → BreaksForm root (at Shape root)
  no_sources : {n : Placed} → Stands root a_set n → IsObject n → Lacks n (codes "sources") → BreaksForm root (at Shape n)
  no_contexts : {n : Placed} → Stands root a_modifier n → IsObject n → Lacks n (codes "contexts") → BreaksForm root (at Shape n)
  no_type : {n : Placed} → Stands root an_item n → IsObject n → Lacks n (codes "$ref") → Lacks n (codes "type") → BreaksForm root (at Shape n)
  no_name : {n : Placed} → Stands root an_item n → IsSetOrModifier n → Lacks n (codes "name") → BreaksForm root (at Shape n)
  other_type : {n : Placed} {word : List ℕ} → Stands root an_item n → (own : IsOwn n word) → word ≢ codes "set" → word ≢ codes "modifier"
      → BreaksForm root (at Shape own.type)
  beside_source : {n m : Placed} {e : Entry} → Stands root a_source n → HasMember n (codes "$ref") m → Counts n e → BreaksForm root (at_name_of Shape e)
  beside_item : {n m : Placed} {e : Entry} → Stands root an_item n → HasMember n (codes "$ref") m → Counts n e → BreaksForm root (at_name_of Shape e)
  no_context : {n : Placed} → Stands root contexts n → IsObject n → ((e : Entry) → Counts n e → ⊥) → BreaksForm root (at Contexts n)
  no_such_default : {n m : Placed} → Stands root a_modifier n → HasMember n (codes "default") m → (NamesContext n m → ⊥) → BreaksForm root (at Default m)

-- each entry of the list breaks its rule at its place, and each broken rule is an entry
abbrev pub FormBreaksBreak : Type 0
FormBreaksBreak = (root : Placed) (b : Break) → In b (form_breaks root) → BreaksForm root b

abbrev pub BrokenFormsAreListed : Type 0
BrokenFormsAreListed = (root : Placed) (b : Break) → BreaksForm root b → In b (form_breaks root)

-- References and names.

-- the text is the pointer to a set, to a modifier, or begins like one to a modifier
abbrev pub NamesSet : Placed → List ℕ → Type 0
NamesSet root text = (e : Entry) × In e (set_entries root) × (text ≡ pointer (codes "sets") e)

abbrev pub NamesModifier : Placed → List ℕ → Type 0
NamesModifier root text = (e : Entry) × In e (modifier_entries root) × (text ≡ pointer (codes "modifiers") e)

abbrev pub BeginsLikeModifier : List ℕ → Type 0
BeginsLikeModifier text = (rest : List ℕ) × (text ≡ codes "#/modifiers/" ++ rest)

-- the text is no name of a file
abbrev pub NamesNoFile : List ℕ → Type 0
NamesNoFile text = is_path (without_dots text) ≡ false

-- the name of an item: its own, or that of the set or modifier that it refers to
pub data HasItemName (root n : Placed) : List ℕ → Type 0 where
  its_own : {m : Placed} {name : List ℕ} → Lacks n (codes "$ref") → HasMember n (codes "name") m → string_in (tree_of m) ≡ Some name → HasItemName root n name
  of_set : {m : Placed} (e : Entry) → HasMember n (codes "$ref") m → In e (set_entries root) → text_at m ≡ pointer (codes "sets") e → HasItemName root n e.name
  of_modifier : {m : Placed} (e : Entry) → HasMember n (codes "$ref") m → In e (modifier_entries root) → text_at m ≡ pointer (codes "modifiers") e → HasItemName root n e.name

-- the string that says it
abbrev pub IsNameString : Placed → Placed → Type 0
IsNameString n m = HasMember n (codes "$ref") m ⊎ (Lacks n (codes "$ref") × HasMember n (codes "name") m)

-- an item of the order that has the name of an earlier one
pub record RepeatsName (root n : Placed) : Type 0 where
  pub before : List Placed
  pub after : List Placed
  pub items : order_items root ≡ before ++ n ∷ after
  pub earlier : Placed
  pub among : In earlier before
  pub name : List ℕ
  pub has : HasItemName root n name
  pub earlier_has : HasItemName root earlier name

-- A reference is broken that names nothing, or of a source a modifier; and a name that stands twice.
pub data BreaksNaming (root : Placed) : Break → Type 0 where
  modifier_as_source : {n m : Placed} → Stands root a_source n → HasMember n (codes "$ref") m → BeginsLikeModifier (text_at m) → BreaksNaming root (at ModifierInSet m)
  no_source : {n m : Placed} → Stands root a_source n → HasMember n (codes "$ref") m → (BeginsLikeModifier (text_at m) → ⊥)
      → (NamesSet root (text_at m) → ⊥) → NamesNoFile (text_at m) → BreaksNaming root (at Reference m)
  no_item : {n m : Placed} → Stands root an_item n → HasMember n (codes "$ref") m → (NamesSet root (text_at m) → ⊥)
      → (NamesModifier root (text_at m) → ⊥) → BreaksNaming root (at Reference m)
  name_again : {n m : Placed} → RepeatsName root n → IsNameString n m → BreaksNaming root (at Duplicate m)

-- References and names are looked at where the form is met: then too each entry breaks its rule at its place, and each broken
-- rule is an entry.
abbrev pub NamingBreaksBreak : Type 0
NamingBreaksBreak = (root : Placed) (b : Break) → form_breaks root ≡ [] → In b (naming_breaks root) → BreaksNaming root b

abbrev pub BrokenNamesAreListed : Type 0
BrokenNamesAreListed = (root : Placed) (b : Break) → BreaksNaming root b → In b (naming_breaks root)

-- What is told of a document.

-- no rule is broken
pub record BreaksNone (root : Placed) : Type 0 where
  pub forms : (b : Break) → BreaksForm root b → ⊥
  pub names : (b : Break) → BreaksNaming root b → ⊥
  pub rings : HasNoRingOfSets (resolver_of root).sets

abbrev pub UnbrokenBreaksNone : Type 0
UnbrokenBreaksNone = (root : Placed) → IsUnbroken root → BreaksNone root

abbrev pub NoneBrokenIsUnbroken : Type 0
NoneBrokenIsUnbroken = (root : Placed) → BreaksNone root → IsUnbroken root

-- A rule is broken at the place, and none before it: of its phase none that starts earlier, or there with a lower number, and
-- none of an earlier phase.
pub data IsFirstBroken (root : Placed) (told : Break) : List (List ℕ) → Type 0 where
  first_form : BreaksForm root told → ((b : Break) → BreaksForm root b → is_before b told ≡ false) → IsFirstBroken root told []
  first_naming : ((b : Break) → BreaksForm root b → ⊥) → BreaksNaming root told → ((b : Break) → BreaksNaming root b → is_before b told ≡ false)
      → IsFirstBroken root told []
  first_ring : {ring : List (List ℕ)} → ((b : Break) → BreaksForm root b → ⊥) → ((b : Break) → BreaksNaming root b → ⊥)
      → told.rule ≡ Cycle → IsSetRing root ring told.start told.end → IsFirstBroken root told ring

abbrev pub ToldIsFirstBroken : Type 0
ToldIsFirstBroken = (root : Placed) (told : Break) (ring : List (List ℕ)) → IsPlanBreak root told ring → IsFirstBroken root told ring
