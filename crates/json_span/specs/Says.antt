-- The values that texts have, without places. `num` is what is kept of a number's spelling.
use Rattle.std.specs.Prelude.{◌≡◌, ℕ, List, [], ◌++◌, true, false}
use Rattle.grammar.specs.Grammar.{named, Reads}
use Rattle.json_span.specs.Grammar.{number, ws, one, null_word, false_word, true_word}
use Rattle.json_span.specs.Predictive.{rules, symbol}
use Rattle.json_span.specs.Tree as tree
use Rattle.json_span.specs.Tree.{Tree, Placed, placed, Elements, no_elements, an_element, Members, no_members, a_member}
use Rattle.json_span.specs.Reading.{StringAt}
use Rattle.json_span.specs.Plain.{PlainValue, plain_null, plain_boolean, plain_number, plain_string, plain_array, plain_object, Plains, no_plains, plains, PlainMembers, no_plain_members, plain_members}

mutual
  -- The text begins with this value, and the last list is what follows it.
  pub data Says {K : Type 0} (num : List ℕ → K) : List ℕ → PlainValue K → List ℕ → Type 0 where
    says_null : {t u : List ℕ} → Reads rules null_word t u → Says num t plain_null u
    says_false : {t u : List ℕ} → Reads rules false_word t u → Says num t (plain_boolean false) u
    says_true : {t u : List ℕ} → Reads rules true_word t u → Says num t (plain_boolean true) u
    says_number : {t u : List ℕ} (k : List ℕ) → Reads rules (named number) t u → t ≡ k ++ u →
        Says num t (plain_number (num k)) u
    says_string : {t u s : List ℕ} → StringAt t s u → Says num t (plain_string s) u
    says_list : {t m u : List ℕ} {vs : Plains K} → Reads rules (symbol 91) t m → SaysItems num m vs u →
        Says num t (plain_array vs) u
    says_object : {t m u : List ℕ} {ms : PlainMembers K} → Reads rules (symbol 123) t m → SaysMembers num m ms u →
        Says num t (plain_object ms) u

  pub data SaysItems {K : Type 0} (num : List ℕ → K) : List ℕ → Plains K → List ℕ → Type 0 where
    says_no_item : {t u : List ℕ} → Reads rules (one 93) t u → SaysItems num t no_plains u
    says_items : {t m w u : List ℕ} {v : PlainValue K} {vs : Plains K} → Says num t v m → Reads rules ws m w →
        SaysMoreItems num w vs u → SaysItems num t (plains v vs) u

  pub data SaysMoreItems {K : Type 0} (num : List ℕ → K) : List ℕ → Plains K → List ℕ → Type 0 where
    says_no_more_item : {t u : List ℕ} → Reads rules (one 93) t u → SaysMoreItems num t no_plains u
    says_more_items : {t l m w u : List ℕ} {v : PlainValue K} {vs : Plains K} → Reads rules (symbol 44) t l →
        Says num l v m → Reads rules ws m w → SaysMoreItems num w vs u → SaysMoreItems num t (plains v vs) u

  -- a name, a colon and a value
  pub data SaysMember {K : Type 0} (num : List ℕ → K) : List ℕ → List ℕ → PlainValue K → List ℕ → Type 0 where
    says_member : {t l m w u s : List ℕ} {v : PlainValue K} → StringAt t s l → Reads rules ws l m →
        Reads rules (symbol 58) m w → Says num w v u → SaysMember num t s v u

  pub data SaysMembers {K : Type 0} (num : List ℕ → K) : List ℕ → PlainMembers K → List ℕ → Type 0 where
    says_no_member : {t u : List ℕ} → Reads rules (one 125) t u → SaysMembers num t no_plain_members u
    says_members : {t m w u s : List ℕ} {v : PlainValue K} {ms : PlainMembers K} → SaysMember num t s v m →
        Reads rules ws m w → SaysMoreMembers num w ms u → SaysMembers num t (plain_members s v ms) u

  pub data SaysMoreMembers {K : Type 0} (num : List ℕ → K) : List ℕ → PlainMembers K → List ℕ → Type 0 where
    says_no_more_member : {t u : List ℕ} → Reads rules (one 125) t u → SaysMoreMembers num t no_plain_members u
    says_more_members : {t l m w u s : List ℕ} {v : PlainValue K} {ms : PlainMembers K} → Reads rules (symbol 44) t l →
        SaysMember num l s v m → Reads rules ws m w → SaysMoreMembers num w ms u →
        SaysMoreMembers num t (plain_members s v ms) u

-- The same with ws on both sides.
pub record Padded {K : Type 0} (num : List ℕ → K) (t : List ℕ) (v : PlainValue K) (u : List ℕ) : Type 0 where
  pub before : List ℕ
  pub after : List ℕ
  pub lead : Reads rules ws t before
  pub says : Says num before v after
  pub trail : Reads rules ws after u

pub record PaddedMember {K : Type 0} (num : List ℕ → K) (t s : List ℕ) (v : PlainValue K) (u : List ℕ) : Type 0 where
  pub before : List ℕ
  pub after : List ℕ
  pub lead : Reads rules ws t before
  pub says : SaysMember num before s v after
  pub trail : Reads rules ws after u

-- The whole text is this value.
abbrev pub SaysText : {K : Type 0} → (List ℕ → K) → List ℕ → PlainValue K → Type 0
SaysText num text v = Padded num text v []

-- what a value with places is without them
abbrev mutual
  pub plain_of : {K : Type 0} → (List ℕ → K) → Placed → PlainValue K
  plain_of num (placed v start end) = plain_tree num v

  pub plain_tree : {K : Type 0} → (List ℕ → K) → Tree → PlainValue K
  plain_tree num tree.a_null = plain_null
  plain_tree num (tree.a_boolean b) = plain_boolean b
  plain_tree num (tree.a_number k) = plain_number (num k)
  plain_tree num (tree.a_string s) = plain_string s
  plain_tree num (tree.an_array ns) = plain_array (plain_elements num ns)
  plain_tree num (tree.an_object ms) = plain_object (plain_fields num ms)

  pub plain_elements : {K : Type 0} → (List ℕ → K) → Elements → Plains K
  plain_elements num no_elements = no_plains
  plain_elements num (an_element n ns) = plains (plain_of num n) (plain_elements num ns)

  pub plain_fields : {K : Type 0} → (List ℕ → K) → Members → PlainMembers K
  plain_fields num no_members = no_plain_members
  plain_fields num (a_member s start end n ms) = plain_members s (plain_of num n) (plain_fields num ms)
