-- A value as a table of spans in preorder.
use Rattle.std.specs.Prelude.{◌≡◌, ℕ, ◌+◌, ◌≤◌, List, [], ◌∷◌, ◌++◌, take, drop, slice_get, slice_range, Bool, Some, option_map, cond}
use Rattle.std.specs.Str.{IsCharBoundary}
use Rattle.json_span.specs.Reading.{StringAt}
use Rattle.json_span.specs.Tree.{Tree, a_null, a_boolean, a_number, a_string, an_array, an_object, Placed, placed, Elements, no_elements, an_element, Members, no_members, a_member, Entry}
use Rattle.json_span.specs.Types.{type_of, type_of_byte}
use Rattle.json_span.specs.declared.table.Document.{Document}
use Rattle.json_span.specs.declared.table.Span.{Span}

-- how many values there are, with the value itself
abbrev mutual
  pub size : Placed → ℕ
  size (placed v start end) = size_inside v + 1

  pub size_inside : Tree → ℕ
  size_inside a_null = 0
  size_inside (a_boolean b) = 0
  size_inside (a_number k) = 0
  size_inside (a_string s) = 0
  size_inside (an_array ns) = sizes ns
  size_inside (an_object ms) = member_sizes ms

  pub sizes : Elements → ℕ
  sizes no_elements = 0
  sizes (an_element n ns) = size n + sizes ns

  pub member_sizes : Members → ℕ
  member_sizes no_members = 0
  member_sizes (a_member s a z n ms) = size n + member_sizes ms

abbrev pub span : ℕ → ℕ → ℕ → ℕ → ℕ → Span
span name name_end start end next = record { name = name; name_end = name_end; start = start; end = end; next = next }

-- the spans of a value that is the i-th of a table, under the name at these offsets
abbrev mutual
  pub spans : ℕ → ℕ → ℕ → Placed → List Span
  spans a z i (placed v start end) = span a z start end (i + 1 + size_inside v) ∷ spans_inside (i + 1) v

  pub spans_inside : ℕ → Tree → List Span
  spans_inside i a_null = []
  spans_inside i (a_boolean b) = []
  spans_inside i (a_number k) = []
  spans_inside i (a_string s) = []
  spans_inside i (an_array ns) = spans_of i ns
  spans_inside i (an_object ms) = member_spans i ms

  pub spans_of : ℕ → Elements → List Span
  spans_of i no_elements = []
  spans_of i (an_element n ns) = spans 0 0 i n ++ spans_of (i + size n) ns

  pub member_spans : ℕ → Members → List Span
  member_spans i no_members = []
  member_spans i (a_member s a z n ms) = spans a z i n ++ member_spans (i + size n) ms

abbrev pub truth_byte : Bool → ℕ
truth_byte b = cond b 116 102

abbrev pub HasType : List ℕ → ℕ → Tree → Type 0
HasType text start v = option_map type_of_byte (slice_get text start) ≡ Some (type_of v)

abbrev pub IsNumberSlice : List ℕ → ℕ → ℕ → List ℕ → Type 0
IsNumberSlice text start end k =
    (slice_range text start end ≡ k) × (start ≤ end) × (IsCharBoundary text start × IsCharBoundary text end)

abbrev pub IsString : List ℕ → ℕ → List ℕ → ℕ → Type 0
IsString text start s end = ∥ StringAt (drop start text) s (drop end text) ∥₁

abbrev pub StandsString : List ℕ → ℕ → Type 0
StandsString text start = (s : List ℕ) × (end : ℕ) × IsString text start s end

-- the slices of the text are those of the value's parts
abbrev mutual
  pub Fits : List ℕ → Placed → Type 0
  Fits text (placed v start end) = HasType text start v × FitsAt text start end v

  pub FitsAt : List ℕ → ℕ → ℕ → Tree → Type 0
  FitsAt text start end a_null = Unit {0}
  FitsAt text start end (a_boolean b) = slice_get text start ≡ Some (truth_byte b)
  FitsAt text start end (a_number k) = IsNumberSlice text start end k
  FitsAt text start end (a_string s) = IsString text start s end
  FitsAt text start end (an_array ns) = AllFit text ns
  FitsAt text start end (an_object ms) = MembersFit text ms

  pub AllFit : List ℕ → Elements → Type 0
  AllFit text no_elements = Unit {0}
  AllFit text (an_element n ns) = Fits text n × AllFit text ns

  pub MembersFit : List ℕ → Members → Type 0
  MembersFit text no_members = Unit {0}
  MembersFit text (a_member s a z n ms) = IsString text a s z × Fits text n × MembersFit text ms

-- The value stands in the table from this place on, under the name at these offsets.
abbrev pub Lies : List ℕ → List Span → ℕ → ℕ → ℕ → Placed → Type 0
Lies text table a z i t = (take (size t) (drop i table) ≡ spans a z i t) × Fits text t

abbrev pub AllLie : List ℕ → List Span → ℕ → ℕ → Elements → Type 0
AllLie text table i stop ns = (take (sizes ns) (drop i table) ≡ spans_of i ns) × (stop ≡ i + sizes ns) × AllFit text ns

abbrev pub MembersLie : List ℕ → List Span → ℕ → ℕ → Members → Type 0
MembersLie text table i stop ms =
    (take (member_sizes ms) (drop i table) ≡ member_spans i ms) × (stop ≡ i + member_sizes ms) × MembersFit text ms

-- A member whose value stands at this place.
abbrev pub MemberLies : List ℕ → List Span → ℕ → Entry → Type 0
MemberLies text table i e = IsString text e.start e.name e.end × Lies text table e.start e.end i e.value

-- One value stands there, under some name, or a member, or the elements or the members of a list.
abbrev pub Standing : List ℕ → List Span → ℕ → Type 0
Standing text table i = (p : ℕ × (ℕ × Placed)) × Lies text table p.0 p.1.0 i p.1.1

abbrev pub MemberStanding : List ℕ → List Span → ℕ → Type 0
MemberStanding text table i = (e : Entry) × MemberLies text table i e

abbrev pub AllStanding : List ℕ → List Span → ℕ → ℕ → Type 0
AllStanding text table i stop = (ns : Elements) × AllLie text table i stop ns

abbrev pub MembersStanding : List ℕ → List Span → ℕ → ℕ → Type 0
MembersStanding text table i stop = (ms : Members) × MembersLie text table i stop ms

-- The same in a document: its text, and its table.
abbrev pub LiesIn : Document → ℕ → ℕ → ℕ → Placed → Type 0
LiesIn d a z at t = Lies d.text.now d.nodes.items a z at t

abbrev pub MemberLiesIn : Document → ℕ → Entry → Type 0
MemberLiesIn d at e = MemberLies d.text.now d.nodes.items at e

abbrev pub AllLieIn : Document → ℕ → ℕ → Elements → Type 0
AllLieIn d at stop ns = AllLie d.text.now d.nodes.items at stop ns

abbrev pub MembersLieIn : Document → ℕ → ℕ → Members → Type 0
MembersLieIn d at stop ms = MembersLie d.text.now d.nodes.items at stop ms

abbrev pub ValueIn : Document → ℕ → Type 0
ValueIn d at = Standing d.text.now d.nodes.items at

abbrev pub MemberIn : Document → ℕ → Type 0
MemberIn d at = MemberStanding d.text.now d.nodes.items at

abbrev pub ElementsIn : Document → ℕ → ℕ → Type 0
ElementsIn d at stop = AllStanding d.text.now d.nodes.items at stop

abbrev pub MembersIn : Document → ℕ → ℕ → Type 0
MembersIn d at stop = MembersStanding d.text.now d.nodes.items at stop
