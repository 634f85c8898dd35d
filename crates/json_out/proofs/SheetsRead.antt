-- Texts of members in the frame are one object of these members, and nothing else.
use Rattle.std.proofs.Common.{◌≡◌, ◌==◌, ℕ, List, [], ◌∷◌, ◌++◌, map, refl, sym, ap, ◌∙◌, subst, append_assoc}
use Rattle.std.specs.List.{slice_split, AllByRecursion}
use Rattle.grammar.specs.Grammar.{one_byte, right, left, no_more, more}
use Rattle.json_span.specs.Composing.{Blanks, Pointwise, no_texts, one_more, separated, Listed, only_blanks, MemberText}
use Rattle.json_span.specs.Plain.{plain_members_of, plain_entries_in}
use Rattle.json_span.specs.Says.{Says}
use Rattle.json_span.proofs.Composing.{object_before, objects_spaced}
use Rattle.json_span.proofs.SaidShown.{says_one}
use Rattle.name_path.specs.Names.{IsTokenPath}
use Rattle.name_path.specs.Reference.{path_text}
use Rattle.name_path.proofs.Spellings.{token_plain}
use Rattle.name_path.proofs.Joins.{pieces_of}
use Rattle.transforms.specs.Sheet.{sheet_text}
use Rattle.json_out.specs.PlatformValue.{Member, object_json}
use Rattle.json_out.specs.Reading.{number_of_text, IsMember, Reads}
use Rattle.json_out.specs.Sheets.{json_frame, Cell, IsJsonCell, cell_text, cell_member, sheet_bytes, sheet_members, Denotes}
use Rattle.json_out.proofs.TokensRead.{fragment_read}

line_end : Blanks (10 ∷ [])
line_end = more (right (left (one_byte refl))) no_more

-- what stands between the braces
abbrev inside : List (List ℕ) → List ℕ
inside ts = 10 ∷ (separated (44 ∷ 10 ∷ []) ts ++ (10 ∷ []))

inside_listed : (ts : List (List ℕ)) (ms : List Member) → Pointwise (MemberText number_of_text) ts ms → Listed (MemberText number_of_text) (inside ts) ms
inside_listed ts ms e = objects_spaced number_of_text (10 ∷ []) (10 ∷ []) (10 ∷ []) ts ms line_end line_end line_end e

object_read : (text inner : List ℕ) (ms : List Member) → text ≡ 123 ∷ (inner ++ (125 ∷ 10 ∷ [])) → Listed (MemberText number_of_text) inner ms → Reads text ms
object_read text inner ms e l = record {
  before = text;
  after = 10 ∷ [];
  lead = no_more;
  says = subst (λ z. Says number_of_text z (object_json ms) (10 ∷ [])) (sym e) (object_before number_of_text inner ms l (10 ∷ []));
  trail = line_end;
}

pub texts_read : (ts : List (List ℕ)) (ms : List Member) → Pointwise (MemberText number_of_text) ts ms → Reads (sheet_text json_frame ts) ms
texts_read ts ms no_texts = object_read (sheet_text json_frame []) (10 ∷ []) [] refl (only_blanks line_end)
texts_read ts ms (one_more {t = t} {v = m} {ts = others} {vs = ns} p r) =
    object_read (sheet_text json_frame (t ∷ others)) (inside (t ∷ others)) (m ∷ ns)
    (ap (λ z. 123 ∷ 10 ∷ z) (sym (append_assoc (separated (44 ∷ 10 ∷ []) (t ∷ others)) (10 ∷ []) (125 ∷ 10 ∷ []))))
    (inside_listed (t ∷ others) (m ∷ ns) (one_more p r))

each_text : (texts : List (List ℕ × Member)) → AllByRecursion (λ t. IsMember t.0 t.1) texts → Pointwise (MemberText number_of_text) (map (λ t. t.0) texts) (map (λ t. t.1) texts)
each_text [] h = no_texts
each_text (t ∷ texts) h = one_more h.0 (each_text texts h.1)

pub members_read : (texts : List (List ℕ × Member)) → AllByRecursion (λ t. IsMember t.0 t.1) texts → Reads (sheet_text json_frame (map (λ t. t.0) texts)) (map (λ t. t.1) texts)
members_read texts h = texts_read _ _ (each_text texts h)

entries_back : (ms : List Member) → plain_entries_in (plain_members_of ms) ≡ ms
entries_back [] = refl
entries_back (m ∷ ms) = ap (λ z. m ∷ z) (entries_back ms)

pub read_once : (bytes : List ℕ) (ms ns : List Member) → Reads bytes ms → Reads bytes ns → ms ≡ ns
read_once bytes ms ns r s =
    let e : object_json ms ≡ object_json ns = says_one number_of_text bytes (object_json ms) (object_json ns) r s in
    let f : plain_members_of ms ≡ plain_members_of ns = cc in
    sym (entries_back ms) ∙ ap plain_entries_in f ∙ entries_back ns

each_cell : (cells : List Cell) → AllByRecursion IsJsonCell cells → Pointwise (MemberText number_of_text) (map cell_text cells) (map cell_member cells)
each_cell [] h = no_texts
each_cell (c ∷ cells) h = one_more (fragment_read c.path c.typed c.extras h.0.typed h.0.bytes c.extensions h.0.extensions) (each_cell cells h.1)

pub sheet_denotes : (cells : List Cell) → AllByRecursion IsJsonCell cells → Denotes (sheet_bytes cells) (sheet_members cells)
sheet_denotes cells h =
    let r = texts_read (map cell_text cells) (map cell_member cells) (each_cell cells h) in
    record { reads = r; only = λ others s. read_once (sheet_bytes cells) others (sheet_members cells) s r }

pub paths_apart : (path other : List (List ℕ)) → IsTokenPath path → IsTokenPath other → path_text path ≡ path_text other → path ≡ other
paths_apart path other h k e =
    sym (pieces_of path (token_plain path h)) ∙ ap (slice_split (λ b. b == 46)) e ∙ pieces_of other (token_plain other k)
