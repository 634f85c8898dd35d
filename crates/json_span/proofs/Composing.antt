-- Arrays and objects are put together from the texts of their values and members, and from nothing else.
use Rattle.std.proofs.Common.{◌≡◌, ℕ, List, [], ◌∷◌, ◌++◌, refl, sym, ap, ◌∙◌, subst, append_assoc, append-nil}
use Rattle.std.specs.List.{flat_map}
use Rattle.grammar.specs.Grammar.{Reads, one_byte, both, no_more, more}
use Rattle.json_span.specs.Grammar.{ws}
use Rattle.json_span.specs.Predictive.{rules}
use Rattle.json_span.specs.Reading.{StringAt}
use Rattle.json_span.specs.Plain.{PlainValue, Plains, PlainMembers, PlainEntry, plain_array, plain_object, plains_of, plains_in, plain_members_of, plain_entries_in}
use Rattle.json_span.specs.Says.{Says, says_list, says_object, says_no_item, says_items, SaysMoreItems, says_no_more_item, says_more_items, SaysMember, says_member, says_no_member, says_members, SaysMoreMembers, says_no_more_member, says_more_members, PaddedMember, SaysText}
use Rattle.json_span.specs.Composing.{Blanks, Pointwise, no_texts, one_more, separated, Listed, only_blanks, by_commas, MemberText, Between, IsArrayText, IsObjectText, ListsMayBeSpaced}
use Rattle.json_span.proofs.Cut.{reads_cut}
use Rattle.json_span.proofs.SaidCut.{says_cut, string_cut}
use Rattle.json_span.proofs.Saying.{says_frame}
use Rattle.json_span.proofs.Shorts.{is_value}
use Rattle.json_span.proofs.Slices.{frame, string_frame}

-- after the first text, each with a comma before it
abbrev behind : List (List ℕ) → List ℕ
behind ts = flat_map (λ t. (44 ∷ []) ++ t) ts

-- the first text, the others, and what follows
regrouped : (t : List ℕ) (ts : List (List ℕ)) (rest : List ℕ) → separated (44 ∷ []) (t ∷ ts) ++ rest ≡ t ++ (behind ts ++ rest)
regrouped t ts rest = append_assoc t (behind ts) rest

first_joined : (t text w rest : List ℕ) (ts : List (List ℕ)) → t ≡ text ++ w → w ≡ behind ts ++ rest → t ≡ separated (44 ∷ []) (text ∷ ts) ++ rest
first_joined t text w rest ts e f = e ∙ ap (λ z. text ++ z) f ∙ sym (regrouped text ts rest)

-- after a comma
next_joined : (c : ℕ) (t text w rest : List ℕ) (ts : List (List ℕ)) → c ≡ 44 → t ≡ text ++ w → w ≡ behind ts ++ rest → c ∷ t ≡ behind (text ∷ ts) ++ rest
next_joined c t text w rest ts h e f = λ i. h i ∷ first_joined t text w rest ts e f i

three : (a b d x : List ℕ) → a ++ (b ++ (d ++ x)) ≡ (a ++ (b ++ d)) ++ x
three a b d x = ap (λ z. a ++ z) (sym (append_assoc b d x)) ∙ sym (append_assoc a (b ++ d) x)

blanks_of : {k : List ℕ} → ((s : List ℕ) → Reads rules ws (k ++ s) s) → Blanks k
blanks_of {k} f = subst (λ z. Reads rules ws z []) (append-nil k) (f [])

quoted_alone : {k s : List ℕ} → ((u : List ℕ) → StringAt (k ++ u) s u) → StringAt k s []
quoted_alone {k} {s} f = subst (λ z. StringAt z s []) (append-nil k) (f [])

-- the text that was read before this rest
record Found (R : List ℕ → Type 0) (t rest : List ℕ) : Type 0 where
  pub text : List ℕ
  pub made : t ≡ text ++ rest
  pub is : R text

-- the texts that were read after a first one, up to a bracket
record Others (R : List (List ℕ) → Type 0) (t : List ℕ) (close : ℕ) (rest : List ℕ) : Type 0 where
  pub texts : List (List ℕ)
  pub made : t ≡ behind texts ++ (close ∷ rest)
  pub each : R texts

-- what was read between two brackets
record Inside (R : List ℕ → Type 0) (t : List ℕ) (opens closes : ℕ) (rest : List ℕ) : Type 0 where
  pub text : List ℕ
  pub made : t ≡ opens ∷ (text ++ (closes ∷ rest))
  pub is : R text

blank_inside : {R : List ℕ → Type 0} {t u : List ℕ} (opens closes c d : ℕ) → ((k : List ℕ) → Blanks k → R k) → c ≡ opens → Reads rules ws t (d ∷ u) → d ≡ closes → Inside R (c ∷ t) opens closes u
blank_inside {u = u} opens closes c d f h a g =
    let k = reads_cut a in
    record { text = k.front; made = λ i. h i ∷ (k.joined ∙ ap (λ z. k.front ++ (z ∷ u)) g) i; is = f k.front (blanks_of k.reads) }

enclosed : {text before after : List ℕ} (opens closes : ℕ) (inside : List ℕ) → Reads rules ws text before → before ≡ opens ∷ (inside ++ (closes ∷ after)) → Reads rules ws after [] → Between opens closes text inside
enclosed {after = after} opens closes inside a e b =
    let k = reads_cut a in
    record { lead = k.front; trail = after; before = blanks_of k.reads; behind = b; made = k.joined ∙ ap (λ z. k.front ++ z) e }

pub more_blanks : {t u v : List ℕ} → Reads rules ws t u → Reads rules ws u v → Reads rules ws t v
more_blanks no_more y = y
more_blanks (more x z) y = more x (more_blanks z y)

-- texts that may have blanks around them
module _ {V : Type 0} (R : List ℕ → V → Type 0) (before : (b t : List ℕ) (v : V) → Blanks b → R t v → R (b ++ t) v) (after : (d t : List ℕ) (v : V) → R t v → Blanks d → R (t ++ d) v) where
  -- the texts with the blanks that stand around them
  record Spaced (text : List ℕ) (vs : List V) : Type 0 where
    pub first : List ℕ
    pub others : List (List ℕ)
    pub made : text ≡ separated (44 ∷ []) (first ∷ others)
    pub each : Pointwise R (first ∷ others) vs

  each_spaced : (b d t : List ℕ) (v : V) {ts : List (List ℕ)} {vs : List V} → Blanks b → Blanks d → R t v → Pointwise R ts vs → Spaced (t ++ (flat_map (λ z. (44 ∷ b) ++ z) ts ++ d)) (v ∷ vs)
  each_spaced b d t v hb hd p no_texts = record { first = t ++ d; others = []; made = sym (append-nil (t ++ d)); each = one_more (after d t v p hd) no_texts }
  each_spaced b d t v hb hd p (one_more {t = s} {v = w} {ts = ts} q r) =
      let x = each_spaced b d (b ++ s) w hb hd (before b s w hb q) r in
      let e : ((44 ∷ b) ++ s) ++ (flat_map (λ z. (44 ∷ b) ++ z) ts ++ d) ≡ behind (x.first ∷ x.others) = ap (λ z. 44 ∷ z) x.made in
      record {
        first = t;
        others = x.first ∷ x.others;
        made = ap (λ z. t ++ z) (append_assoc ((44 ∷ b) ++ s) (flat_map (λ z. (44 ∷ b) ++ z) ts) d ∙ e);
        each = one_more p x.each;
      }

  spaced : ListsMayBeSpaced R
  spaced first comma last ts vs a b d no_texts = only_blanks (more_blanks (frame a last) d)
  spaced first comma last ts vs a b d (one_more {t = t} {v = v} {ts = ss} p r) =
      let x = each_spaced comma last (first ++ t) v b d (before first t v a p) r in
      let rest : List ℕ = flat_map (λ z. (44 ∷ comma) ++ z) ss in
      let e : first ++ ((t ++ rest) ++ last) ≡ separated (44 ∷ []) (x.first ∷ x.others) = ap (λ z. first ++ z) (append_assoc t rest last) ∙ sym (append_assoc first t (rest ++ last)) ∙ x.made in
      subst (λ z. Listed R z vs) (sym e) (by_commas x.each)

module _ {K : Type 0} (num : List ℕ → K) where
  pub front_says : (t u : List ℕ) (v : PlainValue K) → Says num t v u → (front : List ℕ) × (t ≡ front ++ u) × Says num front v []
  front_says t u v x =
      let k = says_cut num x in
      (k.front, k.joined, subst (λ z. Says num z v []) (append-nil k.front) (k.reads []))

  -- values
  more_values : {ts : List (List ℕ)} {vs : List (PlainValue K)} → Pointwise (SaysText num) ts vs → (rest : List ℕ) → SaysMoreItems num (behind ts ++ (93 ∷ rest)) (plains_of vs) rest
  more_values no_texts rest = says_no_more_item (one_byte refl)
  more_values (one_more {t} {v} {ts} {vs} p r) rest =
      let x : List ℕ = behind ts ++ (93 ∷ rest) in
      rw (regrouped t ts (93 ∷ rest)) (says_more_items (both (one_byte refl) (frame p.lead x)) (says_frame num p.says x) (frame p.trail x) (more_values r rest))

  pub array_before : (inside : List ℕ) (vs : List (PlainValue K)) → Listed (SaysText num) inside vs → (rest : List ℕ) → Says num (91 ∷ (inside ++ (93 ∷ rest))) (plain_array (plains_of vs)) rest
  array_before inside vs (only_blanks b) rest = says_list (both (one_byte refl) (frame b (93 ∷ rest))) (says_no_item (one_byte refl))
  array_before inside vs (by_commas no_texts) rest = says_list (both (one_byte refl) no_more) (says_no_item (one_byte refl))
  array_before inside vs (by_commas (one_more {t} {v} {ts} p r)) rest =
      let x : List ℕ = behind ts ++ (93 ∷ rest) in
      rw (regrouped t ts (93 ∷ rest)) (says_list (both (one_byte refl) (frame p.lead x)) (says_items (says_frame num p.says x) (frame p.trail x) (more_values r rest)))

  -- a value with the blanks around it
  value_found : {t l m w : List ℕ} {v : PlainValue K} → Reads rules ws t l → Says num l v m → Reads rules ws m w → Found (λ z. SaysText num z v) t w
  value_found {w = w} a x b =
      let k = reads_cut a in
      let n = says_cut num x in
      let o = reads_cut b in
      record {
        text = k.front ++ (n.front ++ o.front);
        made = k.joined ∙ ap (λ z. k.front ++ z) (n.joined ∙ ap (λ z. n.front ++ z) o.joined) ∙ three k.front n.front o.front w;
        is = record { before = n.front ++ o.front; after = o.front; lead = k.reads (n.front ++ o.front); says = n.reads o.front; trail = blanks_of o.reads };
      }

  other_values : {t u : List ℕ} {vs : Plains K} → SaysMoreItems num t vs u → Others (λ ts. Pointwise (SaysText num) ts (plains_in vs)) t 93 u
  other_values {u = u} (says_no_more_item (one_byte {c = c} h)) = record { texts = []; made = ap (λ z. z ∷ u) (is_value c 93 h); each = no_texts }
  other_values {u = u} (says_more_items {w = w} (both (one_byte {c = c} {t = t} h) a) x b y) =
      let f = value_found a x b in
      let r = other_values y in
      record { texts = f.text ∷ r.texts; made = next_joined c t f.text w (93 ∷ u) r.texts (is_value c 44 h) f.made r.made; each = one_more f.is r.each }

  inside_array : {t u : List ℕ} {vs : Plains K} → Says num t (plain_array vs) u → Inside (λ z. Listed (SaysText num) z (plains_in vs)) t 91 93 u
  inside_array (says_list (both (one_byte {c = c} h) a) (says_no_item (one_byte {c = d} g))) = blank_inside 91 93 c d (λ k b. only_blanks b) (is_value c 91 h) a (is_value d 93 g)
  inside_array {u = u} (says_list (both (one_byte {c = c} {t = t} h) a) (says_items {w = w} x b y)) =
      let f = value_found a x b in
      let r = other_values y in
      record { text = separated (44 ∷ []) (f.text ∷ r.texts); made = λ i. is_value c 91 h i ∷ first_joined t f.text w (93 ∷ u) r.texts f.made r.made i; is = by_commas (one_more f.is r.each) }

  plains_same : (vs : List (PlainValue K)) → plains_in (plains_of vs) ≡ vs
  plains_same [] = refl
  plains_same (v ∷ vs) = ap (λ z. v ∷ z) (plains_same vs)

  pub array_text : (text : List ℕ) (vs : List (PlainValue K)) → SaysText num text (plain_array (plains_of vs)) → IsArrayText num text vs
  array_text text vs p =
      let r = inside_array p.says in
      (r.text, enclosed 91 93 r.text p.lead r.made p.trail, subst (Listed (SaysText num) r.text) (plains_same vs) r.is)

  pub text_array : (text : List ℕ) (vs : List (PlainValue K)) → IsArrayText num text vs → SaysText num text (plain_array (plains_of vs))
  text_array text vs (inside, b, x) =
      let from : List ℕ = 91 ∷ (inside ++ (93 ∷ b.trail)) in
      record { before = from; after = b.trail; lead = rw (b.made) (frame b.before from); says = array_before inside vs x b.trail; trail = b.behind }

  -- members
  member_before : {t : List ℕ} {e : PlainEntry K} → MemberText num t e → (x : List ℕ) → PaddedMember num (t ++ x) e.name e.value x
  member_before {t} m x =
      let value : List ℕ = 58 ∷ (m.value ++ x) in
      let from : List ℕ = m.quoted ++ (m.gap ++ value) in
      let same : t ++ x ≡ m.lead ++ from = ap (λ z. z ++ x) m.made ∙ append_assoc m.lead (m.quoted ++ (m.gap ++ (58 ∷ m.value))) x ∙ ap (λ z. m.lead ++ z) (append_assoc m.quoted (m.gap ++ (58 ∷ m.value)) x ∙ ap (λ z. m.quoted ++ z) (append_assoc m.gap (58 ∷ m.value) x)) in
      record {
        before = from;
        after = m.says.after ++ x;
        lead = rw same (frame m.before from);
        says = says_member (string_frame m.names (m.gap ++ value)) (frame m.behind value) (both (one_byte refl) (frame m.says.lead x)) (says_frame num m.says.says x);
        trail = frame m.says.trail x;
      }

  more_fields : {ts : List (List ℕ)} {es : List (PlainEntry K)} → Pointwise (MemberText num) ts es → (rest : List ℕ) → SaysMoreMembers num (behind ts ++ (125 ∷ rest)) (plain_members_of es) rest
  more_fields no_texts rest = says_no_more_member (one_byte refl)
  more_fields (one_more {t = t} {ts = ts} {vs = es} m r) rest =
      let p = member_before m (behind ts ++ (125 ∷ rest)) in
      rw (regrouped t ts (125 ∷ rest)) (says_more_members (both (one_byte refl) p.lead) p.says p.trail (more_fields r rest))

  pub object_before : (inside : List ℕ) (es : List (PlainEntry K)) → Listed (MemberText num) inside es → (rest : List ℕ) → Says num (123 ∷ (inside ++ (125 ∷ rest))) (plain_object (plain_members_of es)) rest
  object_before inside es (only_blanks b) rest = says_object (both (one_byte refl) (frame b (125 ∷ rest))) (says_no_member (one_byte refl))
  object_before inside es (by_commas no_texts) rest = says_object (both (one_byte refl) no_more) (says_no_member (one_byte refl))
  object_before inside es (by_commas (one_more {t = t} {ts = ts} m r)) rest =
      let p = member_before m (behind ts ++ (125 ∷ rest)) in
      rw (regrouped t ts (125 ∷ rest)) (says_object (both (one_byte refl) p.lead) (says_members p.says p.trail (more_fields r rest)))

  member_found : {t l m w s : List ℕ} {v : PlainValue K} → Reads rules ws t l → SaysMember num l s v m → Reads rules ws m w → Found (λ z. MemberText num z (record { name = s; value = v })) t w
  member_found {w = w} a (says_member q b (both (one_byte {c = c} h) d) x) o =
      let f = value_found d x o in
      let k = reads_cut a in
      let n = string_cut q in
      let g = reads_cut b in
      let whole : List ℕ = n.front ++ (g.front ++ (58 ∷ f.text)) in
      record {
        text = k.front ++ whole;
        made = k.joined ∙ ap (λ z. k.front ++ z) (n.joined ∙ ap (λ z. n.front ++ z) (g.joined ∙ ap (λ z. g.front ++ z) (λ i. is_value c 58 h i ∷ f.made i)) ∙ three n.front g.front (58 ∷ f.text) w) ∙ sym (append_assoc k.front whole w);
        is = record {
          lead = k.front;
          quoted = n.front;
          gap = g.front;
          value = f.text;
          before = blanks_of k.reads;
          names = quoted_alone n.reads;
          behind = blanks_of g.reads;
          says = f.is;
          made = refl;
        };
      }

  other_fields : {t u : List ℕ} {ms : PlainMembers K} → SaysMoreMembers num t ms u → Others (λ ts. Pointwise (MemberText num) ts (plain_entries_in ms)) t 125 u
  other_fields {u = u} (says_no_more_member (one_byte {c = c} h)) = record { texts = []; made = ap (λ z. z ∷ u) (is_value c 125 h); each = no_texts }
  other_fields {u = u} (says_more_members {w = w} (both (one_byte {c = c} {t = t} h) a) x b y) =
      let f = member_found a x b in
      let r = other_fields y in
      record { texts = f.text ∷ r.texts; made = next_joined c t f.text w (125 ∷ u) r.texts (is_value c 44 h) f.made r.made; each = one_more f.is r.each }

  inside_object : {t u : List ℕ} {ms : PlainMembers K} → Says num t (plain_object ms) u → Inside (λ z. Listed (MemberText num) z (plain_entries_in ms)) t 123 125 u
  inside_object (says_object (both (one_byte {c = c} h) a) (says_no_member (one_byte {c = d} g))) = blank_inside 123 125 c d (λ k b. only_blanks b) (is_value c 123 h) a (is_value d 125 g)
  inside_object {u = u} (says_object (both (one_byte {c = c} {t = t} h) a) (says_members {w = w} x b y)) =
      let f = member_found a x b in
      let r = other_fields y in
      record { text = separated (44 ∷ []) (f.text ∷ r.texts); made = λ i. is_value c 123 h i ∷ first_joined t f.text w (125 ∷ u) r.texts f.made r.made i; is = by_commas (one_more f.is r.each) }

  entries_same : (es : List (PlainEntry K)) → plain_entries_in (plain_members_of es) ≡ es
  entries_same [] = refl
  entries_same (e ∷ es) = ap (λ z. e ∷ z) (entries_same es)

  pub object_text : (text : List ℕ) (es : List (PlainEntry K)) → SaysText num text (plain_object (plain_members_of es)) → IsObjectText num text es
  object_text text es p =
      let r = inside_object p.says in
      (r.text, enclosed 123 125 r.text p.lead r.made p.trail, subst (Listed (MemberText num) r.text) (entries_same es) r.is)

  pub text_object : (text : List ℕ) (es : List (PlainEntry K)) → IsObjectText num text es → SaysText num text (plain_object (plain_members_of es))
  text_object text es (inside, b, x) =
      let from : List ℕ = 123 ∷ (inside ++ (125 ∷ b.trail)) in
      record { before = from; after = b.trail; lead = rw (b.made) (frame b.before from); says = object_before inside es x b.trail; trail = b.behind }

  value_behind : (b : List ℕ) {t : List ℕ} {v : PlainValue K} → Blanks b → SaysText num t v → SaysText num (b ++ t) v
  value_behind b {t} h p = record { before = p.before; after = p.after; lead = more_blanks (frame h t) p.lead; says = p.says; trail = p.trail }

  value_then : (d : List ℕ) {t : List ℕ} {v : PlainValue K} → SaysText num t v → Blanks d → SaysText num (t ++ d) v
  value_then d p h = record { before = p.before ++ d; after = p.after ++ d; lead = frame p.lead d; says = says_frame num p.says d; trail = more_blanks (frame p.trail d) h }

  member_behind : (b : List ℕ) {t : List ℕ} {e : PlainEntry K} → Blanks b → MemberText num t e → MemberText num (b ++ t) e
  member_behind b h m =
      record { lead = b ++ m.lead; quoted = m.quoted; gap = m.gap; value = m.value; before = more_blanks (frame h m.lead) m.before; names = m.names; behind = m.behind; says = m.says; made = ap (λ z. b ++ z) m.made ∙ sym (append_assoc b m.lead (m.quoted ++ (m.gap ++ (58 ∷ m.value)))) }

  member_then : (d : List ℕ) {t : List ℕ} {e : PlainEntry K} → MemberText num t e → Blanks d → MemberText num (t ++ d) e
  member_then d m h =
      record { lead = m.lead; quoted = m.quoted; gap = m.gap; value = m.value ++ d; before = m.before; names = m.names; behind = m.behind; says = value_then d m.says h; made = ap (λ z. z ++ d) m.made ∙ append_assoc m.lead (m.quoted ++ (m.gap ++ (58 ∷ m.value))) d ∙ ap (λ z. m.lead ++ z) (append_assoc m.quoted (m.gap ++ (58 ∷ m.value)) d ∙ ap (λ z. m.quoted ++ z) (append_assoc m.gap (58 ∷ m.value) d)) }

  pub arrays_spaced : ListsMayBeSpaced (SaysText num)
  arrays_spaced = spaced (SaysText num) (λ b t v h p. value_behind b h p) (λ d t v p h. value_then d p h)

  pub objects_spaced : ListsMayBeSpaced (MemberText num)
  objects_spaced = spaced (MemberText num) (λ b t e h m. member_behind b h m) (λ d t e m h. member_then d m h)
