-- Names of an object, one after another.
use Rattle.std.proofs.Common.{◌≡◌, ℕ, zero, suc, ◌+◌, ◌-◌, ◌<◌, ◌≤◌, ◌||◌, List, [], ◌∷◌, ◌++◌, length, take, drop, Bool, true, false, cond, Option, Some, None, refl, sym, ap, ◌∙◌, subst, arith, add-one, append_assoc}
use Rattle.std.specs.Prelude.{slice_get, slice_range}
use Rattle.std.specs.Str.{bytes_eq}
use Rattle.std.proofs.Math.Seq.{take-suc, drop-append_seam}
use Rattle.std.proofs.lemmas.List.{drop_more, drop_all}
use Rattle.std.proofs.lemmas.Option.{slice_get_within, get_or_from_slice_get}
use Rattle.grammar.specs.Grammar.{named}
use Rattle.json_span.specs.Grammar.{string}
use Rattle.json_span.specs.Tree.{Placed, Entry}
use Rattle.json_span.specs.Reading.{StringAt}
use Rattle.json_span.specs.Flaw.{Flaw, equal_names, or_else, is_seen}
use Rattle.json_span.specs.inner.Names.{IsNameSpan, IsNameOf, AreNamesOf, names_flaw, reversed_names}
use Rattle.json_span.specs.inner.Once.{string_at_one}
use Rattle.json_span.specs.declared.names.NameSpan.{NameSpan}
use Rattle.json_span.proofs.Exists.{string_of}
use Rattle.json_span.proofs.Lists.{read_of}

-- what stands after the last name
abbrev pub no_name : NameSpan
no_name = record { start = 0; end = 0; is_plain = false }

some_is : {A : Type 0} {m n : A} → Some m ≡ Some n → m ≡ n
some_is e = cc

-- what was read is the name of a member
pub record Named (text : List ℕ) (at : ℕ) (n : NameSpan) : Type 0 where
  pub name : List ℕ
  pub stands : StringAt (drop at text) name (drop n.end text)
  pub is : (v : Placed) → IsNameOf text n (record { name = name; start = at; end = n.end; value = v })

pub named_at : (text : List ℕ) (at : ℕ) (n : NameSpan) → IsNameSpan text at n → Named text at n
named_at text at n x =
    let (s, k) = string_of (read_of text (named string) at n.end x.reads) in
    record {
      name = s;
      stands = k;
      is = λ v. record {
        start = x.start;
        end = refl;
        stands = ∣ subst (λ i. StringAt (drop i text) s (drop n.end text)) (sym x.start) k ∣₁;
        reads = rw x.start x.reads;
        long = rw x.start x.long;
        plain = λ p. rw x.start (string_at_one (drop at text) s (drop n.end text) (slice_range text (at + 1) (n.end - 1)) (drop n.end text) k (x.plain p));
      };
    }

-- the member of a name
pub are_at : (text : List ℕ) (ns : List NameSpan) (es : List Entry) (k : ℕ) (n : NameSpan) → AreNamesOf text ns es → slice_get ns k ≡ Some n → (e : Entry) × (slice_get es k ≡ Some e) × IsNameOf text n e
are_at text [] [] zero n a h = cc
are_at text [] [] (suc k) n a h = cc
are_at text [] (e ∷ es) k n a h = absurd a
are_at text (m ∷ ns) [] k n a h = absurd a
are_at text (m ∷ ns) (e ∷ es) zero n a h = (e, refl, subst (λ z. IsNameOf text z e) (some_is h) a.0)
are_at text (m ∷ ns) (e ∷ es) (suc k) n a h = are_at text ns es k n a.1 h

pub are_many : (text : List ℕ) (ns : List NameSpan) (es : List Entry) → AreNamesOf text ns es → length es ≡ length ns
are_many text [] [] a = refl
are_many text [] (e ∷ es) a = absurd a
are_many text (m ∷ ns) [] a = absurd a
are_many text (m ∷ ns) (e ∷ es) a = ap suc (are_many text ns es a.1)

pub are_push : (text : List ℕ) (ns : List NameSpan) (es : List Entry) (n : NameSpan) (e : Entry) → AreNamesOf text ns es → IsNameOf text n e → AreNamesOf text (ns ++ n ∷ []) (es ++ e ∷ [])
are_push text [] [] n e a x = (x, tt)
are_push text [] (f ∷ es) n e a x = absurd a
are_push text (m ∷ ns) [] n e a x = absurd a
are_push text (m ∷ ns) (f ∷ es) n e a x = (a.0, are_push text ns es n e a.1 x)

-- the names so far, and one more
pub names-push : (es : List Entry) (e : Entry) (names : List (List ℕ)) → reversed_names (es ++ e ∷ []) names ≡ e.name ∷ reversed_names es names
names-push [] e names = refl
names-push (f ∷ es) e names = names-push es e (f.name ∷ names)

pub names_more : (es : List Entry) (i : ℕ) (e : Entry) → slice_get es i ≡ Some e → reversed_names (take (i + 1) es) [] ≡ e.name ∷ reversed_names (take i es) []
names_more es i e h =
    ap (λ k. reversed_names (take k es) []) (add-one i) ∙ ap (λ z. reversed_names z []) (take-suc es i e (slice_get_within es i e h)) ∙ ap (λ z. reversed_names (take i es ++ z ∷ []) []) (get_or_from_slice_get es i e e h) ∙ names-push (take i es) e []

pub rest_more : (es : List Entry) (i : ℕ) (e : Entry) → slice_get es i ≡ Some e → drop i es ≡ e ∷ drop (i + 1) es
rest_more es i e h = drop_more es i e (slice_get_within es i e h) ∙ ap (λ x. x ∷ drop (i + 1) es) (get_or_from_slice_get es i e e h)

or_true : (a b : Bool) → b ≡ true → (a || b) ≡ true
or_true true b e = refl
or_true false b e = e

or_first : (a b : Bool) → a ≡ true → (a || b) ≡ true
or_first true b e = refl
or_first false b e = cc

pub or_false : (a b : Bool) → a ≡ false → b ≡ false → (a || b) ≡ false
or_false true b e f = cc
or_false false b e f = f

seen_kept : (es : List Entry) (names : List (List ℕ)) (x : List ℕ) → is_seen names x ≡ true → is_seen (reversed_names es names) x ≡ true
seen_kept [] names x h = h
seen_kept (e ∷ es) names x h = seen_kept es (e.name ∷ names) x (or_true (bytes_eq e.name x) (is_seen names x) h)

seen_there : (es : List Entry) (i k : ℕ) (names : List (List ℕ)) (f : Entry) (x : List ℕ) → slice_get es k ≡ Some f → k < i → bytes_eq f.name x ≡ true → is_seen (reversed_names (take i es) names) x ≡ true
seen_there [] i zero names f x h lt e = cc
seen_there [] i (suc k) names f x h lt e = cc
seen_there (g ∷ es) zero k names f x h lt e = absurd (omega (arith, lt))
seen_there (g ∷ es) (suc i) zero names f x h lt e = seen_kept (take i es) (g.name ∷ names) x (or_first (bytes_eq g.name x) (is_seen names x) (subst (λ z. bytes_eq z.name x ≡ true) (sym (some_is h)) e))
seen_there (g ∷ es) (suc i) (suc k) names f x h lt e = seen_there es i k (g.name ∷ names) f x h (omega (arith, lt)) e

pub seen_before : (es : List Entry) (i k : ℕ) (f : Entry) (x : List ℕ) → slice_get es k ≡ Some f → k < i → bytes_eq f.name x ≡ true → is_seen (reversed_names (take i es) []) x ≡ true
seen_before es i k f x = seen_there es i k [] f x

-- the first name that repeats another, from one place to the next
flaw_of : (names : List (List ℕ)) (es rest : List Entry) (e : Entry) → es ≡ e ∷ rest → names_flaw names es ≡ cond (is_seen names e.name) (Some (equal_names e.start e.end)) (names_flaw (e.name ∷ names) rest)
flaw_of names es rest e is = ap (names_flaw names) is

pub flaw_here : (es : List Entry) (i : ℕ) (e : Entry) → slice_get es i ≡ Some e → is_seen (reversed_names (take i es) []) e.name ≡ true → names_flaw [] es ≡ names_flaw (reversed_names (take i es) []) (drop i es) → Some (equal_names e.start e.end) ≡ names_flaw [] es
flaw_here es i e h seen inv =
    let names = reversed_names (take i es) [] in
    sym (inv ∙ flaw_of names (drop i es) (drop (i + 1) es) e (rest_more es i e h) ∙ ap (λ b. cond b (Some (equal_names e.start e.end)) (names_flaw (e.name ∷ names) (drop (i + 1) es))) seen)

pub flaw_later : (es : List Entry) (i : ℕ) (e : Entry) → slice_get es i ≡ Some e → is_seen (reversed_names (take i es) []) e.name ≡ false → names_flaw [] es ≡ names_flaw (reversed_names (take i es) []) (drop i es) → names_flaw [] es ≡ names_flaw (reversed_names (take (i + 1) es) []) (drop (i + 1) es)
flaw_later es i e h seen inv =
    let names = reversed_names (take i es) [] in
    inv ∙ flaw_of names (drop i es) (drop (i + 1) es) e (rest_more es i e h) ∙ ap (λ b. cond b (Some (equal_names e.start e.end)) (names_flaw (e.name ∷ names) (drop (i + 1) es))) seen
    ∙ ap (λ z. names_flaw z (drop (i + 1) es)) (sym (names_more es i e h))

or_cond : (b : Bool) (x : Flaw) (u v w : Option Flaw) → u ≡ or_else v w → cond b (Some x) u ≡ or_else (cond b (Some x) v) w
or_cond true x u v w e = refl
or_cond false x u v w e = e

pub flaw_push : (names : List (List ℕ)) (es : List Entry) (e : Entry) → names_flaw names (es ++ e ∷ []) ≡ or_else (names_flaw names es) (cond (is_seen (reversed_names es names) e.name) (Some (equal_names e.start e.end)) None)
flaw_push names [] e = refl
flaw_push names (f ∷ es) e = or_cond (is_seen names f.name) (equal_names f.start f.end) (names_flaw (f.name ∷ names) (es ++ e ∷ [])) (names_flaw (f.name ∷ names) es) (cond (is_seen (reversed_names es (f.name ∷ names)) e.name) (Some (equal_names e.start e.end)) None) (flaw_push (f.name ∷ names) es e)

-- an object's own names after those around it
pub own_behind : (outer own names more : List NameSpan) (n : NameSpan) (i : ℕ) → names ≡ outer ++ own → more ≡ names ++ n ∷ [] → i ≡ length outer → drop i more ≡ own ++ n ∷ []
own_behind outer own names more n i e f g =
    (λ k. drop (g k) (f k)) ∙ ap (λ z. drop (length outer) (z ++ n ∷ [])) e ∙ ap (drop (length outer)) (append_assoc outer own (n ∷ [])) ∙ drop-append_seam outer (own ++ n ∷ [])

-- at the end of the names
pub no_flaw : (text : List ℕ) (ns : List NameSpan) (es : List Entry) (i : ℕ) → AreNamesOf text ns es → length ns ≤ i → names_flaw [] es ≡ names_flaw (reversed_names (take i es) []) (drop i es) → None ≡ names_flaw [] es
no_flaw text ns es i are le inv =
    let many : length es ≤ i = omega (arith, are_many text ns es are) in
    sym (inv ∙ ap (names_flaw (reversed_names (take i es) [])) (drop_all i es many))

pub one_entry : (es : List Entry) (i : ℕ) (e f : Entry) → slice_get es i ≡ Some e → slice_get es i ≡ Some f → e ≡ f
one_entry es i e f h k = some_is (sym h ∙ k)

pub told_at : (text : List ℕ) (n : NameSpan) (e : Entry) → IsNameOf text n e → equal_names n.start n.end ≡ equal_names e.start e.end
told_at text n e is = λ k. equal_names (is.start k) (is.end k)
