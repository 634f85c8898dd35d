-- The turns of building an object.
use Rattle.std.proofs.Common.{◌≡◌, ℕ, ◌≤◌, List, [], ◌∷◌, ◌++◌, length, drop, true, false, Bool, cond, refl, sym, ap, ◌∙◌, subst, arith, length-drop, Option, Some, None}
use Rattle.grammar.specs.Grammar.{seq, Reads}
use Rattle.grammar.specs.Predict.{Steers, on_both}
use Rattle.grammar.proofs.Predicts.{reads}
use Rattle.json_span.specs.Grammar.{ws, one}
use Rattle.json_span.specs.Predictive.{curly, rules, ahead, symbol}
use Rattle.json_span.specs.Tree.{Placed, Members, no_members, a_member, Entry, members_of}
use Rattle.json_span.specs.Reading.{StringAt, BeginsAt, ValueAt, MemberAt, member_at, MembersAt, first_member, last_member, next_member}
use Rattle.json_span.specs.Flaw.{Flaw, equal_names, or_else, flaw_in, flaw_in_members, is_seen}
use Rattle.json_span.specs.inner.Scan.{ReadsTo}
use Rattle.json_span.specs.inner.Building.{IsComma, IsClose}
use Rattle.json_span.specs.inner.ListsLeft.{then_members, MembersLeft}
use Rattle.json_span.specs.inner.Names.{names_flaw, reversed_names}
use Rattle.json_span.proofs.Naming.{names-push, flaw_push}
use Rattle.json_span.proofs.Predictive.{honest_json}
use Rattle.json_span.proofs.Scans as scan
use Rattle.json_span.proofs.Skips as skip
use Rattle.json_span.proofs.Lists.{read_of, or_after}

pub then-push : (es : List Entry) (e : Entry) (ms : Members) → then_members (es ++ e ∷ []) ms ≡ then_members es (a_member e.name e.start e.end e.value ms)
then-push [] e ms = refl
then-push (f ∷ es) e ms = ap (a_member f.name f.start f.end f.value) (then-push es e ms)

pub then-none : (es : List Entry) → then_members es no_members ≡ members_of es
then-none [] = refl
then-none (e ∷ es) = ap (a_member e.name e.start e.end e.value) (then-none es)

pub members_start : (text : List ℕ) (room inner : ℕ) → MembersLeft text room inner inner []
members_start text room inner = record { whole = λ s start end n m w u ms x b more. first_member x b more; flawless = λ ms. refl }

begins_at : (text : List ℕ) (at : ℕ) → at ≤ length text → BeginsAt (length text) (drop at text) at
begins_at text at h = omega (arith, length-drop at text)

colon_reads : {t u : List ℕ} → Steers rules ahead (seq ws (symbol 58)) t u → (m : List ℕ) × Reads rules ws t m × Reads rules (symbol 58) m u
colon_reads (on_both {u = m} x y) = (m, reads rules ahead honest_json x, reads rules ahead honest_json y)

-- a name, a colon and a value
pub member_of : {text s : List ℕ} {next name_end value_start : ℕ} (end : ℕ) {n : Placed} → next ≤ length text → name_end ≤ length text → StringAt (drop next text) s (drop name_end text) → ReadsTo (seq ws (symbol 58)) text name_end value_start →
    ValueAt (length text) (drop value_start text) n (drop end text) → MemberAt (length text) (drop next text) s next name_end n (drop end text)
member_of {text} {next = next} {name_end = name_end} end h h2 k c v = let (m, x, y) = colon_reads c.steers in member_at k (begins_at text next h) (begins_at text name_end h2) x y v

-- the flaws of a member whose value has none
or_assoc : (a b c : Option Flaw) → or_else a (or_else b c) ≡ or_else (or_else a b) c
or_assoc None b c = refl
or_assoc (Some x) b c = refl

or_none : (a : Option Flaw) → or_else a None ≡ a
or_none None = refl
or_none (Some x) = refl

cond_value : (seen : Bool) (x : Flaw) (f g : Option Flaw) → f ≡ None → cond seen (Some x) (or_else f g) ≡ or_else (cond seen (Some x) None) g
cond_value true x f g e = refl
cond_value false x f g e = or_after f g e

pub or_some : (a b : Option Flaw) (f : Flaw) → a ≡ Some f → or_else a b ≡ Some f
or_some None b f e = cc
or_some (Some x) b f e = e

cond_flaw : (seen : Bool) (x y : Flaw) (f g : Option Flaw) → f ≡ Some y → cond seen (Some x) (or_else f g) ≡ or_else (cond seen (Some x) None) (Some y)
cond_flaw true x y f g e = refl
cond_flaw false x y f g e = or_some f g y e

module _ {text : List ℕ} {room inner next : ℕ} {es : List Entry} (left : MembersLeft text room inner next es) (e : Entry) where
  -- whether it is a second name
  abbrev own : Option Flaw
  own = cond (is_seen (reversed_names es []) e.name) (Some (equal_names e.start e.end)) None

  pub members_next : {end item : ℕ} → MemberAt (length text) (drop next text) e.name e.start e.end e.value (drop end text) → flaw_in room e.value ≡ None → IsComma text end item →
      MembersLeft text room inner item (es ++ e ∷ [])
  members_next {end} {item} v none c =
      let x = skip.token_at text 44 c.comma item (scan.reach_one text (one 44) c.comma tt refl c.bound c.sees) c.behind in
      record {
        whole = λ s2 a2 z2 n2 m w u ms v2 b more. subst (λ z. MembersAt (length text) (drop inner text) z u) (sym (then-push es e (a_member s2 a2 z2 n2 ms)))
            (left.whole e.name e.start e.end e.value (drop end text) (drop c.comma text) u (a_member s2 a2 z2 n2 ms) v (read_of text ws end c.comma c.before) (next_member (read_of text (symbol 44) c.comma item x) v2 b more));
        flawless = λ ms. ap (flaw_in_members room []) (then-push es e ms) ∙ left.flawless (a_member e.name e.start e.end e.value ms)
            ∙ ap (or_else (names_flaw [] es)) (cond_value (is_seen (reversed_names es []) e.name) (equal_names e.start e.end) (flaw_in room e.value) (flaw_in_members room (e.name ∷ reversed_names es []) ms) none)
            ∙ or_assoc (names_flaw [] es) own (flaw_in_members room (e.name ∷ reversed_names es []) ms)
            ∙ λ k. or_else (sym (flaw_push [] es e) k) (flaw_in_members room (sym (names-push es e []) k) ms);
      }

  pub members_close : {end close : ℕ} → MemberAt (length text) (drop next text) e.name e.start e.end e.value (drop end text) → IsClose curly text end close →
      MembersAt (length text) (drop inner text) (members_of (es ++ e ∷ [])) (drop close text)
  members_close {end} {close} v c =
      subst (λ z. MembersAt (length text) (drop inner text) z (drop close text)) (sym (then-push es e no_members) ∙ then-none (es ++ e ∷ []))
      (left.whole e.name e.start e.end e.value (drop end text) (drop c.close text) (drop close text) no_members v (read_of text ws end c.close c.before) (last_member (read_of text (one 125) c.close close c.closes)))

  -- the first flaw of all members, where the last one's value has none
  pub members_flaw : flaw_in room e.value ≡ None → flaw_in_members room [] (members_of (es ++ e ∷ [])) ≡ names_flaw [] (es ++ e ∷ [])
  members_flaw none =
      ap (flaw_in_members room []) (sym (then-none (es ++ e ∷ [])) ∙ then-push es e no_members) ∙ left.flawless (a_member e.name e.start e.end e.value no_members)
      ∙ ap (or_else (names_flaw [] es)) (cond_value (is_seen (reversed_names es []) e.name) (equal_names e.start e.end) (flaw_in room e.value) None none)
      ∙ or_assoc (names_flaw [] es) own None ∙ or_none (or_else (names_flaw [] es) own) ∙ sym (flaw_push [] es e)

  -- where its value has one
  pub members_flawed : (ms : Members) (f : Flaw) → flaw_in room e.value ≡ Some f →
      flaw_in_members room [] (then_members es (a_member e.name e.start e.end e.value ms)) ≡ or_else (names_flaw [] (es ++ e ∷ [])) (Some f)
  members_flawed ms f some =
      left.flawless (a_member e.name e.start e.end e.value ms)
      ∙ ap (or_else (names_flaw [] es)) (cond_flaw (is_seen (reversed_names es []) e.name) (equal_names e.start e.end) f (flaw_in room e.value) (flaw_in_members room (e.name ∷ reversed_names es []) ms) some)
      ∙ or_assoc (names_flaw [] es) own (Some f) ∙ ap (λ z. or_else z (Some f)) (sym (flaw_push [] es e))
