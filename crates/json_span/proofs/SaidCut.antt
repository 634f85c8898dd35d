-- What was read for a value says this value before whatever follows.
use Rattle.std.proofs.Common.{◌≡◌, ℕ, List, [], ◌∷◌, ◌++◌, refl, sym, ap, ◌∙◌, subst}
use Rattle.std.proofs.lemmas.List.{append_cancel_right}
use Rattle.grammar.specs.Grammar.{Rule, Reads}
use Rattle.json_span.specs.Characters.{CharactersAt, closing_quote, unescaped_byte, short_escape, unicode_escape, surrogate_pair}
use Rattle.json_span.specs.Reading.{StringAt}
use Rattle.json_span.specs.Plain.{PlainValue, Plains, PlainMembers}
use Rattle.json_span.specs.Says.{Says, says_null, says_false, says_true, says_number, says_string, says_list, says_object, SaysItems, says_no_item, says_items, SaysMoreItems, says_no_more_item, says_more_items, SaysMember, says_member, SaysMembers, says_no_member, says_members, SaysMoreMembers, says_no_more_member, says_more_members}
use Rattle.json_span.proofs.Cut.{Cut, cut_both, cut_map, reads_cut}

-- a reading of a known prefix
reads_at : {N : Type 0} {g : N → Rule N} {r : Rule N} {t u : List ℕ} → Reads g r t u → (k : List ℕ) → t ≡ k ++ u → (s : List ℕ) → Reads g r (k ++ s) s
reads_at {g = g} {r = r} {u = u} x k e s =
    let c = reads_cut x in
    subst (λ z. Reads g r (z ++ s) s) (append_cancel_right c.front k u (sym c.joined ∙ e)) (c.reads s)

abbrev Then : (List ℕ → List ℕ → Type 0) → (List ℕ → List ℕ → Type 0) → List ℕ → List ℕ → Type 0
Then R S a b = (c : List ℕ) × R a c × S c b

cut_then : {R S : List ℕ → List ℕ → Type 0} (t m u : List ℕ) → Cut R t m → Cut S m u → Cut (Then R S) t u
cut_then t m u x y = cut_both t m u (λ a b c p q. (b, p, q)) x y

content_cut : {t q u : List ℕ} → CharactersAt t q u → Cut (λ a b. CharactersAt a q b) t u
content_cut (closing_quote {c = c} e) = record { front = c ∷ []; joined = refl; reads = λ s. closing_quote e }
content_cut (unescaped_byte {c = c} e x) = let k = content_cut x in record { front = c ∷ k.front; joined = ap (λ z. c ∷ z) k.joined; reads = λ s. unescaped_byte e (k.reads s) }
content_cut (short_escape {b = b} {x = d} e f x) = let k = content_cut x in record { front = b ∷ d ∷ k.front; joined = ap (λ z. b ∷ d ∷ z) k.joined; reads = λ s. short_escape e f (k.reads s) }
content_cut (unicode_escape {e = e} {f = f} {a = a} {b = b} {c = c} {d = d} p q r n x) =
    let k = content_cut x in record { front = e ∷ f ∷ a ∷ b ∷ c ∷ d ∷ k.front; joined = ap (λ z. e ∷ f ∷ a ∷ b ∷ c ∷ d ∷ z) k.joined; reads = λ s. unicode_escape p q r n (k.reads s) }
content_cut (surrogate_pair {e = e} {f = f} {a = a} {b = b} {c = c} {d = d} {g = g} {i = i} {j = j} {k = k} {l = l} {m = m} p q r h p2 q2 r2 o x) =
    let y = content_cut x in
    record { front = e ∷ f ∷ a ∷ b ∷ c ∷ d ∷ g ∷ i ∷ j ∷ k ∷ l ∷ m ∷ y.front; joined = ap (λ z. e ∷ f ∷ a ∷ b ∷ c ∷ d ∷ g ∷ i ∷ j ∷ k ∷ l ∷ m ∷ z) y.joined; reads = λ s. surrogate_pair p q r h p2 q2 r2 o (y.reads s) }

pub string_cut : {t q u : List ℕ} → StringAt t q u → Cut (λ a b. StringAt a q b) t u
string_cut {u = u} x =
    let c = content_cut x.content in
    let e = x.quoted ∙ ap (λ z. 34 ∷ z) c.joined in
    record { front = 34 ∷ c.front; joined = e; reads = λ s. record { reads = reads_at x.reads (34 ∷ c.front) e s; inner = c.front ++ s; quoted = refl; content = c.reads s } }

module _ {K : Type 0} (num : List ℕ → K) where
  mutual
    pub says_cut : {t u : List ℕ} {v : PlainValue K} → Says num t v u → Cut (λ a b. Says num a v b) t u
    says_cut {t} {u} (says_null x) = cut_map t u (λ a b p. says_null p) (reads_cut x)
    says_cut {t} {u} (says_false x) = cut_map t u (λ a b p. says_false p) (reads_cut x)
    says_cut {t} {u} (says_true x) = cut_map t u (λ a b p. says_true p) (reads_cut x)
    says_cut (says_number k x e) = record { front = k; joined = e; reads = λ s. says_number k (reads_at x k e s) refl }
    says_cut {t} {u} (says_string x) = cut_map t u (λ a b p. says_string p) (string_cut x)
    says_cut {t} {u} (says_list {m = m} x y) = cut_both t m u (λ a b c p q. says_list p q) (reads_cut x) (items_cut y)
    says_cut {t} {u} (says_object {m = m} x y) = cut_both t m u (λ a b c p q. says_object p q) (reads_cut x) (members_cut y)

    items_cut : {t u : List ℕ} {vs : Plains K} → SaysItems num t vs u → Cut (λ a b. SaysItems num a vs b) t u
    items_cut {t} {u} (says_no_item x) = cut_map t u (λ a b p. says_no_item p) (reads_cut x)
    items_cut {t} {u} (says_items {m = m} {w = w} x b y) = cut_map t u (λ a d p. says_items p.1 p.2.1 p.2.2) (cut_then t m u (says_cut x) (cut_then m w u (reads_cut b) (more_items_cut y)))

    more_items_cut : {t u : List ℕ} {vs : Plains K} → SaysMoreItems num t vs u → Cut (λ a b. SaysMoreItems num a vs b) t u
    more_items_cut {t} {u} (says_no_more_item x) = cut_map t u (λ a b p. says_no_more_item p) (reads_cut x)
    more_items_cut {t} {u} (says_more_items {l = l} {m = m} {w = w} c x b y) =
        cut_map t u (λ a d p. says_more_items p.1 p.2.1 p.2.2.1 p.2.2.2) (cut_then t l u (reads_cut c) (cut_then l m u (says_cut x) (cut_then m w u (reads_cut b) (more_items_cut y))))

    member_cut : {t u s : List ℕ} {v : PlainValue K} → SaysMember num t s v u → Cut (λ a b. SaysMember num a s v b) t u
    member_cut {t} {u} (says_member {l = l} {m = m} {w = w} x b c y) =
        cut_map t u (λ a d p. says_member p.1 p.2.1 p.2.2.1 p.2.2.2) (cut_then t l u (string_cut x) (cut_then l m u (reads_cut b) (cut_then m w u (reads_cut c) (says_cut y))))

    members_cut : {t u : List ℕ} {ms : PlainMembers K} → SaysMembers num t ms u → Cut (λ a b. SaysMembers num a ms b) t u
    members_cut {t} {u} (says_no_member x) = cut_map t u (λ a b p. says_no_member p) (reads_cut x)
    members_cut {t} {u} (says_members {m = m} {w = w} x b y) = cut_map t u (λ a d p. says_members p.1 p.2.1 p.2.2) (cut_then t m u (member_cut x) (cut_then m w u (reads_cut b) (more_members_cut y)))

    more_members_cut : {t u : List ℕ} {ms : PlainMembers K} → SaysMoreMembers num t ms u → Cut (λ a b. SaysMoreMembers num a ms b) t u
    more_members_cut {t} {u} (says_no_more_member x) = cut_map t u (λ a b p. says_no_more_member p) (reads_cut x)
    more_members_cut {t} {u} (says_more_members {l = l} {m = m} {w = w} c x b y) =
        cut_map t u (λ a d p. says_more_members p.1 p.2.1 p.2.2.1 p.2.2.2) (cut_then t l u (reads_cut c) (cut_then l m u (member_cut x) (cut_then m w u (reads_cut b) (more_members_cut y))))
