-- A front of what was written, by what the sink behind one that gathers holds of it.
use Rattle.std.proofs.Common.{◌≡◌, ◌∙◌, ◌<◌, inl, inr, ℕ, Bool, List, [], ◌++◌, length, Option, Some, None, ap, sym, refl, subst, arith, append_assoc, append-nil, length-append}
use Rattle.std.proofs.lemmas.List.{append_cancel_left, nil_from_length}
use Rattle.std.proofs.lemmas.Option.{same_Some}
use Rattle.std.specs.Io.KnownBytes.{Appends, Keeps, append_known}
use Rattle.tk_io.specs.Writing.{AppendsFront, AppendsPart}
use Rattle.gathering.specs.Growing.{Grew}
use Rattle.edit_script.specs.Script.{EventData}
use Rattle.edit_script.specs.Delta.{Delta}
use Rattle.edit_script.specs.Stream.{line_text}
use Rattle.edit_script.specs.declared.line.Line.TheVariants.{Done}
use Rattle.build_plain.specs.Work.{Work}
use Rattle.command_words.specs.declared.command.Command.{Command}
use Rattle.token_cli.specs.Headline.{StopsAt, WroteEvents, WroteFrontUpTo, WrotePart, WroteSome, commits_before, events_for, telling_of}
use Rattle.token_cli.specs.Told.{commits_so_far, whole_text}
use Rattle.token_cli.specs.declared.telling.Telling.{Telling}
use Rattle.token_cli.proofs.Told.{some_last, text_is}

-- nothing at all is known bytes' last
pub known_nil : (a : Option (List ℕ)) → append_known a [] ≡ a
known_nil None = refl
known_nil (Some x) = ap Some (append-nil x)

-- What was given (`given`) to a sink that gathers is what the sink behind holds (`last`), and then what it holds itself;
-- the sink behind held `old` at first.

abbrev pub IsBehind : Option (List ℕ) → Option (List ℕ) → Option (List ℕ) → List ℕ → Type 0
IsBehind old given last held = Grew old last × Keeps given (append_known last held)

-- all of it is handed on
pub none_held : (given last : Option (List ℕ)) (held : List ℕ) → Keeps given (append_known last held) → held ≡ [] → Keeps given last
none_held given last held kept none = subst (Keeps given) (ap (append_known last) none ∙ known_nil last) kept

-- where nothing was given, nothing is held
pub nothing_given : (old given last : Option (List ℕ)) (held : List ℕ) → IsBehind old given last held → given ≡ old → Keeps given last
nothing_given None given last held behind same = subst (λ (g : Option (List ℕ)). Keeps g last) (sym same) tt
nothing_given (Some x) None last held behind same = tt
nothing_given (Some x) (Some z) None held behind same = absurd behind.1
nothing_given (Some x) (Some z) (Some y) held ((more, grew), kept) same =
    let all : x ≡ (x ++ more) ++ held = sym (same_Some z x same) ∙ sym kept ∙ ap (λ l. l ++ held) grew in
    let none : more ≡ [] = nil_from_length more (omega (arith, ap length all, length-append (x ++ more) held, length-append x more)) in
    grew ∙ ap (λ l. x ++ l) none ∙ append-nil x ∙ sym (same_Some z x same)

-- what was given is what was written more, and then the rest
front_of : (old given last : Option (List ℕ)) (held : List ℕ) → IsBehind old given last held → (piece : List ℕ) → Appends old given piece → AppendsFront old last piece
front_of None given last held behind piece more = (piece, [], sym (append-nil piece), tt)
front_of (Some x) None last held behind piece more = absurd more
front_of (Some x) (Some z) None held behind piece more = absurd behind.1
front_of (Some x) (Some z) (Some y) held ((front, grew), kept) piece more =
    (front, held, append_cancel_left x piece (front ++ held) (sym more ∙ sym kept ∙ ap (λ l. l ++ held) grew ∙ append_assoc x front held), grew)

-- .. not all, where something is held
part_of : (old given last : Option (List ℕ)) (held : List ℕ) → IsBehind old given last held → 0 < length held → (piece : List ℕ) → 0 < length piece → Appends old given piece → AppendsPart old last piece
part_of None given last held behind some piece long more = ([], piece, refl, long, tt)
part_of (Some x) None last held behind some piece long more = absurd more
part_of (Some x) (Some z) None held behind some piece long more = absurd behind.1
part_of (Some x) (Some z) (Some y) held ((front, grew), kept) some piece long more =
    (front, held, append_cancel_left x piece (front ++ held) (sym more ∙ sym kept ∙ ap (λ l. l ++ held) grew ∙ append_assoc x front held), some, grew)

-- a stream is never empty, and statistics are not
is_some : (told : Telling) (works : List Work) (deltas : List Delta) → 0 < length (whole_text told works deltas)
is_some told works deltas =
    let last = line_text (Done (length deltas)) in
    omega (arith, ap length (text_is told works deltas), length-append (commits_so_far told works deltas) last, some_last (length deltas))

module _ (old given last : Option (List ℕ)) (held : List ℕ) (behind : IsBehind old given last held) where
  less_front : (piece : List ℕ) → AppendsFront old given piece → AppendsFront old last piece
  less_front piece (front, back, is, more) =
      let (first, then, split, grown) = front_of old given last held behind front more in
      (first, then ++ back, is ∙ ap (λ l. l ++ back) split ∙ append_assoc first then back, grown)

  less_part : (piece : List ℕ) → AppendsPart old given piece → AppendsPart old last piece
  less_part piece (front, back, is, some, more) =
      let (first, then, split, grown) = front_of old given last held behind front more in
      (first, then ++ back, is ∙ ap (λ l. l ++ back) split ∙ append_assoc first then back, omega (arith, some, length-append then back), grown)

  front_less : (told : Telling) (es : List EventData) (count : ℕ) → WroteFrontUpTo told es count old given → WroteFrontUpTo told es count old last
  front_less told es count (outs, deltas, works, are, done, within, front) = (outs, deltas, works, are, done, within, less_front _ front)

  part_less : (told : Telling) (es : List EventData) → WrotePart told es old given → WrotePart told es old last
  part_less told es (outs, deltas, works, are, done, inl (within, front)) = (outs, deltas, works, are, done, inl (within, less_front _ front))
  part_less told es (outs, deltas, works, are, done, inr (all, part)) = (outs, deltas, works, are, done, inr (all, less_part _ part))

  -- a part of a part
  pub some_less : (c : Command) (es : List EventData) → WroteSome c es old given → WroteSome c es old last
  some_less c es (inl (fits, part)) = inl (fits, part_less (telling_of c) (events_for c es) part)
  some_less c es (inr (number, unfit, front)) = inr (number, unfit, front_less (telling_of c) (events_for c es) (commits_before c es number) front)

  -- a part of all before an event that does not fit
  pub stop_less : (number : ℕ) (c : Command) (es : List EventData) → StopsAt c es number old given → WroteSome c es old last
  stop_less number c es (unfit, (outs, deltas, works, are, done, all, more)) =
      inr (number, unfit, (outs, deltas, works, are, done, omega (arith, all), front_of old given last held behind _ more))

  -- a part of all, where something is held
  pub all_less : 0 < length held → (refused : Bool) (c : Command) (es : List EventData) → WroteEvents c es refused old given → WroteSome c es old last
  all_less some refused c es (fits, (outs, deltas, works, are, done, all, ends, more)) =
      inl (fits, (outs, deltas, works, are, done, inr (all, part_of old given last held behind some _ (is_some (telling_of c) works deltas) more)))
