-- Rows that are found to stand one behind another.
use Rattle.std.proofs.Common.{◌≡◌, ℕ, ◌+◌, ◌<◌, ◌≤◌, true, List, [], ◌∷◌, ◌++◌, Option, Some, length, arith, refl, sym, ap, ap₂, subst, ◌∙◌}
use Rattle.transforms.specs.Sheet.{are_some}
use Rattle.std.proofs.lemmas.List.{append-nil, append_assoc, map_push}
use Rattle.std.proofs.lemmas.List.Elements.{All-cons, All-nil, All-push, All-weaker}
use Rattle.std.proofs.lemmas.Option.{slice_get_within}
use Rattle.std.proofs.lemmas.Slice.Zip.{all_zipped_more}
use Rattle.std.specs.List.{AllZip, slice_get, slice_range}
use Rattle.transforms.specs.Extent.{text_in}
use Rattle.transforms.specs.declared.extent.Extent.{Extent}
use Rattle.token_cells.specs.Sheets.{frame_for}
use Rattle.token_cells.specs.declared.block.Glues.{Glues}
use Rattle.token_cells.specs.declared.format.Format.{Format}
use Rattle.token_cells.specs.declared.format.Format.TheVariants.{Css, Android, Swift, Json}
use Rattle.token_cells.specs.declared.keeping.Kept.{Kept}
use Rattle.token_cells.specs.declared.row.Fragments.{Fragments}
use Rattle.token_cells.specs.inner.Blocks.{AreInOrder, AreJoined, AreNamesFrom, AreNext, IsBehind, IsBlock, IsLine, LiesIn, Shows, ShowsAt, StandsIn, block_between, block_on, bodies_in, glue_on, lines_on, text_on, up_to}
use Rattle.token_cells.specs.inner.Kept.{PageTexts}
use Rattle.token_cells.proofs.Glued.{glued_push}
use Rattle.token_cells.proofs.Parts.{item_more, one_item, two_parts}

between_on : (format : Format) (first last : Fragments) → block_on format (block_between first last) ≡ up_to (lines_on format first) (lines_on format last)
between_on Css first last = refl
between_on Android first last = refl
between_on Swift first last = refl
between_on Json first last = refl

-- Lines with the glue between.

joined_one : (text glue : List ℕ) (lines : Extent) → lines.start ≤ lines.end → AreJoined text glue (up_to lines lines) (text_in text lines ∷ [])
joined_one text glue lines order = record { order = order; some = refl; text_is = sym (append-nil (text_in text lines)) }

joined_more : (text glue : List ℕ) (first last next : Extent) (bodies : List (List ℕ)) → AreJoined text glue (up_to first last) bodies → IsBehind text last.end glue next
    → AreJoined text glue (up_to first next) (bodies ++ text_in text next ∷ [])
joined_more text glue first last next bodies joined behind = record {
  order = omega (arith, joined.order, behind.behind, behind.order);
  some = some_more bodies joined.some;
  text_is = two_parts text first.start last.end next.end joined.order (omega (arith, behind.behind, behind.order))
      ∙ (ap₂ (λ a b. a ++ b) joined.text_is (two_parts text last.end next.start next.end behind.behind behind.order ∙ ap (λ g. g ++ text_in text next) behind.glue_is)
      ∙ sym (glued_push glue bodies (text_in text next) joined.some));
}
  where
    some_more : (bs : List (List ℕ)) → are_some bs ≡ true → are_some (bs ++ text_in text next ∷ []) ≡ true
    some_more [] e = absurd (cc)
    some_more (b ∷ bs) e = refl

-- Places between others.

lies_more : (start end more first last : ℕ) → LiesIn start end first last → end ≤ more → LiesIn start more first last
lies_more start end more first last lies less = record { start_is = lies.start_is; order = lies.order; end_is = omega (arith, lies.end_is, less) }

lies_behind : (start from end first last : ℕ) → start ≤ from → LiesIn from end first last → LiesIn start end first last
lies_behind start from end first last less lies = record { start_is = omega (arith, lies.start_is, less); order = lies.order; end_is = lies.end_is }

-- One row.

block_one : (pages : PageTexts) (f : Fragments) → AreInOrder f → IsBlock pages (block_between f f) (f ∷ [])
block_one pages f order = record {
  joined = λ format.
      subst (λ (e : Extent). AreJoined (text_on format pages) (frame_for format).glue e (bodies_in format pages (f ∷ []))) (sym (between_on format f f))
      (joined_one (text_on format pages) (frame_for format).glue (lines_on format f) (order.lines format));
  names = omega (arith, order.names.css.order, order.names.css.end_is);
  stand = All-cons (StandsIn (block_between f f)) f [] stands (All-nil (StandsIn (block_between f f)));
}
  where
    stands : StandsIn (block_between f f) f
    stands = record {
      lines = λ format.
          subst (λ (e : Extent). LiesIn e.start e.end (lines_on format f).start (lines_on format f).end) (sym (between_on format f f))
          (record { start_is = omega arith; order = order.lines format; end_is = omega arith });
      css = order.names.css;
      android = order.names.android;
      swift = order.names.swift;
    }

pub line_one : (pages : PageTexts) (kepts : List (Option Kept)) (i many : ℕ) (first : Fragments) → i < many → ShowsAt pages first kepts i → AreInOrder first
    → IsLine pages kepts i many first first (i + 1)
line_one pages kepts i many first within at order = record {
  after = omega arith;
  within = omega (arith, within);
  long = omega (arith, slice_get_within kepts i at.kept at.there);
  run = record {
    fs = first ∷ [];
    shows = subst (λ (ks : List (Option Kept)). AllZip (Shows pages) (first ∷ []) ks) (sym (one_item kepts i at.kept at.there)) (at.shows, tt);
    block = block_one pages first order;
  };
}

-- One row more.

block_more : (pages : PageTexts) (glues : Glues) (first last next : Fragments) (fs : List Fragments) → ((format : Format) → glue_on format glues ≡ (frame_for format).glue)
    → IsBlock pages (block_between first last) fs → AreNext pages glues last next → IsBlock pages (block_between first next) (fs ++ next ∷ [])
block_more pages glues first last next fs glue_is block behind = record {
  joined = λ format.
      let text = text_on format pages in
      let glue = (frame_for format).glue in
      let so_far = subst (λ (e : Extent). AreJoined text glue e (bodies_in format pages fs)) (between_on format first last) (block.joined format) in
      let more = joined_more text glue (lines_on format first) (lines_on format last) (lines_on format next) (bodies_in format pages fs) so_far (next_on format) in
      subst (λ (e : Extent). AreJoined text glue e (bodies_in format pages (fs ++ next ∷ []))) (sym (between_on format first next))
      (subst (λ (bs : List (List ℕ)). AreJoined text glue (up_to (lines_on format first) (lines_on format next)) bs) (sym (map_push (λ (f : Fragments). text_in text (lines_on format f)) fs next)) more);
  names = omega (arith, block.names, longer);
  stand = All-push (StandsIn (block_between first next)) fs next (All-weaker (StandsIn (block_between first last)) (StandsIn (block_between first next)) wider fs block.stand) stands;
}
  where
    next_on : (format : Format) → IsBehind (text_on format pages) (lines_on format last).end (frame_for format).glue (lines_on format next)
    next_on format = subst (λ (g : List ℕ). IsBehind (text_on format pages) (lines_on format last).end g (lines_on format next)) (glue_is format) (behind.lines format)

    longer : last.swift.names.end ≤ next.swift.names.end
    longer = omega (arith, behind.names.css.start_is, behind.names.css.order, behind.names.css.end_is)

    wider : (f : Fragments) → StandsIn (block_between first last) f → StandsIn (block_between first next) f
    wider f stand = record {
      lines = λ format.
          let old = subst (λ (e : Extent). LiesIn e.start e.end (lines_on format f).start (lines_on format f).end) (between_on format first last) (stand.lines format) in
          subst (λ (e : Extent). LiesIn e.start e.end (lines_on format f).start (lines_on format f).end) (sym (between_on format first next))
          (lies_more (lines_on format first).start (lines_on format last).end (lines_on format next).end (lines_on format f).start (lines_on format f).end old
          (omega (arith, (behind.lines format).behind, (behind.lines format).order)));
      css = lies_more first.css.names.start last.swift.names.end next.swift.names.end f.css.names.start f.css.names.end stand.css longer;
      android = lies_more first.css.names.start last.swift.names.end next.swift.names.end f.android.names.start f.android.names.end stand.android longer;
      swift = lies_more first.css.names.start last.swift.names.end next.swift.names.end f.swift.names.start f.swift.names.end stand.swift longer;
    }

    stands : StandsIn (block_between first next) next
    stands = record {
      lines = λ format.
          let before = subst (λ (e : Extent). AreJoined (text_on format pages) (frame_for format).glue e (bodies_in format pages fs)) (between_on format first last) (block.joined format) in
          subst (λ (e : Extent). LiesIn e.start e.end (lines_on format next).start (lines_on format next).end) (sym (between_on format first next))
          (record { start_is = omega (arith, before.order, (behind.lines format).behind); order = (behind.lines format).order; end_is = omega arith });
      css = lies_behind first.css.names.start last.swift.names.end next.swift.names.end next.css.names.start next.css.names.end block.names behind.names.css;
      android = lies_behind first.css.names.start last.swift.names.end next.swift.names.end next.android.names.start next.android.names.end block.names behind.names.android;
      swift = lies_behind first.css.names.start last.swift.names.end next.swift.names.end next.swift.names.start next.swift.names.end block.names behind.names.swift;
    }

pub line_more : (pages : PageTexts) (kepts : List (Option Kept)) (i many : ℕ) (first last next : Fragments) (glues : Glues) (n : ℕ)
    → ((format : Format) → glue_on format glues ≡ (frame_for format).glue) → IsLine pages kepts i many first last n → n < many → ShowsAt pages next kepts n
    → AreNext pages glues last next → IsLine pages kepts i many first next (n + 1)
line_more pages kepts i many first last next glues n glue_is line within at behind = record {
  after = omega (arith, line.after);
  within = omega (arith, within);
  long = omega (arith, slice_get_within kepts n at.kept at.there);
  run = record {
    fs = line.run.fs ++ next ∷ [];
    shows = subst (λ (ks : List (Option Kept)). AllZip (Shows pages) (line.run.fs ++ next ∷ []) ks) (sym (item_more kepts i n at.kept (omega (arith, line.after)) at.there))
        (all_zipped_more (Shows pages) line.run.fs (slice_range kepts i n) next at.kept line.run.shows at.shows);
    block = block_more pages glues first last next line.run.fs glue_is line.run.block behind;
  };
}
