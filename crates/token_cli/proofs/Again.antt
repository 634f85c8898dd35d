-- A commit of files that are built: nothing is done, and nothing changes.
use Rattle.std.proofs.Common.{◌≡◌, ◌+◌, ◌∙◌, ℕ, Bool, List, [], Option, Some, None, cond, ap, refl, subst, sym}
use Rattle.std.proofs.lemmas.List.{nil_from_length}
use Rattle.std.proofs.lemmas.Slice.Eq.{bytes_eq-Decides}
use Rattle.std.specs.FinMap as map
use Rattle.std.specs.Prelude.{map as map_list}
use Rattle.std.specs.Io.KnownBytes.{Appends}
use Rattle.tk_io.specs.Causes.{Rose}
use Rattle.tk_io.specs.FilesData.{FilesData}
use Rattle.tk_io.specs.Order.{text_cmp}
use Rattle.tk_io.specs.Writing.{AppendsPart}
use Rattle.edit_script.specs.Delta.{Delta, IsDelta, change_of}
use Rattle.edit_script.specs.View.{Lined, with_line}
use Rattle.build_plain.specs.Out.{Builds}
use Rattle.build_plain.specs.Work.{work}
use Rattle.rebuild_core.specs.Laws.{FromTheSame}
use Rattle.rebuild_core.specs.Work.{IsWorkFrom}
use Rattle.token_cli.specs.Told.{commit_text}
use Rattle.token_cli.specs.inner.Step.{CommitFails, IsCommitTold, IsCommitted, State, changes_text}
use Rattle.token_cli.specs.declared.stop.Stop.TheVariants as stop
use Rattle.token_cli.specs.declared.telling.Telling.{Telling}
use Rattle.token_cli.proofs.Told.{told_of_changes}

no_change : (o : Option (List ℕ)) → change_of o o ≡ None
no_change None = refl
no_change (Some bytes) = ap (λ (b : Bool). cond b None (Some (Some bytes))) ((bytes_eq-Decides bytes bytes).1 refl)

abbrev none : Delta
none = map.empty

no_entries : [] ≡ map.entries none
no_entries = sym (nil_from_length (map.entries none) (sym (map.len-entries none) ∙ map.len-empty text_cmp (Option (List ℕ))))

no_delta : (held : FilesData) → IsDelta held held none
no_delta held path = map.get-empty text_cmp path ∙ sym (no_change (map.get held path))

module _ (told : Telling) (s : State) (same : FromTheSame) (kept : s.kept ≡ Some s.files) (held : Builds s.files s.held) where
  pub again : IsCommitted s s.held (work 0 0 0) none
  again =
      (held, subst (λ (k : Option FilesData). IsWorkFrom k s.files (work 0 0 0)) (sym kept) ((same s.files (work 0 0 0)).1 refl), no_delta s.held)

  abbrev text_again : commit_text told (s.commits + 1) (work 0 0 0) none ≡ changes_text told (s.commits + 1) (work 0 0 0) []
  text_again = told_of_changes told (s.commits + 1) (work 0 0 0) none [] (ap (map_list with_line) no_entries)

  module _ (changes : List Lined) (empty : changes ≡ []) (old new : Option (List ℕ)) where
    pub again_told : (t : State) → t ≡ record { files = s.files; made = s.made; taken = s.taken; held = s.held; kept = s.kept; commits = s.commits + 1 }
        → Appends old new (changes_text told (s.commits + 1) (work 0 0 0) changes) → IsCommitTold told s t old new
    again_told t is text = record {
      files = ap (λ (x : State). x.files) is;
      made = ap (λ (x : State). x.made) is;
      taken = ap (λ (x : State). x.taken) is;
      kept = ap (λ (x : State). x.kept) is ∙ kept;
      commits = ap (λ (x : State). x.commits) is;
      work = work 0 0 0;
      delta = none;
      leads = subst (λ (h : FilesData). IsCommitted s h (work 0 0 0) none) (sym (ap (λ (x : State). x.held) is)) again;
      text = subst (λ (l : List ℕ). Appends old new l) (ap (changes_text told (s.commits + 1) (work 0 0 0)) empty ∙ sym text_again) text;
    }

    pub again_cut : (before now : ℕ) → Rose before now → AppendsPart old new (changes_text told (s.commits + 1) (work 0 0 0) changes) → CommitFails told stop.WriteFault s old new before now
    again_cut before now rose part = (
      rose,
      (
        s.held,
        work 0 0 0,
        none,
        again,
        subst (λ (l : List ℕ). AppendsPart old new l) (ap (changes_text told (s.commits + 1) (work 0 0 0)) empty ∙ sym text_again) part,
      ),
    )
