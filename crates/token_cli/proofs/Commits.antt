-- What a commit leaves and tells, or why it is not told, by what an engine answers.
use Rattle.std.proofs.Common.{◌≡◌, ◌+◌, ℕ, List, Option, Some, ap, refl, subst}
use Rattle.std.specs.Io.KnownBytes.{Appends}
use Rattle.tk_io.specs.FilesData.{FilesData}
use Rattle.edit_script.specs.Delta.{Delta, IsDelta}
use Rattle.build_plain.specs.Out.{Builds}
use Rattle.build_plain.specs.Work.{Work}
use Rattle.rebuild_core.specs.Engine.{EngineState, committed}
use Rattle.rebuild_core.specs.Work.{IsWorkFrom}
use Rattle.token_cli.specs.Told.{commit_text}
use Rattle.token_cli.specs.inner.Step.{CommitFails, Cuts, IsCommitTold, State}
use Rattle.token_cli.specs.declared.stop.Stop.{Stop}
use Rattle.token_cli.specs.declared.telling.Telling.{Telling}
use Rattle.token_cli.proofs.Stops.{cut_fails}

module _ (told : Telling) (s : State) (e : EngineState) (n : ℕ) where
  -- what stands with this engine after so many commits
  abbrev pub after : State
  after = record { files = e.files; made = s.made; taken = s.taken; held = e.held; kept = e.kept; commits = n }

  module _ (work : Work) (before next : FilesData) (old new : Option (List ℕ)) (builds : Builds s.files e.held) (done : IsWorkFrom s.kept s.files work) (was : before ≡ s.held) (holds : next ≡ e.held) (number : n ≡ s.commits + 1) where
    pub commit_told : e ≡ committed s.files e.held → (d : Delta) × IsDelta before next d × Appends old new (commit_text told n work d) → IsCommitTold told s after old new
    commit_told is (d, leads, text) = record {
      files = ap (λ (x : EngineState). x.files) is;
      made = refl;
      taken = refl;
      kept = ap (λ (x : EngineState). x.kept) is;
      commits = number;
      work = work;
      delta = d;
      leads = (builds, done, subst (λ (b : FilesData). IsDelta b e.held d) was (subst (λ (h : FilesData). IsDelta before h d) holds leads));
      text = subst (λ (k : ℕ). Appends old new (commit_text told k work d)) number text;
    }

    pub commit_cut : (why : Stop) (first now : ℕ) → Cuts told why before next n work old new first now → CommitFails told why s old new first now
    commit_cut why first now cut =
        cut_fails told why s e.held work old new first now builds done
        (subst (λ (k : ℕ). Cuts told why s.held e.held k work old new first now) number
        (subst (λ (b : FilesData). Cuts told why b e.held n work old new first now) was (subst (λ (h : FilesData). Cuts told why before h n work old new first now) holds cut)))
