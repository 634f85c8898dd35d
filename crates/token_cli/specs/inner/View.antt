-- What a workspace of the code stands for.
use Rattle.token_cli.specs.declared.workspace.Workspace.{Workspace}
use Rattle.token_cli.specs.inner.Step.{State}

abbrev pub workspace_view : Workspace → State
workspace_view w = record {
  files = w.engine.files;
  made = w.made;
  taken = w.taken;
  held = w.engine.held;
  kept = w.engine.kept;
  commits = w.commits;
}
