-- The thread that ran last.
use Rattle.std.specs.Prelude.{ℕ, if◌then◌else◌, List, [], ◌∷◌}
use Rattle.rrv_model.specs.declared.record.End.{End}
use Rattle.rrv_model.specs.declared.record.Frame.{Frame}
use Rattle.rrv_model.specs.Ends.{runs_thread}

-- the thread of a slice that ended so; where none ran, the last is the one before
abbrev pub thread_by : End → ℕ → ℕ → ℕ
thread_by end tid before = if runs_thread end then tid else before

-- the last thread behind a frame: the frame's, or the one before where none ran
abbrev pub thread_after : Frame → ℕ → ℕ
thread_after f before = thread_by f.end f.tid before

-- the last thread behind frames, from one before them on
abbrev pub last_from : ℕ → List Frame → ℕ
last_from before [] = before
last_from before (f ∷ frames) = last_from (thread_after f before) frames

-- the tid of the last frame in which a thread ran; 0 if there is none
abbrev pub last_tid : List Frame → ℕ
last_tid frames = last_from 0 frames
