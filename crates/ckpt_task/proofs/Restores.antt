-- The newest snapshot of a record that a task saved is that of its cut.
use Rattle.ckpt_task.proofs.Names.{common_steps, arith, ◌≡◌, ℕ, List, ◌∷◌, ◌++◌, sym, ap, ◌∙◌, inl, inr, [], Option, Some, None, IsIn, IsIn-append_right, SubtaskId, Alignment, opened}
use Rattle.ckpt_task.proofs.Names.{History, Job, States, of, snapshots, Program, Turn, state, Snapped, snapped_at, snapped_by, AreSaved, RestoresSnapshot, Saved, state_of, under, At}
use Rattle.ckpt_task.proofs.Names.{IsSaved, cut_in, Outcome, Moved, Nothing, Cut, Unsaved, Abandoned}
use Rattle.ckpt_task.proofs.Snapping.{snaps_at_cut}
use Rattle.ckpt_task.specs.declared.turn.Outcome.TheVariants.{Held}

abbrev pub snap : ℕ → ℕ → Snapped
snap n s = record { id = n; state = s }

-- each snapshot of the record that is here is one of those that the task took
abbrev pub Comes : ℕ → List Saved → List Snapped → Type 0
Comes n ones taken = (s : ℕ) → state_of (under n ones) ≡ Some s → IsIn (snap n s) taken

pub stays : (n : ℕ) (before now : List Saved) (new taken : List Snapped) → now ≡ before → Comes n before taken → Comes n now (new ++ taken)
stays n before now new taken same comes s is = IsIn-append_right (snap n s) new taken (comes s (sym (ap (λ (ones : List Saved). state_of (under n ones)) same) ∙ is))

-- one more, that of this cut
pub adds : (n m x : ℕ) (one : Saved) (before now : List Saved) (cut : Option ℕ) (taken : List Snapped) → one.id ≡ m → one.state ≡ x → Some m ≡ cut → now ≡ one ∷ before
    → Comes n before taken → Comes n now (snapped_at cut x ++ taken)
adds n m x one before now cut taken id state is_cut is comes s has = grind (arith, common_steps)

goes : (n x : ℕ) (o : Outcome) (before now : List Saved) (cut : Option ℕ) (taken : List Snapped) (waiting : _) → cut_in o ≡ cut → IsSaved o x waiting before now
    → Comes n before taken → Comes n now (snapped_at cut x ++ taken)
goes n x (Cut m) before now cut taken waiting is_cut saved comes = grind (arith, common_steps)
goes n x (Unsaved m) before now cut taken waiting is_cut (inl same) comes = grind (arith, common_steps)
goes n x (Unsaved m) before now cut taken waiting is_cut (inr saved) comes = grind (arith, common_steps)
goes n x (Moved ones) before now cut taken waiting is_cut same comes = grind (arith, common_steps)
goes n x Held before now cut taken waiting is_cut same comes = grind (arith, common_steps)
goes n x Nothing before now cut taken waiting is_cut same comes = grind (arith, common_steps)
goes n x (Abandoned id) before now cut taken waiting is_cut same comes = grind (arith, common_steps)

are_taken : (n : ℕ) (p : Program) (s : ℕ) (a : Alignment) (turns : List Turn) (before now : List Saved) → under n before ≡ None → AreSaved p s a turns before now
    → Comes n now (snapped_by p s a turns)
are_taken n p s a [] before now none same x is = grind (arith, common_steps)
are_taken n p s a (turn ∷ turns) before now none saved x is = grind (arith, common_steps, are_taken n p s a turns before saved.0 none saved.1)

pub restores_snapshot : (job : Job) (from : States) (h : History) (t : SubtaskId) (n : ℕ) (task : At) → RestoresSnapshot job from h t n task
restores_snapshot job from h t n task before now works saved none restored =
    let one : Snapped = snap n task.state in
    let has : IsIn one (snapped_by (job.program t) (from t) (opened (job.inputs t)) (of t h)) =
    are_taken n (job.program t) (from t) (opened (job.inputs t)) (of t h) before now none saved task.state restored.state in
    let is = snaps_at_cut job from h t one works has in
    (is.0, ap (λ (s : ℕ). record { state = s; alignment = task.alignment }) is.1 ∙ ap (λ (a : Alignment). record { state = snapshots n job from h t; alignment = a }) restored.opened)
