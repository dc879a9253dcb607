-- A snapshot is a fold over what comes before the barrier.
use Rattle.ckpt_once.proofs.Names.{common_steps, arith, ◌≡◌, ℕ, Bool, true, false, List, ◌∷◌, ◌++◌, ◌∙◌, refl, sym, ap, if◌then◌else◌, inl, inr, [], SubtaskId, IsIn, same_subtask}
use Rattle.ckpt_once.proofs.Names.{same_subtask-Decides, Item, Channel, processed_before, Move, Program, Takes, from_input, state, By, History, IsMoveOf, IsRun, Job, Run, States}
use Rattle.ckpt_once.proofs.Names.{before_cuts, of, run_of, SnapshotOfInput, state_over}
use Rattle.ckpt_once.proofs.{Choosing.takes_one, Running.acts_of, Running.record_is_of_run, Running.taken_before_is}

one_over : (p : Program) (s i : ℕ) (xs : List ℕ) (x : ℕ) → state_over p s i (xs ++ x ∷ []) ≡ p.next (state_over p s i xs) (Takes i x)
one_over p s i [] x = refl
one_over p s i (y ∷ xs) x = one_over p (p.next s (Takes i y)) i xs x

all_over : (p : Program) (s i : ℕ) (moves : List Move) → ((move : Move) → IsIn move moves → (x : ℕ) × (move ≡ Takes i x)) → state p s moves ≡ state_over p s i (from_input i moves)
all_over p s i [] takes = refl
all_over p s i (move ∷ moves) takes =
    let one = takes move (inl refl) in
    ap (λ k. p.next k move) (all_over p s i moves (λ m has. takes m (inr has)))
    ∙ ap (p.next (state_over p s i (from_input i moves))) one.1
    ∙ sym (one_over p s i (from_input i moves) one.0)
    ∙ ap (state_over p s i) (sym (takes_one i one.0 moves))
    ∙ ap (λ m. state_over p s i (from_input i (m ∷ moves))) (sym one.1)

is_move_by : (job : Job) (step : By Move) (run : Run) (t : SubtaskId) (move : Move) (b : Bool) → same_subtask step.task t ≡ b → IsMoveOf job step.task step.what → IsIn move (if b then step.what ∷ of t run else of t run)
    → (IsIn move (of t run) → IsMoveOf job t move) → IsMoveOf job t move
is_move_by job step run t move true same here (inl e) later = grind (arith, common_steps, same_subtask-Decides)
is_move_by job step run t move true same here (inr has) later = grind (arith, common_steps)
is_move_by job step run t move false other here has later = grind (arith, common_steps)

is_move_in : (job : Job) (from : States) (run : Run) (t : SubtaskId) (move : Move) → IsRun job from run → IsIn move (of t run) → IsMoveOf job t move
is_move_in job from [] t move r has = absurd has
is_move_in job from (step ∷ run) t move r has = is_move_by job step run t move (same_subtask step.task t) refl r.1 has (λ later. is_move_in job from run t move r.0 later)

pub snapshot_of_input : (n : ℕ) (job : Job) (from : States) (h : History) (t : SubtaskId) (i : ℕ) (rest : List Item) → SnapshotOfInput n job from h t i rest
snapshot_of_input n job from h t i rest is k cut has takes within =
    let law = record_is_of_run n job from h is k cut in
    let run : Run = run_of job (before_cuts n job from h) in
    let c : Channel = record { sender = t; output = 0; receiver = t; input = i } in
    law.2 t
    ∙ all_over (job.program t) (from t) i (of t run) (λ move member. takes move (is_move_in job from run t move law.0 member))
    ∙ ap (state_over (job.program t) (from t) i) (taken_before_is n job from h c ∙ processed_before n i (job.inputs t) (acts_of job from h t) rest within (cut t has))
