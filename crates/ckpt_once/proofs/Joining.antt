-- Runs one behind the other, and any number of failures.
use Rattle.ckpt_once.proofs.Names.{common_steps, arith, ◌≡◌, ℕ, Bool, true, false, List, ◌∷◌, ◌++◌, ◌∙◌, refl, ap, subst, if◌then◌else◌, [], fun_ext, append-nil, append_assoc, SubtaskId}
use Rattle.ckpt_once.proofs.Names.{same_subtask, Channel, Move, Takes, Draws, Program, state, emitted, from_input, Job, IsJob, By, Run, History, States, of, IsPrefix, starts, states_after}
use Rattle.ckpt_once.proofs.Names.{put_on, taken_off, IsRun, IsQuiet, run_of, before_cuts, Attempt, AreAttempts, restored, run_of_attempts, RunsJoin, FailuresInvisible}
use Rattle.ckpt_once.proofs.{TurnLemmas.on_output-append, Running.without_barriers, Running.record_is_of_run}

of-append_by : {X : Type 0} (b : Bool) (x : X) (xs ys zs : List X) → zs ≡ xs ++ ys → (if b then x ∷ zs else zs) ≡ (if b then x ∷ xs else xs) ++ ys
of-append_by true x xs ys zs e = ap (λ l. x ∷ l) e
of-append_by false x xs ys zs e = e

of-append : {X : Type 0} (t : SubtaskId) (second first : List (By X)) → of t (second ++ first) ≡ of t second ++ of t first
of-append t [] first = refl
of-append t (e ∷ second) first = of-append_by (same_subtask e.task t) e.what (of t second) (of t first) (of t (second ++ first)) (of-append t second first)

pub from_input-append : (j : ℕ) (second first : List Move) → from_input j (second ++ first) ≡ from_input j first ++ from_input j second
from_input-append j [] first = grind (arith, common_steps)
from_input-append j (Takes i x ∷ second) first = grind (arith, common_steps, from_input-append j second first)
from_input-append j (Draws ∷ second) first = grind (arith, common_steps, from_input-append j second first)

state-append : (p : Program) (s : ℕ) (second first : List Move) → state p s (second ++ first) ≡ state p (state p s first) second
state-append p s [] first = refl
state-append p s (move ∷ second) first = ap (λ k. p.next k move) (state-append p s second first)

pub emitted-append : (p : Program) (s : ℕ) (second first : List Move) → emitted p s (second ++ first) ≡ emitted p s first ++ emitted p (state p s first) second
emitted-append p s [] first = grind (arith, common_steps, append-nil)
emitted-append p s (move ∷ second) first = grind (arith, common_steps, append_assoc, state-append, emitted-append p s second first)

pub taken-join : (second first : Run) (c : Channel) → taken_off (second ++ first) c ≡ taken_off first c ++ taken_off second c
taken-join second first c = ap (from_input c.input) (of-append c.receiver second first) ∙ from_input-append c.input (of c.receiver second) (of c.receiver first)

pub put-join : (job : Job) (from : States) (second first : Run) (c : Channel) → put_on job from (second ++ first) c ≡ put_on job from first c ++ put_on job (states_after job from first) second c
put-join job from second first c = grind (arith, common_steps, emitted-append, of-append, on_output-append)

pub states-join : (job : Job) (from : States) (second first : Run) (t : SubtaskId) → states_after job (states_after job from first) second t ≡ states_after job from (second ++ first) t
states-join job from second first t = grind (arith, common_steps, of-append, state-append)

prefix-join : (xs us ys vs ps qs : List ℕ) → ps ≡ xs ++ us → qs ≡ ys ++ vs → ys ≡ xs → IsPrefix us vs → IsPrefix ps qs
prefix-join xs us ys vs ps qs e f same h = grind (arith, common_steps)

is_run-join : (job : Job) (from : States) (first second : Run) → IsRun job from first → IsQuiet job from first → IsRun job (states_after job from first) second → IsRun job from (second ++ first)
is_run-join job from first [] r quiet k = r
is_run-join job from first (step ∷ second) r quiet k = (
  is_run-join job from first second r quiet k.0,
  k.1,
  λ c has. prefix-join (taken_off first c) (taken_off (step ∷ second) c) (put_on job from first c) (put_on job (states_after job from first) second c) (taken_off (step ∷ second ++ first) c) (put_on job from (second ++ first) c)
      (taken-join (step ∷ second) first c) (put-join job from second first c) (quiet c has) (k.2 c has),
)

pub is_quiet-join : (job : Job) (from : States) (first second : Run) → IsQuiet job from first → IsQuiet job (states_after job from first) second → IsQuiet job from (second ++ first)
is_quiet-join job from first second quiet k c has = grind (arith, common_steps, put-join, taken-join)

pub runs_join : (job : Job) (from : States) (first second : Run) → RunsJoin job from first second
runs_join job from first second r quiet k = (is_run-join job from first second r quiet k, states-join job from second first)

-- after any number of failures

pub record IsRestored (job : Job) (attempts : List Attempt) : Type 0 where
  pub run : IsRun job (starts job) (run_of_attempts job attempts)
  pub quiet : IsQuiet job (starts job) (run_of_attempts job attempts)
  pub states : restored job attempts ≡ states_after job (starts job) (run_of_attempts job attempts)

pub is_restored : (job : Job) (attempts : List Attempt) → IsJob job → AreAttempts job attempts → IsRestored job attempts
is_restored job [] is k = record { run = tt; quiet = λ c has. refl; states = refl }
is_restored job (attempt ∷ attempts) is k =
    let from : States = restored job attempts in
    let first : Run = run_of_attempts job attempts in
    let second : Run = run_of job (before_cuts attempt.record_id job from attempt.history) in
    let before = is_restored job attempts is k.0 in
    let of_record = record_is_of_run attempt.record_id job from attempt.history is k.1 k.2 in
    let Runs : States → Type 0 = λ f. IsRun job f second in
    let Quiet : States → Type 0 = λ f. IsQuiet job f second in
    record {
      run = is_run-join job (starts job) first second before.run before.quiet (subst Runs before.states of_record.0);
      quiet = is_quiet-join job (starts job) first second before.quiet (subst Quiet before.states of_record.1);
      states = fun_ext (λ t. of_record.2 t ∙ ap (λ f. states_after job f second t) before.states ∙ states-join job (starts job) second first t);
    }

pub failures_invisible : (job : Job) (attempts : List Attempt) (h : History) → FailuresInvisible job attempts h
failures_invisible job attempts h is are k =
    let first : Run = run_of_attempts job attempts in
    let before = is_restored job attempts is are in
    let now = without_barriers job (restored job attempts) h k in
    let Runs : States → Type 0 = λ f. IsRun job f (run_of job h) in (
      is_run-join job (starts job) first (run_of job h) before.run before.quiet (subst Runs before.states now.0),
      before.quiet,
      λ t. now.1 t ∙ ap (λ f. states_after job f (run_of job h) t) before.states ∙ states-join job (starts job) (run_of job h) first t,
    )
