-- A worked example: a source that reads a log and a task that adds up, a record, a failure, and the restart. The expected
-- values were written by hand.
use Rattle.std.specs.Prelude.{◌≡◌, ◌==◌, ℕ, zero, suc, ◌+◌, ◌<◌, if◌then◌else◌, List, [], ◌∷◌, ◌++◌, Some, None, refl, ◌⊎◌}
use Rattle.ckpt_ids.specs.{declared.subtask.SubtaskId.SubtaskId, Ordered.IsIn}
use Rattle.ckpt_align.specs.{Histories.Element, Histories.Barrier, Laws.Channel, Laws.HasCut}
use Rattle.ckpt_align.specs.Steps.{step, settled, barrier}
use Rattle.ckpt_once.specs.Programs.{Emitted, Move, Takes, Draws, Program, Turn, Offered, Drawn, from_input}
use Rattle.ckpt_once.specs.Jobs.{Attempt, AreAttempts, By, GivesInOrder, HaveCut, History, IsHistory, IsJob, Job, Run, States, of, network, restored, run_of, run_of_attempts, starts, states_after, states_in}
use Rattle.ckpt_once.specs.Choices.{Plan}
use Rattle.ckpt_once.specs.Sinks.{Sink, published_before, written}
use mathlib.Core.Path.{sym, subst}
use mathlib.Core.Logic.{inl, inr}
use native.Mathlib.Nat.{lt-suc_self}

abbrev pub source : SubtaskId
source = record { vertex = 0; index = 0 }

abbrev pub adder : SubtaskId
adder = record { vertex = 1; index = 0 }

abbrev one : ℕ → List Emitted
one x = record { output = 0; element = x } ∷ []

-- The state of a source is its offset in a log, whose elements are 100, 101, and so on.
abbrev reads_log : Program
reads_log = record { start = 0; next = λ s move. s + 1; emits = λ s move. one (s + 100) }

abbrev added : ℕ → Move → ℕ
added s (Takes i x) = s + x
added s Draws = s

-- The state of an adder is its sum, which it writes after each element.
abbrev adds : Program
adds = record { start = 0; next = added; emits = λ s move. one (added s move) }

abbrev program_of : ℕ → Program
program_of zero = reads_log
program_of (suc vertex) = adds

abbrev pub line : Channel
line = record { sender = source; output = 0; receiver = adder; input = 0 }

abbrev pub job : Job
job = record { tasks = source ∷ adder ∷ []; sources = source ∷ []; program = λ t. program_of t.vertex; inputs = λ t. 1; channels = line ∷ [] }

abbrev by : SubtaskId → Turn → By Turn
by t turn = record { task = t; what = turn }

-- The newest first: the source reads 100, and cuts record 7; the adder takes 100; the source reads 101; the adder cuts
-- record 7 and takes 101. Then the job fails.
abbrev failed : History
failed =
    by adder (Offered 0 (Element 101))
    ∷ by adder (Offered 0 (Barrier 7))
    ∷ by source Drawn
    ∷ by adder (Offered 0 (Element 100))
    ∷ by source (Offered 0 (Barrier 7))
    ∷ by source Drawn
    ∷ []

abbrev attempts : List Attempt
attempts = record { history = failed; record_id = 7; earlier = [] } ∷ []

-- Once restored to record 7, the source reads 101 again, and the adder takes it.
abbrev again : History
again = by adder (Offered 0 (Element 101)) ∷ by source Drawn ∷ []

abbrev sink : Sink
sink = record { task = adder; output = 0 }

pub failed_source : states_in job (starts job) failed source ≡ 2
unfolding step barrier settled
failed_source = refl

pub failed_adder : states_in job (starts job) failed adder ≡ 201
unfolding step barrier settled
failed_adder = refl

pub snapshot_source : restored job attempts source ≡ 1
unfolding step barrier settled
snapshot_source = refl

pub snapshot_adder : restored job attempts adder ≡ 100
unfolding step barrier settled
snapshot_adder = refl

-- the sum 201 was written, but not published
pub published_so_far : published_before job sink attempts ≡ 100 ∷ []
unfolding step barrier settled
published_so_far = refl

pub again_source : states_in job (restored job attempts) again source ≡ 2
unfolding step barrier settled
again_source = refl

pub again_adder : states_in job (restored job attempts) again adder ≡ 201
unfolding step barrier settled
again_adder = refl

abbrev whole : Run
whole = run_of job again ++ run_of_attempts job attempts

-- in the run without a failure 101 is taken once
pub taken_once : from_input 0 (of adder whole) ≡ 100 ∷ 101 ∷ []
unfolding step barrier settled
taken_once = refl

pub written_once : written job (starts job) whole sink ≡ 100 ∷ 201 ∷ []
unfolding step barrier settled
written_once = refl

pub same_sum : states_after job (starts job) whole adder ≡ 201
unfolding step barrier settled
same_sum = refl

-- Had the adder gone on from its state at the failure, and the source from its snapshot, 101 would count twice.
abbrev mixed : States
mixed t = if t.vertex == 0 then restored job attempts t else states_in job (starts job) failed t

pub counted_twice : states_in job mixed again adder ≡ 302
unfolding step barrier settled
counted_twice = refl

-- No task of this job chooses: the source makes its own steps, and the adder takes from the line.
abbrev pub plan : Plan
plan t = if t.vertex == 0 then None else Some line

-- The premises of the laws hold for it.

at_line : (P : Channel → Type 0) → P line → (c : Channel) → (c ≡ line) ⊎ ⊥ → P c
at_line P here c (inl e) = subst P (sym e) here
at_line P here c (inr none) = absurd none

at_tasks : (P : SubtaskId → Type 0) → P source → P adder → (t : SubtaskId) → (t ≡ source) ⊎ ((t ≡ adder) ⊎ ⊥) → P t
at_tasks P first second t (inl e) = subst P (sym e) first
at_tasks P first second t (inr (inl e)) = subst P (sym e) second
at_tasks P first second t (inr (inr none)) = absurd none

pub is_job : IsJob job
is_job = at_line (λ c. IsIn c.sender job.tasks × IsIn c.receiver job.tasks × (c.input < job.inputs c.receiver)) (inl refl, inr (inl refl), lt-suc_self 0)

-- what the channel has after each turn
abbrev Gives : By Turn → History → Channel → Type 0
Gives e h c = GivesInOrder (network job (starts job) h) (network job (starts job) (e ∷ h)) c

pub is_history : IsHistory job (starts job) failed
unfolding step barrier settled
is_history =
    let gives : (e : By Turn) (h : History) → Gives e h line → (c : Channel) → (c ≡ line) ⊎ ⊥ → Gives e h c = λ e h. at_line (Gives e h) in
    let first : History = by source Drawn ∷ [] in
    let second : History = by source (Offered 0 (Barrier 7)) ∷ first in
    let third : History = by adder (Offered 0 (Element 100)) ∷ second in
    let fourth : History = by source Drawn ∷ third in
    let fifth : History = by adder (Offered 0 (Barrier 7)) ∷ fourth in
    let h1 : IsHistory job (starts job) first = (tt, (inl refl, inl refl), gives (by source Drawn) [] ([], refl)) in
    let h2 : IsHistory job (starts job) second = (h1, inl refl, gives (by source (Offered 0 (Barrier 7))) first (Element 100 ∷ [], refl)) in
    let h3 : IsHistory job (starts job) third = (h2, (inr (inl refl), (line, inl refl, refl, refl)), gives (by adder (Offered 0 (Element 100))) second (Barrier 7 ∷ [], refl)) in
    let h4 : IsHistory job (starts job) fourth = (h3, (inl refl, inl refl), gives (by source Drawn) third (Barrier 7 ∷ [], refl)) in
    let h5 : IsHistory job (starts job) fifth = (h4, inr (inl refl), gives (by adder (Offered 0 (Barrier 7))) fourth (Element 101 ∷ [], refl)) in
    (h5, (inr (inl refl), (line, inl refl, refl, refl)), gives (by adder (Offered 0 (Element 101))) fifth ([], refl))

pub have_cut : HaveCut 7 job (starts job) failed
unfolding step barrier settled
have_cut = at_tasks (λ t. HasCut 7 ((network job (starts job) failed).task t)) refl refl

pub are_attempts : AreAttempts job attempts
are_attempts = (tt, is_history, have_cut)
