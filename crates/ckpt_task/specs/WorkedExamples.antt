-- Worked examples: a source and an adder over one channel, turn by turn. The job is that of `ckpt_once`. The expected
-- values were written by hand.
use Rattle.std.specs.Prelude.{◌≡◌, ℕ, Bool, List, [], ◌∷◌, refl, true, false, Some, if◌then◌else◌}
use Rattle.ckpt_align.specs.{Alignment.opened, Histories.Element, Histories.Barrier}
use Rattle.ckpt_align.specs.Steps.{step, settled, barrier}
use Rattle.ckpt_ids.specs.{declared.subtask.SubtaskId.SubtaskId, Shapes.same_subtask}
use Rattle.ckpt_once.specs.Programs.{Turn, Offered, Drawn, Ended}
use Rattle.ckpt_once.specs.Jobs.{By, History, starts}
use Rattle.ckpt_once.specs.WorkedExamples.{adder, job, line, source}
use Rattle.ckpt_task.specs.{declared.deed.Deed.Deed, Engines.engine, Engines.snapped, Runs.around, Saving.state_under, SinkTurns.SinkAt, SinkTurns.after_turn}
use Rattle.ckpt_task.specs.declared.deed.Deed.TheVariants.{Came, Took, Sent, SentBarrier, Acknowledged}
use Rattle.ckpt_task.specs.declared.turn.Next.TheVariants as next
use Rattle.ckpt_task.specs.Loops.{KeepsOrder, Looped, Loops, history_of}
use Rattle.ckpt_task.specs.Turns.{At, cut_of, is_left, answer_in, puts, takes, turned}

abbrev by : SubtaskId → Turn → By Turn
by t turn = record { task = t; what = turn }

-- The newest first: the source reads 100, and cuts record 7; the adder takes 100; the source reads 101; the adder cuts
-- record 7.
abbrev history : History
history =
    by adder (Offered 0 (Barrier 7))
    ∷ by source Drawn
    ∷ by adder (Offered 0 (Element 100))
    ∷ by source (Offered 0 (Barrier 7))
    ∷ by source Drawn
    ∷ []

-- 101 is on the way.
pub on_line : (engine job (starts job) history).on line ≡ Element 101 ∷ []
unfolding step barrier settled
on_line = refl

pub adder_has : ((engine job (starts job) history).task adder).state ≡ 100
unfolding step barrier settled
adder_has = refl

pub source_has : ((engine job (starts job) history).task source).state ≡ 2
unfolding step barrier settled
source_has = refl

-- the snapshots of record 7
pub source_saves : snapped job (starts job) history source ≡ record { id = 7; state = 1 } ∷ []
unfolding step barrier settled
source_saves = refl

pub adder_saves : snapped job (starts job) history adder ≡ record { id = 7; state = 100 } ∷ []
unfolding step barrier settled
adder_saves = refl

-- One turn of the adder, which has the sum 100.
abbrev at : At
at = record { state = 100; alignment = opened 1 }

pub takes_element : turned (job.program adder) at (Offered 0 (Element 5)) ≡ record { state = 105; alignment = opened 1 }
unfolding step
takes_element = refl

pub puts_element : puts (job.program adder) at (Offered 0 (Element 5)) 0 ≡ Element 105 ∷ []
unfolding step
puts_element = refl

pub cuts_record : cut_of (opened 1) (Offered 0 (Barrier 7)) ≡ Some 7
unfolding step barrier settled
cuts_record = refl

pub puts_barrier : puts (job.program adder) at (Offered 0 (Barrier 7)) 3 ≡ Barrier 7 ∷ []
unfolding step barrier settled
puts_barrier = refl

-- With two inputs, one of which has delivered the barrier, its elements are left.
abbrev aligning : At
aligning = turned (job.program adder) (record { state = 100; alignment = opened 2 }) (Offered 0 (Barrier 7))

pub leaves_element : is_left (answer_in aligning.alignment (Offered 0 (Element 5))) ≡ true
unfolding step barrier settled
leaves_element = refl

pub takes_none : takes (job.program adder) aligning (Offered 0 (Element 5)) 0 ≡ []
unfolding step barrier settled
takes_none = refl

-- A sink holds back what it writes on its own output, and seals it at its cut.
abbrev sink : List ℕ → SinkAt
sink xs = record { task = at; held = record { waiting = []; open_one = xs }; output = 0; has_failed = false }

pub sink_writes : after_turn (job.program adder) (sink (100 ∷ [])) (Offered 0 (Element 5)) ≡ record { waiting = []; open_one = 100 ∷ 105 ∷ [] }
unfolding step
sink_writes = refl

pub sink_seals : after_turn (job.program adder) (sink (100 ∷ [])) (Offered 0 (Barrier 7)) ≡ record { waiting = record { id = 7; content = 100 ∷ [] } ∷ []; open_one = [] }
unfolding step barrier settled
sink_seals = refl

-- The newest snapshot of a record counts.
pub loads_newest : state_under 7 (record { id = 8; state = 3; waiting = [] } ∷ record { id = 7; state = 2; waiting = [] } ∷ record { id = 7; state = 1; waiting = [] } ∷ []) ≡ Some 2
loads_newest = refl

-- The source and the adder in loops. The source has read 100 and cut record 7; the adder has taken 100, and then it ended.
abbrev looped : List Deed → Bool → Looped
looped deeds has_ended = record { first = around at [] [] []; last = around at deeds [] []; has_ended = has_ended }

abbrev source_did : List Deed
source_did = Acknowledged 7 ∷ SentBarrier 7 ∷ Took ∷ Came (next.Barrier 0 7) ∷ Sent 0 100 ∷ Took ∷ Came next.Draw ∷ []

abbrev adder_did : List Deed
adder_did = Sent 0 100 ∷ Took ∷ Came (next.Element 0 100) ∷ []

abbrev loops : Loops
loops = record { looped = λ t. if same_subtask t adder then looped adder_did true else looped source_did false; order = adder ∷ source ∷ [] }

pub loops_history : history_of loops ≡ by adder Ended ∷ by adder (Offered 0 (Element 100)) ∷ by source (Offered 0 (Barrier 7)) ∷ by source Drawn ∷ []
loops_history = refl

-- the barrier is on the way
pub loops_keep_order : KeepsOrder loops line
loops_keep_order = (Barrier 7 ∷ [], refl)
