-- A worked example: the source and the adder of `ckpt_once` in loops, whose job fails after record 1 was completed, and is
-- restored to it. The expected values were written by hand.
use Rattle.std.specs.Prelude.{◌≡◌, ℕ, false, List, [], ◌∷◌, if◌then◌else◌, refl}
use Rattle.ckpt_ids.specs.{declared.call.Call.Call, declared.call.Call.TheVariants.Ack, declared.call.Call.TheVariants.Tick, Shapes.same_subtask}
use Rattle.ckpt_align.specs.{Alignment.opened, Histories.Barrier, Histories.Element}
use Rattle.ckpt_align.specs.Steps.{barrier, settled, step}
use Rattle.ckpt_model.specs.State.{Opening}
use Rattle.ckpt_once.specs.Jobs.{restored, starts, states_in}
use Rattle.ckpt_once.specs.Programs.{Offered}
use Rattle.ckpt_once.specs.WorkedExamples.{adder, job, source}
use Rattle.ckpt_task.specs.{declared.deed.Deed.Deed, Runs.Around, Runs.around, Saving.Saved, Turns.At, Turns.turned}
use Rattle.ckpt_task.specs.declared.deed.Deed.TheVariants.{Acknowledged, Came, Sent, SentBarrier, Took}
use Rattle.ckpt_task.specs.declared.turn.Next.TheVariants as next
use Rattle.ckpt_task.specs.Loops.{Looped, Loops, LoopsAttempt, attempts_of, history_of}

-- The coordinator of two vertices with one subtask each. It triggers record 1, and both subtasks acknowledge.
abbrev pub opening : Opening
opening = record {
  config = record { interval = 1000; pause = 0; at_once = 1; timeout = 600000; tolerable = 0; retained = 1; keep_on_cancel = false };
  shape = 1 ∷ 1 ∷ [];
  start = 0;
  first = 1;
}

abbrev pub calls : List Call
calls = Tick 1000 ∷ Ack 1000 1 source [] [] ∷ Ack 1000 1 adder [] [] ∷ []

abbrev pub at : ℕ → At
at s = record { state = s; alignment = opened 1 }

abbrev pub cut_at : ℕ → Saved
cut_at s = record { id = 1; state = s; waiting = [] }

abbrev pub going : Around → Around → Looped
going first last = record { first = first; last = last; has_ended = false }

-- The source reads 100 at the offset 0, puts it on the line, and cuts record 1.
abbrev pub after_100 : List Deed
after_100 = Sent 0 100 ∷ Took ∷ Came next.Draw ∷ []

abbrev pub source_did : Around
source_did = around (turned (job.program source) (at 1) (Offered 0 (Barrier 1))) (Acknowledged 1 ∷ SentBarrier 1 ∷ Took ∷ Came (next.Barrier 0 1) ∷ after_100) (cut_at 1 ∷ []) []

-- The adder takes 100, writes the sum, and cuts record 1.
abbrev pub with_100 : List Deed
with_100 = Sent 0 100 ∷ Took ∷ Came (next.Element 0 100) ∷ []

abbrev pub adder_did : Around
adder_did = around (turned (job.program adder) (at 100) (Offered 0 (Barrier 1))) (Acknowledged 1 ∷ SentBarrier 1 ∷ Took ∷ Came (next.Barrier 0 1) ∷ with_100) (cut_at 100 ∷ []) []

abbrev pub begin : Around
begin = around (at 0) [] [] []

abbrev pub failed : Loops
failed = record { looped = λ t. if same_subtask t adder then going begin adder_did else going begin source_did; order = adder ∷ source ∷ [] }

abbrev pub attempt : LoopsAttempt
attempt = record { loops = failed; record_id = 1; earlier = [] }

-- Once restored the source reads 101, and the adder has taken nothing yet.
abbrev pub source_again : Looped
source_again = going (around (at 1) [] (cut_at 1 ∷ []) []) (around (at 2) (Sent 0 101 ∷ Took ∷ Came next.Draw ∷ []) (cut_at 1 ∷ []) [])

abbrev pub adder_again : Looped
adder_again = let x : Around = around (at 100) [] (cut_at 100 ∷ []) [] in going x x

abbrev pub again : Loops
again = record { looped = λ t. if same_subtask t adder then adder_again else source_again; order = adder ∷ source ∷ [] }

pub adder_failed : states_in job (starts job) (history_of failed) adder ≡ 100
unfolding step barrier settled
adder_failed = refl

pub source_restored : restored job (attempts_of (attempt ∷ [])) source ≡ 1
unfolding step barrier settled
source_restored = refl

pub adder_restored : restored job (attempts_of (attempt ∷ [])) adder ≡ 100
unfolding step barrier settled
adder_restored = refl

pub source_goes_on : states_in job (restored job (attempts_of (attempt ∷ []))) (history_of again) source ≡ 2
unfolding step barrier settled
source_goes_on = refl
