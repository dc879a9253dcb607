-- A worked example: the ledger of the adder of `ckpt_once`, whose job fails after record 7 was completed. The expected values
-- were written by hand.
use Rattle.std.specs.Prelude.{◌≡◌, ℕ, List, [], ◌∷◌, ◌++◌, refl}
use Rattle.ckpt_ids.specs.declared.subtask.SubtaskId.{SubtaskId}
use Rattle.ckpt_align.specs.Histories.{Barrier, Element, Reads, Sends}
use Rattle.ckpt_align.specs.Steps.{barrier, settled, step}
use Rattle.ckpt_once.specs.{Jobs.By, Jobs.History, Sinks.Sink, Sinks.published_before}
use Rattle.ckpt_once.specs.Programs.{Drawn, Offered, Turn}
use Rattle.ckpt_once.specs.WorkedExamples.{adder, job, source}
use Rattle.ckpt_ledger.specs.Ledgers.{Acts, Moment, Told, all_published, nothing}
use Rattle.ckpt_ledger.specs.Restarts.{AttemptTold, attempts, entries_in, over_restarts}

abbrev by : SubtaskId → Turn → By Turn
by t turn = record { task = t; what = turn }

-- The newest first: the source reads 100, and cuts record 7; the adder takes 100; the source reads 101; the adder cuts
-- record 7 and takes 101. Then the job fails.
abbrev pub failed : History
failed =
    by adder (Offered 0 (Element 101))
    ∷ by adder (Offered 0 (Barrier 7))
    ∷ by source Drawn
    ∷ by adder (Offered 0 (Element 100))
    ∷ by source (Offered 0 (Barrier 7))
    ∷ by source Drawn
    ∷ []

abbrev pub sink : Sink
sink = record { task = adder; output = 0 }

-- The ledger is told that record 7 was completed, and is lost. One is made from the snapshot of that record.
abbrev pub told : AttemptTold
told = record {
  attempt = record { history = failed; record_id = 7; earlier = 7 ∷ [] };
  early = Acts (Reads 0 (Element 100)) ∷ Acts (Sends 0 100) ∷ Acts (Reads 0 (Barrier 7)) ∷ [];
  late = Told 7 ∷ Acts (Reads 0 (Element 101)) ∷ Acts (Sends 0 201) ∷ [];
}

-- The new one gives the sum 100, which the lost one had published. The sum 201 was not published.
pub given_again : over_restarts job sink (told ∷ []) ≡ 100 ∷ []
unfolding step barrier settled
given_again = refl

pub lost_published : all_published nothing (entries_in job sink (told.early ++ told.late)) ≡ 100 ∷ []
unfolding step barrier settled
lost_published = refl

pub sink_published : published_before job sink (attempts (told ∷ [])) ≡ 100 ∷ []
unfolding step barrier settled
sink_published = refl
