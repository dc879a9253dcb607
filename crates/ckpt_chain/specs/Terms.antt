-- Tasks that acknowledge in the term that they were started with. Those of an earlier attempt may still call: their term has ended.
use Rattle.std.specs.Prelude.{◌≡◌, ℕ, List, [], ◌∷◌, ◌++◌}
use Rattle.ckpt_ids.specs.{declared.subtask.SubtaskId.SubtaskId, Ordered.IsIn}
use Rattle.ckpt_align.specs.Laws.{HasCut, Network}
use Rattle.ckpt_model.specs.Laws.{Part, ack_of}
use Rattle.ckpt_terms.specs.{declared.call.FencedCall.FencedCall, declared.call.FencedCall.TheVariants.Make, declared.machine.Machine.Machine, Fencing.Fenced, Fencing.fenced_step}
use Rattle.ckpt_terms.specs.FencedLaws.{given_in}
use Rattle.ckpt_terms.specs.declared.machine.Machine.TheVariants as machine
use Rattle.ckpt_logged.specs.Events.{AreEvents, Event, IsWell, events_replay, named_as}
use Rattle.ckpt_durable.specs.Groups.{Turn, World, synced, world}
use Rattle.ckpt_once.specs.Jobs.{Attempt, History, IsHistory, IsJob, Job, network, restored}
use Rattle.ckpt_once.specs.Restarts.{IsSeamless}
use Rattle.ckpt_chain.specs.{Since.AcknowledgesCuts, Told.NeverGoesBack, Told.WasRestored}

-- In the log record n was triggered in some term. Each acknowledgement of it that was asked for in this term, accepted or not, is of a
-- subtask of which the premise holds. Of those that were asked for in other terms nothing is assumed.
pub record IsAskedInTerm (Premise : SubtaskId → Type 0) (n : ℕ) (m : Machine) (log : List Event) : Type 0 where
  pub before : List Event
  pub event : Event
  pub after : List Event
  pub is_log : log ≡ before ++ event ∷ after
  pub names : Fenced
  pub state : events_replay m before ≡ machine.Fenced names
  pub trigger : FencedCall
  pub asked : named_as event ≡ trigger ∷ []
  pub triggered : given_in (fenced_step names trigger).1 ≡ n ∷ []
  pub in_term : (late : Event) (now : ℕ) (p : Part) → IsIn late after → named_as late ≡ Make names.term (ack_of now n p) ∷ [] → Premise p.subtask

-- such a subtask has cut the record
abbrev pub AcknowledgesInTerm : ℕ → Machine → List Event → Network → Type 0
AcknowledgesInTerm n m log w = IsAskedInTerm (λ s. HasCut n (w.task s)) n m log

-- so of acknowledgements in other terms nothing has to be assumed
abbrev pub OnlyItsTerm : ℕ → Machine → List Event → Network → Type 0
OnlyItsTerm n m log w = IsWell m → AreEvents log → AcknowledgesInTerm n m log w → AcknowledgesCuts n m log w

-- attempts one after the other, each in the terms of its own
abbrev pub AreTermRestarts : Machine → World → Job → List Attempt → Type 0
AreTermRestarts m w job [] = Unit {0}
AreTermRestarts m w job (attempt ∷ attempts) =
    AreTermRestarts m w job attempts
    × IsHistory job (restored job attempts) attempt.history
    × WasRestored (AcknowledgesInTerm attempt.record_id m (synced w) (network job (restored job attempts) attempt.history)) attempt.record_id attempt.earlier w job

abbrev pub TermsAreSeamless : Machine → List Turn → Job → List Attempt → History → Type 0
TermsAreSeamless m turns job attempts h =
    let w : World = world m turns in
    IsJob job → NeverGoesBack m (synced w) → AreTermRestarts m w job attempts → IsHistory job (restored job attempts) h → IsSeamless job attempts h
