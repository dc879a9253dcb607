-- The worked loops, turn by turn, meet the premises of laws of cuts and of engines.
use Rattle.ckpt_chain.proofs.Names.{◌≡◌, List, [], ◌∷◌, refl, sym, subst, arith, inl, inr, Acked, Call, Ack, Tick, SubtaskId, IsIn, subtasks, opened, Barrier, Element, Channel, HasCut}
use Rattle.ckpt_chain.proofs.Names.{IsConnected, IsInOrder, barrier, settled, AreChannelsOf, step_computes, replay, accepted_by, along, History, network, of, restored, starts, Drawn}
use Rattle.ckpt_chain.proofs.Names.{Offered, adder, is_job, job, line, source, IsAtFront, IsWorking, Snapped, engine, snapped, AcknowledgesSnapped, AreEngines, IsHistoryOfLoops, attempts_of}
use Rattle.ckpt_chain.proofs.Names.{history_of, AreSaved, IsRestored, again, at, calls, cut_at, failed, opening, loops_make_history, by, FencedCall, Make, core_calls, fenced, fenced_replay}
use Rattle.ckpt_chain.proofs.Names.{fenced_step, AreNamedRestarts, acked, completed, history}
use Rattle.ckpt_chain.proofs.{Worked.of_both, WorkedProgressing.are_two}
use Rattle.ckpt_align.specs.Steps.{step}
use Rattle.ckpt_cuts.specs.Laws.{AcknowledgesCuts}
use Rattle.ckpt_model.specs.State as model
use Rattle.ckpt_task.specs.declared.turn.Outcome.TheVariants as outcome
use Rattle.ckpt_task.specs.WorkedLoops.{attempt}
use Rattle.ckpt_task.proofs.WorkedLooping as loops

-- TURNS

-- oldest first: what had been done before each turn
abbrev drawn : History
drawn = by source Drawn ∷ []

abbrev source_cut : History
source_cut = by source (Offered 0 (Barrier 1)) ∷ drawn

abbrev taken : History
taken = by adder (Offered 0 (Element 100)) ∷ source_cut

not_fed : (c : Channel) → IsIn c job.channels → source ≡ c.receiver → IsAtFront (Offered 0 (Barrier 1)) c.input ((engine job (starts job) drawn).on c)
not_fed = loops.at_line (λ c. source ≡ c.receiver → IsAtFront (Offered 0 (Barrier 1)) c.input ((engine job (starts job) drawn).on c)) (λ e. absurd (are_two (sym e)))

element_first : (c : Channel) → IsIn c job.channels → adder ≡ c.receiver → IsAtFront (Offered 0 (Element 100)) c.input ((engine job (starts job) source_cut).on c)
unfolding step barrier settled
element_first = loops.at_line (λ c. adder ≡ c.receiver → IsAtFront (Offered 0 (Element 100)) c.input ((engine job (starts job) source_cut).on c)) (λ e same. (Barrier 1 ∷ [], refl))

barrier_first : (c : Channel) → IsIn c job.channels → adder ≡ c.receiver → IsAtFront (Offered 0 (Barrier 1)) c.input ((engine job (starts job) taken).on c)
unfolding step barrier settled
barrier_first = loops.at_line (λ c. adder ≡ c.receiver → IsAtFront (Offered 0 (Barrier 1)) c.input ((engine job (starts job) taken).on c)) (λ e same. ([], refl))

was_working : IsWorking job (starts job) history
was_working = (
  (
    ((tt, (inl refl, inl refl), refl, λ c has e. tt), inl refl, refl, not_fed),
    (inr (inl refl), (line, inl refl, refl, refl)),
    refl,
    element_first,
  ),
  inr (inl refl),
  refl,
  barrier_first,
)

pub is_working : IsWorking job (restored job (attempts_of (attempt ∷ []))) (history_of again)
is_working = (tt, (inl refl, inl refl), refl, λ c has e. tt)

-- THE RECORD

-- what holds of both acknowledgements
of_these : (P : Acked → Type 0) → P (acked source) → P (acked adder) → (a : Acked) → IsIn a (along (accepted_by 1) (model.opened opening) calls) → P a
of_these P first second a = of_both P (acked source) (acked adder) first second a (along (accepted_by 1) (model.opened opening) calls) loops.accepted_are

abbrev IsSnapped : SubtaskId → Type 0
IsSnapped t = (one : Snapped) × IsIn one (snapped job (starts job) history t) × (one.id ≡ 1)

source_snapped : IsSnapped source
unfolding step barrier settled
source_snapped = (record { id = 1; state = 1 }, inl refl, refl)

adder_snapped : IsSnapped adder
unfolding step barrier settled
adder_snapped = (record { id = 1; state = 100 }, inl refl, refl)

acknowledges : AcknowledgesSnapped opening job (starts job) history 1 calls
acknowledges = of_these (λ a. IsSnapped a.subtask) source_snapped adder_snapped

pub is_live : IsIn completed (replay (model.opened opening) calls).records
unfolding step_computes
is_live = inl refl

pub are_engines : AreEngines opening job (attempts_of (attempt ∷ []))
are_engines = (
  tt,
  was_working,
  record {
    calls = calls;
    are_calls = (tt, (tt, (tt, tt)));
    done_record = completed;
    is_live = is_live;
    is_done = refl;
    is_this = refl;
    is_of_job = refl;
    acknowledged = acknowledges;
  },
)

-- A CUT

pub are_channels : AreChannelsOf completed.shape (network job (starts job) history)
unfolding step barrier settled
are_channels = loops.at_line (λ c. IsIn c.receiver (subtasks completed.shape) × IsConnected (network job (starts job) history) c × IsInOrder (network job (starts job) history) c)
    (inr (inl refl), omega arith, ([], refl))

abbrev Cut : SubtaskId → Type 0
Cut t = HasCut 1 ((network job (starts job) history).task t)

pub acknowledged : AcknowledgesCuts 1 opening calls (network job (starts job) history)
acknowledged =
    let was : IsHistoryOfLoops job (starts job) failed = loops_make_history job (starts job) failed is_job loops.failed_looping in
    of_these (λ a. Cut a.subtask) (was.cuts source 1 (inl refl) (inl refl)) (was.cuts adder 1 (inr (inl refl)) (inl refl))

-- with names

abbrev named_calls : List FencedCall
named_calls = Make 0 (Tick 1000) ∷ Make 1 (Ack 1000 1 source [] []) ∷ Make 1 (Ack 1000 1 adder [] []) ∷ []

same_calls : core_calls (fenced opening 5) named_calls ≡ calls
unfolding fenced_step step_computes
same_calls = refl

named_live : IsIn completed (fenced_replay (fenced opening 5) named_calls).core.records
unfolding fenced_step step_computes
named_live = inl refl

pub named : AreNamedRestarts opening 5 job (attempts_of (attempt ∷ []))
named = (
  tt,
  (loops_make_history job (starts job) failed is_job loops.failed_looping).is_history,
  record {
    calls = named_calls;
    are_calls = (tt, (tt, (tt, tt)));
    done_record = completed;
    is_live = named_live;
    is_done = refl;
    is_this = refl;
    is_of_job = refl;
    acknowledged = subst (λ (made : List Call). AcknowledgesCuts 1 opening made (network job (starts job) history)) (sym same_calls) acknowledged;
  },
)

-- SNAPSHOTS

pub are_saved : AreSaved (job.program adder) (starts job adder) (opened (job.inputs adder)) (of adder history) [] (cut_at 100 ∷ [])
unfolding step barrier settled
are_saved = (
  [],
  ([], refl, record { outcome = outcome.Held; waiting = []; is_cut = refl; is_saved = refl }),
  record { outcome = outcome.Cut 1; waiting = []; is_cut = refl; is_saved = refl },
)

pub is_restored : IsRestored (job.inputs adder) 1 (cut_at 100 ∷ []) (at 100)
is_restored = record { state = refl; opened = refl }
