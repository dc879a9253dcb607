-- The worked example of a restore in another shape meets the premises of the law.
use Rattle.ckpt_other_cuts.proofs.Names.{common_steps, ◌≡◌, true, inl, inr, List, ◌∷◌, refl, sym, subst, arith, [], Acked, Checkpoint, SubtaskId, IsIn, Record, Barrier, Element, Channel}
use Rattle.ckpt_other_cuts.proofs.Names.{HasCut, AcknowledgesCuts, CanOpen, accepted_by, along, step_computes, Draws, Drawn, Move, Offered, Takes, Turn, By, GivesInOrder, History, IsHistory}
use Rattle.ckpt_other_cuts.proofs.Names.{IsPrefix, IsRun, Run, before_cuts, network, put_on, run_of, starts, taken_off, WasDone, run_is_history, AreRestarts, IsBegun, IsEnded, IsRoutedByKey}
use Rattle.ckpt_other_cuts.proofs.Names.{finest, recorded, again, calls, failed, given, opening, reshaped, restart, turn, by, job, keys, line, part_of, spread, subtask}
use Rattle.ckpt_other_cuts.proofs.WorkedShaping.{each_key, each_line, is_job, one_line, worked_is_job, worked_is_shape}
use Rattle.ckpt_other_cuts.proofs.KeyRuns.{finest_is_shape}
use Rattle.ckpt_align.specs.Steps.{barrier, settled, step}
use Rattle.ckpt_model.specs.State.{opened}

pub can_open : CanOpen opening
can_open = grind (arith, common_steps)

-- the stage that failed

gives : (e : By Turn) (h : History) → GivesInOrder (network job (starts job) h) (network job (starts job) (e ∷ h)) (line 0)
    → (c : Channel) → IsIn c job.channels → GivesInOrder (network job (starts job) h) (network job (starts job) (e ∷ h)) c
gives e h is = let Gives : Channel → Type 0 = λ c. GivesInOrder (network job (starts job) h) (network job (starts job) (e ∷ h)) c in one_line Gives is

abbrev first_3 : History
first_3 = turn 1 (Offered 0 (Element 1)) ∷ turn 0 Drawn ∷ turn 0 Drawn ∷ []

is_history_3 : IsHistory job (starts job) first_3
unfolding step barrier settled
is_history_3 =
    let one : History = turn 0 Drawn ∷ [] in
    let two : History = turn 0 Drawn ∷ one in
    let h1 : IsHistory job (starts job) one = (tt, (inl refl, inl refl), gives (turn 0 Drawn) [] ([], refl)) in
    let h2 : IsHistory job (starts job) two = (h1, (inl refl, inl refl), gives (turn 0 Drawn) one (Element 1 ∷ [], refl)) in
    (h2, (inr (inl refl), (line 0, inl refl, refl, refl)), gives (turn 1 (Offered 0 (Element 1))) two (Element 2 ∷ [], refl))

is_history : IsHistory job (starts job) failed
unfolding step barrier settled
is_history =
    let four : History = turn 0 (Offered 0 (Barrier 1)) ∷ first_3 in
    let five : History = turn 1 (Offered 0 (Element 2)) ∷ four in
    let six : History = turn 0 Drawn ∷ five in
    let h4 : IsHistory job (starts job) four = (is_history_3, inl refl, gives (turn 0 (Offered 0 (Barrier 1))) first_3 (Element 2 ∷ [], refl)) in
    let h5 : IsHistory job (starts job) five = (h4, (inr (inl refl), (line 0, inl refl, refl, refl)), gives (turn 1 (Offered 0 (Element 2))) four (Barrier 1 ∷ [], refl)) in
    let h6 : IsHistory job (starts job) six = (h5, (inl refl, inl refl), gives (turn 0 Drawn) five (Barrier 1 ∷ [], refl)) in
    (h6, inr (inl refl), gives (turn 1 (Offered 0 (Barrier 1))) six (Element 3 ∷ [], refl))

begins : IsBegun keys (recorded keys []) restart.stage
begins = record {
  is_job = is_job;
  is_shape = worked_is_shape;
  is_given = let Given : SubtaskId → Type 0 = λ k. part_of k (starts job (spread.owner k)) ≡ starts keys k in each_key Given refl refl refl;
  is_history = is_history;
}

-- its record

abbrev acked : SubtaskId → Acked
acked t = record { subtask = t; files = [] }

accepted_are : along (accepted_by 1) (opened opening) calls ≡ acked (subtask 0 0) ∷ acked (subtask 1 0) ∷ []
unfolding step_computes
accepted_are = refl

have_cut : (a : Acked) → IsIn a (acked (subtask 0 0) ∷ acked (subtask 1 0) ∷ []) → HasCut 1 ((network job (starts job) failed).task a.subtask)
unfolding step barrier settled
have_cut a (inl e) = let Cut : Acked → Type 0 = λ k. HasCut 1 ((network job (starts job) failed).task k.subtask) in subst Cut (sym e) refl
have_cut a (inr (inl e)) = let Cut : Acked → Type 0 = λ k. HasCut 1 ((network job (starts job) failed).task k.subtask) in subst Cut (sym e) refl
have_cut a (inr (inr none)) = absurd none

acknowledges : AcknowledgesCuts 1 opening calls (network job (starts job) failed)
acknowledges a has = have_cut a (subst (λ (ones : List Acked). IsIn a ones) accepted_are has)

abbrev one_done : Record
one_done = record { id = 1; kind = Checkpoint; done = true; shape = 1 ∷ 1 ∷ []; started = 1000; acks = acked (subtask 0 0) ∷ acked (subtask 1 0) ∷ []; pins = [] }

was_done : WasDone 1 opening job (starts job) failed
unfolding step_computes
was_done = record {
  calls = calls;
  are_calls = (tt, (tt, (tt, tt)));
  done_record = one_done;
  is_live = inl refl;
  is_done = refl;
  is_this = refl;
  is_of_job = refl;
  acknowledged = acknowledges;
}

-- the moves before the cuts
abbrev moved : Run
moved = by 1 (Takes 0 2) ∷ by 1 (Takes 0 1) ∷ by 0 Draws ∷ by 0 Draws ∷ []

before_are : run_of job (before_cuts 1 job (starts job) failed) ≡ moved
unfolding step barrier settled
before_are = refl

ends : IsEnded opening restart.record_id restart.earlier restart.stage
ends = grind (arith, common_steps, before_are, was_done)

pub are_restarts : AreRestarts opening keys (restart ∷ [])
are_restarts = (tt, begins, ends)

-- the stage in the other shape

on_lines : (move : By Move) (before : Run) → IsPrefix (taken_off (move ∷ before) (line 0)) (put_on keys given before (line 0)) → IsPrefix (taken_off (move ∷ before) (line 1)) (put_on keys given before (line 1))
    → (c : Channel) → IsIn c keys.channels → IsPrefix (taken_off (move ∷ before) c) (put_on keys given before c)
on_lines move before zeroth first = let Of : Channel → Type 0 = λ c. IsPrefix (taken_off (move ∷ before) c) (put_on keys given before c) in each_line Of zeroth first

is_run : IsRun keys given again
is_run =
    let one : Run = by 0 Draws ∷ [] in (
      (tt, (inl refl, inl refl), on_lines (by 0 Draws) [] ([], refl) ([], refl)),
      (inr (inr (inl refl)), (line 1, inr (inl refl), refl, refl)),
      on_lines (record { task = subtask 1 1; what = Takes 0 3 }) one ([], refl) ([], refl),
    )

begins_with : (k : SubtaskId) → IsIn k keys.tasks → given k ≡ recorded keys (restart ∷ []) k
unfolding step barrier settled
begins_with = let Given : SubtaskId → Type 0 = λ k. given k ≡ recorded keys (restart ∷ []) k in each_key Given refl refl refl

pub reshaped_begins : IsBegun keys (recorded keys (restart ∷ [])) reshaped
reshaped_begins = record {
  is_job = worked_is_job;
  is_shape = finest_is_shape keys;
  is_given = begins_with;
  is_history = (run_is_history keys given again worked_is_job is_run).0;
}

pub reshaped_is_routed : IsRoutedByKey keys finest given (run_of keys reshaped.history)
reshaped_is_routed = grind (arith, common_steps)
