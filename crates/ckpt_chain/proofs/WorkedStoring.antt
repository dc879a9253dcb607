-- The worked example with files meets the premises of `nothing_is_lost`.
use Rattle.ckpt_chain.proofs.Names.{◌≡◌, ℕ, [], ◌∷◌, refl, sym, ap, ◌∙◌, subst, inl, inr, map, Some, None, Acked, IsIn, Record, subtasks, HasCut, barrier, settled, record_of}
use Rattle.ckpt_chain.proofs.Names.{step_computes, Machine, Fenced, fenced, fenced_step, core_in, synced, IsHistory, network, restored, snapshots, starts, adder, is_job, job, source}
use Rattle.ckpt_chain.proofs.Names.{IsHistoryOfLoops, history_of, again, failed, opening, loops_make_history, acknowledgements_of, AreAllowed, AreStored, IsWritten, MayBeRemoved, Storage}
use Rattle.ckpt_chain.proofs.Names.{begun, put, AreReadBack, SavesSnapshots, attempts_in, now_at, read_from, Completes, NeverGoesBack, Restores, begin, restores, adder_saves, before, found}
use Rattle.ckpt_chain.proofs.Names.{is_found, nothing, place, reads}
use Rattle.ckpt_chain.proofs.{Worked.checkpoint_in, Worked.of_both, Worked.restored_to_one, Worked.subtasks_in, SameStates.AreSame, SameStates.same_history}
use Rattle.ckpt_ids.specs.declared.reply.Choice.TheVariants as choice
use Rattle.ckpt_align.specs.Steps.{step}
use Rattle.ckpt_terms.specs.declared.machine.Machine.TheVariants as machine
use Rattle.ckpt_task.proofs.WorkedLooping as loops
use Rattle.ckpt_chain.specs.WorkedStorage.{acked, after, at, attempt, is_synced, is_told, log}

pub are_stored : AreStored begin nothing
are_stored f used = absurd cc

-- what is done

abbrev names_in : Machine → Fenced
names_in (machine.Plain m) = fenced opening 5
names_in (machine.Fenced m) = m

garbage : MayBeRemoved 7 (now_at place).world.told
unfolding fenced_step step_computes
garbage = record {
  receipt = at 6;
  is_told = inr (inr (inr (inr (inr (inr (inl refl))))));
  names = names_in (at 6).state;
  state = refl;
  may_be = refl;
}

written : (s : Storage) (file content f : ℕ) → s file ≡ Some content → IsIn f (file ∷ []) → IsWritten (s f)
written s file content f e (inl same) = subst (λ (k : ℕ). IsWritten (s k)) (sym same) (content, e)
written s file content f e (inr none) = absurd none

-- files that are written one after the other
abbrev with_5 : Storage
with_5 = put 5 (Some 1) nothing

abbrev with_6 : Storage
with_6 = put 6 (Some 100) with_5

infixr 5 ◌▸◌
◌▸◌ : {A B : Type 0} → A → B → A × B
one ▸ more = (one, more)

pub are_allowed : AreAllowed (begun begin nothing) place.acts
unfolding fenced_step step_computes
are_allowed =
    ((tt, tt), λ f h. absurd h) ▸ ((tt, tt), λ f h. absurd h) ▸ (tt, tt) ▸ ((tt, tt), λ f h. absurd h) ▸ (tt, tt) ▸ tt ▸ ((tt, tt), λ f h. written with_5 5 1 f refl h) ▸ (tt, tt) ▸ (tt, tt) ▸ tt
    ▸ ((tt, tt), λ f h. written with_6 6 100 f refl h) ▸ (tt, tt) ▸ ((tt, tt), λ f h. written with_6 6 100 f refl h) ▸ (tt, tt) ▸ (tt, tt) ▸ tt ▸ ((tt, tt), λ f h. absurd h)
    ▸ (tt, tt) ▸ ((tt, tt), λ f h. absurd h) ▸ (tt, tt) ▸ garbage ▸ tt

never_in_log : NeverGoesBack begin log
unfolding fenced_step step_computes
never_in_log = (refl, (refl, (refl, (refl, tt))))

pub never_goes_back : NeverGoesBack begin (synced (now_at place).world)
never_goes_back = subst (NeverGoesBack begin) (sym is_synced) never_in_log

-- what was told

completes : Completes (at 4) 1
unfolding fenced_step step_computes
completes = record {
  event = adder_saves;
  entry = refl;
  now = 1000;
  part = record { subtask = adder; fresh = 6 ∷ []; reused = [] };
  asked = refl;
  dropped = 0;
  released = 0;
  told = refl;
  checkpoint = λ one is. sym (ap checkpoint_in is);
}

restores_to_one : Restores (at 5) 1
unfolding fenced_step step_computes
restores_to_one = record { event = restores; entry = refl; now = 2000; shape = None; asked = refl; chosen = choice.Checkpoint 1; released = 0; told = refl; is_this = refl }

of_job : (one : Record) → record_of (core_in (at 5).state) 1 ≡ Some one → subtasks one.shape ≡ job.tasks
of_job one is = sym (ap subtasks_in (sym is_found ∙ is))

-- what was saved

failed_history : IsHistoryOfLoops job (starts job) failed
failed_history = loops_make_history job (starts job) failed is_job loops.failed_looping

accepted_are : acknowledgements_of 1 begin log ≡ acked source 5 ∷ acked adder 6 ∷ []
unfolding fenced_step step_computes
accepted_are = refl

abbrev Saves : Acked → Type 0
Saves a =
    IsIn a.subtask job.tasks
    × HasCut 1 ((network job (starts job) (history_of failed)).task a.subtask)
    × (reads a.subtask (map (now_at place).ever a.files) ≡ snapshots 1 job (starts job) (history_of failed) a.subtask)

source_saved : Saves (acked source 5)
unfolding step barrier settled
source_saved = (inl refl, failed_history.cuts source 1 (inl refl) (inl refl), refl)

adder_saved : Saves (acked adder 6)
unfolding step barrier settled
adder_saved = (inr (inl refl), failed_history.cuts adder 1 (inr (inl refl)) (inl refl), refl)

saves : SavesSnapshots place job (starts job) (history_of failed) 1
saves a =
    of_both Saves (acked source 5) (acked adder 6) source_saved adder_saved a (acknowledgements_of 1 begin (synced (now_at place).world))
    (ap (acknowledgements_of 1 begin) is_synced ∙ accepted_are)

is_live : IsIn found (core_in (now_at (record place { acts = before })).world.life.now).records
unfolding fenced_step step_computes
is_live = inl refl

pub are_read_back : AreReadBack place job (attempt ∷ [])
unfolding restored_to_one
are_read_back = (
  tt,
  failed_history.is_history,
  record {
    later = after;
    is_then = refl;
    restart = restored_to_one at (now_at place).world (SavesSnapshots place job (starts job) (history_of failed) 1) is_told completes restores_to_one of_job saves;
    is_found = is_found;
    is_live = is_live;
  },
)

-- the next attempt

read_is : AreSame job (restored job (attempts_in (attempt ∷ []))) (read_from place job (attempt ∷ []))
unfolding step barrier settled
read_is = loops.at_tasks (λ s. restored job (attempts_in (attempt ∷ [])) s ≡ read_from place job (attempt ∷ []) s) refl refl

pub goes_on : IsHistory job (read_from place job (attempt ∷ [])) (history_of again)
goes_on =
    same_history job (restored job (attempts_in (attempt ∷ []))) (read_from place job (attempt ∷ [])) (history_of again) is_job read_is
    (loops_make_history job (restored job (attempts_in (attempt ∷ []))) again is_job loops.again_looping).is_history
