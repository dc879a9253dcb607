-- What restarts read from files are the snapshots, so failures are invisible.
use Rattle.ckpt_chain.proofs.Names.{◌≡◌, ℕ, Bool, true, false, List, [], ◌∷◌, ◌++◌, if◌then◌else◌, refl, sym, ap, ◌∙◌, subst, inl, inr, ⊎_elim, ◌==◌, map, Some, eqb-true, same_Some, Acked}
use Rattle.ckpt_chain.proofs.Names.{SubtaskId, IsIn, IsFull, Record, same_subtask, same_subtask-Decides, HasCut, Task, record_of, IsSound, chosen_is_done, map_same, Machine, core_in}
use Rattle.ckpt_chain.proofs.Names.{machine_settled, AreEvents, Event, IsWell, events_replay, events-split, replay_well, Receipt, synced, Stand, stand_at, History, IsJob, Job, States}
use Rattle.ckpt_chain.proofs.Names.{network, restored, snapshots, found_in, AcknowledgesCuts, acknowledgements_of, AreAllowed, AreStored, IsThere, Site, begun, site, AreReadBack}
use Rattle.ckpt_chain.proofs.Names.{NothingIsLost, Place, SavesSnapshots, StoredAttempt, WasReadBack, attempts_in, files_of, now_at, read_from, AreToldRestarts}
use Rattle.ckpt_chain.proofs.Storing.{Lasts, allowed-split, durable_at, ever_stays, events_at, files_stay_at, lasts, through-append}
use Rattle.ckpt_chain.proofs.Telling.{are_last, are_restarts, restored_to, restored_with, stay_accepted}
use Rattle.ckpt_chain.proofs.{Cutting.ack_of_record, Cutting.core_sound, Like.moved, Like.restores_like, Like.same_record, SameStates.AreSame, SameStates.same_history}
use Rattle.ckpt_chain.proofs.{SameStates.same_snapshot, SameStates.same_task, Seamless.are_attempts, Seamless.seamless}

-- a subtask that acknowledged has an acknowledgement with these files
record Acknowledged (t : SubtaskId) (acks : List Acked) : Type 0 where
  one : Acked
  is_in : IsIn one acks
  by_it : one.subtask ≡ t
  its_files : files_of t acks ≡ one.files

acknowledged_by : (b : Bool) (t : SubtaskId) (a : Acked) (acks : List Acked) → (b ≡ true → a.subtask ≡ t) → (b ≡ false → Acknowledged t acks) → same_subtask a.subtask t ≡ b → Acknowledged t (a ∷ acks)
acknowledged_by true t a acks here later e = record { one = a; is_in = inl refl; by_it = here refl; its_files = ap (λ (k : Bool). if k then a.files else files_of t acks) e }
acknowledged_by false t a acks here later e =
    let rest : Acknowledged t acks = later refl in
    record { one = rest.one; is_in = inr rest.is_in; by_it = rest.by_it; its_files = ap (λ (k : Bool). if k then a.files else files_of t acks) e ∙ rest.its_files }

acknowledged : (t : SubtaskId) (acks : List Acked) → IsIn t (map (λ a. a.subtask) acks) → Acknowledged t acks
acknowledged t [] has = absurd has
acknowledged t (a ∷ acks) has =
    acknowledged_by (same_subtask a.subtask t) t a acks
    (λ e. same e)
    (λ e. ⊎_elim (λ (k : t ≡ a.subtask). absurd (other e (sym k))) (λ (k : IsIn t (map (λ (x : Acked). x.subtask) acks)). acknowledged t acks k) has)
    refl
  where
    same : same_subtask a.subtask t ≡ true → a.subtask ≡ t
    same e = (same_subtask-Decides a.subtask t).0 e

    other : same_subtask a.subtask t ≡ false → a.subtask ≡ t → ⊥
    other e k = let yes : same_subtask a.subtask t ≡ true = (same_subtask-Decides a.subtask t).1 k in cc

-- THE RECORD OF A RESTART

-- it is done, and each task of the job acknowledged it
record IsWhole (p : Place) (job : Job) (k : StoredAttempt) : Type 0 where
  full : (t : SubtaskId) → IsIn t job.tasks → IsIn t (map (λ a. a.subtask) k.found.acks)
  accepted : (a : Acked) → IsIn a k.found.acks → IsIn a (acknowledgements_of k.attempt.record_id p.begin (synced (now_at p).world))

is_whole : (p : Place) (job : Job) (from : States) (k : StoredAttempt) → IsWell p.begin → AreEvents (synced (now_at p).world) → Stand p.begin (synced (now_at p).world) (now_at p).world.told
    → WasReadBack p job from k → IsWhole p job k
is_whole p job from k i are stand was =
    let m : Machine = p.begin in
    let n : ℕ = k.attempt.record_id in
    let events : List Event = synced (now_at p).world in
    let restart = was.restart in
    let r : Receipt = restart.receipt in
    let at = stand_at machine_settled m events restart.before restart.later r (subst (Stand m events) restart.place stand) in
    let here : Machine = events_replay m at.0 in
    let split : AreEvents at.0 × AreEvents (r.entry ++ at.1) = events-split at.0 (r.entry ++ at.1) (subst AreEvents at.2 are) in
    let sound : IsSound (core_in here) = core_sound here (replay_well m at.0 split.0 i) in
    let its = chosen_is_done (core_in here) n sound (restored_to (moved r here) n (restores_like r here n at.3 restart.restores)) in
    let found : record_of (core_in here) n ≡ Some k.found = sym (same_record r.state here n at.3) ∙ was.is_found in
    let same : its.0 ≡ k.found = same_Some its.0 k.found (sym its.2 ∙ found) in
    let live : IsIn k.found (core_in here).records = subst (λ (x : Record). IsIn x (core_in here).records) same its.1 in
    let done : k.found.done ≡ true = subst (λ (x : Record). x.done ≡ true) same its.3 in
    let number : k.found.id ≡ n = eqb-true k.found.id n (found_in (λ (one : Record). one.id == n) (core_in here).records k.found found).1 in
    let full : IsFull k.found = (sound.records.each k.found live).full done in
    let all : map (λ (a : Acked). a.subtask) k.found.acks ≡ job.tasks = full ∙ restart.is_of_job k.found was.is_found in
    record {
      full = λ t has. subst (λ (ts : List SubtaskId). IsIn t ts) (sym all) has;
      accepted = λ a has.
          subst (λ (es : List Event). IsIn a (acknowledgements_of n m es)) (sym at.2)
          (stay_accepted n m at.0 (r.entry ++ at.1) a
          (subst (λ (j : ℕ). IsIn a (acknowledgements_of j m at.0)) number (ack_of_record m at.0 k.found a i split.0 live has)));
    }

-- WHAT IS READ

-- the files of an acknowledgement have what was written
reads_written : (p : Place) (job : Job) (from : States) (k : StoredAttempt) (a : Acked) → IsWell p.begin → AreStored p.begin p.storage → AreAllowed (begun p.begin p.storage) p.acts
    → WasReadBack p job from k → IsIn a k.found.acks → map (site p.begin p.storage k.by_then).there a.files ≡ map (now_at p).ever a.files
reads_written p job from k a i stored are was has =
    let x : Site = begun p.begin p.storage in
    let what : Site = site p.begin p.storage k.by_then in
    let split = allowed-split x k.by_then was.later (subst (AreAllowed x) was.is_then are) in
    let whole : site p.begin p.storage p.acts ≡ site p.begin p.storage (k.by_then ++ was.later) = ap (site p.begin p.storage) was.is_then in
    map_same what.there (now_at p).ever a.files (λ f of.
    let is : IsThere what f = files_stay_at p.begin p.storage k.by_then i stored split.0 k.found a f was.is_live has of in
    is.is_there
    ∙ sym (ap (λ (y : Site). y.ever f) (whole ∙ through-append x k.by_then was.later) ∙ ever_stays what was.later f is.content split.1 is.was_written))

-- ATTEMPTS

cuts_saved : (p : Place) (job : Job) (from its : States) (h : History) (n : ℕ) → AreSame job from its → SavesSnapshots p job from h n
    → AcknowledgesCuts n p.begin (synced (now_at p).world) (network job its h)
cuts_saved p job from its h n same saves a has =
    let is = saves a has in
    subst (λ (t : Task). HasCut n t) (same_task job from its h a.subtask (same a.subtask is.0)) is.1

record AreTold (p : Place) (job : Job) (ks : List StoredAttempt) : Type 0 where
  restarts : AreToldRestarts p.begin (now_at p).world job (attempts_in ks)
  reads : AreSame job (read_from p job ks) (restored job (attempts_in ks))

are_told : (p : Place) (job : Job) (ks : List StoredAttempt) → IsJob job → IsWell p.begin → AreStored p.begin p.storage → AreAllowed (begun p.begin p.storage) p.acts
    → AreEvents (synced (now_at p).world) → Stand p.begin (synced (now_at p).world) (now_at p).world.told → AreReadBack p job ks → AreTold p job ks
are_told p job [] is i stored allowed are stand told = record { restarts = tt; reads = λ t has. refl }
are_told p job (k ∷ ks) is i stored allowed are stand told =
    let before : AreTold p job ks = are_told p job ks is i stored allowed are stand told.0 in
    let from : States = read_from p job ks in
    let its : States = restored job (attempts_in ks) in
    let h : History = k.attempt.history in
    let n : ℕ = k.attempt.record_id in
    let was : WasReadBack p job from k = told.2 in
    let whole : IsWhole p job k = is_whole p job from k i are stand was in
    record {
      restarts = (
        before.restarts,
        same_history job from its h is before.reads told.1,
        restored_with (SavesSnapshots p job from h n) (AcknowledgesCuts n p.begin (synced (now_at p).world) (network job its h)) n k.attempt.earlier (now_at p).world job
            (λ saves. cuts_saved p job from its h n before.reads saves) was.restart,
      );
      reads = λ t has.
          let one : Acknowledged t k.found.acks = acknowledged t k.found.acks (whole.full t has) in
          let saved : p.reader one.one.subtask (map (now_at p).ever one.one.files) ≡ snapshots n job from h one.one.subtask =
          (was.restart.acknowledged one.one (whole.accepted one.one one.is_in)).2 in
          ap (λ (files : List ℕ). p.reader t (map (site p.begin p.storage k.by_then).there files)) one.its_files
          ∙ ap (p.reader t) (reads_written p job from k one.one i stored allowed was one.is_in)
          ∙ subst (λ (s : SubtaskId). p.reader s (map (now_at p).ever one.one.files) ≡ snapshots n job from h s) one.by_it saved
          ∙ same_snapshot n job from its h t before.reads told.1 has;
    }

pub nothing_is_lost : (p : Place) (job : Job) (ks : List StoredAttempt) (h : History) → IsWell p.begin → NothingIsLost p job ks h
nothing_is_lost p job ks h i is stored allowed never told later =
    let m : Machine = p.begin in
    let x : Site = now_at p in
    let l : Lasts m x = lasts m p.storage p.acts stored allowed in
    let are : AreEvents (synced x.world) = (events-split (synced x.world) x.world.life.loose (events_at m x l)).0 in
    let stand : Stand m (synced x.world) x.world.told = (durable_at m x l).told in
    let its : AreTold p job ks = are_told p job ks is i stored allowed are stand told in
    record {
      reads_snapshots = its.reads;
      seamless = seamless job (attempts_in ks) h is (are_attempts m job (attempts_in ks) i (are_restarts m x.world job (attempts_in ks) i are stand its.restarts))
          (are_last m x.world job (attempts_in ks) i are never stand its.restarts)
          (same_history job (read_from p job ks) (restored job (attempts_in ks)) h is its.reads later);
    }
