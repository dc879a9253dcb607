-- What an engine of tasks in loops does.
use Rattle.ckpt_task.proofs.Names.{common_steps, arith, ◌≡◌, ℕ, Bool, true, false, List, ◌∷◌, ◌++◌, ◌∙◌, refl, sym, ap, subst, if◌then◌else◌, Option, Some, None, inl, inr, [], ◌⊎◌}
use Rattle.ckpt_task.proofs.Names.{append-nil, none-some, Call, SubtaskId, IsIn, Alignment, opened, Ends, has_cut, sent, taken, Channel, AcknowledgesCuts, CanOpen, Opening, Ended, Program}
use Rattle.ckpt_task.proofs.Names.{Turn, acts, actions, aligned, moves_in, state, Transaction, IsJob, Job, States, network, of, restored, snapshots, AreRestarts, sent-append, taken-append}
use Rattle.ckpt_task.proofs.Names.{restarts_invisible, before_turns, cut_stays, Deed, SentEnd, came_in, sent_in, taken_in, Snapped, snapped_at, snapped_by, AcceptsTold, AreLooping}
use Rattle.ckpt_task.proofs.Names.{AreLoopsAttempts, AreRuns, IsHistoryOfLoops, Loops, LoopsAreSeamless, LoopsAttempt, LoopsMakeHistory, LoopsRestore, attempts_of, history_of, turns_of}
use Rattle.ckpt_task.proofs.Names.{AreKept, Around, IsKeptBy, Kept, Waits, kept_in, Saved, state_of, under, At}
use Rattle.ckpt_task.proofs.Looping.{Carries, Follows, after_more, comes_on, ends_last, follows, is_history, of_later}
use Rattle.ckpt_task.proofs.{Restores.Comes, Restores.adds, Restores.snap, Restores.stays, Seaming.was_done, Snapping.IsSnap, Snapping.snap_stays, Snapping.snaps, Working.at_of}

-- an end changes nothing but that it is put on the outputs

taken_end : (j : ℕ) (p : Program) (s : ℕ) (a : Alignment) (turns : List Turn) → taken j a (actions p s a (Ended ∷ turns)) ≡ taken j a (actions p s a turns)
taken_end j p s a turns = taken-append j a (actions p s a turns) (Ends ∷ []) ∙ append-nil (taken j a (actions p s a turns))

taken_at : (j : ℕ) (p : Program) (s : ℕ) (a : Alignment) (b : Bool) (deeds : List Deed) → taken_in j deeds ≡ taken j a (actions p s a (came_in deeds))
    → taken_in j (if b then SentEnd ∷ deeds else deeds) ≡ taken j a (actions p s a (if b then Ended ∷ came_in deeds else came_in deeds))
taken_at j p s a true deeds e = e ∙ sym (taken_end j p s a (came_in deeds))
taken_at j p s a false deeds e = e

sent_at : (c : ℕ) (p : Program) (s : ℕ) (a : Alignment) (b : Bool) (deeds : List Deed) → sent_in c deeds ≡ sent c a (actions p s a (came_in deeds))
    → sent_in c (if b then SentEnd ∷ deeds else deeds) ≡ sent c a (actions p s a (if b then Ended ∷ came_in deeds else came_in deeds))
sent_at c p s a true deeds e = grind (arith, common_steps, sent-append)
sent_at c p s a false deeds e = grind (arith, common_steps)

state_at : (p : Program) (s : ℕ) (a : Alignment) (b : Bool) (turns : List Turn) → state p s (moves_in a (if b then Ended ∷ turns else turns)) ≡ state p s (moves_in a turns)
state_at p s a true turns = refl
state_at p s a false turns = refl

cut_at : (n : ℕ) (p : Program) (s : ℕ) (a : Alignment) (b : Bool) (turns : List Turn) → has_cut n a (actions p s a turns) ≡ true → has_cut n a (actions p s a (if b then Ended ∷ turns else turns)) ≡ true
cut_at n p s a true turns e = cut_stays n a (actions p s a turns) (acts p (state p s (moves_in a turns)) (aligned a turns) Ended) e
cut_at n p s a false turns e = e

snap_at : (p : Program) (s : ℕ) (a : Alignment) (b : Bool) (turns : List Turn) (one : Snapped) → IsSnap p s a turns one → IsSnap p s a (if b then Ended ∷ turns else turns) one
snap_at p s a true turns one is = snap_stays p s a Ended turns one is
snap_at p s a false turns one is = is

-- its tasks, and its history

loop_follows : (job : Job) (from : States) (e : Loops) → AreLooping job from e → (t : SubtaskId) → IsIn t job.tasks → Follows (job.program t) (from t) (opened (job.inputs t)) (e.looped t).last
loop_follows job from e are t has =
    let l = are.looped t has in
    follows (job.program t) (from t) (opened (job.inputs t)) l.begins (e.looped t).first (e.looped t).last l.task l.unused l.runs

loop_turns : (job : Job) (from : States) (e : Loops) → AreLooping job from e → (t : SubtaskId) → IsIn t job.tasks → of t (history_of e) ≡ turns_of (e.looped t)
loop_turns job from e are t has = of_later job (λ s. turns_of (e.looped s)) t e.order are.has_no_cycle ((are.are_tasks t).1 has)

carries : (job : Job) (from : States) (e : Loops) → AreLooping job from e → (c : Channel) → IsIn c.sender job.tasks → IsIn c.receiver job.tasks → IsIn c job.channels
    → Carries job from (λ t. turns_of (e.looped t)) c
carries job from e are c sender receiver has =
    let s : SubtaskId = c.sender in
    let r : SubtaskId = c.receiver in
    let way = are.keep_order c has in (
      way.0,
      sym (sent_at c.output (job.program s) (from s) (opened (job.inputs s)) (e.looped s).has_ended (e.looped s).last.deeds ((loop_follows job from e are s sender).sent_on c.output))
          ∙ way.1
          ∙ ap (λ l. l ++ way.0) (taken_at c.input (job.program r) (from r) (opened (job.inputs r)) (e.looped r).has_ended (e.looped r).last.deeds ((loop_follows job from e are r receiver).taken_on c.input)),
    )

pub loops_make_history : (job : Job) (from : States) (e : Loops) → LoopsMakeHistory job from e
loops_make_history job from e is are = record {
  is_history =
      is_history job from (λ t. turns_of (e.looped t)) e.order are.has_no_cycle (λ t u has came. are.are_turns t u ((are.are_tasks t).0 has) came)
      (λ c has. carries job from e are c (is c has).0 (is c has).1 has);
  turns = loop_turns job from e are;
  states = λ t has.
      let p : Program = job.program t in
      let a : Alignment = opened (job.inputs t) in
      ap (λ (l : List Turn). state p (from t) (moves_in a l)) (loop_turns job from e are t has)
      ∙ state_at p (from t) a (e.looped t).has_ended (came_in (e.looped t).last.deeds)
      ∙ sym (ap (λ (m : At). m.state) (loop_follows job from e are t has).task);
  cuts = λ t n has told.
      let p : Program = job.program t in
      let a : Alignment = opened (job.inputs t) in
      subst (λ (l : List Turn). has_cut n a (actions p (from t) a l) ≡ true) (sym (loop_turns job from e are t has))
      (cut_at n p (from t) a (e.looped t).has_ended (came_in (e.looped t).last.deeds) ((loop_follows job from e are t has).tells n told));
}

-- the snapshots that its tasks saved

comes_by : (n s : ℕ) (cut given : Option ℕ) (waiting : List Transaction) (k l : Kept) (taken : List Snapped) → IsKeptBy cut given s waiting k l → Comes n k.saved taken → Comes n l.saved (snapped_at cut s ++ taken)
comes_by n s (Some m) given waiting k l taken (inl is) comes =
    adds n m s (record { id = m; state = s; waiting = waiting }) k.saved l.saved (Some m) taken refl refl refl (ap (λ (z : Kept). z.saved) is) comes
comes_by n s (Some m) given waiting k l taken (inr declined) comes = declines declined.saved
  where
    one : Saved
    one = record { id = m; state = s; waiting = waiting }

    declines : (l.saved ≡ k.saved) ⊎ (l.saved ≡ one ∷ k.saved) → Comes n l.saved (snapped_at (Some m) s ++ taken)
    declines (inl same) = stays n k.saved l.saved (snapped_at (Some m) s) taken same comes
    declines (inr saved) = adds n m s one k.saved l.saved (Some m) taken refl refl refl saved comes
comes_by n s None (Some m) waiting k l taken is comes = stays n k.saved l.saved [] taken (ap (λ (z : Kept). z.saved) is) comes
comes_by n s None None waiting k l taken is comes = stays n k.saved l.saved [] taken (ap (λ (z : Kept). z.saved) is) comes

comes_more : (n : ℕ) (p : Program) (s : ℕ) (a : Alignment) (us turns : List Turn) (waits : Waits) (k l : Kept) → AreKept p (at_of p s a us) waits turns k l
    → Comes n k.saved (snapped_by p s a us) → Comes n l.saved (snapped_by p s a (turns ++ us))
comes_more n p s a us [] waits k l same comes = grind (arith, common_steps)
comes_more n p s a us (turn ∷ turns) waits k l kept comes = grind (arith, common_steps, after_more, at_of, comes_by, comes_more n p s a us turns waits k kept.0)

comes_first : (n : ℕ) (p : Program) (s : ℕ) (a : Alignment) (x : Around) → x.deeds ≡ [] → under n x.saved ≡ None → Comes n x.saved (snapped_by p s a (came_in x.deeds))
comes_first n p s a x unused none k is = absurd (none-some k (sym (ap state_of none) ∙ is))

comes_runs : (n : ℕ) (p : Program) (s : ℕ) (a : Alignment) (begins : List Around) (x y : Around) → x.task ≡ at_of p s a [] → x.deeds ≡ [] → under n x.saved ≡ None → AreRuns p begins x y
    → Comes n y.saved (snapped_by p s a (came_in y.deeds))
comes_runs n p s a [] x y task unused none same =
    subst (λ (z : Around). Comes n z.saved (snapped_by p s a (came_in z.deeds))) (sym same) (comes_first n p s a x unused none)
comes_runs n p s a (begin ∷ begins) x y task unused none runs =
    let waits : Waits = runs.1.0 in
    let run = runs.1.2 in
    let us : List Turn = came_in begin.deeds in
    let was = follows p s a begins x begin task unused runs.0 in
    subst (λ (l : List Turn). Comes n y.saved (snapped_by p s a l)) (sym run.came)
    (comes_more n p s a us run.turns waits (kept_in begin) (kept_in y) (subst (λ (z : At). AreKept p z waits run.turns (kept_in begin) (kept_in y)) was.task run.kept)
    (comes_runs n p s a begins x begin task unused none runs.0))

pub loops_restore : (job : Job) (from : States) (e : Loops) (t : SubtaskId) (n : ℕ) (task : At) → LoopsRestore job from e t n task
loops_restore job from e t n task is are has none restored =
    let p : Program = job.program t in
    let a : Alignment = opened (job.inputs t) in
    let l = are.looped t has in
    let came : List Turn = came_in (e.looped t).last.deeds in
    let one : Snapped = snap n task.state in
    let saved = comes_runs n p (from t) a l.begins (e.looped t).first (e.looped t).last l.task l.unused none l.runs task.state restored.state in
    let snapped : IsSnap p (from t) a came one = snaps p (from t) (job.inputs t) came one (ends_last came (comes_on (e.looped t).last.deeds)) saved in
    let now : IsSnap p (from t) a (of t (history_of e)) one =
    subst (λ (us : List Turn). IsSnap p (from t) a us one) (sym (loop_turns job from e are t has)) (snap_at p (from t) a (e.looped t).has_ended came one snapped) in
    let state_is = now.1 ∙ ap (λ (us : List Turn). state p (from t) (moves_in a us)) (sym (before_turns n job from (history_of e) t)) in (
      now.0,
      ap (λ (s : ℕ). record { state = s; alignment = task.alignment }) state_is ∙ ap (λ (b : Alignment). record { state = snapshots n job from (history_of e) t; alignment = b }) restored.opened,
    )

-- failures

told_cuts : (o : Opening) (job : Job) (from : States) (e : Loops) → IsHistoryOfLoops job from e
    → (id : ℕ) (calls : List Call) → AcceptsTold o job e id calls → AcknowledgesCuts id o calls (network job from (history_of e))
told_cuts o job from e is id calls told a has = is.cuts a.subtask id (told a has).0 (told a has).1

are_restarts : (o : Opening) (job : Job) (ones : List LoopsAttempt) → IsJob job → AreLoopsAttempts o job ones → AreRestarts o job (attempts_of ones)
are_restarts o job [] is are = tt
are_restarts o job (one ∷ ones) is are =
    let from : States = restored job (attempts_of ones) in
    let history = loops_make_history job from one.loops is are.1 in (
      are_restarts o job ones is are.0,
      history.is_history,
      was_done (AcceptsTold o job one.loops) one.record_id o job from (history_of one.loops) (told_cuts o job from one.loops history) are.2,
    )

pub loops_are_seamless : (o : Opening) (job : Job) (ones : List LoopsAttempt) (e : Loops) → CanOpen o → LoopsAreSeamless o job ones e
loops_are_seamless o job ones e opens is are last looping =
    restarts_invisible o job (attempts_of ones) (history_of e) opens is (are_restarts o job ones is are) last (loops_make_history job (restored job (attempts_of ones)) e is looping).is_history
