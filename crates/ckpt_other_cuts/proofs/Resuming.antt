-- A job that begins from the snapshots of a record, and from what its channels had still to give, goes on with one run.
use Rattle.ckpt_other_cuts.proofs.Names.{arith, ◌≡◌, ℕ, Bool, true, false, List, [], ◌∷◌, ◌++◌, ◌∙◌, refl, sym, ap, subst, if◌then◌else◌, ◌&&◌, fun_ext, both_ways, or_left, or_parts}
use Rattle.ckpt_other_cuts.proofs.Names.{common_steps, append_assoc, SubtaskId, IsIn, same_subtask, same_subtask-Decides, Channel, Emitted, Move, Program, emitted, from_input, on_output}
use Rattle.ckpt_other_cuts.proofs.Names.{state, By, IsPrefix, IsRun, Job, Run, States, of, put_on, starts, states_after, taken_off, Sink, written, prefix_trans, emitted-append}
use Rattle.ckpt_other_cuts.proofs.Names.{from_input-append, put-join, states-join, taken-join, on_output-append, global_part, AreStretches, Begin, Doing, Doings, IsRunFrom, Moves}
use Rattle.ckpt_other_cuts.proofs.Names.{RecordersKeepChannels, RestartsInvisible, Snaps, Stretch, anew, before_snaps, begin_after, has_snapped, is_snap, kept_moves, moves, run_of_stretches}
use Rattle.ckpt_other_cuts.proofs.Names.{with_doing}
use Rattle.ckpt_other_cuts.proofs.KeyRuns.{channel_of}
use Rattle.ckpt_other_cuts.specs.Restarted.{published}

-- what recorders made has the channels

pub recorders_keep_channels : (job : Job) (b : Begin) (s : Stretch) → RecordersKeepChannels job b s
recorders_keep_channels job b s was c has =
    ap (λ xs. xs ++ put_on job b.states (kept_moves s) c) (sym (was.gives_first c has))
    ∙ ap (λ xs. was.network.first c ++ xs) (sym (was.sends c has))
    ∙ sym (global_part s.record_id was.network c (was.is_connected c has) (was.in_order c has) (was.is_whole c has))
    ∙ was.takes c has

-- the moves of one task

-- a list is the older part of another
abbrev IsOlder : {X : Type 0} → List X → List X → Type 0
IsOlder {X} older all = (newer : List X) × (all ≡ newer ++ older)

older-one : {X : Type 0} (x : X) (older all : List X) → IsOlder older all → IsOlder older (x ∷ all)
older-one x older all h = (x ∷ h.0, ap (λ l. x ∷ l) h.1)

older-both : {X : Type 0} (x : X) (older all : List X) → older ≡ all → IsOlder (x ∷ older) (x ∷ all)
older-both x older all e = ([], ap (λ l. x ∷ l) (sym e))

-- a task that has not taken its snapshot has only moves before it
not_snapped_by : (n : ℕ) (t u : SubtaskId) (w : Doing) (doings : Doings) (same here : Bool) → same_subtask u t ≡ same → has_snapped n u doings ≡ here → has_snapped n t doings ≡ false
    → of t (before_snaps n doings) ≡ of t (moves doings)
    → of t (if here then before_snaps n doings else with_doing u w (before_snaps n doings)) ≡ of t (with_doing u w (moves doings))
not_snapped_by n t u (Snaps id) doings same true s h k e = e
not_snapped_by n t u (Snaps id) doings same false s h k e = e
not_snapped_by n t u (Moves m) doings true true s h k e = absurd (both_ways true (sym h ∙ ap (λ v. has_snapped n v doings) ((same_subtask-Decides u t).0 s) ∙ k) refl)
not_snapped_by n t u (Moves m) doings true false s h k e = grind (arith, common_steps)
not_snapped_by n t u (Moves m) doings false true s h k e = grind (arith, common_steps)
not_snapped_by n t u (Moves m) doings false false s h k e = grind (arith, common_steps)

pub not_snapped : (n : ℕ) (t : SubtaskId) (doings : Doings) → has_snapped n t doings ≡ false → of t (before_snaps n doings) ≡ of t (moves doings)
not_snapped n t [] e = refl
not_snapped n t (it ∷ doings) e =
    let k : has_snapped n t doings ≡ false = (or_parts (has_snapped n t doings) (same_subtask it.task t && is_snap n it.what) e).0 in
    not_snapped_by n t it.task it.what doings (same_subtask it.task t) (has_snapped n it.task doings) refl refl k (not_snapped n t doings k)

-- what a task did before its snapshot is the older part of what it did
older_of_by : (n : ℕ) (t u : SubtaskId) (w : Doing) (doings : Doings) (same here : Bool) → same_subtask u t ≡ same → has_snapped n u doings ≡ here
    → IsOlder (of t (before_snaps n doings)) (of t (moves doings))
    → IsOlder (of t (if here then before_snaps n doings else with_doing u w (before_snaps n doings))) (of t (with_doing u w (moves doings)))
older_of_by n t u (Snaps id) doings same true s h e = e
older_of_by n t u (Snaps id) doings same false s h e = e
older_of_by n t u (Moves m) doings true true s h e = rw s (older-one m (of t (before_snaps n doings)) (of t (moves doings)) e)
older_of_by n t u (Moves m) doings true false s h e =
    rw s (older-both m (of t (before_snaps n doings)) (of t (moves doings)) (not_snapped n t doings (ap (λ v. has_snapped n v doings) (sym ((same_subtask-Decides u t).0 s)) ∙ h)))
older_of_by n t u (Moves m) doings false true s h e = rw s e
older_of_by n t u (Moves m) doings false false s h e = rw s e

older_of : (n : ℕ) (t : SubtaskId) (doings : Doings) → IsOlder (of t (before_snaps n doings)) (of t (moves doings))
older_of n t [] = ([], refl)
older_of n t (it ∷ doings) = older_of_by n t it.task it.what doings (same_subtask it.task t) (has_snapped n it.task doings) refl refl (older_of n t doings)

taken_is_prefix : (n : ℕ) (doings : Doings) (c : Channel) → IsPrefix (taken_off (before_snaps n doings) c) (taken_off (moves doings) c)
taken_is_prefix n doings c =
    let h = older_of n c.receiver doings in
    (from_input c.input h.0, ap (from_input c.input) h.1 ∙ from_input-append c.input h.0 (of c.receiver (before_snaps n doings)))

written_is_prefix : (job : Job) (from : States) (n : ℕ) (doings : Doings) (sink : Sink) → IsPrefix (written job from (before_snaps n doings) sink) (written job from (moves doings) sink)
written_is_prefix job from n doings sink =
    let h = older_of n sink.task doings in
    let p : Program = job.program sink.task in
    let kept : List Move = of sink.task (before_snaps n doings) in
    let later : List Emitted = emitted p (state p (from sink.task) kept) h.0 in (
      on_output sink.output later,
      ap (λ ms. on_output sink.output (emitted p (from sink.task) ms)) h.1
          ∙ ap (on_output sink.output) (emitted-append p (from sink.task) h.0 kept)
          ∙ on_output-append sink.output (emitted p (from sink.task) kept) later,
    )

-- once a task has taken its snapshot, nothing that it does counts
snapped_by : (n : ℕ) (t u : SubtaskId) (w : Doing) (doings : Doings) (run : Run) (same here : Bool) → same_subtask u t ≡ same → has_snapped n u doings ≡ here → has_snapped n t doings ≡ true
    → of t (before_snaps n doings) ≡ of t run
    → of t (if here then before_snaps n doings else with_doing u w (before_snaps n doings)) ≡ of t run
snapped_by n t u (Snaps id) doings run same true s h k e = e
snapped_by n t u (Snaps id) doings run same false s h k e = e
snapped_by n t u (Moves m) doings run true true s h k e = e
snapped_by n t u (Moves m) doings run true false s h k e = absurd (both_ways true (sym k ∙ ap (λ v. has_snapped n v doings) (sym ((same_subtask-Decides u t).0 s)) ∙ h) refl)
snapped_by n t u (Moves m) doings run false true s h k e = e
snapped_by n t u (Moves m) doings run false false s h k e = rw s e

pub stays_snapped : (n : ℕ) (t : SubtaskId) (newer doings : Doings) → has_snapped n t doings ≡ true → has_snapped n t (newer ++ doings) ≡ true
stays_snapped n t [] doings e = e
stays_snapped n t (it ∷ newer) doings e = or_left (has_snapped n t (newer ++ doings)) (same_subtask it.task t && is_snap n it.what) (stays_snapped n t newer doings e)

pub snapped : (n : ℕ) (t : SubtaskId) (newer doings : Doings) → has_snapped n t doings ≡ true → of t (before_snaps n (newer ++ doings)) ≡ of t (before_snaps n doings)
snapped n t [] doings e = refl
snapped n t (it ∷ newer) doings e =
    snapped_by n t it.task it.what (newer ++ doings) (before_snaps n doings) (same_subtask it.task t) (has_snapped n it.task (newer ++ doings)) refl refl (stays_snapped n t newer doings e)
    (snapped n t newer doings e)

-- of a longer list more counts
older_run_by : (u : SubtaskId) (w : Doing) (here : Bool) (run older : Run) → IsOlder older run → IsOlder older (if here then run else with_doing u w run)
older_run_by u w true run older h = h
older_run_by u (Snaps id) false run older h = h
older_run_by u (Moves m) false run older h = older-one (record { task = u; what = m }) older run h

older_run : (n : ℕ) (newer doings : Doings) → IsOlder (before_snaps n doings) (before_snaps n (newer ++ doings))
older_run n [] doings = ([], refl)
older_run n (it ∷ newer) doings = older_run_by it.task it.what (has_snapped n it.task (newer ++ doings)) (before_snaps n (newer ++ doings)) (before_snaps n doings) (older_run n newer doings)

older_taken : (older all : Run) (c : Channel) → IsOlder older all → IsPrefix (taken_off older c) (taken_off all c)
older_taken older all c h = (taken_off h.0 c, ap (λ run. taken_off run c) h.1 ∙ taken-join h.0 older c)

-- the moves before the snapshots of a record are a run, if the record has the channels

abbrev pub puts : Job → Begin → Run → Channel → List ℕ
puts job b run c = b.first c ++ put_on job b.states run c

abbrev pub HasAll : Job → Begin → Run → (Channel → List ℕ) → Type 0
HasAll job b run part = (c : Channel) → IsIn c job.channels → puts job b run c ≡ taken_off run c ++ part c

same_puts : (job : Job) (b : Begin) (c : Channel) (run other : Run) → of c.sender run ≡ of c.sender other → puts job b run c ≡ puts job b other c
same_puts job b c run other e = ap (λ ms. b.first c ++ on_output c.output (emitted (job.program c.sender) (b.states c.sender) ms)) e

-- what was taken by a moment had been put by then, by the sender before its snapshot
in_order_by : (job : Job) (b : Begin) (n : ℕ) (part : Channel → List ℕ) (newer doings : Doings) (it : By Doing) (c : Channel) (here : Bool) → has_snapped n c.sender doings ≡ here → IsIn c job.channels
    → HasAll job b (before_snaps n (newer ++ it ∷ doings)) part
    → IsPrefix (taken_off (moves (it ∷ doings)) c) (puts job b (moves doings) c)
    → IsPrefix (taken_off (before_snaps n (it ∷ doings)) c) (puts job b (before_snaps n doings) c)
in_order_by job b n part newer doings it c false e has all k =
    let Of : List ℕ → Type 0 = λ xs. IsPrefix (taken_off (before_snaps n (it ∷ doings)) c) xs in
    subst Of (sym (same_puts job b c (before_snaps n doings) (moves doings) (not_snapped n c.sender doings e)))
    (prefix_trans (taken_off (before_snaps n (it ∷ doings)) c) (taken_off (moves (it ∷ doings)) c) (puts job b (moves doings) c) (taken_is_prefix n (it ∷ doings) c) k)
in_order_by job b n part newer doings it c true e has all k =
    let whole : Run = before_snaps n (newer ++ it ∷ doings) in
    let Of : List ℕ → Type 0 = λ xs. IsPrefix (taken_off (before_snaps n (it ∷ doings)) c) xs in
    let same : of c.sender whole ≡ of c.sender (before_snaps n doings) =
    ap (λ ds. of c.sender (before_snaps n ds)) (sym (append_assoc newer (it ∷ []) doings)) ∙ snapped n c.sender (newer ++ it ∷ []) doings e in
    subst Of (same_puts job b c whole (before_snaps n doings) same)
    (prefix_trans (taken_off (before_snaps n (it ∷ doings)) c) (taken_off whole c) (puts job b whole c) (older_taken (before_snaps n (it ∷ doings)) whole c (older_run n newer (it ∷ doings))) (part c, all c has))

tail_run : (job : Job) (b : Begin) (t : SubtaskId) (w : Doing) (run : Run) → IsRunFrom job b (with_doing t w run) → IsRunFrom job b run
tail_run job b t (Moves m) run k = k.0
tail_run job b t (Snaps id) run k = k

one_more : (job : Job) (b : Begin) (t : SubtaskId) (w : Doing) (here : Bool) (run all : Run) → IsRunFrom job b run → IsRunFrom job b (with_doing t w all)
    → (here ≡ false → (c : Channel) → IsIn c job.channels → IsPrefix (taken_off (with_doing t w all) c) (puts job b all c) → IsPrefix (taken_off (with_doing t w run) c) (puts job b run c))
    → IsRunFrom job b (if here then run else with_doing t w run)
one_more job b t w true run all r k goes = r
one_more job b t (Snaps id) false run all r k goes = r
one_more job b t (Moves m) false run all r k goes = (r, k.1, λ c has. goes refl c has (k.2 c has))

not_here : (n : ℕ) (it : By Doing) (doings : Doings) → has_snapped n it.task doings ≡ false → before_snaps n (it ∷ doings) ≡ with_doing it.task it.what (before_snaps n doings)
not_here n it doings e = grind (arith, common_steps)

kept_is_run : (job : Job) (b : Begin) (n : ℕ) (part : Channel → List ℕ) (newer doings : Doings) → HasAll job b (before_snaps n (newer ++ doings)) part → IsRunFrom job b (moves doings) → IsRunFrom job b (before_snaps n doings)
kept_is_run job b n part newer [] all k = tt
kept_is_run job b n part newer (it ∷ doings) all k =
    let All : Doings → Type 0 = λ ds. HasAll job b (before_snaps n ds) part in
    let older : IsRunFrom job b (before_snaps n doings) =
    kept_is_run job b n part (newer ++ it ∷ []) doings (subst All (sym (append_assoc newer (it ∷ []) doings)) all) (tail_run job b it.task it.what (moves doings) k) in
    one_more job b it.task it.what (has_snapped n it.task doings) (before_snaps n doings) (moves doings) older k
    (λ e c has h.
    let Taken : Run → Type 0 = λ run. IsPrefix (taken_off run c) (puts job b (before_snaps n doings) c) in
    subst Taken (not_here n it doings e) (in_order_by job b n part newer doings it c (has_snapped n c.sender doings) refl has all h))

-- runs one behind the other

abbrev next_begin : Job → Begin → Run → (Channel → List ℕ) → Begin
next_begin job b run part = record { states = states_after job b.states run; first = part }

puts-join : (job : Job) (b : Begin) (first second : Run) (part : Channel → List ℕ) (c : Channel) → puts job b first c ≡ taken_off first c ++ part c
    → puts job b (second ++ first) c ≡ taken_off first c ++ puts job (next_begin job b first part) second c
puts-join job b first second part c e =
    let put : List ℕ = put_on job (states_after job b.states first) second c in
    ap (λ xs. b.first c ++ xs) (put-join job b.states second first c)
    ∙ sym (append_assoc (b.first c) (put_on job b.states first c) put)
    ∙ ap (λ xs. xs ++ put) e
    ∙ append_assoc (taken_off first c) (part c) put

pub prefix-behind : (front xs ys ps qs : List ℕ) → ps ≡ front ++ xs → qs ≡ front ++ ys → IsPrefix xs ys → IsPrefix ps qs
prefix-behind front xs ys ps qs e f h = (h.0, f ∙ ap (λ l. front ++ l) h.1 ∙ sym (append_assoc front xs h.0) ∙ ap (λ l. l ++ h.0) (sym e))

is_run-join : (job : Job) (b : Begin) (first second : Run) (part : Channel → List ℕ) → IsRunFrom job b first → HasAll job b first part → IsRunFrom job (next_begin job b first part) second → IsRunFrom job b (second ++ first)
is_run-join job b first [] part r all k = r
is_run-join job b first (step ∷ second) part r all k = (
  is_run-join job b first second part r all k.0,
  k.1,
  λ c has. prefix-behind (taken_off first c) (taken_off (step ∷ second) c) (puts job (next_begin job b first part) second c) (taken_off (step ∷ second ++ first) c) (puts job b (second ++ first) c)
      (taken-join (step ∷ second) first c) (puts-join job b first second part c (all c has)) (k.2 c has),
)

has_all-join : (job : Job) (b : Begin) (first second : Run) (part later : Channel → List ℕ) → HasAll job b first part → HasAll job (next_begin job b first part) second later → HasAll job b (second ++ first) later
has_all-join job b first second part later all k c has =
    puts-join job b first second part c (all c has)
    ∙ ap (λ xs. taken_off first c ++ xs) (k c has)
    ∙ sym (append_assoc (taken_off first c) (taken_off second c) (later c))
    ∙ ap (λ xs. xs ++ later c) (sym (taken-join second first c))

pub written-join : (job : Job) (from : States) (second first : Run) (sink : Sink) → written job from (second ++ first) sink ≡ written job from first sink ++ written job (states_after job from first) second sink
written-join job from second first sink = put-join job from second first (channel_of sink)

-- after any number of failures

pub record IsRestored (job : Job) (ss : List Stretch) : Type 0 where
  pub run : IsRunFrom job (anew job) (run_of_stretches ss)
  pub all : HasAll job (anew job) (run_of_stretches ss) (begin_after job ss).first
  pub states : (begin_after job ss).states ≡ states_after job (starts job) (run_of_stretches ss)
  pub was_published : (sink : Sink) → published job sink ss ≡ written job (starts job) (run_of_stretches ss) sink

same_begin : (b : Begin) (states : States) → b.states ≡ states → b ≡ record { states = states; first = b.first }
same_begin b states e = ap (λ (s : States). record { states = s; first = b.first }) e

pub is_restored : (job : Job) (ss : List Stretch) → AreStretches job ss → IsRestored job ss
is_restored job [] k = record { run = tt; all = λ c has. refl; states = refl; was_published = λ sink. refl }
is_restored job (s ∷ ss) k =
    let b : Begin = begin_after job ss in
    let past : Run = run_of_stretches ss in
    let before = is_restored job ss k.0 in
    let same : b ≡ next_begin job (anew job) past b.first = same_begin b (states_after job (starts job) past) before.states in
    let Runs : Begin → Type 0 = λ it. IsRunFrom job it (kept_moves s) in
    let All : Begin → Type 0 = λ it. HasAll job it (kept_moves s) s.part in
    record {
      run = is_run-join job (anew job) past (kept_moves s) b.first before.run before.all (subst Runs same (kept_is_run job b s.record_id s.part [] s.doings k.2 k.1));
      all = has_all-join job (anew job) past (kept_moves s) b.first s.part before.all (subst All same k.2);
      states = fun_ext (λ t. ap (λ (f : States). states_after job f (kept_moves s) t) before.states ∙ states-join job (starts job) (kept_moves s) past t);
      was_published = λ sink.
          ap (λ xs. xs ++ written job b.states (kept_moves s) sink) (before.was_published sink)
          ∙ ap (λ (f : States). written job (starts job) past sink ++ written job f (kept_moves s) sink) before.states
          ∙ sym (written-join job (starts job) (kept_moves s) past sink);
    }

is_run : (job : Job) (run : Run) → IsRunFrom job (anew job) run → IsRun job (starts job) run
is_run job [] k = tt
is_run job (step ∷ run) k = (is_run job run k.0, k.1, k.2)

pub restarts_invisible : (job : Job) (ss : List Stretch) (doings : Doings) → RestartsInvisible job ss doings
restarts_invisible job ss doings are k =
    let b : Begin = begin_after job ss in
    let past : Run = run_of_stretches ss in
    let before = is_restored job ss are in
    let same : b ≡ next_begin job (anew job) past b.first = same_begin b (states_after job (starts job) past) before.states in
    let Runs : Begin → Type 0 = λ it. IsRunFrom job it (moves doings) in
    record {
      is_run = is_run job (moves doings ++ past) (is_run-join job (anew job) past (moves doings) b.first before.run before.all (subst Runs same k));
      has_states = λ t. ap (λ (f : States). states_after job f (moves doings) t) before.states ∙ states-join job (starts job) (moves doings) past t;
      has_channels = before.all;
      was_published = before.was_published;
      is_published = λ sink n.
          prefix-behind (published job sink ss) (written job b.states (before_snaps n doings) sink) (written job b.states (moves doings) sink)
          (published job sink ss ++ written job b.states (before_snaps n doings) sink) (written job (starts job) (moves doings ++ past) sink)
          refl
          (written-join job (starts job) (moves doings) past sink
          ∙ ap (λ xs. xs ++ written job (states_after job (starts job) past) (moves doings) sink) (sym (before.was_published sink))
          ∙ ap (λ (f : States). published job sink ss ++ written job f (moves doings) sink) (sym before.states))
          (written_is_prefix job b.states n doings sink);
    }
