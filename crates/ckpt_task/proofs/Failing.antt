-- What tasks did that faults stopped counts as loops.
use Rattle.ckpt_task.proofs.Names.{◌≡◌, ℕ, eqb, ◌+◌, Bool, true, false, List, [], ◌∷◌, ◌++◌, ◌∙◌, refl, sym, ap, subst, if◌then◌else◌, Option, Some, None, inl, inr, ◌==◌, ◌⊎◌, both_ways}
use Rattle.ckpt_task.proofs.Names.{cond_both, eqb-true, append-nil, append_assoc, SubtaskId, IsIn, same_subtask, same_subtask-Decides, Alignment, opened, Item, has_cut, replay, Channel}
use Rattle.ckpt_task.proofs.Names.{IsJob, Job, States, Ended, Program, Turn, actions, Transaction, aligned_is, Deed, Came, Took, Sent, SentBarrier, SentEnd, Acknowledged, Declined, Next}
use Rattle.ckpt_task.proofs.Names.{IsPart, IsUnfinished, Word, Acknowledges, as_came, came_in, sent_in, taken_in, told_in, AreFailing, CountAsLoops, CountsAs, FaultsCount, HasFailed}
use Rattle.ckpt_task.proofs.Names.{HasLoopedOrFailed, KeepsOrder, HasLooped, Looped, Loops, deeds_of, turns_of, Around, IsKeptBy, IsStopped, Kept, WasBegun, around, kept_in, Saved, under}
use Rattle.ckpt_task.proofs.Names.{At, abandoned_as, answer_in, cut_of}
use Rattle.ckpt_task.proofs.{Doing.runs_more, Looping.Follows, Looping.follows, Looping.follows_run, Snapping.not_cut_yet, Working.at_as}
use Rattle.ckpt_align.specs.Histories as item

-- what came and was not taken

taken_came : (j : ℕ) (next : Option Next) (deeds : List Deed) → taken_in j (as_came next ++ deeds) ≡ taken_in j deeds
taken_came j None deeds = refl
taken_came j (Some next) deeds = refl

sent_came : (c : ℕ) (next : Option Next) (deeds : List Deed) → sent_in c (as_came next ++ deeds) ≡ sent_in c deeds
sent_came c None deeds = refl
sent_came c (Some next) deeds = refl

told_came : (next : Option Next) (deeds : List Deed) → told_in (as_came next ++ deeds) ≡ told_in deeds
told_came None deeds = refl
told_came (Some next) deeds = refl

came_came : (next : Option Next) (deeds : List Deed) (turn : Turn) → IsIn turn (came_in deeds) → IsIn turn (came_in (as_came next ++ deeds))
came_came None deeds turn has = has
came_came (Some next) deeds turn has = inr has

-- what is left to do puts and tells only more

abbrev Sends : ℕ → List Deed → List Deed → Type 0
Sends c now all = (more : List Item) × (sent_in c all ≡ sent_in c now ++ more)

sends_one : (c : ℕ) (now all : List Deed) (items : List Item) (later : List Item) → sent_in c all ≡ sent_in c now ++ items → (sent_in c all ++ later) ≡ sent_in c now ++ (items ++ later)
sends_one c now all items later e = ap (λ (l : List Item). l ++ later) e ∙ append_assoc (sent_in c now) items later

sends_left : (c : ℕ) (left now : List Deed) → Sends c now (left ++ now)
sends_left c [] now = ([], sym (append-nil (sent_in c now)))
sends_left c (Came next ∷ left) now = sends_left c left now
sends_left c (Took ∷ left) now = sends_left c left now
sends_left c (Sent o x ∷ left) now =
    let k = sends_left c left now in
    let one : List Item = if o == c then item.Element x ∷ [] else [] in
    (k.0 ++ one, sends_one c now (left ++ now) k.0 one k.1)
sends_left c (SentBarrier n ∷ left) now = let k = sends_left c left now in (k.0 ++ item.Barrier n ∷ [], sends_one c now (left ++ now) k.0 (item.Barrier n ∷ []) k.1)
sends_left c (SentEnd ∷ left) now = let k = sends_left c left now in (k.0 ++ item.End ∷ [], sends_one c now (left ++ now) k.0 (item.End ∷ []) k.1)
sends_left c (Acknowledged n ∷ left) now = sends_left c left now
sends_left c (Declined n ∷ left) now = sends_left c left now

tells_left : (left now : List Deed) (word : Word) → IsIn word (told_in now) → IsIn word (told_in (left ++ now))
tells_left [] now word has = has
tells_left (Came next ∷ left) now word has = tells_left left now word has
tells_left (Took ∷ left) now word has = tells_left left now word has
tells_left (Sent o x ∷ left) now word has = tells_left left now word has
tells_left (SentBarrier n ∷ left) now word has = tells_left left now word has
tells_left (SentEnd ∷ left) now word has = tells_left left now word has
tells_left (Acknowledged n ∷ left) now word has = inr (tells_left left now word has)
tells_left (Declined n ∷ left) now word has = inr (tells_left left now word has)

-- ONE TASK

pub record Counted (p : Program) (s inputs : ℕ) (l k : Looped) : Type 0 where
  pub looped : HasLooped p (at_as s (opened inputs)) k
  pub turns : (turn : Turn) → IsIn turn (turns_of k) → IsIn turn (turns_of l)
  pub counts : CountsAs l k

-- a loop that goes on
abbrev pub going : Around → Around → Looped
going x y = record { first = x; last = y; has_ended = false }

-- without an end its deeds are those of its last run, and so are its turns
deeds_on : (l : Looped) → l.has_ended ≡ false → deeds_of l ≡ l.last.deeds
deeds_on l on = ap (λ b. if b then SentEnd ∷ l.last.deeds else l.last.deeds) on

turns_on : (l : Looped) → l.has_ended ≡ false → turns_of l ≡ came_in l.last.deeds
turns_on l on = ap (λ b. if b then Ended ∷ came_in l.last.deeds else came_in l.last.deeds) on

-- the turn that was stopped counts as not begun
pub skips : (p : Program) (s inputs : ℕ) (l : Looped) (failed : HasFailed p (at_as s (opened inputs)) l) (next : Option Next) → l.last.deeds ≡ as_came next ++ failed.stopped.whole.deeds
    → ((n : ℕ) → IsIn (Acknowledges n) (told_in l.last.deeds) → under n failed.stopped.whole.saved ≡ under n l.last.saved) → Counted p s inputs l (going l.first failed.stopped.whole)
skips p s inputs l failed next e restores =
    let whole : Around = failed.stopped.whole in
    let deeds : deeds_of l ≡ as_came next ++ whole.deeds = deeds_on l failed.ended_not ∙ e in
    record {
      looped = record {
        task = failed.task;
        unused = failed.unused;
        begins = failed.last_begin ∷ failed.begins;
        runs = (failed.runs, (failed.waits, failed.stopped.count, failed.stopped.run));
      };
      turns = λ turn has.
          subst (λ (us : List Turn). IsIn turn us) (sym (turns_on l failed.ended_not ∙ ap came_in e)) (came_came next whole.deeds turn has);
      counts = record {
        first = refl;
        taken_on = λ j. sym (ap (taken_in j) deeds ∙ taken_came j next whole.deeds);
        sent_on = λ c. ([], sym (ap (λ (ds : List Deed). sent_in c ds ++ []) deeds ∙ append-nil (sent_in c (as_came next ++ whole.deeds)) ∙ sent_came c next whole.deeds));
        told = λ n has. subst (λ (words : List Word). IsIn (Acknowledges n) words) (ap told_in e ∙ told_came next whole.deeds) has;
        saved = restores;
      };
    }

-- or as finished
pub finishes : (p : Program) (s inputs : ℕ) (l : Looped) (failed : HasFailed p (at_as s (opened inputs)) l) (begun : WasBegun p (λ turn. failed.waits (turn ∷ failed.stopped.run.turns)) failed.stopped.whole l.last)
    → IsUnfinished l.last.deeds begun.all → Counted p s inputs l (going l.first (around l.last.task begun.all l.last.saved l.last.refused))
finishes p s inputs l failed begun rest =
    let z : Around = around l.last.task begun.all l.last.saved l.last.refused in
    let turns : List Turn = failed.stopped.run.turns in
    let deeds : deeds_of l ≡ l.last.deeds = deeds_on l failed.ended_not in
    record {
      looped = record {
        task = failed.task;
        unused = failed.unused;
        begins = failed.last_begin ∷ failed.begins;
        runs = (failed.runs, (failed.waits, failed.stopped.count + 1, runs_more p failed.waits (λ turn. failed.waits (turn ∷ turns)) failed.stopped.count failed.last_begin failed.stopped.whole z failed.stopped.run begun.turned refl));
      };
      turns = λ turn has. subst (λ (us : List Turn). IsIn turn us) (sym (turns_on l failed.ended_not ∙ rest.came)) has;
      counts = record {
        first = refl;
        taken_on = λ j. sym (ap (taken_in j) deeds ∙ rest.took j);
        sent_on = λ c.
            let more = sends_left c rest.left l.last.deeds in
            (more.0, ap (sent_in c) rest.is_left ∙ more.1 ∙ ap (λ (ds : List Deed). sent_in c ds ++ more.0) (sym deeds));
        told = λ n has. subst (λ (ds : List Deed). IsIn (Acknowledges n) (told_in ds)) (sym rest.is_left) (tells_left rest.left l.last.deeds (Acknowledges n) has);
        saved = λ n has. refl;
      };
    }

-- a turn that was not begun cuts no record that was acknowledged, so the snapshots of these are the same

other : (n : ℕ) (one : Saved) (ones : List Saved) → (one.id ≡ n → ⊥) → under n (one ∷ ones) ≡ under n ones
other n one ones not = cond_both (eqb one.id n) (Some one) (under n ones) (λ (o : Option Saved). o ≡ under n ones) (λ same. absurd (not (eqb-true one.id n same))) (λ _. refl)

same_by : (n s : ℕ) (cut given : Option ℕ) (waiting : List Transaction) (k l : Kept) → IsKeptBy cut given s waiting k l → (cut ≡ Some n → ⊥) → under n k.saved ≡ under n l.saved
same_by n s (Some m) given waiting k l (inl is) not =
    let one : Saved = record { id = m; state = s; waiting = waiting } in
    sym (ap (λ (z : Kept). under n z.saved) is ∙ other n one k.saved (λ same. not (ap Some same)))
same_by n s (Some m) given waiting k l (inr declined) not = by_saved declined.saved
  where
    one : Saved
    one = record { id = m; state = s; waiting = waiting }

    by_saved : (l.saved ≡ k.saved) ⊎ (l.saved ≡ one ∷ k.saved) → under n k.saved ≡ under n l.saved
    by_saved (inl same) = sym (ap (under n) same)
    by_saved (inr grows) = sym (ap (under n) grows ∙ other n one k.saved (λ same. not (ap Some same)))
same_by n s None (Some m) waiting k l is not = sym (ap (λ (z : Kept). under n z.saved) is)
same_by n s None None waiting k l is not = sym (ap (λ (z : Kept). under n z.saved) is)

pub begun_restores : (p : Program) (s inputs : ℕ) (l : Looped) (failed : HasFailed p (at_as s (opened inputs)) l) (begun : WasBegun p (λ turn. failed.waits (turn ∷ failed.stopped.run.turns)) failed.stopped.whole l.last)
    → l.last.deeds ≡ Came begun.next ∷ failed.stopped.whole.deeds → (n : ℕ) → IsIn (Acknowledges n) (told_in l.last.deeds) → under n failed.stopped.whole.saved ≡ under n l.last.saved
begun_restores p s inputs l failed begun same n has =
    let a : Alignment = opened inputs in
    let x : Around = failed.stopped.whole in
    let z : Around = around l.last.task begun.all l.last.saved l.last.refused in
    let us : List Turn = came_in x.deeds in
    let turn : Turn = begun.turned.turn in
    let begins : Follows p s a failed.last_begin = follows p s a failed.begins l.first failed.last_begin failed.task failed.unused failed.runs in
    let was : Follows p s a x = follows_run p s a failed.waits failed.stopped.count failed.last_begin x begins failed.stopped.run in
    let cut : has_cut n a (actions p s a us) ≡ true = was.tells n (subst (λ (ds : List Deed). IsIn (Acknowledges n) (told_in ds)) same has) in
    let reached : replay a (actions p s a us) ≡ x.task.alignment = aligned_is p s a us ∙ sym (ap (λ (m : At). m.alignment) was.task) in
    same_by n x.task.state (cut_of x.task.alignment turn) (abandoned_as (answer_in x.task.alignment turn)) (failed.waits (turn ∷ failed.stopped.run.turns)) (kept_in x) (kept_in z) begun.turned.kept
    (λ e. both_ways (has_cut n a (actions p s a us)) (not_cut_yet n inputs (actions p s a us) x.task.alignment turn reached e) cut)

abbrev IsCounted : Program → ℕ → ℕ → Looped → Type 0
IsCounted p s inputs l = (k : Looped) × Counted p s inputs l k

by_part : (p : Program) (s inputs : ℕ) (l : Looped) (failed : HasFailed p (at_as s (opened inputs)) l) (begun : WasBegun p (λ turn. failed.waits (turn ∷ failed.stopped.run.turns)) failed.stopped.whole l.last)
    → IsPart (Came begun.next ∷ failed.stopped.whole.deeds) l.last.deeds begun.all → IsCounted p s inputs l
by_part p s inputs l failed begun (inl same) = (going l.first failed.stopped.whole, skips p s inputs l failed (Some begun.next) same (begun_restores p s inputs l failed begun same))
by_part p s inputs l failed begun (inr rest) = (going l.first (around l.last.task begun.all l.last.saved l.last.refused), finishes p s inputs l failed begun rest)

by_stop : (p : Program) (s inputs : ℕ) (l : Looped) (failed : HasFailed p (at_as s (opened inputs)) l) → IsStopped p (λ turn. failed.waits (turn ∷ failed.stopped.run.turns)) failed.stopped.whole l.last → IsCounted p s inputs l
by_stop p s inputs l failed (inl none) = (going l.first failed.stopped.whole, skips p s inputs l failed none.next none.deeds (λ n has. sym (ap (under n) none.saved)))
by_stop p s inputs l failed (inr begun) = by_part p s inputs l failed begun begun.part

counted : (p : Program) (s inputs : ℕ) (l : Looped) → HasLoopedOrFailed p (at_as s (opened inputs)) l → IsCounted p s inputs l
counted p s inputs l (inl is) = (
  l,
  record {
    looped = is;
    turns = λ turn has. has;
    counts = record { first = refl; taken_on = λ j. refl; sent_on = λ c. ([], sym (append-nil (sent_in c (deeds_of l)))); told = λ n has. has; saved = λ n has. refl };
  },
)
counted p s inputs l (inr failed) = by_stop p s inputs l failed failed.stopped.stopped

-- THE JOB

abbrev IsInOrOut : SubtaskId → List SubtaskId → Type 0
IsInOrOut t ts = IsIn t ts ⊎ (IsIn t ts → ⊥)

neither : (t s : SubtaskId) (ts : List SubtaskId) → same_subtask s t ≡ false → (IsIn t ts → ⊥) → IsIn t (s ∷ ts) → ⊥
neither t s ts other out (inl same) = both_ways (same_subtask s t) other ((same_subtask-Decides s t).1 (sym same))
neither t s ts other out (inr has) = out has

in_or_out_by : (t s : SubtaskId) (ts : List SubtaskId) (b : Bool) → same_subtask s t ≡ b → IsInOrOut t ts → IsInOrOut t (s ∷ ts)
in_or_out_by t s ts true same is = inl (inl (sym ((same_subtask-Decides s t).0 same)))
in_or_out_by t s ts false other (inl has) = inl (inr has)
in_or_out_by t s ts false other (inr out) = inr (neither t s ts other out)

in_or_out : (t : SubtaskId) (ts : List SubtaskId) → IsInOrOut t ts
in_or_out t [] = inr (λ has. has)
in_or_out t (s ∷ ts) = in_or_out_by t s ts (same_subtask s t) refl (in_or_out t ts)

abbrev loop_by : (job : Job) (from : States) (e : Loops) → AreFailing job from e → (t : SubtaskId) → IsInOrOut t job.tasks → Looped
loop_by job from e are t (inl has) = (counted (job.program t) (from t) (job.inputs t) (e.looped t) (are.looped t has)).0
loop_by job from e are t (inr out) = e.looped t

loop_counts : (job : Job) (from : States) (e : Loops) (are : AreFailing job from e) (t : SubtaskId) (is : IsInOrOut t job.tasks) → IsIn t job.tasks
    → Counted (job.program t) (from t) (job.inputs t) (e.looped t) (loop_by job from e are t is)
loop_counts job from e are t (inl has) _ = (counted (job.program t) (from t) (job.inputs t) (e.looped t) (are.looped t has)).1
loop_counts job from e are t (inr out) has = absurd (out has)

abbrev loops_of : (job : Job) (from : States) (e : Loops) → AreFailing job from e → Loops
loops_of job from e are = record { looped = λ t. loop_by job from e are t (in_or_out t job.tasks); order = e.order }

keeps_order : (job : Job) (from : States) (e : Loops) (are : AreFailing job from e) (c : Channel) → IsIn c.sender job.tasks → IsIn c.receiver job.tasks → IsIn c job.channels
    → KeepsOrder (loops_of job from e are) c
keeps_order job from e are c sender receiver has =
    let way = are.keep_order c has in
    let put = (loop_counts job from e are c.sender (in_or_out c.sender job.tasks) sender).counts.sent_on c.output in
    let took = (loop_counts job from e are c.receiver (in_or_out c.receiver job.tasks) receiver).counts.taken_on c.input in (
      way.0 ++ put.0,
      put.1
          ∙ ap (λ (l : List Item). l ++ put.0) way.1
          ∙ append_assoc (taken_in c.input (deeds_of (e.looped c.receiver))) way.0 put.0
          ∙ ap (λ (l : List Item). l ++ (way.0 ++ put.0)) (sym took),
    )

pub faults_count : (job : Job) (from : States) (e : Loops) → FaultsCount job from e
faults_count job from e is are = record {
  loops = loops_of job from e are;
  are_looping = record {
    looped = λ t has. (loop_counts job from e are t (in_or_out t job.tasks) has).looped;
    are_turns = λ t turn has came. are.are_turns t turn has ((loop_counts job from e are t (in_or_out t job.tasks) has).turns turn came);
    keep_order = λ c has. keeps_order job from e are c (is c has).0 (is c has).1 has;
    has_no_cycle = are.has_no_cycle;
    are_tasks = are.are_tasks;
  };
  count = λ t has. (loop_counts job from e are t (in_or_out t job.tasks) has).counts;
}
