-- What a sink is given at a restart is what its ledger held back at the cut.
use Rattle.ckpt_task.proofs.Names.{◌≡◌, ℕ, ◌≤◌, ◌<◌, eqb, true, false, nat_le, if◌then◌else◌, List, ◌∷◌, ◌++◌, ◌∙◌, map, refl, sym, ap, subst, inl, inr, arith, Option, Some, None, [], ◌⊎◌}
use Rattle.ckpt_task.proofs.Names.{cond_both, eqb-true, common_steps, append-nil, append_assoc, map-append, none-some, same_Some, IsIn, Alignment, opened, Action, Ends, GivesUp, Reads}
use Rattle.ckpt_task.proofs.Names.{Sends, after, cut_by, elements, has_cut, has_ended, replay, sent_by, cuts_rise, AreMomentsOf, Acts, Entry, Held, Moment, Told, after_entries}
use Rattle.ckpt_task.proofs.Names.{all_published, completed, entries, nothing, told_of, writes_held, acts-append, published-append, published_then, with_word, History, Job, States, network}
use Rattle.ckpt_task.proofs.Names.{of, Program, Turn, Offered, GivenUp, Drawn, Ended, actions, emitted_by, sendings, told, Sink, Transaction, above, contents, published_before, published_in}
use Rattle.ckpt_task.proofs.Names.{up_to, replay-append, cut_stays, came_in, Looped, Loops, attempts_of, history_of, turns_of, AreKept, Around, IsKeptBy, Kept, after_turns, held_after}
use Rattle.ckpt_task.proofs.Names.{kept_in, sink_waits, Saved, under, waiting_of, AreSteps, HasGiven, IsToldOf, Ran, SinkAttempt, SinkGivesOnce, SinkGivesOverRestarts, SinkRuns, Sinking}
use Rattle.ckpt_task.proofs.Names.{Step, WasTold, around_sink, from_of, loops_of, At, abandoned_as, answer_in, cut_of}
use Rattle.ckpt_task.proofs.SinkLooping.{IsTold, entries-append, held-append, held_at, told_first, told_reaches, told_run, told_word}
use Rattle.ckpt_task.proofs.{LoopLaws.loops_make_history, Looping.comes_on, Snapping.cut_later, Snapping.is_cut_by, Snapping.not_ended_in, Turning.cut_moves_none}
use Rattle.ckpt_ledger.specs.Ledgers.{acts}
use Rattle.ckpt_once.specs.Programs.{acts as acts_in}
use Rattle.ckpt_task.specs.SinkLoops as sinks

-- TRANSACTIONS UP TO A RECORD

abbrev AreUpTo : ℕ → List Transaction → Type 0
AreUpTo n [] = Unit {0}
AreUpTo n (one ∷ ones) = (one.id ≤ n) × AreUpTo n ones

up_to_all : (n : ℕ) (ones : List Transaction) → AreUpTo n ones → up_to n ones ≡ ones
up_to_all n [] are = refl
up_to_all n (one ∷ ones) are = ap (λ b. if b then one ∷ up_to n ones else []) (below one.id n are.0) ∙ ap (λ (l : List Transaction). one ∷ l) (up_to_all n ones are.1)
  where
    below : (m n : ℕ) → m ≤ n → nat_le m n ≡ true
    below m n less = grind (arith, common_steps)

up_to_more : (n : ℕ) (ones : List Transaction) (one : Transaction) → AreUpTo n ones → one.id ≤ n → AreUpTo n (ones ++ one ∷ [])
up_to_more n [] one are less = (less, tt)
up_to_more n (x ∷ ones) one are less = (are.0, up_to_more n ones one are.1 less)

up_to_above : (n m : ℕ) (ones : List Transaction) → AreUpTo n ones → AreUpTo n (above m ones)
up_to_above n m [] are = tt
up_to_above n m (one ∷ ones) are = cond_both (nat_le one.id m) (above m ones) (one ∷ ones) (λ (l : List Transaction). AreUpTo n l) (λ _. up_to_above n m ones are.1) (λ _. are)

-- each record that is cut in these moments is at most this one
abbrev CutsUpTo : ℕ → Alignment → List Moment → Type 0
CutsUpTo n a [] = Unit {0}
CutsUpTo n a (Acts action ∷ moments) = ((m : ℕ) → cut_by a action ≡ Some m → m ≤ n) × CutsUpTo n (after a action) moments
CutsUpTo n a (Told m ∷ moments) = CutsUpTo n a moments

cuts_up_to : (inputs : ℕ) (done : List Action) (moments : List Moment) (x : Action) (n : ℕ) → cut_by (replay (opened inputs) (done ++ acts moments)) x ≡ Some n → CutsUpTo n (replay (opened inputs) done) moments
cuts_up_to inputs done [] x n e = tt
cuts_up_to inputs done (Acts y ∷ moments) x n e =
    let a : Alignment = opened inputs in (
      λ m f. less m (cuts_rise inputs done y (acts moments) x m n f e),
      subst (λ (k : Alignment). CutsUpTo n k moments) (replay-append a done (y ∷ []))
          (cuts_up_to inputs (done ++ y ∷ []) moments x n (ap (λ (l : List Action). cut_by (replay a l) x) (append_assoc done (y ∷ []) (acts moments)) ∙ e)),
    )
  where
    less : (m : ℕ) → m < n → m ≤ n
    less m k = grind (arith, common_steps)
cuts_up_to inputs done (Told m ∷ moments) x n e = cuts_up_to inputs done moments x n e

held_by : (n : ℕ) (k : Option ℕ) (h : Held) (xs : List ℕ) → AreUpTo n h.waiting → ((m : ℕ) → k ≡ Some m → m ≤ n) → AreUpTo n (after_entries h (told_of k xs)).waiting
held_by n None h xs are less =
    subst (λ (l : List Transaction). AreUpTo n l) (ap (λ (g : Held). g.waiting) (sym (writes_held h xs []) ∙ ap (after_entries h) (append-nil (told_of None xs)))) are
held_by n (Some id) h xs are less = up_to_more n h.waiting (record { id = id; content = h.open_one }) are (less id refl)

held_up_to : (o n : ℕ) (a : Alignment) (h : Held) (moments : List Moment) → AreUpTo n h.waiting → CutsUpTo n a moments → AreUpTo n (after_entries h (entries o a moments)).waiting
held_up_to o n a h [] are cuts = are
held_up_to o n a h (Acts action ∷ moments) are cuts =
    let now : List Entry = told_of (cut_by a action) (elements (sent_by o a action)) in
    let next : Held = after_entries h now in
    subst (λ (g : Held). AreUpTo n g.waiting) (sym (held-append h now (entries o (after a action) moments)))
    (held_up_to o n (after a action) next moments (held_by n (cut_by a action) h (elements (sent_by o a action)) are cuts.0) cuts.1)
held_up_to o n a h (Told m ∷ moments) are cuts = held_up_to o n a (record { waiting = above m h.waiting; open_one = h.open_one }) moments (up_to_above n m h.waiting are) cuts

-- THE SNAPSHOT OF A CUT

-- what a snapshot of a record holds back is what the ledger held back at the cut of it
record IsSealed (o inputs n : ℕ) (moments : List Moment) (w : List Transaction) : Type 0 where
  pub before : List Moment
  pub action : Action
  pub later : List Moment
  pub moments_are : moments ≡ (before ++ Acts action ∷ []) ++ later
  pub cuts : cut_by (replay (opened inputs) (acts before)) action ≡ Some n
  pub waits : w ≡ (after_entries nothing (entries o (opened inputs) (before ++ Acts action ∷ []))).waiting

sealed_later : (o inputs n : ℕ) (moments more now : List Moment) (w : List Transaction) → now ≡ moments ++ more → IsSealed o inputs n moments w → IsSealed o inputs n now w
sealed_later o inputs n moments more now w is was = grind (arith, common_steps)

-- each snapshot of this record is of its cut
abbrev Seals : ℕ → ℕ → ℕ → List Moment → List Saved → Type 0
Seals o inputs n moments saved = (w : List Transaction) → waiting_of (under n saved) ≡ Some w → IsSealed o inputs n moments w

seals_stay : (o inputs n : ℕ) (moments more now : List Moment) (before after : List Saved) → now ≡ moments ++ more → after ≡ before → Seals o inputs n moments before → Seals o inputs n now after
seals_stay o inputs n moments more now before after is same was w has = sealed_later o inputs n moments more now w is (was w (sym (ap (λ (l : List Saved). waiting_of (under n l)) same) ∙ has))

-- one more, that of this cut
seals_more : (o inputs n m : ℕ) (moments more now : List Moment) (one : Saved) (before after : List Saved) → now ≡ moments ++ more → one.id ≡ m → after ≡ one ∷ before
    → (m ≡ n → IsSealed o inputs n now one.waiting) → Seals o inputs n moments before → Seals o inputs n now after
seals_more o inputs n m moments more now one before after is id grows sealed was w has = grind (arith, common_steps, cond_both, eqb, eqb-true, same_Some {A = List Transaction}, sealed_later)

seals_by : (o inputs n s : ℕ) (cut given : Option ℕ) (waiting : List Transaction) (k l : Kept) (moments more now : List Moment) → now ≡ moments ++ more → IsKeptBy cut given s waiting k l
    → (cut ≡ Some n → IsSealed o inputs n now waiting) → Seals o inputs n moments k.saved → Seals o inputs n now l.saved
seals_by o inputs n s (Some m) given waiting k l moments more now is (inl kept) sealed was =
    seals_more o inputs n m moments more now (record { id = m; state = s; waiting = waiting }) k.saved l.saved is refl (ap (λ (z : Kept). z.saved) kept) (λ same. sealed (ap Some same)) was
seals_by o inputs n s (Some m) given waiting k l moments more now is (inr declined) sealed was = by_saved declined.saved
  where
    one : Saved
    one = record { id = m; state = s; waiting = waiting }

    by_saved : (l.saved ≡ k.saved) ⊎ (l.saved ≡ one ∷ k.saved) → Seals o inputs n now l.saved
    by_saved (inl same) = seals_stay o inputs n moments more now k.saved l.saved is same was
    by_saved (inr grows) = seals_more o inputs n m moments more now one k.saved l.saved is refl grows (λ same. sealed (ap Some same)) was
seals_by o inputs n s None (Some m) waiting k l moments more now is kept sealed was = seals_stay o inputs n moments more now k.saved l.saved is (ap (λ (z : Kept). z.saved) kept) was
seals_by o inputs n s None None waiting k l moments more now is kept sealed was = seals_stay o inputs n moments more now k.saved l.saved is (ap (λ (z : Kept). z.saved) kept) was

-- a turn that is a cut is one action
abbrev IsOneAction : Program → At → Turn → ℕ → Type 0
IsOneAction p m turn n = (x : Action) × (acts_in p m.state m.alignment turn ≡ x ∷ []) × (cut_by m.alignment x ≡ Some n)

one_action : (p : Program) (m : At) (turn : Turn) (n : ℕ) → cut_of m.alignment turn ≡ Some n → IsOneAction p m turn n
one_action p m (Offered i item) n e =
    (Reads i item, ap (λ k. told (Offered i item) ++ sendings (emitted_by p m.state k)) (cut_moves_none m.alignment (Offered i item) n e), e)
one_action p m (GivenUp id) n e = (GivesUp id, refl, e)
one_action p m Drawn n e = grind (arith, common_steps)
one_action p m Ended n e = grind (arith, common_steps)

seals_turns : (p : Program) (s o inputs n : ℕ) (x : Sinking) (records : List ℕ) (told : IsTold p s o inputs x records) (turns : List Turn) (k l : Kept) → AreKept p x.at.task (sink_waits p x.at) turns k l
    → Seals o inputs n told.moments k.saved → Seals o inputs n (told.moments ++ map Acts (actions p x.at.task.state x.at.task.alignment turns)) l.saved
seals_turns p s o inputs n x records told [] k l same was =
    seals_stay o inputs n told.moments [] (told.moments ++ []) k.saved l.saved refl (sym (ap (λ (z : Kept). z.saved) same)) was
seals_turns p s o inputs n x records told (turn ∷ turns) k l kept was =
    let m : At = x.at.task in
    let at : At = after_turns p m turns in
    let xs : List Action = actions p m.state m.alignment turns in
    let ys : List Action = acts_in p at.state at.alignment turn in
    let before : List Moment = told.moments ++ map Acts xs in
    let all : told.moments ++ map Acts (xs ++ ys) ≡ before ++ map Acts ys =
    ap (λ (l : List Moment). told.moments ++ l) (map-append Acts xs ys) ∙ sym (append_assoc told.moments (map Acts xs) (map Acts ys)) in
    let reached : replay (opened inputs) (acts before) ≡ at.alignment = told_reaches p s o inputs x records told turns in
    let waiting : List Transaction = (held_after p x.at (turn ∷ turns)).waiting in
    let sealed : cut_of at.alignment turn ≡ Some n → IsSealed o inputs n (told.moments ++ map Acts (xs ++ ys)) waiting = λ e.
    let one = one_action p at turn n e in
    let is : told.moments ++ map Acts (xs ++ ys) ≡ before ++ Acts one.0 ∷ [] = all ∙ ap (λ (zs : List Action). before ++ map Acts zs) one.1 in
    record {
      before = before;
      action = one.0;
      later = [];
      moments_are = is ∙ sym (append-nil (before ++ Acts one.0 ∷ []));
      cuts = ap (λ (b : Alignment). cut_by b one.0) reached ∙ one.2;
      waits = ap (λ (h : Held). h.waiting) (held_at p s o inputs x records told (turn ∷ turns) ∙ ap (λ (ms : List Moment). after_entries nothing (entries o (opened inputs) ms)) is);
    } in
    seals_by o inputs n at.state (cut_of at.alignment turn) (abandoned_as (answer_in at.alignment turn)) waiting kept.0 l before (map Acts ys) (told.moments ++ map Acts (xs ++ ys)) all kept.2 sealed
    (seals_turns p s o inputs n x records told turns k kept.0 kept.1 was)

-- A SINK

record IsSunk (p : Program) (s o inputs n : ℕ) (x : Sinking) (records : List ℕ) : Type 0 where
  pub told : IsTold p s o inputs x records
  pub seals : Seals o inputs n told.moments x.saved

no_snapshot : (o inputs n : ℕ) (moments : List Moment) (saved : List Saved) → under n saved ≡ None → Seals o inputs n moments saved
no_snapshot o inputs n moments saved none w has = absurd (none-some w (sym (ap waiting_of none) ∙ has))

sunk_steps : (p : Program) (s o inputs n : ℕ) (steps : List Step) (x y : Sinking) → IsSunk p s o inputs n x [] → AreSteps p steps x y → IsSunk p s o inputs n y (sinks.told_of steps)
unfolding told_run told_word
sunk_steps p s o inputs n [] x y was same = subst (λ (z : Sinking). IsSunk p s o inputs n z []) (sym same) was
sunk_steps p s o inputs n (Ran begin ∷ steps) x y was are =
    let before = sunk_steps p s o inputs n steps x begin was are.0 in
    let run : SinkRuns p begin y = are.1 in
    record {
      told = told_run p s o inputs begin y (sinks.told_of steps) before.told run;
      seals = seals_turns p s o inputs n begin (sinks.told_of steps) before.told run.sunk.run.turns (kept_in (around_sink begin)) (kept_in (around_sink y)) run.sunk.run.kept before.seals;
    }
sunk_steps p s o inputs n (WasTold id begin ∷ steps) x y was are =
    let before = sunk_steps p s o inputs n steps x begin was are.0 in
    let word : IsToldOf id begin y = are.1 in
    let moments : List Moment = before.told.moments in
    record {
      told = told_word p s o inputs id begin y (sinks.told_of steps) before.told word;
      seals = seals_stay o inputs n moments (Told id ∷ []) (with_word id moments) begin.saved y.saved refl (ap (λ (k : Around). k.saved) word.same) before.seals;
    }

-- the cut, and what was cut by then

cuts_more : (n : ℕ) (a : Alignment) (before : List Moment) (x : Action) → CutsUpTo n a before → cut_by (replay a (acts before)) x ≡ Some n → CutsUpTo n a (before ++ Acts x ∷ [])
cuts_more n a [] x cuts e = ((λ m f. at_most m f), tt)
  where
    at_most : (m : ℕ) → cut_by a x ≡ Some m → m ≤ n
    at_most m f = let same : Some m ≡ Some n = sym f ∙ e in grind (arith, common_steps)
cuts_more n a (Acts y ∷ before) x cuts e = (cuts.0, cuts_more n (after a y) before x cuts.1 e)
cuts_more n a (Told m ∷ before) x cuts e = cuts_more n a before x cuts e

goes_on : (xs ys : List Action) → has_ended (xs ++ ys) ≡ false → has_ended xs ≡ false
goes_on [] ys e = refl
goes_on (Ends ∷ xs) ys e = e
goes_on (Reads i item ∷ xs) ys e = goes_on xs ys e
goes_on (GivesUp id ∷ xs) ys e = goes_on xs ys e
goes_on (Sends o x ∷ xs) ys e = goes_on xs ys e

cuts_now : (n : ℕ) (b : Alignment) (x : Action) → cut_by b x ≡ Some n → has_cut n b (x ∷ []) ≡ true
cuts_now n b (Reads i item) e = is_cut_by n (cut_by b (Reads i item)) false e
cuts_now n b (GivesUp id) e = is_cut_by n (cut_by b (GivesUp id)) false e
cuts_now n b (Sends o x) e = grind (arith, common_steps)
cuts_now n b Ends e = grind (arith, common_steps)

has_cut_by_then : (n : ℕ) (a : Alignment) (before : List Moment) (x : Action) → has_ended (acts before) ≡ false → cut_by (replay a (acts before)) x ≡ Some n → has_cut n a (acts (before ++ Acts x ∷ [])) ≡ true
has_cut_by_then n a before x goes e = ap (has_cut n a) (acts-append before (Acts x ∷ [])) ∙ cut_later n a (acts before) (x ∷ []) goes (cuts_now n (replay a (acts before)) x e)

pub sink_gives_once : (job : Job) (from : States) (e : Loops) (sink : Sink) (n : ℕ) (given : List Transaction) → SinkGivesOnce job from e sink n given
unfolding told_first
sink_gives_once job from e sink n given is are has over unsaved saved below =
    let p : Program = job.program sink.task in
    let inputs : ℕ = job.inputs sink.task in
    let a : Alignment = opened inputs in
    let s : ℕ = from sink.task in
    let o : ℕ = sink.output in
    let h : History = history_of e in
    let records : List ℕ = sinks.told_of over.steps in
    let sunk = sunk_steps p s o inputs n over.steps over.first over.last
    (record { told = told_first p s o inputs over.first over.task over.held over.output over.unused over.unpublished; seals = no_snapshot o inputs n [] over.first.saved unsaved }) over.are_steps in
    let told = sunk.told in
    let all : List Moment = told.moments in
    let cut = sunk.seals given saved in
    let early : List Moment = cut.before ++ Acts cut.action ∷ [] in
    let later : List Moment = cut.later in
    let es : List Entry = entries o a early in
    let held : Held = after_entries nothing es in
    let turns : of sink.task h ≡ came_in over.last.deeds = (loops_make_history job from e is are).turns sink.task has ∙ ap (λ (l : Looped). turns_of l) over.is_loop in
    let acted : acts all ≡ ((network job from h).task sink.task).actions = told.acts_are ∙ ap (actions p s a) (sym turns) in
    let on : has_ended (acts all) ≡ false = ap has_ended told.acts_are ∙ not_ended_in p s a (came_in over.last.deeds) (comes_on over.last.deeds) in
    let parts : acts all ≡ acts cut.before ++ (cut.action ∷ acts later) =
    ap acts cut.moments_are
    ∙ acts-append early later
    ∙ ap (λ (l : List Action). l ++ acts later) (acts-append cut.before (Acts cut.action ∷ []))
    ∙ append_assoc (acts cut.before) (cut.action ∷ []) (acts later) in
    let goes : has_ended (acts cut.before) ≡ false = goes_on (acts cut.before) (cut.action ∷ acts later) (ap has_ended (sym parts) ∙ on) in
    let early_cut : has_cut n a (acts early) ≡ true = has_cut_by_then n a cut.before cut.action goes cut.cuts in
    let all_cut : has_cut n a (acts all) ≡ true =
    ap (has_cut n a) (ap acts cut.moments_are ∙ acts-append early later) ∙ cut_stays n a (acts early) (acts later) early_cut in
    let cut_there : has_cut n a ((network job from h).task sink.task).actions ≡ true = ap (has_cut n a) (sym acted) ∙ all_cut in
    let moments : AreMomentsOf job from h sink (early ++ later) = subst (λ (ms : List Moment). AreMomentsOf job from h sink ms) cut.moments_are (acted, told.have) in
    let completes : completed (early ++ later) ≡ records = ap completed (sym cut.moments_are) ∙ told.completed_are in
    let up : AreUpTo n held.waiting = held_up_to o n a nothing early tt (cuts_more n a cut.before cut.action (cuts_up_to inputs [] cut.before cut.action n cut.cuts) cut.cuts) in
    let once : all_published nothing es ++ contents given ≡ published_in job from h sink (records ++ n ∷ []) =
    ap (λ (l : List Transaction). all_published nothing es ++ contents l) (cut.waits ∙ sym (up_to_all n held.waiting up))
    ∙ published_then job from h sink n early later moments early_cut cut_there (λ m told_m. below m (subst (λ (ms : List ℕ). IsIn m ms) completes told_m))
    ∙ ap (λ (ms : List ℕ). published_in job from h sink (ms ++ n ∷ [])) completes in
    let none : all ++ [] ≡ all = append-nil all in
    let whole : AreMomentsOf job from h sink (all ++ []) = subst (λ (ms : List Moment). AreMomentsOf job from h sink ms) (sym none) (acted, told.have) in
    let whole_completes : completed (all ++ []) ≡ records = ap completed none ∙ told.completed_are in
    let left : List ℕ = contents (up_to n (after_entries nothing (entries o a all)).waiting) in
    let ends : all_published nothing (entries o a all) ++ left ≡ published_in job from h sink (records ++ n ∷ []) =
    published_then job from h sink n all [] whole all_cut cut_there (λ m told_m. below m (subst (λ (ms : List ℕ). IsIn m ms) whole_completes told_m))
    ∙ ap (λ (ms : List ℕ). published_in job from h sink (ms ++ n ∷ [])) whole_completes in
    record {
      by_cut = all_published nothing es;
      since = all_published held (entries o (replay a (acts early)) later);
      all = told.published
          ∙ ap (λ (ms : List Moment). all_published nothing (entries o a ms)) cut.moments_are
          ∙ ap (all_published nothing) (entries-append o a early later)
          ∙ published-append nothing es (entries o (replay a (acts early)) later);
      once = once;
      comes_again = (left, once ∙ sym ends ∙ ap (λ (l : List ℕ). l ++ left) (sym told.published));
    }

pub sink_gives_over_restarts : (job : Job) (sink : Sink) (ks : List SinkAttempt) → SinkGivesOverRestarts job sink ks
sink_gives_over_restarts job sink [] is has last have = refl
sink_gives_over_restarts job sink (k ∷ ks) is has last have =
    let from : States = from_of job ks in
    let n : ℕ = k.one.record_id in
    let h : History = history_of k.one.loops in
    let one : HasGiven job from sink k = have.1 in
    let before : List ℕ = published_before job sink (attempts_of (loops_of ks)) in
    let gives = sink_gives_once job from k.one.loops sink n k.given is one.looping has one.over one.unsaved one.given (λ m told_m. last.1 m (subst (λ (ms : List ℕ). IsIn m ms) one.told told_m)) in (
      before,
      gives.by_cut,
      gives.since,
      sink_gives_over_restarts job sink ks is has last.0 have.0,
      gives.all,
      ap (λ (l : List ℕ). before ++ l) (sym (gives.once ∙ ap (λ (ms : List ℕ). published_in job from h sink (ms ++ n ∷ [])) one.told)),
    )
