-- What a sink in a loop publishes is what its ledger was told to.
use Rattle.ckpt_task.proofs.Names.{common_steps, arith, ◌≡◌, ℕ, true, List, ◌∷◌, ◌++◌, ◌∙◌, map, refl, sym, ap, subst, Option, Some, None, [], append-nil, append_assoc, map-append}
use Rattle.ckpt_task.proofs.Names.{Alignment, opened, Action, after, cut_by, elements, has_cut, replay, sent_by, Acts, Completes, Entry, HaveBeenCut, Held, Moment, Told, Writes}
use Rattle.ckpt_task.proofs.Names.{after_entries, after_entry, all_published, completed, entries, nothing, told_of, publishes_as_sink, acts-append, been_cut, completed-append, entries_with}
use Rattle.ckpt_task.proofs.Names.{published-append, with_word, Job, States, of, Program, Turn, actions, Sink, contents, published_in, up_to, replay-append, aligned_is, came_in, Looped}
use Rattle.ckpt_task.proofs.Names.{Loops, history_of, turns_of, Around, after_turns, held_after, sink_waits, AreSteps, IsToldOf, Ran, SinkPublishes, SinkRuns, Sinking, Step, WasTold}
use Rattle.ckpt_task.proofs.Names.{around_sink, SinkAt, At}
use Rattle.ckpt_task.proofs.{LoopLaws.loops_make_history, Looping.Follows, Looping.actions_more, Looping.follows_first, Looping.follows_run, Working.at_of}
use Rattle.ckpt_ledger.specs.Ledgers.{acts}
use Rattle.ckpt_task.specs.SinkLoops as sinks

-- entries one behind the other

pub held-append : (h : Held) (es fs : List Entry) → after_entries h (es ++ fs) ≡ after_entries (after_entries h es) fs
held-append h [] fs = refl
held-append h (e ∷ es) fs = held-append (after_entry h e) es fs

pub entries-append : (o : ℕ) (a : Alignment) (first second : List Moment) → entries o a (first ++ second) ≡ entries o a first ++ entries o (replay a (acts first)) second
entries-append o a [] second = refl
entries-append o a (Acts action ∷ first) second =
    let now : List Entry = told_of (cut_by a action) (elements (sent_by o a action)) in
    ap (λ (l : List Entry). now ++ l) (entries-append o (after a action) first second) ∙ sym (append_assoc now (entries o (after a action) first) (entries o (replay (after a action) (acts first)) second))
entries-append o a (Told n ∷ first) second = ap (λ (l : List Entry). Completes n ∷ l) (entries-append o a first second)

-- actions alone

pub acts_all : (xs : List Action) → acts (map Acts xs) ≡ xs
acts_all [] = refl
acts_all (x ∷ xs) = ap (λ (l : List Action). x ∷ l) (acts_all xs)

pub completes_none : (xs : List Action) → completed (map Acts xs) ≡ []
completes_none [] = refl
completes_none (x ∷ xs) = completes_none xs

pub been_more : (inputs : ℕ) (done : List Action) (moments : List Moment) (xs : List Action) → HaveBeenCut inputs done moments → HaveBeenCut inputs done (moments ++ map Acts xs)
been_more inputs done [] [] have = tt
been_more inputs done [] (x ∷ xs) have = been_more inputs (done ++ x ∷ []) [] xs tt
been_more inputs done (Acts y ∷ moments) xs have = been_more inputs (done ++ y ∷ []) moments xs have
been_more inputs done (Told n ∷ moments) xs have = (have.0, been_more inputs done moments xs have.1)

writes_none : (h : Held) (xs : List ℕ) → all_published h (map Writes xs) ≡ []
writes_none h [] = refl
writes_none h (x ∷ xs) = writes_none (after_entry h (Writes x)) xs

told_none : (h : Held) (k : Option ℕ) (xs : List ℕ) → all_published h (told_of k xs) ≡ []
told_none h None xs = writes_none h xs
told_none h (Some id) xs = refl

-- actions publish nothing
pub acts_publish : (o : ℕ) (a : Alignment) (h : Held) (xs : List Action) → all_published h (entries o a (map Acts xs)) ≡ []
acts_publish o a h [] = refl
acts_publish o a h (x ∷ xs) =
    let now : List Entry = told_of (cut_by a x) (elements (sent_by o a x)) in
    published-append h now (entries o (after a x) (map Acts xs))
    ∙ ap (λ (l : List ℕ). l ++ all_published (after_entries h now) (entries o (after a x) (map Acts xs))) (told_none h (cut_by a x) (elements (sent_by o a x)))
    ∙ acts_publish o (after a x) (after_entries h now) xs

-- the ledger after turns

held_is : (p : Program) (m : SinkAt) (turns : List Turn)
    → held_after p m turns ≡ after_entries m.held (entries m.output m.task.alignment (map Acts (actions p m.task.state m.task.alignment turns)))
held_is p m [] = grind (arith, common_steps)
held_is p m (turn ∷ turns) = grind (arith, common_steps, acts_all, aligned_is, entries-append, held-append, map, map-append, held_is p m turns)

-- A SINK

-- what its ledger was told
pub record IsTold (p : Program) (s o inputs : ℕ) (x : Sinking) (records : List ℕ) : Type 0 where
  pub moments : List Moment
  pub acts_are : acts moments ≡ actions p s (opened inputs) (came_in x.deeds)
  pub completed_are : completed moments ≡ records
  pub have : HaveBeenCut inputs [] moments
  pub held : x.at.held ≡ after_entries nothing (entries o (opened inputs) moments)
  pub output : x.at.output ≡ o
  pub published : x.published ≡ all_published nothing (entries o (opened inputs) moments)
  pub follows : Follows p s (opened inputs) (around_sink x)

unfoldable pub told_first : (p : Program) (s o inputs : ℕ) (x : Sinking) → x.at.task ≡ at_of p s (opened inputs) [] → x.at.held ≡ nothing → x.at.output ≡ o → x.deeds ≡ [] → x.published ≡ [] → IsTold p s o inputs x []
told_first p s o inputs x task held output unused published = record {
  moments = [];
  acts_are = ap (λ ds. actions p s (opened inputs) (came_in ds)) (sym unused);
  completed_are = refl;
  have = tt;
  held = held;
  output = output;
  published = published;
  follows = follows_first p s (opened inputs) (around_sink x) task unused;
}

-- where its aligner is, and what turns enter

reached : (p : Program) (s o inputs : ℕ) (x : Sinking) (records : List ℕ) (told : IsTold p s o inputs x records) → replay (opened inputs) (acts told.moments) ≡ x.at.task.alignment
reached p s o inputs x records told = grind (arith, common_steps, aligned_is)

-- the actions of turns from here on
abbrev pub then_acts : Program → Sinking → List Turn → List Action
then_acts p x turns = actions p x.at.task.state x.at.task.alignment turns

pub told_reaches : (p : Program) (s o inputs : ℕ) (x : Sinking) (records : List ℕ) (told : IsTold p s o inputs x records) (turns : List Turn)
    → replay (opened inputs) (acts (told.moments ++ map Acts (then_acts p x turns))) ≡ (after_turns p x.at.task turns).alignment
told_reaches p s o inputs x records told turns = grind (arith, common_steps, acts-append, acts_all, aligned_is, map, reached, replay-append)

pub entered : (p : Program) (s o inputs : ℕ) (x : Sinking) (records : List ℕ) (told : IsTold p s o inputs x records) (turns : List Turn)
    → entries o (opened inputs) (told.moments ++ map Acts (then_acts p x turns)) ≡ entries o (opened inputs) told.moments ++ entries o x.at.task.alignment (map Acts (then_acts p x turns))
entered p s o inputs x records told turns =
    let a : Alignment = opened inputs in
    let zs : List Action = then_acts p x turns in
    entries-append o a told.moments (map Acts zs) ∙ ap (λ (b : Alignment). entries o a told.moments ++ entries o b (map Acts zs)) (reached p s o inputs x records told)

pub held_at : (p : Program) (s o inputs : ℕ) (x : Sinking) (records : List ℕ) (told : IsTold p s o inputs x records) (turns : List Turn)
    → held_after p x.at turns ≡ after_entries nothing (entries o (opened inputs) (told.moments ++ map Acts (then_acts p x turns)))
held_at p s o inputs x records told turns =
    let b : Alignment = x.at.task.alignment in
    let zs : List Action = then_acts p x turns in
    let es : List Entry = entries o (opened inputs) told.moments in
    held_is p x.at turns
    ∙ ap (λ (k : ℕ). after_entries x.at.held (entries k b (map Acts zs))) told.output
    ∙ ap (λ (h : Held). after_entries h (entries o b (map Acts zs))) told.held
    ∙ sym (held-append nothing es (entries o b (map Acts zs)))
    ∙ ap (after_entries nothing) (sym (entered p s o inputs x records told turns))

unfoldable pub told_run : (p : Program) (s o inputs : ℕ) (x y : Sinking) (records : List ℕ) → IsTold p s o inputs x records → SinkRuns p x y → IsTold p s o inputs y records
told_run p s o inputs x y records was run =
    let a : Alignment = opened inputs in
    let turns : List Turn = run.sunk.run.turns in
    let us : List Turn = came_in x.deeds in
    let zs : List Action = then_acts p x turns in
    let first : List Moment = was.moments in
    let es : List Entry = entries o a first in
    let b : Alignment = x.at.task.alignment in
    record {
      moments = first ++ map Acts zs;
      acts_are =
          acts-append first (map Acts zs)
          ∙ ap (λ (l : List Action). acts first ++ l) (acts_all zs)
          ∙ ap (λ (l : List Action). l ++ zs) was.acts_are
          ∙ ap (λ (k : At). actions p s a us ++ actions p k.state k.alignment turns) was.follows.task
          ∙ sym (actions_more p s a turns us)
          ∙ ap (actions p s a) (sym run.sunk.run.came);
      completed_are = completed-append first (map Acts zs) ∙ ap (λ (l : List ℕ). completed first ++ l) (completes_none zs) ∙ append-nil (completed first) ∙ was.completed_are;
      have = been_more inputs [] first zs was.have;
      held = run.sunk.held ∙ held_at p s o inputs x records was turns;
      output = run.sunk.output ∙ was.output;
      published =
          run.published
          ∙ was.published
          ∙ sym (append-nil (all_published nothing es))
          ∙ ap (λ (l : List ℕ). all_published nothing es ++ l) (sym (acts_publish o b (after_entries nothing es) zs))
          ∙ sym (published-append nothing es (entries o b (map Acts zs)))
          ∙ ap (all_published nothing) (sym (entered p s o inputs x records was turns));
      follows = follows_run p s a (sink_waits p x.at) run.count (around_sink x) (around_sink y) was.follows run.sunk.run;
    }

unfoldable pub told_word : (p : Program) (s o inputs id : ℕ) (x y : Sinking) (records : List ℕ) → IsTold p s o inputs x records → IsToldOf id x y → IsTold p s o inputs y (records ++ id ∷ [])
told_word p s o inputs id x y records was told =
    let a : Alignment = opened inputs in
    let first : List Moment = was.moments in
    let es : List Entry = entries o a first in
    let word : List Entry = Completes id ∷ [] in
    let all : entries o a (with_word id first) ≡ es ++ word = entries_with o id a first in
    let cut : has_cut id a (acts first) ≡ true = ap (has_cut id a) was.acts_are ∙ was.follows.tells id told.acknowledged in
    let held : y.at.held ≡ after_entry x.at.held (Completes id) = ap (λ (m : SinkAt). m.held) told.at in
    let now : List ℕ = contents (up_to id x.at.held.waiting) in
    record {
      moments = with_word id first;
      acts_are = acts-append first (Told id ∷ []) ∙ append-nil (acts first) ∙ was.acts_are ∙ ap (λ (k : Around). actions p s a (came_in k.deeds)) (sym told.same);
      completed_are = completed-append first (Told id ∷ []) ∙ ap (λ (l : List ℕ). l ++ id ∷ []) was.completed_are;
      have = been_cut inputs id [] first was.have cut;
      held = held ∙ ap (λ (h : Held). after_entry h (Completes id)) was.held ∙ sym (held-append nothing es word) ∙ ap (after_entries nothing) (sym all);
      output = ap (λ (m : SinkAt). m.output) told.at ∙ was.output;
      published =
          told.published
          ∙ ap (λ (l : List ℕ). l ++ now) was.published
          ∙ ap (λ (h : Held). all_published nothing es ++ contents (up_to id h.waiting)) was.held
          ∙ ap (λ (l : List ℕ). all_published nothing es ++ l) (sym (append-nil (contents (up_to id (after_entries nothing es).waiting))))
          ∙ sym (published-append nothing es word)
          ∙ ap (all_published nothing) (sym all);
      follows = subst (λ (k : Around). Follows p s a k) (sym told.same) was.follows;
    }

told_steps : (p : Program) (s o inputs : ℕ) (steps : List Step) (x y : Sinking) → IsTold p s o inputs x [] → AreSteps p steps x y → IsTold p s o inputs y (sinks.told_of steps)
told_steps p s o inputs [] x y was same = subst (λ (z : Sinking). IsTold p s o inputs z []) (sym same) was
told_steps p s o inputs (Ran begin ∷ steps) x y was are = told_run p s o inputs begin y (sinks.told_of steps) (told_steps p s o inputs steps x begin was are.0) are.1
told_steps p s o inputs (WasTold id begin ∷ steps) x y was are = told_word p s o inputs id begin y (sinks.told_of steps) (told_steps p s o inputs steps x begin was are.0) are.1

pub sink_publishes : (job : Job) (from : States) (e : Loops) (sink : Sink) → SinkPublishes job from e sink
sink_publishes job from e sink is are has over =
    let p : Program = job.program sink.task in
    let inputs : ℕ = job.inputs sink.task in
    let s : ℕ = from sink.task in
    let first = told_first p s sink.output inputs over.first over.task over.held over.output over.unused over.unpublished in
    let told = told_steps p s sink.output inputs over.steps over.first over.last first over.are_steps in
    let turns : of sink.task (history_of e) ≡ came_in over.last.deeds =
    (loops_make_history job from e is are).turns sink.task has ∙ ap (λ (l : Looped). turns_of l) over.is_loop in
    told.published
    ∙ publishes_as_sink job from (history_of e) sink told.moments (told.acts_are ∙ ap (actions p s (opened inputs)) (sym turns), told.have)
    ∙ ap (published_in job from (history_of e) sink) told.completed_are
