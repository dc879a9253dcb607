-- A run of a sink is that of its task, with its ledger.
use Rattle.ckpt_task.proofs.Names.{common_steps, arith, ◌≡◌, ℕ, ◌+◌, List, ◌∷◌, ◌∙◌, refl, sym, ap, Held, Program, Turn, Transaction, Around, HasStopped, HasSunk, HasSunkOnce, IsStopped}
use Rattle.ckpt_task.proofs.Names.{after_turns, held_after, sink_waits, SinkAt, after_turn, At}
use Rattle.ckpt_task.proofs.{Doing.not_run_as, Doing.run_as, Stopping.stopped_as}

same_ledger : (p : Program) (m l : SinkAt) (turns : List Turn) (turn : Turn) → l.task ≡ after_turns p m.task turns → l.held ≡ held_after p m turns → l.output ≡ m.output → after_turn p l turn ≡ held_after p m (turn ∷ turns)
same_ledger p m l turns turn task held output = grind (arith, common_steps)

pub has_not_sunk : (p : Program) (m : SinkAt) (x : Around) → HasSunk p 0 m m x x
has_not_sunk p m x =
    let k = not_run_as p (sink_waits p m) x in
    record { run = k.0; held = ap (held_after p m) (sym k.1); output = refl }

pub sinks_more : (p : Program) (n : ℕ) (m l k : SinkAt) (x y z : Around) → x.task ≡ m.task → y.task ≡ l.task → HasSunk p n m l x y → HasSunkOnce p l k y z → HasSunk p (n + 1) m k x z
sinks_more p n m l k x y z start at sunk one =
    let turns : List Turn = sunk.run.turns in
    let turn : Turn = one.one.turn in
    let task : l.task ≡ after_turns p m.task turns = sym at ∙ sunk.run.task ∙ ap (λ (t : At). after_turns p t turns) start in
    let same : after_turn p l turn ≡ held_after p m (turn ∷ turns) = same_ledger p m l turns turn task sunk.held sunk.output in
    let k = run_as p (sink_waits p m) (λ t. (after_turn p l t).waiting) n x y z sunk.run one.one (ap (λ (h : Held). h.waiting) same) in
    record {
      run = k.0;
      held = one.held ∙ same ∙ ap (held_after p m) (sym k.1);
      output = one.output ∙ sunk.output;
    }

-- a run that a fault stopped
pub sink_stops : (p : Program) (n : ℕ) (m l : SinkAt) (x y z : Around) → x.task ≡ m.task → y.task ≡ l.task → HasSunk p n m l x y → IsStopped p (λ turn. (after_turn p l turn).waiting) y z
    → HasStopped p (sink_waits p m) x z
sink_stops p n m l x y z start at sunk stopped =
    let turns : List Turn = sunk.run.turns in
    let task : l.task ≡ after_turns p m.task turns = sym at ∙ sunk.run.task ∙ ap (λ (t : At). after_turns p t turns) start in
    let first : Turn → List Transaction = λ turn. (after_turn p l turn).waiting in
    let second : Turn → List Transaction = λ turn. sink_waits p m (turn ∷ turns) in
    record {
      count = n;
      whole = y;
      run = sunk.run;
      stopped = stopped_as p first second y z (λ turn. ap (λ (h : Held). h.waiting) (same_ledger p m l turns turn task sunk.held sunk.output)) stopped;
    }
