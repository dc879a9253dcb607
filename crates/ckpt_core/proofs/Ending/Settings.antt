-- The parts after another configuration was given.
use Rattle.ckpt_core.proofs.Names.{◌≡◌, ℕ, ◌+◌, max, length, sym, ap, subst, ◌∙◌, refl, FailureCount, Moments, gap, Stored, Parts, Answers, Drops, IsAccepted, Configuration, Done, State, drop, released_by, dropped_by}
use Rattle.ckpt_core.proofs.Names.{Stepped, effect, configure, with_config, state_of, step_accepted}
use Rattle.std.specs.Prelude.{min, None}
use Rattle.ckpt_ids.specs.declared.call.Call.TheVariants as call
use Rattle.ckpt_ids.specs.declared.reply.Reply.TheVariants as reply
use Rattle.ckpt_core.specs.Inside.Settings.{past}
use Rattle.ckpt_core.proofs.Ending.Moves.{answered}

-- the parts with it
abbrev pub configured : Parts → ℕ → Configuration → ℕ → Parts
configured q now c spare = record q {
  opened = record q.opened { config = c };
  clock = record { latest = max now q.clock.latest; due = min q.clock.due (max now q.clock.latest + gap c); completed = q.clock.completed };
  failures = record { tolerable = c.tolerable; number = min q.failures.number c.tolerable };
  store = record q.store { retained = c.retained; spare = spare };
}

pub configured_answers : (p q : Parts) (now k n spare : ℕ) (c : Configuration) → IsAccepted p (call.Configure now c) → Drops p q (past c.retained (state_of p)) n
    → k ≡ dropped_by (state_of p) (past c.retained (state_of p)) → Answers p (configured q now c spare) (call.Configure now c) (reply.Configured k n)
unfolding state_of effect drop configure with_config
configured_answers p q now k n spare c accepted d count =
    let m : State = state_of p in
    let F : State → State = λ (s : State). record s { opening = record s.opening { config = c }; latest = max now s.latest; due = min s.due (max now s.latest + gap c); failures = min s.failures c.tolerable } in
    let after : State = F (drop m (past c.retained m) None) in
    let out : ℕ = length (released_by m (past c.retained m) None) in
    record {
      step_is = step_accepted m (call.Configure now c) accepted
          ∙ ap (λ (k : ℕ). (let x : Stepped = (after, Done (reply.Configured k out)) in x)) (sym count)
          ∙ answered (reply.Configured k) after (state_of (configured q now c spare)) out n (ap F d.state_is) d.count_is;
      tied = record { uses_are = d.tied.uses_are; retained = refl; tolerable = refl; spare = d.tied.spare; room = d.tied.room };
      none_ended = d.none_ended;
    }

-- the same, from what the calls left
pub configured_parts : (p q : Parts) (now k n spare moment r t : ℕ) (c : Configuration) (seen clock : Moments) (failures : FailureCount) (store : Stored) → IsAccepted p (call.Configure now c)
    → Drops p q (past r (state_of p)) n → k ≡ dropped_by (state_of p) (past r (state_of p)) → r ≡ c.retained → t ≡ c.tolerable → moment ≡ max now q.clock.latest
    → seen ≡ record q.clock { latest = max now q.clock.latest } → clock ≡ record seen { due = min seen.due (moment + gap c) } → failures ≡ record { tolerable = t; number = min q.failures.number t }
    → store ≡ record q.store { retained = r; spare = spare }
    → Answers p (record q { opened = record q.opened { config = c }; clock = clock; failures = failures; store = store }) (call.Configure now c) (reply.Configured k n)
configured_parts p q now k n spare moment r t c seen clock failures store accepted d count retained tolerable at sees due tolerates retains =
    let Dropped : ℕ → Type 0 = λ (r : ℕ). Drops p q (past r (state_of p)) n in
    let Counted : ℕ → Type 0 = λ (r : ℕ). k ≡ dropped_by (state_of p) (past r (state_of p)) in
    rw (due, tolerates, retains, sees, at, retained, tolerable) (configured_answers p q now k n spare c accepted (subst Dropped retained d) (subst Counted retained count))
