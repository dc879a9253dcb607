-- Answers the goals of `Parts::tick`.
use Rattle.ckpt_core.proofs.{Answers, IfOk-weaker, on_err_weaker, Tick, Ticked, accepted_tick, moment_is_sound, clock_back, seen_state, tick_answers, tick_wants_memory, tied_clock, Names.state_of}
use Rattle.ckpt_core.proofs.parts.Parts.tick.Goals as goal

pub see-requires : goal.see-requires
see-requires c = (accepted_tick (state_of c.args.self.now) c.args.now c.requires.accepted).moment

pub expire-ticked-requires-clause-sound : goal.expire-ticked-requires-clause-sound
unfolding state_of
expire-ticked-requires-clause-sound c =
    record {
      tied = tied_clock c.args.self.now c.see.new.self c.requires.sound.tied;
      sound = rw (seen_state c.args.self.now c.args.now c.see.new.self c.see.ensures) (moment_is_sound (state_of c.args.self.now) c.args.now c.requires.sound.sound
          (accepted_tick (state_of c.args.self.now) c.args.now c.requires.accepted).moment);
      none_ended = c.requires.sound.none_ended;
    }

pub expire-ticked-requires-clause-next : goal.expire-ticked-requires-clause-next
unfolding state_of
expire-ticked-requires-clause-next c = (accepted_tick (state_of c.args.self.now) c.args.now c.requires.accepted).room

pub returns-else-is_err-clause-ok : goal.returns-else-is_err-clause-ok
returns-else-is_err-clause-ok c =
    let after = c.expire-ticked.ensures in
    IfOk-weaker c.expire-ticked.result _ (λ ticked. Answers c.args.self.now c.expire-ticked.new.self (Tick c.args.now) (Ticked ticked.expired ticked.end)) (λ ticked ok. tick_answers c.args.self.now
    c.expire-ticked.new.self c.args.now c.see.new.self (Ticked ticked.expired ticked.end) c.requires.accepted c.see.ensures ok after.tied after.none_ended) after.ok

pub returns-then-is_err-clause-err : goal.returns-then-is_err-clause-err
returns-then-is_err-clause-err c =
    on_err_weaker c.expire-ticked.result (λ same. record {
      state_is = clock_back c.args.self.now c.expire-ticked.new.self c.args.now c.see.new.self c.see.ensures same;
      tied = tied_clock c.expire-ticked.new.self c.args.self.now.clock c.expire-ticked.ensures.tied;
      none_ended = c.expire-ticked.ensures.none_ended;
    }) c.expire-ticked.ensures.err

pub returns-then-is_err-clause-memory : goal.returns-then-is_err-clause-memory
returns-then-is_err-clause-memory c =
    on_err_weaker c.expire-ticked.result (tick_wants_memory c.args.self.now c.args.now c.see.new.self c.requires.accepted c.see.ensures) c.expire-ticked.ensures.memory

pub expire-ticked-requires-clause-running : goal.expire-ticked-requires-clause-running
unfolding state_of
expire-ticked-requires-clause-running c = (accepted_tick (state_of c.args.self.now) c.args.now c.requires.accepted).running
