-- Answers the goals of `Parts::trigger_now`.
use Rattle.ckpt_core.proofs.{◌∙◌, accepted_trigger, moment_is_sound, clock_back, trigger_answers, seen_state, tied_clock, Names.state_of}
use Rattle.ckpt_core.proofs.parts.Parts.trigger_now.Goals as goal

pub see-requires : goal.see-requires
see-requires c = (accepted_trigger (state_of c.args.self.now) c.args.now c.requires.accepted).0.moment

pub trigger-requires-clause-sound : goal.trigger-requires-clause-sound
unfolding state_of
trigger-requires-clause-sound c =
    let p = c.args.self.now in
    rw (seen_state p c.args.now c.see.new.self c.see.ensures) (moment_is_sound (state_of p) c.args.now c.requires.sound.sound (accepted_trigger (state_of p) c.args.now c.requires.accepted).0.moment)

pub trigger-requires-clause-next : goal.trigger-requires-clause-next
unfolding state_of
trigger-requires-clause-next c = (accepted_trigger (state_of c.args.self.now) c.args.now c.requires.accepted).0.room

pub returns-in-Ok-clause-ok : goal.returns-in-Ok-clause-ok
unfolding state_of
returns-in-Ok-clause-ok c =
    let a = trigger_answers c.args.self.now c.trigger.new.self c.args.now c.read-moment.result c.in-Ok.id c.see.new.self c.triggered.new.self c.requires.accepted c.see.ensures c.in-Ok.ensures.ok
    c.in-Ok.ensures.id c.read-moment.ensures.value c.triggered.ensures c.in-Ok.ensures.tied (c.in-Ok.ensures.noted ∙ c.requires.sound.none_ended) in
    record {
      step_is = a.step_is;
      tied = record { uses_are = a.tied.uses_are; retained = a.tied.retained; tolerable = a.tied.tolerable; spare = a.tied.spare; room = a.tied.room };
      none_ended = a.none_ended;
    }

pub returns-in-Err-clause-err : goal.returns-in-Err-clause-err
returns-in-Err-clause-err c =
    record {
      state_is = clock_back c.args.self.now c.trigger.new.self c.args.now c.see.new.self c.see.ensures c.in-Err.ensures.err;
      tied = tied_clock c.trigger.new.self c.args.self.now.clock c.in-Err.ensures.tied;
      none_ended = c.in-Err.ensures.noted ∙ c.requires.sound.none_ended;
    }
