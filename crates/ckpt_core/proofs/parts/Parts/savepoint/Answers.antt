-- Answers the goals of `Parts::savepoint`.
use Rattle.ckpt_core.proofs.{◌∙◌, accepted_savepoint, moment_is_sound, clock_back, savepoint_answers, seen_state, tied_clock, Names.state_of}
use Rattle.ckpt_core.proofs.parts.Parts.savepoint.Goals as goal

pub see-requires : goal.see-requires
see-requires c = (accepted_savepoint (state_of c.args.self.now) c.args.now c.requires.accepted).0.moment

pub trigger-requires-clause-sound : goal.trigger-requires-clause-sound
unfolding state_of
trigger-requires-clause-sound c =
    let p = c.args.self.now in
    rw (seen_state p c.args.now c.see.new.self c.see.ensures) (moment_is_sound (state_of p) c.args.now c.requires.sound.sound (accepted_savepoint (state_of p) c.args.now c.requires.accepted).0.moment)

pub trigger-requires-clause-next : goal.trigger-requires-clause-next
unfolding state_of
trigger-requires-clause-next c = (accepted_savepoint (state_of c.args.self.now) c.args.now c.requires.accepted).0.room

pub returns-in-Ok-clause-ok : goal.returns-in-Ok-clause-ok
returns-in-Ok-clause-ok c =
    savepoint_answers c.args.self.now c.trigger.new.self c.args.now c.in-Ok.id c.see.new.self c.requires.accepted c.see.ensures c.in-Ok.ensures.ok c.in-Ok.ensures.id c.in-Ok.ensures.tied
    (c.in-Ok.ensures.noted ∙ c.requires.sound.none_ended)

pub returns-in-Err-clause-err : goal.returns-in-Err-clause-err
returns-in-Err-clause-err c =
    record {
      state_is = clock_back c.args.self.now c.trigger.new.self c.args.now c.see.new.self c.see.ensures c.in-Err.ensures.err;
      tied = tied_clock c.trigger.new.self c.args.self.now.clock c.in-Err.ensures.tied;
      none_ended = c.in-Err.ensures.noted ∙ c.requires.sound.none_ended;
    }
