-- After the drop the job begins again at the moment of the call.
use Rattle.ckpt_core.proofs.{None, Parts, AreTied, accepted_restore, accepted_restore_savepoint, rolled_back_in_order, restarted_clock, restored_answers, Names.state_of}
use Rattle.ckpt_ids.specs.declared.call.Call.TheVariants as call
use Rattle.ckpt_core.proofs.parts.Parts.restore.Goals as goal

pub roll_back-released-requires-clause-there : goal.roll_back-released-requires-clause-there
roll_back-released-requires-clause-there c = λ id e. accepted_restore_savepoint (state_of c.args.self.now) c.args.now id None (rw e at c.requires.accepted)

pub read-moment-requires : goal.read-moment-requires
read-moment-requires c = accepted_restore (state_of c.args.self.now) c.args.now c.args.target None c.requires.accepted

pub choice-requires : goal.choice-requires
choice-requires c = rolled_back_in_order c.args.self.now c.roll_back-released.new.self c.args.target c.requires.sound.sound c.roll_back-released.ensures.state

pub returns : goal.returns
unfolding state_of
returns c =
    let q : Parts = record c.roll_back-released.new.self { opened = record c.roll_back-released.new.self.opened { start_to = c.self-1.given.0; first_to = c.self-1.given.1.0 } } in
    let tied : AreTied c.roll_back-released.new.self = c.roll_back-released.ensures.tied in
    restored_answers c.args.self.now q c.args.now c.args.target c.restarted.new.self c.reset.new.self c.choice.result c.roll_back-released.result c.requires.accepted c.roll_back-released.ensures.state
    c.roll_back-released.ensures.count (record { uses_are = tied.uses_are; retained = tied.retained; tolerable = tied.tolerable; spare = tied.spare; room = tied.room })
    c.roll_back-released.ensures.cleared (restarted_clock c.args.now c.read-moment.result q c.see.new.self c.restarted.new.self c.read-moment.ensures.value c.see.ensures c.restarted.ensures)
    c.reset.ensures c.choice.ensures
