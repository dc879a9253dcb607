-- Answers the goals of `Parts::configure`.
use Rattle.ckpt_core.proofs.{state_of, accepted_configure, configured_parts}
use Rattle.ckpt_core.proofs.parts.Parts.configure.Goals as goal

pub read-moment-requires : goal.read-moment-requires
read-moment-requires c = (accepted_configure (state_of c.args.self.now) c.args.now c.args.config.now c.requires.accepted).0

pub returns : goal.returns
unfolding state_of
returns c =
    let d = c.drop_past-dropped in
    let a = configured_parts c.args.self.now d.new.self c.args.now d.result.0 d.result.1 c.retain.new.self.spare c.read-moment.result c.retained-retained.result c.tolerable.result c.args.config.now
    c.see.new.self c.configured.new.self c.tolerate.new.self c.retain.new.self c.requires.accepted d.ensures.drops d.ensures.dropped c.retained-retained.ensures.value c.tolerable.ensures.value
    c.read-moment.ensures.value c.see.ensures c.configured.ensures c.tolerate.ensures c.retain.ensures.value in
    record {
      step_is = a.step_is;
      tied = record { uses_are = a.tied.uses_are; retained = a.tied.retained; tolerable = a.tied.tolerable; spare = a.tied.spare; room = a.tied.room };
      none_ended = a.none_ended;
    }
