-- Answers the goals of `Parts::expire`.
use Rattle.ckpt_core.proofs.{sym, ap, subst, ◌∙◌, IsSound, tick}
use Rattle.ckpt_ids.specs.declared.call.Call.TheVariants as call
use Rattle.ckpt_ids.specs.declared.reply.Answer.TheVariants as answer
use Rattle.ckpt_ids.specs.declared.reply.Reply.TheVariants as reply
use Rattle.ckpt_core.proofs.parts.Parts.expire.Goals as goal

pub fail_expired-requires-clause-sound : goal.fail_expired-requires-clause-sound
fail_expired-requires-clause-sound c = subst IsSound (sym c.note_expired-expiry.ensures.state) c.requires.sound.sound

pub returns-then-expiry-clause-ok : goal.returns-then-expiry-clause-ok
returns-then-expiry-clause-ok c = ap tick (sym c.note_expired-expiry.ensures.state) ∙ c.fail_expired.ensures.tick

pub start_and_drop-requires-clause-sound : goal.start_and_drop-requires-clause-sound
start_and_drop-requires-clause-sound c = subst IsSound (sym c.note_expired-expiry.ensures.state) c.requires.sound.sound

pub returns-clause-ok : goal.returns-clause-ok
returns-clause-ok c = rw c.note_expired-expiry.ensures.state at c.start_and_drop.ensures.ok

pub returns-clause-err : goal.returns-clause-err
returns-clause-err c = rw c.note_expired-expiry.ensures.state at c.start_and_drop.ensures.err

pub returns-clause-memory : goal.returns-clause-memory
returns-clause-memory c = rw c.note_expired-expiry.ensures.state at c.start_and_drop.ensures.memory
