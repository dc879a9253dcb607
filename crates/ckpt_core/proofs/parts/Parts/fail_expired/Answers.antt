-- Answers the goals of `Parts::fail_expired`.
use Rattle.ckpt_core.{proofs.noted_tied, proofs.expiry_fails, proofs.failed_tolerable, proofs.tied_failures, specs.Inside.Parts.state_of}
use Rattle.ckpt_core.proofs.parts.Parts.fail_expired.Goals as goal

pub fail_over-requires : goal.fail_over-requires
unfolding state_of
fail_over-requires c = record { tied = noted_tied c.args.self.now c.clear.new.self c.requires.tied c.clear.ensures.capacity; sound = c.requires.sound; none_ended = c.clear.ensures.items }

pub returns-clause-tick : goal.returns-clause-tick
returns-clause-tick c = expiry_fails c.args.self.now c.fail_over.new.self c.clear.new.self c.args.expiry c.requires.expired c.requires.intolerable c.fail_over.ensures.state

pub returns-clause-tied : goal.returns-clause-tied
returns-clause-tied c =
    tied_failures c.fail_over.new.self c.args.expiry.failures (failed_tolerable c.args.self.now c.fail_over.new.self c.clear.new.self c.args.expiry c.requires.tied c.requires.expired
    c.fail_over.ensures.state) c.fail_over.ensures.tied
