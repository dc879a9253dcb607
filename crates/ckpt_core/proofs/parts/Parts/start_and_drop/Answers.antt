-- Answers the goals of `Parts::start_and_drop`.
use Rattle.ckpt_core.proofs.Triggering.TickStates.{starts_in_order}
use Rattle.ckpt_core.proofs.{ap, ◌∙◌, is_noted, groups_of, done_not_dropped, expiry_goes, expiry_wants, started_tolerable, tied_failures, unknown_after, Names.state_of}
use Rattle.ckpt_core.proofs.parts.Parts.start_and_drop.Goals as goal

pub drop_noted-requires-clause-in_order : goal.drop_noted-requires-clause-in_order
unfolding state_of
drop_noted-requires-clause-in_order c = starts_in_order (state_of c.args.self.now) c.args.expiry.left (state_of c.start_or_hold.new.self) c.in-Ok.end c.requires.sound c.in-Ok.ensures.ok

pub drop_noted-requires-clause-unknown : goal.drop_noted-requires-clause-unknown
drop_noted-requires-clause-unknown c = unknown_after c.args.self.now c.start_or_hold.new.self c.args.expiry.left c.in-Ok.end c.requires.sound c.in-Ok.ensures.tied c.in-Ok.ensures.ok

pub drop_noted-requires-clause-pending_only : goal.drop_noted-requires-clause-pending_only
drop_noted-requires-clause-pending_only c =
    λ r h. let groups = groups_of c.start_or_hold.new.self c.recall_groups.ensures.pending c.recall_groups.ensures.stored in ap (λ ids. is_noted ids r) c.in-Ok.ensures.noted
    ∙ done_not_dropped c.args.self.now c.start_or_hold.new.self c.args.self.now.ended.items c.args.expiry.left c.in-Ok.end c.requires.expired.noted groups c.in-Ok.ensures.ok r h

pub returns-in-Ok-clause-ok : goal.returns-in-Ok-clause-ok
returns-in-Ok-clause-ok c =
    expiry_goes c.args.self.now c.start_or_hold.new.self c.drop_noted.new.self c.args.expiry c.in-Ok.end c.requires.sound c.requires.expired c.requires.tolerable c.in-Ok.ensures.ok
    c.in-Ok.ensures.noted c.drop_noted.ensures.state_is

pub returns-in-Ok-clause-tied : goal.returns-in-Ok-clause-tied
returns-in-Ok-clause-tied c =
    tied_failures c.drop_noted.new.self c.args.expiry.failures (started_tolerable c.args.self.now c.start_or_hold.new.self c.drop_noted.new.self c.args.expiry c.in-Ok.end c.requires.tied
    c.requires.expired c.in-Ok.ensures.ok c.drop_noted.ensures.state_is) c.drop_noted.ensures.tied

pub returns-in-Err-clause-err : goal.returns-in-Err-clause-err
unfolding state_of
returns-in-Err-clause-err c = c.in-Err.ensures.err

pub returns-in-Err-clause-memory : goal.returns-in-Err-clause-memory
returns-in-Err-clause-memory c = expiry_wants c.args.self.now c.args.expiry c.requires.expired c.requires.tolerable c.in-Err.ensures.memory
