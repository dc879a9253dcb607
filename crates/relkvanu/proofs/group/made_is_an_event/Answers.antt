-- Answers the goals of `made_is_an_event`.
use Rattle.relkvanu.proofs.AsEvents.{asked_is}
use Rattle.relkvanu.proofs.group.made_is_an_event.Goals as goal

pub returns : goal.returns
returns c = asked_is
