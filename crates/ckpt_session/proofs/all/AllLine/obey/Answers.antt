-- Answers the goals of `AllLine::obey`.
use Rattle.ckpt_session.proofs.{Result, Ok, Err, IfOk, all_after}
use Rattle.ckpt_session.proofs.all.AllLine.obey.Goals as goal

if_ok_weaker : {T E : Type 0} (P Q : T → Type 0) (r : Result T E) → ((x : T) → P x → Q x) → IfOk r P → IfOk r Q
if_ok_weaker P Q (Ok x) f p = f x p
if_ok_weaker P Q (Err e) f p = tt

-- it asked for the record before
pub returns-in-Some-clause-entered : goal.returns-in-Some-clause-entered
returns-in-Some-clause-entered g c =
    let line = c.args.self.now in
    if_ok_weaker _ _ c.acknowledge.result
    (λ said all. all_after c.args.book.entries c.pending_metadata.new.book.entries said.0.entries line.id line.threads c.in_ok-metadata.ensures.entered all) c.acknowledge.ensures.entered
