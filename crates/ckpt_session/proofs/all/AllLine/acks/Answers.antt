-- Answers the goals of `AllLine::acks`.
use Rattle.ckpt_session.proofs.{◌≡◌, ℕ, ◌+◌, get_or, [], ◌∷◌, ◌++◌, refl, sym, ap, ◌∙◌, arith, Call, SubtaskId, ack_with, acks_for-none, acks_for-more}
use Rattle.ckpt_session.proofs.all.AllLine.acks.Goals as goal

pub loop-subtask-init : goal.loop-subtask-init
loop-subtask-init c = (refl, c.new-acks.ensures.items ∙ sym (acks_for-none c.args.self.now))

pub loop-subtask-preserved : goal.loop-subtask-preserved
loop-subtask-preserved c =
    let zero : SubtaskId = record { vertex = 0; index = 0 } in let line = c.args.self.now in
    let missing = c.args.missing.now in let i = c.loop-subtask.subtask-index in
    let at : c.loop-subtask.place ≡ i = c.loop-subtask.invariant.0 in
    let ack : ℕ → Call = λ place. ack_with line.moment line.id (record { subtask = get_or missing i zero; file = line.first + place }) in (
      omega arith,
      c.in_ok-push.ensures.items
          ∙ ap (λ (call : Call). c.loop-subtask.acks.items ++ call ∷ []) (c.in_ok-ack.ensures ∙ ap ack at)
          ∙ acks_for-more line missing i zero c.loop-subtask.acks.items (omega arith) c.loop-subtask.invariant.1,
    )
