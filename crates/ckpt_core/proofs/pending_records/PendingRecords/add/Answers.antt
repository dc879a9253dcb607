-- Answers the goals of `PendingRecords::add`.
use Rattle.ckpt_core.proofs.{◌≡◌, ◌∙◌, ◌<◌, Bool, cond, List, ℕ, ap, subst, sym, IsIn, Record, is_checkpoint, from_bool-cond, AreKept-added}
use Rattle.ckpt_core.proofs.pending_records.PendingRecords.add.Goals as goal

pub invariant_of-self-2 : goal.invariant_of-self-2
invariant_of-self-2 c = let Newest : List Record → Type 0 = λ rs. (r : Record) → IsIn r rs → r.id < c.args.pending.id in
    let newest : Newest c.self.inside.records.items = subst Newest (sym c.self.view_is) c.requires.newest in let one : Bool → ℕ = λ b. cond b 1 0 in
    let more : c.from-added.result ≡ cond (is_checkpoint c.args.pending) 1 0 = c.from-added.ensures ∙ (from_bool-cond c.is_checkpoint.result ∙ ap one c.is_checkpoint.ensures) in
    rw (c.in_ok-push_back.ensures.items, more) (AreKept-added c.args.pending c.self.inside.records.items c.self.inside.checkpoints c.self.invariant c.recall_pending.ensures newest)
