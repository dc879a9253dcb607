-- Answers the goals of `Store::complete`.
use Rattle.ckpt_store.proofs.{AreRising-drop, IsAbove, IsIn-from_drop, IsStored, IsStored-complete, IsStored-spare, None, Stored, ap, arith, drop, length, length-drop_one, subst, sym, ◌∙◌, ◌≡◌}
use Rattle.ckpt_store.proofs.store.Store.complete.Goals as goal
use Rattle.ckpt_store.proofs.store.Store.complete.Goals.{then-len-self, else-len-self}

pub invariant_of-self : goal.invariant_of-self
invariant_of-self c =
    let i = c.self.inside in
    let s : Stored = record { retained = i.retained; checkpoints = i.checkpoints.items; savepoints = i.savepoints.items; base = i.base; spare = 0 } in
    let stored : IsStored s = IsStored-spare _ 0 c.self.invariant in
    let above : IsAbove s.checkpoints c.args.done.id = subst (λ (q : Stored). IsAbove q.checkpoints c.args.done.id) (sym (c.self.view_is ∙ c.clear_base.ensures)) c.requires.above in
    let len : c.len.result ≡ length i.checkpoints.items = c.len.ensures ∙ i.checkpoints.ok.0 in
    let cleared : i.base ≡ None = ap (λ q. q.base) (c.self.view_is ∙ c.clear_base.ensures) in
    elim c.if-len-self.branch [
      | then-len-self w ↦
          rw (c.push_back_reserved.ensures.items, w.self-inside-is, cleared)
          (IsStored-complete s s.checkpoints c.args.done _ stored stored.checkpoints_rise (λ r h. h) (omega (arith, w.if-len-self.true)) c.id.ensures.done c.requires.checkpoint above)
      | else-len-self w ↦
          rw (c.push_back_reserved.ensures.items, w.self-inside-is, w.pop_front-dropped.ensures.rest, cleared)
          (IsStored-complete s (drop 1 s.checkpoints) c.args.done _ stored (AreRising-drop s.checkpoints stored.checkpoints_rise) (λ r h. IsIn-from_drop r s.checkpoints h)
          (omega (arith, c.self.invariant.few, c.self.invariant.retained_from, length-drop_one i.checkpoints.items)) c.id.ensures.done c.requires.checkpoint above)
    ]
