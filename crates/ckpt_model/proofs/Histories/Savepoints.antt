-- A done savepoint stays, unchanged, until an accepted Dispose of its number.
use Rattle.ckpt_model.proofs.Names.{◌≡◌, ℕ, true, false, ◌&&◌, eqb, List, [], ◌∷◌, ⊎_elim, Some, both_ways, and_from, eq-eqb, none-some, Call, Ack, Dispose, Answer, Done, Refused, IsIn, Record, State}
use Rattle.ckpt_model.proofs.Names.{Opening, is_checkpoint, step, replay, IsSound, CanOpen, AreCalls, is_disposed_by, IsNeverDisposed, Savepoints, common_steps, arith}
use Rattle.ckpt_model.proofs.Histories.Moves.{savepoint_moved, disposed_by}
use Rattle.ckpt_model.proofs.Histories.Takings.{savepoint_kept}
use Rattle.ckpt_model.proofs.Stepping.Walk.{step_is}
use Rattle.ckpt_model.proofs.Soundness.Calls.{step_keeps}
use Rattle.ckpt_model.proofs.Soundness.Histories.{replay_is_sound}

-- a done savepoint
pub record IsDoneSavepoint (m : State) (r : Record) : Type 0 where
  pub there : IsIn r m.records
  pub done : r.done ≡ true
  pub savepoint : is_checkpoint r ≡ false

-- a Dispose that is no accepted one of this number does not dispose of it
disposes_other : (number id : ℕ) (answer : Answer) → (eqb id number && elim answer [ Done reply ↦ true | Refused why ↦ false ]) ≡ false → disposed_by (Dispose id) answer ≡ Some number → ⊥
disposes_other number id answer h3 h4 = grind (arith, common_steps, and_from, both_ways, eq-eqb, none-some)

-- through each call but an accepted Dispose of its number
savepoint_stays : (m : State) (call : Call) (r : Record) → IsSound m → IsDoneSavepoint m r → is_disposed_by r.id m call ≡ false → IsIn r (step m call).0.records
savepoint_stays m (Ack now id subtask fresh reused) r s d e =
    let done = ((step_is m (Ack now id subtask fresh reused)).records s) in
    ⊎_elim (λ i. rw i.records d.there) (λ i. savepoint_kept i.taken (i.acking).pending r d.there d.done d.savepoint) done
savepoint_stays m (Dispose id) r s d e = savepoint_moved ((step_is m (Dispose id)).records s) r d.there d.done d.savepoint (disposes_other r.id id (step m (Dispose id)).1 e)
savepoint_stays m call r s d e = savepoint_moved ((step_is m call).records s) r d.there d.done d.savepoint (none-some r.id)

-- through a list of such calls, from any sound state
pub savepoint_stays_along : (m : State) (calls : List Call) (r : Record) → IsSound m → AreCalls calls → IsDoneSavepoint m r → IsNeverDisposed r.id m calls → IsIn r (replay m calls).records
savepoint_stays_along m [] r s a d n = d.there
savepoint_stays_along m (call ∷ calls) r s a d n =
    savepoint_stays_along (step m call).0 calls r (step_keeps m call a.0 s) a.1 (record { there = savepoint_stays m call r s d n.0; done = d.done; savepoint = d.savepoint }) n.1

-- the law
pub savepoints_stay : (o : Opening) (before calls : List Call) → CanOpen o → AreCalls before → AreCalls calls → Savepoints o before calls
savepoints_stay o before calls c a b r there done savepoint n = grind (arith, common_steps, replay_is_sound, savepoint_stays_along)
